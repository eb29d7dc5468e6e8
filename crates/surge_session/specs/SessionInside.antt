-- What holds inside a session.
use Rattle.std.specs.Prelude.{◌≡◌, ◌≤◌, false, length}
use Rattle.vertex_lang.specs.Expressions.{Answer}
use Rattle.gvdl_check.specs.Fits.{PlanFits}
use Rattle.surge_session.specs.declared.session.Session.TheInside.{Inside}
use Rattle.surge_session.specs.Sessions.{SessionData}
use Rattle.surge_session.specs.State.{IsAt}

abbrev pub data_of : {U : Type 0} → Inside U → SessionData
data_of s = record { graph = s.graph.now; plan = s.plan.now; form = s.form; executed = s.executed; spent = s.spent }

pub record IsSession {U : Type 0} (answer : Answer) (s : Inside U) : Type 0 where
  pub fits : PlanFits s.graph.now s.plan.now
  pub within : s.executed ≤ length s.plan.now.steps
  pub at : s.spent ≡ false → IsAt answer s.graph.now s.plan.now s.executed s.state.live.items s.state.made.items s.state.kept.items
