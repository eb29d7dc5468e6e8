-- What a session stands at.
use Rattle.std.specs.Prelude.{ℕ, suc, Bool, true, false}
use Rattle.graph_model.specs.GraphData.{GraphData}
use Rattle.gvdl_check.specs.declared.plan.Plan.{Plan}
use Rattle.result_tables.specs.declared.form.Form.{Form}

-- a session over a graph and a plan: the form of its tables, how many statements were executed, and whether it is spent
pub record SessionData : Type 0 where
  pub graph : GraphData
  pub plan : Plan
  pub form : Form
  pub executed : ℕ
  pub spent : Bool

abbrev pub new_session : GraphData → Plan → Form → SessionData
new_session g p form = record { graph = g; plan = p; form = form; executed = 0; spent = false }

-- after one more statement
abbrev pub after_one : SessionData → SessionData
after_one s = record { graph = s.graph; plan = s.plan; form = s.form; executed = suc s.executed; spent = false }

-- after a fault
abbrev pub spent_one : SessionData → SessionData
spent_one s = record { graph = s.graph; plan = s.plan; form = s.form; executed = s.executed; spent = true }
