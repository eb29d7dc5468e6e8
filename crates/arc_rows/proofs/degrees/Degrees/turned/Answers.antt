use Rattle.std.proofs.Common.{subst}
use Rattle.std.specs.Prelude.{IfSome}
use Rattle.arc_rows.specs.Counts.{AreCounted}
use Rattle.arc_rows.proofs.Leaving.{counted-if}
use Rattle.arc_rows.proofs.degrees.Degrees.turned.Goals as goal

pub returns-in_ok-after-in-Some : goal.returns-in_ok-after-in-Some
returns-in_ok-after-in-Some c =
    let graph = c.args.views.now.graph.now in
    let all = c.args.views.now.rows.now.by_head in
    let known : AreCounted graph all c.args.views.now.old.now c.in-Some.before.items = subst (λ o. IfSome o (λ d. AreCounted graph all c.args.views.now.old.now d.items)) c.in-Some.is c.requires.known in
    record {
      before = counted-if c.args.asked graph all c.args.views.now.old.now c.in-Some.before.items c.requires.views.rows.few known;
      after = counted-if c.args.asked graph all c.args.views.now.new.now c.in_ok-after-in-Some.after.items c.requires.views.rows.few c.in_ok-after-in-Some.ensures;
    }
