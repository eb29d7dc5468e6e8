-- One more entry.
use Rattle.std.proofs.Common.{◌∙◌, ◌∷◌, ◌++◌, [], ap, sym, arith, append_assoc}
use Rattle.trace_store.proofs.Places.{between}
use Rattle.trace_store.proofs.lookup.push_run.Goals as goal

pub loop-i-preserved : goal.loop-i-preserved
loop-i-preserved g c =
    let more = between c.args.layer.now c.args.run.0 c.loop-i.i c.get.result (omega arith) c.get.ensures in
    c.in_ok-push.ensures.ok ∙ ap (λ v. v ++ c.get.result ∷ []) c.loop-i.invariant ∙ append_assoc c.args.entries.now _ _ ∙ ap (λ v. c.args.entries.now ++ v) (sym more)
