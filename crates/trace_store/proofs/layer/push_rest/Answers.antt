-- One more entry of those from the place on.
use Rattle.std.proofs.Common.{◌∙◌, ◌∷◌, ◌++◌, [], ap, sym, arith, append_assoc}
use Rattle.trace_store.proofs.Places.{between}
use Rattle.trace_store.proofs.layer.push_rest.Goals as goal

pub loop-i-preserved : goal.loop-i-preserved
loop-i-preserved g c =
    let more = between c.args.layer.now c.args.from c.loop-i.i c.get.result (omega arith) c.get.ensures in
    record {
      items = c.push.ensures.items ∙ ap (λ v. v ++ c.get.result ∷ []) c.loop-i.invariant.items ∙ append_assoc c.args.entries.now.items _ _ ∙ ap (λ v. c.args.entries.now.items ++ v) (sym more);
      spare = omega arith;
    }
