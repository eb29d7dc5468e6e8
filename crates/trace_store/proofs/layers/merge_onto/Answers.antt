-- One more layer, from the newest to the oldest.
use Rattle.std.proofs.Common.{◌≡◌, ◌∙◌, ◌+◌, ◌-◌, ◌<◌, ◌≤◌, [], ◌++◌, length, drop, ap, sym, arith, append_assoc, length-append}
use Rattle.std.proofs.lemmas.List.{drop_all}
use Rattle.weighted.specs.Alike.{Alike, Alike-append, Alike-is, Alike-refl, Alike-trans}
use Rattle.weighted.specs.Batches.{joined}
use Rattle.weighted.specs.Normal.{normal-Alike}
use Rattle.trace_store.proofs.Joined.{joined-drop}
use Rattle.trace_store.proofs.Lengths.{length-normal}
use Rattle.trace_store.proofs.layers.merge_onto.Goals as goal

pub loop-left-init : goal.loop-left-init
loop-left-init g c =
    let none : drop (length c.args.layers.now) c.args.layers.now ≡ [] = drop_all (length c.args.layers.now) c.args.layers.now (omega arith) in
    record {
      bound = omega arith;
      alike = Alike-is (ap (λ v. joined v ++ c.args.newest) (sym none));
      short = omega (arith, ap (λ v. length (joined v)) none);
    }

pub loop-left-preserved : goal.loop-left-preserved
loop-left-preserved g c =
    let ls = c.args.layers.now in let k = c.loop-left.left - 1 in let l = c.index-layers-left.result in
    let low : k < length ls = omega arith in
    let next : k + 1 ≡ c.loop-left.left = omega arith in
    let more : joined (drop k ls) ≡ l ++ joined (drop c.loop-left.left ls) = joined-drop ls k l low c.index-layers-left.is ∙ ap (λ n. l ++ joined (drop n ls)) next in
    record {
      bound = omega arith;
      alike = Alike-trans (Alike-is c.in_ok-merged.ensures.value) (Alike-trans (normal-Alike g.R.Ord.cmp g.met.R.Ord.total g.met.R.Record.same (l ++ c.loop-left.merged)) (Alike-trans (Alike-append (Alike-refl l) c.loop-left.invariant.alike) (Alike-is (sym (append_assoc l (joined (drop c.loop-left.left ls)) c.args.newest) ∙ ap (λ v. v ++ c.args.newest) (sym more)))));
      short = omega (arith, ap length c.in_ok-merged.ensures.value, length-normal g.R.Ord.cmp (l ++ c.loop-left.merged), length-append l c.loop-left.merged, c.loop-left.invariant.short, ap length more, length-append l (joined (drop c.loop-left.left ls)));
    }
