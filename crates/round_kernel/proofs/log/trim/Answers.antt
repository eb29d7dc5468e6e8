use Rattle.std.proofs.Common.{◌≡◌, ◌∙◌, ◌-◌, [], List, length, get_or, take, sym, ap, inl, inr, arith}
use Rattle.std.proofs.lemmas.Bool.{cases_lt}
use Rattle.std.proofs.lemmas.List.{get_or-take, length-take}
use Rattle.std.proofs.Math.ListN.{get_or-eq_default}
use Rattle.change_lists.specs.declared.history.Change.{Change}
use Rattle.round_kernel.proofs.log.trim.Goals as goal

pub loop-count-init : goal.loop-count-init
loop-count-init c = record { within = omega arith; empty = λ k low. get_or-eq_default c.args.changes.now [] (omega (arith, low, c.len-count.ensures)) }

pub loop-count-preserved : goal.loop-count-preserved
loop-count-preserved c = record {
  within = omega (arith, c.loop-count.invariant.within);
  empty = λ k low. elim (cases_lt k c.loop-count.count) [
    | inl less ↦ let same : c.loop-count.count - 1 ≡ k = omega (arith, less, low) in ap (λ i. get_or c.args.changes.now i []) (sym same) ∙ c.is_still.ensures.still c.loop-count-test.true
    | inr most ↦ c.loop-count.invariant.empty k most
  ];
}

pub returns : goal.returns
returns c =
    let n = c.loop-count.count in
    let old = c.args.changes.now in
    let new = c.truncate.new.self in
    let cut : new ≡ take n old = c.truncate.ensures in
    let size : length new ≡ n = ap (λ (xs : List (List Change)). length xs) cut ∙ omega (arith, length-take n old, c.loop-count.invariant.within) in
    record {
      places = λ k. elim (cases_lt k n) [
        | inl less ↦ ap (λ (xs : List (List Change)). get_or xs k []) cut ∙ get_or-take n old k [] less
        | inr most ↦ get_or-eq_default new [] (omega (arith, most, size)) ∙ sym (c.loop-count.invariant.empty k most)
      ];
      few = omega (arith, size, c.loop-count.invariant.within);
      last = λ some e.
          let same : length new - 1 ≡ n - 1 = omega (arith, size) in
          c.is_still.ensures.moves c.loop-count-test.false (omega (arith, some, size)) (sym (get_or-take n old (n - 1) [] (omega (arith, some, size))) ∙ sym (ap (λ (xs : List (List Change)). get_or xs (n - 1) []) cut) ∙ ap (λ i. get_or new i []) (sym same) ∙ e);
    }
