-- What is kept in front, what is held and what is left add up to the same at each step.
use Rattle.std.proofs.Common.{◌≡◌, ◌∙◌, ◌<◌, true, false, length, ap, sym, arith}
use Rattle.std.specs.Ordering.{is_eq}
use Rattle.std.proofs.lemmas.Bool.Decides.{nat_tests}
use Rattle.weighted.proofs.Condensed.{condensed_start, condensed_same, condensed_other}
use Rattle.weighted.proofs.consolidate.consolidate.Goals as goal
use Rattle.weighted.proofs.consolidate.consolidate.Goals.{then-is_eq, else-is_eq}

pub loop-i-init : goal.loop-i-init
loop-i-init g c =
    let some : 0 < length c.args.entries.now = grind (arith, nat_tests) in
    record { behind = omega arith; sums = condensed_start g.R.Ord.cmp g.met.R.Ord.total g.met.R.Record.same c.args.entries.now c.index-entries-0.result some c.index-entries-0.is c.requires.sorted }

pub loop-i-preserved : goal.loop-i-preserved
loop-i-preserved g c =
    let low : c.loop-i.i < length c.loop-i.entries = omega arith in
    elim c.if-is_eq.branch [
      | then-is_eq w ↦
          let tie : is_eq (g.R.Ord.cmp c.index-entries-i.result.0 c.loop-i.held.0) ≡ true = ap is_eq (sym c.cmp.ensures) ∙ sym c.is_eq.ensures ∙ w.if-is_eq.true in
          let sums = condensed_same g.R.Ord.cmp g.met.R.Ord.total g.met.R.Record.same c.loop-i.entries c.loop-i.i c.loop-i.kept c.loop-i.held c.index-entries-i.result _ low c.index-entries-i.is tie c.loop-i.invariant.sums in
          record { behind = omega arith; sums = rw (w.entries-is, w.kept-is, w.held-is, w.add-held.ensures) sums }
      | else-is_eq w ↦
          let apart : is_eq (g.R.Ord.cmp c.index-entries-i.result.0 c.loop-i.held.0) ≡ false = ap is_eq (sym c.cmp.ensures) ∙ sym c.is_eq.ensures ∙ w.if-is_eq.false in
          let sums = condensed_other g.R.Ord.cmp g.met.R.Ord.total g.met.R.Record.same c.loop-i.entries w.keep-kept.new.entries c.loop-i.i c.loop-i.kept w.keep-kept.result c.loop-i.held c.index-entries-i.result _ low c.loop-i.invariant.behind c.index-entries-i.is apart w.keep-kept.ensures.front w.keep-kept.ensures.back c.loop-i.invariant.sums in
          record { behind = omega (arith, w.keep-kept.ensures.bound); sums = rw (w.entries-is, w.kept-is, w.held-is) sums }
    ]
