use Rattle.std.proofs.Common.{◌≡◌, ◌∷◌, [], ℕ, Bool, List, length, get_or, ap, sym, subst, false, arith, inl, inr}
use Rattle.std.proofs.lemmas.Bool.{cases_lt}
use Rattle.std.proofs.lemmas.List.{get_or_append_left, get_or_push, length_push}
use Rattle.round_kernel.specs.Flags.{IsFlagged}
use Rattle.round_kernel.specs.Frames.{was_touched_at}
use Rattle.round_kernel.proofs.Flagging.{none-apart}
use Rattle.round_kernel.proofs.suspects.apart_at_start.Goals as goal

pub returns-then-not-frame-clause-flags : goal.returns-then-not-frame-clause-flags
returns-then-not-frame-clause-flags g c = λ first u low.
    none-apart g.U.Updater.answer c.args.frame (was_touched_at g.U.Updater.answer c.args.frame 0) c.args.lists.now c.requires.frame c.requires.at c.if-not-frame.true first u (get_or c.in_ok-none.none.items u false)

pub loop-node-preserved : goal.loop-node-preserved
loop-node-preserved g c =
    let f = c.args.frame in
    let lists = c.args.lists.now in
    let flags = c.loop-node.flags.items in
    let flag = c.is_apart.result in
    let inv = c.loop-node.invariant in
    let is = c.in_ok-push.ensures.items in
    record {
      size = omega (arith, ap (λ (bs : List Bool). length bs) is, length_push flags flag, inv.size);
      flags = λ u low. subst (λ (bs : List Bool). IsFlagged f lists u (get_or bs u false)) (sym is) (elim (cases_lt u (length flags)) [
        | inl earlier ↦ subst (IsFlagged f lists u) (sym (get_or_append_left flags (flag ∷ []) false u earlier)) (inv.flags u (omega (arith, earlier, inv.size)))
        | inr late ↦
            let last : u ≡ length flags = omega (arith, late, low, inv.size) in
            subst (IsFlagged f lists u) (sym (get_or_push flags flag false u (sym last))) (subst (λ (v : ℕ). IsFlagged f lists v flag) (omega (arith, last, inv.size)) c.is_apart.ensures)
      ]);
    }
