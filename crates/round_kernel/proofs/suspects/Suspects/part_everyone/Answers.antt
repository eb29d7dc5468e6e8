use Rattle.std.proofs.Common.{◌∙◌, ℕ, false, get_or, sym, subst, arith, inl, inr}
use Rattle.arc_rows.specs.ListLaws.{clash}
use Rattle.std.proofs.lemmas.Bool.{cases_eq}
use Rattle.round_kernel.specs.Flags.{IsFlagged}
use Rattle.round_kernel.proofs.suspects.Suspects.part_everyone.Goals as goal

pub loop-node-preserved : goal.loop-node-preserved
loop-node-preserved c =
    let f = c.args.frame in
    let lists = c.args.lists.now in
    let inv = c.loop-node.invariant in
    let made = c.flag_anew.ensures in
    record {
      size = made.size ∙ inv.size;
      flags = λ u low. elim (cases_eq u c.loop-node.node) [
        | inl same ↦ subst (λ (v : ℕ). IsFlagged f lists v (get_or c.flag_anew.new.self.apart.items v false)) (sym same) made.right
        | inr other ↦ subst (IsFlagged f lists u) (sym (made.others u other)) (inv.flags u (omega (arith, low, other)))
      ];
      moved = made.moved ∙ inv.moved;
      turned = made.turned ∙ inv.turned;
    }

pub returns-then-are_nearly_all-clause-apart : goal.returns-then-are_nearly_all-clause-apart
returns-then-are_nearly_all-clause-apart c = λ u low unset.
    absurd (clash (get_or c.suspect_everyone.new.self.apart.items u false) unset (c.suspect_everyone.ensures.all u (omega (arith, low, c.requires.apart))))
