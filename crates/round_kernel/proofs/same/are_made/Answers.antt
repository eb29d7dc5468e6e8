use Rattle.std.proofs.Common.{◌≡◌, List, false, true, get_or, subst, arith}
use Rattle.std.specs.Prelude.{All, Contains}
use Rattle.std.proofs.lemmas.List.{take_all}
use Rattle.std.proofs.lemmas.List.Elements.{All-more}
use Rattle.graph_model.specs.declared.value.Val.TheVariants.{Nil}
use Rattle.change_lists.specs.declared.history.Change.{Change}
use Rattle.arc_rows.specs.ListLaws.{clash}
use Rattle.round_kernel.proofs.same.are_made.Goals as goal
use Rattle.round_kernel.proofs.same.are_made.Goals.{else-touched-change-via-then-touched-change+else-not-has_change, else-touched-change-via-else-touched-change}

abbrev no_change : Change
no_change = record { node = record { 0 = 0 }; value = Nil }

pub loop-change-preserved : goal.loop-change-preserved
loop-change-preserved c = All-more (λ (x : Change). get_or c.args.touched.now x.node.0 false ≡ true → Contains c.args.found.now x) c.args.listed.now c.loop-change.change-index no_change c.loop-change-test.true c.loop-change.invariant
    (λ on. elim c.else-touched-change.branch [
      | else-touched-change-via-then-touched-change+else-not-has_change w ↦ w.has_change.ensures w.if-not-has_change.false
      | else-touched-change-via-else-touched-change w ↦ absurd (clash _ w.if-touched-change.false on)
    ])

pub returns : goal.returns
returns c = λ yes. subst (λ (cs : List Change). All (λ x. get_or c.args.touched.now x.node.0 false ≡ true → Contains c.args.found.now x) cs) (take_all c.loop-change.change-index c.args.listed.now (omega (arith, c.loop-change-test.false))) c.loop-change.invariant
