use Rattle.std.proofs.Common.{◌≡◌, ◌∙◌, ℕ, List, length, get_or, ap, arith}
use Rattle.std.proofs.lemmas.List.{length-replicate, get_or-replicate}
use Rattle.arc_rows.specs.ListLaws.{clash}
use Rattle.arc_rows.proofs.degrees.degrees_if.Goals as goal

pub returns-then-by_degree-clause-degrees : goal.returns-then-by_degree-clause-degrees
returns-then-by_degree-clause-degrees c = λ e. c.in_ok-degrees.ensures.degrees

pub returns-clause-size : goal.returns-clause-size
returns-clause-size c = ap (λ (ds : List ℕ). length ds) (c.in_ok-none.ensures.items_if_clones_equal (λ y e. e)) ∙ length-replicate c.args.count 0

pub returns-clause-degrees : goal.returns-clause-degrees
returns-clause-degrees c = λ e. absurd (clash c.args.by_degree c.if-by_degree.false e)

pub returns-clause-small : goal.returns-clause-small
returns-clause-small c = λ u low.
    let zero : get_or c.in_ok-none.none.items u 0 ≡ 0 = ap (λ (ds : List ℕ). get_or ds u 0) (c.in_ok-none.ensures.items_if_clones_equal (λ y e. e)) ∙ get_or-replicate c.args.count u 0 0 low in
    omega (arith, zero)
