use Rattle.std.proofs.Common.{◌∙◌, true, ℤ, SFits, w64, of_z, ap, sym, rules}
use Rattle.std.proofs.lemmas.Int.{to_z-of_z}
use Rattle.graph_model.specs.declared.value.Val.{Val}
use Rattle.graph_model.specs.declared.value.Val.TheVariants.{Num}
use Rattle.vertex_lang.specs.Values.{added, divided, multiplied}
use Rattle.quick_updates.proofs.Updates.{damped_is}
use Rattle.quick_updates.proofs.values.damped.Goals as goal

pub returns-in-Num : goal.returns-in-Num
returns-in-Num c =
    let number = c.in-Num.number in
    let d = c.args.damping in
    let fits_number : SFits w64 number = search rules in
    let fits_base : SFits w64 d.base = search rules in
    let fits_factor : SFits w64 d.factor = search rules in
    let fits_divisor : SFits w64 d.divisor = search rules in
    let fits_product : SFits w64 c.product_of.result = record { sfits = c.product_of.type_inv } in
    let fits_share : SFits w64 c.quotient_of-share.result = record { sfits = c.quotient_of-share.type_inv } in
    let fits_sum : SFits w64 c.sum_of.result = record { sfits = c.sum_of.type_inv } in
    ap (λ (z : ℤ). Num z) (to_z-of_z w64 c.sum_of.result fits_sum)
    ∙ damped_is number d.base d.factor d.divisor c.product_of.result c.quotient_of-share.result c.sum_of.result
    (λ is_zero. c.if-damping-ne0.true (ap (λ (z : ℤ). of_z w64 z) is_zero))
    (simp to_z-of_z at c.product_of.ensures)
    (simp to_z-of_z at c.quotient_of-share.ensures)
    (simp to_z-of_z at c.sum_of.ensures)
    ∙ ap (λ (v : Val). added true (Num d.base) (divided (multiplied v (Num d.factor)) (Num d.divisor))) (sym c.in-Num.is)
