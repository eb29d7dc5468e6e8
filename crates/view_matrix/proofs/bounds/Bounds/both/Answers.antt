-- Each bound is one of the two.
use Rattle.std.proofs.Common.{◌≡◌, ◌∙◌, ap₂, refl, true, to_z, of_z, w64, rules}
use Rattle.std.specs.Int.{int_max, int_min}
use Rattle.std.proofs.Math.Facts.{to_z-of_z}
use mir.Val.{SFits}
use Rattle.view_matrix.proofs.BoundLaws.{both_meet}
use Rattle.view_matrix.proofs.bounds.Bounds.both.Goals as goal

pub returns-then-other-clause-means : goal.returns-then-other-clause-means
returns-then-other-clause-means c =
    let self = c.args.self in
    let other = c.args.other in
    let self_low : SFits w64 self.low = search rules in
    let self_high : SFits w64 self.high = search rules in
    let other_low : SFits w64 other.low = search rules in
    let other_high : SFits w64 other.high = search rules in
    let max_fits : SFits w64 c.max.result = search rules in
    let min_fits : SFits w64 c.min.result = search rules in
    let low : to_z w64 (of_z w64 c.max.result) ≡ int_max self.low other.low = to_z-of_z max_fits ∙ c.max.ensures.value ∙ ap₂ int_max (to_z-of_z self_low) (to_z-of_z other_low) in
    let high : to_z w64 (of_z w64 c.min.result) ≡ int_min self.high other.high = to_z-of_z min_fits ∙ c.min.ensures.value ∙ ap₂ int_min (to_z-of_z self_high) (to_z-of_z other_high) in
    both_meet (record { column = self.column; low = to_z w64 (of_z w64 c.max.result); high = to_z w64 (of_z w64 c.min.result); inside = true }) self other low high refl c.if-self.true c.if-other.true
