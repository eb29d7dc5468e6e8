use Rattle.std.proofs.Common.{◌≡◌, ◌∙◌, ◌+ℤ◌, ◌-ℤ◌, ℤ, Bool, pos, w32, w64, SFits, to_z, of_z, ap, sym, rules, arith, if◌then◌else◌, inl, inr}
use Rattle.std.specs.Int.{int_min, int_max}
use Rattle.std.specs.Ordering.{int_eq}
use Rattle.std.proofs.lemmas.Bool.{cases_Bool, false≢true}
use Rattle.std.proofs.lemmas.Bool.Decides.{Decides-int_eq}
use Rattle.std.proofs.lemmas.Int.{ints, to_z-of_z}
use Rattle.value_codes.specs.ShortCodes.{lowest_short}
use Rattle.value_codes.specs.ShortSpans.{greatest_short}
use Rattle.value_codes.proofs.ShortSpanning.{greatest-stays, least-stays, short-more, short-still}
use Rattle.value_codes.proofs.short_span.ShortSpan.with.Goals as goal

pub returns : goal.returns
returns c = λ numbers ms h.
    let self = c.args.self in
    let z = c.args.number in
    let fits : SFits w32 z = search rules in
    let least_fits : SFits w32 self.least = search rules in
    let greatest_fits : SFits w32 self.greatest = search rules in
    let total_fits : SFits w64 self.total = search rules in
    let below_fits : SFits w32 c.below.result = search rules in
    let min_fits : SFits w32 c.min.result = search rules in
    let max_fits : SFits w32 c.max.result = search rules in
    let from_fits : SFits w64 c.from.result = search rules in
    let number = to_z-of_z w32 z fits in
    let told = ap (λ (x : ℤ). int_eq x lowest_short) number in
    let least_is = to_z-of_z w32 c.min.result min_fits ∙ c.min.ensures.value ∙ ap (λ (x : ℤ). int_min x (to_z w32 (of_z w32 c.below.result))) (to_z-of_z w32 self.least least_fits)
    ∙ ap (λ (x : ℤ). int_min self.least x) (to_z-of_z w32 c.below.result below_fits) in
    let greatest_is = to_z-of_z w32 c.max.result max_fits ∙ c.max.ensures.value ∙ ap (λ (x : ℤ). int_max x (to_z w32 (of_z w32 z))) (to_z-of_z w32 self.greatest greatest_fits)
    ∙ ap (λ (x : ℤ). int_max self.greatest x) number in
    let total_is : to_z w64 (of_z w64 (to_z w64 (of_z w64 self.total) +ℤ to_z w64 (of_z w64 c.from.result))) ≡ self.total +ℤ z = omega (arith, ints, c.from.ensures, number, fits.sfits, c.requires.low, c.requires.high) in
    elim (cases_Bool (int_eq z lowest_short)) [
      | inl t ↦
          let none : z ≡ lowest_short = (Decides-int_eq z lowest_short).0 t in
          let low : c.below.result ≡ greatest_short = c.below.ensures ∙ ap (λ (b : Bool). if b then greatest_short else to_z w32 (of_z w32 z) -ℤ pos 1) (told ∙ t) in
          let count : c.nones_in.result ≡ 1 = c.nones_in.ensures ∙ ap (λ (b : Bool). if b then 1 else 0) (told ∙ t) in
          short-still self _ numbers ms z none
          (least_is ∙ ap (λ (x : ℤ). int_min self.least x) low ∙ least-stays self.least least_fits)
          (greatest_is ∙ ap (λ (x : ℤ). int_max self.greatest x) none ∙ greatest-stays self.greatest greatest_fits)
          total_is (omega (arith, count)) h
      | inr f ↦
          let some : z ≡ lowest_short → ⊥ = λ e. false≢true (sym f ∙ (Decides-int_eq z lowest_short).1 e) in
          let low : c.below.result ≡ z -ℤ pos 1 = c.below.ensures ∙ ap (λ (b : Bool). if b then greatest_short else to_z w32 (of_z w32 z) -ℤ pos 1) (told ∙ f) ∙ ap (λ (x : ℤ). x -ℤ pos 1) number in
          let count : c.nones_in.result ≡ 0 = c.nones_in.ensures ∙ ap (λ (b : Bool). if b then 1 else 0) (told ∙ f) in
          short-more self _ numbers ms z least_fits greatest_fits fits some
          (least_is ∙ ap (λ (x : ℤ). int_min self.least x) low) greatest_is total_is (omega (arith, count)) h
    ]
