use Rattle.std.proofs.Common.{◌≡◌, ◌∙◌, ℤ, Bool, pos, w64, SFits, to_z, of_z, ap, sym, rules, arith, if◌then◌else◌, inl, inr}
use Rattle.std.specs.Int.{int_min, int_max}
use Rattle.std.specs.Ordering.{int_eq}
use Rattle.std.proofs.lemmas.Bool.{cases_Bool, false≢true}
use Rattle.std.proofs.lemmas.Bool.Decides.{Decides-int_eq}
use Rattle.std.proofs.lemmas.Int.{ints, to_z-of_z}
use Rattle.vertex_lang.specs.Values.{greatest, lowest_number}
use Rattle.value_codes.proofs.Spanning.{greatest-stays, least-stays, span-more, span-still}
use Rattle.value_codes.proofs.span.Span.with.Goals as goal

pub returns-clause-bounded : goal.returns-clause-bounded
returns-clause-bounded c =
    let z = c.args.number in
    let fits : SFits w64 z = search rules in
    let number = to_z-of_z w64 z fits in
    let told = ap (λ (x : ℤ). int_eq x lowest_number) number in
    elim (cases_Bool (int_eq z lowest_number)) [
      | inl t ↦
          let term : c.term_of.result ≡ pos 0 = c.term_of.ensures ∙ ap (λ (b : Bool). if b then pos 0 else to_z w64 (of_z w64 z)) (told ∙ t) in
          let count : c.sent_in.result ≡ 0 = c.sent_in.ensures ∙ ap (λ (b : Bool). if b then 0 else 1) (told ∙ t) in
          record { low = omega (arith, ints, term, count); high = omega (arith, ints, term, count) }
      | inr f ↦
          let term : c.term_of.result ≡ z = c.term_of.ensures ∙ ap (λ (b : Bool). if b then pos 0 else to_z w64 (of_z w64 z)) (told ∙ f) ∙ number in
          let count : c.sent_in.result ≡ 1 = c.sent_in.ensures ∙ ap (λ (b : Bool). if b then 0 else 1) (told ∙ f) in
          record { low = omega (arith, ints, term, count); high = omega (arith, ints, term, count) }
    ]

pub returns-clause-span : goal.returns-clause-span
returns-clause-span c = λ ms h.
    let self = c.args.self in
    let z = c.args.number in
    let fits : SFits w64 z = search rules in
    let least_fits : SFits w64 self.least = search rules in
    let greatest_fits : SFits w64 self.greatest = search rules in
    let low_fits : SFits w64 c.low_of.result = search rules in
    let min_fits : SFits w64 c.min.result = search rules in
    let max_fits : SFits w64 c.max.result = search rules in
    let number = to_z-of_z w64 z fits in
    let told = ap (λ (x : ℤ). int_eq x lowest_number) number in
    let least_is = to_z-of_z w64 c.min.result min_fits ∙ c.min.ensures.value ∙ ap (λ (x : ℤ). int_min x (to_z w64 (of_z w64 c.low_of.result))) (to_z-of_z w64 self.least least_fits)
    ∙ ap (λ (x : ℤ). int_min self.least x) (to_z-of_z w64 c.low_of.result low_fits) in
    let greatest_is = to_z-of_z w64 c.max.result max_fits ∙ c.max.ensures.value ∙ ap (λ (x : ℤ). int_max x (to_z w64 (of_z w64 z))) (to_z-of_z w64 self.greatest greatest_fits)
    ∙ ap (λ (x : ℤ). int_max self.greatest x) number in
    elim (cases_Bool (int_eq z lowest_number)) [
      | inl t ↦
          let none : z ≡ lowest_number = (Decides-int_eq z lowest_number).0 t in
          let low : c.low_of.result ≡ greatest = c.low_of.ensures ∙ ap (λ (b : Bool). if b then greatest else to_z w64 (of_z w64 z)) (told ∙ t) in
          let term : c.term_of.result ≡ pos 0 = c.term_of.ensures ∙ ap (λ (b : Bool). if b then pos 0 else to_z w64 (of_z w64 z)) (told ∙ t) in
          let count : c.sent_in.result ≡ 0 = c.sent_in.ensures ∙ ap (λ (b : Bool). if b then 0 else 1) (told ∙ t) in
          span-still self _ ms z none
          (least_is ∙ ap (λ (x : ℤ). int_min self.least x) low ∙ least-stays self.least least_fits)
          (greatest_is ∙ ap (λ (x : ℤ). int_max self.greatest x) none ∙ greatest-stays self.greatest greatest_fits)
          (omega (arith, ints, term)) (omega (arith, count)) h
      | inr f ↦
          let some : z ≡ lowest_number → ⊥ = λ e. false≢true (sym f ∙ (Decides-int_eq z lowest_number).1 e) in
          let low : c.low_of.result ≡ z = c.low_of.ensures ∙ ap (λ (b : Bool). if b then greatest else to_z w64 (of_z w64 z)) (told ∙ f) ∙ number in
          let term : c.term_of.result ≡ z = c.term_of.ensures ∙ ap (λ (b : Bool). if b then pos 0 else to_z w64 (of_z w64 z)) (told ∙ f) ∙ number in
          let count : c.sent_in.result ≡ 1 = c.sent_in.ensures ∙ ap (λ (b : Bool). if b then 0 else 1) (told ∙ f) in
          span-more self _ ms z fits some
          (least_is ∙ ap (λ (x : ℤ). int_min self.least x) low) greatest_is
          (omega (arith, ints, term)) (omega (arith, count)) h
    ]
