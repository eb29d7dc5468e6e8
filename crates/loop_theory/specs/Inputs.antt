-- The fixed and the moving part of what a loop is fed.
use Rattle.std.specs.Prelude.{◌≡◌, ℕ, ◌+◌, List, [], ◌∷◌, ◌++◌, refl}
use Rattle.std.specs.declared.cmp.Ordering.{Ordering}
use Rattle.std.specs.declared.cmp.Ordering.TheVariants.{Less, Equal, Greater}
use Rattle.std.proofs.Common.{arith, ap, sym, ◌∙◌}
use Rattle.weighted.specs.Alike.{Alike, total-append}
use Rattle.weighted.specs.WordLaws.{mapped, total}
use Rattle.loop_theory.specs.declared.input.LoopInput.{LoopInput}
use Rattle.loop_theory.specs.declared.input.LoopInput.TheVariants.{Fixed, Moving}

-- the fixed part
abbrev pub fixed : {F X : Type 0} → List (LoopInput F X × ℕ) → List (LoopInput F X × ℕ)
fixed [] = []
fixed ((Fixed a, w) ∷ es) = (Fixed a, w) ∷ fixed es
fixed ((Moving x, w) ∷ es) = fixed es

-- the records of the moving part
abbrev pub moving : {F X : Type 0} → List (LoopInput F X × ℕ) → List (X × ℕ)
moving [] = []
moving ((Fixed a, w) ∷ es) = moving es
moving ((Moving x, w) ∷ es) = (x, w) ∷ moving es

-- a collection as a moving part
abbrev pub as_moving : {F X : Type 0} → List (X × ℕ) → List (LoopInput F X × ℕ)
as_moving xs = mapped Moving xs

-- ---- laws

-- two inputs that compare as equal are one value
pub inputs_same : {F X : Type 0} (cmp : LoopInput F X → LoopInput F X → Ordering) (first : F → F → Ordering) (second : X → X → Ordering) → ((a b : F) → cmp (Fixed a) (Fixed b) ≡ first a b) → ((a : F) (b : X) → cmp (Fixed a) (Moving b) ≡ Less) → ((a : X) (b : F) → cmp (Moving a) (Fixed b) ≡ Greater) → ((a b : X) → cmp (Moving a) (Moving b) ≡ second a b) → ((x y : F) → first x y ≡ Equal → x ≡ y) → ((x y : X) → second x y ≡ Equal → x ≡ y) → (x y : LoopInput F X) → cmp x y ≡ Equal → x ≡ y
inputs_same cmp first second ff fm mf mm f g (Fixed a) (Fixed b) e = ap Fixed (f a b (sym (ff a b) ∙ e))
inputs_same cmp first second ff fm mf mm f g (Fixed a) (Moving b) e = let h : Less ≡ Equal = sym (fm a b) ∙ e in absurd (cc)
inputs_same cmp first second ff fm mf mm f g (Moving a) (Fixed b) e = let h : Greater ≡ Equal = sym (mf a b) ∙ e in absurd (cc)
inputs_same cmp first second ff fm mf mm f g (Moving a) (Moving b) e = ap Moving (g a b (sym (mm a b) ∙ e))

pub fixed-append : {F X : Type 0} (xs ys : List (LoopInput F X × ℕ)) → fixed (xs ++ ys) ≡ fixed xs ++ fixed ys
fixed-append [] ys = refl
fixed-append ((Fixed a, w) ∷ xs) ys = ap (λ v. (Fixed a, w) ∷ v) (fixed-append xs ys)
fixed-append ((Moving x, w) ∷ xs) ys = fixed-append xs ys

pub moving-append : {F X : Type 0} (xs ys : List (LoopInput F X × ℕ)) → moving (xs ++ ys) ≡ moving xs ++ moving ys
moving-append [] ys = refl
moving-append ((Fixed a, w) ∷ xs) ys = moving-append xs ys
moving-append ((Moving x, w) ∷ xs) ys = ap (λ v. (x, w) ∷ v) (moving-append xs ys)

-- a collection is the sum of both parts
parts_total : {F X : Type 0} (g : LoopInput F X → ℕ) (es : List (LoopInput F X × ℕ)) → total g es ≡ total g (fixed es) + total g (as_moving (moving es))
parts_total g [] = omega arith
parts_total g ((Fixed a, w) ∷ es) = omega (arith, parts_total g es)
parts_total g ((Moving x, w) ∷ es) = omega (arith, parts_total g es)

pub Alike-parts : {F X : Type 0} (es : List (LoopInput F X × ℕ)) → Alike es (fixed es ++ as_moving (moving es))
Alike-parts es = record { totals = λ g. rw (total-append g (fixed es) (as_moving (moving es)), parts_total g es) refl }

-- a coefficient for each fixed record, and none for a moving one, and the other way round
abbrev on_fixed : {F X : Type 0} → (LoopInput F X → ℕ) → LoopInput F X → ℕ
on_fixed g (Fixed a) = g (Fixed a)
on_fixed g (Moving x) = 0

abbrev on_moving : {F X : Type 0} → (X → ℕ) → LoopInput F X → ℕ
on_moving g (Fixed a) = 0
on_moving g (Moving x) = g x

total-fixed : {F X : Type 0} (g : LoopInput F X → ℕ) (es : List (LoopInput F X × ℕ)) → total g (fixed es) ≡ total (on_fixed g) es
total-fixed g [] = refl
total-fixed g ((Fixed a, w) ∷ es) = omega (arith, total-fixed g es)
total-fixed g ((Moving x, w) ∷ es) = omega (arith, total-fixed g es)

total-moving : {F X : Type 0} (g : X → ℕ) (es : List (LoopInput F X × ℕ)) → total g (moving es) ≡ total (on_moving {F = F} g) es
total-moving g [] = refl
total-moving g ((Fixed a, w) ∷ es) = omega (arith, total-moving g es)
total-moving g ((Moving x, w) ∷ es) = omega (arith, total-moving g es)

-- one collection has one fixed and one moving part
pub Alike-fixed : {F X : Type 0} (xs ys : List (LoopInput F X × ℕ)) → Alike xs ys → Alike (fixed xs) (fixed ys)
Alike-fixed xs ys s = record { totals = λ g. rw (total-fixed g xs, total-fixed g ys) (s.totals (on_fixed g)) }

pub Alike-moving : {F X : Type 0} (xs ys : List (LoopInput F X × ℕ)) → Alike xs ys → Alike (moving xs) (moving ys)
Alike-moving {F} {X} xs ys s = record { totals = λ g. rw (total-moving g xs, total-moving g ys) (s.totals (on_moving {F = F} g)) }
