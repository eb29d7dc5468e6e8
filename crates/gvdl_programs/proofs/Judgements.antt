-- A judgement of several parts, one behind the other.
use Rattle.std.proofs.Common.{◌≡◌, ◌∙◌, Ok, Err}
use Rattle.gvdl_programs.specs.declared.refusal.Stop.{Stop}
use Rattle.gvdl_programs.specs.Judging.{Judged, ◌>>=◌, IfRefused}
use Rattle.gvdl_programs.specs.JudgingLaws.{goes_on, stops, refused_as}

module _ {A B : Type 0} (whole : Judged B) (first : Judged A) (rest : A → Judged B) (is : whole ≡ (first >>= rest)) where
  pub behind_first : (a : A) → first ≡ Ok a → whole ≡ rest a
  behind_first a p = is ∙ goes_on first a rest p

  pub first_refused : (e : Stop) → IfRefused e (λ r. first ≡ Err r) → IfRefused e (λ r. whole ≡ Err r)
  first_refused e h = refused_as whole (first >>= rest) e is (stops first rest e h)

module _ {A B C : Type 0} (whole : Judged C) (first : Judged A) (second : A → Judged B) (rest : A → B → Judged C) (is : whole ≡ (first >>= λ a. second a >>= rest a)) where
  pub behind_second : (a : A) (b : B) → first ≡ Ok a → second a ≡ Ok b → whole ≡ rest a b
  behind_second a b p q = behind_first whole first (λ a. second a >>= rest a) is a p ∙ goes_on (second a) b (rest a) q

  pub second_refused : (a : A) (e : Stop) → first ≡ Ok a → IfRefused e (λ r. second a ≡ Err r) → IfRefused e (λ r. whole ≡ Err r)
  second_refused a e p h = first_refused whole (second a) (rest a) (behind_first whole first (λ a. second a >>= rest a) is a p) e h

module _ {A B C D : Type 0} (whole : Judged D) (first : Judged A) (second : Judged B) (third : Judged C) (rest : A → B → C → Judged D) (is : whole ≡ (first >>= λ a. second >>= λ b. third >>= rest a b)) where
  pub behind_third : (a : A) (b : B) (c : C) → first ≡ Ok a → second ≡ Ok b → third ≡ Ok c → whole ≡ rest a b c
  behind_third a b c p q r = behind_second whole first (λ a. second) (λ a b. third >>= rest a b) is a b p q ∙ goes_on third c (rest a b) r

  pub third_refused : (a : A) (b : B) (e : Stop) → first ≡ Ok a → second ≡ Ok b → IfRefused e (λ r. third ≡ Err r) → IfRefused e (λ r. whole ≡ Err r)
  third_refused a b e p q h = first_refused whole third (rest a b) (behind_second whole first (λ a. second) (λ a b. third >>= rest a b) is a b p q) e h
