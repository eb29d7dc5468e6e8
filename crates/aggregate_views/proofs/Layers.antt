-- Layers one after another.
use Rattle.std.proofs.Common.{◌≡◌, ◌∙◌, ℕ, zero, suc, List, [], ◌∷◌, ◌++◌, take, drop, refl, ap, sym, append_assoc}
use Rattle.std.proofs.lemmas.List.{append-nil}
use Rattle.weighted.specs.Batches.{joined}
use Rattle.weighted.specs.Alike.{Alike, Alike-append, Alike-is, Alike-refl, Alike-trans}

module _ {R : Type 0} where
  split : (ls : List (List (R × ℕ))) (k : ℕ) → joined (take k ls) ++ joined (drop k ls) ≡ joined ls
  split ls zero = refl
  split [] (suc k) = refl
  split (l ∷ ls) (suc k) = append_assoc l (joined (take k ls)) (joined (drop k ls)) ∙ ap (λ v. l ++ v) (split ls k)

  one_more : (ls : List (List (R × ℕ))) (l : List (R × ℕ)) → joined (ls ++ l ∷ []) ≡ joined ls ++ l
  one_more [] l = append-nil l
  one_more (m ∷ ls) l = ap (λ v. m ++ v) (one_more ls l) ∙ sym (append_assoc m (joined ls) l)

  -- the newest layer has what comes, and what the layers had whose place it takes
  pub with_newest : (ls first all : List (List (R × ℕ))) (kept : ℕ) (others newest more : List (R × ℕ)) → first ≡ take kept ls → all ≡ first ++ newest ∷ [] → Alike others (joined (drop kept ls)) → Alike newest (others ++ more) → Alike (joined all) (joined ls ++ more)
  with_newest ls first all kept others newest more f a o n =
      Alike-trans (Alike-is (ap joined (a ∙ ap (λ v. v ++ newest ∷ []) f) ∙ one_more (take kept ls) newest))
      (Alike-trans (Alike-append (Alike-refl (joined (take kept ls))) (Alike-trans n (Alike-append o (Alike-refl more))))
      (Alike-is (sym (append_assoc (joined (take kept ls)) (joined (drop kept ls)) more) ∙ ap (λ v. v ++ more) (split ls kept))))
