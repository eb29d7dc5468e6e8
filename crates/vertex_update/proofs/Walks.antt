-- One more word of a walk along the words of a node.
use Rattle.std.specs.Prelude.{fold, min, sum_by}
use Rattle.std.proofs.Common.{◌≡◌, ◌∙◌, ℕ, ◌+◌, ◌<◌, List, [], ◌∷◌, ◌++◌, length, take, get_or, ap, sym, refl, arith}
use Rattle.std.proofs.lemmas.List.{take_more}
use Rattle.std.proofs.lemmas.List.Sums.{sum_by-append}

pub fold_append : {A S : Type 0} (f : S → A → S) (s : S) (xs ys : List A) → fold f s (xs ++ ys) ≡ fold f (fold f s xs) ys
fold_append f s [] ys = refl
fold_append f s (x ∷ xs) ys = fold_append f (f s x) xs ys

pub walk_more : {A B : Type 0} (f : List A → List B) → ((xs ys : List A) → f (xs ++ ys) ≡ f xs ++ f ys) → (xs : List A) (i : ℕ) (e : A) → i < length xs → e ≡ get_or xs i e → f (take (i + 1) xs) ≡ f (take i xs) ++ f (e ∷ [])
walk_more f more xs i e low is = ap f (take_more xs i e low) ∙ more (take i xs) (get_or xs i e ∷ []) ∙ ap (λ v. f (take i xs) ++ f (v ∷ [])) (sym is)

-- what is folded along the way
pub walk_fold : {A B S : Type 0} (f : List A → List B) (g : S → B → S) → ((xs ys : List A) → f (xs ++ ys) ≡ f xs ++ f ys) → (start old new : S) (xs : List A) (i : ℕ) (e : A) → i < length xs → e ≡ get_or xs i e → old ≡ fold g start (f (take i xs)) → new ≡ fold g old (f (e ∷ [])) → new ≡ fold g start (f (take (i + 1) xs))
walk_fold f g more start old new xs i e low is h made =
    made ∙ ap (λ s. fold g s (f (e ∷ []))) h ∙ sym (fold_append g start (f (take i xs)) (f (e ∷ []))) ∙ ap (fold g start) (sym (walk_more f more xs i e low is))

-- what is pushed
pub walk_push : {A B : Type 0} (f : List A → List B) → ((xs ys : List A) → f (xs ++ ys) ≡ f xs ++ f ys) → (old new : List B) (xs : List A) (i : ℕ) (e : A) → i < length xs → e ≡ get_or xs i e → old ≡ f (take i xs) → new ≡ old ++ f (e ∷ []) → new ≡ f (take (i + 1) xs)
walk_push f more old new xs i e low is h made = made ∙ ap (λ v. v ++ f (e ∷ [])) h ∙ sym (walk_more f more xs i e low is)

capped : (a b n m c l : ℕ) → n ≡ min a l → m ≡ min (n + b) l → c ≡ a + b → m ≡ min c l
capped a b n m c l h k e = omega arith

-- what is summed, up to a limit
pub walk_sum : {A B : Type 0} (f : List A → List B) (g : B → ℕ) (limit : ℕ) → ((xs ys : List A) → f (xs ++ ys) ≡ f xs ++ f ys) → (old new : ℕ) (xs : List A) (i : ℕ) (e : A) → i < length xs → e ≡ get_or xs i e → old ≡ min (sum_by g (f (take i xs))) limit → new ≡ min (old + sum_by g (f (e ∷ []))) limit → new ≡ min (sum_by g (f (take (i + 1) xs))) limit
walk_sum f g limit more old new xs i e low is h made =
    capped (sum_by g (f (take i xs))) (sum_by g (f (e ∷ []))) old new (sum_by g (f (take (i + 1) xs))) limit h made (ap (sum_by g) (walk_more f more xs i e low is) ∙ sum_by-append g (f (take i xs)) (f (e ∷ [])))
