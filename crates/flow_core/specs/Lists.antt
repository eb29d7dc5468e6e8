-- Laws of lists of times.
use Rattle.std.specs.Prelude.{◌≡◌, ◌⊎◌, Bool, IsTrue, List, [], ◌∷◌, ◌++◌, refl}
use Rattle.std.proofs.Common.{sym, subst, inl, inr}
use Rattle.flow_core.specs.Runs.{Every, Member}

pub Every-append : {A : Type 0} (P : A → Type 0) (xs ys : List A) → Every P xs → Every P ys → Every P (xs ++ ys)
Every-append P [] ys h k = k
Every-append P (x ∷ xs) ys h k = (h.0, Every-append P xs ys h.1 k)

pub Every-append_front : {A : Type 0} (P : A → Type 0) (xs ys : List A) → Every P (xs ++ ys) → Every P xs
Every-append_front P [] ys h = tt
Every-append_front P (x ∷ xs) ys h = (h.0, Every-append_front P xs ys h.1)

pub Every-append_back : {A : Type 0} (P : A → Type 0) (xs ys : List A) → Every P (xs ++ ys) → Every P ys
Every-append_back P [] ys h = h
Every-append_back P (x ∷ xs) ys h = Every-append_back P xs ys h.1

pub Every-map : {A : Type 0} (P Q : A → Type 0) (xs : List A) → ((x : A) → P x → Q x) → Every P xs → Every Q xs
Every-map P Q [] f h = tt
Every-map P Q (x ∷ xs) f h = (f x h.0, Every-map P Q xs f h.1)

pub Every-both : {A : Type 0} (P Q R : A → Type 0) (xs : List A) → ((x : A) → P x → Q x → R x) → Every P xs → Every Q xs → Every R xs
Every-both P Q R [] f h k = tt
Every-both P Q R (x ∷ xs) f h k = (f x h.0 k.0, Every-both P Q R xs f h.1 k.1)

pub Every-all : {A : Type 0} (P : A → Type 0) (xs : List A) → ((x : A) → P x) → Every P xs
Every-all P [] f = tt
Every-all P (x ∷ xs) f = (f x, Every-all P xs f)

pub Member-front : {A : Type 0} (x : A) (xs ys : List A) → Member x xs → Member x (xs ++ ys)
Member-front x [] ys h = absurd h
Member-front x (y ∷ xs) ys (inl e) = inl e
Member-front x (y ∷ xs) ys (inr h) = inr (Member-front x xs ys h)

pub Member-back : {A : Type 0} (x : A) (xs ys : List A) → Member x ys → Member x (xs ++ ys)
Member-back x [] ys h = h
Member-back x (y ∷ xs) ys h = inr (Member-back x xs ys h)

pub Member-split : {A : Type 0} (x : A) (xs ys : List A) → Member x (xs ++ ys) → Member x xs ⊎ Member x ys
Member-split x [] ys m = inr m
Member-split x (y ∷ xs) ys (inl e) = inl (inl e)
Member-split x (y ∷ xs) ys (inr m) = elim (Member-split x xs ys m) [ inl a ↦ inl (inr a) | inr b ↦ inr b ]

-- what holds of each holds of a member, and the other way round
pub Every-member : {A : Type 0} (P : A → Type 0) (xs : List A) (x : A) → Every P xs → Member x xs → P x
Every-member P [] x h m = absurd m
Every-member P (y ∷ ys) x h (inl e) = subst P (sym e) h.0
Every-member P (y ∷ ys) x h (inr m) = Every-member P ys x h.1 m

pub Every-of : {A : Type 0} (P : A → Type 0) (xs : List A) → ((x : A) → Member x xs → P x) → Every P xs
Every-of P [] f = tt
Every-of P (x ∷ xs) f = (f x (inl refl), Every-of P xs (λ y m. f y (inr m)))

pub front_empty : {A : Type 0} (xs ys : List A) → xs ++ ys ≡ [] → xs ≡ []
front_empty [] ys h = refl
front_empty (x ∷ xs) ys h = absurd (cc)

pub back_empty : {A : Type 0} (xs ys : List A) → xs ++ ys ≡ [] → ys ≡ []
back_empty [] ys h = h
back_empty (x ∷ xs) ys h = absurd (cc)

due_one : {T : Type 0} (above : T → Bool) (old more new : List T) → ((d : T) → Member d old → Member d more) → Every (λ d. Member d old ⊎ IsTrue (above d)) new → Every (λ d. Member d more ⊎ IsTrue (above d)) new
due_one above old more new f h = Every-map (λ d. Member d old ⊎ IsTrue (above d)) (λ d. Member d more ⊎ IsTrue (above d)) new (λ d w. elim w [ inl m ↦ inl (f d m) | inr k ↦ inr k ]) h

-- the due times of two operators after a step: each was due before, or is above
pub due_both : {T : Type 0} (above : T → Bool) (xs ys us vs : List T) → Every (λ d. Member d xs ⊎ IsTrue (above d)) us → Every (λ d. Member d ys ⊎ IsTrue (above d)) vs → Every (λ d. Member d (xs ++ ys) ⊎ IsTrue (above d)) (us ++ vs)
due_both above xs ys us vs h k = Every-append (λ d. Member d (xs ++ ys) ⊎ IsTrue (above d)) us vs (due_one above xs (xs ++ ys) us (λ d. Member-front d xs ys) h) (due_one above ys (xs ++ ys) vs (λ d. Member-back d xs ys) k)
