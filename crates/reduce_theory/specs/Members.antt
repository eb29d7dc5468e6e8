-- Laws of lists as sets.
use Rattle.std.specs.Prelude.{◌≡◌, ◌⊎◌, ◌||◌, Bool, true, false, List, [], ◌∷◌, map, filter, if◌then◌else◌, refl}
use Rattle.std.specs.List.{list_any}
use Rattle.std.proofs.Common.{sym, subst, ◌∙◌, inl, inr}
use Rattle.flow_core.specs.Runs.{Member}

pub Member-map : {A B : Type 0} (f : A → B) (x : A) (xs : List A) → Member x xs → Member (f x) (map f xs)
Member-map f x [] m = absurd m
Member-map f x (y ∷ ys) (inl e) = inl (subst (λ v. f x ≡ f v) e refl)
Member-map f x (y ∷ ys) (inr m) = inr (Member-map f x ys m)

-- an element of which y is the function
pub record Source {A B : Type 0} (f : A → B) (xs : List A) (y : B) : Type 0 where
  pub from : A
  pub is_in : Member from xs
  pub gives : y ≡ f from

pub source : {A B : Type 0} (f : A → B) (xs : List A) (y : B) → Member y (map f xs) → Source f xs y
source f [] y m = absurd m
source f (x ∷ xs) y (inl e) = record { from = x; is_in = inl refl; gives = e }
source f (x ∷ xs) y (inr m) = let s : Source f xs y = source f xs y m in record { from = s.from; is_in = inr s.is_in; gives = s.gives }

-- ---- those that pass a test

module _ {A : Type 0} (f : A → Bool) where
  passes_by : (u y : A) (zs : List A) (b : Bool) → f y ≡ b → (Member u zs → f u ≡ true) → Member u (if b then y ∷ zs else zs) → f u ≡ true
  passes_by u y zs true e go (inl p) = subst (λ v. f v ≡ true) (sym p) e
  passes_by u y zs true e go (inr m) = go m
  passes_by u y zs false e go m = go m

  pub Member-passes : (ys : List A) (u : A) → Member u (filter f ys) → f u ≡ true
  Member-passes [] u m = absurd m
  Member-passes (y ∷ ys) u m = passes_by u y (filter f ys) (f y) refl (Member-passes ys u) m

  from_by : (u y : A) (zs ys : List A) (b : Bool) → (Member u zs → Member u ys) → Member u (if b then y ∷ zs else zs) → (u ≡ y) ⊎ Member u ys
  from_by u y zs ys true go (inl p) = inl p
  from_by u y zs ys true go (inr m) = inr (go m)
  from_by u y zs ys false go m = inr (go m)

  pub Member-unfiltered : (ys : List A) (u : A) → Member u (filter f ys) → Member u ys
  Member-unfiltered [] u m = absurd m
  Member-unfiltered (y ∷ ys) u m = from_by u y (filter f ys) ys (f y) (Member-unfiltered ys u) m

  in_by : (u y : A) (zs : List A) (b : Bool) → f y ≡ b → f u ≡ true → (u ≡ y) ⊎ Member u zs → Member u (if b then y ∷ zs else zs)
  in_by u y zs true e t m = m
  in_by u y zs false e t (inl p) = let k : false ≡ true = sym e ∙ subst (λ v. f v ≡ true) p t in absurd (cc)
  in_by u y zs false e t (inr m) = m

  pub Member-filtered : (ys : List A) (u : A) → Member u ys → f u ≡ true → Member u (filter f ys)
  Member-filtered [] u m t = absurd m
  Member-filtered (y ∷ ys) u (inl p) t = in_by u y (filter f ys) (f y) refl t (inl p)
  Member-filtered (y ∷ ys) u (inr m) t = in_by u y (filter f ys) (f y) refl t (inr (Member-filtered ys u m t))

  -- an element that passes
  pub record Passing (ys : List A) : Type 0 where
    pub at : A
    pub passes : f at ≡ true

  some_by : (y : A) (ys : List A) (rest b : Bool) → f y ≡ b → b || rest ≡ true → (rest ≡ true → Passing ys) → Passing (y ∷ ys)
  some_by y ys rest true e h go = record { at = y; passes = e }
  some_by y ys rest false e h go = let s : Passing ys = go h in record { at = s.at; passes = s.passes }

  pub some_passes : (ys : List A) → list_any f ys ≡ true → Passing ys
  some_passes [] h = absurd (cc)
  some_passes (y ∷ ys) h = some_by y ys (list_any f ys) (f y) refl h (some_passes ys)

  or_true : (a b : Bool) → b ≡ true → a || b ≡ true
  or_true true b h = refl
  or_true false b h = h

  any_by : (u y : A) (rest : Bool) → f u ≡ true → u ≡ y → f y || rest ≡ true
  any_by u y rest t e = let h : f y ≡ true = subst (λ v. f v ≡ true) e t in rw h refl

  pub passing : (ys : List A) (u : A) → Member u ys → f u ≡ true → list_any f ys ≡ true
  passing [] u m t = absurd m
  passing (y ∷ ys) u (inl e) t = any_by u y (list_any f ys) t e
  passing (y ∷ ys) u (inr m) t = or_true (f y) (list_any f ys) (passing ys u m t)
