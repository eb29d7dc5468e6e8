-- How judging goes on, where it stops, and what lies behind a judgement that gave a value.
use Rattle.std.proofs.Common.{◌≡◌, ◌∙◌, Bool, true, false, refl, sym, ap, subst, Result, Ok, Err}
use Rattle.gvdl_programs.specs.declared.refusal.Refusal.{Refusal}
use Rattle.gvdl_programs.specs.declared.refusal.Stop.{Stop}
use Rattle.gvdl_programs.specs.declared.refusal.Stop.TheVariants as stop
use Rattle.gvdl_programs.specs.Judging.{Judged, ◌>>=◌, IfRefused, expect}

-- behind a value the rest decides
pub goes_on : {A B : Type 0} (said : Judged A) (a : A) (f : A → Judged B) → said ≡ Ok a → (said >>= f) ≡ f a
goes_on said a f e = ap (λ (s : Judged _). s >>= f) e

-- a refusal refuses the whole
pub stops : {A B : Type 0} (said : Judged A) (f : A → Judged B) (e : Stop) → IfRefused e (λ r. said ≡ Err r) → IfRefused e (λ r. (said >>= f) ≡ Err r)
stops said f (stop.Refused r) h = ap (λ (s : Judged _). s >>= f) h
stops said f stop.NoMemory h = tt

-- what is refused is refused as well where it is judged the same
pub refused_as : {A : Type 0} (said other : Judged A) (e : Stop) → said ≡ other → IfRefused e (λ r. other ≡ Err r) → IfRefused e (λ r. said ≡ Err r)
refused_as {A} said other e same h = subst (λ (s : Judged A). IfRefused e (λ r. s ≡ Err r)) (sym same) h

-- ---- a whole that begins with a part, which is judged under another name

module _ {A B : Type 0} (whole : Judged B) (part other : Judged A) (f : A → Judged B) where
  pub gives : (a : A) → whole ≡ (part >>= f) → other ≡ part → other ≡ Ok a → whole ≡ f a
  gives a same is e = same ∙ goes_on part a f (sym is ∙ e)

  pub refuses : (e : Stop) → whole ≡ (part >>= f) → other ≡ part → IfRefused e (λ r. other ≡ Err r) → IfRefused e (λ r. whole ≡ Err r)
  refuses e same is h = refused_as whole (part >>= f) e same (stops part f e (refused_as part other e (sym is) h))

-- ---- behind a value

-- the first part gave a value, and so did the rest
pub record Through {A B E : Type 0} (said : Result A E) (f : A → Result B E) (b : B) : Type 0 where
  pub value : A
  pub first : said ≡ Ok value
  pub rest : f value ≡ Ok b

pub through : {A B E : Type 0} (said : Result A E) (f : A → Result B E) (b : B) → (said >>= f) ≡ Ok b → Through said f b
through (Ok a) f b e = record { value = a; first = refl; rest = e }
through (Err r) f b e = absurd cc

abbrev pub given : {A : Type 0} (E : Type 0) → A → Result A E
given E a = Ok a

pub same_value : {A E : Type 0} (a b : A) → given E a ≡ given E b → a ≡ b
same_value a b e = cc

pub expected : (b : Bool) (r : Refusal) (u : Unit {0}) → expect b r ≡ Ok u → b ≡ true
expected true r u e = refl
expected false r u e = absurd cc
