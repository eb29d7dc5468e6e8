-- Grammars as relations: which lists of tokens are a phrase, and with which tree.
use Rattle.std.specs.Prelude.{◌≡◌, ◌⊎◌, List, [], ◌∷◌, ◌++◌, Option, Some, None}

-- a kind of phrase, as the relation between a list of tokens and a tree
abbrev pub Phrase : Type 0 → Type 0 → Type 1
Phrase T A = List T → A → Type 0

-- the token that carries this
abbrev pub one : {T A : Type 0} → (A → T) → List T → A → Type 0
one f ts a = ts ≡ f a ∷ []

-- this token
abbrev pub word : {T : Type 0} → T → List T → Unit {0} → Type 0
word t ts u = ts ≡ t ∷ []

-- no token, and this tree
abbrev pub pure : {T A : Type 0} → A → List T → A → Type 0
pure a ts b = (ts ≡ []) × (b ≡ a)

-- a phrase of L, and after it one of M at the tree of the first
pub record Then {T A B : Type 0} (L : List T → A → Type 0) (M : A → List T → B → Type 0) (ts : List T) (b : B) : Type 0 where
  pub front : List T
  pub back : List T
  pub tree : A
  pub split : ts ≡ front ++ back
  pub first : L front tree
  pub second : M tree back b

infixl 10 ◌>>=◌
abbrev pub ◌>>=◌ : {T A B : Type 0} → (List T → A → Type 0) → (A → List T → B → Type 0) → List T → B → Type 0
L >>= M = Then L M

infixl 10 ◌>>◌
abbrev pub ◌>>◌ : {T A B : Type 0} → (List T → A → Type 0) → (List T → B → Type 0) → List T → B → Type 0
L >> M = Then L (λ _. M)

-- one or the other
pub record Either {T A : Type 0} (L M : List T → A → Type 0) (ts : List T) (a : A) : Type 0 where
  pub which : L ts a ⊎ M ts a

infixr 5 ◌∣◌
abbrev pub ◌∣◌ : {T A : Type 0} → (List T → A → Type 0) → (List T → A → Type 0) → List T → A → Type 0
L ∣ M = Either L M

-- no phrase at all
abbrev pub none : {T A : Type 0} → List T → A → Type 0
none ts a = ⊥

-- any number of phrases
abbrev pub many : {T A : Type 0} → (List T → A → Type 0) → List T → List A → Type 0
many L ts [] = ts ≡ []
many {T} L ts (a ∷ more) = (front : List T) × (back : List T) × (ts ≡ front ++ back) × L front a × many L back more

-- one phrase or more with this token between each two, and what is made of their trees
abbrev pub chained : {T A B : Type 0} → T → (List A → B) → (List T → A → Type 0) → List T → B → Type 0
chained t f L = do
  first ← L
  others ← many (word t >> L)
  pure (f (first ∷ others))

-- the same, with the list of their trees
abbrev pub separated : {T A : Type 0} → T → (List T → A → Type 0) → List T → List A → Type 0
separated t L = chained t (λ members. members) L

-- a phrase, or nothing
abbrev pub optional : {T A : Type 0} → (List T → A → Type 0) → List T → Option A → Type 0
optional L = (do a ← L; pure (Some a)) ∣ pure None
