-- From kinds to tokens, and from the kind that comes next to what phrases begin there.
use Rattle.std.proofs.Common.{◌≡◌, ◌≢◌, ℕ, ◌<◌, length, length-append, arith, Bool, true, false, eq-eqb, List, [], ◌∷◌, Option, Some, None, sym, ap, ◌∙◌}
use Rattle.std.specs.Prelude.{◌==◌}
use Rattle.gvdl_tokens.specs.declared.token.Token.{Token}
use Rattle.gvdl_tokens.specs.declared.token.Token.TheVariants as t
use Rattle.gvdl_tokens.specs.declared.token.Kind.{Kind}
use Rattle.gvdl_tokens.specs.declared.token.Kind.TheVariants as kind
use Rattle.gvdl_tokens.specs.declared.token.Sign.{Sign}
use Rattle.gvdl_tokens.specs.declared.word.Word.{Word}
use Rattle.gvdl_tokens.specs.Tokens.{kind_of}
use Rattle.phrase_theory.specs.Phrases.{one, word, none, Then, Either}
use Rattle.phrase_theory.specs.Reading.{alone, next, after, Finds}
use Rattle.phrase_theory.specs.ChoiceLaws.{Avoids, avoids_word, avoids_one, avoids_then, avoids_either, avoids_none}
use Rattle.gvdl_parser.specs.Kinds.{kind_number, kind_at, number_at}

pub word_at : (x : Option Token) (w : Word) → kind_at x ≡ kind.Word w → x ≡ Some (t.Word w)
word_at None w e = absurd cc
word_at (Some (t.Name a)) w e = absurd cc
word_at (Some (t.Quoted a)) w e = absurd cc
word_at (Some (t.Number a)) w e = absurd cc
word_at (Some (t.Str a)) w e = absurd cc
word_at (Some (t.Word v)) w e = cc
word_at (Some (t.Sign a)) w e = absurd cc
word_at (Some t.End) w e = absurd cc

pub sign_at : (x : Option Token) (s : Sign) → kind_at x ≡ kind.Sign s → x ≡ Some (t.Sign s)
sign_at None s e = absurd cc
sign_at (Some (t.Name a)) s e = absurd cc
sign_at (Some (t.Quoted a)) s e = absurd cc
sign_at (Some (t.Number a)) s e = absurd cc
sign_at (Some (t.Str a)) s e = absurd cc
sign_at (Some (t.Word a)) s e = absurd cc
sign_at (Some (t.Sign v)) s e = cc
sign_at (Some t.End) s e = absurd cc

-- a token of another kind does not come next
pub past : (x : Option Token) (t : Token) → kind_at x ≢ kind_of t → x ≢ Some t
past x t other e = other (ap kind_at e)

differs : (a b : ℕ) → (a == b) ≡ false → a ≢ b
differs a b h e = let same : (a == b) ≡ true = eq-eqb a b e in absurd cc

-- ---- what begins with no token of this kind

pub record Clear {A : Type 0} (L : List Token → A → Type 0) (joins : Option Token → Bool) (k : Kind) : Type 0 where
  pub at : (x : Option Token) → kind_at x ≡ k → Avoids L joins x

pub clear_at : {A : Type 0} {L : List Token → A → Type 0} {joins : Option Token → Bool} {x : Option Token} (k : Kind) → k ≡ kind_at x → Clear L joins k → Avoids L joins x
clear_at {x = x} k e h = h.at x (sym e)

-- a kind that is known, and told from others by its number

pub clear_word : (w : Token) (joins : Option Token → Bool) (k : Kind) → (kind_number k == number_at (Some w)) ≡ false → Clear (word w) joins k
clear_word w joins k h = record { at = λ x e. avoids_word w x joins (λ same. differs (kind_number k) (number_at (Some w)) h (ap kind_number (sym e ∙ ap kind_at same))) }

pub clear_one : {A : Type 0} (f : A → Token) (joins : Option Token → Bool) (k : Kind) → ((a : A) → (kind_number k == number_at (Some (f a))) ≡ false) → Clear (one f) joins k
clear_one f joins k h = record { at = λ x e. avoids_one f x joins (λ a same. differs (kind_number k) (number_at (Some (f a))) (h a) (ap kind_number (sym e ∙ ap kind_at same))) }

-- a kind of which it is known what it is not

pub other_word : (w : Token) (joins : Option Token → Bool) (k : Kind) → k ≢ kind_of w → Clear (word w) joins k
other_word w joins k h = record { at = λ x e. avoids_word w x joins (λ same. h (sym e ∙ ap kind_at same)) }

pub other_one : {A : Type 0} (f : A → Token) (joins : Option Token → Bool) (k : Kind) → ((a : A) → k ≢ kind_of (f a)) → Clear (one f) joins k
other_one f joins k h = record { at = λ x e. avoids_one f x joins (λ a same. h a (sym e ∙ ap kind_at same)) }

pub clear_then : {A B : Type 0} (L : List Token → A → Type 0) (M : A → List Token → B → Type 0) (joins : Option Token → Bool) (k : Kind) → Clear L alone k → Clear (Then L M) joins k
clear_then L M joins k h = record { at = λ x e. avoids_then L M x joins (h.at x e) }

pub clear_either : {A : Type 0} (L M : List Token → A → Type 0) (joins : Option Token → Bool) (k : Kind) → Clear L joins k → Clear M joins k → Clear (Either L M) joins k
clear_either L M joins k h g = record { at = λ x e. avoids_either L M x joins (h.at x e) (g.at x e) }

pub clear_none : {A : Type 0} (joins : Option Token → Bool) (k : Kind) → Clear (none {T = Token} {A = A}) joins k
clear_none joins k = record { at = λ x e. avoids_none x joins }

pub ruleset clearing = (clear_word, clear_one, clear_then, clear_either, clear_none)

pub ruleset avoiding = (other_word, other_one, clear_then, clear_either, clear_none)

-- ---- the tokens that are left grow fewer

pub shorter : {A : Type 0} {L : ℕ → List Token → A → Type 0} {joins : Option Token → Bool} {d : ℕ} (ts here mid : List Token) {a : A} (x : Token) → next ts ≡ Some x → here ≡ after ts → Finds L joins d here a mid → length mid < length ts
shorter [] here mid x e h p = absurd (differ x e) where
  differ : (y : Token) → None ≡ Some y → ⊥
  differ y k = absurd cc
shorter (y ∷ ts) here mid x e h p = omega (arith, ap length p.split, length-append p.taken mid, ap length h)
