-- The grammar of predicates.
use Rattle.std.specs.Prelude.{ℕ, zero, suc, Bool, ◌||◌, List, [], ◌∷◌, Option}
use Rattle.phrase_theory.specs.Phrases.{◌>>=◌, ◌>>◌, ◌∣◌, one, pure, none, chained}
use Rattle.gvdl_tokens.specs.declared.token.Token.{Token}
use Rattle.gvdl_tokens.specs.declared.token.Token.TheVariants as t
use Rattle.gvdl_tokens.specs.declared.token.Kind.TheVariants as kind
use Rattle.gvdl_tokens.specs.declared.token.Sign.TheVariants as s
use Rattle.gvdl_tokens.specs.declared.word.Word.TheVariants as w
use Rattle.gvdl_tree.specs.declared.predicate.Field.{Field}
use Rattle.gvdl_tree.specs.declared.predicate.Field.TheVariants as field
use Rattle.gvdl_tree.specs.declared.predicate.Operand.{Operand}
use Rattle.gvdl_tree.specs.declared.predicate.Operand.TheVariants as operand
use Rattle.gvdl_tree.specs.declared.predicate.PredTree.{PredTree}
use Rattle.gvdl_tree.specs.declared.predicate.PredTree.TheVariants as pred
use Rattle.gvdl_parser.specs.Kinds.{comes}
use Rattle.gvdl_parser.specs.Terminals.{keyword, mark, cmp_token, truth_token, int, prop}

-- ---- atoms

-- field = "id" | prop
unfoldable pub field_phrase : List Token → Field → Type 0
field_phrase = (keyword w.Id >> pure field.Id)
    ∣ (do p ← prop; pure (field.Prop p))

unfoldable pub number_operand : List Token → Operand → Type 0
number_operand = do n ← int; pure (operand.Number n)

unfoldable pub text_operand : List Token → Operand → Type 0
text_operand = do text ← one t.Str; pure (operand.Str text)

unfoldable pub truth_operand : List Token → Operand → Type 0
truth_operand = do b ← one truth_token; pure (operand.Bool b)

unfoldable pub source_operand : List Token → Operand → Type 0
source_operand = do keyword w.Src; mark s.Dot; f ← field_phrase; pure (operand.Src f)

unfoldable pub target_operand : List Token → Operand → Type 0
target_operand = do keyword w.Dst; mark s.Dot; f ← field_phrase; pure (operand.Dst f)

unfoldable pub edge_operand : List Token → Operand → Type 0
edge_operand = do p ← prop; pure (operand.Edge p)

-- operand = int | string | "true" | "false" | "src" "." field | "dst" "." field | prop
unfoldable pub operand_phrase : List Token → Operand → Type 0
operand_phrase = number_operand ∣ text_operand ∣ truth_operand ∣ source_operand ∣ target_operand ∣ edge_operand

-- `true` and `false` are predicates by themselves
abbrev pub constant : Operand → List Token → PredTree → Type 0
constant (operand.Bool b) = pure (pred.Constant b)
constant _ = none

unfoldable pub compared : Operand → List Token → PredTree → Type 0
compared a = do c ← one cmp_token; b ← operand_phrase; pure (pred.Compare a c b)

unfoldable pub missing : Operand → List Token → PredTree → Type 0
missing a = do keyword w.Is; keyword w.Absent; pure (pred.Missing a)

-- atom = operand ( cmp operand | "is" "absent" ) | "true" | "false"
unfoldable pub atom : List Token → PredTree → Type 0
atom = do
  a ← operand_phrase
  compared a ∣ missing a ∣ constant a

-- ---- chains

-- a chain of one member is that member
abbrev pub all_of : List PredTree → PredTree
all_of (p ∷ []) = p
all_of ps = pred.And ps

abbrev pub any_of : List PredTree → PredTree
any_of (p ∷ []) = p
any_of ps = pred.Or ps

-- conj = neg { "and" neg }
unfoldable pub conjunction_of : (List Token → PredTree → Type 0) → List Token → PredTree → Type 0
conjunction_of negation = chained (t.Word w.And) all_of negation

-- pred = conj { "or" conj }
unfoldable pub predicate_of : (List Token → PredTree → Type 0) → List Token → PredTree → Type 0
predicate_of negation = chained (t.Word w.Or) any_of (conjunction_of negation)

-- ---- levels

-- "not" neg, with what is behind `not`
unfoldable pub negated : (List Token → PredTree → Type 0) → List Token → PredTree → Type 0
negated negation = do keyword w.Not; p ← negation; pure (pred.Not p)

-- "(" pred ")", with what a member of the chains inside may be
unfoldable pub enclosed : (List Token → PredTree → Type 0) → List Token → PredTree → Type 0
enclosed negation = do mark s.Open; p ← predicate_of negation; mark s.Close; pure p

-- neg = "not" neg | "(" pred ")" | atom, with at most this number of levels open at once
unfoldable pub negation : ℕ → List Token → PredTree → Type 0
negation zero = atom
negation (suc n) = negated (negation n) ∣ enclosed (negation n) ∣ atom

abbrev pub conjunction : ℕ → List Token → PredTree → Type 0
conjunction n = conjunction_of (negation n)

abbrev pub predicate : ℕ → List Token → PredTree → Type 0
predicate n = predicate_of (negation n)

-- ---- tokens that a phrase goes on with

abbrev pub compares : Option Token → Bool
compares x = comes (kind.Sign s.Equal) x || comes (kind.Sign s.NotEqual) x || comes (kind.Sign s.Less) x || comes (kind.Sign s.AtMost) x || comes (kind.Sign s.Greater) x || comes (kind.Sign s.AtLeast) x

abbrev pub after_negation : Option Token → Bool
after_negation x = compares x || comes (kind.Word w.Is) x

abbrev pub after_conjunction : Option Token → Bool
after_conjunction x = comes (kind.Word w.And) x || after_negation x

abbrev pub after_predicate : Option Token → Bool
after_predicate x = comes (kind.Word w.Or) x || after_conjunction x
