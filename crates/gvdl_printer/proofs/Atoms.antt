-- What is written in place of numbers, properties and atoms.
use Rattle.std.proofs.Common.{◌≡◌, ◌∙◌, ℕ, zero, suc, ℤ, pos, negsuc, neg_ℤ, Bool, true, false, List, [], ◌∷◌, ◌++◌, refl, sym, ap, subst, inl, inr, arith}
use Rattle.std.specs.Prelude.{if◌then◌else◌}
use Rattle.std.proofs.lemmas.List.{append-nil}
use Rattle.gvdl_tokens.specs.declared.token.Token.{Token}
use Rattle.gvdl_tokens.specs.declared.token.Token.TheVariants as t
use Rattle.gvdl_tokens.specs.declared.token.Sign.TheVariants as s
use Rattle.gvdl_tokens.specs.declared.word.Word.TheVariants as w
use Rattle.gvdl_tokens.specs.Printing.{ArePrintable}
use Rattle.gvdl_tree.specs.declared.predicate.Cmp.{Cmp}
use Rattle.gvdl_tree.specs.declared.predicate.Field.{Field}
use Rattle.gvdl_tree.specs.declared.predicate.Operand.{Operand}
use Rattle.gvdl_tree.specs.declared.predicate.Operand.TheVariants as operand
use Rattle.gvdl_tree.specs.declared.predicate.PredTree.{PredTree}
use Rattle.gvdl_tree.specs.declared.predicate.PredTree.TheVariants as pred
use Rattle.phrase_theory.specs.Phrases.{Then, Either}
use Rattle.gvdl_parser.specs.Terminals.{int, prop, cmp_token}
use Rattle.gvdl_parser.specs.Predicates.{field_phrase, number_operand, text_operand, truth_operand, source_operand, target_operand, edge_operand, operand_phrase, constant, compared, missing, atom}
use Rattle.gvdl_printer.specs.Names.{is_name}
use Rattle.gvdl_printer.specs.Layout.{plain, tokens}
use Rattle.gvdl_printer.specs.Canonical.{int_pieces, prop_piece, field_piece, operand_pieces, predicate_pieces}
use Rattle.gvdl_printer.proofs.Equations.{predicate-Constant, predicate-Compare, predicate-Missing}
use Rattle.gvdl_printer.proofs.NameTests.{decided, name_tested, name_is, name_utf8}
use Rattle.gvdl_printer.proofs.Better.{AreFewer, IsBetter, Writes, named, itself, pure_is, word_is, one_is, step, left, right}
use Rattle.gvdl_printer.proofs.Ladder.{tokens-append}

-- ---- numbers

abbrev pub int_tokens : ℤ → List Token
int_tokens z = tokens (int_pieces z)

negative : (n : ℕ) (z : ℤ) (ts : List Token) → ts ≡ t.Sign s.Minus ∷ t.Number n ∷ [] → z ≡ neg_ℤ (pos n) → int ts z → IsBetter int ts (int_tokens z) z
unfolding int
negative zero z ts e is h =
    let zeroed : z ≡ pos 0 = is in
    let made : IsBetter int ts (t.Number 0 ∷ []) z = record {
      phrase = record { which = inl (record { front = t.Number 0 ∷ []; back = []; tree = 0; split = refl; first = refl; second = (refl, zeroed) }) };
      few = subst (AreFewer (t.Number 0 ∷ [])) (sym e) (λ f fair. omega arith);
      printable = λ p. let both : ArePrintable (t.Sign s.Minus ∷ t.Number 0 ∷ []) = subst ArePrintable e p in both.1;
    } in
    named made (sym (ap int_tokens zeroed))
negative (suc m) z ts e is h = let less : z ≡ negsuc m = is in named (itself h) (e ∙ sym (ap int_tokens less))

pub int_is : Writes int_tokens int int
unfolding int
int_is ts z q = elim q.which [
  | inl h ↦ named (left (step h (one_is h.first) (pure_is h.second))) (sym (ap int_tokens h.second.1))
  | inr h ↦
      let k = h.second in
      let whole : ts ≡ t.Sign s.Minus ∷ t.Number k.tree ∷ [] = h.split ∙ ap (λ (x : List Token). x ++ h.back) h.first ∙ ap (λ (x : List Token). t.Sign s.Minus ∷ x) (k.split ∙ ap (λ (x : List Token). x ++ k.back) k.first ∙ ap (λ (x : List Token). t.Number k.tree ∷ x) k.second.0) in
      negative k.tree z ts whole k.second.1 q
]

-- ---- properties

abbrev pub prop_token : List ℕ → Token
prop_token p = (prop_piece p).token

as_name : (p : List ℕ) → is_name p ≡ true → prop_token p ≡ t.Name p
as_name p e = ap (λ (x : Bool). (if x then plain (t.Name p) else plain (t.Quoted p)).token) e

as_quoted : (p : List ℕ) → is_name p ≡ false → prop_token p ≡ t.Quoted p
as_quoted p e = ap (λ (x : Bool). (if x then plain (t.Name p) else plain (t.Quoted p)).token) e

named_prop : (ts : List Token) (p : List ℕ) → ts ≡ t.Name p ∷ [] → IsBetter prop ts (prop_token p ∷ []) p
unfolding prop
named_prop ts p h = elim (decided (is_name p)) [
  | inl e ↦ named (left (one_is h)) (ap (λ (x : Token). x ∷ []) (sym (as_name p e)))
  | inr e ↦
      let made : IsBetter prop ts (t.Quoted p ∷ []) p = record {
        phrase = record { which = inr refl };
        few = subst (AreFewer (t.Quoted p ∷ [])) (sym h) (λ f fair. let le = fair.quoted p e in omega (arith, le));
        printable = λ all. let it : ArePrintable (t.Name p ∷ []) = subst ArePrintable h all in
            let spelled = it.0.spelled in
            let no : is_name p ≡ true = ap is_name (sym spelled.0) ∙ name_is it.0.bytes spelled.1 in
            absurd (let f : false ≡ true = sym e ∙ no in cc);
      } in
      named made (ap (λ (x : Token). x ∷ []) (sym (as_quoted p e)))
]

quoted_prop : (ts : List Token) (p : List ℕ) → ts ≡ t.Quoted p ∷ [] → IsBetter prop ts (prop_token p ∷ []) p
unfolding prop
quoted_prop ts p h = elim (decided (is_name p)) [
  | inl e ↦
      let made : IsBetter prop ts (t.Name p ∷ []) p = record {
        phrase = record { which = inl refl };
        few = subst (AreFewer (t.Name p ∷ [])) (sym h) (λ f fair. let le = fair.bare p e in omega (arith, le));
        printable = λ all. (record { bytes = p; spelled = (refl, name_tested p e); utf8 = name_utf8 p (name_tested p e) }, tt);
      } in
      named made (ap (λ (x : Token). x ∷ []) (sym (as_name p e)))
  | inr e ↦ named (right (one_is h)) (ap (λ (x : Token). x ∷ []) (sym (as_quoted p e)))
]

pub prop_is : Writes (λ p. prop_token p ∷ []) prop prop
unfolding prop
prop_is ts p q = elim q.which [ inl h ↦ named_prop ts p h | inr h ↦ quoted_prop ts p h ]

-- ---- operands

abbrev pub field_token : Field → Token
field_token f = (field_piece f).token

pub field_is : Writes (λ f. field_token f ∷ []) field_phrase field_phrase
unfolding field_phrase
field_is ts f q = elim q.which [
  | inl h ↦ named (left (step h (word_is h.first) (pure_is h.second))) (sym (ap (λ (x : Field). field_token x ∷ []) h.second.1))
  | inr h ↦ named (right (step h (prop_is h.front h.tree h.first) (pure_is h.second))) (sym (ap (λ (x : Field). field_token x ∷ []) h.second.1))
]

abbrev pub operand_tokens : Operand → List Token
operand_tokens a = tokens (operand_pieces a)

number_is : Writes operand_tokens number_operand number_operand
unfolding number_operand
number_is ts a h = named (step h (int_is h.front h.tree h.first) (pure_is h.second)) (append-nil (int_tokens h.tree) ∙ sym (ap operand_tokens h.second.1))

text_is : Writes operand_tokens text_operand text_operand
unfolding text_operand
text_is ts a h = named (step h (one_is h.first) (pure_is h.second)) (sym (ap operand_tokens h.second.1))

truth_is : Writes operand_tokens truth_operand truth_operand
unfolding truth_operand
truth_is ts a h = named (step h (one_is h.first) (pure_is h.second)) (sym (ap operand_tokens h.second.1))

source_is : Writes operand_tokens source_operand source_operand
unfolding source_operand
source_is ts a h = let k = h.second in let l = k.second in named (step h (word_is h.first) (step k (word_is k.first) (step l (field_is l.front l.tree l.first) (pure_is l.second)))) (sym (ap operand_tokens l.second.1))

target_is : Writes operand_tokens target_operand target_operand
unfolding target_operand
target_is ts a h = let k = h.second in let l = k.second in named (step h (word_is h.first) (step k (word_is k.first) (step l (field_is l.front l.tree l.first) (pure_is l.second)))) (sym (ap operand_tokens l.second.1))

edge_is : Writes operand_tokens edge_operand edge_operand
unfolding edge_operand
edge_is ts a h = named (step h (prop_is h.front h.tree h.first) (pure_is h.second)) (sym (ap operand_tokens h.second.1))

pub either_is : {A : Type 0} {f : A → List Token} {L L' M M' : List Token → A → Type 0} → Writes f L L' → Writes f M M' → Writes f (Either L M) (Either L' M')
either_is g h ts a q = elim q.which [ inl p ↦ left (g ts a p) | inr p ↦ right (h ts a p) ]

pub operand_is : Writes operand_tokens operand_phrase operand_phrase
unfolding operand_phrase
operand_is = either_is number_is (either_is text_is (either_is truth_is (either_is source_is (either_is target_is edge_is))))

-- ---- atoms

-- what is written in one way wherever it stands
pub record IsPlain {A : Type 0} (spelt : ℕ → A → List Token) (L : List Token → A → Type 0) (ts : List Token) (a : A) : Type 0 where
  pub made : List Token
  pub at : (k : ℕ) → spelt k a ≡ made
  pub better : IsBetter L ts made a

abbrev pub spelt : ℕ → PredTree → List Token
spelt k p = tokens (predicate_pieces p k)

compare_spelt : (a : Operand) (c : Cmp) (b : Operand) (k : ℕ) → spelt k (pred.Compare a c b) ≡ operand_tokens a ++ (cmp_token c ∷ operand_tokens b)
compare_spelt a c b k = ap tokens (predicate-Compare a c b k) ∙ tokens-append (operand_pieces a) (plain (cmp_token c) ∷ operand_pieces b)

missing_spelt : (a : Operand) (k : ℕ) → spelt k (pred.Missing a) ≡ operand_tokens a ++ (t.Word w.Is ∷ t.Word w.Absent ∷ [])
missing_spelt a k = ap tokens (predicate-Missing a k) ∙ tokens-append (operand_pieces a) _

constant_is : (a : Operand) (front back ts : List Token) (p : PredTree) (q : Then operand_phrase (λ a. Either (compared a) (Either (missing a) (constant a))) ts p) → q.tree ≡ a → constant a q.back p → IsPlain spelt atom ts p
unfolding atom
constant_is (operand.Bool b) front back ts p q e h = record {
  made = operand_tokens q.tree ++ [];
  at = λ k. ap (spelt k) h.1 ∙ ap tokens (predicate-Constant b k) ∙ ap (λ (x : Operand). operand_tokens x ++ []) (sym e);
  better = step q (operand_is q.front q.tree q.first) (right (right (subst (λ (x : Operand). IsBetter (constant x) q.back [] p) (sym e) (pure_is h))));
}
constant_is (operand.Number n) front back ts p q e h = absurd h
constant_is (operand.Str text) front back ts p q e h = absurd h
constant_is (operand.Src f) front back ts p q e h = absurd h
constant_is (operand.Dst f) front back ts p q e h = absurd h
constant_is (operand.Edge n) front back ts p q e h = absurd h

pub atom_is : (ts : List Token) (p : PredTree) → atom ts p → IsPlain spelt atom ts p
unfolding atom compared missing
atom_is ts p q =
    let first = operand_is q.front q.tree q.first in
    elim q.second.which [
      | inl h ↦
          let k = h.second in
          record {
            made = operand_tokens q.tree ++ (cmp_token h.tree ∷ (operand_tokens k.tree ++ []));
            at = λ j. ap (spelt j) k.second.1 ∙ compare_spelt q.tree h.tree k.tree j ∙ ap (λ (x : List Token). operand_tokens q.tree ++ (cmp_token h.tree ∷ x)) (sym (append-nil (operand_tokens k.tree)));
            better = step q first (left (step h (one_is h.first) (step k (operand_is k.front k.tree k.first) (pure_is k.second))));
          }
      | inr u ↦ elim u.which [
        | inl h ↦
            let k = h.second in
            record {
              made = operand_tokens q.tree ++ (t.Word w.Is ∷ t.Word w.Absent ∷ []);
              at = λ j. ap (spelt j) k.second.1 ∙ missing_spelt q.tree j;
              better = step q first (right (left (step h (word_is h.first) (step k (word_is k.first) (pure_is k.second)))));
            }
        | inr h ↦ constant_is q.tree [] [] ts p q refl h
      ]
    ]
