-- One node more is named, or compared.
use Rattle.std.proofs.Common.{◌≡◌, ◌≢◌, ◌∙◌, ◌+◌, ◌<◌, ◌++◌, ◌∷◌, [], ℕ, cond, List, length, drop, sym, ap, arith}
use Rattle.std.proofs.lemmas.Bool.{cond-true, cond-false, false_from_ne_true}
use Rattle.std.proofs.lemmas.List.{append_assoc, append-nil, at_drop_all, at_drop_more}
use Rattle.graph_model.specs.declared.number.NodeNo.{NodeNo}
use Rattle.graph_model.specs.declared.value.Val.{Val}
use Rattle.graph_model.specs.declared.value.Val.TheVariants.{Nil}
use Rattle.vertex_lang.specs.GatherLaws.{values-exact}
use Rattle.vertex_lang.specs.Lone.{same_value}
use Rattle.vertex_lang.specs.Rounds.{value_at}
use Rattle.result_tables.specs.Changes.{all_from, changes_from}

abbrev pub node_with : ℕ → Val → NodeNo × Val
node_with i v = (record { 0 = i }, v)

abbrev Changes : Type 0
Changes = List (NodeNo × Val)

pub all-next : (had : List (NodeNo × Val)) (xs : List Val) (i : ℕ) → i < length xs
    → (had ++ node_with i (value_at xs i) ∷ []) ++ all_from (i + 1) (drop (i + 1) xs) ≡ had ++ all_from i (drop i xs)
all-next had xs i low =
    append_assoc had (node_with i (value_at xs i) ∷ []) (all_from (i + 1) (drop (i + 1) xs))
    ∙ ap (λ (cs : Changes). had ++ cs) (sym (at_drop_more (all_from i) xs i Nil low))

module _ (had : List (NodeNo × Val)) (xs ys : List Val) (i : ℕ) (in_xs : i < length xs) (in_ys : i < length ys) where
  abbrev rest : Changes
  rest = changes_from (i + 1) (drop (i + 1) xs) (drop (i + 1) ys)

  compared : changes_from i (drop i xs) (drop i ys) ≡ cond (same_value (value_at xs i) (value_at ys i)) rest (node_with i (value_at ys i) ∷ rest)
  compared =
      at_drop_more (λ (zs : List Val). changes_from i zs (drop i ys)) xs i Nil in_xs
      ∙ at_drop_more (λ (zs : List Val). changes_from i (value_at xs i ∷ drop (i + 1) xs) zs) ys i Nil in_ys

  pub next-differs : value_at xs i ≢ value_at ys i → (had ++ node_with i (value_at ys i) ∷ []) ++ rest ≡ had ++ changes_from i (drop i xs) (drop i ys)
  next-differs ne =
      append_assoc had (node_with i (value_at ys i) ∷ []) rest
      ∙ ap (λ (cs : Changes). had ++ cs)
      (sym (compared ∙ cond-false _ rest (node_with i (value_at ys i) ∷ rest) (false_from_ne_true _ (λ same. ne (values-exact.one (value_at xs i) (value_at ys i) same)))))

  pub next-same : value_at xs i ≡ value_at ys i → had ++ rest ≡ had ++ changes_from i (drop i xs) (drop i ys)
  next-same e =
      ap (λ (cs : Changes). had ++ cs)
      (sym (compared ∙ cond-true _ rest (node_with i (value_at ys i) ∷ rest) (ap (λ (x : Val). same_value x (value_at ys i)) e ∙ values-exact.itself (value_at ys i))))

-- all nodes are named
pub all-named : (had : List (NodeNo × Val)) (xs : List Val) (i : ℕ) → length xs ≡ i → had ++ all_from i (drop i xs) ≡ had
all-named had xs i end = ap (λ (cs : Changes). had ++ cs) (at_drop_all (all_from i) xs i (omega arith)) ∙ append-nil had

pub all-compared : (had : List (NodeNo × Val)) (xs ys : List Val) (i : ℕ) → length xs ≡ i → length ys ≡ i → had ++ changes_from i (drop i xs) (drop i ys) ≡ had
all-compared had xs ys i end_xs end_ys =
    ap (λ (cs : Changes). had ++ cs)
    (at_drop_all (λ (zs : List Val). changes_from i zs (drop i ys)) xs i (omega arith) ∙ at_drop_all (λ (zs : List Val). changes_from i [] zs) ys i (omega arith)) ∙ append-nil had
