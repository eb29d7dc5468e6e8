-- The words of many columns, as one more is pushed to each.
use Rattle.std.proofs.Common.{◌≡◌, ◌≢◌, ◌∙◌, ◌+◌, ◌-◌, ◌*◌, ◌≤◌, ◌<◌, ◌==◌, ◌⊎◌, inl, inr, ℕ, Bool, true, false, ◌&&◌, List, [], ◌∷◌, ◌++◌, length, map, take, get_or, set, min, All, Result, Ok, Err, sym, ap, ap₂, subst, arith, get_or-set_same, get_or-set_other}
use Rattle.std.specs.Prelude.{nat_lt, IfOk}
use Rattle.std.specs.List.{range_with_len}
use Rattle.std.specs.declared.vec.Vec.{Vec}
use Rattle.std.proofs.Math.ListN.{length-set}
use Rattle.std.proofs.lemmas.Bool.Decides.{eqb_tells}
use Rattle.std.proofs.lemmas.List.{length_push, map-append, take_more}
use Rattle.graph_model.specs.GraphData.{GraphData}
use Rattle.edge_predicates.specs.declared.pred.ViewRule.{ViewRule}
use Rattle.edge_predicates.specs.Truth.{rule_truth}
use Rattle.view_matrix.specs.declared.scan.Scan.{Scan}
use Rattle.view_matrix.specs.Columns.{bit_in, is_set}
use Rattle.view_matrix.specs.Matrices.{rule_column}
use Rattle.view_matrix.specs.Scans.{bits_up_to, HasWords, HaveWords}
use Rattle.view_matrix.proofs.Scans.{all_bits, next_word, none_behind}

-- ---- the words of one rule

pub one_more : (g : GraphData) (rule : ViewRule) (k count word : ℕ) (old new : List ℕ) → HasWords g rule k old → new ≡ old ++ word ∷ [] → 64 * k < length g.ends → count ≡ min (length g.ends - 64 * k) 64
    → ((i : ℕ) → is_set word i ≡ (nat_lt i count && rule_truth g (64 * k + i) rule)) → HasWords g rule (k + 1) new
one_more g rule k count word old new so_far is room few of_word = record {
  count = ap (λ (ws : List ℕ). length ws) is ∙ length_push old word ∙ ap (λ (n : ℕ). n + 1) so_far.count;
  bits = subst (bits_up_to (λ (e : ℕ). rule_truth g e rule) (length g.ends) (k + 1)) (sym is)
      (next_word (λ (e : ℕ). rule_truth g e rule) (length g.ends) k count word old so_far.count (omega (arith, room)) few of_word so_far.bits);
}

pub none_yet : (g : GraphData) (rule : ViewRule) (words : List ℕ) → words ≡ [] → HasWords g rule 0 words
none_yet g rule words is = record { count = ap (λ (ws : List ℕ). length ws) is; bits = λ e lt. absurd (omega (arith, lt)) }

module _ (g : GraphData) (rule : ViewRule) (k : ℕ) (words : List ℕ) (has : HasWords g rule k words) where
  pub bits_behind : (e : ℕ) → length g.ends ≤ e → bit_in words e ≡ false
  bits_behind = none_behind (λ (e : ℕ). rule_truth g e rule) (length g.ends) k words has.count has.bits

  pub whole_column : length g.ends ≤ 64 * k → map (bit_in words) (range_with_len 0 (length g.ends)) ≡ rule_column g rule
  whole_column = all_bits (λ (e : ℕ). rule_truth g e rule) (length g.ends) k words has.count has.bits

-- ---- those of each rule

-- each column before place i has one word more
pub record AreGrown {A : Type 0} (g : GraphData) (k i : ℕ) (scans : List Scan) (columns : List (Vec ℕ A)) : Type 0 where
  pub all : length columns ≡ length scans
  pub done : (j : ℕ) (s : Scan) (words : Vec ℕ A) → j < i → j < length scans → HasWords g (get_or scans j s).rule.now (k + 1) (get_or columns j words).items
  pub left : (j : ℕ) (s : Scan) (words : Vec ℕ A) → i ≤ j → j < length scans → HasWords g (get_or scans j s).rule.now k (get_or columns j words).items

pub none_grown : {A : Type 0} (g : GraphData) (k : ℕ) (scans : List Scan) (columns : List (Vec ℕ A)) → HaveWords g k scans columns → AreGrown g k 0 scans columns
none_grown g k scans columns so_far = record { all = so_far.all; done = λ j s words lt within. absurd (omega (arith, lt)); left = λ j s words le within. so_far.each j s words within }

pub all_grown : {A : Type 0} (g : GraphData) (k i : ℕ) (scans : List Scan) (columns : List (Vec ℕ A)) → length scans ≤ i → AreGrown g k i scans columns → HaveWords g (k + 1) scans columns
all_grown g k i scans columns past grown = record { all = grown.all; each = λ j s words within. grown.done j s words (omega (arith, past, within)) within }

module _ {A : Type 0} (g : GraphData) (k i : ℕ) (scans : List Scan) (columns : List (Vec ℕ A)) (new : Vec ℕ A) (within : i < length scans) (grown : AreGrown g k i scans columns)
    (has : (s : Scan) → HasWords g (get_or scans i s).rule.now (k + 1) new.items) where
  same_at : (j : ℕ) (words : Vec ℕ A) → j ≢ i → get_or columns j words ≡ get_or (set columns i new) j words
  same_at j words other = sym (get_or-set_other columns i j new words other)

  done_by : (j : ℕ) (s : Scan) (words : Vec ℕ A) → j < i + 1 → j < length scans → ((j == i) ≡ true) × (j ≡ i) ⊎ ((j == i) ≡ false) × (j ≢ i) → HasWords g (get_or scans j s).rule.now (k + 1) (get_or (set columns i new) j words).items
  done_by j s words lt is_in (inl h) =
      let at : new ≡ get_or (set columns i new) j words = sym (ap (λ (n : ℕ). get_or (set columns i new) n words) h.1 ∙ get_or-set_same columns i new words (omega (arith, within, grown.all))) in
      subst (λ (v : Vec ℕ A). HasWords g (get_or scans j s).rule.now (k + 1) v.items) at (subst (λ (n : ℕ). HasWords g (get_or scans n s).rule.now (k + 1) new.items) (sym h.1) (has s))
  done_by j s words lt is_in (inr h) =
      subst (λ (v : Vec ℕ A). HasWords g (get_or scans j s).rule.now (k + 1) v.items) (same_at j words h.1) (grown.done j s words (omega (arith, lt, h.1)) is_in)

  pub grown_more : AreGrown g k (i + 1) scans (set columns i new)
  grown_more = record {
    all = length-set columns i new ∙ grown.all;
    done = λ j s words lt is_in. done_by j s words lt is_in (eqb_tells j i);
    left = λ j s words le is_in. subst (λ (v : Vec ℕ A). HasWords g (get_or scans j s).rule.now k v.items) (same_at j words (λ e. omega (arith, le, e))) (grown.left j s words (omega (arith, le)) is_in);
  }

pub empty_words : {A : Type 0} (g : GraphData) (scans : List Scan) (columns : List (Vec ℕ A)) → length columns ≡ length scans → All (λ words. words.items ≡ []) columns → HaveWords g 0 scans columns
empty_words g scans columns all empty = record { all = all; each = λ j s words within. none_yet g (get_or scans j s).rule.now (get_or columns j words).items (empty j words (omega (arith, all, within))) }

pub within_scans : {A : Type 0} (g : GraphData) (k : ℕ) (scans : List Scan) (columns : List (Vec ℕ A)) (j : ℕ) → HaveWords g k scans columns → j < length columns → j < length scans
within_scans g k scans columns j have lt = omega (arith, have.all, lt)

pub has_words : {A : Type 0} (g : GraphData) (k : ℕ) (scans : List Scan) (columns : List (Vec ℕ A)) (j : ℕ) (words : Vec ℕ A) (s : Scan) → HaveWords g k scans columns → j < length columns → words ≡ get_or columns j words → HasWords g (get_or scans j s).rule.now k words.items
has_words {A} g k scans columns j words s have lt is = subst (λ (v : Vec ℕ A). HasWords g (get_or scans j s).rule.now k v.items) (sym is) (have.each j s words (within_scans g k scans columns j have lt))

-- one of a list that has some
pub some_of : {X : Type 0} (xs : List X) (j : ℕ) → j < length xs → X
some_of [] j lt = absurd (omega arith)
some_of (x ∷ xs) j lt = x

-- ---- the columns, one after the other

pub columns_more : (g : GraphData) (scans : List Scan) (j n : ℕ) (s : Scan) (old new : List (List Bool)) (column : List Bool) → j < length scans → n ≡ j + 1 → old ≡ map (λ (scan : Scan). rule_column g scan.rule.now) (take j scans) → new ≡ old ++ column ∷ []
    → column ≡ rule_column g (get_or scans j s).rule.now → new ≡ map (λ (scan : Scan). rule_column g scan.rule.now) (take n scans)
columns_more g scans j n s old new column within count so_far more is =
    let made = λ (scan : Scan). rule_column g scan.rule.now in
    more ∙ ap₂ (λ (a : List (List Bool)) (b : List Bool). a ++ b ∷ []) so_far is
    ∙ sym (map-append (λ (scan : Scan). rule_column g scan.rule.now) (take j scans) (get_or scans j s ∷ [])) ∙ sym (ap (map (λ (scan : Scan). rule_column g scan.rule.now)) (take_more scans j s within))
    ∙ ap (λ (m : ℕ). map (λ (scan : Scan). rule_column g scan.rule.now) (take m scans)) (sym count)

pub if_ok : {X E : Type 0} (r : Result X E) (P Q : X → Type 0) → ((x : X) → P x → Q x) → IfOk r P → IfOk r Q
if_ok (Ok x) P Q more h = more x h
if_ok (Err e) P Q more h = tt
