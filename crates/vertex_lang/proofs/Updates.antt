-- Giving each node its next value, one node after the other.
use Rattle.std.proofs.Common.{◌≡◌, ◌≢◌, ◌∙◌, ◌+◌, ◌<◌, ◌≤◌, ℕ, Bool, true, false, List, length, set, map, sym, ap, refl, inl, inr, below_more, arith}
use Rattle.std.specs.Prelude.{MatchBool}
use Rattle.std.specs.List.{range_with_len}
use Rattle.std.proofs.lemmas.Bool.{cases_eq, MatchBool-at_true, MatchBool-at_false, false≢true}
use Rattle.std.proofs.lemmas.Grind.{get_or-set_at}
use Rattle.std.proofs.lemmas.List.{get_or-set_same, get_or-set_other, ext_get_or}
use Rattle.std.proofs.lemmas.List.FromFn.{fill_by_all}
use Rattle.graph_model.specs.declared.value.Val.{Val}
use Rattle.graph_model.specs.declared.value.Val.TheVariants.{Nil}
use Rattle.vertex_lang.specs.Rounds.{value_at}
use Rattle.vertex_lang.specs.Mail.{TellsChange}

-- the first n values are those of f, the others the old ones, and it is told whether one differs
pub record IsUpdatedTo (f : ℕ → Val) (old now : List Val) (n : ℕ) (changed : Bool) : Type 0 where
  pub done : (k : ℕ) → k < n → value_at now k ≡ f k
  pub left : (k : ℕ) → n ≤ k → value_at now k ≡ value_at old k
  pub same : changed ≡ false → (k : ℕ) → value_at now k ≡ value_at old k
  pub other : changed ≡ true → (k : ℕ) × (k < n) × (value_at now k ≢ value_at old k)

module _ (f : ℕ → Val) (old now : List Val) (n : ℕ) (x : Val) (lt : n < length now) (is_next : x ≡ f n) where
  here : value_at (set now n x) n ≡ x
  here = get_or-set_same now n x Nil lt

  elsewhere : (k : ℕ) → k ≢ n → value_at (set now n x) k ≡ value_at now k
  elsewhere k ne = get_or-set_other now n k x Nil ne

  more_done : ((k : ℕ) → k < n → value_at now k ≡ f k) → (k : ℕ) → k < n + 1 → value_at (set now n x) k ≡ f k
  more_done so_far = below_more _ _ (λ k h. elsewhere k (λ e. absurd (omega arith)) ∙ so_far k h) (here ∙ is_next)

  less_left : ((k : ℕ) → n ≤ k → value_at now k ≡ value_at old k) → (k : ℕ) → n + 1 ≤ k → value_at (set now n x) k ≡ value_at old k
  less_left so_far k h = elsewhere k (λ e. absurd (omega arith)) ∙ so_far k (omega arith)

  -- a change was told before
  pub update_after_change : (changed later : Bool) → IsUpdatedTo f old now n changed → changed ≡ true → later ≡ changed → IsUpdatedTo f old (set now n x) (n + 1) later
  update_after_change changed later u e l = record {
    done = more_done u.done;
    left = less_left u.left;
    same = λ s. absurd (false≢true (sym s ∙ l ∙ e));
    other = λ s. let was = u.other e in (was.0, omega arith, λ same. was.2 (sym (elsewhere was.0 (λ at. absurd (omega arith))) ∙ same));
  }

  -- none was told before
  pub update_first : (changed later : Bool) → IsUpdatedTo f old now n changed → changed ≡ false → MatchBool later (x ≢ value_at now n) (x ≡ value_at now n) → IsUpdatedTo f old (set now n x) (n + 1) later
  update_first changed later u e told = record {
    done = more_done u.done;
    left = less_left u.left;
    same = λ s k. elim (cases_eq k n) [
      | inl at ↦ get_or-set_at now n k x Nil at lt ∙ MatchBool-at_false (x ≢ value_at now n) (x ≡ value_at now n) s told ∙ ap (λ j. value_at now j) (sym at) ∙ u.same e k
      | inr ne ↦ elsewhere k ne ∙ u.same e k
    ];
    other = λ s. (n, omega arith, λ same. MatchBool-at_true (x ≢ value_at now n) (x ≡ value_at now n) s told (sym here ∙ same ∙ sym (u.left n (omega arith))));
  }

pub all_updated : (f : ℕ → Val) (old now : List Val) (n : ℕ) (changed : Bool) → length now ≡ n → IsUpdatedTo f old now n changed → now ≡ map f (range_with_len 0 n)
all_updated f old now n changed e u = fill_by_all f now n Nil e u.done

pub change_told : (f : ℕ → Val) (old now : List Val) (n : ℕ) (changed : Bool) → length now ≡ length old → IsUpdatedTo f old now n changed → TellsChange changed now old
change_told f old now n true e u = λ same. (u.other refl).2 (ap (λ (vs : List Val). value_at vs (u.other refl).0) same)
change_told f old now n false e u = ext_get_or Nil now old e (λ k h. u.same refl k)
