-- What doesn't hang on the order of a view's arcs: its marks, its history, and the work between two views.
use Rattle.std.proofs.Common.{◌≡◌, ◌∙◌, ◌+◌, ℕ, zero, suc, cond, not, List, [], ◌∷◌, Option, Some, None, length, get_or, ap, subst, refl, arith}
use Rattle.std.specs.Prelude.{⊤, ◌||◌, ◌&&◌}
use Rattle.std.specs.Cmp.{both_ways}
use Rattle.std.specs.List.{sum_by}
use Rattle.std.specs.List.Sorted.{IsPermutation}
use Rattle.std.proofs.lemmas.List.Sums.{sum_by-cons}
use Rattle.graph_model.specs.declared.value.Val.{Val}
use Rattle.graph_model.specs.GraphData.{GraphData}
use Rattle.vertex_lang.specs.declared.arc.Arc.{Arc}
use Rattle.vertex_lang.specs.declared.program.Program.{Program}
use Rattle.vertex_lang.specs.Expressions.{Answer, start_of}
use Rattle.vertex_lang.specs.MessageLaws.{received-permuted}
use Rattle.vertex_lang.specs.RoundLaws.{permuted-arcs}
use Rattle.vertex_lang.specs.Rounds.{nodes_of, value_at, received, lone}
use Rattle.multisets.specs.Multisets.{AreOne, are_one, do_cancel}
use Rattle.multisets.specs.CountLaws.{one-told, one-tells, cancel-told, cancel-tells}
use Rattle.lone_work.specs.Items.{Item, same_item}
use Rattle.lone_work.specs.InputLaws.{items-exact, items-one}
use Rattle.lone_work.specs.Inputs.{input_under, input, input_in}
use Rattle.lone_work.specs.Work.{previous, is_active, is_touched, is_marked, is_counted, rounds_counted, node_marked, work}
use Rattle.change_lists.specs.declared.history.History.{History}
use Rattle.round_kernel.specs.Histories.{IsHistory}
use Rattle.change_lists.specs.ChangeLists.{HasChanges}

-- ---- what is got in each round

module _ (f g : ℕ → List Item) (each : (r : ℕ) → AreOne same_item (f r) (g r)) where
  previous-one : (r : ℕ) → AreOne same_item (previous f r) (previous g r)
  previous-one zero = record { counts = λ x. refl }
  previous-one (suc r) = each r

  tests-one : (r : ℕ) → are_one same_item (f r) (previous f r) ≡ are_one same_item (g r) (previous g r)
  tests-one r = both_ways (are_one same_item (f r) (previous f r)) (are_one same_item (g r) (previous g r))
      (λ e. one-tells same_item (g r) (previous g r) (record { counts = λ x. omega (arith, (one-told same_item items-exact (f r) (previous f r) e).counts x, (each r).counts x, (previous-one r).counts x) }))
      (λ e. one-tells same_item (f r) (previous f r) (record { counts = λ x. omega (arith, (one-told same_item items-exact (g r) (previous g r) e).counts x, (each r).counts x, (previous-one r).counts x) }))

  marks-one : (r : ℕ) → is_marked f r ≡ is_marked g r
  marks-one r = ap not (tests-one r)

module _ (f g h k : ℕ → List Item) (new : (r : ℕ) → AreOne same_item (f r) (g r)) (old : (r : ℕ) → AreOne same_item (h r) (k r)) where
  cancels-one : (r : ℕ) → do_cancel same_item (f r) (h r) (previous f r) (previous h r) ≡ do_cancel same_item (g r) (k r) (previous g r) (previous k r)
  cancels-one r = both_ways (do_cancel same_item (f r) (h r) (previous f r) (previous h r)) (do_cancel same_item (g r) (k r) (previous g r) (previous k r))
      (λ e. cancel-tells same_item (g r) (k r) (previous g r) (previous k r) (record { counts = λ x. omega (arith, (cancel-told same_item items-exact (f r) (h r) (previous f r) (previous h r) e).counts x, (new r).counts x, (old r).counts x, (previous-one f g new r).counts x, (previous-one h k old r).counts x) }))
      (λ e. cancel-tells same_item (f r) (h r) (previous f r) (previous h r) (record { counts = λ x. omega (arith, (cancel-told same_item items-exact (g r) (k r) (previous g r) (previous k r) e).counts x, (new r).counts x, (old r).counts x, (previous-one f g new r).counts x, (previous-one h k old r).counts x) }))

  active-one : (r : ℕ) → is_active f h r ≡ is_active g k r
  active-one r = ap not (cancels-one r)

  touched-one : (r : ℕ) → is_touched f h r ≡ is_touched g k r
  touched-one zero = active-one zero
  touched-one (suc r) = ap (λ b. b || is_active f h (suc r)) (touched-one r) ∙ ap (λ b. is_touched g k r || b) (active-one (suc r))

  counted-one : (r : ℕ) → is_counted f h r ≡ is_counted g k r
  counted-one r =
      ap (λ b. b && (is_active f h r || is_marked h r)) (touched-one r)
      ∙ ap (λ b. is_touched g k r && (b || is_marked h r)) (active-one r)
      ∙ ap (λ b. is_touched g k r && (is_active g k r || b)) (marks-one h k old r)

  rounds-one : (n : ℕ) → rounds_counted f h n ≡ rounds_counted g k n
  rounds-one zero = refl
  rounds-one (suc n) = ap (λ m. m + cond (is_counted f h n) 1 0) (rounds-one n) ∙ ap (λ b. rounds_counted g k n + cond b 1 0) (counted-one n)

sums-one : {A : Type 0} (f g : A → ℕ) (xs : List A) → ((x : A) → f x ≡ g x) → sum_by f xs ≡ sum_by g xs
sums-one f g [] h = refl
sums-one f g (x ∷ xs) h = omega (arith, sum_by-cons f x xs, sum_by-cons g x xs, h x, sums-one f g xs h)

-- ---- two orders of the arcs of a view, or of none

-- the arcs are the same in another order
abbrev pub AreReordered : Option (List Arc) → Option (List Arc) → Type 0
AreReordered None None = ⊤
AreReordered None (Some ys) = ⊥
AreReordered (Some xs) None = ⊥
AreReordered (Some xs) (Some ys) = IsPermutation xs ys

module _ (answer : Answer) (p : Program) (graph : GraphData) where
  under-one : (xs ys : List Arc) (values : List Val) (v : ℕ) → IsPermutation xs ys → AreOne same_item (input_under p graph xs values v) (input_under p graph ys values v)
  under-one xs ys values v s = record {
    counts = λ x. items-one (start_of p graph v) (value_at values v) (received p graph xs values v) (received p graph ys values v) (received-permuted p graph xs ys values v s) x;
  }

  input-one : (xs ys : List Arc) (v r : ℕ) → IsPermutation xs ys → AreOne same_item (input answer p graph xs v r) (input answer p graph ys v r)
  input-one xs ys v r s = subst (λ (vs : List Val). AreOne same_item (input answer p graph xs v r) (input_under p graph ys vs v)) (permuted-arcs answer p graph xs ys r s) (under-one xs ys (lone answer p graph xs r) v s)

  inputs-one : (xs ys : Option (List Arc)) (v r : ℕ) → AreReordered xs ys → AreOne same_item (input_in answer p graph xs v r) (input_in answer p graph ys v r)
  inputs-one None None v r s = record { counts = λ x. refl }
  inputs-one None (Some ys) v r s = absurd s
  inputs-one (Some xs) None v r s = absurd s
  inputs-one (Some xs) (Some ys) v r s = input-one xs ys v r s

  -- a node is marked in both
  pub marked-permuted : (xs ys : List Arc) (v r : ℕ) → IsPermutation xs ys → node_marked answer p graph (Some xs) v r ≡ node_marked answer p graph (Some ys) v r
  unfolding node_marked
  marked-permuted xs ys v r s = marks-one (input_in answer p graph (Some xs) v) (input_in answer p graph (Some ys) v) (λ k. input-one xs ys v k s) r

  -- the work between them is the same
  pub work-permuted : (xs ys : List Arc) (us vs : Option (List Arc)) (rounds : ℕ) → IsPermutation xs ys → AreReordered us vs → work answer p graph xs us rounds ≡ work answer p graph ys vs rounds
  unfolding work
  work-permuted xs ys us vs rounds s t =
      sums-one (λ v. rounds_counted (input_in answer p graph (Some xs) v) (input_in answer p graph us v) rounds) (λ v. rounds_counted (input_in answer p graph (Some ys) v) (input_in answer p graph vs v) rounds) (nodes_of graph)
      (λ v. rounds-one (input_in answer p graph (Some xs) v) (input_in answer p graph (Some ys) v) (input_in answer p graph us v) (input_in answer p graph vs v) (λ r. input-one xs ys v r s) (λ r. inputs-one us vs v r t) rounds)

  -- what is kept of the one is what is kept of the other
  pub history-permuted : (xs ys : List Arc) (rounds : ℕ) (h : History) → IsPermutation xs ys → IsHistory answer p graph (Some xs) rounds h → IsHistory answer p graph (Some ys) rounds h
  history-permuted xs ys rounds h s is = record {
    changes = λ k low. subst (λ (vs : List Val). HasChanges (length graph.ids) vs (lone answer p graph ys (k + 1)) (get_or h.changes k [])) (permuted-arcs answer p graph xs ys k s)
        (subst (λ (vs : List Val). HasChanges (length graph.ids) (lone answer p graph xs k) vs (get_or h.changes k [])) (permuted-arcs answer p graph xs ys (k + 1) s) (is.changes k low));
    marks = λ k low. let marks = is.marks k low in record {
      within = marks.within;
      listed = λ v under. marks.listed v under ∙ marked-permuted xs ys v (k + 1) s;
    };
    starts = is.starts;
  }
