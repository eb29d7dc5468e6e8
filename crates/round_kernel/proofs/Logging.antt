-- A log grows by a round.
use Rattle.std.proofs.Common.{◌≡◌, ◌≢◌, ◌∙◌, ◌<◌, ◌+◌, ◌-◌, ◌++◌, ◌∷◌, [], sym, subst, refl, ℕ, true, false, List, get_or, arith, inl, inr}
use Rattle.std.proofs.lemmas.Bool.{cases_lt, cases_Bool}
use Rattle.graph_model.specs.declared.number.NodeNo.{NodeNo}
use Rattle.vertex_lang.specs.Expressions.{Answer}
use Rattle.vertex_lang.specs.RoundLaws.{length-lone}
use Rattle.change_lists.specs.declared.history.Change.{Change}
use Rattle.change_lists.specs.ChangeLists.{HasNodes, HasChanges}
use Rattle.round_kernel.specs.declared.frame.Frame.{Frame}
use Rattle.round_kernel.specs.declared.log.Log.{Log}
use Rattle.round_kernel.specs.Changes.{passed_changes}
use Rattle.round_kernel.specs.Frames.{count_in, lone_at, marked_at, new_arcs}
use Rattle.round_kernel.specs.Steps.{IsLastChange, IsLog}
use Rattle.round_kernel.proofs.Ending.{same-values, changed-told}
use Rattle.round_kernel.proofs.Growing.{rounds-more, rounds-none, changes-last}

some-not-none : {A : Type 0} (x : A) (xs : List A) → x ∷ xs ≢ []
some-not-none x xs e = cc

module _ (answer : Answer) (f : Frame) where
  -- the last change, a round further
  last-more : (r last next : ℕ) (cs : List Change) → IsLastChange answer f r last → HasChanges (count_in f) (lone_at answer f r) (lone_at answer f (r + 1)) cs
      → (cs ≡ [] → next ≡ last) → (cs ≢ [] → next ≡ r + 1) → IsLastChange answer f (r + 1) next
  last-more r last next [] u h same more =
      let is : next ≡ last = same refl in
      let rest : lone_at answer f (r + 1) ≡ lone_at answer f r = same-values (count_in f) (lone_at answer f r) (lone_at answer f (r + 1)) (length-lone answer f.program.now f.graph.now (new_arcs f) r) (length-lone answer f.program.now f.graph.now (new_arcs f) (r + 1)) h in
      record {
        within = omega (arith, is, u.within);
        moved = λ some. subst (λ (n : ℕ). lone_at answer f n ≢ lone_at answer f (n - 1)) (sym is) (u.moved (omega (arith, is, some)));
        still = λ k low high. elim (cases_lt k r) [
          | inl less ↦ u.still k (omega (arith, is, low)) less
          | inr most ↦ let here : k ≡ r = omega (arith, most, high) in subst (λ (n : ℕ). lone_at answer f (n + 1) ≡ lone_at answer f n) (sym here) rest
        ];
      }
  last-more r last next (c ∷ cs) u h same more =
      let is : next ≡ r + 1 = more (some-not-none c cs) in
      let back : r ≡ r + 1 - 1 = omega arith in
      let other : lone_at answer f (r + 1) ≢ lone_at answer f r = changed-told (count_in f) (lone_at answer f r) (lone_at answer f (r + 1)) (c ∷ cs) h (some-not-none c cs) in
      record {
        within = omega (arith, is);
        moved = λ some. subst (λ (n : ℕ). lone_at answer f n ≢ lone_at answer f (n - 1)) (sym is) (subst (λ (n : ℕ). lone_at answer f (r + 1) ≢ lone_at answer f n) back other);
        still = λ k low high. absurd (omega (arith, is, low, high));
      }

  -- and the log
  pub log-more : (r : ℕ) (old new : Log) (cs : List Change) (ms : List NodeNo) → IsLog answer f r old → new.keeps ≡ old.keeps
      → (old.keeps ≡ true → new.history.changes ≡ old.history.changes ++ cs ∷ [])
      → (old.keeps ≡ true → r ≡ 0 → new.history.marks ≡ old.history.marks)
      → (old.keeps ≡ true → 0 < r → new.history.marks ≡ old.history.marks ++ ms ∷ [])
      → (old.keeps ≡ false → passed_changes new ≡ cs) → (cs ≡ [] → new.last ≡ old.last) → (cs ≢ [] → new.last ≡ r + 1)
      → HasChanges (count_in f) (lone_at answer f r) (lone_at answer f (r + 1)) cs → (0 < r → HasNodes (count_in f) (marked_at answer f r) ms) → IsLog answer f (r + 1) new
  log-more r old new cs ms u keeps changes first later passed still moved hc hm = record {
    kept = λ yes. let was : old.keeps ≡ true = sym keeps ∙ yes in rounds-more answer f old.history new.history cs ms r (u.kept was) (changes was) (first was) (later was) hc hm;
    passed = λ no some.
        let was : old.keeps ≡ false = sym keeps ∙ no in
        let back : r ≡ r + 1 - 1 = omega arith in
        subst (λ (n : ℕ). HasChanges (count_in f) (lone_at answer f n) (lone_at answer f (r + 1)) (passed_changes new)) back
        (subst (λ (xs : List Change). HasChanges (count_in f) (lone_at answer f r) (lone_at answer f (r + 1)) xs) (sym (passed was)) hc);
    last = last-more r old.last new.last cs u.last hc still moved;
  }

  -- before any round
  pub log-none : (log : Log) → log.history.changes ≡ [] → log.history.marks ≡ [] → log.last ≡ 0 → IsLog answer f 0 log
  log-none log ec em none = record {
    kept = λ yes. rounds-none answer f log.history ec em;
    passed = λ no some. absurd (omega (arith, some));
    last = record { within = omega (arith, none); moved = λ some. absurd (omega (arith, none, some)); still = λ k low high. absurd (omega (arith, high)) };
  }

  -- what changed from the round before
  pub changed-before : (r : ℕ) (log : Log) → IsLog answer f r log → 0 < r → (cs : List Change) → (log.keeps ≡ true → 0 < r → cs ≡ get_or log.history.changes (r - 1) []) → (log.keeps ≡ false → cs ≡ passed_changes log)
      → HasChanges (count_in f) (lone_at answer f (r - 1)) (lone_at answer f r) cs
  changed-before r log u later cs kept passed = elim (cases_Bool log.keeps) [
    | inl on ↦ changes-last answer f log.history r (u.kept on) later cs (kept on later)
    | inr off ↦ subst (λ (xs : List Change). HasChanges (count_in f) (lone_at answer f (r - 1)) (lone_at answer f r) xs) (sym (passed off)) (u.passed off later)
  ]

  -- where that is nothing, both rounds have the same values
  pub quiet-before : (r : ℕ) (log : Log) → IsLog answer f r log → 0 < r → (log.keeps ≡ true → get_or log.history.changes (r - 1) [] ≡ []) → (log.keeps ≡ false → passed_changes log ≡ [])
      → lone_at answer f ((r - 1) + 1) ≡ lone_at answer f (r - 1)
  quiet-before r log u later kept passed =
      let back : r ≡ (r - 1) + 1 = omega (arith, later) in
      same-values (count_in f) (lone_at answer f (r - 1)) (lone_at answer f ((r - 1) + 1)) (length-lone answer f.program.now f.graph.now (new_arcs f) (r - 1)) (length-lone answer f.program.now f.graph.now (new_arcs f) ((r - 1) + 1))
      (subst (λ (n : ℕ). HasChanges (count_in f) (lone_at answer f (r - 1)) (lone_at answer f n) []) back
      (changed-before r log u later [] (λ yes low. sym (kept yes)) (λ no. sym (passed no))))
