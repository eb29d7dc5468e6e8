-- A history grows by a round.
use Rattle.std.proofs.Common.{◌≡◌, ◌∙◌, ◌<◌, ◌+◌, ◌-◌, ◌++◌, ◌∷◌, [], zero, suc, sym, ap, subst, refl, ℕ, List, length, get_or, arith, inl, inr}
use Rattle.std.proofs.lemmas.Bool.{cases_lt}
use Rattle.std.proofs.lemmas.List.{get_or_append_left, length-append}
use Rattle.std.proofs.Math.Seq.{get_or-append_seam}
use Rattle.graph_model.specs.declared.number.NodeNo.{NodeNo}
use Rattle.vertex_lang.specs.Expressions.{Answer}
use Rattle.change_lists.specs.declared.history.Change.{Change}
use Rattle.change_lists.specs.declared.history.History.{History}
use Rattle.round_kernel.specs.declared.frame.Frame.{Frame}
use Rattle.change_lists.specs.ChangeLists.{HasNodes, HasChanges}
use Rattle.round_kernel.specs.Frames.{count_in, lone_at, marked_at}
use Rattle.round_kernel.specs.Steps.{HasRounds}

module _ {X : Type 0} (xss : List (List X)) (xs : List X) where
  pub kept-place : (k : ℕ) → k < length xss → get_or (xss ++ xs ∷ []) k [] ≡ get_or xss k []
  kept-place k low = get_or_append_left xss (xs ∷ []) [] k low

  pub last-place : (k : ℕ) → k ≡ length xss → get_or (xss ++ xs ∷ []) k [] ≡ xs
  last-place k same = ap (λ n. get_or (xss ++ xs ∷ []) n []) same ∙ get_or-append_seam xss xs [] []

module _ (answer : Answer) (f : Frame) (old new : History) (cs : List Change) (ms : List NodeNo) where
  changes-more : (r : ℕ) → HasRounds answer f r old → new.changes ≡ old.changes ++ cs ∷ [] → HasChanges (count_in f) (lone_at answer f r) (lone_at answer f (r + 1)) cs
      → (k : ℕ) → k < r + 1 → HasChanges (count_in f) (lone_at answer f k) (lone_at answer f (k + 1)) (get_or new.changes k [])
  changes-more r u ec hc k low = subst (λ (xs : List Change). HasChanges (count_in f) (lone_at answer f k) (lone_at answer f (k + 1)) xs) (sym (ap (λ (xss : List (List Change)). get_or xss k []) ec)) (elim (cases_lt k r) [
    | inl less ↦ subst (λ (xs : List Change). HasChanges (count_in f) (lone_at answer f k) (lone_at answer f (k + 1)) xs) (sym (kept-place old.changes cs k (omega (arith, less, u.size)))) (u.changes k less)
    | inr most ↦
        let here : k ≡ r = omega (arith, low, most) in
        subst (λ (xs : List Change). HasChanges (count_in f) (lone_at answer f k) (lone_at answer f (k + 1)) xs) (sym (last-place old.changes cs k (omega (arith, here, u.size))))
        (subst (λ n. HasChanges (count_in f) (lone_at answer f n) (lone_at answer f (n + 1)) cs) (sym here) hc)
  ])

  pub rounds-more : (r : ℕ) → HasRounds answer f r old → new.changes ≡ old.changes ++ cs ∷ [] → (r ≡ 0 → new.marks ≡ old.marks) → (0 < r → new.marks ≡ old.marks ++ ms ∷ [])
      → HasChanges (count_in f) (lone_at answer f r) (lone_at answer f (r + 1)) cs → (0 < r → HasNodes (count_in f) (marked_at answer f r) ms) → HasRounds answer f (r + 1) new
  rounds-more zero u ec em el hc hm = record {
    size = ap (λ (xss : List (List Change)). length xss) ec ∙ omega (arith, length-append old.changes (cs ∷ []), u.size);
    changes = changes-more zero u ec hc;
    marks_size = ap (λ (xss : List (List NodeNo)). length xss) (em refl) ∙ omega (arith, u.marks_size);
    marks = λ k low. absurd (omega arith);
  }
  rounds-more (suc p) u ec em el hc hm = record {
    size = ap (λ (xss : List (List Change)). length xss) ec ∙ omega (arith, length-append old.changes (cs ∷ []), u.size);
    changes = changes-more (suc p) u ec hc;
    marks_size = ap (λ (xss : List (List NodeNo)). length xss) (el (omega arith)) ∙ omega (arith, length-append old.marks (ms ∷ []), u.marks_size);
    marks = λ k low. subst (λ (xs : List NodeNo). HasNodes (count_in f) (marked_at answer f (k + 1)) xs) (sym (ap (λ (xss : List (List NodeNo)). get_or xss k []) (el (omega arith)))) (elim (cases_lt (k + 1) (suc p)) [
      | inl less ↦ subst (λ (xs : List NodeNo). HasNodes (count_in f) (marked_at answer f (k + 1)) xs) (sym (kept-place old.marks ms k (omega (arith, less, u.marks_size)))) (u.marks k less)
      | inr most ↦
          let here : k + 1 ≡ suc p = omega (arith, low, most) in
          subst (λ (xs : List NodeNo). HasNodes (count_in f) (marked_at answer f (k + 1)) xs) (sym (last-place old.marks ms k (omega (arith, here, u.marks_size))))
          (subst (λ n. HasNodes (count_in f) (marked_at answer f n) ms) (sym here) (hm (omega arith)))
    ]);
  }

-- what changed from the round before
pub changes-last : (answer : Answer) (f : Frame) (h : History) (r : ℕ) → HasRounds answer f r h → 0 < r → (cs : List Change) → cs ≡ get_or h.changes (r - 1) [] → HasChanges (count_in f) (lone_at answer f (r - 1)) (lone_at answer f r) cs
changes-last answer f h r u later cs e =
    let back : (r - 1) + 1 ≡ r = omega (arith, later) in
    subst (λ (xs : List Change). HasChanges (count_in f) (lone_at answer f (r - 1)) (lone_at answer f r) xs) (sym e)
    (subst (λ n. HasChanges (count_in f) (lone_at answer f (r - 1)) (lone_at answer f n) (get_or h.changes (r - 1) [])) back (u.changes (r - 1) (omega (arith, later))))

-- before any round
pub rounds-none : (answer : Answer) (f : Frame) (h : History) → h.changes ≡ [] → h.marks ≡ [] → HasRounds answer f 0 h
rounds-none answer f h ec em = record {
  size = ap (λ (xss : List (List Change)). length xss) ec;
  changes = λ k low. absurd (omega arith);
  marks_size = ap (λ (xss : List (List NodeNo)). length xss) em;
  marks = λ k low. absurd (omega arith);
}
