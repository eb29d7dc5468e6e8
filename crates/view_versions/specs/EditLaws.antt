-- Flags of edges that are set one after the other, and edits that are taken back.
use Rattle.std.specs.Prelude.{◌≡◌, ◌≢◌, ◌⊎◌, ◌<◌, ◌==◌, ◌||◌, ℕ, Bool, true, false, not, if◌then◌else◌, List, [], ◌∷◌, length, get_or, map, fold, slice_set, All, refl}
use Rattle.std.proofs.Common.{arith, sym, ap, ◌∙◌, inl, inr}
use Rattle.std.proofs.lemmas.Bool.{eq-eqb}
use Rattle.std.proofs.lemmas.Bool.Decides.{eqb_tells}
use Rattle.std.proofs.lemmas.List.{get_or-set_same, get_or-set_other, get_or-map, length-map, length-set, ext_get_or}
use Rattle.std.proofs.lemmas.List.Folds.{list_any_at}
use Rattle.std.proofs.lemmas.List.Elements.{All-head, All-tail}
use Rattle.graph_model.specs.declared.number.EdgeNo.{EdgeNo}
use Rattle.view_matrix.specs.Matrices.{MatrixData, live_of, is_in, with_changes, with_live}
use Rattle.view_versions.specs.Edits.{AreEdits, taken_back, turned_round, changed_edges}
use Rattle.view_versions.specs.Laws.{EditsAreTakenBack}

-- ---- the flags of edges, each set to what a test says

abbrev pub with_told : (ℕ → Bool) → List Bool → EdgeNo → List Bool
with_told f flags e = slice_set flags e.0 (f e.0)

module _ (f : ℕ → Bool) where
  pub told-size : (es : List EdgeNo) (flags : List Bool) → length (fold (with_told f) flags es) ≡ length flags
  told-size [] flags = refl
  told-size (e ∷ es) flags = told-size es (with_told f flags e) ∙ length-set flags e.0 (f e.0)

  here-by : (b : Bool) (x y : Bool) → (b ≡ false → x ≡ y) → (if b then y else x) ≡ y
  here-by true x y h = refl
  here-by false x y h = h refl

  one-set : (k : ℕ) (e : EdgeNo) (flags : List Bool) (b : Bool) → k < length flags → ((e.0 == k) ≡ true) × (e.0 ≡ k) ⊎ ((e.0 == k) ≡ false) × (e.0 ≢ k)
      → (if b then f k else get_or (with_told f flags e) k false) ≡ (if ((e.0 == k) || b) then f k else get_or flags k false)
  one-set k e flags b low (inl h) =
      here-by b (get_or (with_told f flags e) k false) (f k) (λ no. ap (λ (i : ℕ). get_or (with_told f flags e) i false) (sym h.1) ∙ get_or-set_same flags e.0 (f e.0) false (omega (arith, h.1, low)) ∙ ap f h.1)
      ∙ sym (ap (λ (c : Bool). if (c || b) then f k else get_or flags k false) h.0)
  one-set k e flags b low (inr h) =
      ap (λ (x : Bool). if b then f k else x) (get_or-set_other flags e.0 k (f e.0) false (λ same. h.1 (sym same)))
      ∙ sym (ap (λ (c : Bool). if (c || b) then f k else get_or flags k false) h.0)

  -- a flag is what the test says where its edge is among them, and else as it was
  pub told-at : (es : List EdgeNo) (flags : List Bool) (k : ℕ) → k < length flags → get_or (fold (with_told f) flags es) k false ≡ (if is_in es (record { 0 = k }) then f k else get_or flags k false)
  told-at [] flags k low = refl
  told-at (e ∷ es) flags k low =
      told-at es (with_told f flags e) k (omega (arith, low, length-set flags e.0 (f e.0)))
      ∙ one-set k e flags (is_in es (record { 0 = k })) low (eqb_tells e.0 k)

  -- lists of pairs that say what the test says
  pub told-pairs : (g : EdgeNo × Bool → EdgeNo × Bool) → ((c : EdgeNo × Bool) → (g c).0 ≡ c.0) → (cs : List (EdgeNo × Bool)) (flags : List Bool) → All (λ c. (g c).1 ≡ f c.0.0) cs
      → fold with_live flags (map g cs) ≡ fold (with_told f) flags (changed_edges cs)
  told-pairs g same [] flags h = refl
  told-pairs g same (c ∷ cs) flags h =
      told-pairs g same cs (slice_set flags (g c).0.0 (g c).1) (All-tail (λ x. (g x).1 ≡ f x.0.0) c cs h)
      ∙ ap (λ (fs : List Bool). fold (with_told f) fs (changed_edges cs)) (ap (λ (e : EdgeNo). slice_set flags e.0 (g c).1) (same c) ∙ ap (λ (b : Bool). slice_set flags c.0.0 b) (All-head (λ x. (g x).1 ≡ f x.0.0) c cs h))

-- ---- edits that are taken back

-- the live edges of the matrix before
pub former-live : (m : MatrixData) (changes : List (EdgeNo × Bool)) → All (λ c. c.1 ≡ live_of m c.0.0) changes → (taken_back m changes).live ≡ fold (with_told (λ e. not (live_of m e))) m.live (changed_edges changes)
former-live m changes h = told-pairs (λ e. not (live_of m e)) turned_round (λ c. refl) changes m.live (λ k d low. ap (λ (b : Bool). not b) (h k d low))

module _ (m : MatrixData) (changes : List (EdgeNo × Bool)) (within : All (λ c. c.0.0 < length m.live) changes) (turns : All (λ c. c.1 ≡ not (live_of m c.0.0)) changes) where
  abbrev made : MatrixData
  made = with_changes m changes

  itself : (c : EdgeNo × Bool) → c.0 ≡ c.0
  itself c = refl

  made-live : made.live ≡ fold (with_told (λ e. not (live_of m e))) m.live (changed_edges changes)
  made-live = same-map changes ∙ told-pairs (λ e. not (live_of m e)) (λ c. c) itself changes m.live turns where
    as-is : (cs : List (EdgeNo × Bool)) → cs ≡ map (λ c. c) cs
    as-is [] = refl
    as-is (c ∷ cs) = ap (λ (ds : List (EdgeNo × Bool)). c ∷ ds) (as-is cs)

    same-map : (cs : List (EdgeNo × Bool)) → fold with_live m.live cs ≡ fold with_live m.live (map (λ c. c) cs)
    same-map cs = ap (λ (ds : List (EdgeNo × Bool)). fold with_live m.live ds) (as-is cs)

  made-size : length made.live ≡ length m.live
  made-size = ap (λ (fs : List Bool). length fs) made-live ∙ told-size (λ e. not (live_of m e)) (changed_edges changes) m.live

  made-at : (k : ℕ) → k < length m.live → live_of made k ≡ (if is_in (changed_edges changes) (record { 0 = k }) then not (live_of m k) else live_of m k)
  made-at k low = ap (λ (fs : List Bool). get_or fs k false) made-live ∙ told-at (λ e. not (live_of m e)) (changed_edges changes) m.live k low

  listed : (k : ℕ) (d : EdgeNo × Bool) → k < length changes → is_in (changed_edges changes) (get_or changes k d).0 ≡ true
  listed k d low =
      list_any_at (λ (x : EdgeNo). x.0 == (get_or changes k d).0.0) (changed_edges changes) k d.0 (omega (arith, low, length-map changes (λ (c : EdgeNo × Bool). c.0)))
      (ap (λ (x : EdgeNo). x.0 == (get_or changes k d).0.0) (get_or-map (λ (c : EdgeNo × Bool). c.0) changes k d d.0 low) ∙ eq-eqb (get_or changes k d).0.0 (get_or changes k d).0.0 refl)

  chosen : (b x y : Bool) → b ≡ true → (if b then x else y) ≡ x
  chosen true x y e = refl
  chosen false x y e = absurd cc

  told-live : All (λ c. c.1 ≡ live_of made c.0.0) changes
  told-live k d low =
      let e = (get_or changes k d).0.0 in
      turns k d low ∙ sym (made-at e (within k d low) ∙ chosen (is_in (changed_edges changes) (record { 0 = e })) (not (live_of m e)) (live_of m e) (listed k d low))

  are-edits : AreEdits made changes
  are-edits = record { within = λ k d low. omega (arith, within k d low, made-size); live = told-live }

  twice : (b x y : Bool) → y ≡ (if b then not x else x) → (if b then not y else y) ≡ x
  twice true true y e = ap (λ (z : Bool). not z) e
  twice true false y e = ap (λ (z : Bool). not z) e
  twice false x y e = e

  again : (taken_back made changes).live ≡ m.live
  again =
      let f = λ (e : ℕ). not (live_of made e) in
      let es = changed_edges changes in
      let size = told-size f es made.live in
      former-live made changes told-live
      ∙ ext_get_or false (fold (with_told f) made.live es) m.live (size ∙ made-size)
      (λ k low. let below : k < length made.live = omega (arith, low, size) in
      told-at f es made.live k below ∙ twice (is_in es (record { 0 = k })) (live_of m k) (live_of made k) (made-at k (omega (arith, below, made-size))))

  pub edits-again : AreEdits made changes × (taken_back made changes ≡ m)
  edits-again = (are-edits, ap (λ (flags : List Bool). let x : MatrixData = record { live = flags; columns = m.columns } in x) again)

pub edits_again : EditsAreTakenBack
edits_again m changes within turns = edits-again m changes within turns
