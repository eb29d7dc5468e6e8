-- The output of a plan as a change text comes back as the output of the plan without what it shows.
use Rattle.std.proofs.Common.{◌≡◌, ◌∙◌, ℕ, zero, suc, ◌+◌, ◌<◌, ◌≤◌, Bool, true, false, not, cond, List, [], ◌∷◌, ◌++◌, length, map, take, drop, flat_map, get_or, Option, Some, None, slice_get, refl, sym, ap, ap₂, subst, arith, add-one, append-nil, length-append, take-append-drop}
use Rattle.std.specs.Prelude.{All, sum_by}
use mathlib.Core.Path.{fun_ext}
use Rattle.std.proofs.lemmas.Grind.{flat_map-append}
use Rattle.std.proofs.lemmas.List.{take_all}
use Rattle.std.proofs.lemmas.List.Elements.{All-nil, All-append}
use Rattle.std.proofs.lemmas.List.Sums.{sum_by-cons}
use Rattle.graph_model.specs.GraphData.{GraphData}
use Rattle.vertex_lang.specs.Expressions.{Answer}
use Rattle.gvdl_check.specs.declared.plan.CollectionPlan.{CollectionPlan}
use Rattle.gvdl_check.specs.declared.plan.RunPlan.{RunPlan}
use Rattle.gvdl_check.specs.declared.plan.Step.{Step}
use Rattle.gvdl_check.specs.declared.plan.Step.TheVariants as step
use Rattle.gvdl_check.specs.declared.plan.Plan.{Plan}
use Rattle.gvdl_check.specs.Continued.{unmarked}
use Rattle.gvdl_check.specs.Shows.{IsUnshown, is_show, unshown}
use Rattle.gvdl_check.specs.Steps.{edits, gives, views_at}
use Rattle.gvdl_check.specs.UnshownLaws.{goes, stays}
use Rattle.result_tables.specs.declared.form.Form.{Form}
use Rattle.result_tables.specs.declared.form.Form.TheVariants as form
use Rattle.change_text.specs.Laws.{TablesAreBlocks, TablesComeBack}
use Rattle.surge_session.specs.Live.{LiveGraph, live_after, live_at, live_loaded}
use Rattle.surge_session.specs.Output.{Shown, kept_as, kept_at, keeps, list_of, step_text, tables_in, text_of, texts, view_shown}
use Rattle.surge_session.specs.Replays.{ComesBack}
use Rattle.surge_session.proofs.BlockRuns.{AreWhole, Whole, all_are, all_blocks, all_changes, tables_back}
use Rattle.surge_session.proofs.Blocks.{one_taken, split_at}
use Rattle.surge_session.proofs.LiveFacts.{live_first, live_next, live_passed}
use Rattle.surge_session.proofs.Pieces.{Stage, all_hold, pieces, show_is, stage_at, text_is, unmarked_same}
use Rattle.surge_session.proofs.Shows.{edits_none, gives_none, keeps_none}
use Rattle.surge_session.proofs.Texts.{at_place, one_step_more, step_is}

-- ---- lists

own_front : {X : Type 0} (xs ys : List X) → take (length xs) (xs ++ ys) ≡ xs
own_front [] ys = refl
own_front {X} (x ∷ xs) ys = ap (λ (zs : List X). x ∷ zs) (own_front xs ys)

own_place : {X : Type 0} (xs : List X) (y : X) (ys : List X) → slice_get (xs ++ y ∷ ys) (length xs) ≡ Some y
own_place [] y ys = refl
own_place (x ∷ xs) y ys = own_place xs y ys

place_is : {X : Type 0} (xs : List X) (i : ℕ) (x : X) → slice_get xs i ≡ Some x → (i < length xs) × (x ≡ get_or xs i x)
place_is [] i x e = absurd cc
place_is (y ∷ xs) zero x e = (omega arith, (let same : Some y ≡ Some x = e in let is : y ≡ x = cc in sym is))
place_is (y ∷ xs) (suc i) x e = let rest = place_is xs i x e in (omega (arith, rest.0), rest.1)

-- ---- steps that show something count for nothing

by_show : (P : List Step → Type 0) (s : Step) (steps : List Step) → (is_show s ≡ true → P steps) → (is_show s ≡ false → P (s ∷ steps)) → P (cond (not (is_show s)) (s ∷ steps) steps)
by_show P s steps gone kept = by (is_show s) gone kept where
  by : (b : Bool) → (b ≡ true → P steps) → (b ≡ false → P (s ∷ steps)) → P (cond (not b) (s ∷ steps) steps)
  by true gone kept = gone refl
  by false gone kept = kept refl

gives_same : (place : ℕ) (steps : List Step) → sum_by (gives place) (unshown steps) ≡ sum_by (gives place) steps
gives_same place [] = refl
gives_same place (s ∷ steps) =
    by_show (λ ss. sum_by (gives place) ss ≡ sum_by (gives place) (s ∷ steps)) s (unshown steps)
    (λ shows. omega (arith, gives_same place steps, gives_none place s shows, sum_by-cons (gives place) s steps))
    (λ none. omega (arith, gives_same place steps, sum_by-cons (gives place) s steps, sum_by-cons (gives place) s (unshown steps)))

module _ (p q : Plan) (less : IsUnshown p q) where
  keeps_same : (s : Step) → keeps q s ≡ keeps p s
  keeps_same (step.Run place) =
      let f : RunPlan → List ℕ = λ run. kept_as place run.keep in
      unmarked_same f (λ run. refl) q.runs place ∙ ap (λ (rs : List RunPlan). list_of f (slice_get rs place)) less.runs ∙ sym (unmarked_same f (λ run. refl) p.runs place)
  keeps_same step.Nothing = refl
  keeps_same (step.Make other count) = refl
  keeps_same (step.Append other first count) = refl
  keeps_same (step.ShowOrder other) = refl
  keeps_same (step.ShowWork other) = refl
  keeps_same (step.ShowTree other) = refl
  keeps_same (step.Insert first count) = refl
  keeps_same (step.Remove rule) = refl
  keeps_same (step.Aggregate other by sum) = refl

  kept_same : (steps : List Step) → flat_map (keeps q) (unshown steps) ≡ flat_map (keeps p) steps
  kept_same [] = refl
  kept_same (s ∷ steps) =
      by_show (λ ss. flat_map (keeps q) ss ≡ flat_map (keeps p) (s ∷ steps)) s (unshown steps)
      (λ shows. kept_same steps ∙ ap (λ (ps : List ℕ). ps ++ flat_map (keeps p) steps) (sym (keeps_none p s shows)))
      (λ none. ap₂ (λ (a b : List ℕ). a ++ b) (keeps_same s) (kept_same steps))

  -- ---- a statement of the first plan, and its place in the second

  -- how many statements of the second plan stand before it
  abbrev place_of : ℕ → ℕ
  place_of n = length (unshown (take n p.steps))

  front : (n : ℕ) → n ≤ length p.steps → take (place_of n) q.steps ≡ unshown (take n p.steps)
  front n le =
      let before = take n p.steps in
      ap (take (place_of n)) (less.steps ∙ ap unshown (sym (take-append-drop n p.steps)) ∙ parts before (drop n p.steps)) ∙ own_front (unshown before) (unshown (drop n p.steps)) where
        parts : (a b : List Step) → unshown (a ++ b) ≡ unshown a ++ unshown b
        parts [] b = refl
        parts (s ∷ a) b =
            by_show (λ ss. cond (not (is_show s)) (s ∷ unshown (a ++ b)) (unshown (a ++ b)) ≡ ss ++ unshown b) s (unshown a)
            (λ shows. ap (λ (x : Bool). cond (not x) (s ∷ unshown (a ++ b)) (unshown (a ++ b))) shows ∙ parts a b)
            (λ none. ap (λ (x : Bool). cond (not x) (s ∷ unshown (a ++ b)) (unshown (a ++ b))) none ∙ ap (λ (ss : List Step). s ∷ ss) (parts a b))

  views_same : (n place : ℕ) → n ≤ length p.steps → views_at q (place_of n) place ≡ views_at p n place
  views_same n place le = ap (sum_by (gives place)) (front n le) ∙ gives_same place (take n p.steps)

  same_kept : (n : ℕ) → n ≤ length p.steps → kept_at q (place_of n) ≡ kept_at p n
  same_kept n le = ap (flat_map (keeps q)) (front n le) ∙ kept_same (take n p.steps)

  module _ (n : ℕ) (s : Step) (at : slice_get p.steps n ≡ Some s) where
    within : n < length p.steps
    within = (place_is p.steps n s at).0

    one_more : take (n + 1) p.steps ≡ take n p.steps ++ s ∷ []
    one_more = ap (λ (k : ℕ). take k p.steps) (add-one n) ∙ one_taken p.steps n s within (place_is p.steps n s at).1

    -- a step that shows something has no place of its own
    place_same : is_show s ≡ true → place_of (n + 1) ≡ place_of n
    place_same shows = ap (λ (ss : List Step). length (unshown ss)) one_more ∙ ap (λ (ss : List Step). length ss) (goes (take n p.steps) s shows ∙ append-nil (unshown (take n p.steps)))

    place_more : is_show s ≡ false → place_of (n + 1) ≡ place_of n + 1
    place_more none = ap (λ (ss : List Step). length (unshown ss)) one_more ∙ ap (λ (ss : List Step). length ss) (stays (take n p.steps) s none) ∙ length-append (unshown (take n p.steps)) (s ∷ [])

    at_there : is_show s ≡ false → slice_get q.steps (place_of n) ≡ Some s
    at_there none =
        let before = take n p.steps in
        let rest = drop (suc n) p.steps in
        ap (λ (ss : List Step). slice_get ss (place_of n))
        (less.steps ∙ ap unshown (split_at p.steps n s within (place_is p.steps n s at).1) ∙ whole before rest)
        ∙ own_place (unshown before) s (unshown rest) where
          whole : (a b : List Step) → unshown (a ++ s ∷ b) ≡ unshown a ++ s ∷ unshown b
          whole [] b = ap (λ (x : Bool). cond (not x) (s ∷ unshown b) (unshown b)) none
          whole (x ∷ a) b =
              by_show (λ ss. cond (not (is_show x)) (x ∷ unshown (a ++ s ∷ b)) (unshown (a ++ s ∷ b)) ≡ ss ++ s ∷ unshown b) x (unshown a)
              (λ shows. ap (λ (y : Bool). cond (not y) (x ∷ unshown (a ++ s ∷ b)) (unshown (a ++ s ∷ b))) shows ∙ whole a b)
              (λ hidden. ap (λ (y : Bool). cond (not y) (x ∷ unshown (a ++ s ∷ b)) (unshown (a ++ s ∷ b))) hidden ∙ ap (λ (ss : List Step). x ∷ ss) (whole a b))

  -- ---- the edges that are live

  module _ (g : GraphData) where
    live_both : (n : ℕ) (s : Step) → slice_get p.steps n ≡ Some s → live_at g q (place_of n) ≡ live_at g p n → live_at g q (place_of (n + 1)) ≡ live_at g p (n + 1)
    live_both n s at same = by (is_show s) refl where
      by : (b : Bool) → is_show s ≡ b → live_at g q (place_of (n + 1)) ≡ live_at g p (n + 1)
      by true shows = ap (live_at g q) (place_same n s at shows) ∙ same ∙ sym (live_passed g p n s at (edits_none s shows))
      by false none =
          ap (live_at g q) (place_more n s at none) ∙ live_next g q (place_of n) (Some s) (at_there n s at none)
          ∙ ap (λ (live : List Bool). live_after g live (Some s)) same ∙ sym (live_next g p n (Some s) at)

    live_same : (n : ℕ) → n ≤ length p.steps → live_at g q (place_of n) ≡ live_at g p n
    live_same zero le = live_first g q ∙ ap (λ (k : ℕ). live_loaded g (record q { loaded = k })) less.loaded ∙ sym (live_first g p)
    live_same (suc n) le =
        let s = at_place p.steps n (omega (arith, le)) in
        subst (λ (k : ℕ). live_at g q (place_of k) ≡ live_at g p k) (add-one n) (live_both n s.0 s.1 (live_same n (omega (arith, le))))

    -- ---- what a statement finds

    stage_same : (n : ℕ) (s : Step) → slice_get p.steps n ≡ Some s → is_show s ≡ false → stage_at g q (place_of n) ≡ stage_at g p n
    stage_same n s at none =
        let m = place_of n in
        let lt : n < length p.steps = within n s at in
        let le : n ≤ length p.steps = omega (arith, lt) in
        let behind : m + 1 ≡ place_of (n + 1) = sym (place_more n s at none) in
        let live : live_at g q (m + 1) ≡ live_at g p (n + 1) = ap (live_at g q) behind ∙ live_same (n + 1) (omega (arith, lt)) in
        let before_views : views_at q m ≡ views_at p n = fun_ext (λ place. views_same n place le) in
        let behind_views : views_at q (m + 1) ≡ views_at p (n + 1) = fun_ext (λ place. ap (λ (k : ℕ). views_at q k place) behind ∙ views_same (n + 1) place (omega (arith, lt))) in
        let make : List Bool → List RunPlan → List CollectionPlan → (ℕ → ℕ) → (ℕ → ℕ) → List ℕ → Stage = λ alive runs collections before after kept.
        record { graph = record { graph = g; live = alive }; runs = runs; collections = collections; before = before; behind = after; kept = kept } in
        ap (λ (x : List Bool). make x (map unmarked q.runs) q.collections (views_at q m) (views_at q (m + 1)) (kept_at q m)) live
        ∙ ap (λ (x : List RunPlan). make (live_at g p (n + 1)) x q.collections (views_at q m) (views_at q (m + 1)) (kept_at q m)) less.runs
        ∙ ap (λ (x : List CollectionPlan). make (live_at g p (n + 1)) (map unmarked p.runs) x (views_at q m) (views_at q (m + 1)) (kept_at q m)) less.collections
        ∙ ap (λ (x : ℕ → ℕ). make (live_at g p (n + 1)) (map unmarked p.runs) p.collections x (views_at q (m + 1)) (kept_at q m)) before_views
        ∙ ap (λ (x : ℕ → ℕ). make (live_at g p (n + 1)) (map unmarked p.runs) p.collections (views_at p n) x (kept_at q m)) behind_views
        ∙ ap (λ (x : List ℕ). make (live_at g p (n + 1)) (map unmarked p.runs) p.collections (views_at p n) (views_at p (n + 1)) x) (same_kept n le)

    -- ---- all statements

    module _ (answer : Answer) (come_back : TablesComeBack) (are_blocks : TablesAreBlocks)
        (each : (n place other : ℕ) (run : RunPlan) (c : CollectionPlan) → slice_get (map unmarked p.runs) place ≡ Some run → slice_get p.collections other ≡ Some c
        → All (λ view. Whole g come_back are_blocks (view_shown answer (stage_at g p n).graph run c.name view)) c.views) where
      -- the tables of the first statements, and their texts
      record Upto (n : ℕ) : Type 0 where
        lists : List (List Shown)
        whole : AreWhole g come_back are_blocks lists
        changes : texts answer form.Changes g p n ≡ flat_map (tables_in form.Changes g) lists
        tables : texts answer form.Tables g q (place_of n) ≡ flat_map (tables_in form.Tables g) lists

      shown_more : (n : ℕ) (s : Step) → slice_get p.steps n ≡ Some s → is_show s ≡ true → Upto n → Upto (n + 1)
      shown_more n s at shows before = record {
        lists = before.lists;
        whole = before.whole;
        changes = one_step_more answer form.Changes g p n
            ∙ ap (λ (text : List ℕ). texts answer form.Changes g p n ++ text) (step_is answer form.Changes g p n s at ∙ show_is answer g p n s shows)
            ∙ append-nil (texts answer form.Changes g p n) ∙ before.changes;
        tables = ap (texts answer form.Tables g q) (place_same n s at shows) ∙ before.tables;
      }

      told_more : (n : ℕ) (s : Step) → slice_get p.steps n ≡ Some s → is_show s ≡ false → Upto n → Upto (n + 1)
      told_more n s at none before =
          let more : List (List Shown) = pieces answer (stage_at g p n) s in
          let m = place_of n in
          let there : pieces answer (stage_at g q m) s ≡ more = ap (λ (a : Stage). pieces answer a s) (stage_same n s at none) in
          record {
            lists = before.lists ++ more;
            whole = All-append (All (Whole g come_back are_blocks)) before.lists more before.whole (all_hold answer (stage_at g p n) (Whole g come_back are_blocks) (each n) s);
            changes = one_step_more answer form.Changes g p n
                ∙ ap₂ (λ (a b : List ℕ). a ++ b) before.changes (step_is answer form.Changes g p n s at ∙ text_is answer form.Changes g p n s none)
                ∙ sym (flat_map-append (tables_in form.Changes g) before.lists more);
            tables = ap (texts answer form.Tables g q) (place_more n s at none) ∙ one_step_more answer form.Tables g q m
                ∙ ap₂ (λ (a b : List ℕ). a ++ b) before.tables (step_is answer form.Tables g q m s (at_there n s at none) ∙ text_is answer form.Tables g q m s none ∙ ap (flat_map (tables_in form.Tables g)) there)
                ∙ sym (flat_map-append (tables_in form.Tables g) before.lists more);
          }

      upto : (n : ℕ) → n ≤ length p.steps → Upto n
      upto zero le = record { lists = []; whole = All-nil (All (Whole g come_back are_blocks)); changes = refl; tables = refl }
      upto (suc n) le =
          let s = at_place p.steps n (omega (arith, le)) in
          subst Upto (add-one n) (by s.0 s.1 (upto n (omega (arith, le))) (is_show s.0) refl) where
            by : (s : Step) → slice_get p.steps n ≡ Some s → Upto n → (b : Bool) → is_show s ≡ b → Upto (n + 1)
            by s at before true e = shown_more n s at e before
            by s at before false e = told_more n s at e before

      place_last : place_of (length p.steps) ≡ length q.steps
      place_last = ap (λ (ss : List Step). length (unshown ss)) (take_all (length p.steps) p.steps (omega arith)) ∙ ap (λ (ss : List Step). length ss) (sym less.steps)

      pub comes_back : ComesBack answer g p q
      comes_back =
          let all = upto (length p.steps) (omega arith) in
          record {
            blocks = all_blocks g come_back are_blocks all.lists;
            changes = record { are = all_are g come_back are_blocks all.lists all.whole None; text_is = all.changes ∙ all_changes g come_back are_blocks all.lists };
            tables = tables_back g come_back are_blocks all.lists all.whole ∙ sym all.tables ∙ ap (texts answer form.Tables g q) place_last;
          }
