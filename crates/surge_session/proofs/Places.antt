-- What there is before a statement, and before the next one.
use Rattle.std.proofs.Common.{◌≡◌, ◌≢◌, ◌∙◌, ◌+◌, ◌-◌, ◌<◌, ◌≤◌, ℕ, List, [], ◌∷◌, ◌++◌, length, take, drop, get_or, min, Option, Some, None, slice_get, slice_range, refl, sym, ap, subst, arith, append-nil, flat_map, Bool, true, false, inl, inr, is_some, All}
use Rattle.std.specs.Prelude.{sum_by, ◌==◌, ◌⊎◌, if◌then◌else◌}
use Rattle.std.proofs.Math.ListN.{set, length-set}
use Rattle.std.proofs.Math.Seq.{take-add}
use Rattle.std.proofs.lemmas.Bool.Decides.{eqb_tells, nat_tests}
use Rattle.std.proofs.lemmas.List.{length-take, take_min, drop_min, drop-take, get_or-set_same, get_or-set_other, map-append}
use Rattle.std.proofs.lemmas.List.Sums.{sum_by-append}
use Rattle.std.proofs.lemmas.Grind.{flat_map-append}
use Rattle.std.proofs.lemmas.Option.{slice_get_within, slice_get_past, get_or_from_slice_get}
use Rattle.graph_model.specs.GraphData.{GraphData}
use Rattle.edge_predicates.specs.declared.pred.ViewRule.{ViewRule}
use Rattle.gvdl_check.specs.declared.plan.ViewPlan.{ViewPlan}
use Rattle.gvdl_check.specs.declared.plan.CollectionPlan.{CollectionPlan}
use Rattle.gvdl_check.specs.declared.plan.RunPlan.{RunPlan}
use Rattle.gvdl_check.specs.declared.plan.Step.{Step}
use Rattle.gvdl_check.specs.declared.plan.Step.TheVariants as step
use Rattle.gvdl_check.specs.declared.plan.Plan.{Plan}
use Rattle.gvdl_check.specs.Steps.{gives, runs, views_at, runs_at}
use Rattle.view_matrix.specs.Matrices.{MatrixData, matrix_of, rule_column, rule_columns, with_views}
use Rattle.surge_session.specs.Output.{list_of, views_before, views_added, made_at, keeps, kept_as, kept_at}
use Rattle.surge_session.specs.Live.{LiveGraph, live_loaded, live_at, graph_at}
use Rattle.surge_session.specs.State.{rules_of, ShowsLive, Shows, MatricesAt, shown_graph}
use Rattle.surge_session.proofs.Growing.{one_more}
use Rattle.surge_session.proofs.Texts.{found}
use Rattle.surge_session.proofs.LiveFacts.{live_count, live_first}
use Rattle.surge_session.proofs.ViewEdges.{as_many, shown_from}

-- ---- one more statement

pub views_more : (p : Plan) (n place : ℕ) (s : Step) → slice_get p.steps n ≡ Some s → views_at p (n + 1) place ≡ views_at p n place + gives place s
views_more p n place s at =
    ap (sum_by (gives place)) (one_more p.steps n s (slice_get_within p.steps n s at) at) ∙ sum_by-append (gives place) (take n p.steps) (s ∷ []) ∙ omega arith

pub runs_more : (p : Plan) (n : ℕ) (s : Step) → slice_get p.steps n ≡ Some s → runs_at p (n + 1) ≡ runs_at p n + runs s
runs_more p n s at =
    ap (sum_by runs) (one_more p.steps n s (slice_get_within p.steps n s at) at) ∙ sum_by-append runs (take n p.steps) (s ∷ []) ∙ omega arith

pub kept_more : (p : Plan) (n : ℕ) (s : Step) → slice_get p.steps n ≡ Some s → kept_at p (n + 1) ≡ kept_at p n ++ keeps p s
kept_more p n s at =
    ap (flat_map (keeps p)) (one_more p.steps n s (slice_get_within p.steps n s at) at) ∙ flat_map-append (keeps p) (take n p.steps) (s ∷ [])
    ∙ ap (λ (x : List ℕ). kept_at p n ++ x) (append-nil (keeps p s))

-- a statement that keeps nothing
pub kept_same : (p : Plan) (n : ℕ) (s : Step) → slice_get p.steps n ≡ Some s → keeps p s ≡ [] → kept_at p (n + 1) ≡ kept_at p n
kept_same p n s at none = kept_more p n s at ∙ ap (λ (x : List ℕ). kept_at p n ++ x) none ∙ append-nil (kept_at p n)

-- a statement that gives no views
pub views_same : (p : Plan) (n place : ℕ) (s : Step) → slice_get p.steps n ≡ Some s → gives place s ≡ 0 → views_at p (n + 1) place ≡ views_at p n place
views_same p n place s at none = omega (arith, views_more p n place s at, none)

-- ---- the views of a collection

pub made_with : (p : Plan) (n place : ℕ) (c : Option CollectionPlan) → slice_get p.collections place ≡ c → made_at p n place ≡ list_of (λ (x : CollectionPlan). views_before p n x place) c
made_with p n place c at = ap (λ (o : Option CollectionPlan). list_of (λ (x : CollectionPlan). views_before p n x place) o) at

pub made_none : (p : Plan) (n place : ℕ) → length p.collections ≤ place → made_at p n place ≡ []
made_none p n place le = made_with p n place None (slice_get_past p.collections place le)

-- as many statements give the same views
pub made_same : (p : Plan) (n place : ℕ) → views_at p (n + 1) place ≡ views_at p n place → made_at p (n + 1) place ≡ made_at p n place
made_same p n place e = ap (λ (k : ℕ). list_of (λ (x : CollectionPlan). take k x.views) (slice_get p.collections place)) e

pub count_of : (p : Plan) (n place : ℕ) (c : CollectionPlan) → slice_get p.collections place ≡ Some c → length (made_at p n place) ≡ min (views_at p n place) (length c.views)
count_of p n place c at = ap (λ (views : List ViewPlan). length views) (made_with p n place (Some c) at) ∙ length-take (views_at p n place) c.views

pub count_within : (p : Plan) (n place : ℕ) (c : CollectionPlan) → slice_get p.collections place ≡ Some c → length (made_at p n place) ≤ length c.views
count_within p n place c at = omega (arith, count_of p n place c at)

pub count_rises : (p : Plan) (n place : ℕ) (c : CollectionPlan) → slice_get p.collections place ≡ Some c → views_at p n place ≤ views_at p (n + 1) place → length (made_at p n place) ≤ length (made_at p (n + 1) place)
count_rises p n place c at le = omega (arith, count_of p n place c at, count_of p (n + 1) place c at, le)

rises_by : (p : Plan) (n place : ℕ) (c : Option CollectionPlan) → slice_get p.collections place ≡ c → views_at p n place ≤ views_at p (n + 1) place → length (made_at p n place) ≤ length (made_at p (n + 1) place)
rises_by p n place None at le = omega (arith, ap (λ (views : List ViewPlan). length views) (made_with p n place None at))
rises_by p n place (Some c) at le = count_rises p n place c at le

-- a collection has no fewer views behind a statement
pub made_rises : (p : Plan) (n place : ℕ) (s : Step) → slice_get p.steps n ≡ Some s → length (made_at p n place) ≤ length (made_at p (n + 1) place)
made_rises p n place s at = rises_by p n place (slice_get p.collections place) refl (omega (arith, views_more p n place s at))

-- the first views of the collection, as many as it has
pub first_of : (p : Plan) (n place : ℕ) (c : CollectionPlan) → slice_get p.collections place ≡ Some c → take (length (made_at p n place)) c.views ≡ views_before p n c place
first_of p n place c at = ap (λ (k : ℕ). take k c.views) (count_of p n place c at) ∙ take_min (views_at p n place) c.views

pub first_range : (p : Plan) (n place : ℕ) (c : CollectionPlan) → slice_get p.collections place ≡ Some c → slice_range c.views 0 (length (made_at p n place)) ≡ views_before p n c place
first_range p n place c at = ap (λ (k : ℕ). take k c.views) (let e : length (made_at p n place) - 0 ≡ length (made_at p n place) = omega arith in e) ∙ first_of p n place c at

-- a part of a list, as the front of it less a shorter front
pub part : (views : List ViewPlan) (a b : ℕ) → a ≤ b → slice_range views a b ≡ drop a (take b views)
part views a b le = sym (drop-take a (b - a) views) ∙ ap (λ (k : ℕ). drop a (take k views)) (let e : a + (b - a) ≡ b = omega (arith, le) in e)

module _ (p : Plan) (n place : ℕ) (c : CollectionPlan) (at : slice_get p.collections place ≡ Some c) (le : views_at p n place ≤ views_at p (n + 1) place) where
  -- the views that were added are those of the matrix behind those that were there
  pub added_behind : slice_range c.views (length (made_at p n place)) (length (made_at p (n + 1) place)) ≡ drop (length (made_at p n place)) (made_at p (n + 1) place)
  added_behind =
      part c.views (length (made_at p n place)) (length (made_at p (n + 1) place)) (count_rises p n place c at le)
      ∙ ap (λ (views : List ViewPlan). drop (length (made_at p n place)) views) (first_of p (n + 1) place c at ∙ sym (made_with p (n + 1) place (Some c) at))

  fewer : length (made_at p n place) ≡ min (views_at p n place) (length (views_before p (n + 1) c place))
  fewer = omega (arith, le, count_of p n place c at, length-take (views_at p (n + 1) place) c.views)

  pub added_is : slice_range c.views (length (made_at p n place)) (length (made_at p (n + 1) place)) ≡ views_added p n c place
  added_is =
      added_behind ∙ ap (λ (views : List ViewPlan). drop (length (made_at p n place)) views) (made_with p (n + 1) place (Some c) at)
      ∙ ap (λ (k : ℕ). drop k (views_before p (n + 1) c place)) fewer ∙ drop_min (views_at p n place) (views_before p (n + 1) c place)

-- ---- the state behind a statement that gives no views

pub matrices_passed : (g : GraphData) (p : Plan) (n : ℕ) (made : List MatrixData) → ((place : ℕ) → views_at p (n + 1) place ≡ views_at p n place) → graph_at g p (n + 1) ≡ graph_at g p n → MatricesAt g p n made → MatricesAt g p (n + 1) made
matrices_passed g p n made views same is = record {
  all = is.all;
  shows = λ place m at. subst (λ (w : LiveGraph). ShowsLive w (rules_of (made_at p (n + 1) place)) m) (sym same)
      (subst (λ (vs : List ViewPlan). ShowsLive (graph_at g p n) (rules_of vs) m) (sym (made_same p n place (views place))) (is.shows place m at));
}

-- the run at this place is kept, if it has a name
pub keeps_of : (p : Plan) (place : ℕ) (run : Option RunPlan) → slice_get p.runs place ≡ run → keeps p (step.Run place) ≡ list_of (λ (r : RunPlan). kept_as place r.keep) run
keeps_of p place run at = ap (list_of (λ (r : RunPlan). kept_as place r.keep)) at

named : (place : ℕ) (name : Option (List ℕ)) → is_some name ≡ true → kept_as place name ≡ place ∷ []
named place None e = absurd cc
named place (Some name) e = refl

unnamed : (place : ℕ) (name : Option (List ℕ)) → is_some name ≡ false → kept_as place name ≡ []
unnamed place None e = refl
unnamed place (Some name) e = absurd cc

pub keeps_one : (p : Plan) (place : ℕ) (run : RunPlan) → slice_get p.runs place ≡ Some run → is_some run.keep ≡ true → keeps p (step.Run place) ≡ place ∷ []
keeps_one p place run at e = keeps_of p place (Some run) at ∙ named place run.keep e

pub keeps_none : (p : Plan) (place : ℕ) (run : RunPlan) → slice_get p.runs place ≡ Some run → is_some run.keep ≡ false → keeps p (step.Run place) ≡ []
keeps_none p place run at e = keeps_of p place (Some run) at ∙ unnamed place run.keep e

-- ---- the state behind a statement that gives views

other_views : (place other count : ℕ) → place ≢ other → (if place == other then count else 0) ≡ 0
other_views place other count ne = grind (arith, nat_tests)

its_views : (place count : ℕ) → (if place == place then count else 0) ≡ count
its_views place count = grind (arith, nat_tests)

-- so many views, and behind them so many more, as far as there are
more_of : (views : List ViewPlan) (before after count : ℕ) → after ≡ before + count
    → take before views ++ slice_range views (length (take before views)) (min (length views) (length (take before views) + count)) ≡ take after views
more_of views before after count e =
    let there = length (take before views) in
    let end = min (length views) (there + count) in
    let is : there ≡ min before (length views) = length-take before views in
    let clipped : end ≡ min after (length views) = omega (arith, is, e) in
    let whole : there + (end - there) ≡ end = omega (arith, is) in
    ap (λ (vs : List ViewPlan). vs ++ slice_range views there end) (sym (take_min before views) ∙ ap (λ (k : ℕ). take k views) (sym is))
    ∙ sym (take-add there (end - there) views) ∙ ap (λ (k : ℕ). take k views) (whole ∙ clipped) ∙ take_min after views

-- a matrix with more views shows them behind its own
shows_more : (w : LiveGraph) (before added after : List ViewPlan) (m : MatrixData) → ShowsLive w (rules_of before) m → before ++ added ≡ after → ShowsLive w (rules_of after) (with_views m w.graph (rules_of added))
shows_more w before added after m shows e = record {
  live = shows.live;
  columns =
      ap (λ (cs : List _). cs ++ rule_columns w.graph (rules_of added)) shows.columns
      ∙ sym (map-append (rule_column w.graph) (rules_of before) (rules_of added))
      ∙ ap (λ (rules : List ViewRule). rule_columns w.graph rules) (sym (map-append (λ (view : ViewPlan). view.rule) before added) ∙ ap rules_of e);
}

module _ (g : GraphData) (p : Plan) (n place count : ℕ) (c : CollectionPlan) (made : List MatrixData)
    (views : (other : ℕ) → views_at p (n + 1) other ≡ views_at p n other + (if place == other then count else 0))
    (same : graph_at g p (n + 1) ≡ graph_at g p n) (at : slice_get p.collections place ≡ Some c) (is : MatricesAt g p n made)
    (m : MatrixData) (m_at : slice_get made place ≡ Some m) where
  shown_here : ShowsLive (graph_at g p (n + 1)) (rules_of (made_at p (n + 1) place)) (with_views m g (rules_of (slice_range c.views (length m.columns) (min (length c.views) (length m.columns + count)))))
  shown_here =
      let before = views_before p n c place in
      let shows : ShowsLive (graph_at g p n) (rules_of before) m = subst (λ (vs : List ViewPlan). ShowsLive (graph_at g p n) (rules_of vs) m) (made_with p n place (Some c) at) (is.shows place m m_at) in
      let many : length m.columns ≡ length before = as_many (graph_at g p n) before m shows in
      let grows : views_at p (n + 1) place ≡ views_at p n place + count = views place ∙ ap (λ (k : ℕ). views_at p n place + k) (its_views place count) in
      let e : before ++ slice_range c.views (length m.columns) (min (length c.views) (length m.columns + count)) ≡ made_at p (n + 1) place =
      ap (λ (k : ℕ). before ++ slice_range c.views k (min (length c.views) (k + count))) many ∙ more_of c.views (views_at p n place) (views_at p (n + 1) place) count grows ∙ sym (made_with p (n + 1) place (Some c) at) in
      let now : ShowsLive (graph_at g p (n + 1)) (rules_of before) m = subst (λ (w : LiveGraph). ShowsLive w (rules_of before) m) (sym same) shows in
      shows_more (graph_at g p (n + 1)) before (slice_range c.views (length m.columns) (min (length c.views) (length m.columns + count))) (made_at p (n + 1) place) m now e

  shown_elsewhere : (other : ℕ) (x : MatrixData) → place ≢ other → slice_get made other ≡ Some x → ShowsLive (graph_at g p (n + 1)) (rules_of (made_at p (n + 1) other)) x
  shown_elsewhere other x ne h =
      subst (λ (w : LiveGraph). ShowsLive w (rules_of (made_at p (n + 1) other)) x) (sym same)
      (subst (λ (vs : List ViewPlan). ShowsLive (graph_at g p n) (rules_of vs) x) (sym (made_same p n other (omega (arith, views other, other_views place other count ne)))) (is.shows other x h))

  module _ (after : MatrixData) (grown : after ≡ with_views m g (rules_of (slice_range c.views (length m.columns) (min (length c.views) (length m.columns + count))))) where
    shown_at : (other : ℕ) (x : MatrixData) → ((place == other) ≡ true) × (place ≡ other) ⊎ ((place == other) ≡ false) × (place ≢ other) → slice_get (set made place after) other ≡ Some x → ShowsLive (graph_at g p (n + 1)) (rules_of (made_at p (n + 1) other)) x
    shown_at other x (inl h) e =
        let within : place < length made = slice_get_within made place m m_at in
        let got : x ≡ after = sym (get_or_from_slice_get (set made place after) place x x (ap (slice_get (set made place after)) h.1 ∙ e)) ∙ get_or-set_same made place after x within in
        subst (λ (k : ℕ). ShowsLive (graph_at g p (n + 1)) (rules_of (made_at p (n + 1) k)) x) h.1 (subst (λ (y : MatrixData). ShowsLive (graph_at g p (n + 1)) (rules_of (made_at p (n + 1) place)) y) (sym (got ∙ grown)) shown_here)
    shown_at other x (inr h) e =
        let within : other < length made = omega (arith, slice_get_within (set made place after) other x e, length-set made place after) in
        let got : x ≡ get_or made other x = sym (get_or_from_slice_get (set made place after) other x x e) ∙ get_or-set_other made place other after x (λ (y : other ≡ place). h.1 (sym y)) in
        shown_elsewhere other x h.1 (found made made other x refl within got)

    pub grown_at : MatricesAt g p (n + 1) (set made place after)
    grown_at = record {
      all = length-set made place after ∙ is.all;
      shows = λ other x e. shown_at other x (eqb_tells place other) e;
    }

pub grown_nothing : (g : GraphData) (p : Plan) (n place count : ℕ) (made : List MatrixData) → ((other : ℕ) → views_at p (n + 1) other ≡ views_at p n other + (if place == other then count else 0))
    → graph_at g p (n + 1) ≡ graph_at g p n → length p.collections ≤ place → MatricesAt g p n made → MatricesAt g p (n + 1) made
grown_nothing g p n place count made views same le is = record {
  all = is.all;
  shows = λ other m h.
      let lt : other < length made = slice_get_within made other m h in
      subst (λ (vs : List ViewPlan). ShowsLive (graph_at g p (n + 1)) (rules_of vs) m)
      (sym (made_same p n other (omega (arith, views other, other_views place other count (λ (e : place ≡ other). absurd (omega (arith, e, le, lt, is.all)))))))
      (subst (λ (w : LiveGraph). ShowsLive w (rules_of (made_at p n other)) m) (sym same) (is.shows other m h));
}

-- the rules of so many views behind those of the matrix, as far as there are
abbrev pub views_to_add : List ViewPlan → MatrixData → ℕ → List ViewRule
views_to_add views m count = rules_of (slice_range views (length m.columns) (min (length views) (length m.columns + count)))

-- ---- how many views the state shows

pub counted : (g : GraphData) (p : Plan) (n place : ℕ) (made : List MatrixData) (m : MatrixData) → MatricesAt g p n made → slice_get made place ≡ Some m → length m.columns ≡ length (made_at p n place)
counted g p n place made m is at = as_many (graph_at g p n) (made_at p n place) m (is.shows place m at)

-- it says of each edge of the graph whether it is live
pub live_size : (g : GraphData) (p : Plan) (n place : ℕ) (made : List MatrixData) (m : MatrixData) → MatricesAt g p n made → slice_get made place ≡ Some m → length m.live ≡ length g.ends
live_size g p n place made m is at = ap (λ (live : List Bool). length live) (is.shows place m at).live ∙ live_count g p n

module _ (g : GraphData) (p : Plan) (n place : ℕ) (c : CollectionPlan) (made : List MatrixData) (m : MatrixData)
    (at : slice_get p.collections place ≡ Some c) (is : MatricesAt g p n made) (m_at : slice_get made place ≡ Some m) where
  shows_all : ShowsLive (graph_at g p n) (rules_of (views_before p n c place)) m
  shows_all = subst (λ (vs : List ViewPlan). ShowsLive (graph_at g p n) (rules_of vs) m) (made_with p n place (Some c) at) (is.shows place m m_at)

  -- the first views of the collection, as many as its matrix has
  pub seen : slice_range c.views 0 (length m.columns) ≡ views_before p n c place
  seen = ap (λ (k : ℕ). slice_range c.views 0 k) (counted g p n place made m is m_at) ∙ first_range p n place c at

  pub shown_all : (views : List ViewPlan) → views ≡ views_before p n c place → Shows (graph_at g p n) m 0 views
  shown_all views e = subst (λ (vs : List ViewPlan). Shows (graph_at g p n) m 0 vs) (sym e) (shown_from (graph_at g p n) (views_before p n c place) m 0 (live_count g p n) shows_all)

  pub all_columns : (views : List ViewPlan) → views ≡ views_before p n c place → length m.columns ≡ length views
  all_columns views e = as_many (graph_at g p n) (views_before p n c place) m shows_all ∙ ap (λ (vs : List ViewPlan). length vs) (sym e)

  taken_is : take (length m.columns) c.views ≡ made_at p n place
  taken_is = ap (λ (k : ℕ). take k c.views) (counted g p n place made m is m_at) ∙ first_of p n place c at ∙ sym (made_with p n place (Some c) at)

  pub shows_taken : ShowsLive (graph_at g p n) (rules_of (take (length m.columns) c.views)) m
  shows_taken = subst (λ (vs : List ViewPlan). ShowsLive (graph_at g p n) (rules_of vs) m) (sym taken_is) (is.shows place m m_at)

  -- over the edges that are live in it
  pub shows_front : ShowsLive (shown_graph g m) (rules_of (take (length m.columns) c.views)) m
  shows_front = record { live = refl; columns = shows_taken.columns }

  pub columns_within : length m.columns ≤ length c.views
  columns_within = omega (arith, counted g p n place made m is m_at, count_within p n place c at)

-- ---- before the first statement

pub nothing_made : (p : Plan) (place : ℕ) → made_at p 0 place ≡ []
nothing_made p place = none (slice_get p.collections place) where
  none : (c : Option CollectionPlan) → list_of (λ (x : CollectionPlan). views_before p 0 x place) c ≡ []
  none None = refl
  none (Some c) = refl

empty_shows : (g : GraphData) (p : Plan) (m : MatrixData) → m ≡ matrix_of g (live_loaded g p) [] → ShowsLive (graph_at g p 0) [] m
empty_shows g p m e = record { live = ap (λ (x : MatrixData). x.live) e ∙ sym (live_first g p); columns = ap (λ (x : MatrixData). x.columns) e }

pub started_at : (g : GraphData) (p : Plan) (made : List MatrixData) → length made ≡ length p.collections → All (λ (m : MatrixData). m ≡ matrix_of g (live_loaded g p) []) made → MatricesAt g p 0 made
started_at g p made all empty = record {
  all = all;
  shows = λ place m at.
      let is : m ≡ matrix_of g (live_loaded g p) [] = sym (get_or_from_slice_get made place m m at) ∙ empty place m (slice_get_within made place m at) in
      subst (λ (vs : List ViewPlan). ShowsLive (graph_at g p 0) (rules_of vs) m) (sym (nothing_made p place)) (empty_shows g p m is);
}
