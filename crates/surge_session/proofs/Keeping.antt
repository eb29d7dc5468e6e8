-- The runs that are kept, before a statement and before the next one.
use Rattle.std.proofs.Common.{◌≡◌, ◌≢◌, ◌⊎◌, inl, inr, ◌∙◌, ◌+◌, ◌-◌, ◌<◌, ◌≤◌, ℕ, zero, suc, List, [], ◌∷◌, ◌++◌, length, map, take, get_or, All, Option, Some, None, slice_get, refl, sym, ap, subst, arith, append-nil, add-one, Bool, true, false, is_some}
use Rattle.std.specs.Prelude.{◌==◌, ◌&&◌, nat_lt, if◌then◌else◌}
use Rattle.std.specs.List.{range_with_len, last_or}
use Rattle.std.proofs.Math.ListN.{set, length-set}
use Rattle.std.proofs.lemmas.Bool.{ne_eqb, eq-eqb}
use Rattle.std.proofs.lemmas.Bool.Decides.{eqb_tells, nat_tests}
use Rattle.std.proofs.lemmas.List.{get_or-set_same, get_or-set_other, get_or_append_left, length-append, length-map, map-append}
use Rattle.std.proofs.lemmas.List.Elements.{All-append}
use Rattle.std.proofs.lemmas.Option.{slice_get_within, get_or_from_slice_get}
use Rattle.graph_model.specs.declared.number.EdgeNo.{EdgeNo}
use Rattle.graph_model.specs.declared.number.ViewNo.{ViewNo}
use Rattle.graph_model.specs.GraphData.{GraphData}
use Rattle.edge_predicates.specs.declared.pred.ViewRule.{ViewRule}
use Rattle.edge_predicates.specs.ViewEdges.{edge}
use Rattle.vertex_lang.specs.Expressions.{Answer}
use Rattle.gvdl_check.specs.declared.plan.ViewPlan.{ViewPlan}
use Rattle.gvdl_check.specs.declared.plan.RunPlan.{RunPlan}
use Rattle.gvdl_check.specs.declared.plan.Step.{Step}
use Rattle.gvdl_check.specs.declared.plan.Step.TheVariants as step
use Rattle.gvdl_check.specs.declared.plan.Plan.{Plan}
use Rattle.gvdl_check.specs.Fits.{PlanFits}
use Rattle.gvdl_check.specs.Steps.{edits, gives, runs, views_at, runs_at, StepFits}
use Rattle.view_matrix.specs.Matrices.{MatrixData, column_of, live_of, bit_of, all_edges, edges_in, rule_columns, with_views, IsView}
use Rattle.view_matrix.specs.ViewLaws.{same_kept}
use Rattle.view_order.specs.Greedy.{numbers}
use Rattle.view_engine.specs.declared.engine.Engine.{Engine}
use Rattle.view_turns.specs.Agreeing.{stands_by_edges}
use Rattle.view_versions.specs.declared.engine.VersionEngine.{VersionEngine}
use Rattle.view_versions.specs.Laws.{StandsWithMore}
use Rattle.surge_session.specs.declared.kept.Kept.{Kept}
use Rattle.surge_session.specs.declared.kept.RunEngine.{RunEngine}
use Rattle.surge_session.specs.declared.kept.RunEngine.TheVariants as run_engine
use Rattle.surge_session.specs.Live.{LiveGraph, graph_at, live_at}
use Rattle.surge_session.specs.Output.{made_at, keeps, kept_at, first_order, longer_order, order_after, order_at}
use Rattle.surge_session.specs.State.{IsFor, HasRun, HasFollowed, HasRunIn, order_in, IsKept, MatricesAt, IsAt, places_of}
use Rattle.surge_session.proofs.LiveFacts.{live_passed, graph_passed}
use Rattle.surge_session.proofs.Places.{keeps_one, runs_more, made_rises, matrices_passed, views_same, kept_more, kept_same}
use Rattle.surge_session.proofs.Texts.{found, any_default}

-- ---- the order of a run behind one more statement

pub order_more : (g : GraphData) (p : Plan) (run : RunPlan) (place n : ℕ) (s : Step) → slice_get p.steps n ≡ Some s → order_at g p run place (n + 1) ≡ order_after g p run place n (order_at g p run place n) (Some s)
unfolding order_at
order_more g p run place n s at = ap (order_at g p run place) (add-one n) ∙ ap (order_after g p run place n (order_at g p run place n)) at

-- a statement that leaves each order as it is, whatever it names
abbrev pub IsQuiet : Step → Type 0
IsQuiet (step.Run place) = ⊥
IsQuiet (step.Append place first count) = ⊥
IsQuiet _ = Unit {0}

quiet_after : (g : GraphData) (p : Plan) (run : RunPlan) (place n : ℕ) (before : List ℕ) (s : Step) → IsQuiet s → order_after g p run place n before (Some s) ≡ before
quiet_after g p run place n before step.Nothing q = refl
quiet_after g p run place n before (step.Make other count) q = refl
quiet_after g p run place n before (step.Run other) q = absurd q
quiet_after g p run place n before (step.Append other first count) q = absurd q
quiet_after g p run place n before (step.ShowOrder other) q = refl
quiet_after g p run place n before (step.ShowWork other) q = refl
quiet_after g p run place n before (step.ShowTree other) q = refl
quiet_after g p run place n before (step.Insert first count) q = refl
quiet_after g p run place n before (step.Remove rule) q = refl
quiet_after g p run place n before (step.Aggregate other by sum) q = refl

pub quiet_order : (g : GraphData) (p : Plan) (run : RunPlan) (place n : ℕ) (s : Step) → slice_get p.steps n ≡ Some s → IsQuiet s → order_at g p run place (n + 1) ≡ order_at g p run place n
quiet_order g p run place n s at q = order_more g p run place n s at ∙ quiet_after g p run place n (order_at g p run place n) s q

-- another run leaves it as it is
pub other_order : (g : GraphData) (p : Plan) (run : RunPlan) (place n other : ℕ) → slice_get p.steps n ≡ Some (step.Run other) → other ≢ place → order_at g p run place (n + 1) ≡ order_at g p run place n
other_order g p run place n other at ne =
    order_more g p run place n (step.Run other) at
    ∙ ap (λ (b : Bool). if b then first_order (graph_at g p (n + 1)) run (made_at p (n + 1) run.collection) else order_at g p run place n) (ne_eqb other place ne)

-- the run itself makes it
pub own_order : (g : GraphData) (p : Plan) (run : RunPlan) (place n : ℕ) → slice_get p.steps n ≡ Some (step.Run place) → order_at g p run place (n + 1) ≡ first_order (graph_at g p (n + 1)) run (made_at p (n + 1) run.collection)
own_order g p run place n at =
    order_more g p run place n (step.Run place) at
    ∙ ap (λ (b : Bool). if b then first_order (graph_at g p (n + 1)) run (made_at p (n + 1) run.collection) else order_at g p run place n) (eq-eqb place place refl)

less : (a b : ℕ) → a < b → nat_lt a b ≡ true
less a b lt = grind (arith, nat_tests)

pub longer : (g : GraphData) (p : Plan) (run : RunPlan) (place n first count : ℕ) → slice_get p.steps n ≡ Some (step.Append run.collection first count) → place < runs_at p n
    → order_at g p run place (n + 1) ≡ longer_order (graph_at g p (n + 1)) run (made_at p (n + 1) run.collection) (order_at g p run place n) (length (made_at p n run.collection))
longer g p run place n first count at lt =
    order_more g p run place n (step.Append run.collection first count) at
    ∙ ap (λ (b : Bool). if b && run.collection == run.collection then longer_order (graph_at g p (n + 1)) run (made_at p (n + 1) run.collection) (order_at g p run place n) (length (made_at p n run.collection)) else order_at g p run place n) (less place (runs_at p n) lt)
    ∙ ap (λ (b : Bool). if b then longer_order (graph_at g p (n + 1)) run (made_at p (n + 1) run.collection) (order_at g p run place n) (length (made_at p n run.collection)) else order_at g p run place n) (eq-eqb run.collection run.collection refl)

and_no : (b : Bool) → (b && false) ≡ false
and_no true = refl
and_no false = refl

pub elsewhere_order : (g : GraphData) (p : Plan) (run : RunPlan) (place n collection first count : ℕ) → slice_get p.steps n ≡ Some (step.Append collection first count) → collection ≢ run.collection
    → order_at g p run place (n + 1) ≡ order_at g p run place n
elsewhere_order g p run place n collection first count at ne =
    order_more g p run place n (step.Append collection first count) at
    ∙ ap (λ (b : Bool). if nat_lt place (runs_at p n) && b then longer_order (graph_at g p (n + 1)) run (made_at p (n + 1) run.collection) (order_at g p run place n) (length (made_at p n run.collection)) else order_at g p run place n) (ne_eqb collection run.collection ne)
    ∙ ap (λ (b : Bool). if b then longer_order (graph_at g p (n + 1)) run (made_at p (n + 1) run.collection) (order_at g p run place n) (length (made_at p n run.collection)) else order_at g p run place n) (and_no (nat_lt place (runs_at p n)))

-- ---- a kept run behind a statement that leaves its order as it is

pub kept_on : (answer : Answer) (g : GraphData) (p : Plan) (n : ℕ) (made : List MatrixData) (k : Kept) (s : Step) → slice_get p.steps n ≡ Some s → (is : IsKept answer g p n made k)
    → order_at g p is.run k.place (n + 1) ≡ order_at g p is.run k.place n → IsKept answer g p (n + 1) made k
kept_on answer g p n made k s at is same =
    let rises : length (made_at p n is.run.collection) ≤ length (made_at p (n + 1) is.run.collection) = made_rises p n is.run.collection s at in
    record {
      run = is.run;
      at = is.at;
      earlier = omega (arith, is.earlier, runs_more p n s at);
      named = is.named;
      unphased = is.unphased;
      matrix = is.matrix;
      shown = is.shown;
      has = is.has;
      order = is.order ∙ sym same;
      below = λ i d lt. let b = is.below i d lt in omega (arith, b, rises);
      count = omega (arith, is.count, rises);
    }

pub all_quiet : (answer : Answer) (g : GraphData) (p : Plan) (n : ℕ) (made : List MatrixData) (kept : List Kept) (s : Step) → slice_get p.steps n ≡ Some s → IsQuiet s
    → All (IsKept answer g p n made) kept → All (IsKept answer g p (n + 1) made) kept
all_quiet answer g p n made kept s at q all = λ i d lt.
    let is = all i d lt in
    kept_on answer g p n made (get_or kept i d) s at is (quiet_order g p is.run (get_or kept i d).place n s at q)

-- behind a statement that changes nothing
pub passed : (answer : Answer) (g : GraphData) (p : Plan) (n : ℕ) (live : List Bool) (made : List MatrixData) (kept : List Kept) (s : Step) → slice_get p.steps n ≡ Some s → IsQuiet s → edits s ≡ false → ((place : ℕ) → gives place s ≡ 0) → keeps p s ≡ []
    → IsAt answer g p n live made kept → IsAt answer g p (n + 1) live made kept
passed answer g p n live made kept s at q other none unkept is = record {
  live = is.live ∙ sym (live_passed g p n s at other);
  matrices = matrices_passed g p n made (λ place. views_same p n place s at (none place)) (graph_passed g p n s at other) is.matrices;
  places = is.places ∙ sym (kept_same p n s at unkept);
  each = all_quiet answer g p n made kept s at q is.each;
}

-- ---- a run that is kept

pub all_other : (answer : Answer) (g : GraphData) (p : Plan) (n place : ℕ) (made : List MatrixData) (kept : List Kept) → slice_get p.steps n ≡ Some (step.Run place) → place ≡ runs_at p n
    → All (IsKept answer g p n made) kept → All (IsKept answer g p (n + 1) made) kept
all_other answer g p n place made kept at new all = λ i d lt.
    let is = all i d lt in
    kept_on answer g p n made (get_or kept i d) (step.Run place) at is (other_order g p is.run (get_or kept i d).place n place at (λ e. absurd (omega (arith, e, new, is.earlier))))

one : {X : Type 0} (P : X → Type 0) (x : X) → P x → All P (x ∷ [])
one P x h zero d lt = h
one P x h (suc i) d lt = absurd (omega (arith, lt))

-- what was run are views of the matrix, where the run is in no phases
pub run_views_in : (answer : Answer) (g : GraphData) (run : RunPlan) (m : MatrixData) (engine : RunEngine) → run.phases ≡ None → HasRunIn answer g run m engine → All (IsView m) (order_in engine)
run_views_in answer g run m (run_engine.Plain e) unphased has = has.1.is.stands.views
run_views_in answer g run m (run_engine.Versions e) unphased has = has.1.stands.views
run_views_in answer g run m (run_engine.Phased results) unphased has = absurd (let e : None ≡ Some has.0 = sym unphased ∙ has.1.phases in cc)

pub one_kept_more : (answer : Answer) (g : GraphData) (p : Plan) (n place : ℕ) (live : List Bool) (made : List MatrixData) (kept : List Kept) (run : RunPlan) (engine : RunEngine) (m : MatrixData) (k : Kept) → k ≡ record { place = place; engine = engine }
    → slice_get p.steps n ≡ Some (step.Run place) → slice_get p.runs place ≡ Some run → is_some run.keep ≡ true → run.phases ≡ None → place ≡ runs_at p n → slice_get made run.collection ≡ Some m
    → HasRunIn answer g run m engine → numbers (order_in engine) ≡ order_at g p run place (n + 1) → length (order_in engine) ≤ length (made_at p n run.collection) → length m.columns ≡ length (made_at p n run.collection)
    → keeps p (step.Run place) ≡ place ∷ [] → IsAt answer g p n live made kept → IsAt answer g p (n + 1) live made (kept ++ k ∷ [])
one_kept_more answer g p n place live made kept run engine m k is_k at run_at called unphased new shown has ordered count columns named is =
    let rises : length (made_at p n run.collection) ≤ length (made_at p (n + 1) run.collection) = made_rises p n run.collection (step.Run place) at in
    let more : runs_at p (n + 1) ≡ runs_at p n + runs (step.Run place) = runs_more p n (step.Run place) at in
    let views : All (IsView m) (order_in engine) = run_views_in answer g run m engine unphased has in
    let kept_one : IsKept answer g p (n + 1) made (record { place = place; engine = engine }) = record {
      run = run;
      at = run_at;
      named = called;
      earlier = omega (arith, new, more);
      unphased = unphased;
      matrix = m;
      shown = shown;
      has = has;
      order = ordered;
      below = λ i d lt. let b = views i d lt in omega (arith, b, columns, rises);
      count = omega (arith, count, rises);
    } in
    record {
      live = is.live ∙ sym (live_passed g p n (step.Run place) at refl);
      matrices = matrices_passed g p n made (λ other. views_same p n other (step.Run place) at refl) (graph_passed g p n (step.Run place) at refl) is.matrices;
      places =
          map-append (λ (x : Kept). x.place) kept (k ∷ []) ∙ ap (λ (x : Kept). places_of kept ++ x.place ∷ []) is_k ∙ ap (λ (ps : List ℕ). ps ++ place ∷ []) is.places
          ∙ ap (λ (ps : List ℕ). kept_at p n ++ ps) (sym named) ∙ sym (kept_more p n (step.Run place) at);
      each =
          All-append (IsKept answer g p (n + 1) made) kept (k ∷ []) (all_other answer g p n place made kept at new is.each)
          (one (IsKept answer g p (n + 1) made) k (subst (λ (x : Kept). IsKept answer g p (n + 1) made x) (sym is_k) kept_one));
    }

pub unkept_more : (answer : Answer) (g : GraphData) (p : Plan) (n place : ℕ) (live : List Bool) (made : List MatrixData) (kept : List Kept) → slice_get p.steps n ≡ Some (step.Run place) → place ≡ runs_at p n → keeps p (step.Run place) ≡ []
    → IsAt answer g p n live made kept → IsAt answer g p (n + 1) live made kept
unkept_more answer g p n place live made kept at new unnamed is = record {
  live = is.live ∙ sym (live_passed g p n (step.Run place) at refl);
  matrices = matrices_passed g p n made (λ other. views_same p n other (step.Run place) at refl) (graph_passed g p n (step.Run place) at refl) is.matrices;
  places = is.places ∙ sym (kept_same p n (step.Run place) at unnamed);
  each = all_other answer g p n place made kept at new is.each;
}

-- ---- a matrix that grows

same_column : (m : MatrixData) (g : GraphData) (rules : List ViewRule) (v : ℕ) → v < length m.columns → column_of m v ≡ column_of (with_views m g rules) v
same_column m g rules v lt = sym (get_or_append_left m.columns (rule_columns g rules) [] v lt)

pub same_edges_in : (m : MatrixData) (g : GraphData) (rules : List ViewRule) (v : ℕ) → v < length m.columns → edges_in m v ≡ edges_in (with_views m g rules) v
same_edges_in m g rules v lt =
    same_kept (λ (e : EdgeNo). bit_of m e.0 v) (λ (e : EdgeNo). bit_of (with_views m g rules) e.0 v) 0 (length m.live)
    (λ e less. ap (λ (column : List Bool). live_of m e && get_or column e false) (same_column m g rules v lt))

all_cons : {X : Type 0} (P : X → Type 0) (x : X) (xs : List X) → P x → All P xs → All P (x ∷ xs)
all_cons P x xs p all zero d lt = p
all_cons P x xs p all (suc k) d lt = all k d (omega (arith, lt))

pub numbered : (P : ℕ → Type 0) (views : List ViewNo) → All (λ (v : ViewNo). P v.0) views → All P (numbers views)
numbered P [] all = λ i d lt. absurd (omega (arith, lt))
numbered P (v ∷ vs) all = all_cons P v.0 (numbers vs) (all 0 v (omega arith)) (numbered P vs (λ i d lt. all (suc i) d (omega (arith, lt))))

grown_run : (answer : Answer) (g : GraphData) (run : RunPlan) (m : MatrixData) (rules : List ViewRule) (order : List ℕ) (e : Engine) → HasRun answer g run m order e → HasRun answer g run (with_views m g rules) order e
grown_run answer g run m rules order e has =
    let is = has.is in
    let other = with_views m g rules in
    let columns : length other.columns ≡ length m.columns + length (rule_columns g rules) = length-append m.columns (rule_columns g rules) in
    let views : All (IsView other) e.order = λ i d lt. let v = is.stands.views i d lt in omega (arith, v, columns) in
    let same : All (λ (v : ℕ). edges_in m v ≡ edges_in other v) (numbers e.order) =
    numbered (λ (v : ℕ). edges_in m v ≡ edges_in other v) e.order (λ i d lt. same_edges_in m g rules (get_or e.order i d).0 (is.stands.views i d lt)) in
    record {
      is = record {
        engine = is.engine;
        fresh = is.fresh;
        stands = stands_by_edges answer m other e refl views same is.stands;
        order = is.order;
        graph = is.graph;
        program = is.program;
        rounds = is.rounds;
        split = is.split;
      };
      finished = has.finished;
      grows = has.grows;
      unphased = has.unphased;
    }

grown_followed : StandsWithMore → (answer : Answer) (g : GraphData) (run : RunPlan) (m : MatrixData) (rules : List ViewRule) (order : List ℕ) (e : VersionEngine) → HasFollowed answer g run m order e → HasFollowed answer g run (with_views m g rules) order e
grown_followed law answer g run m rules order e has = record {
  engine = has.engine;
  fresh = has.fresh;
  stands = law answer m e g rules has.stands;
  order = has.order;
  graph = has.graph;
  program = has.program;
  rounds = has.rounds;
  unphased = has.unphased;
}

grown_in : StandsWithMore → (answer : Answer) (g : GraphData) (run : RunPlan) (m : MatrixData) (rules : List ViewRule) (engine : RunEngine) → run.phases ≡ None → HasRunIn answer g run m engine → HasRunIn answer g run (with_views m g rules) engine
grown_in law answer g run m rules (run_engine.Plain e) unphased has = (has.0, grown_run answer g run m rules (numbers e.order) e has.1)
grown_in law answer g run m rules (run_engine.Versions e) unphased has = (has.0, grown_followed law answer g run m rules (numbers e.order) e has.1)
grown_in law answer g run m rules (run_engine.Phased results) unphased has = absurd (let e : None ≡ Some has.0 = sym unphased ∙ has.1.phases in cc)

module _ (law : StandsWithMore) (answer : Answer) (g : GraphData) (p : Plan) (n place : ℕ) (made : List MatrixData) (m after : MatrixData) (rules : List ViewRule) (m_at : slice_get made place ≡ Some m) (grown : after ≡ with_views m g rules) where
  moved : (k : Kept) → (is : IsKept answer g p n made k) → (x : MatrixData) → slice_get (set made place after) is.run.collection ≡ Some x → HasRunIn answer g is.run x k.engine → IsKept answer g p n (set made place after) k
  moved k is x at has = record { run = is.run; at = is.at; named = is.named; earlier = is.earlier; unphased = is.unphased; matrix = x; shown = at; has = has; order = is.order; below = is.below; count = is.count }

  kept_grown : (k : Kept) (is : IsKept answer g p n made k) → ((place == is.run.collection) ≡ true) × (place ≡ is.run.collection) ⊎ ((place == is.run.collection) ≡ false) × (place ≢ is.run.collection) → IsKept answer g p n (set made place after) k
  kept_grown k is (inl h) =
      let within : place < length made = slice_get_within made place m m_at in
      let its : is.matrix ≡ m = (let e : Some is.matrix ≡ Some m = sym is.shown ∙ ap (slice_get made) (sym h.1) ∙ m_at in cc) in
      let at : slice_get (set made place after) is.run.collection ≡ Some after =
      ap (slice_get (set made place after)) (sym h.1) ∙ found (set made place after) (set made place after) place after refl (omega (arith, within, length-set made place after)) (sym (get_or-set_same made place after after within)) in
      let has : HasRunIn answer g is.run m k.engine = subst (λ (x : MatrixData). HasRunIn answer g is.run x k.engine) its is.has in
      moved k is after at (subst (λ (x : MatrixData). HasRunIn answer g is.run x k.engine) (sym grown) (grown_in law answer g is.run m rules k.engine is.unphased has))
  kept_grown k is (inr h) =
      let c = is.run.collection in
      let within : c < length made = slice_get_within made c is.matrix is.shown in
      let same : get_or (set made place after) c is.matrix ≡ is.matrix = get_or-set_other made place c after is.matrix (λ (e : c ≡ place). h.1 (sym e)) ∙ get_or_from_slice_get made c is.matrix is.matrix is.shown in
      let at : slice_get (set made place after) c ≡ Some is.matrix = found (set made place after) (set made place after) c is.matrix refl (omega (arith, within, length-set made place after)) (sym same) in
      moved k is is.matrix at is.has

  pub all_grown : (kept : List Kept) → All (IsKept answer g p n made) kept → All (IsKept answer g p n (set made place after)) kept
  all_grown kept all = λ i d lt. let is = all i d lt in kept_grown (get_or kept i d) is (eqb_tells place is.run.collection)

-- ---- which runs are kept

pub all_left : {X : Type 0} (P : X → Type 0) (xs ys : List X) → All P (xs ++ ys) → All P xs
all_left P [] ys all = λ i d lt. absurd (omega (arith, lt))
all_left P (x ∷ xs) ys all = all_cons P x xs (all 0 x (omega arith)) (all_left P xs ys (λ i d lt. all (suc i) d (omega (arith, lt))))

pub all_right : {X : Type 0} (P : X → Type 0) (xs ys : List X) → All P (xs ++ ys) → All P ys
all_right P [] ys all = all
all_right P (x ∷ xs) ys all = all_right P xs ys (λ i d lt. all (suc i) d (omega (arith, lt)))

module _ (g : GraphData) (p : Plan) (fits : PlanFits g p) (place : ℕ) (run : RunPlan) (at : slice_get p.runs place ≡ Some run) (name : is_some run.keep ≡ true) where
  step_here : (n : ℕ) → n < length p.steps → slice_get p.steps n ≡ Some (get_or p.steps n step.Nothing)
  step_here n lt = found p.steps p.steps n (get_or p.steps n step.Nothing) refl lt (any_default p.steps n step.Nothing (get_or p.steps n step.Nothing) lt)

  its_own : (n other : ℕ) → other ≡ place → All (λ (k : ℕ). k ≢ place) (kept_at p n ++ keeps p (step.Run other)) → ⊥
  its_own n other same all =
      let named : keeps p (step.Run other) ≡ place ∷ [] = ap (λ (k : ℕ). keeps p (step.Run k)) same ∙ keeps_one p place run at name in
      let last : All (λ (k : ℕ). k ≢ place) (place ∷ []) = subst (λ (ks : List ℕ). All (λ (k : ℕ). k ≢ place) ks) named (all_right (λ (k : ℕ). k ≢ place) (kept_at p n) (keeps p (step.Run other)) all) in
      last 0 place (omega arith) refl

  by_step : (n : ℕ) (s : Step) → StepFits p n s → place < runs_at p n + runs s → (place < runs_at p n → All (λ (k : ℕ). k ≢ place) (kept_at p n) → ⊥) → All (λ (k : ℕ). k ≢ place) (kept_at p n ++ keeps p s) → ⊥
  by_step n step.Nothing f lt so_far all = so_far (omega (arith, lt)) (all_left (λ (k : ℕ). k ≢ place) (kept_at p n) [] all)
  by_step n (step.Make other count) f lt so_far all = so_far (omega (arith, lt)) (all_left (λ (k : ℕ). k ≢ place) (kept_at p n) [] all)
  by_step n (step.Run other) f lt so_far all =
      by_place n other (f.0) (eqb_tells other place) lt so_far all where
        by_place : (n other : ℕ) → other ≡ runs_at p n → ((other == place) ≡ true) × (other ≡ place) ⊎ ((other == place) ≡ false) × (other ≢ place) → place < runs_at p n + 1
            → (place < runs_at p n → All (λ (k : ℕ). k ≢ place) (kept_at p n) → ⊥) → All (λ (k : ℕ). k ≢ place) (kept_at p n ++ keeps p (step.Run other)) → ⊥
        by_place n other new (inl h) lt so_far all = its_own n other h.1 all
        by_place n other new (inr h) lt so_far all = so_far (omega (arith, lt, new, h.1)) (all_left (λ (k : ℕ). k ≢ place) (kept_at p n) (keeps p (step.Run other)) all)
  by_step n (step.Append other first count) f lt so_far all = so_far (omega (arith, lt)) (all_left (λ (k : ℕ). k ≢ place) (kept_at p n) [] all)
  by_step n (step.ShowOrder other) f lt so_far all = so_far (omega (arith, lt)) (all_left (λ (k : ℕ). k ≢ place) (kept_at p n) [] all)
  by_step n (step.ShowWork other) f lt so_far all = so_far (omega (arith, lt)) (all_left (λ (k : ℕ). k ≢ place) (kept_at p n) [] all)
  by_step n (step.ShowTree other) f lt so_far all = so_far (omega (arith, lt)) (all_left (λ (k : ℕ). k ≢ place) (kept_at p n) [] all)
  by_step n (step.Insert first count) f lt so_far all = so_far (omega (arith, lt)) (all_left (λ (k : ℕ). k ≢ place) (kept_at p n) [] all)
  by_step n (step.Remove rule) f lt so_far all = so_far (omega (arith, lt)) (all_left (λ (k : ℕ). k ≢ place) (kept_at p n) [] all)
  by_step n (step.Aggregate other by sum) f lt so_far all = so_far (omega (arith, lt)) (all_left (λ (k : ℕ). k ≢ place) (kept_at p n) [] all)

  -- a run with a name that was made before a statement is kept
  pub is_kept : (n : ℕ) → n ≤ length p.steps → place < runs_at p n → All (λ (k : ℕ). k ≢ place) (kept_at p n) → ⊥
  is_kept zero le lt all = absurd (omega (arith, lt))
  is_kept (suc n) le lt all =
      let within : n < length p.steps = omega (arith, le) in
      let s = get_or p.steps n step.Nothing in
      let more : runs_at p (suc n) ≡ runs_at p n + runs s = rw add-one at (runs_more p n s (step_here n within)) in
      let kept : kept_at p (suc n) ≡ kept_at p n ++ keeps p s = rw add-one at (kept_more p n s (step_here n within)) in
      by_step n s (fits.steps n within) (omega (arith, lt, more)) (is_kept n (omega (arith, le))) (subst (λ (ks : List ℕ). All (λ (k : ℕ). k ≢ place) ks) kept all)
