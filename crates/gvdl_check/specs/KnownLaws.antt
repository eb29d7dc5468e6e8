-- What is known after a statement fits the graph, and is little more than what was known before it.
use Rattle.std.proofs.Common.{◌≡◌, ◌∙◌, ℕ, ◌+◌, ◌<◌, ◌≤◌, Bool, true, false, List, [], ◌∷◌}
use Rattle.std.proofs.Common.{◌++◌, length, zero, suc}
use Rattle.std.proofs.Common.{refl, sym, ap, subst, arith, length-append, cond, Option, None, Some}
use Rattle.std.proofs.Common.{Ok, inl, inr}
use Rattle.std.specs.Prelude.{All, bytes_eq, codes, not, nat_lt, get_or, take}
use Rattle.std.specs.List.{sum_by}
use Rattle.std.proofs.lemmas.Bool.{cases_lt}
use Rattle.std.proofs.lemmas.Bool.Decides.{nat_tests}
use Rattle.std.proofs.lemmas.List.{get_or_past, length-set}
use Rattle.std.proofs.lemmas.List.Elements.{All-nil, All-cons, All-head, All-tail, All-push}
use Rattle.std.proofs.lemmas.List.Elements.{All-set, All-get_or, All-weaker}
use Rattle.graph_model.specs.GraphData.{GraphData}
use Rattle.gvdl_tree.specs.declared.predicate.PredTree.{PredTree}
use Rattle.gvdl_tree.specs.declared.expression.ExprTree.{ExprTree}
use Rattle.gvdl_tree.specs.declared.script.Along.{Along}
use Rattle.gvdl_tree.specs.declared.script.Call.{Call}
use Rattle.gvdl_tree.specs.declared.script.Gather.{Gather}
use Rattle.gvdl_tree.specs.declared.script.Item.{Item}
use Rattle.gvdl_tree.specs.declared.script.Statement.{Statement}
use Rattle.gvdl_tree.specs.declared.script.Statement.TheVariants as statement
use Rattle.edge_predicates.specs.declared.pred.Pred.{Pred}
use Rattle.vertex_lang.specs.declared.program.Program.{Program}
use Rattle.vertex_lang.specs.Values.{lowest_number}
use Rattle.vertex_lang.specs.Leaves.{HoldsNumber, IsChecked}
use Rattle.gvdl_programs.specs.declared.refusal.Refusal.{Refusal}
use Rattle.gvdl_programs.specs.declared.refusal.Refusal.TheVariants as refusal
use Rattle.gvdl_programs.specs.declared.template.ProgramTemplate.{ProgramTemplate}
use Rattle.gvdl_programs.specs.declared.template.Callable.{Callable}
use Rattle.gvdl_programs.specs.declared.template.Callable.TheVariants as callable
use Rattle.gvdl_programs.specs.Judging.{Judged, ◌>>=◌, expect}
use Rattle.gvdl_programs.specs.JudgingLaws.{Through, through, same_value}
use Rattle.gvdl_programs.specs.Columns.{column_of, int_column}
use Rattle.gvdl_programs.specs.Programs.{declared}
use Rattle.gvdl_programs.specs.Calls.{HasNoLowest, ArgFits, called}
use Rattle.gvdl_programs.specs.Fits.{ProgramFits}
use Rattle.gvdl_programs.specs.ProgramLaws.{declared_fits, called_checked}
use Rattle.gvdl_programs.specs.NumberLaws.{called_numbers}
use Rattle.gvdl_programs.specs.ArgumentLaws.{called_arguments}
use Rattle.gvdl_check.specs.declared.call.Limits.{Limits}
use Rattle.gvdl_check.specs.declared.statement.Moment.{Moment}
use Rattle.gvdl_check.specs.declared.names.Meaning.{Meaning}
use Rattle.gvdl_check.specs.declared.names.Meaning.TheVariants as meaning
use Rattle.gvdl_check.specs.declared.plan.ViewPlan.{ViewPlan}
use Rattle.gvdl_check.specs.declared.plan.CollectionPlan.{CollectionPlan}
use Rattle.gvdl_check.specs.declared.plan.RunPlan.{RunPlan}
use Rattle.gvdl_check.specs.declared.plan.Step.{Step}
use Rattle.gvdl_check.specs.declared.plan.Step.TheVariants as step
use Rattle.gvdl_check.specs.declared.known.Known.{Known}
use Rattle.gvdl_check.specs.Known.{first_names, loaded, with_step, with_single, collection_plan}
use Rattle.gvdl_check.specs.Known.{with_collection}
use Rattle.gvdl_check.specs.Known.{collection_at, views_in, with_views, append_step, with_append}
use Rattle.gvdl_check.specs.Known.{with_program, with_insert, with_run}
use Rattle.gvdl_check.specs.Names.{NameList, meaning_of, new_name, base_of, as_collection}
use Rattle.gvdl_check.specs.Names.{collection_of, as_kept, kept_of}
use Rattle.gvdl_check.specs.Names.{as_program, program_named, known_program, program_of}
use Rattle.gvdl_check.specs.Predicates.{predicate}
use Rattle.gvdl_check.specs.Singles.{rules_at}
use Rattle.gvdl_check.specs.Views.{items_added}
use Rattle.gvdl_check.specs.Plans.{load, single, collection, views_appended, append, program}
use Rattle.gvdl_check.specs.Plans.{order_of, keep_of, kept_among, keep_added}
use Rattle.gvdl_check.specs.Plans.{run_plan, program_meant, limits_meant, run_planned, run, limits_of}
use Rattle.gvdl_check.specs.Plans.{remove, sum_of, aggregate, show_order, show_tree, show_work, statement_added}
use Rattle.gvdl_check.specs.Steps.{makes, runs, comes, StepsFit}
use Rattle.gvdl_check.specs.Fits.{fits, RuleFits, ViewsFit, RunFits, MeaningFits}
use Rattle.gvdl_check.specs.Fits.{SumFits, ColumnsFit, CountsFit, KnownFits, IsSmall}
use Rattle.gvdl_check.specs.RuleLaws.{column_found, int_column_found, predicate_fits}
use Rattle.gvdl_check.specs.ViewLaws.{none_fits, views_fit, views_grow}
use Rattle.gvdl_check.specs.StepLaws.{quiet_fits, run_fits, make_fits, append_fits}
use Rattle.gvdl_check.specs.CountLaws.{quiet_counts, insert_counts, run_counts}
use Rattle.gvdl_check.specs.WayLaws.{IsUnkept, keep_unkept, both_kept, Way, way_phases, way_fits}

abbrev NameFits : GraphData → (collections runs : ℕ) → List ℕ × Meaning → Type 0
NameFits g n m taken = MeaningFits g n m taken.1

-- ---- names

named : (P : Meaning → Type 0) (names : NameList) (name : List ℕ) (m : Meaning) → All (λ e. P e.1) names
    → meaning_of names name ≡ Some m → P m
named P [] name m h e = absurd cc
named P (taken ∷ more) name m h e =
    by (bytes_eq name taken.0) (named P more name m (All-tail (λ (e : List ℕ × Meaning). P e.1) taken more h)) e where
      by : (b : Bool) → (meaning_of more name ≡ Some m → P m) → cond b (Some taken.1) (meaning_of more name) ≡ Some m → P m
      by true later e =
          let same : taken.1 ≡ m = cc in
          subst P same (All-head (λ (e : List ℕ × Meaning). P e.1) taken more h)
      by false later e = later e

collected : (g : GraphData) (n m : ℕ) (o : Option Meaning) (found : ℕ × Option ℕ)
    → ((x : Meaning) → o ≡ Some x → MeaningFits g n m x) → as_collection o ≡ Ok found → found.0 < n
collected g n m None found h e = absurd cc
collected g n m (Some (meaning.Program p)) found h e = absurd cc
collected g n m (Some (meaning.Base base)) found h e = absurd cc
collected g n m (Some (meaning.Collection place base)) found h e =
    subst (λ (f : ℕ × Option ℕ). f.0 < n) (same_value (place, base) found e) (h (meaning.Collection place base) refl)
collected g n m (Some (meaning.Kept place)) found h e = absurd cc

kept : (g : GraphData) (n m : ℕ) (o : Option Meaning) (place : ℕ)
    → ((x : Meaning) → o ≡ Some x → MeaningFits g n m x) → as_kept o ≡ Ok place → place < m
kept g n m None place h e = absurd cc
kept g n m (Some (meaning.Program p)) place h e = absurd cc
kept g n m (Some (meaning.Base base)) place h e = absurd cc
kept g n m (Some (meaning.Collection other base)) place h e = absurd cc
kept g n m (Some (meaning.Kept other)) place h e =
    subst (λ (k : ℕ). k < m) (same_value other place e) (h (meaning.Kept other) refl)

meant : (g : GraphData) (n m : ℕ) (o : Option Meaning) (c : Callable)
    → ((x : Meaning) → o ≡ Some x → MeaningFits g n m x) → as_program o ≡ Some c → ProgramFits g c
meant g n m None c h e = absurd cc
meant g n m (Some (meaning.Program other)) c h e =
    let same : other ≡ c = cc in subst (ProgramFits g) same (h (meaning.Program other) refl)
meant g n m (Some (meaning.Base base)) c h e = absurd cc
meant g n m (Some (meaning.Collection place base)) c h e = absurd cc
meant g n m (Some (meaning.Kept place)) c h e = absurd cc

-- more collections and runs
later : (g : GraphData) (n m i j : ℕ) (x : Meaning) → n ≤ i → m ≤ j → MeaningFits g n m x → MeaningFits g i j x
later g n m i j (meaning.Program p) a b h = h
later g n m i j (meaning.Base base) a b h = h
later g n m i j (meaning.Collection place base) a b h = omega (arith, a, h)
later g n m i j (meaning.Kept place) a b h = omega (arith, b, h)

all_later : (g : GraphData) (n m i j : ℕ) (names : NameList) → n ≤ i → m ≤ j → All (NameFits g n m) names → All (NameFits g i j) names
all_later g n m i j names a b h = All-weaker (NameFits g n m) (NameFits g i j) (λ taken. later g n m i j taken.1 a b) names h

later_run : (g : GraphData) (n i : ℕ) (r : RunPlan) → n ≤ i → RunFits g n r → RunFits g i r
later_run g n i r a h =
    record { collection = omega (arith, a, h.collection); checked = h.checked; call = h.call; numbers = h.numbers; some = h.some; limit = h.limit; split = h.split; phases = h.phases }

-- the predicates of the graph or of a single view fit
rules_fit : (g : GraphData) (views : List (List Pred)) (base : Option ℕ) → All (RuleFits g) views → RuleFits g (rules_at views base)
rules_fit g views None h = All-nil (λ (p : Pred). fits g p ≡ true)
rules_fit g views (Some place) h = elim (cases_lt place (length views)) [
  | inl lt ↦ All-get_or (RuleFits g) views place [] lt h
  | inr le ↦ subst (RuleFits g) (sym (get_or_past views place [] le)) (All-nil (λ (p : Pred). fits g p ≡ true))
]

-- ---- statements

-- what is known after a statement fits the graph, with one step more and at most one item of a kind
pub record Grows (g : GraphData) (k next : Known) : Type 0 where
  pub fits : KnownFits g next
  pub singles : length next.singles ≤ length k.singles + 1
  pub collections : length next.collections ≤ length k.collections + 1
  pub runs : length next.runs ≤ length k.runs + 1
  pub files : next.files ≤ k.files + 1
  pub steps : length next.steps ≡ length k.steps + 1

module _ (g : GraphData) (k : Known) (fit : KnownFits g k) where
  abbrev Fitting : List ℕ × Meaning → Type 0
  Fitting = NameFits g (length k.collections) (length k.runs)

  place_within : (name : List ℕ) (found : ℕ × Option ℕ) → collection_of k.names name ≡ Ok found → found.0 < length k.collections
  place_within name found e =
      collected g (length k.collections) (length k.runs) (meaning_of k.names name) found
      (λ x. named (MeaningFits g (length k.collections) (length k.runs)) k.names name x fit.names) e

  pub kept_within : (name : List ℕ) (place : ℕ) → kept_of k.names name ≡ Ok place → place < length k.runs
  kept_within name place e =
      kept g (length k.collections) (length k.runs) (meaning_of k.names name) place
      (λ x. named (MeaningFits g (length k.collections) (length k.runs)) k.names name x fit.names) e

  -- a program that is found by its name fits the graph
  pub found_fits : (name : List ℕ) (c : Callable) → program_named k.names name ≡ Some c → ProgramFits g c
  found_fits name c e =
      meant g (length k.collections) (length k.runs) (meaning_of k.names name) c
      (λ x. named (MeaningFits g (length k.collections) (length k.runs)) k.names name x fit.names) e

  -- a collection that is found by its name is there, and has no more views than it may
  pub found_within : (name : List ℕ) (found : ℕ × Option ℕ) → collection_of k.names name ≡ Ok found
      → (found.0 < length k.collections) × (length (views_in k.collections found.0) ≤ 1_024)
  found_within name found e =
      let within = place_within name found e in
      let here = All-get_or (λ (c : CollectionPlan). ViewsFit g c.views) k.collections found.0 (collection_plan [] []) within fit.collections in
      (within, here.few)

  -- one step more, by which no edge comes and no run is made
  quiet : (s : Step) → comes s ≡ 0 → runs s ≡ 0 → ColumnsFit g s → CountsFit g (k.steps ++ s ∷ []) k.loaded k.edges k.numbers (length k.runs)
  quiet s no_edge no_run columns = quiet_counts g k.steps k.loaded k.edges k.numbers (length k.runs) fit.counts s no_edge no_run columns

  quiet_grows : (s : Step) → comes s ≡ 0 → runs s ≡ 0 → ColumnsFit g s → StepsFit k.loaded (k.steps ++ s ∷ []) k.collections k.runs → Grows g k (with_step k s)
  quiet_grows s no_edge no_run columns steps = record {
    fits = record { names = fit.names; singles = fit.singles; collections = fit.collections; runs = fit.runs; steps = steps; counts = quiet s no_edge no_run columns };
    singles = omega arith;
    collections = omega arith;
    runs = omega arith;
    files = omega arith;
    steps = length-append k.steps (s ∷ []);
  }

  single_grows : (next : Known) (name base : List ℕ) (tree : PredTree) → single g k name base tree ≡ Ok next → Grows g k next
  single_grows next name base tree e =
      let last : Option ℕ → Pred → Judged Known = λ place p. Ok (with_single k name place p) in
      let s = through (new_name k.names name) (λ _. base_of k.names base >>= λ place. predicate g tree >>= last place) next e in
      let t = through (base_of k.names base) (λ place. predicate g tree >>= last place) next s.rest in
      let u = through (predicate g tree) (last t.value) next t.rest in
      let m = meaning.Base (Some (length k.singles)) in
      let rules = rules_at k.singles t.value ++ u.value ∷ [] in
      let fitting : RuleFits g rules =
      All-push (λ (q : Pred). fits g q ≡ true) (rules_at k.singles t.value) u.value
      (rules_fit g k.singles t.value fit.singles) (predicate_fits g tree u.value u.first) in
      let more = length-append k.singles (rules ∷ []) in
      subst (Grows g k) (same_value (with_single k name t.value u.value) next u.rest) (record {
        fits = record {
          names = All-push Fitting k.names (name, m) fit.names tt;
          singles = All-push (RuleFits g) k.singles rules fit.singles fitting;
          collections = fit.collections;
          runs = fit.runs;
          steps = quiet_fits k.loaded k.steps k.collections k.runs fit.steps step.Nothing refl refl (λ place. refl) tt;
          counts = quiet step.Nothing refl refl tt;
        };
        singles = omega arith;
        collections = omega arith;
        runs = omega arith;
        files = omega arith;
        steps = length-append k.steps (step.Nothing ∷ []);
      })

  collection_grows : (next : Known) (name base : List ℕ) (items : List Item) → collection g k name base items ≡ Ok next → Grows g k next
  collection_grows next name base items e =
      let n = length k.collections in
      let views_on : Option ℕ → Judged (List ViewPlan) = λ place. items_added g (rules_at k.singles place) [] items in
      let last : Option ℕ → List ViewPlan → Judged Known = λ place views. Ok (with_collection k name place views) in
      let s = through (new_name k.names name) (λ _. base_of k.names base >>= λ place. views_on place >>= last place) next e in
      let t = through (base_of k.names base) (λ place. views_on place >>= last place) next s.rest in
      let u = through (views_on t.value) (last t.value) next t.rest in
      let c = collection_plan name u.value in
      let m = meaning.Collection n t.value in
      let more : length (k.collections ++ c ∷ []) ≡ n + 1 = length-append k.collections (c ∷ []) in
      let wider : n ≤ length (k.collections ++ c ∷ []) = omega (arith, more) in
      let within : n < length (k.collections ++ c ∷ []) = omega (arith, more) in
      let fitting : ViewsFit g u.value =
      views_fit g (rules_at k.singles t.value) (rules_fit g k.singles t.value fit.singles) items [] u.value (none_fits g) u.first in
      let now : ℕ = length (k.collections ++ c ∷ []) in
      let same : length k.runs ≤ length k.runs = omega arith in
      subst (Grows g k) (same_value (with_collection k name t.value u.value) next u.rest) (record {
        fits = record {
          names = All-push (NameFits g now (length k.runs)) k.names (name, m)
              (all_later g n (length k.runs) now (length k.runs) k.names wider same fit.names) within;
          singles = fit.singles;
          collections = All-push (λ (d : CollectionPlan). ViewsFit g d.views) k.collections c fit.collections fitting;
          runs = All-weaker (RunFits g n) (RunFits g now) (λ r. later_run g n now r wider) k.runs fit.runs;
          steps = make_fits k.loaded k.steps k.collections k.runs fit.steps name u.value;
          counts = quiet (step.Make n (length u.value)) refl refl tt;
        };
        singles = omega arith;
        collections = omega (arith, more);
        runs = omega arith;
        files = omega arith;
        steps = length-append k.steps (step.Make n (length u.value) ∷ []);
      })

  append_grows : (next : Known) (target : List ℕ) (items : List Item) → append g k target items ≡ Ok next → Grows g k next
  append_grows next target items e =
      let more_on : ℕ × Option ℕ → Judged (List CollectionPlan) = λ found. views_appended g (rules_at k.singles found.1) k.collections found.0 items in
      let last : ℕ × Option ℕ → List CollectionPlan → Judged Known = λ found cs. Ok (with_append k found.0 cs) in
      let s = through (collection_of k.names target) (λ found. more_on found >>= last found) next e in
      let t = through (more_on s.value) (last s.value) next s.rest in
      let place = s.value.0 in
      let rules = rules_at k.singles s.value.1 in
      let before = views_in k.collections place in
      let u = through (items_added g rules before items) (λ views. Ok (with_views k.collections place views)) t.value t.first in
      let within = place_within target s.value s.first in
      let here = All-get_or (λ (c : CollectionPlan). ViewsFit g c.views) k.collections place (collection_plan [] []) within fit.collections in
      let fitting : ViewsFit g u.value =
      views_fit g rules (rules_fit g k.singles s.value.1 fit.singles) items before u.value here u.first in
      let grown = views_grow g rules items before u.value u.first in
      let c = collection_plan (collection_at k.collections place).name u.value in
      let same : length (with_views k.collections place u.value) ≡ length k.collections = length-set k.collections place c in
      let it : with_views k.collections place u.value ≡ t.value = same_value (with_views k.collections place u.value) t.value u.rest in
      let made : with_append k place (with_views k.collections place u.value) ≡ next =
      ap (with_append k place) it ∙ same_value (with_append k place t.value) next t.rest in
      subst (Grows g k) made (record {
        fits = record {
          names = subst (λ (n : ℕ). All (NameFits g n (length k.runs)) k.names) (sym same) fit.names;
          singles = fit.singles;
          collections = All-set (λ (d : CollectionPlan). ViewsFit g d.views) k.collections place c fitting fit.collections;
          runs = subst (λ (n : ℕ). All (RunFits g n) k.runs) (sym same) fit.runs;
          steps = append_fits k.loaded k.steps k.collections k.runs fit.steps place u.value within grown;
          counts = quiet (append_step k.collections (with_views k.collections place u.value) place) refl refl tt;
        };
        singles = omega arith;
        collections = omega (arith, same);
        runs = omega arith;
        files = omega arith;
        steps = length-append k.steps (append_step k.collections (with_views k.collections place u.value) place ∷ []);
      })

  program_grows : (next : Known) (name : List ℕ) (params : List (List ℕ)) (way : Along) (start send : ExprTree) (how : Gather)
      (update : ExprTree) → program g k name params way start send how update ≡ Ok next → Grows g k next
  program_grows next name params way start send how update e =
      let last : ProgramTemplate → Judged Known = λ t. Ok (with_program k name t) in
      let said = declared g params way start send how update in
      let s = through (new_name k.names name) (λ _. said >>= last) next e in
      let t = through said last next s.rest in
      let m = meaning.Program (callable.Written t.value) in
      subst (Grows g k) (same_value (with_program k name t.value) next t.rest) (record {
        fits = record {
          names = All-push Fitting k.names (name, m) fit.names (declared_fits g params way start send how update t.value t.first);
          singles = fit.singles;
          collections = fit.collections;
          runs = fit.runs;
          steps = quiet_fits k.loaded k.steps k.collections k.runs fit.steps step.Nothing refl refl (λ place. refl) tt;
          counts = quiet step.Nothing refl refl tt;
        };
        singles = omega arith;
        collections = omega arith;
        runs = omega arith;
        files = omega arith;
        steps = length-append k.steps (step.Nothing ∷ []);
      })

  named_program : (o : Option Callable) (c : Callable) → known_program o ≡ Ok c → o ≡ Some c
  named_program None c e = absurd cc
  named_program (Some other) c e = ap Some (same_value other c e)

  -- the names after a run that may be kept, of which there is one more then
  keep_fits : (keep : Option (List ℕ)) (names : NameList) → keep_added k.names k.runs keep ≡ Ok names
      → All (NameFits g (length k.collections) (length k.runs + 1)) names
  keep_fits None names e =
      subst (All (NameFits g (length k.collections) (length k.runs + 1))) (same_value k.names names e)
      (all_later g (length k.collections) (length k.runs) (length k.collections) (length k.runs + 1) k.names (omega arith) (omega arith) fit.names)
  keep_fits (Some name) names e =
      let all = k.names ++ (name, meaning.Kept (length k.runs)) ∷ [] in
      let room : Judged (Unit {0}) = expect (nat_lt (kept_among k.runs) 64) refusal.TooManyKept in
      let s = through (new_name k.names name) (λ _. room >>= λ _. Ok all) names e in
      let t = through room (λ _. Ok all) names s.rest in
      subst (All (NameFits g (length k.collections) (length k.runs + 1))) (same_value all names t.rest)
      (All-push (NameFits g (length k.collections) (length k.runs + 1)) k.names (name, meaning.Kept (length k.runs))
      (all_later g (length k.collections) (length k.runs) (length k.collections) (length k.runs + 1) k.names (omega arith) (omega arith) fit.names)
      (omega arith))

  -- the collection that a run is on is there, and its program and the arguments of its call fit the graph
  abbrev IsMeant : Call → ℕ × Program → Type 0
  IsMeant call meant = (meant.0 < length k.collections) × IsChecked meant.1 g × All (ArgFits g) call.args × (HasNoLowest call.args → HoldsNumber meant.1 lowest_number → ⊥)

  meant_fits : (call : Call) (target : List ℕ) (meant : ℕ × Program) → program_meant g k.names call target ≡ Ok meant → IsMeant call meant
  meant_fits call target meant e =
      let last : ℕ × Option ℕ → Program → Judged (ℕ × Program) = λ place it. Ok (place.0, it) in
      let from_place : Callable → ℕ × Option ℕ → Judged (ℕ × Program) = λ found place. called g found call.args >>= last place in
      let a = through (program_of k.names call.name) (λ found. collection_of k.names target >>= from_place found) meant e in
      let b = through (collection_of k.names target) (from_place a.value) meant a.rest in
      let c = through (called g a.value call.args) (last b.value) meant b.rest in
      let fitting = found_fits call.name a.value (named_program (program_named k.names call.name) a.value a.first) in
      subst (IsMeant call) (same_value (b.value.0, c.value) meant c.rest) (
        place_within target b.value b.first,
        called_checked g a.value call.args c.value fitting c.first,
        called_arguments g a.value call.args c.value c.first,
        λ other. called_numbers g a.value call.args c.value fitting other c.first,
      )

  -- the plan of a run fits the graph
  planned_fits : (call : Call) (target : List ℕ) (limits : Limits) (keep : Option (List ℕ)) (planned : RunPlan) → IsUnkept limits.phases keep
      → run_planned g k.names call target limits keep ≡ Ok planned → RunFits g (length k.collections) planned
  planned_fits call target limits keep planned unkept e =
      let made : ℕ × Program → Way → RunPlan =
      λ it way. run_plan it.0 call it.1 way (order_of limits.order) keep in
      let a = through (program_meant g k.names call target) (λ it. limits_meant limits >>= λ way. Ok (made it way)) planned e in
      let b = through (limits_meant limits) (λ way. Ok (made a.value way)) planned a.rest in
      let meant = meant_fits call target a.value a.first in
      let way = way_fits limits b.value b.first in
      subst (RunFits g (length k.collections)) (same_value (made a.value b.value) planned b.rest) (record {
        collection = meant.0;
        checked = meant.1;
        call = meant.2;
        numbers = meant.3;
        some = way.0;
        limit = way.1;
        phases = both_kept limits.phases b.value.1 keep (way_phases limits b.value b.first) way.2 unkept;
        split = way.3;
      })

  run_grows : (next : Known) (number : ℕ) (call : Call) (target : List ℕ) (limits : Limits) (keep : Option (List ℕ))
      → number ≡ length k.steps + 2 → IsUnkept limits.phases keep → run g number k call target limits keep ≡ Ok next → Grows g k next
  run_grows next number call target limits keep at unkept e =
      let last : RunPlan → NameList → Judged Known = λ planned names. Ok (with_run k number names planned) in
      let taken = keep_added k.names k.runs keep in
      let a = through (run_planned g k.names call target limits keep) (λ planned. taken >>= last planned) next e in
      let b = through taken (last a.value) next a.rest in
      let more : length (k.runs ++ a.value ∷ []) ≡ length k.runs + 1 = length-append k.runs (a.value ∷ []) in
      let fitting = planned_fits call target limits keep a.value unkept a.first in
      let counts = run_counts g k.steps k.loaded k.edges k.numbers (length k.runs) fit.counts number (step.Run (length k.runs)) at refl refl tt fit.steps.runs in
      subst (Grows g k) (same_value (with_run k number b.value a.value) next b.rest) (record {
        fits = record {
          names = subst (λ (m : ℕ). All (NameFits g (length k.collections) m) b.value) (sym more) (keep_fits keep b.value b.first);
          singles = fit.singles;
          collections = fit.collections;
          runs = All-push (RunFits g (length k.collections)) k.runs a.value fit.runs fitting;
          steps = run_fits k.loaded k.steps k.collections k.runs fit.steps a.value;
          counts = subst (CountsFit g (k.steps ++ step.Run (length k.runs) ∷ []) k.loaded k.edges (k.numbers ++ number ∷ [])) (sym more) counts;
        };
        singles = omega arith;
        collections = omega arith;
        runs = omega (arith, more);
        files = omega arith;
        steps = length-append k.steps (step.Run (length k.runs) ∷ []);
      })

  show_order_grows : (next : Known) (name : List ℕ) → show_order k name ≡ Ok next → Grows g k next
  show_order_grows next name e =
      let s = through (collection_of k.names name) (λ found. Ok (with_step k (step.ShowOrder found.0))) next e in
      let within : s.value.0 < length k.collections = place_within name s.value s.first in
      let made : s.value.0 < sum_by makes k.steps = omega (arith, within, fit.steps.collections) in
      subst (Grows g k) (same_value (with_step k (step.ShowOrder s.value.0)) next s.rest)
      (quiet_grows (step.ShowOrder s.value.0) refl refl tt
      (quiet_fits k.loaded k.steps k.collections k.runs fit.steps (step.ShowOrder s.value.0) refl refl (λ place. refl) made))

  show_tree_grows : (next : Known) (name : List ℕ) → show_tree k name ≡ Ok next → Grows g k next
  show_tree_grows next name e =
      let s = through (collection_of k.names name) (λ found. Ok (with_step k (step.ShowTree found.0))) next e in
      let within : s.value.0 < length k.collections = place_within name s.value s.first in
      let made : s.value.0 < sum_by makes k.steps = omega (arith, within, fit.steps.collections) in
      subst (Grows g k) (same_value (with_step k (step.ShowTree s.value.0)) next s.rest)
      (quiet_grows (step.ShowTree s.value.0) refl refl tt
      (quiet_fits k.loaded k.steps k.collections k.runs fit.steps (step.ShowTree s.value.0) refl refl (λ place. refl) made))

  insert_grows : (next : Known) (count : ℕ) → with_insert k count ≡ next → Grows g k next
  insert_grows next count e =
      let s = step.Insert k.edges count in
      subst (Grows g k) e (record {
        fits = record {
          names = fit.names;
          singles = fit.singles;
          collections = fit.collections;
          runs = fit.runs;
          steps = quiet_fits k.loaded k.steps k.collections k.runs fit.steps s refl refl (λ place. refl) fit.counts.edges;
          counts = insert_counts g k.steps k.loaded k.edges k.numbers (length k.runs) fit.counts count;
        };
        singles = omega arith;
        collections = omega arith;
        runs = omega arith;
        files = omega arith;
        steps = length-append k.steps (s ∷ []);
      })

  remove_grows : (next : Known) (tree : PredTree) → remove g k tree ≡ Ok next → Grows g k next
  remove_grows next tree e =
      let s = through (predicate g tree) (λ p. Ok (with_step k (step.Remove p))) next e in
      subst (Grows g k) (same_value (with_step k (step.Remove s.value)) next s.rest)
      (quiet_grows (step.Remove s.value) refl refl (predicate_fits g tree s.value s.first)
      (quiet_fits k.loaded k.steps k.collections k.runs fit.steps (step.Remove s.value) refl refl (λ place. refl) tt))

  sum_fits : (asked : Option (List ℕ)) (sum : Option ℕ) → sum_of g asked ≡ Ok sum → SumFits g sum
  sum_fits None sum e = subst (SumFits g) (same_value {E = Refusal} None sum e) tt
  sum_fits (Some property) sum e =
      let s = through (int_column g.edge_columns property) (λ column. Ok (Some column)) sum e in
      subst (SumFits g) (same_value (Some s.value) sum s.rest) (int_column_found g property s.value s.first)

  aggregate_grows : (next : Known) (target by : List ℕ) (sum : Option (List ℕ)) → aggregate g k target by sum ≡ Ok next → Grows g k next
  aggregate_grows next target by sum e =
      let last : ℕ → ℕ → Option ℕ → Judged Known = λ place column summed. Ok (with_step k (step.Aggregate place column summed)) in
      let a = through (collection_of k.names target) (λ found. column_of g.node_columns by >>= λ column. sum_of g sum >>= last found.0 column.0) next e in
      let b = through (column_of g.node_columns by) (λ column. sum_of g sum >>= last a.value.0 column.0) next a.rest in
      let c = through (sum_of g sum) (last a.value.0 b.value.0) next b.rest in
      let it = step.Aggregate a.value.0 b.value.0 c.value in
      let within : a.value.0 < length k.collections = place_within target a.value a.first in
      let made : a.value.0 < sum_by makes k.steps = omega (arith, within, fit.steps.collections) in
      let found : nat_lt b.value.0 (length g.node_columns) ≡ true = column_found g.node_columns by b.value b.first in
      let there : b.value.0 < length g.node_columns = grind (arith, nat_tests) in
      subst (Grows g k) (same_value (with_step k it) next c.rest)
      (quiet_grows it refl refl (there, sum_fits sum c.value c.first)
      (quiet_fits k.loaded k.steps k.collections k.runs fit.steps it refl refl (λ place. refl) made))

  show_work_grows : (next : Known) (last : ℕ) (name : List ℕ) → show_work last k name ≡ Ok next → Grows g k next
  show_work_grows next last name e =
      let free : ℕ → Judged (Unit {0}) = λ place. expect (not (nat_lt (get_or k.numbers place 0) last)) refusal.WorkEdited in
      let t = through (kept_of k.names name) (λ place. free place >>= λ _. Ok (with_step k (step.ShowWork place))) next e in
      let u = through (free t.value) (λ _. Ok (with_step k (step.ShowWork t.value))) next t.rest in
      let s : Through (kept_of k.names name) (λ place. Ok (with_step k (step.ShowWork place))) next = record { value = t.value; first = t.first; rest = u.rest } in
      let within : s.value < length k.runs = kept_within name s.value s.first in
      let made : s.value < sum_by runs k.steps = omega (arith, within, fit.steps.runs) in
      subst (Grows g k) (same_value (with_step k (step.ShowWork s.value)) next s.rest)
      (quiet_grows (step.ShowWork s.value) refl refl tt
      (quiet_fits k.loaded k.steps k.collections k.runs fit.steps (step.ShowWork s.value) refl refl (λ place. refl) made))

  -- the statement has the next number
  pub statement_grows : (m : Moment) → m.number ≡ length k.steps + 2 → (next : Known) (s : Statement) → statement_added g m k s ≡ Ok next → Grows g k next
  statement_grows m at next (statement.View name base tree) e = single_grows next name base tree e
  statement_grows m at next (statement.Collection name base items) e = collection_grows next name base items e
  statement_grows m at next (statement.Run call target within number o d keep phases) e =
      run_grows next m.number call target (limits_of within number o d phases) (keep_of phases keep) at (keep_unkept phases keep) e
  statement_grows m at next (statement.Program name params along start send gather update) e =
      program_grows next name params along start send gather update e
  statement_grows m at next (statement.Append target items) e = append_grows next target items e
  statement_grows m at next (statement.ShowOrder name) e = show_order_grows next name e
  statement_grows m at next (statement.ShowWork name) e = show_work_grows next m.last_edit name e
  statement_grows m at next (statement.ShowTree name) e = show_tree_grows next name e
  statement_grows m at next (statement.Insert file) e = insert_grows next m.group (same_value (with_insert k m.group) next e)
  statement_grows m at next (statement.Remove tree) e = remove_grows next tree e
  statement_grows m at next (statement.Aggregate target by sum) e = aggregate_grows next target by sum e

-- ---- the load

program_first : (g : GraphData) (name : List ℕ) (p : Callable) (more : NameList) → ProgramFits g p → All (NameFits g 0 0) more
    → All (NameFits g 0 0) ((name, meaning.Program p) ∷ more)
program_first g name p more fit h = All-cons (NameFits g 0 0) (name, meaning.Program p) more fit h

first_fit : (g : GraphData) → All (NameFits g 0 0) first_names
first_fit g =
    let last : NameList = (codes "pagerank", meaning.Program callable.Pagerank) ∷ [] in
    let two : NameList = (codes "wcc", meaning.Program callable.Wcc) ∷ last in
    let three : NameList = (codes "dist", meaning.Program callable.Dist) ∷ two in
    program_first g (codes "hops") callable.Hops three tt
    (program_first g (codes "dist") callable.Dist two tt
    (program_first g (codes "wcc") callable.Wcc last tt
    (program_first g (codes "pagerank") callable.Pagerank [] tt (All-nil (NameFits g 0 0)))))

no_steps : (loaded : ℕ) → StepsFit loaded [] [] []
no_steps loaded = record { collections = refl; runs = refl; views = λ place. refl; each = λ n lt. absurd (omega (arith, lt)) }

sum_none : (n : ℕ) → sum_by runs (take n []) ≡ 0
sum_none zero = refl
sum_none (suc n) = refl

-- what the load gives, where it gives something
pub loaded_so : (count : ℕ) (graph : List ℕ) (k : Known) → load count graph ≡ Ok k → loaded graph count ≡ k
loaded_so count graph k e =
    let t = through (new_name first_names graph) (λ _. Ok (loaded graph count)) k e in
    same_value (loaded graph count) k t.rest

-- what is known after the load fits any graph, and is nothing but names
pub record Begins (g : GraphData) (count : ℕ) (k : Known) : Type 0 where
  pub fits : KnownFits g k
  pub small : IsSmall 0 k
  pub none : k.steps ≡ []
  pub steps : length k.steps ≡ 0
  pub edges : k.edges ≡ count
  pub files : k.files ≡ 1

pub load_begins : (g : GraphData) (count : ℕ) (graph : List ℕ) (k : Known) → load count graph ≡ Ok k → Begins g count k
load_begins g count graph k e =
    subst (Begins g count) (loaded_so count graph k e) (record {
      fits = record {
        names = All-push (NameFits g 0 0) first_names (graph, meaning.Base None) (first_fit g) tt;
        singles = All-nil (RuleFits g);
        collections = All-nil (λ (c : CollectionPlan). ViewsFit g c.views);
        runs = All-nil (RunFits g 0);
        steps = no_steps count;
        counts = record {
          columns = All-nil (ColumnsFit g);
          edges = omega arith;
          numbers = refl;
          numbered = λ n place le lt. absurd (omega (arith, lt, le, sum_none n));
        };
      };
      small = record { singles = omega arith; collections = omega arith; runs = omega arith; files = omega arith };
      none = refl;
      steps = refl;
      edges = refl;
      files = refl;
    })
