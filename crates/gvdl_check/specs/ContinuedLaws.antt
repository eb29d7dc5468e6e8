-- The plan of a script that is continued by further statements continues the plan of the script.
use Rattle.std.proofs.Common.{◌≡◌, ◌∙◌, ◌+◌, ℕ, List, [], ◌∷◌, ◌++◌, length, Option, Some, Ok, Result, true, slice_get, map, ◌≤◌, refl, sym, ap, subst, arith}
use Rattle.std.specs.Prelude.{All}
use Rattle.std.specs.List.{sum_by}
use Rattle.std.proofs.lemmas.Bool.{cond-true}
use Rattle.std.proofs.lemmas.List.{get_or_append_left, map-append}
use Rattle.std.proofs.lemmas.List.Sums.{sum_by-cons}
use Rattle.std.proofs.lemmas.List.Elements.{All-nil}
use Rattle.std.proofs.lemmas.Option.{slice_get_within, get_or_from_slice_get}
use Rattle.graph_model.specs.declared.cell.Column.{Column}
use Rattle.graph_model.specs.GraphData.{GraphData, graph_data}
use Rattle.gvdl_tree.specs.declared.script.Call.{Call}
use Rattle.gvdl_tree.specs.declared.script.Statement.{Statement}
use Rattle.gvdl_tree.specs.declared.script.Script.{Script}
use Rattle.gvdl_programs.specs.declared.template.Callable.{Callable}
use Rattle.gvdl_programs.specs.Judging.{◌>>=◌}
use Rattle.gvdl_programs.specs.JudgingLaws.{through, same_value}
use Rattle.gvdl_programs.specs.Expressions.{expression, test}
use Rattle.gvdl_programs.specs.Calls.{called}
use Rattle.gvdl_check.specs.declared.plan.RunPlan.{RunPlan}
use Rattle.gvdl_check.specs.declared.plan.Plan.{Plan}
use Rattle.gvdl_check.specs.declared.known.Known.{Known}
use Rattle.gvdl_check.specs.Faults.{at}
use Rattle.gvdl_check.specs.Names.{NameList, program_of}
use Rattle.gvdl_check.specs.Known.{runs_marked}
use Rattle.gvdl_check.specs.Predicates.{predicate}
use Rattle.gvdl_check.specs.Plans.{group_at, load, run, is_insert, files_of, last_edit, statement_added, statement_judged, plan_of, moment, plan_from, plan}
use Rattle.gvdl_check.specs.declared.statement.Moment.{Moment}
use Rattle.gvdl_check.specs.Fits.{KnownFits}
use Rattle.gvdl_check.specs.KnownLaws.{statement_grows, loaded_so, load_begins}
use Rattle.gvdl_check.specs.MarkLaws.{each_marked}
use Rattle.gvdl_check.specs.LaterLaws.{told, statement_files}
use Rattle.gvdl_check.specs.PlanLaws.{judged_at, added_so, form_passed}
use Rattle.gvdl_check.specs.Continued.{IsFront, IsContinued, SameColumns, unmarked, Continues}
use Rattle.gvdl_check.specs.ExtendLaws.{IsMeant, Extends, extends_itself, extends_both, statement_extends, statement_again}

-- ---- statements one after the other

-- the plan of what is known after some statements
record Ends (g : GraphData) (last : ℕ) (k : Known) (p : Plan) : Type 0 where
  known : Known
  is : plan_of last known ≡ p
  extends : Extends g k known
  loaded : known.loaded ≡ k.loaded
  numbers : length known.numbers ≡ length known.runs

-- what a statement leaves of what the load gave
loaded_on : (g : GraphData) (m : Moment) (k : Known) (fit : KnownFits g k) (next : Known) (s : Statement) → statement_added g m k s ≡ Ok next → next.loaded ≡ k.loaded
loaded_on g m k fit next s e = (told g m k fit next s e).loaded

whole_extends : (form : Option ℕ) (g : GraphData) (groups : List ℕ) (last n : ℕ) (k : Known) (fit : KnownFits g k) → n ≡ length k.steps + 2 → (p : Plan) (ss : List Statement)
    → plan_from form g groups last n k ss ≡ Ok p → Ends g last k p
whole_extends form g groups last n k fit here p [] e = record { known = k; is = same_value (plan_of last k) p e; extends = extends_itself g k; loaded = refl; numbers = fit.counts.numbers }
whole_extends form g groups last n k fit here p (s ∷ ss) e =
    let m : Moment = moment n last (group_at groups k.files) in
    let t = through (at n (statement_judged form g m k s)) (λ next. plan_from form g groups last (n + 1) next ss) p e in
    let added = added_so form g m k t.value s (judged_at n (statement_judged form g m k s) t.value t.first) in
    let grown = statement_grows g k fit m here t.value s added in
    let rest = whole_extends form g groups last (n + 1) t.value grown.fits (omega (arith, here, grown.steps)) p ss t.rest in
    record {
      known = rest.known;
      is = rest.is;
      extends = extends_both g k t.value rest.known (statement_extends g k m t.value s added) rest.extends;
      loaded = rest.loaded ∙ loaded_on g m k fit t.value s added;
      numbers = rest.numbers;
    }

-- two plans, of which the second goes on where the first ends
record GoesOn (g : GraphData) (first second : ℕ) (k : Known) (p q : Plan) : Type 0 where
  middle : Ends g first k p
  rest : Ends g second middle.known q

behind_value : {A B E : Type 0} (said : Result A E) (a : A) (f : A → Result B E) (b : B) → said ≡ Ok a → (said >>= f) ≡ Ok b → f a ≡ Ok b
behind_value {A} {B} {E} said a f b is e = sym (ap (λ (r : Result A E). r >>= f) is) ∙ e

-- the longer script has another last edit, and further files behind the same
module _ (form : Option ℕ) (g : GraphData) (groups behind : List ℕ) (first second : ℕ) where
  -- an insert of the shorter script takes a file that both have
  same_group : (k : Known) (s : Statement) (ss : List Statement) → k.files + sum_by files_of (s ∷ ss) ≤ length groups → is_insert s ≡ true → group_at (groups ++ behind) k.files ≡ group_at groups k.files
  same_group k s ss few comes = get_or_append_left groups behind 0 k.files (omega (arith, few, cond-true {A = ℕ} (is_insert s) 1 0 comes, sum_by-cons files_of s ss))

  front_extends : (n : ℕ) (k : Known) (fit : KnownFits g k) → n ≡ length k.steps + 2 → (p q : Plan) (ss more : List Statement) → k.files + sum_by files_of ss ≤ length groups
      → plan_from form g groups first n k ss ≡ Ok p → plan_from form g (groups ++ behind) second n k (ss ++ more) ≡ Ok q → GoesOn g first second k p q
  front_extends n k fit here p q [] more few e f = record {
    middle = record { known = k; is = same_value (plan_of first k) p e; extends = extends_itself g k; loaded = refl; numbers = fit.counts.numbers };
    rest = whole_extends form g (groups ++ behind) second n k fit here q more f;
  }
  front_extends n k fit here p q (s ∷ ss) more few e f =
      let i : Moment = moment n first (group_at groups k.files) in
      let j : Moment = moment n second (group_at (groups ++ behind) k.files) in
      let t = through (at n (statement_judged form g i k s)) (λ next. plan_from form g groups first (n + 1) next ss) p e in
      let u = through (at n (statement_judged form g j k s)) (λ next. plan_from form g (groups ++ behind) second (n + 1) next (ss ++ more)) q f in
      let added = added_so form g i k t.value s (judged_at n (statement_judged form g i k s) t.value t.first) in
      let again = added_so form g j k u.value s (judged_at n (statement_judged form g j k s) u.value u.first) in
      let same : t.value ≡ u.value = statement_again g k i j t.value u.value s refl (same_group k s ss few) added again in
      let grown = statement_grows g k fit i here t.value s added in
      let later : plan_from form g (groups ++ behind) second (n + 1) t.value (ss ++ more) ≡ Ok q = subst (λ (x : Known). plan_from form g (groups ++ behind) second (n + 1) x (ss ++ more) ≡ Ok q) (sym same) u.rest in
      let left = statement_files g i k fit t.value s ss added in
      let on = front_extends (n + 1) t.value grown.fits (omega (arith, here, grown.steps)) p q ss more (omega (arith, left, few)) t.rest later in
      record {
        middle = record {
          known = on.middle.known;
          is = on.middle.is;
          extends = extends_both g k t.value on.middle.known (statement_extends g k i t.value s added) on.middle.extends;
          loaded = on.middle.loaded ∙ loaded_on g i k fit t.value s added;
          numbers = on.middle.numbers;
        };
        rest = on.rest;
      }

-- ---- a graph of columns alone

-- the columns of a graph, which are all that a plan asks of it
abbrev columns_alone : List Column → List Column → GraphData
columns_alone nodes edges = graph_data [] nodes [] [] edges []

-- the definitions read no other field
plan_by_columns : (s : Script) (g : GraphData) (groups : List ℕ) → plan s g groups ≡ plan s (columns_alone g.node_columns g.edge_columns) groups
unfolding predicate expression test
plan_by_columns s g groups = refl

-- ---- whole scripts

record Loaded (g : GraphData) (first second : ℕ) (p q : Plan) : Type 0 where
  begun : Known
  fits : KnownFits g begun
  runs : begun.runs ≡ []
  on : GoesOn g first second begun p q

both_loaded : (g : GraphData) (groups behind : List ℕ) (s t : Script) (p q : Plan) → IsContinued s t → 1 + sum_by files_of s.statements ≤ length groups → plan s g groups ≡ Ok p → plan t g (groups ++ behind) ≡ Ok q
    → Loaded g (last_edit s.statements) (last_edit t.statements) p q
both_loaded g groups behind s t p q more few first second =
    let count : ℕ = group_at groups 0 in
    let i : ℕ = last_edit s.statements in
    let j : ℕ = last_edit t.statements in
    let l = through (at 1 (load count s.graph)) (λ k. plan_from s.form g groups i 2 k s.statements) p (form_passed s g groups p first) in
    let same : group_at (groups ++ behind) 0 ≡ count = get_or_append_left groups behind 0 0 (omega (arith, few)) in
    let again : at 1 (load (group_at (groups ++ behind) 0) t.graph) ≡ Ok l.value = ap (λ (c : ℕ). at 1 (load c t.graph)) same ∙ ap (λ (name : List ℕ). at 1 (load count name)) more.graph ∙ l.first in
    let after : plan_from t.form g (groups ++ behind) j 2 l.value t.statements ≡ Ok q = behind_value (at 1 (load (group_at (groups ++ behind) 0) t.graph)) l.value (λ k. plan_from t.form g (groups ++ behind) j 2 k t.statements) q again (form_passed t g (groups ++ behind) q second) in
    let rest : plan_from s.form g (groups ++ behind) j 2 l.value t.statements ≡ Ok q = subst (λ (form : Option ℕ). plan_from form g (groups ++ behind) j 2 l.value t.statements ≡ Ok q) more.form after in
    let begun = load_begins g count s.graph l.value (judged_at 1 (load count s.graph) l.value l.first) in
    record {
      begun = l.value;
      fits = begun.fits;
      runs = sym (ap (λ (x : Known). x.runs) (loaded_so count s.graph l.value (judged_at 1 (load count s.graph) l.value l.first)));
      on = front_extends s.form g groups behind i j 2 l.value begun.fits (omega (arith, begun.steps)) p q s.statements more.statements.0 (omega (arith, few, begun.files)) l.rest
          (subst (λ (ss : List Statement). plan_from s.form g (groups ++ behind) j 2 l.value ss ≡ Ok q) more.statements.1 rest);
    }

meant_at : (g : GraphData) (names : NameList) (runs : List RunPlan) (place : ℕ) (r : RunPlan) → All (IsMeant g names) runs → slice_get runs place ≡ Some r → IsMeant g names r
meant_at g names runs place r all at = subst (IsMeant g names) (get_or_from_slice_get runs place r r at) (all place r (slice_get_within runs place r at))

one_meaning : (g : GraphData) (names : NameList) (first second : RunPlan) → IsMeant g names first → IsMeant g names second → second.call ≡ first.call → second.program ≡ first.program
one_meaning g names first second a b same =
    let found : b.0 ≡ a.0 = same_value b.0 a.0 (sym b.1 ∙ ap (λ (call : Call). program_of names call.name) same ∙ a.1) in
    same_value second.program first.program (sym b.2 ∙ ap (λ (call : Call). called g b.0 call.args) same ∙ ap (λ (c : Callable). called g c first.call.args) found ∙ a.2)

-- runs of a plan, whether or not they are told to be edited
pub unmarked_runs : (last : ℕ) (numbers : List ℕ) (runs : List RunPlan) → length numbers ≡ length runs → map unmarked (runs_marked last numbers runs) ≡ map unmarked runs
unmarked_runs last [] [] e = refl
unmarked_runs last [] (run ∷ runs) e = absurd (omega (arith, e))
unmarked_runs last (number ∷ numbers) [] e = absurd (omega (arith, e))
unmarked_runs last (number ∷ numbers) (run ∷ runs) e = ap (λ (rs : List RunPlan). unmarked run ∷ rs) (unmarked_runs last numbers runs (omega (arith, e)))

runs_go_on : (i j : ℕ) (k next : Known) → length k.numbers ≡ length k.runs → length next.numbers ≡ length next.runs → IsFront k.runs next.runs
    → IsFront (map unmarked (plan_of i k).runs) (map unmarked (plan_of j next).runs)
runs_go_on i j k next a b front = (
  map unmarked front.0,
  unmarked_runs j next.numbers next.runs b ∙ ap (map unmarked) front.1 ∙ map-append unmarked k.runs front.0 ∙ ap (λ (rs : List RunPlan). rs ++ map unmarked front.0) (sym (unmarked_runs i k.numbers k.runs a)),
)

plan_continues_in : (b : GraphData) (s t : Script) (groups behind : List ℕ) (p q : Plan) → IsContinued s t → 1 + sum_by files_of s.statements ≤ length groups → plan s b groups ≡ Ok p → plan t b (groups ++ behind) ≡ Ok q → Continues p q
plan_continues_in b s t groups behind p q more few first second = subst (λ (x : Plan). Continues x q) middle.is (subst (λ (x : Plan). Continues (plan_of i middle.known) x) rest.is grown) where
  i : ℕ
  i = last_edit s.statements

  j : ℕ
  j = last_edit t.statements

  both : Loaded b i j p q
  both = both_loaded b groups behind s t p q more few first second

  middle : Ends b i both.begun p
  middle = both.on.middle

  rest : Ends b j middle.known q
  rest = both.on.rest

  meant : All (IsMeant b rest.known.names) (plan_of j rest.known).runs
  meant = each_marked (IsMeant b rest.known.names) j (λ number run it. it) rest.known.numbers rest.known.runs
      (rest.extends.meant (middle.extends.meant (subst (λ (runs : List RunPlan). All (IsMeant b both.begun.names) runs) (sym both.runs) (All-nil (IsMeant b both.begun.names)))))

  grown : Continues (plan_of i middle.known) (plan_of j rest.known)
  grown = record {
    loaded = rest.loaded;
    steps = rest.extends.steps;
    runs = runs_go_on i j middle.known rest.known middle.numbers rest.numbers rest.extends.runs;
    collections = rest.extends.collections;
    calls = λ x y a c at_a at_c. one_meaning b rest.known.names a c (meant_at b rest.known.names (plan_of j rest.known).runs x a meant at_a) (meant_at b rest.known.names (plan_of j rest.known).runs y c meant at_c);
  }

pub plan_continues : (s t : Script) (g h : GraphData) (groups behind : List ℕ) (p q : Plan) → IsContinued s t → SameColumns g h → 1 + sum_by files_of s.statements ≤ length groups
    → plan s g groups ≡ Ok p → plan t h (groups ++ behind) ≡ Ok q → Continues p q
plan_continues s t g h groups behind p q more same few first second =
    let b : GraphData = columns_alone g.node_columns g.edge_columns in
    let one : columns_alone h.node_columns h.edge_columns ≡ b = ap (λ (c : List Column). columns_alone c h.edge_columns) same.nodes ∙ ap (λ (c : List Column). columns_alone g.node_columns c) same.edges in
    plan_continues_in b s t groups behind p q more few (sym (plan_by_columns s g groups) ∙ first)
    (sym (ap (λ (x : GraphData). plan t x (groups ++ behind)) one) ∙ sym (plan_by_columns t h (groups ++ behind)) ∙ second)
