-- What the statements that edges come or go by leave for the plan: each stands at or before the last of them, and no work is
-- shown of a run that is kept while edges come or go.
use Rattle.std.proofs.Common.{◌≡◌, ◌∙◌, ℕ, ◌+◌, ◌<◌, ◌≤◌, Bool, true, false, List, [], ◌∷◌, ◌++◌, zero, suc, length, get_or, take, sum, Option, Ok, refl, sym, ap, subst, inl, inr, arith, append-nil, length-append}
use Rattle.std.specs.Prelude.{All, not, nat_lt}
use Rattle.std.specs.List.{sum_by}
use Rattle.std.proofs.lemmas.Bool.{cases_lt, cond-true, cond-false}
use Rattle.std.proofs.lemmas.List.{get_or_append_left, get_or_push}
use Rattle.std.proofs.lemmas.List.Elements.{All-push, All-weaker}
use Rattle.std.proofs.lemmas.List.Sums.{sum_by-cons}
use Rattle.graph_model.specs.GraphData.{GraphData}
use Rattle.gvdl_tree.specs.declared.predicate.PredTree.{PredTree}
use Rattle.gvdl_tree.specs.declared.expression.ExprTree.{ExprTree}
use Rattle.gvdl_tree.specs.declared.script.Along.{Along}
use Rattle.gvdl_tree.specs.declared.script.Call.{Call}
use Rattle.gvdl_tree.specs.declared.script.Gather.{Gather}
use Rattle.gvdl_tree.specs.declared.script.Item.{Item}
use Rattle.gvdl_tree.specs.declared.script.Statement.{Statement}
use Rattle.gvdl_tree.specs.declared.script.Statement.TheVariants as statement
use Rattle.edge_predicates.specs.declared.pred.Pred.{Pred}
use Rattle.gvdl_programs.specs.declared.refusal.Refusal.TheVariants as refusal
use Rattle.gvdl_programs.specs.declared.template.ProgramTemplate.{ProgramTemplate}
use Rattle.gvdl_programs.specs.Judging.{Judged, ◌>>=◌, expect}
use Rattle.gvdl_programs.specs.JudgingLaws.{through, same_value, expected}
use Rattle.gvdl_programs.specs.Columns.{column_of}
use Rattle.gvdl_programs.specs.Programs.{declared}
use Rattle.gvdl_check.specs.declared.call.Limits.{Limits}
use Rattle.gvdl_check.specs.declared.statement.Moment.{Moment}
use Rattle.gvdl_check.specs.declared.plan.ViewPlan.{ViewPlan}
use Rattle.gvdl_check.specs.declared.plan.CollectionPlan.{CollectionPlan}
use Rattle.gvdl_check.specs.declared.plan.RunPlan.{RunPlan}
use Rattle.gvdl_check.specs.declared.plan.Step.{Step}
use Rattle.gvdl_check.specs.declared.plan.Step.TheVariants as step
use Rattle.gvdl_check.specs.declared.known.Known.{Known}
use Rattle.gvdl_check.specs.Known.{with_step, with_single, with_collection, with_append, append_step, with_program, with_insert, with_run}
use Rattle.gvdl_check.specs.Names.{NameList, new_name, base_of, collection_of, kept_of}
use Rattle.gvdl_check.specs.Predicates.{predicate}
use Rattle.gvdl_check.specs.Singles.{rules_at}
use Rattle.gvdl_check.specs.Views.{items_added}
use Rattle.gvdl_check.specs.Plans.{group_at, single, collection, views_appended, append, program, keep_added, run_planned, run, limits_of, keep_of, is_edit, is_insert, files_of, remove, sum_of, aggregate, show_order, show_tree, show_work, statement_added}
use Rattle.gvdl_check.specs.Steps.{edits}
use Rattle.gvdl_check.specs.Fits.{KnownFits}
use Rattle.gvdl_check.specs.KnownLaws.{kept_within}

-- the run whose work is shown is there, and its statement stands at or behind the last edit
abbrev pub ShowsOpen : ℕ → List ℕ → Step → Type 0
ShowsOpen last numbers (step.ShowWork place) = (place < length numbers) × (nat_lt (get_or numbers place 0) last ≡ false)
ShowsOpen last numbers _ = Unit {0}

-- each step by which edges come or go stands at or before the last of them, and no other work is shown
pub record Later (last : ℕ) (k : Known) : Type 0 where
  pub edits : (n : ℕ) → n < length k.steps → edits (get_or k.steps n step.Nothing) ≡ true → n + 2 ≤ last
  pub works : All (ShowsOpen last k.numbers) k.steps

-- what a statement adds: one step, and perhaps the number of a run
pub record Told (m : Moment) (s : Statement) (k next : Known) : Type 0 where
  pub it : Step
  pub steps : next.steps ≡ k.steps ++ it ∷ []
  pub more : List ℕ
  pub numbers : next.numbers ≡ k.numbers ++ more
  pub edits : edits it ≡ true → is_edit s ≡ true
  pub works : ShowsOpen m.last_edit k.numbers it
  -- edges come exactly by an insert, and those of the next file
  pub loaded : next.loaded ≡ k.loaded
  pub came : is_insert s ≡ false → (next.edges ≡ k.edges) × (next.files ≡ k.files)
  pub inserted : is_insert s ≡ true → (next.edges ≡ k.edges + m.group) × (next.files ≡ k.files + 1)

module _ (g : GraphData) (m : Moment) (k : Known) (fit : KnownFits g k) where
  -- a step of another kind, and no run
  quietly : (s : Statement) (next made : Known) (it : Step) → made ≡ next → made.steps ≡ k.steps ++ it ∷ [] → made.numbers ≡ k.numbers → (edits it ≡ true → is_edit s ≡ true)
      → ShowsOpen m.last_edit k.numbers it → (made.loaded ≡ k.loaded) × (made.edges ≡ k.edges) × (made.files ≡ k.files) → (is_insert s ≡ true → ⊥) → Told m s k next
  quietly s next made it e steps numbers edit free same plain = subst (Told m s k) e (record {
    it = it;
    steps = steps;
    more = [];
    numbers = numbers ∙ sym (append-nil k.numbers);
    edits = edit;
    works = free;
    loaded = same.0;
    came = λ _. (same.1, same.2);
    inserted = λ h. absurd (plain h);
  })

  single_told : (s : Statement) → (is_insert s ≡ true → ⊥) → (next : Known) (name base : List ℕ) (tree : PredTree) → single g k name base tree ≡ Ok next → Told m s k next
  single_told s plain next name base tree e =
      let last : Option ℕ → Pred → Judged Known = λ place p. Ok (with_single k name place p) in
      let a = through (new_name k.names name) (λ _. base_of k.names base >>= λ place. predicate g tree >>= last place) next e in
      let b = through (base_of k.names base) (λ place. predicate g tree >>= last place) next a.rest in
      let c = through (predicate g tree) (last b.value) next b.rest in
      quietly s next (with_single k name b.value c.value) step.Nothing (same_value (with_single k name b.value c.value) next c.rest) refl refl (λ h. absurd cc) tt (refl, refl, refl) plain

  collection_told : (s : Statement) → (is_insert s ≡ true → ⊥) → (next : Known) (name base : List ℕ) (items : List Item) → collection g k name base items ≡ Ok next → Told m s k next
  collection_told s plain next name base items e =
      let views_on : Option ℕ → Judged (List ViewPlan) = λ place. items_added g (rules_at k.singles place) [] items in
      let last : Option ℕ → List ViewPlan → Judged Known = λ place views. Ok (with_collection k name place views) in
      let a = through (new_name k.names name) (λ _. base_of k.names base >>= λ place. views_on place >>= last place) next e in
      let b = through (base_of k.names base) (λ place. views_on place >>= last place) next a.rest in
      let c = through (views_on b.value) (last b.value) next b.rest in
      quietly s next (with_collection k name b.value c.value) (step.Make (length k.collections) (length c.value))
      (same_value (with_collection k name b.value c.value) next c.rest) refl refl (λ h. absurd cc) tt (refl, refl, refl) plain

  append_told : (s : Statement) → (is_insert s ≡ true → ⊥) → (next : Known) (target : List ℕ) (items : List Item) → append g k target items ≡ Ok next → Told m s k next
  append_told s plain next target items e =
      let more_on : ℕ × Option ℕ → Judged (List CollectionPlan) = λ found. views_appended g (rules_at k.singles found.1) k.collections found.0 items in
      let last : ℕ × Option ℕ → List CollectionPlan → Judged Known = λ found cs. Ok (with_append k found.0 cs) in
      let a = through (collection_of k.names target) (λ found. more_on found >>= last found) next e in
      let b = through (more_on a.value) (last a.value) next a.rest in
      quietly s next (with_append k a.value.0 b.value) (append_step k.collections b.value a.value.0)
      (same_value (with_append k a.value.0 b.value) next b.rest) refl refl (λ h. absurd cc) tt (refl, refl, refl) plain

  program_told : (s : Statement) → (is_insert s ≡ true → ⊥) → (next : Known) (name : List ℕ) (params : List (List ℕ)) (way : Along) (start send : ExprTree) (how : Gather) (update : ExprTree)
      → program g k name params way start send how update ≡ Ok next → Told m s k next
  program_told s plain next name params way start send how update e =
      let last : ProgramTemplate → Judged Known = λ t. Ok (with_program k name t) in
      let said = declared g params way start send how update in
      let a = through (new_name k.names name) (λ _. said >>= last) next e in
      let b = through said last next a.rest in
      quietly s next (with_program k name b.value) step.Nothing (same_value (with_program k name b.value) next b.rest) refl refl (λ h. absurd cc) tt (refl, refl, refl) plain

  run_told : (s : Statement) → (is_insert s ≡ true → ⊥) → (next : Known) (call : Call) (target : List ℕ) (limits : Limits) (keep : Option (List ℕ))
      → run g m.number k call target limits keep ≡ Ok next → Told m s k next
  run_told s plain next call target limits keep e =
      let last : RunPlan → NameList → Judged Known = λ planned names. Ok (with_run k m.number names planned) in
      let taken = keep_added k.names k.runs keep in
      let a = through (run_planned g k.names call target limits keep) (λ planned. taken >>= last planned) next e in
      let b = through taken (last a.value) next a.rest in
      subst (Told m s k) (same_value (with_run k m.number b.value a.value) next b.rest) (record {
        it = step.Run (length k.runs);
        steps = refl;
        more = m.number ∷ [];
        numbers = refl;
        edits = λ h. absurd cc;
        works = tt;
        loaded = refl;
        came = λ _. (refl, refl);
        inserted = λ h. absurd (plain h);
      })

  order_told : (s : Statement) → (is_insert s ≡ true → ⊥) → (next : Known) (name : List ℕ) → show_order k name ≡ Ok next → Told m s k next
  order_told s plain next name e =
      let a = through (collection_of k.names name) (λ found. Ok (with_step k (step.ShowOrder found.0))) next e in
      quietly s next (with_step k (step.ShowOrder a.value.0)) (step.ShowOrder a.value.0) (same_value (with_step k (step.ShowOrder a.value.0)) next a.rest) refl refl (λ h. absurd cc) tt (refl, refl, refl) plain

  tree_told : (s : Statement) → (is_insert s ≡ true → ⊥) → (next : Known) (name : List ℕ) → show_tree k name ≡ Ok next → Told m s k next
  tree_told s plain next name e =
      let a = through (collection_of k.names name) (λ found. Ok (with_step k (step.ShowTree found.0))) next e in
      quietly s next (with_step k (step.ShowTree a.value.0)) (step.ShowTree a.value.0) (same_value (with_step k (step.ShowTree a.value.0)) next a.rest) refl refl (λ h. absurd cc) tt (refl, refl, refl) plain

  work_told : (s : Statement) → (is_insert s ≡ true → ⊥) → (next : Known) (name : List ℕ) → show_work m.last_edit k name ≡ Ok next → Told m s k next
  work_told s plain next name e =
      let free : ℕ → Judged (Unit {0}) = λ place. expect (not (nat_lt (get_or k.numbers place 0) m.last_edit)) refusal.WorkEdited in
      let a = through (kept_of k.names name) (λ place. free place >>= λ _. Ok (with_step k (step.ShowWork place))) next e in
      let b = through (free a.value) (λ _. Ok (with_step k (step.ShowWork a.value))) next a.rest in
      let within : a.value < length k.runs = kept_within g k fit name a.value a.first in
      let free : nat_lt (get_or k.numbers a.value 0) m.last_edit ≡ false = not_so (nat_lt (get_or k.numbers a.value 0) m.last_edit) (expected (not (nat_lt (get_or k.numbers a.value 0) m.last_edit)) refusal.WorkEdited b.value b.first) in
      quietly s next (with_step k (step.ShowWork a.value)) (step.ShowWork a.value) (same_value (with_step k (step.ShowWork a.value)) next b.rest) refl refl (λ h. absurd cc)
      (omega (arith, within, fit.counts.numbers), free) (refl, refl, refl) plain where
        not_so : (b : Bool) → not b ≡ true → b ≡ false
        not_so true h = absurd cc
        not_so false h = refl

  remove_told : (next : Known) (tree : PredTree) → remove g k tree ≡ Ok next → Told m (statement.Remove tree) k next
  remove_told next tree e =
      let a = through (predicate g tree) (λ p. Ok (with_step k (step.Remove p))) next e in
      quietly (statement.Remove tree) next (with_step k (step.Remove a.value)) (step.Remove a.value) (same_value (with_step k (step.Remove a.value)) next a.rest) refl refl (λ h. refl) tt (refl, refl, refl) (λ h. absurd cc)

  aggregate_told : (s : Statement) → (is_insert s ≡ true → ⊥) → (next : Known) (target by : List ℕ) (sum : Option (List ℕ)) → aggregate g k target by sum ≡ Ok next → Told m s k next
  aggregate_told s plain next target by sum e =
      let last : ℕ → ℕ → Option ℕ → Judged Known = λ place column summed. Ok (with_step k (step.Aggregate place column summed)) in
      let a = through (collection_of k.names target) (λ found. column_of g.node_columns by >>= λ column. sum_of g sum >>= last found.0 column.0) next e in
      let b = through (column_of g.node_columns by) (λ column. sum_of g sum >>= last a.value.0 column.0) next a.rest in
      let c = through (sum_of g sum) (last a.value.0 b.value.0) next b.rest in
      let it = step.Aggregate a.value.0 b.value.0 c.value in
      quietly s next (with_step k it) it (same_value (with_step k it) next c.rest) refl refl (λ h. absurd cc) tt (refl, refl, refl) plain

  pub told : (next : Known) (s : Statement) → statement_added g m k s ≡ Ok next → Told m s k next
  told next (statement.View name base tree) e = single_told _ (λ h. absurd cc) next name base tree e
  told next (statement.Collection name base items) e = collection_told _ (λ h. absurd cc) next name base items e
  told next (statement.Run call target within number o d keep phases) e = run_told _ (λ h. absurd cc) next call target (limits_of within number o d phases) (keep_of phases keep) e
  told next (statement.Program name params along start send gather update) e = program_told _ (λ h. absurd cc) next name params along start send gather update e
  told next (statement.Append target items) e = append_told _ (λ h. absurd cc) next target items e
  told next (statement.ShowOrder name) e = order_told _ (λ h. absurd cc) next name e
  told next (statement.ShowWork name) e = work_told _ (λ h. absurd cc) next name e
  told next (statement.ShowTree name) e = tree_told _ (λ h. absurd cc) next name e
  told next (statement.Insert file) e = subst (Told m (statement.Insert file) k) (same_value (with_insert k m.group) next e) (record {
    it = step.Insert k.edges m.group;
    steps = refl;
    more = [];
    numbers = sym (append-nil k.numbers);
    edits = λ h. refl;
    works = tt;
    loaded = refl;
    came = λ h. absurd cc;
    inserted = λ h. (refl, refl);
  })
  told next (statement.Remove tree) e = remove_told next tree e
  told next (statement.Aggregate target by sum) e = aggregate_told _ (λ h. absurd cc) next target by sum e

  open_on : (more : List ℕ) (s : Step) → ShowsOpen m.last_edit k.numbers s → ShowsOpen m.last_edit (k.numbers ++ more) s
  open_on more (step.ShowWork place) h =
      (omega (arith, h.0, length-append k.numbers more), ap (λ (n : ℕ). nat_lt n m.last_edit) (get_or_append_left k.numbers more 0 place h.0) ∙ h.1)
  open_on more step.Nothing h = tt
  open_on more (step.Make place count) h = tt
  open_on more (step.Run place) h = tt
  open_on more (step.Append place first count) h = tt
  open_on more (step.ShowOrder place) h = tt
  open_on more (step.ShowTree place) h = tt
  open_on more (step.Insert first count) h = tt
  open_on more (step.Remove rule) h = tt
  open_on more (step.Aggregate place by sum) h = tt

  -- the statement has the next number, and no edge comes or goes by a statement behind the last
  pub statement_later : (next : Known) (s : Statement) → m.number ≡ length k.steps + 2 → (is_edit s ≡ true → m.number ≤ m.last_edit) → Later m.last_edit k → statement_added g m k s ≡ Ok next
      → Later m.last_edit next
  statement_later next s at before later e = record {
    edits = λ n lt is. edits_on n (subst (λ (l : List Step). n < length l) t.steps lt) (subst (λ (l : List Step). edits (get_or l n step.Nothing) ≡ true) t.steps is);
    works = subst (All (ShowsOpen m.last_edit next.numbers)) (sym t.steps)
        (subst (λ (ns : List ℕ). All (ShowsOpen m.last_edit ns) (k.steps ++ t.it ∷ [])) (sym t.numbers)
        (All-push (ShowsOpen m.last_edit (k.numbers ++ t.more)) k.steps t.it (All-weaker (ShowsOpen m.last_edit k.numbers) (ShowsOpen m.last_edit (k.numbers ++ t.more)) (open_on t.more) k.steps later.works)
        (open_on t.more t.it t.works)));
  } where
    t : Told m s k next
    t = told next s e

    edits_on : (n : ℕ) → n < length (k.steps ++ t.it ∷ []) → edits (get_or (k.steps ++ t.it ∷ []) n step.Nothing) ≡ true → n + 2 ≤ m.last_edit
    edits_on n lt is = elim (cases_lt n (length k.steps)) [
      | inl h ↦ later.edits n h (subst (λ (x : Step). edits x ≡ true) (get_or_append_left k.steps (t.it ∷ []) step.Nothing n h) is)
      | inr h ↦
          let same : length k.steps ≡ n = omega (arith, h, lt, length-append k.steps (t.it ∷ [])) in
          let here : edits t.it ≡ true = subst (λ (x : Step). edits x ≡ true) (get_or_push k.steps t.it step.Nothing n same) is in
          omega (arith, same, at, before (t.edits here))
    ]

-- the edges that came are those of the files so far
abbrev pub AreCome : List ℕ → Known → Type 0
AreCome groups k = k.edges ≡ sum (take k.files groups)

none_sum : (n : ℕ) → sum (take n []) ≡ 0
none_sum zero = refl
none_sum (suc n) = refl

one_more : (count : ℕ) (more : List ℕ) → sum (count ∷ more) ≡ count + sum more
one_more count more = sum_by-cons (λ (n : ℕ). n) count more

next_sum : (groups : List ℕ) (n : ℕ) → sum (take (n + 1) groups) ≡ sum (take n groups) + group_at groups n
next_sum [] zero = refl
next_sum [] (suc n) = none_sum (suc n + 1)
next_sum (count ∷ more) zero = omega arith
next_sum (count ∷ more) (suc n) =
    let on : suc n + 1 ≡ suc (n + 1) = omega arith in
    let here = ap (λ (i : ℕ). sum (take i (count ∷ more))) on in
    omega (arith, here, one_more count (take (n + 1) more), one_more count (take n more), next_sum more n)

pub first_sum : (groups : List ℕ) (n : ℕ) → sum (take n groups) ≤ sum groups
first_sum [] zero = omega arith
first_sum [] (suc n) = omega arith
first_sum (count ∷ more) zero = omega arith
first_sum (count ∷ more) (suc n) = omega (arith, one_more count (take n more), one_more count more, first_sum more n)

-- with the next file there are no more edges than with all files
pub come_next : (groups : List ℕ) (k : Known) → AreCome groups k → k.edges + group_at groups k.files ≤ sum groups
come_next groups k h = omega (arith, h, next_sum groups k.files, first_sum groups (k.files + 1))

pub statement_come : (g : GraphData) (groups : List ℕ) (m : Moment) (k : Known) (fit : KnownFits g k) (next : Known) (s : Statement) → m.group ≡ group_at groups k.files → AreCome groups k
    → statement_added g m k s ≡ Ok next → AreCome groups next
statement_come g groups m k fit next s is h e = by (is_insert s) refl where
  t : Told m s k next
  t = told g m k fit next s e

  by : (b : Bool) → is_insert s ≡ b → AreCome groups next
  by false other = let same = t.came other in same.0 ∙ h ∙ ap (λ (n : ℕ). sum (take n groups)) (sym same.1)
  by true comes =
      let more = t.inserted comes in
      let all : k.edges + m.group ≡ sum (take (k.files + 1) groups) = omega (arith, h, is, next_sum groups k.files) in
      more.0 ∙ all ∙ ap (λ (n : ℕ). sum (take n groups)) (sym more.1)

-- the files that a statement takes
pub statement_files : (g : GraphData) (m : Moment) (k : Known) (fit : KnownFits g k) (next : Known) (s : Statement) (more : List Statement) → statement_added g m k s ≡ Ok next
    → next.files + sum_by files_of more ≡ k.files + sum_by files_of (s ∷ more)
statement_files g m k fit next s more e = by (is_insert s) refl where
  t : Told m s k next
  t = told g m k fit next s e

  by : (b : Bool) → is_insert s ≡ b → next.files + sum_by files_of more ≡ k.files + sum_by files_of (s ∷ more)
  by false other = omega (arith, (t.came other).1, cond-false {A = ℕ} (is_insert s) 1 0 other, sum_by-cons files_of s more)
  by true comes = omega (arith, (t.inserted comes).1, cond-true {A = ℕ} (is_insert s) 1 0 comes, sum_by-cons files_of s more)
