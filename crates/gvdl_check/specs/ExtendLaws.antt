-- What is known after a statement goes on from what was known before it.
use Rattle.std.proofs.Common.{◌≡◌, ◌∙◌, ℕ, ℤ, zero, suc, List, [], ◌∷◌, ◌++◌, length, Option, Some, None, Ok, Bool, true, false, cond, slice_get, get_or, refl, sym, ap, subst, append_assoc, append-nil}
use Rattle.std.specs.Prelude.{set, bytes_eq, nat_lt, not, All}
use Rattle.std.specs.List.{range_with_len}
use Rattle.std.proofs.lemmas.List.Elements.{All-push, All-weaker}
use Rattle.std.proofs.lemmas.Option.{get_or_from_slice_get}
use Rattle.graph_model.specs.GraphData.{GraphData}
use Rattle.gvdl_tree.specs.declared.predicate.PredTree.{PredTree}
use Rattle.gvdl_tree.specs.declared.expression.ExprTree.{ExprTree}
use Rattle.gvdl_tree.specs.declared.script.Along.{Along}
use Rattle.gvdl_tree.specs.declared.script.Call.{Call}
use Rattle.gvdl_tree.specs.declared.script.Gather.{Gather}
use Rattle.gvdl_tree.specs.declared.script.Item.{Item}
use Rattle.gvdl_tree.specs.declared.script.ItemBody.{ItemBody}
use Rattle.gvdl_tree.specs.declared.script.ItemBody.TheVariants as body
use Rattle.gvdl_tree.specs.declared.script.Statement.{Statement}
use Rattle.gvdl_tree.specs.declared.script.Statement.TheVariants as statement
use Rattle.edge_predicates.specs.declared.pred.Pred.{Pred}
use Rattle.segment_split.specs.declared.SplitRule.{SplitRule}
use Rattle.vertex_lang.specs.declared.program.Program.{Program}
use Rattle.vertex_lang.specs.declared.lone.Rounds.{Rounds}
use Rattle.gvdl_programs.specs.declared.refusal.Refusal.TheVariants as refusal
use Rattle.gvdl_programs.specs.declared.template.Callable.{Callable}
use Rattle.gvdl_programs.specs.declared.template.ProgramTemplate.{ProgramTemplate}
use Rattle.gvdl_programs.specs.Judging.{Judged, ◌>>=◌, expect}
use Rattle.gvdl_programs.specs.JudgingLaws.{through, same_value}
use Rattle.gvdl_programs.specs.Columns.{column_of, int_column}
use Rattle.gvdl_programs.specs.Programs.{declared}
use Rattle.gvdl_programs.specs.Calls.{called}
use Rattle.gvdl_check.specs.declared.call.Limits.{Limits}
use Rattle.gvdl_check.specs.declared.names.Meaning.{Meaning}
use Rattle.gvdl_check.specs.declared.names.Meaning.TheVariants as meaning
use Rattle.gvdl_check.specs.declared.plan.ViewPlan.{ViewPlan}
use Rattle.gvdl_check.specs.declared.plan.CollectionPlan.{CollectionPlan}
use Rattle.gvdl_check.specs.declared.plan.RunPlan.{RunPlan}
use Rattle.gvdl_check.specs.declared.plan.Step.TheVariants as step
use Rattle.gvdl_check.specs.declared.known.Known.{Known}
use Rattle.gvdl_check.specs.Faults.{at}
use Rattle.gvdl_check.specs.Names.{NameList, meaning_of, new_name, base_of, collection_of, kept_of, as_program, known_program, program_of}
use Rattle.gvdl_check.specs.Known.{with_step, with_single, collection_plan, with_collection, collection_at, views_in, with_views, append_step, with_append, with_program, with_insert, with_run}
use Rattle.gvdl_check.specs.Predicates.{predicate}
use Rattle.gvdl_check.specs.Singles.{rules_at}
use Rattle.gvdl_check.specs.Views.{view_on, new_view, room, rule_added, is_window, window_count, window_name, windowed, window_added, slid, windows_added, body_added, item_added, items_added}
use Rattle.gvdl_check.specs.ViewLaws.{turns_keep}
use Rattle.gvdl_check.specs.Plans.{single, collection, views_appended, append, program, order_of, kept_among, keep_added, run_plan, program_meant, limits_meant, run_planned, run, limits_of, keep_of, is_insert, remove, sum_of, aggregate, show_order, show_tree, show_work, statement_added}
use Rattle.gvdl_check.specs.declared.statement.Moment.{Moment}
use Rattle.gvdl_check.specs.Continued.{IsFront, GrowsTo}

-- ---- fronts

nothing_more : {X : Type 0} (xs : List X) → IsFront xs xs
nothing_more xs = ([], sym (append-nil xs))

more_behind : {X : Type 0} (xs more : List X) → IsFront xs (xs ++ more)
more_behind xs more = (more, refl)

front_first : {X : Type 0} (xs ys zs : List X) → IsFront xs ys → IsFront ys zs → IsFront xs zs
front_first {X} xs ys zs a b = (a.0 ++ b.0, b.1 ∙ ap (λ (all : List X). all ++ b.0) a.1 ∙ append_assoc xs a.0 b.0)

-- ---- the views of a collection

module _ (g : GraphData) (base : List Pred) (first : List ViewPlan) where
  one_behind : (views next : List ViewPlan) (view : ViewPlan) → IsFront first views → (views ++ view ∷ []) ≡ next → IsFront first next
  one_behind views next view h e = subst (λ (vs : List ViewPlan). IsFront first vs) e (front_first first views (views ++ view ∷ []) h (more_behind views (view ∷ [])))

  rule_behind : (views next : List ViewPlan) (name : List ℕ) (tree : PredTree) → IsFront first views → rule_added g base views name tree ≡ Ok next → IsFront first next
  rule_behind views next name tree h e =
      let last : Pred → Unit {0} → Judged (List ViewPlan) = λ p u. Ok (views ++ view_on base name p ∷ []) in
      let s = through (new_view views name) (λ _. predicate g tree >>= λ p. room views >>= last p) next e in
      let t = through (predicate g tree) (λ p. room views >>= last p) next s.rest in
      let u = through (room views) (last t.value) next t.rest in
      one_behind views next (view_on base name t.value) h (same_value (views ++ view_on base name t.value ∷ []) next u.rest)

  window_behind : (name : List ℕ) (column : ℕ) (from : ℤ) (width step : ℕ) (views next : List ViewPlan) (i : ℕ) → IsFront first views
      → window_added base name column from width step views i ≡ Ok next → IsFront first next
  window_behind name column from width step views next i h e =
      let here = windowed base name column from width step i in
      let last : Unit {0} → Judged (List ViewPlan) = λ u. Ok (views ++ here ∷ []) in
      let s = through (new_view views (window_name name i)) (λ _. room views >>= last) next e in
      let u = through (room views) last next s.rest in
      one_behind views next here h (same_value (views ++ here ∷ []) next u.rest)

  windows_behind : (views next : List ViewPlan) (name property : List ℕ) (from to : ℤ) (width step : ℕ) → IsFront first views
      → windows_added g base views name property from to width step ≡ Ok next → IsFront first next
  windows_behind views next name property from to width step h e =
      let places = range_with_len 0 (window_count from to step) in
      let all : ℕ → Unit {0} → Judged (List ViewPlan) = λ column u. slid base name column from to width step views in
      let sound : Judged (Unit {0}) = expect (is_window from to width step) refusal.WrongArguments in
      let s = through (int_column g.edge_columns property) (λ column. sound >>= all column) next e in
      let t = through sound (all s.value) next s.rest in
      turns_keep (window_added base name s.value from width step) (λ (vs : List ViewPlan). IsFront first vs) (window_behind name s.value from width step) views next places h t.rest

  body_behind : (views next : List ViewPlan) (name : List ℕ) (b : ItemBody) → IsFront first views → body_added g base views name b ≡ Ok next → IsFront first next
  body_behind views next name (body.Rule tree) h e = rule_behind views next name tree h e
  body_behind views next name (body.Window property from to width step) h e = windows_behind views next name property from to width step h e

  items_behind : (items : List Item) (next : List ViewPlan) → items_added g base first items ≡ Ok next → IsFront first next
  items_behind items next e =
      turns_keep (item_added g base) (λ (vs : List ViewPlan). IsFront first vs) (λ b c item. body_behind b c item.name item.body) first next items (nothing_more first) e

-- ---- collections

abbrev pub CollectionsGrow : List CollectionPlan → List CollectionPlan → Type 0
CollectionsGrow before after = (place : ℕ) (c : CollectionPlan) → slice_get before place ≡ Some c → (d : CollectionPlan) × (slice_get after place ≡ Some d) × GrowsTo c d

unchanged : (c : CollectionPlan) → GrowsTo c c
unchanged c = record { name = refl; views = nothing_more c.views }

none_grows : (cs : List CollectionPlan) → CollectionsGrow cs cs
none_grows cs place c at = (c, at, unchanged c)

both_grow : (a b c : List CollectionPlan) → CollectionsGrow a b → CollectionsGrow b c → CollectionsGrow a c
both_grow a b c first second place x at =
    let y = first place x at in
    let z = second place y.0 y.1 in (
      z.0,
      z.1,
      record { name = z.2.name ∙ y.2.name; views = front_first x.views y.0.views z.0.views y.2.views z.2.views },
    )

got_first : {X : Type 0} (xs more : List X) (i : ℕ) (x : X) → slice_get xs i ≡ Some x → slice_get (xs ++ more) i ≡ Some x
got_first [] more i x e = absurd cc
got_first (y ∷ ys) more zero x e = e
got_first (y ∷ ys) more (suc i) x e = got_first ys more i x e

one_made : (cs : List CollectionPlan) (c : CollectionPlan) → CollectionsGrow cs (cs ++ c ∷ [])
one_made cs c place x at = (x, got_first cs (c ∷ []) place x at, unchanged x)

one_set : (cs : List CollectionPlan) (place : ℕ) (new : CollectionPlan) → ((c : CollectionPlan) → slice_get cs place ≡ Some c → GrowsTo c new) → CollectionsGrow cs (set cs place new)
one_set [] place new grows i c at = absurd cc
one_set (x ∷ xs) zero new grows zero c at = (new, refl, grows c at)
one_set (x ∷ xs) zero new grows (suc i) c at = (c, at, unchanged c)
one_set (x ∷ xs) (suc place) new grows zero c at = (c, at, unchanged c)
one_set (x ∷ xs) (suc place) new grows (suc i) c at = one_set xs place new grows i c at

-- the collection with this place has more views
views_added_to : (cs : List CollectionPlan) (place : ℕ) (views : List ViewPlan) → IsFront (views_in cs place) views → CollectionsGrow cs (with_views cs place views)
views_added_to cs place views front =
    one_set cs place (collection_plan (collection_at cs place).name views)
    (λ c at.
    let is : collection_at cs place ≡ c = get_or_from_slice_get cs place c (collection_plan [] []) at in
    record {
      name = ap (λ (d : CollectionPlan). d.name) is;
      views = subst (λ (d : CollectionPlan). IsFront d.views views) is front;
    })

-- ---- names

abbrev chosen : Bool → Meaning → Option Meaning → Option Meaning
chosen b m other = cond b (Some m) other

name_stays : (names more : NameList) (name : List ℕ) (m : Meaning) → meaning_of names name ≡ Some m → meaning_of (names ++ more) name ≡ Some m
name_stays [] more name m e = absurd cc
name_stays (taken ∷ names) more name m e = by (bytes_eq name taken.0) e (name_stays names more name m) where
  by : (b : Bool) → chosen b taken.1 (meaning_of names name) ≡ Some m → (meaning_of names name ≡ Some m → meaning_of (names ++ more) name ≡ Some m) → chosen b taken.1 (meaning_of (names ++ more) name) ≡ Some m
  by true e later = e
  by false e later = later e

of_program : (o : Option Meaning) (c : Callable) → known_program (as_program o) ≡ Ok c → o ≡ Some (meaning.Program c)
of_program None c e = absurd cc
of_program (Some (meaning.Program p)) c e = ap (λ (x : Callable). Some (meaning.Program x)) (same_value p c e)
of_program (Some (meaning.Base base)) c e = absurd cc
of_program (Some (meaning.Collection place base)) c e = absurd cc
of_program (Some (meaning.Kept place)) c e = absurd cc

program_stays : (names more : NameList) (name : List ℕ) (c : Callable) → program_of names name ≡ Ok c → program_of (names ++ more) name ≡ Ok c
program_stays names more name c e =
    ap (λ (o : Option Meaning). known_program (as_program o)) (name_stays names more name (meaning.Program c) (of_program (meaning_of names name) c e))

-- ---- runs

-- the program of the run is what its call means, where these names are known
abbrev pub IsMeant : GraphData → NameList → RunPlan → Type 0
IsMeant g names r = (found : Callable) × (program_of names r.call.name ≡ Ok found) × (called g found r.call.args ≡ Ok r.program)

meant_later : (g : GraphData) (names after : NameList) (r : RunPlan) → IsFront names after → IsMeant g names r → IsMeant g after r
meant_later g names after r front h =
    (h.0, ap (λ (ns : NameList). program_of ns r.call.name) front.1 ∙ program_stays names front.0 r.call.name h.0 h.1, h.2)

-- ---- what is known after a statement, and what was known before it

pub record Extends (g : GraphData) (k next : Known) : Type 0 where
  pub names : IsFront k.names next.names
  pub collections : CollectionsGrow k.collections next.collections
  pub runs : IsFront k.runs next.runs
  pub steps : IsFront k.steps next.steps
  pub meant : All (IsMeant g k.names) k.runs → All (IsMeant g next.names) next.runs

pub extends_itself : (g : GraphData) (k : Known) → Extends g k k
extends_itself g k = record {
  names = nothing_more k.names;
  collections = none_grows k.collections;
  runs = nothing_more k.runs;
  steps = nothing_more k.steps;
  meant = λ h. h;
}

pub extends_both : (g : GraphData) (a b c : Known) → Extends g a b → Extends g b c → Extends g a c
extends_both g a b c first second = record {
  names = front_first a.names b.names c.names first.names second.names;
  collections = both_grow a.collections b.collections c.collections first.collections second.collections;
  runs = front_first a.runs b.runs c.runs first.runs second.runs;
  steps = front_first a.steps b.steps c.steps first.steps second.steps;
  meant = λ h. second.meant (first.meant h);
}

all_meant_later : (g : GraphData) (names after : NameList) (runs : List RunPlan) → IsFront names after → All (IsMeant g names) runs → All (IsMeant g after) runs
all_meant_later g names after runs front h = All-weaker (IsMeant g names) (IsMeant g after) (λ r. meant_later g names after r front) runs h

module _ (g : GraphData) (k : Known) where
  step_extends : (next : Known) (s : _) → with_step k s ≡ next → Extends g k next
  step_extends next s e = subst (Extends g k) e (record {
    names = nothing_more k.names;
    collections = none_grows k.collections;
    runs = nothing_more k.runs;
    steps = more_behind k.steps (s ∷ []);
    meant = λ h. h;
  })

  single_extends : (next : Known) (name base : List ℕ) (tree : PredTree) → single g k name base tree ≡ Ok next → Extends g k next
  single_extends next name base tree e =
      let last : Option ℕ → Pred → Judged Known = λ place p. Ok (with_single k name place p) in
      let s = through (new_name k.names name) (λ _. base_of k.names base >>= λ place. predicate g tree >>= last place) next e in
      let t = through (base_of k.names base) (λ place. predicate g tree >>= last place) next s.rest in
      let u = through (predicate g tree) (last t.value) next t.rest in
      let names : IsFront k.names (with_single k name t.value u.value).names = more_behind k.names ((name, meaning.Base (Some (length k.singles))) ∷ []) in
      subst (Extends g k) (same_value (with_single k name t.value u.value) next u.rest) (record {
        names = names;
        collections = none_grows k.collections;
        runs = nothing_more k.runs;
        steps = more_behind k.steps (step.Nothing ∷ []);
        meant = all_meant_later g k.names (with_single k name t.value u.value).names k.runs names;
      })

  collection_extends : (next : Known) (name base : List ℕ) (items : List Item) → collection g k name base items ≡ Ok next → Extends g k next
  collection_extends next name base items e =
      let views_on : Option ℕ → Judged (List ViewPlan) = λ place. items_added g (rules_at k.singles place) [] items in
      let last : Option ℕ → List ViewPlan → Judged Known = λ place views. Ok (with_collection k name place views) in
      let s = through (new_name k.names name) (λ _. base_of k.names base >>= λ place. views_on place >>= last place) next e in
      let t = through (base_of k.names base) (λ place. views_on place >>= last place) next s.rest in
      let u = through (views_on t.value) (last t.value) next t.rest in
      let names : IsFront k.names (with_collection k name t.value u.value).names = more_behind k.names ((name, meaning.Collection (length k.collections) t.value) ∷ []) in
      subst (Extends g k) (same_value (with_collection k name t.value u.value) next u.rest) (record {
        names = names;
        collections = one_made k.collections (collection_plan name u.value);
        runs = nothing_more k.runs;
        steps = more_behind k.steps (step.Make (length k.collections) (length u.value) ∷ []);
        meant = all_meant_later g k.names (with_collection k name t.value u.value).names k.runs names;
      })

  append_extends : (next : Known) (target : List ℕ) (items : List Item) → append g k target items ≡ Ok next → Extends g k next
  append_extends next target items e =
      let more_on : ℕ × Option ℕ → Judged (List CollectionPlan) = λ found. views_appended g (rules_at k.singles found.1) k.collections found.0 items in
      let last : ℕ × Option ℕ → List CollectionPlan → Judged Known = λ found cs. Ok (with_append k found.0 cs) in
      let s = through (collection_of k.names target) (λ found. more_on found >>= last found) next e in
      let t = through (more_on s.value) (last s.value) next s.rest in
      let place = s.value.0 in
      let rules = rules_at k.singles s.value.1 in
      let before = views_in k.collections place in
      let u = through (items_added g rules before items) (λ views. Ok (with_views k.collections place views)) t.value t.first in
      let it : with_views k.collections place u.value ≡ t.value = same_value (with_views k.collections place u.value) t.value u.rest in
      let made : with_append k place (with_views k.collections place u.value) ≡ next = ap (with_append k place) it ∙ same_value (with_append k place t.value) next t.rest in
      subst (Extends g k) made (record {
        names = nothing_more k.names;
        collections = views_added_to k.collections place u.value (items_behind g rules before items u.value u.first);
        runs = nothing_more k.runs;
        steps = more_behind k.steps (append_step k.collections (with_views k.collections place u.value) place ∷ []);
        meant = λ h. h;
      })

  program_extends : (next : Known) (name : List ℕ) (params : List (List ℕ)) (way : Along) (start send : ExprTree) (how : Gather) (update : ExprTree)
      → program g k name params way start send how update ≡ Ok next → Extends g k next
  program_extends next name params way start send how update e =
      let last : ProgramTemplate → Judged Known = λ t. Ok (with_program k name t) in
      let said = declared g params way start send how update in
      let s = through (new_name k.names name) (λ _. said >>= last) next e in
      let t = through said last next s.rest in
      let names : IsFront k.names (with_program k name t.value).names = more_behind k.names _ in
      subst (Extends g k) (same_value (with_program k name t.value) next t.rest) (record {
        names = names;
        collections = none_grows k.collections;
        runs = nothing_more k.runs;
        steps = more_behind k.steps (step.Nothing ∷ []);
        meant = all_meant_later g k.names (with_program k name t.value).names k.runs names;
      })

  keep_behind : (keep : Option (List ℕ)) (names : NameList) → keep_added k.names k.runs keep ≡ Ok names → IsFront k.names names
  keep_behind None names e = subst (λ (ns : NameList). IsFront k.names ns) (same_value k.names names e) (nothing_more k.names)
  keep_behind (Some name) names e =
      let all : NameList = k.names ++ (name, meaning.Kept (length k.runs)) ∷ [] in
      let few : Judged (Unit {0}) = expect (nat_lt (kept_among k.runs) 64) refusal.TooManyKept in
      let s = through (new_name k.names name) (λ _. few >>= λ _. Ok all) names e in
      let t = through few (λ _. Ok all) names s.rest in
      subst (λ (ns : NameList). IsFront k.names ns) (same_value all names t.rest) (more_behind k.names ((name, meaning.Kept (length k.runs)) ∷ []))

  program_is_meant : (call : Call) (target : List ℕ) (meant : ℕ × Program)
      → program_meant g k.names call target ≡ Ok meant
      → (found : Callable) × (program_of k.names call.name ≡ Ok found) × (called g found call.args ≡ Ok meant.1)
  program_is_meant call target meant e =
      let last : ℕ × Option ℕ → Program → Judged (ℕ × Program) = λ place it. Ok (place.0, it) in
      let from_place : Callable → ℕ × Option ℕ → Judged (ℕ × Program) = λ found place. called g found call.args >>= last place in
      let a = through (program_of k.names call.name) (λ found. collection_of k.names target >>= from_place found) meant e in
      let b = through (collection_of k.names target) (from_place a.value) meant a.rest in
      let c = through (called g a.value call.args) (last b.value) meant b.rest in
      let is : c.value ≡ meant.1 = ap (λ (m : ℕ × Program). m.1) (same_value (b.value.0, c.value) meant c.rest) in
      (a.value, a.first, c.first ∙ ap Ok is)

  run_is_meant : (call : Call) (target : List ℕ) (limits : Limits) (keep : Option (List ℕ)) (planned : RunPlan)
      → run_planned g k.names call target limits keep ≡ Ok planned → IsMeant g k.names planned
  run_is_meant call target limits keep planned e =
      let last : ℕ × Program → Rounds × Option ℕ × SplitRule → Judged RunPlan =
      λ meant way. Ok (run_plan meant.0 call meant.1 way (order_of limits.order) keep) in
      let a = through (program_meant g k.names call target) (λ meant. limits_meant limits >>= last meant) planned e in
      let b = through (limits_meant limits) (last a.value) planned a.rest in
      subst (IsMeant g k.names)
      (same_value (run_plan a.value.0 call a.value.1 b.value (order_of limits.order) keep) planned b.rest)
      (program_is_meant call target a.value a.first)

  run_extends : (next : Known) (number : ℕ) (call : Call) (target : List ℕ) (limits : Limits) (keep : Option (List ℕ))
      → run g number k call target limits keep ≡ Ok next → Extends g k next
  run_extends next number call target limits keep e =
      let last : RunPlan → NameList → Judged Known = λ planned names. Ok (with_run k number names planned) in
      let taken = keep_added k.names k.runs keep in
      let a = through (run_planned g k.names call target limits keep) (λ planned. taken >>= last planned) next e in
      let b = through taken (last a.value) next a.rest in
      let names : IsFront k.names b.value = keep_behind keep b.value b.first in
      let meant : IsMeant g k.names a.value = run_is_meant call target limits keep a.value a.first in
      subst (Extends g k) (same_value (with_run k number b.value a.value) next b.rest) (record {
        names = names;
        collections = none_grows k.collections;
        runs = more_behind k.runs (a.value ∷ []);
        steps = more_behind k.steps (step.Run (length k.runs) ∷ []);
        meant = λ h.
            All-push (IsMeant g b.value) k.runs a.value (all_meant_later g k.names b.value k.runs names h)
            (meant_later g k.names b.value a.value names meant);
      })

  show_order_extends : (next : Known) (name : List ℕ) → show_order k name ≡ Ok next → Extends g k next
  show_order_extends next name e =
      let s = through (collection_of k.names name) (λ found. Ok (with_step k (step.ShowOrder found.0))) next e in
      step_extends next (step.ShowOrder s.value.0) (same_value (with_step k (step.ShowOrder s.value.0)) next s.rest)

  show_tree_extends : (next : Known) (name : List ℕ) → show_tree k name ≡ Ok next → Extends g k next
  show_tree_extends next name e =
      let s = through (collection_of k.names name) (λ found. Ok (with_step k (step.ShowTree found.0))) next e in
      step_extends next (step.ShowTree s.value.0) (same_value (with_step k (step.ShowTree s.value.0)) next s.rest)

  show_work_extends : (next : Known) (last : ℕ) (name : List ℕ) → show_work last k name ≡ Ok next → Extends g k next
  show_work_extends next last name e =
      let free : ℕ → Judged (Unit {0}) = λ place. expect (not (nat_lt (get_or k.numbers place 0) last)) refusal.WorkEdited in
      let s = through (kept_of k.names name) (λ place. free place >>= λ _. Ok (with_step k (step.ShowWork place))) next e in
      let t = through (free s.value) (λ _. Ok (with_step k (step.ShowWork s.value))) next s.rest in
      step_extends next (step.ShowWork s.value) (same_value (with_step k (step.ShowWork s.value)) next t.rest)

  remove_extends : (next : Known) (tree : PredTree) → remove g k tree ≡ Ok next → Extends g k next
  remove_extends next tree e =
      let s = through (predicate g tree) (λ p. Ok (with_step k (step.Remove p))) next e in
      step_extends next (step.Remove s.value) (same_value (with_step k (step.Remove s.value)) next s.rest)

  insert_extends : (next : Known) (count : ℕ) → with_insert k count ≡ next → Extends g k next
  insert_extends next count e = subst (Extends g k) e (record {
    names = nothing_more k.names;
    collections = none_grows k.collections;
    runs = nothing_more k.runs;
    steps = more_behind k.steps (step.Insert k.edges count ∷ []);
    meant = λ h. h;
  })

  aggregate_extends : (next : Known) (target by : List ℕ) (sum : Option (List ℕ)) → aggregate g k target by sum ≡ Ok next → Extends g k next
  aggregate_extends next target by sum e =
      let last : ℕ → ℕ → Option ℕ → Judged Known = λ place column summed. Ok (with_step k (step.Aggregate place column summed)) in
      let a = through (collection_of k.names target) (λ found. column_of g.node_columns by >>= λ column. sum_of g sum >>= last found.0 column.0) next e in
      let b = through (column_of g.node_columns by) (λ column. sum_of g sum >>= last a.value.0 column.0) next a.rest in
      let c = through (sum_of g sum) (last a.value.0 b.value.0) next b.rest in
      step_extends next (step.Aggregate a.value.0 b.value.0 c.value) (same_value (with_step k (step.Aggregate a.value.0 b.value.0 c.value)) next c.rest)

  pub statement_extends : (m : Moment) (next : Known) (s : Statement) → statement_added g m k s ≡ Ok next → Extends g k next
  statement_extends m next (statement.View name base tree) e = single_extends next name base tree e
  statement_extends m next (statement.Collection name base items) e = collection_extends next name base items e
  statement_extends m next (statement.Run call target within number o d keep phases) e = run_extends next m.number call target (limits_of within number o d phases) (keep_of phases keep) e
  statement_extends m next (statement.Program name params along start send gather update) e = program_extends next name params along start send gather update e
  statement_extends m next (statement.Append target items) e = append_extends next target items e
  statement_extends m next (statement.ShowOrder name) e = show_order_extends next name e
  statement_extends m next (statement.ShowWork name) e = show_work_extends next m.last_edit name e
  statement_extends m next (statement.ShowTree name) e = show_tree_extends next name e
  statement_extends m next (statement.Insert file) e = insert_extends next m.group (same_value (with_insert k m.group) next e)
  statement_extends m next (statement.Remove tree) e = remove_extends next tree e
  statement_extends m next (statement.Aggregate target by sum) e = aggregate_extends next target by sum e

  -- ---- a statement of the shorter script and of the longer one: it is told another last edit, and no edge comes with it or as many

  work_again : (a b : Known) (first second : ℕ) (name : List ℕ) → show_work first k name ≡ Ok a → show_work second k name ≡ Ok b → a ≡ b
  work_again a b first second name e f =
      let last : ℕ → Judged Known = λ place. Ok (with_step k (step.ShowWork place)) in
      let free : ℕ → ℕ → Judged (Unit {0}) = λ last place. expect (not (nat_lt (get_or k.numbers place 0) last)) refusal.WorkEdited in
      let s = through (kept_of k.names name) (λ place. free first place >>= λ _. last place) a e in
      let t = through (free first s.value) (λ _. last s.value) a s.rest in
      let u = through (kept_of k.names name) (λ place. free second place >>= λ _. last place) b f in
      let v = through (free second u.value) (λ _. last u.value) b u.rest in
      let same : s.value ≡ u.value = same_value s.value u.value (sym s.first ∙ u.first) in
      sym (same_value (with_step k (step.ShowWork s.value)) a t.rest) ∙ ap (λ (place : ℕ). with_step k (step.ShowWork place)) same ∙ same_value (with_step k (step.ShowWork u.value)) b v.rest

  both_same : (said other : Judged Known) (a b : Known) → said ≡ other → said ≡ Ok a → other ≡ Ok b → a ≡ b
  both_same said other a b same e f = same_value a b (sym e ∙ same ∙ f)

  pub statement_again : (m n : Moment) (a b : Known) (s : Statement) → n.number ≡ m.number → (is_insert s ≡ true → n.group ≡ m.group) → statement_added g m k s ≡ Ok a → statement_added g n k s ≡ Ok b → a ≡ b
  statement_again m n a b (statement.View name base tree) number group e f = same_value a b (sym e ∙ f)
  statement_again m n a b (statement.Collection name base items) number group e f = same_value a b (sym e ∙ f)
  statement_again m n a b (statement.Run call target within limit o d keep phases) number group e f =
      let it : ℕ → Judged Known = λ i. run g i k call target (limits_of within limit o d phases) (keep_of phases keep) in
      both_same (it m.number) (it n.number) a b (ap it (sym number)) e f
  statement_again m n a b (statement.Program name params along start send gather update) number group e f = same_value a b (sym e ∙ f)
  statement_again m n a b (statement.Append target items) number group e f = same_value a b (sym e ∙ f)
  statement_again m n a b (statement.ShowOrder name) number group e f = same_value a b (sym e ∙ f)
  statement_again m n a b (statement.ShowWork name) number group e f = work_again a b m.last_edit n.last_edit name e f
  statement_again m n a b (statement.ShowTree name) number group e f = same_value a b (sym e ∙ f)
  statement_again m n a b (statement.Insert file) number group e f =
      sym (same_value (with_insert k m.group) a e) ∙ ap (with_insert k) (sym (group refl)) ∙ same_value (with_insert k n.group) b f
  statement_again m n a b (statement.Remove tree) number group e f = same_value a b (sym e ∙ f)
  statement_again m n a b (statement.Aggregate target by sum) number group e f = same_value a b (sym e ∙ f)
