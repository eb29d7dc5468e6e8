-- The table of a view of a plan, with all its rows, is a block.
use Rattle.std.proofs.Common.{◌≡◌, ◌≢◌, ◌∙◌, inl, inr, ℕ, zero, suc, ◌+◌, ◌<◌, ◌≤◌, ◌^◌, ℤ, pos, negsuc, Bool, true, false, ◌&&◌, List, [], ◌∷◌, length, map, drop, get_or, Option, Some, None, if◌then◌else◌, refl, sym, ap, subst, arith}
use Rattle.std.specs.Prelude.{All, Contains, IfSome}
use Rattle.std.proofs.lemmas.List.{length-map}
use Rattle.std.proofs.lemmas.List.Elements.{All-from_get_or, All-head, All-map, All-nil, All-tail}
use Rattle.std.proofs.lemmas.List.FromFn.{length-map-range_with_len}
use Rattle.graph_model.specs.declared.number.EdgeNo.{EdgeNo}
use Rattle.graph_model.specs.declared.number.NodeNo.{NodeNo}
use Rattle.graph_model.specs.declared.value.Val.{Val}
use Rattle.graph_model.specs.declared.value.Val.TheVariants.{Nil, Num}
use Rattle.graph_model.specs.GraphData.{GraphData, HasEdgeCells, HasNodeCells, IsGraphData, id_of, node, nodes_by_id}
use Rattle.edge_predicates.specs.declared.pred.ViewRule.{ViewRule}
use Rattle.vertex_lang.specs.declared.arc.Arc.{Arc}
use Rattle.vertex_lang.specs.declared.lone.Lone.{Lone}
use Rattle.vertex_lang.specs.declared.lone.Outcome.{Outcome}
use Rattle.vertex_lang.specs.declared.lone.Outcome.TheVariants as outcome
use Rattle.vertex_lang.specs.declared.lone.Rounds.{Rounds}
use Rattle.vertex_lang.specs.declared.lone.Rounds.TheVariants as rounds
use Rattle.vertex_lang.specs.AnswerLaws.{answer_meets, few_rounds}
use Rattle.vertex_lang.specs.ArcLaws.{arcs-within}
use Rattle.vertex_lang.specs.Arcs.{IsArc}
use Rattle.vertex_lang.specs.Expressions.{Answer, start_of}
use Rattle.vertex_lang.specs.Leaves.{HoldsNumber}
use Rattle.vertex_lang.specs.Lone.{answer_of, first_settled, number_of, rounds_run, settled_at}
use Rattle.vertex_lang.specs.LowestGiven.{OnlyGiven, lowest_in_answer, lowest_in_rounds}
use Rattle.vertex_lang.specs.PhaseLaws.{from_starts, length-phase, lone-from}
use Rattle.vertex_lang.specs.Phases.{are_quiet, phase_values, rounds_from, starts_of}
use Rattle.vertex_lang.specs.Rounds.{lone}
use Rattle.vertex_lang.specs.Values.{lowest, lowest_number}
use Rattle.gvdl_check.specs.declared.plan.RunPlan.{RunPlan}
use Rattle.gvdl_check.specs.Fits.{RunFits}
use Rattle.result_tables.specs.declared.table.Table.{Table}
use Rattle.result_tables.specs.Laws.{ids_rise}
use Rattle.result_tables.specs.TableText.{table_of}
use Rattle.change_text.specs.declared.kind.Kind.TheVariants as kind
use Rattle.change_text.specs.declared.row.Row.{Row}
use Rattle.change_text.specs.Blocks.{HasRows, IsBlock, IsHead, IsOutcome, IsRising, IsRow, IsValue}
use Rattle.change_text.specs.Writing.{full_of, row_of, table_rows}
use Rattle.surge_session.specs.Live.{LiveGraph, live_edges}
use Rattle.surge_session.specs.Output.{answer_over, view_answer, view_arcs}
use Rattle.surge_session.specs.Replays.{IsWord}
use Rattle.surge_session.proofs.ViewEdges.{live_edges_within}

-- ---- values

-- a number of 64 bits that isn't the lowest is one that a change text may have
value_fits : (v : Val) → IsWord v → v ≢ lowest → IsValue v
value_fits Nil word other = tt
value_fits (Num (pos n)) word other = word
value_fits (Num (negsuc n)) word other = let apart : n ≡ 9_223_372_036_854_775_807 → ⊥ = λ e. other (ap (λ (k : ℕ). Num (negsuc k)) e) in omega (arith, word, apart)

-- the answer in so many phases, by whether each was quiet
abbrev ended : Bool → ℕ → List Val → Lone
ended quiet m values = if quiet then record { outcome = outcome.Phases m; values = values } else record { outcome = outcome.Unsettled; values = [] }

module _ (answer : Answer) (only : OnlyGiven answer) (g : GraphData) (nodes : HasNodeCells g) (edges : HasEdgeCells g) (run : RunPlan) (free : HoldsNumber run.program lowest_number → ⊥) (arcs : List Arc) (are : All (IsArc g) arcs) where
  lone_free : (limit : Rounds) → Contains (answer_of answer run.program g arcs limit).values lowest → ⊥
  lone_free limit h = free (lowest_in_answer answer only run.program g nodes edges arcs are limit (answer_of answer run.program g arcs limit) (answer_meets answer run.program g arcs limit) h)

  -- the starts are the values after no round
  starts_free : Contains (starts_of run.program g) lowest → ⊥
  starts_free h =
      lone_free (rounds.For 0) (subst (λ (vs : List Val). Contains vs lowest) (sym (lone-from answer run.program g arcs 0 ∙ from_starts answer run.program g (starts_of run.program g) arcs)) h)

  phase_free : (n k : ℕ) → Contains (phase_values answer run.program g (starts_of run.program g) arcs n k) lowest → ⊥
  unfolding phase_values
  phase_free n zero h = starts_free h
  phase_free n (suc k) h =
      let starts = phase_values answer run.program g (starts_of run.program g) arcs n k in
      let size : length starts ≡ length g.ids = length-phase answer run.program g (starts_of run.program g) arcs n k (length-map-range_with_len (start_of run.program g) 0 (length g.ids)) in
      elim (lowest_in_rounds answer only run.program g nodes edges arcs are starts n (rounds_from answer run.program g starts arcs n) size refl h) [
        | inl holds ↦ free holds
        | inr began ↦ phase_free n k began
      ]

  none_lowest : (phases : Option ℕ) → Contains (answer_over answer g run arcs phases).values lowest → ⊥
  none_lowest None h = lone_free run.rounds h
  none_lowest (Some phases) h = by (are_quiet answer run.program g (starts_of run.program g) arcs (number_of run.rounds) phases) h where
    by : (quiet : Bool) → Contains (ended quiet phases (phase_values answer run.program g (starts_of run.program g) arcs (number_of run.rounds) phases)).values lowest → ⊥
    by true h = phase_free (number_of run.rounds) phases h
    by false h = omega (arith, h.1)

-- ---- how a run ends

settled_fits : (values : ℕ → List Val) (n : ℕ) (o : Option ℕ) → n ≤ 1_000_000 → rounds_run n (settled_at values o).outcome ≤ n → IsOutcome (settled_at values o).outcome
settled_fits values n None few le = tt
settled_fits values n (Some r) few le = let fewer : r + 1 ≤ n = le in omega (arith, few, fewer)

lone_ends : (answer : Answer) (g : GraphData) (run : RunPlan) (arcs : List Arc) (limit : Rounds) → number_of limit ≤ 1_000_000 → IsOutcome (answer_of answer run.program g arcs limit).outcome
lone_ends answer g run arcs (rounds.Within n) few =
    settled_fits (lone answer run.program g arcs) n (first_settled (lone answer run.program g arcs) n 0) few
    (few_rounds answer run.program g arcs (rounds.Within n) (answer_of answer run.program g arcs (rounds.Within n)) (answer_meets answer run.program g arcs (rounds.Within n)))
lone_ends answer g run arcs (rounds.For n) few = let small : n ≤ 1_000_000 = few in omega (arith, small)

ends_in : (answer : Answer) (g : GraphData) (run : RunPlan) (arcs : List Arc) (phases : Option ℕ) → number_of run.rounds ≤ 1_000_000 → IfSome phases (λ n. n ≤ 1_000) → IsOutcome (answer_over answer g run arcs phases).outcome
ends_in answer g run arcs None few some = lone_ends answer g run arcs run.rounds few
ends_in answer g run arcs (Some m) few some = by (are_quiet answer run.program g (starts_of run.program g) arcs (number_of run.rounds) m) where
  by : (quiet : Bool) → IsOutcome (ended quiet m (phase_values answer run.program g (starts_of run.program g) arcs (number_of run.rounds) m)).outcome
  by true = let small : m ≤ 1_000 = some in omega (arith, small)
  by false = tt

few_phases : (phases : Option ℕ) (keep : Option (List ℕ)) → IfSome phases (λ n. (1 ≤ n) × (n ≤ 1_000) × (keep ≡ None)) → IfSome phases (λ n. n ≤ 1_000)
few_phases None keep h = tt
few_phases (Some n) keep h = h.1

-- ---- rows

-- what holds of each item, and of what stands for those that aren't there
got : {X : Type 0} (P : X → Type 0) (xs : List X) (i : ℕ) (d : X) → P d → All P xs → P (get_or xs i d)
got P [] i d h all = h
got P (x ∷ xs) zero d h all = All-head P x xs all
got P (x ∷ xs) (suc i) d h all = got P xs i d h (All-tail P x xs all)

module _ (g : GraphData) (is : IsGraphData g) (values : List Val) where
  rows_fit : All IsValue values → (ns : List NodeNo) → All IsRow (map (row_of g values) ns)
  rows_fit fit ns = All-map IsRow (row_of g values) ns (λ i d lt. (id_small (get_or ns i d), got IsValue values (get_or ns i d).0 Nil tt fit)) where
    id_small : (n : NodeNo) → id_of g n.0 < 2 ^ 63
    id_small n = got (λ id. id < 2 ^ 63) g.ids n.0 0 (omega arith) is.small_ids

  -- rows whose ids rise from place to place rise
  rising : (rows : List Row) → ((i j : ℕ) (d : Row) → i < j → j < length rows → (get_or rows i d).id < (get_or rows j d).id) → IsRising rows
  rising [] h = tt
  rising (r ∷ rs) h = (All-from_get_or (λ s. r.id < s.id) rs r (λ i lt. h 0 (suc i) r (omega arith) (omega (arith, lt))), rising rs (λ i j d lt within. h (suc i) (suc j) d (omega (arith, lt)) (omega (arith, within))))

  row_at : (ns : List NodeNo) (i : ℕ) (d : Row) (n : NodeNo) → i < length ns → get_or (map (row_of g values) ns) i d ≡ row_of g values (get_or ns i n)
  row_at [] i d n lt = absurd (omega (arith, lt))
  row_at (x ∷ ns) zero d n lt = refl
  row_at (x ∷ ns) (suc i) d n lt = row_at ns i d n (omega (arith, lt))

  rows_rise : IsRising (map (row_of g values) (nodes_by_id g.ids))
  rows_rise =
      let ns = nodes_by_id g.ids in
      rising (map (row_of g values) ns)
      (λ i j d lt within.
      let many : length (map (row_of g values) ns) ≡ length ns = length-map ns (row_of g values) in
      let n : NodeNo = node 0 in
      let first : (get_or (map (row_of g values) ns) i d).id ≡ id_of g (get_or ns i n).0 = ap (λ (r : Row). r.id) (row_at ns i d n (omega (arith, many, lt, within))) in
      let second : (get_or (map (row_of g values) ns) j d).id ≡ id_of g (get_or ns j n).0 = ap (λ (r : Row). r.id) (row_at ns j d n (omega (arith, many, within))) in
      omega (arith, first, second, ids_rise g i j is.distinct_ids lt (omega (arith, many, within))))

  table_fits : (head : List ℕ) (o : Outcome) → IsHead head → IsOutcome o → All IsValue values → IsBlock (record { kind = kind.Full; head = head; outcome = o; rows = table_rows g o values })
  table_fits head (outcome.Settled r) h end fit = record { head = h; outcome = end; rows = rows_fit fit (nodes_by_id g.ids); rising = rows_rise; unsettled = tt }
  table_fits head (outcome.After r) h end fit = record { head = h; outcome = end; rows = rows_fit fit (nodes_by_id g.ids); rising = rows_rise; unsettled = tt }
  table_fits head (outcome.Phases r) h end fit = record { head = h; outcome = end; rows = rows_fit fit (nodes_by_id g.ids); rising = rows_rise; unsettled = tt }
  table_fits head outcome.Unsettled h end fit = record { head = h; outcome = end; rows = All-nil IsRow; rising = tt; unsettled = refl }

-- ---- the table of a view

words_fit : (values : List Val) → All IsWord values → (Contains values lowest → ⊥) → All IsValue values
words_fit values words none i d lt = value_fits (get_or values i d) (words i d lt) (λ e. none (i, lt, any values i d lowest lt ∙ e)) where
  any : (xs : List Val) (i : ℕ) (d e : Val) → i < length xs → get_or xs i e ≡ get_or xs i d
  any [] i d e lt = absurd (omega (arith, lt))
  any (x ∷ xs) zero d e lt = refl
  any (x ∷ xs) (suc i) d e lt = any xs i d e (omega (arith, lt))

pub is_block : (answer : Answer) (only : OnlyGiven answer) (w : LiveGraph) (is : IsGraphData w.graph) (nodes : HasNodeCells w.graph) (edges : HasEdgeCells w.graph) (run : RunPlan) (n : ℕ) → RunFits w.graph n run → (HoldsNumber run.program lowest_number → ⊥)
    → (rule : ViewRule) (head : List ℕ) → IsHead (drop 5 head) → All IsWord (view_answer answer w run rule).values → IsBlock (full_of head w.graph (table_of (view_answer answer w run rule)))
is_block answer only w is nodes edges run n fits free rule head heads words =
    let l : Lone = view_answer answer w run rule in
    let arcs = view_arcs w run rule in
    let are : All (IsArc w.graph) arcs = arcs-within run.program.along w.graph (live_edges w rule) is.ends (live_edges_within w rule) in
    let none : Contains l.values lowest → ⊥ = none_lowest answer only w.graph nodes edges run free arcs are run.phases in
    table_fits w.graph is l.values (drop 5 head) l.outcome heads (ends_in answer w.graph run arcs run.phases fits.limit (few_phases run.phases run.keep fits.phases)) (words_fit l.values words none)
