-- What is fed starts comes to the rounds from these starts: they are the plain run of a program that has them as a property.
use Rattle.std.specs.Prelude.{◌≡◌, ℕ, Bool, zero, suc, ◌+◌, ◌<◌, ◌≤◌, ◌^◌, List, [], ◌∷◌, ◌++◌, length, map, get_or, All, Option, None, refl}
use Rattle.std.specs.List.{range_with_len}
use Rattle.std.specs.declared.cmp.Ordering.{Ordering}
use Rattle.std.specs.Cmp.{tied_itself}
use Rattle.std.proofs.Common.{arith, ap, sym, subst, ◌∙◌}
use Rattle.std.proofs.lemmas.List.FromFn.{fill_by_all}
use Rattle.weighted.specs.Alike.{Alike, Alike-is, Alike-refl, Alike-trans, Alike-append, Alike-mapped}
use Rattle.flow_core.specs.Expanded.{expanded, expanded-append, expanded_linear}
use Rattle.flow_core.specs.Runs.{fed_to}
use Rattle.reduce_theory.specs.ByKey.{reduce_apply, reduce_respects, at_each_key}
use Rattle.reduce_theory.specs.Evaluated.{key_part}
use Rattle.loop_theory.specs.Inputs.{fixed, as_moving}
use Rattle.loop_theory.specs.Loops.{after_rounds, pair_leq, pair_of}
use Rattle.graph_model.specs.declared.cell.Cells.TheVariants as cells
use Rattle.graph_model.specs.declared.value.Val.{Val}
use Rattle.graph_model.specs.declared.value.Val.TheVariants.{Nil, Num}
use Rattle.graph_model.specs.declared.number.NodeNo.{NodeNo}
use Rattle.graph_model.specs.GraphData.{GraphData, id_of, int_cell, node}
use Rattle.vertex_lang.specs.declared.arc.Arc.{Arc}
use Rattle.vertex_lang.specs.declared.program.Program.{Program}
use Rattle.vertex_lang.specs.Arcs.{IsArc, gathered_of}
use Rattle.vertex_lang.specs.Expressions.{Answer, start_of, start_words}
use Rattle.vertex_lang.specs.Named.{names_outdeg}
use Rattle.vertex_lang.specs.Phases.{next_with, next_with_of, rounds_from}
use Rattle.vertex_lang.specs.RoundLaws.{same_over_nodes}
use Rattle.vertex_lang.specs.Rounds.{nodes_of, value_at, received, next, next_of, lone}
use Rattle.vertex_lang.specs.Trees.{value-NodeProp}
use Rattle.vertex_lang.specs.Values.{value_of_cell}
use Rattle.lone_work.specs.Inputs.{input}
use Rattle.lone_work.specs.Items.{Item}
use Rattle.work_theory.specs.Once.{once}
use Rattle.vertex_items.specs.declared.input.FlowInput.TheVariants as flow
use Rattle.vertex_items.specs.declared.input.StartInput.{StartInput}
use Rattle.vertex_items.specs.declared.input.StartInput.TheVariants as given
use Rattle.vertex_items.specs.declared.item.NodeItem.{NodeItem}
use Rattle.vertex_items.specs.Given.{node_gives}
use Rattle.vertex_items.specs.Laws.{IsItemOrder}
use Rattle.vertex_items.specs.Names.{named}
use Rattle.view_items.specs.Collections.{InLoop, items, view_in_loop}
use Rattle.view_items.specs.Laws.{IsOrder}
use Rattle.view_items.specs.Prepared.{arc_in_loop, arcs_in_loop, begun, degrees, flow_tails, node_begins, prepared, prepared_starts, start_begins, start_tails, told_of, view_fed}
use Rattle.view_items.specs.RoundLaws.{held-rounds, lone-rounds, loop-sums}
use Rattle.view_items.specs.Rounds.{round_of, values_of}
use Rattle.view_items.specs.ViewItems.{items-are-inputs, view-is-prepared}
use Rattle.flow_work.specs.Shadow.{answer_for, as_cell, by_property, with_property}
use Rattle.flow_work.specs.Starts.{input_from, starts_fed, InnerIsFedFromStarts, LoopIsFromStarts, RoundsAreFromStarts}
use Rattle.flow_work.specs.Turns.{IsViewOf}

-- ---- a start that is given is a property

cell-at : (values : List Val) (v : ℕ) → value_of_cell (int_cell (get_or (map as_cell values) v None)) ≡ get_or values v Nil
cell-at [] v = refl
cell-at (Nil ∷ values) zero = refl
cell-at (Num z ∷ values) zero = refl
cell-at (x ∷ values) (suc v) = cell-at values v

module _ (answer : Answer) (p : Program) (graph : GraphData) (starts : List Val) where
  abbrev q : Program
  q = by_property p

  abbrev h : GraphData
  h = with_property graph starts

  start-given : (v : ℕ) → start_of q h v ≡ value_at starts v
  start-given v = value-NodeProp 0 (start_words h v) ∙ cell-at starts v

  next-given : (arcs : List Arc) (values : List Val) → next (answer_for answer p) q h arcs values ≡ next_with answer p graph starts arcs values
  unfolding next next_with
  next-given arcs values =
      same_over_nodes (next_of (answer_for answer p) q h arcs values) (next_with_of answer p graph starts arcs values) (length graph.ids)
      (λ v low.
      let ms = received p graph arcs values v in
      ap (λ (s : Val). answer p (id_of graph v) s (value_at values v) (gathered_of p.gather ms) (length ms)) (start-given v))

  lone-given : length starts ≡ length graph.ids → (arcs : List Arc) (r : ℕ) → lone (answer_for answer p) q h arcs r ≡ rounds_from answer p graph starts arcs r
  unfolding lone rounds_from
  lone-given size arcs zero = sym (fill_by_all (start_of q h) starts (length graph.ids) Nil size (λ v low. sym (start-given v)))
  lone-given size arcs (suc r) = ap (next (answer_for answer p) q h arcs) (lone-given size arcs r) ∙ next-given arcs (rounds_from answer p graph starts arcs r)

  -- so is the input of a node
  input-given : length starts ≡ length graph.ids → (arcs : List Arc) (v r : ℕ) → input (answer_for answer p) q h arcs v r ≡ input_from answer p graph starts arcs v r
  input-given size arcs v r =
      ap (λ (vs : List Val). (Item.start (start_of q h v) ∷ Item.own (value_at vs v) ∷ []) ++ map Item.message (received p graph arcs vs v)) (lone-given size arcs r)
      ∙ ap (λ (s : Val). (Item.start s ∷ Item.own (value_at (rounds_from answer p graph starts arcs r) v) ∷ []) ++ map Item.message (received p graph arcs (rounds_from answer p graph starts arcs r) v)) (start-given v)

  -- ---- what comes into the loop

  begins-given : (vs : List NodeNo) → expanded (start_begins graph) (once (λ (v : NodeNo). given.Start v (value_at starts v.0)) vs) ≡ expanded (node_begins q h) (once flow.Node vs)
  begins-given [] = refl
  begins-given (v ∷ vs) =
      ap (λ (a : Val). map (λ (b : InLoop). (b, 1)) (begun graph v a) ++ expanded (start_begins graph) (once (λ (v : NodeNo). given.Start v (value_at starts v.0)) vs)) (sym (start-given v.0))
      ∙ ap (λ (es : List (InLoop × ℕ)). map (λ (b : InLoop). (b, 1)) (begun graph v (start_of q h v.0)) ++ es) (begins-given vs)

  arcs-begin : (arcs : List Arc) → expanded (start_begins graph) (once given.Arc arcs) ≡ expanded (node_begins q h) (once flow.Arc arcs)
  arcs-begin [] = refl
  arcs-begin (a ∷ arcs) = arcs-begin arcs

  starts-tail : (vs : List NodeNo) → expanded (start_tails graph) (once (λ (v : NodeNo). given.Start v (value_at starts v.0)) vs) ≡ expanded (flow_tails h) (once flow.Node vs)
  starts-tail [] = refl
  starts-tail (v ∷ vs) = starts-tail vs

  arcs-tail : (arcs : List Arc) → expanded (start_tails graph) (once given.Arc arcs) ≡ expanded (flow_tails h) (once flow.Arc arcs)
  arcs-tail [] = refl
  arcs-tail (a ∷ arcs) = ap (λ (es : List ((NodeNo × Arc) × ℕ)). map (λ (b : NodeNo × Arc). (b, 1)) (start_tails graph (given.Arc a)) ++ es) (arcs-tail arcs)

  abbrev nodes : List NodeNo
  nodes = map node (nodes_of graph)

  abbrev started_here : NodeNo → StartInput
  started_here v = given.Start v (value_at starts v.0)

  all-begin : (arcs : List Arc) → expanded (start_begins graph) (starts_fed graph starts arcs) ≡ expanded (node_begins q h) (view_fed h arcs)
  all-begin arcs =
      expanded-append (start_begins graph) (once started_here nodes) (once given.Arc arcs)
      ∙ ap (λ (es : List (InLoop × ℕ)). es ++ expanded (start_begins graph) (once given.Arc arcs)) (begins-given nodes)
      ∙ ap (λ (es : List (InLoop × ℕ)). expanded (node_begins q h) (once flow.Node nodes) ++ es) (arcs-begin arcs)
      ∙ sym (expanded-append (node_begins q h) (once flow.Node nodes) (once flow.Arc arcs))

  all-tails : (arcs : List Arc) → expanded (start_tails graph) (starts_fed graph starts arcs) ≡ expanded (flow_tails h) (view_fed h arcs)
  all-tails arcs =
      expanded-append (start_tails graph) (once started_here nodes) (once given.Arc arcs)
      ∙ ap (λ (es : List ((NodeNo × Arc) × ℕ)). es ++ expanded (start_tails graph) (once given.Arc arcs)) (starts-tail nodes)
      ∙ ap (λ (es : List ((NodeNo × Arc) × ℕ)). expanded (flow_tails h) (once flow.Node nodes) ++ es) (arcs-tail arcs)
      ∙ sym (expanded-append (flow_tails h) (once flow.Node nodes) (once flow.Arc arcs))

  same-prepared : (ncmp : NodeNo → NodeNo → Ordering) (acmp : Arc → Arc → Ordering) (arcs : List Arc) → prepared_starts ncmp acmp p graph (starts_fed graph starts arcs) ≡ prepared ncmp acmp q h (view_fed h arcs)
  same-prepared ncmp acmp arcs =
      ap (λ (es : List (InLoop × ℕ)). es ++ arcs_in_loop ncmp acmp p (expanded (start_tails graph) (starts_fed graph starts arcs))) (all-begin arcs)
      ∙ ap (λ (es : List ((NodeNo × Arc) × ℕ)). expanded (node_begins q h) (view_fed h arcs) ++ arcs_in_loop ncmp acmp p es) (all-tails arcs)

  view-given : (arcs : List Arc) → IsViewOf graph arcs → All (IsArc h) arcs
  view-given arcs view k d low = let it = view.are_arcs k d low in record { tail = it.tail; head = it.head; edge = it.edge }

  -- ---- what the loop comes to

  module _ (ncmp : NodeNo → NodeNo → Ordering) (n : IsOrder ncmp) (acmp : Arc → Arc → Ordering) (a : IsOrder acmp) (icmp : NodeItem → NodeItem → Ordering) (o : IsItemOrder icmp) where
    -- one collection comes into the loop as one
    starts_respect : (xs ys : List (StartInput × ℕ)) → Alike xs ys → Alike (prepared_starts ncmp acmp p graph xs) (prepared_starts ncmp acmp p graph ys)
    starts_respect xs ys s =
        let told = degrees (names_outdeg p.send) in
        let tails = start_tails graph in
        Alike-append ((expanded_linear (start_begins graph)).respects xs ys s)
        (Alike-mapped arc_in_loop (reduce_apply ncmp acmp told (expanded tails xs)) (reduce_apply ncmp acmp told (expanded tails ys))
        (reduce_respects ncmp n.same (tied_itself n.total) acmp a.total a.same told (λ k. refl) (expanded tails xs) (expanded tails ys) ((expanded_linear tails).respects xs ys s)))

    came-given : (arcs : List Arc) → IsViewOf graph arcs → (fed : List (StartInput × ℕ)) → Alike fed (starts_fed graph starts arcs)
        → Alike (prepared_starts ncmp acmp p graph fed) (view_in_loop q h (told_of q arcs) arcs (lone (answer_for answer p) q h arcs 0))
    came-given arcs view fed is =
        Alike-trans (starts_respect fed (starts_fed graph starts arcs) is)
        (Alike-trans (Alike-is (same-prepared ncmp acmp arcs))
        (view-is-prepared ncmp n acmp a (answer_for answer p) q h arcs (view-given arcs view) view.few (view_fed h arcs) (Alike-refl (view_fed h arcs))))

    same-round : round_of ncmp icmp (answer_for answer p) q h ≡ round_of ncmp icmp answer p graph
    unfolding node_gives
    same-round = refl

    pub rounds-from : length starts ≡ length graph.ids → (arcs : List Arc) → IsViewOf graph arcs → (r : ℕ) (fed : List (StartInput × ℕ)) → Alike fed (starts_fed graph starts arcs)
        → Alike (after_rounds (round_of ncmp icmp answer p graph) (prepared_starts ncmp acmp p graph fed) r) (values_of graph (rounds_from answer p graph starts arcs r))
    rounds-from size arcs view r fed is =
        let came = prepared_starts ncmp acmp p graph fed in
        let plain = lone-rounds ncmp n icmp o (answer_for answer p) q h arcs (view-given arcs view) view.few came (came-given arcs view fed is) r in
        Alike-trans (Alike-is (ap (λ (round : List (InLoop × ℕ) → List ((NodeNo × Val) × ℕ)). after_rounds round came r) (sym same-round)))
        (Alike-trans plain (Alike-is (ap (values_of graph) (lone-given size arcs r))))

    abbrev held : List (InLoop × ℕ) → ℕ → List (InLoop × ℕ)
    held came r = fixed came ++ as_moving (after_rounds (round_of ncmp icmp answer p graph) came r)

    held-given : (arcs : List Arc) → IsViewOf graph arcs → (fed : List (StartInput × ℕ)) → Alike fed (starts_fed graph starts arcs) → (r : ℕ)
        → Alike (held (prepared_starts ncmp acmp p graph fed) r) (view_in_loop q h (told_of q arcs) arcs (lone (answer_for answer p) q h arcs r))
    held-given arcs view fed is r =
        let came = prepared_starts ncmp acmp p graph fed in
        Alike-trans (Alike-is (ap (λ (round : List (InLoop × ℕ) → List ((NodeNo × Val) × ℕ)). fixed came ++ as_moving (after_rounds round came r)) (sym same-round)))
        (held-rounds ncmp n icmp o (answer_for answer p) q h arcs (view-given arcs view) view.few came (came-given arcs view fed is) r)

    pub inputs-from : length starts ≡ length graph.ids → (arcs : List Arc) → IsViewOf graph arcs → (fed : List (StartInput × ℕ)) → Alike fed (starts_fed graph starts arcs) → (r : ℕ) (v : NodeNo)
        → (v.0 < length graph.ids → Alike (key_part ncmp v (items ncmp p graph (held (prepared_starts ncmp acmp p graph fed) r))) (once named (input_from answer p graph starts arcs v.0 r)))
        × (length graph.ids ≤ v.0 → Alike (key_part ncmp v (items ncmp p graph (held (prepared_starts ncmp acmp p graph fed) r))) [])
    inputs-from size arcs view fed is r v =
        let got = items-are-inputs ncmp n (answer_for answer p) q h arcs r (view-given arcs view) view.few (held (prepared_starts ncmp acmp p graph fed) r) (held-given arcs view fed is r) v in
        ((λ low. Alike-trans (got.0 low) (Alike-is (ap (once named) (input-given size arcs v.0 r)))), (λ high. got.1 high))

pub rounds-are-from-starts : RoundsAreFromStarts
rounds-are-from-starts ncmp n acmp a icmp o answer p graph starts size arcs view r fed is = rounds-from answer p graph starts ncmp n acmp a icmp o size arcs view r fed is

pub loop-is-from-starts : LoopIsFromStarts
loop-is-from-starts ncmp n acmp a icmp o answer p graph starts size arcs view rounds r low fed is =
    Alike-trans (loop-sums (after_rounds (round_of ncmp icmp answer p graph) (prepared_starts ncmp acmp p graph fed)) rounds r low)
    (rounds-from answer p graph starts ncmp n acmp a icmp o size arcs view r fed is)

pub inner-is-fed-from : {T : Type 0} (leq : T → T → Bool) (lub : T → T → T) → InnerIsFedFromStarts T leq lub
inner-is-fed-from leq lub pcmp ncmp n acmp a icmp o answer p graph rounds seal due charge run l = record {
  inner = l.inner;
  times = l.times;
  before = l.before;
  base = l.base;
  inputs = λ t over below starts size arcs view fed r low v.
      let came : List (InLoop × ℕ) = prepared_starts ncmp acmp p graph (fed_to leq run.steps t) in
      let there : List (InLoop × ℕ) = fixed came ++ as_moving (after_rounds (round_of ncmp icmp answer p graph) came r) in
      let part : Alike (key_part ncmp v (fed_to (pair_leq leq) l.inner.steps (pair_of t r))) (key_part ncmp v (items ncmp p graph there)) = at_each_key ncmp n.same (tied_itself n.total) (fed_to (pair_leq leq) l.inner.steps (pair_of t r)) (items ncmp p graph there) (l.fed t r low over below) v in
      let got = inputs-from answer p graph starts ncmp n acmp a icmp o size arcs view (fed_to leq run.steps t) fed r v in
      ((λ h. Alike-trans part (got.0 h)), (λ h. Alike-trans part (got.1 h)));
  charges = l.charges;
  each = l.each;
  charged_is = l.charged_is;
}
