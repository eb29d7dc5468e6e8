-- The charge of a turn is the work of its view.
use Rattle.std.specs.Prelude.{◌≡◌, ℕ, zero, suc, ◌+◌, ◌*◌, ◌<◌, ◌≤◌, ◌^◌, nat_lt, Bool, true, false, IsTrue, List, [], ◌∷◌, ◌++◌, length, map, take, drop, Option, Some, None, if◌then◌else◌, refl}
use Rattle.std.specs.declared.cmp.Ordering.{Ordering}
use Rattle.std.specs.Cmp.{tied_itself}
use Rattle.std.proofs.Common.{arith, ap, sym, subst, ◌∙◌, append-nil, append_assoc, length-append}
use Rattle.std.proofs.lemmas.Bool.{ltb-true}
use Rattle.std.proofs.lemmas.Bool.Decides.{nat_tests}
use Rattle.std.proofs.lemmas.List.{take-append-drop}
use Rattle.std.proofs.Math.Seq.{take-append_seam, drop-append_seam}
use Rattle.lattice_time.specs.declared.pair.Pair.{Pair}
use Rattle.lattice_time.specs.declared.round.Round.{Round}
use Rattle.lattice_time.specs.Lattice.{IsLattice}
use Rattle.weighted.specs.Alike.{Alike, Alike-refl, Alike-is, Alike-sym, Alike-trans, Alike-append, Alike-mapped}
use Rattle.weighted.specs.Batches.{IsBatch}
use Rattle.trace_store.specs.Traces.{in_turn}
use Rattle.flow_core.specs.Runs.{Step, Run, Every, Member, NoneBelow, fed_to, times_of}
use Rattle.flow_core.specs.Lists.{Every-map, Every-append, Every-append_back}
use Rattle.flow_core.specs.RunLaws.{times_of-append, fed_to-append}
use Rattle.reduce_theory.specs.Evaluated.{key_part, charged}
use Rattle.reduce_theory.specs.ByKey.{at_each_key}
use Rattle.loop_theory.specs.declared.input.LoopInput.{LoopInput}
use Rattle.loop_theory.specs.declared.input.LoopInput.TheVariants.{Moving}
use Rattle.loop_theory.specs.Inputs.{fixed, as_moving, Alike-fixed}
use Rattle.loop_theory.specs.Loops.{after_rounds, pair_leq, pair_lub, pair_of}
use Rattle.graph_model.specs.declared.value.Val.{Val}
use Rattle.graph_model.specs.declared.number.NodeNo.{NodeNo}
use Rattle.graph_model.specs.GraphData.{GraphData, node}
use Rattle.vertex_lang.specs.declared.arc.Arc.{Arc}
use Rattle.vertex_lang.specs.declared.program.Program.{Program}
use Rattle.vertex_lang.specs.Arcs.{IsArc}
use Rattle.vertex_lang.specs.Expressions.{Answer}
use Rattle.vertex_lang.specs.Rounds.{nodes_of, lone}
use Rattle.lone_work.specs.Inputs.{input, input_in}
use Rattle.lone_work.specs.Work.{work}
use Rattle.work_theory.specs.Once.{once}
use Rattle.work_theory.specs.Laps.{Turn, lap_steps, OuterBelow, IsFull, LapOver}
use Rattle.work_theory.specs.Laws.{Orders, AreFew}
use Rattle.work_theory.specs.ViewLaws.{node_from, node_in, lap-is-work}
use Rattle.vertex_items.specs.declared.item.NodeItem.{NodeItem}
use Rattle.vertex_items.specs.declared.input.FlowInput.{FlowInput}
use Rattle.vertex_items.specs.Names.{named, item_named, names}
use Rattle.vertex_items.specs.Laws.{IsItemOrder}
use Rattle.view_items.specs.Collections.{InLoop, items, view_in_loop}
use Rattle.view_items.specs.Prepared.{told_of, prepared, view_fed}
use Rattle.view_items.specs.Rounds.{round_of}
use Rattle.view_items.specs.Laws.{IsOrder}
use Rattle.view_items.specs.ItemLaws.{items_respect}
use Rattle.view_items.specs.PreparedLaws.{prepared_respects}
use Rattle.view_items.specs.ViewItems.{items-are-inputs, view-is-prepared}
use Rattle.view_items.specs.RoundLaws.{held-rounds, round_respects}
use Rattle.inner_theory.specs.Inside.{LoopInside, rounds_from, all_rounds}
use Rattle.inner_theory.specs.InsideLaws.{after_respects}
use Rattle.flow_work.specs.Turns.{IsTurn, fed_of_view, IsViewOf, MayBeView, TurnIsWork}
use Rattle.flow_work.specs.FullLaws.{batch-full}

-- ---- the steps of a run, by their times

turns_of : {T V O : Type 0} → List (Step T V O) → List (Turn V O)
turns_of [] = []
turns_of (s ∷ ss) = record { fed = s.fed; made = s.made; charge = s.charge } ∷ turns_of ss

head_is : {A : Type 0} (x y : A) (xs ys : List A) → x ∷ xs ≡ y ∷ ys → x ≡ y
head_is x y xs ys e = cc

tail_is : {A : Type 0} (x y : A) (xs ys : List A) → x ∷ xs ≡ y ∷ ys → xs ≡ ys
tail_is x y xs ys e = cc

module _ {T V O : Type 0} where
  -- steps at the rounds of an outer time are a lap
  lap_is : (t : T) (k n : ℕ) (ss : List (Step (Pair T Round) V O)) → times_of ss ≡ rounds_from t k n → ss ≡ lap_steps t k (turns_of ss)
  unfolding turns_of
  lap_is t k zero [] e = refl
  lap_is t k (suc n) [] e = absurd (cc)
  lap_is t k zero (s ∷ ss) e = absurd (cc)
  lap_is t k (suc n) (s ∷ ss) e =
      let at : s.time ≡ pair_of t k = head_is s.time (pair_of t k) (times_of ss) (rounds_from t (suc k) n) e in
      ap (λ u. record { time = u; fed = s.fed; made = s.made; charge = s.charge } ∷ ss) at ∙ ap (λ rest. record { time = pair_of t k; fed = s.fed; made = s.made; charge = s.charge } ∷ rest) (lap_is t (suc k) n ss (tail_is s.time (pair_of t k) (times_of ss) (rounds_from t (suc k) n) e))

  lap_long : (t : T) (k n : ℕ) (ss : List (Step (Pair T Round) V O)) → times_of ss ≡ rounds_from t k n → length (turns_of ss) ≡ n
  unfolding turns_of
  lap_long t k zero [] e = refl
  lap_long t k (suc n) [] e = absurd (cc)
  lap_long t k zero (s ∷ ss) e = absurd (cc)
  lap_long t k (suc n) (s ∷ ss) e = ap (λ m. suc m) (lap_long t (suc k) n ss (tail_is s.time (pair_of t k) (times_of ss) (rounds_from t (suc k) n) e))

  turns_every : (P : List (V × ℕ) → Type 0) (ss : List (Step (Pair T Round) V O)) → Every (λ s. P s.fed) ss → Every (λ x. P x.fed) (turns_of ss)
  unfolding turns_of
  turns_every P [] h = tt
  turns_every P (s ∷ ss) h = (h.0, turns_every P ss h.1)

  times_take : (m : ℕ) (ss : List (Step (Pair T Round) V O)) → times_of (take m ss) ≡ take m (times_of ss)
  times_take zero ss = refl
  times_take (suc m) [] = refl
  times_take (suc m) (s ∷ ss) = ap (λ ts. s.time ∷ ts) (times_take m ss)

  times_drop : (m : ℕ) (ss : List (Step (Pair T Round) V O)) → times_of (drop m ss) ≡ drop m (times_of ss)
  times_drop zero ss = refl
  times_drop (suc m) [] = refl
  times_drop (suc m) (s ∷ ss) = times_drop m ss

  every_time : (leq : T → T → Bool) (p : T) (ss : List (Step (Pair T Round) V O)) → Every (λ u. IsTrue (leq u.outer p)) (times_of ss) → OuterBelow leq p ss
  every_time leq p [] h = tt
  every_time leq p (s ∷ ss) h = (h.0, every_time leq p ss h.1)

  unseen : (leq : T → T → Bool) (seal t : T) (j k : ℕ) (lap : List (Turn V O)) → leq t seal ≡ false → fed_to (pair_leq leq) (lap_steps t j lap) (pair_of seal k) ≡ []
  unseen leq seal t j k [] h = refl
  unseen leq seal t j k (x ∷ lap) h = rw h (unseen leq seal t (suc j) k lap h)

one_more : (a b c n m : ℕ) → a ≡ n → b ≡ m * n → c ≡ a + b → c ≡ (1 + m) * n
one_more a b c n m p q r = omega arith

module _ {T : Type 0} where
  rounds_length : (t : T) (k n : ℕ) → length (rounds_from t k n) ≡ n
  rounds_length t k zero = refl
  rounds_length t k (suc n) = ap (λ m. suc m) (rounds_length t (suc k) n)

  all_length : (n : ℕ) (ts : List T) → length (all_rounds n ts) ≡ length ts * n
  all_length n [] = omega arith
  all_length n (t ∷ ts) = let more : 1 + length ts ≡ length (t ∷ ts) = omega arith in one_more (length (rounds_from t 0 n)) (length (all_rounds n ts)) (length (all_rounds n (t ∷ ts))) n (length ts) (rounds_length t 0 n) (all_length n ts) (length-append (rounds_from t 0 n) (all_rounds n ts)) ∙ ap (λ m. m * n) more

  all_last : (n : ℕ) (ts : List T) (t : T) → all_rounds n (ts ++ t ∷ []) ≡ all_rounds n ts ++ rounds_from t 0 n
  all_last n [] t = append-nil (rounds_from t 0 n)
  all_last n (u ∷ ts) t = ap (λ v. rounds_from u 0 n ++ v) (all_last n ts t) ∙ sym (append_assoc (rounds_from u 0 n) (all_rounds n ts) (rounds_from t 0 n))

  rounds_below : (leq : T → T → Bool) (p t : T) (k n : ℕ) → IsTrue (leq t p) → Every (λ u. IsTrue (leq u.outer p)) (rounds_from t k n)
  rounds_below leq p t k zero h = tt
  rounds_below leq p t k (suc n) h = (h, rounds_below leq p t (suc k) n h)

  all_below : {I O : Type 0} (leq : T → T → Bool) (p : T) (n : ℕ) (ss : List (Step T I O)) → Every (λ s. IsTrue (leq s.time p)) ss → Every (λ u. IsTrue (leq u.outer p)) (all_rounds n (times_of ss))
  all_below leq p n [] h = tt
  all_below leq p n (s ∷ ss) h = Every-append (λ u. IsTrue (leq u.outer p)) (rounds_from s.time 0 n) (all_rounds n (times_of ss)) (rounds_below leq p s.time 0 n h.0) (all_below leq p n ss h.1)

  times_length : {I O : Type 0} (ss : List (Step T I O)) → length (times_of ss) ≡ length ss
  times_length [] = refl
  times_length (s ∷ ss) = ap (λ m. suc m) (times_length ss)

  -- what isn't due at or below a time isn't at or below an earlier one
  none_by : (leq : T → T → Bool) (lub : T → T → T) → IsLattice leq lub → (s t d : T) (b : Bool) → leq d s ≡ b → IsTrue (leq s t) → leq d t ≡ false → leq d s ≡ false
  none_by leq lub lattice s t d true e up h = let f : false ≡ true = sym h ∙ lattice.transitive d s t e up in absurd (cc)
  none_by leq lub lattice s t d false e up h = e

  none_before : (leq : T → T → Bool) (lub : T → T → T) → IsLattice leq lub → (s t : T) (due : List T) → IsTrue (leq s t) → NoneBelow leq t due → NoneBelow leq s due
  none_before leq lub lattice s t [] up h = tt
  none_before leq lub lattice s t (d ∷ due) up h = (none_by leq lub lattice s t d (leq d s) refl up h.0, none_before leq lub lattice s t due up h.1)

-- ---- a view, or none, and what is in the loop

may_be_few : (graph : GraphData) (old : Option (List Arc)) → MayBeView graph old → AreFew old
may_be_few graph None h = tt
may_be_few graph (Some arcs) h = h.few

module _ (ncmp : NodeNo → NodeNo → Ordering) (n : IsOrder ncmp) (acmp : Arc → Arc → Ordering) (a : IsOrder acmp) (icmp : NodeItem → NodeItem → Ordering) (o : IsItemOrder icmp) (answer : Answer) (p : Program) (graph : GraphData) where
  abbrev round : List (InLoop × ℕ) → List ((NodeNo × Val) × ℕ)
  round = round_of ncmp icmp answer p graph

  abbrev held : List (InLoop × ℕ) → ℕ → List (InLoop × ℕ)
  held came k = fixed came ++ as_moving (after_rounds round came k)

  held_respects : (xs ys : List (InLoop × ℕ)) (k : ℕ) → Alike xs ys → Alike (held xs k) (held ys k)
  held_respects xs ys k s = Alike-append (Alike-fixed xs ys s) (Alike-mapped Moving (after_rounds round xs k) (after_rounds round ys k) (after_respects round (round_respects ncmp n icmp o answer p graph) xs ys k s))

  abbrev as_held : List ((NodeNo × Val) × ℕ) → List (InLoop × ℕ)
  as_held xs = as_moving xs

  nothing_after : (k : ℕ) → after_rounds round [] k ≡ []
  nothing_after zero = refl
  nothing_after (suc k) = ap (λ xs. round (as_held xs)) (nothing_after k)

  -- the items of a key, where a view or none was fed
  view_items : (arcs : List Arc) → IsViewOf graph arcs → (fed : List (FlowInput × ℕ)) → Alike fed (view_fed graph arcs) → (k : ℕ) (v : NodeNo) → (v.0 < length graph.ids → Alike (key_part ncmp v (items ncmp p graph (held (prepared ncmp acmp p graph fed) k))) (once named (input answer p graph arcs v.0 k)))
      × (length graph.ids ≤ v.0 → Alike (key_part ncmp v (items ncmp p graph (held (prepared ncmp acmp p graph fed) k))) [])
  view_items arcs w fed is k v = items-are-inputs ncmp n answer p graph arcs k w.are_arcs w.few (held (prepared ncmp acmp p graph fed) k) (held-rounds ncmp n icmp o answer p graph arcs w.are_arcs w.few (prepared ncmp acmp p graph fed) (view-is-prepared ncmp n acmp a answer p graph arcs w.are_arcs w.few fed is) k) v

  no_items : (fed : List (FlowInput × ℕ)) → Alike fed [] → (k : ℕ) (v : NodeNo) → Alike (key_part ncmp v (items ncmp p graph (held (prepared ncmp acmp p graph fed) k))) []
  no_items fed is k v =
      let none : Alike (prepared ncmp acmp p graph fed) [] = prepared_respects ncmp n.same (tied_itself n.total) graph acmp a.total a.same p fed [] is in
      let nothing : Alike (held (prepared ncmp acmp p graph fed) k) [] = Alike-trans (held_respects (prepared ncmp acmp p graph fed) [] k none) (Alike-is (ap as_held (nothing_after k))) in
      at_each_key ncmp n.same (tied_itself n.total) (items ncmp p graph (held (prepared ncmp acmp p graph fed) k)) [] (items_respect ncmp n.same (tied_itself n.total) p graph (held (prepared ncmp acmp p graph fed) k) [] nothing) v

  may_be_items : (old : Option (List Arc)) → MayBeView graph old → (fed : List (FlowInput × ℕ)) → Alike fed (fed_of_view graph old) → (k : ℕ) (v : NodeNo) → (v.0 < length graph.ids → Alike (key_part ncmp v (items ncmp p graph (held (prepared ncmp acmp p graph fed) k))) (once named (input_in answer p graph old v.0 k)))
      × (length graph.ids ≤ v.0 → Alike (key_part ncmp v (items ncmp p graph (held (prepared ncmp acmp p graph fed) k))) [])
  may_be_items None w fed is k v = ((λ low. no_items fed is k v), (λ high. no_items fed is k v))
  may_be_items (Some arcs) w fed is k v = view_items arcs w fed is k v

  low_of : (v : NodeNo) → Member v (map node (nodes_of graph)) → v.0 < length graph.ids
  low_of v m = let k : (0 ≤ v.0) × (v.0 < 0 + length graph.ids) = node_from 0 (length graph.ids) v m in omega (arith, k.1)

  high_by : (v : NodeNo) (b : Bool) → nat_lt v.0 (length graph.ids) ≡ b → (Member v (map node (nodes_of graph)) → ⊥) → length graph.ids ≤ v.0
  high_by v true e f = let low : v.0 < length graph.ids = ltb-true v.0 (length graph.ids) e in absurd (f (node_in 0 (length graph.ids) v.0 (omega arith) (omega arith)))
  high_by v false e f = grind (arith, nat_tests)

  high_of : (v : NodeNo) → (Member v (map node (nodes_of graph)) → ⊥) → length graph.ids ≤ v.0
  high_of v f = high_by v (nat_lt v.0 (length graph.ids)) refl f

  module _ {T : Type 0} (leq : T → T → Bool) (lub : T → T → T) (lattice : IsLattice leq lub) (pcmp : Pair T Round → Pair T Round → Ordering) (q : IsOrder pcmp) (rounds : ℕ) (seal : T) (due : List T) (charge : ℕ) (run : Run T FlowInput (Round × (NodeNo × Val))) (l : LoopInside leq lub pcmp ncmp icmp (prepared ncmp acmp p graph) (items ncmp p graph) round rounds seal due charge run) (front : List (Step T FlowInput (Round × (NodeNo × Val)))) (step : Step T FlowInput (Round × (NodeNo × Val))) (turn : IsTurn leq seal run front step) (none : NoneBelow leq step.time due) (new : List Arc) (old : Option (List Arc)) (is_new : IsViewOf graph new) (is_old : MayBeView graph old) (now : Alike (fed_to leq run.steps step.time) (view_fed graph new)) (was : Alike (fed_to leq run.steps seal) (fed_of_view graph old)) where
    abbrev steps : List (Step (Pair T Round) (NodeNo × NodeItem) (NodeNo × Val))
    steps = l.inner.steps

    abbrev before : List (Step (Pair T Round) (NodeNo × NodeItem) (NodeNo × Val))
    before = take l.inner.before l.inner.steps

    abbrev rest : List (Step (Pair T Round) (NodeNo × NodeItem) (NodeNo × Val))
    rest = drop l.inner.before l.inner.steps

    lap : List (Turn (NodeNo × NodeItem) (NodeNo × Val))
    lap = turns_of rest

    inner_times : times_of steps ≡ all_rounds rounds (times_of front) ++ rounds_from step.time 0 rounds
    inner_times = l.times ∙ ap (λ ss. all_rounds rounds (times_of ss)) turn.steps ∙ ap (all_rounds rounds) (times_of-append front (step ∷ [])) ∙ all_last rounds (times_of front) step.time

    cut : l.inner.before ≡ length (all_rounds rounds (times_of front))
    cut = l.before ∙ ap (λ m. m * rounds) (turn.before ∙ sym (times_length front)) ∙ sym (all_length rounds (times_of front))

    before_times : times_of before ≡ all_rounds rounds (times_of front)
    before_times = times_take l.inner.before steps ∙ ap (take l.inner.before) inner_times ∙ ap (λ m. take m (all_rounds rounds (times_of front) ++ rounds_from step.time 0 rounds)) cut ∙ take-append_seam (all_rounds rounds (times_of front)) (rounds_from step.time 0 rounds)

    rest_times : times_of rest ≡ rounds_from step.time 0 rounds
    rest_times = times_drop l.inner.before steps ∙ ap (drop l.inner.before) inner_times ∙ ap (λ m. drop m (all_rounds rounds (times_of front) ++ rounds_from step.time 0 rounds)) cut ∙ drop-append_seam (all_rounds rounds (times_of front)) (rounds_from step.time 0 rounds)

    rest_is : rest ≡ lap_steps step.time 0 lap
    unfolding lap
    rest_is = lap_is step.time 0 rounds rest rest_times

    long : length lap ≡ rounds
    unfolding lap
    long = lap_long step.time 0 rounds rest rest_times

    both : before ++ lap_steps step.time 0 lap ≡ steps
    both = ap (λ ss. before ++ ss) (sym rest_is) ∙ take-append-drop l.inner.before steps

    -- what was fed before the seal
    seen : (k : ℕ) → fed_to (pair_leq leq) before (pair_of seal k) ≡ fed_to (pair_leq leq) steps (pair_of seal k)
    seen k =
        sym (append-nil (fed_to (pair_leq leq) before (pair_of seal k)))
        ∙ ap (λ es. fed_to (pair_leq leq) before (pair_of seal k) ++ es) (sym (unseen leq seal step.time 0 k lap turn.later))
        ∙ sym (fed_to-append (pair_leq leq) before (lap_steps step.time 0 lap) (pair_of seal k))
        ∙ ap (λ ss. fed_to (pair_leq leq) ss (pair_of seal k)) both

    part_at : (u : T) (k : ℕ) → k < length lap → IsTrue (leq seal u) → NoneBelow leq u due → (v : NodeNo) → Alike (key_part ncmp v (fed_to (pair_leq leq) steps (pair_of u k))) (key_part ncmp v (items ncmp p graph (held (prepared ncmp acmp p graph (fed_to leq run.steps u)) k)))
    part_at u k low over below v = at_each_key ncmp n.same (tied_itself n.total) (fed_to (pair_leq leq) steps (pair_of u k)) (items ncmp p graph (held (prepared ncmp acmp p graph (fed_to leq run.steps u)) k)) (l.fed u k (omega (arith, long)) over below) v

    part_was : (k : ℕ) → k < length lap → (v : NodeNo) → Alike (key_part ncmp v (fed_to (pair_leq leq) before (pair_of seal k))) (key_part ncmp v (items ncmp p graph (held (prepared ncmp acmp p graph (fed_to leq run.steps seal)) k)))
    part_was k low v = Alike-trans (Alike-is (ap (key_part ncmp v) (seen k))) (part_at seal k low (lattice.reflexive seal) (none_before leq lub lattice seal step.time due turn.up none) v)

    part_now : (k : ℕ) → k < length lap → (v : NodeNo) → Alike (key_part ncmp v (fed_to (pair_leq leq) (before ++ lap_steps step.time 0 lap) (pair_of step.time k))) (key_part ncmp v (items ncmp p graph (held (prepared ncmp acmp p graph (fed_to leq run.steps step.time)) k)))
    part_now k low v = Alike-trans (Alike-is (ap (λ ss. key_part ncmp v (fed_to (pair_leq leq) ss (pair_of step.time k))) both)) (part_at step.time k low turn.up none v)

    lap_full : Every (λ x. IsFull ncmp icmp x.fed) lap
    unfolding lap
    lap_full = turns_every (IsFull ncmp icmp) rest (Every-map (λ s. IsBatch (in_turn ncmp icmp) s.fed) (λ s. IsFull ncmp icmp s.fed) rest (λ s b. batch-full ncmp n.same (tied_itself n.total) icmp o.total s.fed b) (Every-append_back (λ s. IsBatch (in_turn ncmp icmp) s.fed) before rest (subst (Every (λ s. IsBatch (in_turn ncmp icmp) s.fed)) (sym (take-append-drop l.inner.before steps)) l.batches)))

    over : LapOver leq ncmp icmp named seal step.time before lap (map node (nodes_of graph)) (λ v. input answer p graph new v.0) (λ v. input_in answer p graph old v.0)
    over = record {
      below = every_time leq seal before (subst (Every (λ u. IsTrue (leq u.outer seal))) (sym before_times) (all_below leq seal rounds front turn.old));
      up = turn.up;
      was = λ v k m low. Alike-trans (part_was k low v) ((may_be_items old is_old (fed_to leq run.steps seal) was k v).0 (low_of v m));
      is = λ v k m low. Alike-trans (part_now k low v) ((view_items new is_new (fed_to leq run.steps step.time) now k v).0 (low_of v m));
      others_was = λ v k f low. Alike-trans (part_was k low v) ((may_be_items old is_old (fed_to leq run.steps seal) was k v).1 (high_of v f));
      others = λ v k f low. Alike-trans (part_now k low v) ((view_items new is_new (fed_to leq run.steps step.time) now k v).1 (high_of v f));
      full = lap_full;
    }

    orders : Orders pcmp ncmp icmp named item_named
    orders = record { psame = q.same; pitself = tied_itself q.total; ksame = n.same; kitself = tied_itself n.total; vsame = o.same; vitself = tied_itself o.total; naming = names }

    pub turn-charge : charge ≡ run.base + work answer p graph new old rounds
    turn-charge =
        l.charged_is
        ∙ ap (λ m. m + charged (pair_leq leq) (pair_lub lub) pcmp ncmp icmp (pair_of seal 0) before [] rest) l.base
        ∙ ap (λ ss. run.base + charged (pair_leq leq) (pair_lub lub) pcmp ncmp icmp (pair_of seal 0) before [] ss) rest_is
        ∙ ap (λ m. run.base + m) (lap-is-work leq lub lattice pcmp ncmp icmp named item_named orders answer p graph new old is_new.few (may_be_few graph old is_old) seal step.time before lap over ∙ ap (work answer p graph new old) long)

pub turn-is-work : {T : Type 0} (leq : T → T → Bool) (lub : T → T → T) → IsLattice leq lub → TurnIsWork T leq lub
turn-is-work leq lub lattice pcmp q ncmp n acmp a icmp o answer p graph rounds seal due charge run l front step turn none new old is_new is_old now was =
    turn-charge ncmp n acmp a icmp o answer p graph leq lub lattice pcmp q rounds seal due charge run l front step turn none new old is_new is_old now was
