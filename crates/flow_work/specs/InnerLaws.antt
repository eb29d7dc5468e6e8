-- What the reduce inside is fed is the inputs of the nodes.
use Rattle.std.specs.Prelude.{◌≡◌, ℕ, ◌<◌, ◌≤◌, Bool, IsTrue, List, [], ◌++◌, length}
use Rattle.std.specs.declared.cmp.Ordering.{Ordering}
use Rattle.std.specs.Cmp.{tied_itself}
use Rattle.lattice_time.specs.declared.round.Round.{Round}
use Rattle.weighted.specs.Alike.{Alike, Alike-trans}
use Rattle.flow_core.specs.Runs.{fed_to}
use Rattle.reduce_theory.specs.Evaluated.{key_part}
use Rattle.reduce_theory.specs.ByKey.{at_each_key}
use Rattle.loop_theory.specs.Inputs.{fixed, as_moving}
use Rattle.loop_theory.specs.Loops.{after_rounds, pair_leq, pair_of}
use Rattle.graph_model.specs.GraphData.{GraphData}
use Rattle.view_items.specs.Collections.{InLoop, items}
use Rattle.view_items.specs.Prepared.{prepared}
use Rattle.view_items.specs.Rounds.{round_of}
use Rattle.view_items.specs.ViewItems.{items-are-inputs, view-is-prepared}
use Rattle.view_items.specs.RoundLaws.{held-rounds}
use Rattle.flow_work.specs.Inner.{InnerIsFedInputs}

pub inner-is-fed : {T : Type 0} (leq : T → T → Bool) (lub : T → T → T) → InnerIsFedInputs T leq lub
inner-is-fed leq lub pcmp ncmp n acmp a icmp o answer p graph rounds seal due charge run l = record {
  inner = l.inner;
  times = l.times;
  before = l.before;
  base = l.base;
  inputs = λ t over below arcs view fed r low v.
      let came : List (InLoop × ℕ) = prepared ncmp acmp p graph (fed_to leq run.steps t) in
      let held : List (InLoop × ℕ) = fixed came ++ as_moving (after_rounds (round_of ncmp icmp answer p graph) came r) in
      let part : Alike (key_part ncmp v (fed_to (pair_leq leq) l.inner.steps (pair_of t r))) (key_part ncmp v (items ncmp p graph held)) = at_each_key ncmp n.same (tied_itself n.total) (fed_to (pair_leq leq) l.inner.steps (pair_of t r)) (items ncmp p graph held) (l.fed t r low over below) v in
      let got = items-are-inputs ncmp n answer p graph arcs r view.are_arcs view.few held (held-rounds ncmp n icmp o answer p graph arcs view.are_arcs view.few came (view-is-prepared ncmp n acmp a answer p graph arcs view.are_arcs view.few (fed_to leq run.steps t) fed) r) v in
      ((λ h. Alike-trans part (got.0 h)), (λ h. Alike-trans part (got.1 h)));
  charges = l.charges;
  each = l.each;
  charged_is = l.charged_is;
}
