use Rattle.std.proofs.Common.{◌≡◌, ◌∙◌, ◌<◌, ◌≤◌, [], List, length, get_or, false, refl, sym, ap, inl, inr, arith}
use Rattle.std.proofs.lemmas.Bool.{cases_Bool}
use Rattle.std.proofs.lemmas.List.{drop_all}
use Rattle.graph_model.specs.declared.number.NodeNo.{NodeNo}
use Rattle.change_lists.specs.ChangeLists.{is_listed}
use Rattle.arc_rows.specs.ListLaws.{clash}
use Rattle.waiting_nodes.specs.WaitingLaws.{cleared-more}
use Rattle.round_kernel.proofs.copies.clear_flags.Goals as goal

abbrev no_node : NodeNo
no_node = record { 0 = 0 }

pub loop-node-preserved : goal.loop-node-preserved
loop-node-preserved c =
    let i = c.loop-node.node-index in
    let shown = c.args.shown.now in
    let low = c.loop-node-test.true in
    let within : (get_or shown i no_node).0 < length c.loop-node.marked = omega (arith, c.requires.within i no_node low, c.loop-node.auto.marked) in
    cleared-more shown i no_node low c.loop-node.marked within c.loop-node.invariant

pub returns : goal.returns
returns c = record {
  marked = λ v. elim (cases_Bool (get_or c.loop-node.marked v false)) [
    | inr f ↦ f
    | inl t ↦
        let end : length c.args.shown.now ≤ c.loop-node.node-index = omega arith in
        absurd (clash (is_listed v []) refl (ap (λ (ns : List NodeNo). is_listed v ns) (sym (drop_all c.loop-node.node-index c.args.shown.now end)) ∙ c.loop-node.invariant v t))
  ];
}
