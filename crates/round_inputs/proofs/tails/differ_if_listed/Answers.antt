use Rattle.std.proofs.Common.{◌≡◌, ◌∙◌, ◌<◌, [], sym, ap, refl, arith, ℕ, ℤ, List, length}
use Rattle.std.specs.Prelude.{◌==◌, not}
use Rattle.std.proofs.lemmas.Bool.{eqb-true}
use Rattle.std.proofs.lemmas.List.{nil_from_length}
use Rattle.std.proofs.lemmas.List.Elements.{All-filter, All-weaker}
use Rattle.graph_model.specs.declared.number.NodeNo.{NodeNo}
use Rattle.graph_model.specs.declared.value.Val.{Val}
use Rattle.vertex_lang.specs.declared.arc.Arc.{Arc}
use Rattle.vertex_lang.specs.Arcs.{IsArc}
use Rattle.vertex_lang.specs.Lone.{same_value}
use Rattle.multisets.specs.Multisets.{are_one}
use Rattle.vertex_lang.specs.Rounds.{value_at}
use Rattle.message_forms.specs.declared.edge_step.Link.{Link}
use Rattle.message_forms.specs.Codes.{number_at}
use Rattle.arc_rows.specs.Links.{tail_of, link_of}
use Rattle.value_codes.specs.Numbers.{sent_over}
use Rattle.round_inputs.specs.Links.{values_over, sent_by_tails}
use Rattle.round_inputs.specs.StillLinks.{IsStillOver}
use Rattle.round_messages.specs.Sides.{all_brought}
use Rattle.arc_rows.specs.Views.{row_of}
use Rattle.round_inputs.specs.Movers.{InMovers}
use Rattle.round_inputs.specs.BroughtLaws.{brought-is}
use Rattle.round_inputs.specs.SourceLaws.{each, row-is, by-links, fed-tails, fed-keeps, fed-values, fed-links}
use Rattle.round_inputs.proofs.Listed.{tails-send, tails-send-there, links-send-there, still-over}
use Rattle.round_inputs.proofs.tails.differ_if_listed.Goals as goal

-- ---- messages

pub differ_by_tails-requires-clause-tails : goal.differ_by_tails-requires-clause-tails
differ_by_tails-requires-clause-tails g c =
    let graph = c.args.rounds.now.left.now.graph.now in
    let all = c.args.rounds.now.left.now.rows.now.by_head in
    let edges = c.args.rounds.now.left.now.side.edges.now in
    let count = length graph.ids in
    let live = fed-tails g.U.Updater.answer c.args.rounds.now.left.now.program.now graph all edges c.args.rounds.now.left.now.number c.args.source.now c.requires.source c.in-Messages.live c.in-Some.tails c.in-Messages.is c.in-Some.is in
    each tail_of all edges count c.in-Some.tails live c.args.node.0 c.requires.node c.row-row.result.now c.row-row.ensures (λ (t : NodeNo). t.0 < count)
    (All-weaker (IsArc graph) (λ (a : Arc). a.tail.0 < count) (λ a arc. arc.tail) all c.requires.round.rows.arcs)

pub returns-in_ok-differ-in-Some : goal.returns-in_ok-differ-in-Some
returns-in_ok-differ-in-Some g c =
    let p = c.args.rounds.now.left.now.program.now in
    let graph = c.args.rounds.now.left.now.graph.now in
    let all = c.args.rounds.now.left.now.rows.now.by_head in
    let l = c.args.rounds.now.left.now.side in
    let r = c.args.rounds.now.right.now in
    let turned = c.args.rounds.now.turned.now in
    let row = row_of all c.args.node.0 in
    let tails = c.row-row.result.now in
    let live = fed-tails g.U.Updater.answer p graph all l.edges.now c.args.rounds.now.left.now.number c.args.source.now c.requires.source c.in-Messages.live c.in-Some.tails c.in-Messages.is c.in-Some.is in
    let keeps = fed-keeps g.U.Updater.answer p graph all l.edges.now c.args.rounds.now.left.now.number c.args.source.now c.requires.source c.in-Messages.live c.in-Messages.is in
    let is = row-is tail_of all l.edges.now (length graph.ids) c.in-Some.tails live c.args.node.0 c.requires.node tails c.row-row.ensures in
    let none : turned ≡ [] = nil_from_length turned (eqb-true (length turned) 0 (sym c.is_empty.ensures ∙ c.if-not-is_empty.false)) in
    c.in_ok-differ-in-Some.ensures
    ∙ ap (λ (ms : List Val). not (are_one same_value ms (sent_by_tails p graph r.degrees.now r.values.now tails))) (tails-send p graph l.degrees.now l.values.now l.edges.now row tails (keeps refl).0 is)
    ∙ ap (λ (ms : List Val). not (are_one same_value (all_brought p graph l.edges.now l.degrees.now l.values.now row) ms))
    (tails-send-there p graph r.degrees.now r.values.now l.edges.now r.edges.now turned row tails (keeps refl).0 is none c.requires.turned)

-- ---- values and a property

pub differ_by_links-requires-clause-numbers : goal.differ_by_links-requires-clause-numbers
differ_by_links-requires-clause-numbers g c =
    let graph = c.args.rounds.now.left.now.graph.now in
    let all = c.args.rounds.now.left.now.rows.now.by_head in
    let edges = c.args.rounds.now.left.now.side.edges.now in
    let source = c.args.source.now in
    let numbers = c.in-Steps.numbers in
    let has = fed-values g.U.Updater.answer c.args.rounds.now.left.now.program.now graph all edges c.args.rounds.now.left.now.number source c.requires.source c.in-Steps.field-0 numbers c.in-Steps.live c.in-Steps.is in
    let links = fed-links g.U.Updater.answer c.args.rounds.now.left.now.program.now graph all edges c.args.rounds.now.left.now.number source c.requires.source c.in-Steps.field-0 numbers c.in-Steps.live c.in-Some-live.links c.in-Steps.is c.in-Some-live.is in
    each (link_of graph c.in-Steps.field-0) all edges (length graph.ids) c.in-Some-live.links links.rows c.args.node.0 c.requires.node c.row-row-in-Some-live.result.now c.row-row-in-Some-live.ensures (λ (l : Link). l.tail.0 < length c.deref.result.now)
    (All-weaker (IsArc graph) (λ (a : Arc). a.tail.0 < length c.deref.result.now) (λ a arc. omega (arith, arc.tail, has.size, c.deref.ensures.len)) all c.requires.round.rows.arcs)

pub differ_by_links-requires-clause-values : goal.differ_by_links-requires-clause-values
differ_by_links-requires-clause-values g c =
    let graph = c.args.rounds.now.left.now.graph.now in
    let all = c.args.rounds.now.left.now.rows.now.by_head in
    let edges = c.args.rounds.now.left.now.side.edges.now in
    let values = c.args.rounds.now.right.now.values.now in
    let links = fed-links g.U.Updater.answer c.args.rounds.now.left.now.program.now graph all edges c.args.rounds.now.left.now.number c.args.source.now c.requires.source c.in-Steps.field-0 c.in-Steps.numbers c.in-Steps.live c.in-Some-live.links c.in-Steps.is c.in-Some-live.is in
    each (link_of graph c.in-Steps.field-0) all edges (length graph.ids) c.in-Some-live.links links.rows c.args.node.0 c.requires.node c.row-row-in-Some-live.result.now c.row-row-in-Some-live.ensures (λ (l : Link). l.tail.0 < length values)
    (All-weaker (IsArc graph) (λ (a : Arc). a.tail.0 < length values) (λ a arc. omega (arith, arc.tail, c.requires.rounds.right.values_size)) all c.requires.round.rows.arcs)

pub differ_by_links-requires-clause-movers : goal.differ_by_links-requires-clause-movers
differ_by_links-requires-clause-movers g c =
    let graph = c.args.rounds.now.left.now.graph.now in
    let all = c.args.rounds.now.left.now.rows.now.by_head in
    let edges = c.args.rounds.now.left.now.side.edges.now in
    let links = fed-links g.U.Updater.answer c.args.rounds.now.left.now.program.now graph all edges c.args.rounds.now.left.now.number c.args.source.now c.requires.source c.in-Steps.field-0 c.in-Steps.numbers c.in-Steps.live c.in-Some-live.links c.in-Steps.is c.in-Some-live.is in
    each (link_of graph c.in-Steps.field-0) all edges (length graph.ids) c.in-Some-live.links links.rows c.args.node.0 c.requires.node c.row-row-in-Some-live.result.now c.row-row-in-Some-live.ensures (λ (l : Link). InMovers c.args.rounds.now.movers l.tail.0)
    (All-weaker (IsArc graph) (λ (a : Arc). InMovers c.args.rounds.now.movers a.tail.0) (λ a arc. c.requires.rounds.movers a.tail.0 arc.tail) all c.requires.round.rows.arcs)

pub differ_by_links-requires-clause-still : goal.differ_by_links-requires-clause-still
differ_by_links-requires-clause-still g c =
    let p = c.args.rounds.now.left.now.program.now in
    let graph = c.args.rounds.now.left.now.graph.now in
    let all = c.args.rounds.now.left.now.rows.now.by_head in
    let l = c.args.rounds.now.left.now.side in
    let r = c.args.rounds.now.right.now in
    let source = c.args.source.now in
    let column = c.in-Steps.field-0 in
    let numbers = c.in-Steps.numbers in
    let has = fed-values g.U.Updater.answer p graph all l.edges.now c.args.rounds.now.left.now.number source c.requires.source column numbers c.in-Steps.live c.in-Steps.is in
    let links = fed-links g.U.Updater.answer p graph all l.edges.now c.args.rounds.now.left.now.number source c.requires.source column numbers c.in-Steps.live c.in-Some-live.links c.in-Steps.is c.in-Some-live.is in
    let are : (u : ℕ) → u < length graph.ids → number_at c.deref.result.now u ≡ value_at l.values.now u = λ u low.
    ap (λ (ns : List ℤ). number_at ns u) c.deref.ensures.value ∙ has.each u low ∙ ap (λ (vs : List Val). value_at vs u) (sym c.requires.round.stands.values_are) in
    each (link_of graph column) all l.edges.now (length graph.ids) c.in-Some-live.links links.rows c.args.node.0 c.requires.node c.row-row-in-Some-live.result.now c.row-row-in-Some-live.ensures (IsStillOver c.args.rounds.now.movers c.deref.result.now r.values.now)
    (All-weaker (IsArc graph) (λ (a : Arc). IsStillOver c.args.rounds.now.movers c.deref.result.now r.values.now (link_of graph column a))
    (still-over p graph c.args.rounds.now.movers l.degrees.now r.degrees.now l.values.now r.values.now c.deref.result.now column has.step links.proper are c.requires.rounds.still) all c.requires.round.rows.arcs)

pub returns-in_ok-differ-in-Some-live : goal.returns-in_ok-differ-in-Some-live
returns-in_ok-differ-in-Some-live g c =
    let answer = g.U.Updater.answer in
    let p = c.args.rounds.now.left.now.program.now in
    let graph = c.args.rounds.now.left.now.graph.now in
    let all = c.args.rounds.now.left.now.rows.now.by_head in
    let l = c.args.rounds.now.left.now.side in
    let r = c.args.rounds.now.right.now in
    let source = c.args.source.now in
    let v = c.args.node.0 in
    let column = c.in-Steps.field-0 in
    let numbers = c.in-Steps.numbers in
    let turned = c.args.rounds.now.turned.now in
    let row = row_of all v in
    let links = c.row-row-in-Some-live.result.now in
    let has = fed-values answer p graph all l.edges.now c.args.rounds.now.left.now.number source c.requires.source column numbers c.in-Steps.live c.in-Steps.is in
    let are = fed-links answer p graph all l.edges.now c.args.rounds.now.left.now.number source c.requires.source column numbers c.in-Steps.live c.in-Some-live.links c.in-Steps.is c.in-Some-live.is in
    let is = row-is (link_of graph column) all l.edges.now (length graph.ids) c.in-Some-live.links are.rows v c.requires.node links c.row-row-in-Some-live.ensures in
    let none : turned ≡ [] = nil_from_length turned (eqb-true (length turned) 0 (sym c.is_empty.ensures ∙ c.if-not-is_empty.false)) in
    let arcs = All-filter (λ (a : Arc). a.head.0 == v) (IsArc graph) all c.requires.round.rows.arcs in
    let here : sent_over c.deref.result.now links ≡ all_brought p graph l.edges.now l.degrees.now l.values.now row =
    ap (λ (ns : List ℤ). sent_over ns links) c.deref.ensures.value
    ∙ by-links answer p graph all l.edges.now c.args.rounds.now.left.now.number c.requires.round.rows.arcs v c.requires.node column c.in-Some-live.links numbers.items links has are c.row-row-in-Some-live.ensures
    ∙ sym (brought-is answer p graph all l.edges.now l.degrees.now l.values.now c.args.rounds.now.left.now.number c.requires.round.stands v c.requires.round.rows.arcs) in
    c.in_ok-differ-in-Some-live.ensures
    ∙ ap (λ (ms : List Val). not (are_one same_value ms (values_over r.values.now links))) here
    ∙ ap (λ (ms : List Val). not (are_one same_value (all_brought p graph l.edges.now l.degrees.now l.values.now row) ms))
    (links-send-there p graph r.degrees.now r.values.now l.edges.now r.edges.now column turned row links has.step are.proper arcs is none c.requires.turned)
