use Rattle.std.proofs.Common.{◌≡◌, ◌∙◌, ◌<◌, sym, ap, subst, ℕ, ℤ, List, length, arith}
use Rattle.std.specs.Prelude.{All, ◌==◌}
use Rattle.std.proofs.lemmas.List.Elements.{All-filter, All-weaker}
use Rattle.graph_model.specs.declared.number.NodeNo.{NodeNo}
use Rattle.graph_model.specs.declared.value.Val.{Val}
use Rattle.vertex_lang.specs.declared.arc.Arc.{Arc}
use Rattle.vertex_lang.specs.Arcs.{IsArc}
use Rattle.message_forms.specs.declared.edge_step.Link.{Link}
use Rattle.arc_rows.specs.Links.{tail_of, link_of}
use Rattle.value_codes.specs.Numbers.{sent_over}
use Rattle.round_inputs.specs.Numbers.{sent_with}
use Rattle.arc_rows.specs.Views.{row_of}
use Rattle.value_codes.specs.Tallies.{tally_of}
use Rattle.round_inputs.specs.SourceLaws.{few, each, by-messages, by-tails, by-values, by-links, sent-is, fed-tails, fed-values, fed-links}
use Rattle.arc_rows.specs.ViewLaws.{row-few}
use Rattle.round_inputs.specs.InputLaws.{tally-got}
use Rattle.round_inputs.proofs.source.MessageSource.tally.Goals as goal

-- what holds of each arc holds of those of a row
of-row : (all row : List Arc) (v : ℕ) → row ≡ row_of all v → (P : Arc → Type 0) → All P all → All P row
of-row all row v e P h = subst (λ (xs : List Arc). All P xs) (sym e) (All-filter (λ (a : Arc). a.head.0 == v) P all h)

-- ---- messages

pub tally-requires-clause-few : goal.tally-requires-clause-few
tally-requires-clause-few g c =
    omega (arith, c.requires.round.rows.few, few tail_of c.args.round.now.rows.now.by_head c.args.round.now.side.edges.now (length c.args.round.now.graph.now.ids) c.in-Some.tails (fed-tails g.U.Updater.answer c.args.round.now.program.now c.args.round.now.graph.now c.args.round.now.rows.now.by_head c.args.round.now.side.edges.now c.args.round.now.number c.args.self.now c.requires.source c.in-Messages.live c.in-Some.tails c.in-Messages.is c.in-Some.is) c.args.node.0 c.requires.node c.row.result.now c.row.ensures)

pub tally-requires-clause-tails : goal.tally-requires-clause-tails
tally-requires-clause-tails g c =
    let size = (c.requires.round.sent c.if-side.true).0 in
    each tail_of c.args.round.now.rows.now.by_head c.args.round.now.side.edges.now (length c.args.round.now.graph.now.ids) c.in-Some.tails (fed-tails g.U.Updater.answer c.args.round.now.program.now c.args.round.now.graph.now c.args.round.now.rows.now.by_head c.args.round.now.side.edges.now c.args.round.now.number c.args.self.now c.requires.source c.in-Messages.live c.in-Some.tails c.in-Messages.is c.in-Some.is) c.args.node.0 c.requires.node c.row.result.now c.row.ensures (λ (t : NodeNo). t.0 < length c.args.round.now.side.sent.now)
    (All-weaker (IsArc c.args.round.now.graph.now) (λ (a : Arc). a.tail.0 < length c.args.round.now.side.sent.now) (λ a arc. omega (arith, arc.tail, size)) c.args.round.now.rows.now.by_head c.requires.round.rows.arcs)

pub tally_arcs-requires-clause-few : goal.tally_arcs-requires-clause-few
tally_arcs-requires-clause-few g c = omega (arith, row-few c.args.round.now.rows.now.by_head c.into.result.now c.args.node.0 c.into.ensures, c.requires.round.rows.few)

pub tally_arcs-requires-clause-tails : goal.tally_arcs-requires-clause-tails
tally_arcs-requires-clause-tails g c =
    let size = (c.requires.round.sent c.if-side.true).0 in
    of-row c.args.round.now.rows.now.by_head c.into.result.now c.args.node.0 c.into.ensures (λ (a : Arc). a.tail.0 < length c.args.round.now.side.sent.now)
    (All-weaker (IsArc c.args.round.now.graph.now) (λ (a : Arc). a.tail.0 < length c.args.round.now.side.sent.now) (λ a arc. omega (arith, arc.tail, size)) c.args.round.now.rows.now.by_head c.requires.round.rows.arcs)

pub tally_arcs-requires-clause-edges : goal.tally_arcs-requires-clause-edges
tally_arcs-requires-clause-edges g c =
    of-row c.args.round.now.rows.now.by_head c.into.result.now c.args.node.0 c.into.ensures (λ (a : Arc). a.edge.0 < length c.args.round.now.side.edges.now)
    (All-weaker (IsArc c.args.round.now.graph.now) (λ (a : Arc). a.edge.0 < length c.args.round.now.side.edges.now) (λ a arc. omega (arith, arc.edge, c.requires.round.stands.sized.edges_size)) c.args.round.now.rows.now.by_head c.requires.round.rows.arcs)

pub returns-in-Some : goal.returns-in-Some
returns-in-Some g c =
    c.tally.ensures
    ∙ ap (λ (ms : List Val). tally_of c.args.round.now.program.now.gather ms) (by-tails g.U.Updater.answer c.args.round.now.program.now c.args.round.now.graph.now c.args.round.now.rows.now.by_head c.args.round.now.side.edges.now c.args.round.now.number c.requires.round.rows.arcs c.args.node.0 c.requires.node c.in-Some.tails c.args.round.now.side.sent.now c.row.result.now (sent-is g.U.Updater.answer c.args.round.now.program.now c.args.round.now.graph.now c.args.round.now.rows.now.by_head c.args.round.now.side.edges.now c.args.round.now.side.degrees.now c.args.round.now.side.values.now c.args.round.now.number c.requires.round.stands c.args.round.now.side.alike c.args.round.now.side.sent.now c.requires.round.sent c.if-side.true) (fed-tails g.U.Updater.answer c.args.round.now.program.now c.args.round.now.graph.now c.args.round.now.rows.now.by_head c.args.round.now.side.edges.now c.args.round.now.number c.args.self.now c.requires.source c.in-Messages.live c.in-Some.tails c.in-Messages.is c.in-Some.is) c.row.ensures)

pub returns-in-None : goal.returns-in-None
returns-in-None g c =
    c.tally_arcs.ensures
    ∙ ap (λ (ms : List Val). tally_of c.args.round.now.program.now.gather ms) (by-messages g.U.Updater.answer c.args.round.now.program.now c.args.round.now.graph.now c.args.round.now.rows.now.by_head c.args.round.now.side.edges.now c.args.round.now.number c.requires.round.rows.arcs c.args.node.0 c.requires.node c.args.round.now.side.sent.now c.into.result.now (sent-is g.U.Updater.answer c.args.round.now.program.now c.args.round.now.graph.now c.args.round.now.rows.now.by_head c.args.round.now.side.edges.now c.args.round.now.side.degrees.now c.args.round.now.side.values.now c.args.round.now.number c.requires.round.stands c.args.round.now.side.alike c.args.round.now.side.sent.now c.requires.round.sent c.if-side.true) c.into.ensures)

-- ---- values and a property

pub tally_links-requires-clause-few : goal.tally_links-requires-clause-few
tally_links-requires-clause-few g c =
    let links = fed-links g.U.Updater.answer c.args.round.now.program.now c.args.round.now.graph.now c.args.round.now.rows.now.by_head c.args.round.now.side.edges.now c.args.round.now.number c.args.self.now c.requires.source c.in-Steps.column c.in-Steps.numbers c.in-Steps.live c.in-Some-live.links c.in-Steps.is c.in-Some-live.is in
    omega (arith, c.requires.round.rows.few, few (link_of c.args.round.now.graph.now c.in-Steps.column) c.args.round.now.rows.now.by_head c.args.round.now.side.edges.now (length c.args.round.now.graph.now.ids) c.in-Some-live.links links.rows c.args.node.0 c.requires.node c.row-in-Some-live.result.now c.row-in-Some-live.ensures)

pub tally_links-requires-clause-tails : goal.tally_links-requires-clause-tails
tally_links-requires-clause-tails g c =
    let has = fed-values g.U.Updater.answer c.args.round.now.program.now c.args.round.now.graph.now c.args.round.now.rows.now.by_head c.args.round.now.side.edges.now c.args.round.now.number c.args.self.now c.requires.source c.in-Steps.column c.in-Steps.numbers c.in-Steps.live c.in-Steps.is in
    let links = fed-links g.U.Updater.answer c.args.round.now.program.now c.args.round.now.graph.now c.args.round.now.rows.now.by_head c.args.round.now.side.edges.now c.args.round.now.number c.args.self.now c.requires.source c.in-Steps.column c.in-Steps.numbers c.in-Steps.live c.in-Some-live.links c.in-Steps.is c.in-Some-live.is in
    each (link_of c.args.round.now.graph.now c.in-Steps.column) c.args.round.now.rows.now.by_head c.args.round.now.side.edges.now (length c.args.round.now.graph.now.ids) c.in-Some-live.links links.rows c.args.node.0 c.requires.node c.row-in-Some-live.result.now c.row-in-Some-live.ensures (λ (l : Link). l.tail.0 < length c.deref.result.now)
    (All-weaker (IsArc c.args.round.now.graph.now) (λ (a : Arc). a.tail.0 < length c.deref.result.now) (λ a arc. omega (arith, arc.tail, has.size, c.deref.ensures.len)) c.args.round.now.rows.now.by_head c.requires.round.rows.arcs)

pub tally_steps-requires-clause-few : goal.tally_steps-requires-clause-few
tally_steps-requires-clause-few g c = omega (arith, row-few c.args.round.now.rows.now.by_head c.into-in-None-live.result.now c.args.node.0 c.into-in-None-live.ensures, c.requires.round.rows.few)

pub tally_steps-requires-clause-tails : goal.tally_steps-requires-clause-tails
tally_steps-requires-clause-tails g c =
    let has = fed-values g.U.Updater.answer c.args.round.now.program.now c.args.round.now.graph.now c.args.round.now.rows.now.by_head c.args.round.now.side.edges.now c.args.round.now.number c.args.self.now c.requires.source c.in-Steps.column c.in-Steps.numbers c.in-Steps.live c.in-Steps.is in
    of-row c.args.round.now.rows.now.by_head c.into-in-None-live.result.now c.args.node.0 c.into-in-None-live.ensures (λ (a : Arc). a.tail.0 < length c.deref-in-None-live.result.now)
    (All-weaker (IsArc c.args.round.now.graph.now) (λ (a : Arc). a.tail.0 < length c.deref-in-None-live.result.now) (λ a arc. omega (arith, arc.tail, has.size, c.deref-in-None-live.ensures.len)) c.args.round.now.rows.now.by_head c.requires.round.rows.arcs)

pub tally_steps-requires-clause-edges : goal.tally_steps-requires-clause-edges
tally_steps-requires-clause-edges g c =
    of-row c.args.round.now.rows.now.by_head c.into-in-None-live.result.now c.args.node.0 c.into-in-None-live.ensures (λ (a : Arc). a.edge.0 < length c.args.round.now.side.edges.now)
    (All-weaker (IsArc c.args.round.now.graph.now) (λ (a : Arc). a.edge.0 < length c.args.round.now.side.edges.now) (λ a arc. omega (arith, arc.edge, c.requires.round.stands.sized.edges_size)) c.args.round.now.rows.now.by_head c.requires.round.rows.arcs)

pub returns-in-Some-live : goal.returns-in-Some-live
returns-in-Some-live g c =
    c.tally_links.ensures ∙ ap (λ (ns : List ℤ). tally_of c.args.round.now.program.now.gather (sent_over ns c.row-in-Some-live.result.now)) c.deref.ensures.value
    ∙ ap (λ (ms : List Val). tally_of c.args.round.now.program.now.gather ms) (by-links g.U.Updater.answer c.args.round.now.program.now c.args.round.now.graph.now c.args.round.now.rows.now.by_head c.args.round.now.side.edges.now c.args.round.now.number c.requires.round.rows.arcs c.args.node.0 c.requires.node c.in-Steps.column c.in-Some-live.links c.in-Steps.numbers.items c.row-in-Some-live.result.now (fed-values g.U.Updater.answer c.args.round.now.program.now c.args.round.now.graph.now c.args.round.now.rows.now.by_head c.args.round.now.side.edges.now c.args.round.now.number c.args.self.now c.requires.source c.in-Steps.column c.in-Steps.numbers c.in-Steps.live c.in-Steps.is) (fed-links g.U.Updater.answer c.args.round.now.program.now c.args.round.now.graph.now c.args.round.now.rows.now.by_head c.args.round.now.side.edges.now c.args.round.now.number c.args.self.now c.requires.source c.in-Steps.column c.in-Steps.numbers c.in-Steps.live c.in-Some-live.links c.in-Steps.is c.in-Some-live.is) c.row-in-Some-live.ensures)

pub returns-in-None-live : goal.returns-in-None-live
returns-in-None-live g c =
    c.tally_steps.ensures ∙ ap (λ (ns : List ℤ). tally_of c.args.round.now.program.now.gather (sent_with c.args.round.now.graph.now c.in-Steps.column ns c.args.round.now.side.edges.now c.into-in-None-live.result.now)) c.deref-in-None-live.ensures.value
    ∙ ap (λ (ms : List Val). tally_of c.args.round.now.program.now.gather ms) (by-values g.U.Updater.answer c.args.round.now.program.now c.args.round.now.graph.now c.args.round.now.rows.now.by_head c.args.round.now.side.edges.now c.args.round.now.number c.requires.round.rows.arcs c.args.node.0 c.requires.node c.in-Steps.column c.in-Steps.numbers.items c.into-in-None-live.result.now (fed-values g.U.Updater.answer c.args.round.now.program.now c.args.round.now.graph.now c.args.round.now.rows.now.by_head c.args.round.now.side.edges.now c.args.round.now.number c.args.self.now c.requires.source c.in-Steps.column c.in-Steps.numbers c.in-Steps.live c.in-Steps.is) c.into-in-None-live.ensures)

-- ---- nothing is kept

pub tally-requires-in_default-clause-row : goal.tally-requires-in_default-clause-row
tally-requires-in_default-clause-row g c = of-row c.args.round.now.rows.now.by_head c.into-in_default.result.now c.args.node.0 c.into-in_default.ensures (IsArc c.args.round.now.graph.now) c.requires.round.rows.arcs

pub tally-requires-in_default-clause-few : goal.tally-requires-in_default-clause-few
tally-requires-in_default-clause-few g c = omega (arith, row-few c.args.round.now.rows.now.by_head c.into-in_default.result.now c.args.node.0 c.into-in_default.ensures, c.requires.round.rows.few)

pub returns-in_default : goal.returns-in_default
returns-in_default g c =
    tally-got g.U.Updater.answer c.args.round.now.program.now c.args.round.now.graph.now c.args.round.now.rows.now.by_head c.args.round.now.side.edges.now c.args.round.now.side.degrees.now c.args.round.now.side.values.now c.args.round.now.number c.requires.round.stands c.args.node.0 c.into-in_default.result.now c.requires.round.rows.arcs c.into-in_default.ensures c.tally-in_default.result c.tally-in_default.ensures
