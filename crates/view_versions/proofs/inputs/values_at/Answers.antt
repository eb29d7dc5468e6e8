use Rattle.std.proofs.Common.{Vec, Global, ◌≡◌, ◌∙◌, List, length, map, sym, ap}
use Rattle.std.proofs.lemmas.List.FromFn.{length-map-range_with_len}
use Rattle.graph_model.specs.declared.value.Val.{Val}
use Rattle.vertex_lang.specs.Expressions.{start_of}
use Rattle.vertex_lang.specs.Rounds.{lone, nodes_of}
use Rattle.vertex_lang.specs.RoundLaws.{lone_starts}
use Rattle.view_versions.proofs.Results.{ok-so}
use Rattle.view_versions.proofs.inputs.values_at.Goals as goal

pub returns-then-round-eq0-clause-values : goal.returns-then-round-eq0-clause-values
returns-then-round-eq0-clause-values g c =
    let p = c.args.program.now in
    let graph = c.args.graph.now in
    let values = lone g.U.Updater.answer p graph c.args.arcs.now in
    ok-so c.starts_anew.result (λ (vs : Vec Val Global). vs.items ≡ map (start_of p graph) (nodes_of graph)) (λ (vs : Vec Val Global). vs.items ≡ values c.args.round)
    (λ vs e. e ∙ sym (lone_starts g.U.Updater.answer p graph c.args.arcs.now) ∙ ap (λ n. values n) (sym c.if-round-eq0.true)) c.starts_anew.ensures

pub returns-then-round-eq0-clause-size : goal.returns-then-round-eq0-clause-size
returns-then-round-eq0-clause-size g c =
    let p = c.args.program.now in
    let graph = c.args.graph.now in
    ok-so c.starts_anew.result (λ (vs : Vec Val Global). vs.items ≡ map (start_of p graph) (nodes_of graph)) (λ (vs : Vec Val Global). length vs.items ≡ length graph.ids)
    (λ vs e. ap (λ (xs : List Val). length xs) e ∙ length-map-range_with_len (start_of p graph) 0 (length graph.ids)) c.starts_anew.ensures
