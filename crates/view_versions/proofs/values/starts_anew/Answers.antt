use Rattle.std.proofs.Common.{◌∙◌, ◌++◌, ◌∷◌, [], List, map, sym, ap, arith}
use Rattle.std.specs.List.{range_with_len}
use Rattle.std.proofs.lemmas.List.FromFn.{map-range_with_len_more}
use Rattle.graph_model.specs.declared.value.Val.{Val}
use Rattle.vertex_lang.specs.Expressions.{start_of}
use Rattle.view_versions.proofs.values.starts_anew.Goals as goal

pub loop-node-preserved : goal.loop-node-preserved
loop-node-preserved c =
    let f = start_of c.args.program.now c.args.graph.now in
    let more = map-range_with_len_more f 0 c.loop-node.node c.loop-node.node (omega arith) in
    c.in_ok-push.ensures.items ∙ ap (λ (vs : List Val). vs ++ c.start.result ∷ []) c.loop-node.invariant ∙ ap (λ (v : Val). map f (range_with_len 0 c.loop-node.node) ++ v ∷ []) c.start.ensures.value ∙ sym more
