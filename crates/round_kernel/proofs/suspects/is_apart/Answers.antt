use Rattle.std.proofs.Common.{◌≡◌, ◌∙◌, get_or, sym, ap, arith}
use Rattle.std.proofs.lemmas.List.{get_or_default}
use Rattle.graph_model.specs.declared.value.Val.{Val}
use Rattle.graph_model.specs.declared.value.Val.TheVariants.{Nil}
use Rattle.vertex_lang.specs.Expressions.{sent_by, send_words}
use Rattle.vertex_lang.specs.Rounds.{value_at}
use Rattle.change_lists.specs.ValueLaws.{same-told}
use Rattle.round_kernel.proofs.suspects.is_apart.Goals as goal

pub returns-else-frame : goal.returns-else-frame
returns-else-frame c = λ unset e.
    let p = c.args.frame.program.now in
    let graph = c.args.frame.graph.now in
    let lists = c.args.lists.now in
    let u = c.args.node.0 in
    let x = c.index.result.now in
    let y = c.index-2.result.now in
    let left : x ≡ value_at lists.old_now.items u = c.index.ensures ∙ get_or_default lists.old_now.items u x Nil (omega (arith, c.requires.node, c.requires.long.old_values)) in
    let right : y ≡ value_at lists.new_now.items u = c.index-2.ensures ∙ get_or_default lists.new_now.items u y Nil (omega (arith, c.requires.node, c.requires.long.new_values)) in
    let same : x ≡ y = same-told c.is_other.result x y c.is_other.ensures c.if-is_other.false in
    ap (λ (v : Val). sent_by p graph u v (get_or lists.old_degrees.items u 0) e) (sym left ∙ same ∙ right)
    ∙ c.requires.degree c.if-frame.false (send_words graph u (value_at lists.new_now.items u) 0 e) (get_or lists.old_degrees.items u 0) (get_or lists.new_degrees.items u 0)
