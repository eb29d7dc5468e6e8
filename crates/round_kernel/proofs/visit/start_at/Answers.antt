use Rattle.std.proofs.Common.{◌∙◌, ℤ, w64, SFits, sym, ap, rules}
use Rattle.std.proofs.lemmas.Int.{to_z-of_z}
use Rattle.graph_model.specs.declared.value.Val.TheVariants.{Num}
use Rattle.vertex_lang.specs.declared.program.Expr.{Expr}
use Rattle.vertex_lang.specs.Expressions.{value_of, start_words}
use Rattle.vertex_lang.specs.Trees.{value-Number}
use Rattle.round_kernel.proofs.visit.start_at.Goals as goal

pub returns-in-Number : goal.returns-in-Number
returns-in-Number c =
    let words = start_words c.args._graph.now c.args.node.0 in
    let n = c.in-Number.number in
    let fits : SFits w64 n = search rules in
    ap (λ (z : ℤ). Num z) (to_z-of_z w64 n fits) ∙ sym (ap (λ (s : Expr). value_of s words) c.in-Number.is ∙ value-Number n words)
