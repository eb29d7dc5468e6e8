use Rattle.std.proofs.Common.{◌∙◌, List, ap₂}
use Rattle.graph_model.specs.declared.value.Val.{Val}
use Rattle.vertex_lang.specs.Lone.{same_value}
use Rattle.multisets.specs.Multisets.{are_one}
use Rattle.view_versions.proofs.Same.{inputs-are}
use Rattle.view_versions.proofs.slow.is_same.Goals as goal

pub returns : goal.returns
returns g c =
    c.both.ensures
    ∙ inputs-are g.U.Updater.answer c.args.versions.program.now c.args.versions.graph.now c.args.new.now c.args.old.now c.args.node c.args.round c.is_one-own.result c.are_one_list-got.result
    (c.is_one-own.ensures ∙ ap₂ (λ (a b : Val). same_value a b) c.in_ok-now.ensures.own c.in_ok-before.ensures.own)
    (c.are_one_list-got.ensures ∙ ap₂ (λ (a b : List Val). are_one same_value a b) (c.deref_mut.ensures.value ∙ c.in_ok-now.ensures.got) (c.deref_mut-2.ensures.value ∙ c.in_ok-before.ensures.got))
