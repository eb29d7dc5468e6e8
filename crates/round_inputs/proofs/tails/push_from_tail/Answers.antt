use Rattle.std.proofs.Common.{◌∙◌, ◌++◌, ◌∷◌, [], List, filter, subst}
use Rattle.std.specs.Prelude.{OnOk}
use Rattle.graph_model.specs.declared.value.Val.{Val}
use Rattle.vertex_lang.specs.Arcs.{is_sent}
use Rattle.round_inputs.specs.Links.{sent_by_tail}
use Rattle.round_inputs.specs.Inputs.{AreLeft}
use Rattle.round_inputs.proofs.tails.push_from_tail.Goals as goal

pub returns : goal.returns
returns c =
    let p = c.args.rounds.now.left.now.program.now in
    let graph = c.args.rounds.now.left.now.graph.now in
    let r = c.args.rounds.now.right.now in
    let here = c.kept-here.result in
    let first = c.push_unlike.new.first.items in
    let second = c.push_unlike.new.second.items in
    let was = c.args.first.now.items in
    let had = c.args.second.now.items in
    let done = c.push_unlike.result in
    subst (λ (m : Val). OnOk done ((all more : List Val) → AreLeft was had all more → AreLeft first second (all ++ filter is_sent (m ∷ [])) (more ++ filter is_sent (sent_by_tail p graph r.degrees.now r.values.now c.args.tail ∷ []))))
    (c.kept-here.ensures ∙ (c.requires.rounds.left.sent c.requires.alike).1 c.args.tail.0 0 c.requires.tail)
    (subst (λ (m : Val). OnOk done ((all more : List Val) → AreLeft was had all more → AreLeft first second (all ++ filter is_sent (here ∷ [])) (more ++ filter is_sent (m ∷ [])))) c.send_by-there.ensures.message
    c.push_unlike.ensures)
