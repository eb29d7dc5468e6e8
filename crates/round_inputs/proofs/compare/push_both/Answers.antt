use Rattle.std.proofs.Common.{◌++◌, ◌∷◌, [], List, filter, subst, refl}
use Rattle.std.specs.Prelude.{OnOk}
use Rattle.graph_model.specs.declared.value.Val.{Val}
use Rattle.vertex_lang.specs.Arcs.{is_sent}
use Rattle.round_messages.specs.Sides.{brings}
use Rattle.round_inputs.specs.Inputs.{AreLeft}
use Rattle.round_inputs.proofs.Leftovers.{left-same, brings-same}
use Rattle.round_inputs.proofs.compare.push_both.Goals as goal

pub returns-then-not-may_differ : goal.returns-then-not-may_differ
returns-then-not-may_differ c =
    let l = c.args.rounds.now.left.now.side in
    let r = c.args.rounds.now.right.now in
    λ all more had. left-same c.args.first.now.items c.args.second.now.items all more _ _ _ _ refl refl
    (brings-same c.args.rounds.now.left.now.program.now c.args.rounds.now.left.now.graph.now l.edges.now r.edges.now l.degrees.now r.degrees.now l.values.now r.values.now c.args.arc (c.may_differ.ensures.edges c.if-not-may_differ.true) (c.requires.rounds.still c.args.arc.tail.0 c.args.arc.edge.0 c.requires.arc.tail (c.may_differ.ensures.tail c.if-not-may_differ.true))) had

pub returns : goal.returns
returns c =
    let p = c.args.rounds.now.left.now.program.now in
    let graph = c.args.rounds.now.left.now.graph.now in
    let r = c.args.rounds.now.right.now in
    let here = c.messages-here.result.0 in
    let first = c.push_unlike.new.first.items in
    let second = c.push_unlike.new.second.items in
    let was = c.args.first.now.items in
    let had = c.args.second.now.items in
    let done = c.push_unlike.result in
    subst (λ (m : Val). OnOk done ((all more : List Val) → AreLeft was had all more → AreLeft first second (all ++ filter is_sent (m ∷ [])) (more ++ filter is_sent (brings p graph r.edges.now r.degrees.now r.values.now c.args.arc ∷ [])))) c.messages-here.ensures.left
    (subst (λ (m : Val). OnOk done ((all more : List Val) → AreLeft was had all more → AreLeft first second (all ++ filter is_sent (here ∷ [])) (more ++ filter is_sent (m ∷ [])))) c.messages-here.ensures.right
    c.push_unlike.ensures)
