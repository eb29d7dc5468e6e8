use Rattle.std.proofs.Common.{◌≡◌, ◌+◌, ◌++◌, ◌∷◌, [], List, get_or, take, filter, false, sym, subst}
use Rattle.graph_model.specs.declared.value.Val.{Val}
use Rattle.vertex_lang.specs.declared.arc.Arc.{Arc}
use Rattle.vertex_lang.specs.Arcs.{is_sent}
use Rattle.round_messages.specs.Sides.{brings, all_brought}
use Rattle.round_inputs.specs.Inputs.{AreLeft}
use Rattle.round_messages.specs.BringLaws.{brought-more}
use Rattle.round_inputs.proofs.compare.fill.Goals as goal

abbrev no_arc : Arc
no_arc = record { tail = record { 0 = 0 }; head = record { 0 = 0 }; edge = record { 0 = 0 }; back = false }

pub loop-arc-preserved : goal.loop-arc-preserved
loop-arc-preserved c =
    let p = c.args.rounds.now.left.now.program.now in
    let graph = c.args.rounds.now.left.now.graph.now in
    let l = c.args.rounds.now.left.now.side in
    let r = c.args.rounds.now.right.now in
    let row = c.args.row.now in
    let i = c.loop-arc.arc-index in
    let a = get_or row i no_arc in
    let first = c.push_both.new.first.items in
    let second = c.push_both.new.second.items in
    let here = brings p graph l.edges.now l.degrees.now l.values.now a in
    let there = brings p graph r.edges.now r.degrees.now r.values.now a in
    let ls = all_brought p graph l.edges.now l.degrees.now l.values.now (take i row) in
    let rs = all_brought p graph r.edges.now r.degrees.now r.values.now (take i row) in
    let lmore : all_brought p graph l.edges.now l.degrees.now l.values.now (take (i + 1) row) ≡ ls ++ filter is_sent (here ∷ []) = brought-more p graph l.edges.now l.degrees.now l.values.now row i no_arc c.loop-arc-test.true in
    let rmore : all_brought p graph r.edges.now r.degrees.now r.values.now (take (i + 1) row) ≡ rs ++ filter is_sent (there ∷ []) = brought-more p graph r.edges.now r.degrees.now r.values.now row i no_arc c.loop-arc-test.true in
    subst (λ (xs : List Val). AreLeft first second xs (all_brought p graph r.edges.now r.degrees.now r.values.now (take (i + 1) row))) (sym lmore)
    (subst (λ (xs : List Val). AreLeft first second (ls ++ filter is_sent (here ∷ [])) xs) (sym rmore) (c.in_ok-push_both.ensures ls rs c.loop-arc.invariant))
