-- What the part before the loop and the loop stand for.
use Rattle.std.proofs.Common.{◌*◌, ◌∙◌, ap, sym}
use Rattle.loop_theory.specs.LoopLaws.{loop_rounds, none_outer}
use Rattle.loop_theory.specs.Loops.{pair_leq, pair_lub}
use Rattle.inner_theory.specs.InsideLaws.{loop-inside}
use Rattle.keyed_loop.proofs.Told.{body_lent, loop_told}
use Rattle.keyed_loop.proofs.inside.loop_inside.Goals as goal

pub returns-clause-kept : goal.returns-clause-kept
returns-clause-kept g c = λ prep kept rounds is. ap (λ k. k.1.0) is ∙ ap (λ b. g.B.Operator.kept b) (sym c.requires)

pub returns-clause-inside : goal.returns-clause-inside
returns-clause-inside g c = λ prep kept told_rounds is items respects round e inside run h.
    let body = c.args.flow.now.second.body in
    let rounds = c.args.flow.now.second.rounds in
    let first = c.args.flow.now.first.inner in
    let loop = h.0.second_run in
    loop_told g.T.Time.leq g.T.Time.lub _ g.K.Ord.cmp g.V.Ord.cmp _ _ _ run prep (g.P.Operator.apply first) items round (g.B.Operator.apply body) told_rounds rounds
    (sym (ap (λ k. k.0) is)) (sym (e ∙ ap (λ b. g.B.Operator.apply b) c.requires)) (sym (ap (λ k. k.1.1) is))
    (loop-inside g.T.Time.leq g.T.Time.lub g.met.T.Time.lattice _ g.K.Ord.cmp g.V.Ord.cmp (g.P.Operator.apply first) items (g.B.Operator.apply body) respects (g.met.B.Operator.respects body) rounds
    (g.P.Operator.seal first) (g.B.Operator.seal body) (g.P.Operator.due first) (g.B.Operator.due body) (g.B.Operator.charge body) (g.P.Operator.stands first) (g.B.Operator.stands body)
    (g.met.P.Operator.answers first)
    (body_lent (pair_leq g.T.Time.leq) (pair_lub g.T.Time.lub) _ g.K.Ord.cmp g.V.Ord.cmp items g.B.Operator.stands g.B.Operator.seal g.B.Operator.due g.B.Operator.charge c.args.body.now body c.requires inside)
    run h.0 h.1
    (λ t r low over below. loop_rounds g.T.Time.leq g.T.Time.lub (g.B.Operator.apply body) (g.met.B.Operator.respects body) (g.B.Operator.seal body) (g.B.Operator.due body) rounds loop.0.laps (run.before * rounds) h.0.second_base loop.0.each (g.met.B.Operator.answers body _ loop.0.stands) t r low loop.1 over (none_outer g.T.Time.leq t r (g.B.Operator.due body) below)))
