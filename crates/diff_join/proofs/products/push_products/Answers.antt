-- One more product, where there is one.
use Rattle.std.proofs.Common.{◌∙◌, ◌<◌, ◌++◌, length, ap, arith, refl}
use Rattle.diff_join.specs.Joins.{at_bound, unkeyed}
use Rattle.diff_join.proofs.Pushing.{pushed, pushed-append, pushed_item}
use Rattle.diff_join.proofs.Walks.{walk_onto, walked_onto}
use Rattle.diff_join.proofs.products.push_products.Goals as goal

pub loop-record-preserved : goal.loop-record-preserved
loop-record-preserved g c =
    let low : c.loop-record.record-index < length c.args.entries.now = omega arith in
    let f = at_bound g.T.Time.lub (unkeyed (g.F.Pairing.gives c.args.pairing.now)) c.args.t in
    walk_onto (pushed f c.args.difference.0 c.args.difference.1) (pushed-append f c.args.difference.0 c.args.difference.1) c.args.products.now.items c.loop-record.products.items _ c.args.entries.now c.loop-record.record-index c.loop-record-item.result low c.loop-record-item.is c.loop-record.invariant
    (c.in_ok-push_one.ensures ∙ ap (λ v. c.loop-record.products.items ++ v) (pushed_item g.T.Time.lub (unkeyed (g.F.Pairing.gives c.args.pairing.now)) c.args.t c.args.difference.0 c.args.difference.1 c.loop-record-item.result c.lub.result c.pair-output.result c.times.result c.lub.ensures c.pair-output.ensures c.times.ensures))

pub returns : goal.returns
returns g c = walked_onto (pushed (at_bound g.T.Time.lub (unkeyed (g.F.Pairing.gives c.args.pairing.now)) c.args.t) c.args.difference.0 c.args.difference.1) c.args.products.now.items c.loop-record.products.items c.args.entries.now c.args.entries.now c.loop-record.record-index c.loop-record.invariant (omega arith) refl
