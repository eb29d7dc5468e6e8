-- One layer is left, of what was read at later times.
use Rattle.std.proofs.Common.{◌≡◌, ◌∙◌, ◌≤◌, [], length, ap, sym, subst, arith}
use Rattle.weighted.specs.Alike.{Alike}
use Rattle.weighted.specs.Batches.{joined}
use Rattle.weighted.specs.Normal.{normal}
use Rattle.weighted.specs.WordLaws.{mapped}
use Rattle.trace_store.specs.Layers.{AreHalving}
use Rattle.trace_store.specs.Stored.{Stored}
use Rattle.trace_store.specs.Traces.{later, trace_cmp}
use Rattle.trace_store.specs.TraceLaws.{trace_same, trace_total}
use Rattle.trace_store.proofs.Changes.{normal_alike, normal_is, sealed_alike, sealed_length, sealed_sums}
use Rattle.trace_store.proofs.Joined.{halving-with, joined-with, with_few}
use Rattle.trace_store.proofs.trace.Trace.seal.Goals as goal

pub invariant_of-self-2 : goal.invariant_of-self-2
invariant_of-self-2 g c =
    let one = c.in_ok-one.one in
    let is : joined c.put_layer.new.layers.items ≡ one = ap joined c.in_ok-put_layer.ensures.ok ∙ joined-with [] one in
    (c.len-entries.ensures.value ∙ ap length (sym is), subst (λ v. AreHalving v) (sym c.in_ok-put_layer.ensures.ok) (halving-with [] one (λ d low. absurd (omega arith)) tt))

pub returns-clause-value : goal.returns-clause-value
returns-clause-value g c =
    let cmp = trace_cmp g.K.Ord.cmp g.V.Ord.cmp g.T.Ord.cmp in let ls = c.self.inside.layers.items in let one = c.in_ok-one.one in let f = later g.T.Time.lub c.args.f in
    let order = trace_total g.met.K.Ord.total g.met.V.Ord.total g.met.T.Ord.total in let same = trace_same g.met.K.Record.same g.met.V.Record.same g.met.T.Record.same in
    let is : joined c.put_layer.new.layers.items ≡ one = ap joined c.in_ok-put_layer.ensures.ok ∙ joined-with [] one in
    let made : one ≡ normal cmp (mapped f (joined ls)) = c.in_ok-one.ensures ∙ ap (λ v. normal cmp (mapped f (joined v))) c.as_slice.ensures.value in
    let was : normal cmp (joined ls) ≡ c.args.self.now.items = ap (λ (v : Stored ((g.row.K.Denot × g.row.V.Denot) × g.row.T.Denot)). v.items) c.self.view_is in
    normal_is cmp order same (joined c.put_layer.new.layers.items) (mapped f c.args.self.now.items) (sealed_alike cmp order same f ls c.put_layer.new.layers.items one c.args.self.now.items is made was)

pub returns-clause-alike : goal.returns-clause-alike
returns-clause-alike g c =
    let cmp = trace_cmp g.K.Ord.cmp g.V.Ord.cmp g.T.Ord.cmp in let ls = c.self.inside.layers.items in let one = c.in_ok-one.one in let f = later g.T.Time.lub c.args.f in
    let order = trace_total g.met.K.Ord.total g.met.V.Ord.total g.met.T.Ord.total in let same = trace_same g.met.K.Record.same g.met.V.Record.same g.met.T.Record.same in
    let is : joined c.put_layer.new.layers.items ≡ one = ap joined c.in_ok-put_layer.ensures.ok ∙ joined-with [] one in
    let made : one ≡ normal cmp (mapped f (joined ls)) = c.in_ok-one.ensures ∙ ap (λ v. normal cmp (mapped f (joined v))) c.as_slice.ensures.value in
    let was : normal cmp (joined ls) ≡ c.args.self.now.items = ap (λ (v : Stored ((g.row.K.Denot × g.row.V.Denot) × g.row.T.Denot)). v.items) c.self.view_is in
    normal_alike cmp order same (joined c.put_layer.new.layers.items) (mapped f c.args.self.now.items) (sealed_alike cmp order same f ls c.put_layer.new.layers.items one c.args.self.now.items is made was)

pub returns-clause-sums : goal.returns-clause-sums
returns-clause-sums g c =
    let cmp = trace_cmp g.K.Ord.cmp g.V.Ord.cmp g.T.Ord.cmp in let ls = c.self.inside.layers.items in let one = c.in_ok-one.one in let f = later g.T.Time.lub c.args.f in
    let order = trace_total g.met.K.Ord.total g.met.V.Ord.total g.met.T.Ord.total in let same = trace_same g.met.K.Record.same g.met.V.Record.same g.met.T.Record.same in
    let is : joined c.put_layer.new.layers.items ≡ one = ap joined c.in_ok-put_layer.ensures.ok ∙ joined-with [] one in
    let made : one ≡ normal cmp (mapped f (joined ls)) = c.in_ok-one.ensures ∙ ap (λ v. normal cmp (mapped f (joined v))) c.as_slice.ensures.value in
    let was : normal cmp (joined ls) ≡ c.args.self.now.items = ap (λ (v : Stored ((g.row.K.Denot × g.row.V.Denot) × g.row.T.Denot)). v.items) c.self.view_is in
    sealed_sums g.met.T.Time.lattice c.args.f c.args.self.now.items (normal cmp (joined c.put_layer.new.layers.items)) (normal_alike cmp order same (joined c.put_layer.new.layers.items) (mapped f c.args.self.now.items) (sealed_alike cmp order same f ls c.put_layer.new.layers.items one c.args.self.now.items is made was))

pub returns-clause-entries : goal.returns-clause-entries
returns-clause-entries g c =
    let cmp = trace_cmp g.K.Ord.cmp g.V.Ord.cmp g.T.Ord.cmp in let ls = c.self.inside.layers.items in let one = c.in_ok-one.one in let f = later g.T.Time.lub c.args.f in
    let order = trace_total g.met.K.Ord.total g.met.V.Ord.total g.met.T.Ord.total in let same = trace_same g.met.K.Record.same g.met.V.Record.same g.met.T.Record.same in
    let is : joined c.put_layer.new.layers.items ≡ one = ap joined c.in_ok-put_layer.ensures.ok ∙ joined-with [] one in
    let made : one ≡ normal cmp (mapped f (joined ls)) = c.in_ok-one.ensures ∙ ap (λ v. normal cmp (mapped f (joined v))) c.as_slice.ensures.value in
    c.len-entries.ensures.value ∙ sealed_length cmp order same c.put_layer.new.layers.items one (mapped f (joined ls)) is made

pub returns-clause-layers : goal.returns-clause-layers
returns-clause-layers g c = subst (λ v. length v ≤ 1) (sym c.in_ok-put_layer.ensures.ok) (with_few [] c.in_ok-one.one)
