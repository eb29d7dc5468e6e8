-- The runs for which the join stands after a step, and what is due then.
use Rattle.std.proofs.Common.{◌≡◌, ◌∙◌, ◌++◌, ap}
use Rattle.weighted.specs.Alike.{Alike-is}
use Rattle.trace_store.specs.Traces.{trace_cmp}
use Rattle.diff_join.specs.Joins.{pairs}
use Rattle.diff_join.specs.PairLaws.{turned_gives}
use Rattle.diff_join.specs.StepLaws.{products_of, join_continued, join_due}
use Rattle.diff_join.proofs.Outcomes.{IfOk-with_two, OnOk-with_two}
use Rattle.diff_join.proofs.join.Join.advance.Goals as goal

pub returns-clause-runs : goal.returns-clause-runs
returns-clause-runs g c =
    let gives = g.F.Pairing.gives c.args.self.now.pairing in
    let fresh : c.from_vec.result ≡ products_of g.T.Time.lub (pairs g.K.Ord.cmp gives) c.args.t c.in_ok-left.left c.insert.new.self.items ++ products_of g.T.Time.lub (pairs g.K.Ord.cmp (turned_gives g.K.Ord.cmp g.met.K.Ord.total g.met.K.Record.same gives)) c.args.t c.in_ok-left.right c.args.self.now.left.items = c.from_vec.ensures ∙ c.in_ok-push_all-2.ensures ∙ ap (λ v. v ++ products_of g.T.Time.lub (pairs g.K.Ord.cmp (turned_gives g.K.Ord.cmp g.met.K.Ord.total g.met.K.Record.same gives)) c.args.t c.in_ok-left.right c.args.self.now.left.items) (c.in_ok-push_all.ensures ∙ ap (λ v. v ++ products_of g.T.Time.lub (pairs g.K.Ord.cmp gives) c.args.t c.in_ok-left.left c.insert.new.self.items) c.new-products.ensures.items) in
    IfOk-with_two c.exchange.result _ _ _ _
    (λ made made_is rest times run h above. join_continued g.met.T.Time.lattice g.T.Ord.cmp g.met.T.Record.same g.K.Ord.cmp g.met.K.Ord.total g.met.K.Record.same gives c.args.self.now.sealed c.args.t c.args.self.now.left.items c.insert-2.new.self.items c.args.self.now.right.items c.insert.new.self.items c.args.self.now.kept c.from_vec.result c.exchange.new.self run c.args.delta.now made c.in_ok-left.left c.in_ok-left.right (trace_cmp g.K.Ord.cmp g.A.Ord.cmp g.T.Ord.cmp) (trace_cmp g.K.Ord.cmp g.B.Ord.cmp g.T.Ord.cmp) c.requires.seal (Alike-is c.in_ok-left.ensures.left) (Alike-is c.in_ok-left.ensures.right) (record { value = c.in_ok-insert-2.ensures.value; sums = c.in_ok-insert-2.ensures.sums }) (record { value = c.in_ok-insert.ensures.value; sums = c.in_ok-insert.ensures.sums }) fresh (record { made_is = made_is; rest = rest; times = times }) h above c.requires.due)
    c.exchange.ensures.made c.exchange.ensures.rest c.exchange.ensures.times

pub returns-clause-due : goal.returns-clause-due
returns-clause-due g c =
    let gives = g.F.Pairing.gives c.args.self.now.pairing in
    let fresh : c.from_vec.result ≡ products_of g.T.Time.lub (pairs g.K.Ord.cmp gives) c.args.t c.in_ok-left.left c.insert.new.self.items ++ products_of g.T.Time.lub (pairs g.K.Ord.cmp (turned_gives g.K.Ord.cmp g.met.K.Ord.total g.met.K.Record.same gives)) c.args.t c.in_ok-left.right c.args.self.now.left.items = c.from_vec.ensures ∙ c.in_ok-push_all-2.ensures ∙ ap (λ v. v ++ products_of g.T.Time.lub (pairs g.K.Ord.cmp (turned_gives g.K.Ord.cmp g.met.K.Ord.total g.met.K.Record.same gives)) c.args.t c.in_ok-left.right c.args.self.now.left.items) (c.in_ok-push_all.ensures ∙ ap (λ v. v ++ products_of g.T.Time.lub (pairs g.K.Ord.cmp gives) c.args.t c.in_ok-left.left c.insert.new.self.items) c.new-products.ensures.items) in
    OnOk-with_two c.exchange.result _ _ _ _
    (λ made made_is rest times. join_due g.met.T.Time.lattice g.T.Ord.cmp g.met.T.Record.same g.K.Ord.cmp g.met.K.Ord.total g.met.K.Record.same gives c.args.self.now.sealed c.args.t c.args.self.now.left.items c.insert-2.new.self.items c.args.self.now.right.items c.insert.new.self.items c.args.self.now.kept c.from_vec.result c.exchange.new.self c.requires.run.0 c.args.delta.now made c.in_ok-left.left c.in_ok-left.right (trace_cmp g.K.Ord.cmp g.A.Ord.cmp g.T.Ord.cmp) (trace_cmp g.K.Ord.cmp g.B.Ord.cmp g.T.Ord.cmp) c.requires.seal (Alike-is c.in_ok-left.ensures.left) (Alike-is c.in_ok-left.ensures.right) (record { value = c.in_ok-insert-2.ensures.value; sums = c.in_ok-insert-2.ensures.sums }) (record { value = c.in_ok-insert.ensures.value; sums = c.in_ok-insert.ensures.sums }) fresh (record { made_is = made_is; rest = rest; times = times }) c.requires.run.1)
    c.exchange.ensures.made c.exchange.ensures.rest c.exchange.ensures.times
