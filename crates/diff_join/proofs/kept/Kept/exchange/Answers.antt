-- What goes out of new products and of those that waited, and what is kept of both.
use Rattle.std.proofs.Common.{◌≡◌, ◌∙◌, ◌++◌, ap}
use Rattle.std.proofs.lemmas.Map.Lookups.{exact_pairs}
use Rattle.weighted.specs.Alike.{Alike-is, Alike-trans}
use Rattle.weighted.specs.Normal.{normal, normal-Alike}
use Rattle.trace_store.specs.TraceLaws.{in_turn-total}
use Rattle.trace_store.specs.Traces.{in_turn}
use Rattle.diff_join.specs.Joins.{products_after, products_at}
use Rattle.diff_join.proofs.Keeping.{exchanged_made, exchanged_rest, exchanged_times}
use Rattle.diff_join.proofs.Outcomes.{IfOk-imply, OnOk-any}
use Rattle.diff_join.proofs.kept.Kept.exchange.Goals as goal

pub returns-clause-made : goal.returns-clause-made
returns-clause-made g c = IfOk-imply c.from_entries.result _ _ (λ made a. Alike-trans a (Alike-is (c.from_vec.ensures ∙ exchanged_made g.T.Ord.cmp c.args.t c.args.self.now c.args.products c.in_ok-made.made.items c.take_in_all.new.made.items c.in_ok-made.ensures.made (c.in_ok-take_in_all.ensures.made ∙ ap (λ v. c.in_ok-made.made.items ++ products_at g.T.Ord.cmp c.args.t v) c.as_slice.ensures)))) c.from_entries.ensures.alike

pub returns-clause-rest : goal.returns-clause-rest
returns-clause-rest g c =
    let cmp = in_turn g.T.Ord.cmp g.O.Ord.cmp in
    let is : c.take_in_all.new.self ≡ normal cmp (products_after g.T.Ord.cmp c.args.t (c.args.self.now ++ c.args.products)) = exchanged_rest g.T.Ord.cmp c.args.t cmp c.args.self.now c.args.products c.release.new.self c.take_in_all.new.self c.in_ok-made.ensures.rest (c.in_ok-take_in_all.ensures.rest ∙ ap (λ v. normal cmp (c.release.new.self ++ products_after g.T.Ord.cmp c.args.t v)) c.as_slice.ensures) in
    OnOk-any c.from_entries.result _ (Alike-trans (Alike-is is) (normal-Alike cmp (in_turn-total {acmp = g.T.Ord.cmp} {bcmp = g.O.Ord.cmp} g.met.T.Ord.total g.met.O.Ord.total) (exact_pairs g.T.Ord.cmp g.O.Ord.cmp g.met.T.Record.same g.met.O.Record.same) (products_after g.T.Ord.cmp c.args.t (c.args.self.now ++ c.args.products))))

pub returns-clause-times : goal.returns-clause-times
returns-clause-times g c =
    let cmp = in_turn g.T.Ord.cmp g.O.Ord.cmp in
    let is : c.take_in_all.new.self ≡ normal cmp (products_after g.T.Ord.cmp c.args.t (c.args.self.now ++ c.args.products)) = exchanged_rest g.T.Ord.cmp c.args.t cmp c.args.self.now c.args.products c.release.new.self c.take_in_all.new.self c.in_ok-made.ensures.rest (c.in_ok-take_in_all.ensures.rest ∙ ap (λ v. normal cmp (c.release.new.self ++ products_after g.T.Ord.cmp c.args.t v)) c.as_slice.ensures) in
    OnOk-any c.from_entries.result _ (exchanged_times g.T.Ord.cmp g.met.T.Ord.total c.args.t cmp c.args.self.now c.args.products c.take_in_all.new.self is)
