-- A product with the sum of both weights, and one that is taken out.
use Rattle.std.proofs.Common.{◌∙◌, ◌+◌, ◌%◌, ◌^◌, ap, sym, eqb-true}
use Rattle.std.proofs.lemmas.Bool.{eqb-false}
use Rattle.std.proofs.lemmas.Map.Lookups.{exact_pairs}
use Rattle.trace_store.specs.TraceLaws.{in_turn-total}
use Rattle.trace_store.specs.Traces.{in_turn}
use Rattle.diff_join.proofs.Weights.{set_weight, take_weight}
use Rattle.diff_join.proofs.kept.add_weight.Goals as goal

pub returns-then-is_zero-clause-sums : goal.returns-then-is_zero-clause-sums
returns-then-is_zero-clause-sums g c = take_weight (in_turn g.T.Ord.cmp g.O.Ord.cmp) (in_turn-total {acmp = g.T.Ord.cmp} {bcmp = g.O.Ord.cmp} g.met.T.Ord.total g.met.O.Ord.total) (exact_pairs g.T.Ord.cmp g.O.Ord.cmp g.met.T.Record.same g.met.O.Record.same) c.args.products.now.entries c.remove.new.self.entries c.args.product c.args.weight c.requires c.remove.ensures.entries c.remove.ensures.ordered (ap (λ n. (n + c.args.weight) % 2 ^ 64) (sym c.weight_of.ensures) ∙ sym c.add-sum.ensures ∙ eqb-true c.add-sum.result 0 (sym c.is_zero.ensures ∙ c.if-is_zero.true))

pub returns-clause-sums : goal.returns-clause-sums
returns-clause-sums g c = set_weight (in_turn g.T.Ord.cmp g.O.Ord.cmp) (in_turn-total {acmp = g.T.Ord.cmp} {bcmp = g.O.Ord.cmp} g.met.T.Ord.total g.met.O.Ord.total) (exact_pairs g.T.Ord.cmp g.O.Ord.cmp g.met.T.Record.same g.met.O.Record.same) c.args.products.now.entries c.insert.new.self.entries c.args.product c.args.weight c.requires c.add-sum.result c.in_ok-insert.ensures.entries c.in_ok-insert.ensures.ordered (eqb-false c.add-sum.result 0 (sym c.is_zero.ensures ∙ c.if-is_zero.false)) (c.add-sum.ensures ∙ ap (λ n. (n + c.args.weight) % 2 ^ 64) c.weight_of.ensures)
