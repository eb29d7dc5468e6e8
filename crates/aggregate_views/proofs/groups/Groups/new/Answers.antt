-- No edge is present yet.
use Rattle.std.proofs.Common.{◌≡◌, ◌∙◌, false, arith, replicate}
use Rattle.aggregate_views.specs.Coding.{IsKnown}
use Rattle.aggregate_views.proofs.Applied.{fed_none, none_known}
use Rattle.aggregate_views.proofs.groups.Groups.new.Goals as goal

pub invariant_of-result : goal.invariant_of-result
invariant_of-result c =
    let none : c.in_ok-present.present.items ≡ replicate c.edge_count.result false = c.in_ok-present.ensures.items_if_clones_equal (λ y h. h) in
    let size : c.len.result ≡ c.in_ok-codes.codes.keys.len = c.len.ensures in
    record {
      column = c.requires.column;
      sum = c.requires.sum;
      codes = c.in_ok-codes.ensures;
      groups = omega (arith, size, c.in_ok-codes.codes.keys.ok);
      edges = omega (arith, c.in_ok-present.ensures.len, c.in_ok-present.present.ok, c.edge_count.ensures.count);
      few = omega (arith, c.in_ok-present.ensures.len, c.in_ok-present.present.ok, c.edge_count.ensures.limit);
      known = none_known (IsKnown c.args.graph.now c.args.sum) c.in_ok-present.present.items c.edge_count.result none;
      fed = λ _. fed_none _ _ _ _ _ _ _ c.args.graph.now c.in_ok-codes.codes.places.items c.args.sum c.in_ok-present.present.items c.edge_count.result none c.new.ensures.fed;
      function = c.new.ensures.apply ∙ c.new-totals.ensures.apply;
    }
