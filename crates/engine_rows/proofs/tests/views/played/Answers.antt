-- The views in two parts.
use Rattle.std.proofs.Common.{◌≡◌, ◌∙◌, ◌++◌, ◌-◌, sym, ap, subst, All, List, length, take, drop, arith, length-append}
use Rattle.graph_model.specs.declared.number.ViewNo.{ViewNo}
use Rattle.graph_model.specs.GraphData.{AreDistinct}
use Rattle.view_matrix.specs.Matrices.{IsView}
use Rattle.engine_rows.proofs.Lists.{parted, all_front, get_front}
use Rattle.engine_rows.proofs.tests.views.played.Goals as goal

pub played_on-requires : goal.played_on-requires
played_on-requires g c =
    let all = c.as_slice-all.result.now in
    let n = c.args.count in
    let same : c.as_slice-all.result.now ≡ c.in_ok-views.views = c.as_slice-all.ensures in
    let whole : take n all ++ take (length all - n) (drop n all) ≡ all = parted n all in
    let within : All (IsView c.args.matrix.now) all = subst (All (IsView c.args.matrix.now)) (sym same) c.in_ok-views.ensures.within in
    let distinct : AreDistinct all = subst AreDistinct (sym same) c.in_ok-views.ensures.distinct in
    record {
      matrix = c.requires.matrix;
      views = subst (All (IsView c.args.matrix.now)) (sym whole) within;
      distinct = subst AreDistinct (sym whole) distinct;
      first = all_front (IsView c.args.matrix.now) n all within;
      apart = λ i j x here there. distinct i j x (get_front n all i x here) (get_front n all j x there);
      few = omega (arith, length-append (take n all) (take (length all - n) (drop n all)), ap length whole, ap length same, c.in_ok-views.ensures.few);
      split = c.requires.split;
    }
