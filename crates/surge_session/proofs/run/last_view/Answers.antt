-- The last view is the one at the last place.
use Rattle.std.proofs.Common.{◌∙◌, ◌-◌, List, Option, length, slice_get, ap}
use Rattle.graph_model.specs.declared.number.ViewNo.{ViewNo}
use Rattle.view_matrix.specs.Matrices.{place_of}
use Rattle.surge_session.proofs.Ordering.{last_place}
use Rattle.surge_session.proofs.run.last_view.Goals as goal

pub returns-clause-place : goal.returns-clause-place
returns-clause-place c =
    ap (λ (v : Option ViewNo). place_of v) (c.copied.ensures ∙ c.last.ensures.value ∙ ap (λ (vs : List ViewNo). slice_get vs (length vs - 1)) c.as_slice.ensures)
    ∙ last_place c.args.order.now
