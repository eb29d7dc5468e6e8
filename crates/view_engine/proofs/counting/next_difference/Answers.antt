-- The distance of the matrix is the difference.
use Rattle.view_order.specs.Greedy.{numbers}
use Rattle.view_segment.specs.Segments.{last_of}
use Rattle.view_engine.proofs.Deciding.{its_difference}
use Rattle.view_engine.proofs.counting.next_difference.Goals as goal

pub returns-clause-value : goal.returns-clause-value
returns-clause-value c = λ task same.
    its_difference task c.args.matrix.now c.last_view.result (last_of (numbers c.args.views.now)) c.args.view.0 c.distance.result same c.last_view.ensures.value c.distance.ensures.lists
