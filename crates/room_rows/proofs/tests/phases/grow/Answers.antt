use Rattle.std.proofs.Common.{pos, refl}
use Rattle.room_rows.proofs.Growing.{grow-fits}
use Rattle.room_rows.proofs.tests.phases.grow.Goals as goal

pub returns : goal.returns
returns c = λ graph. grow-fits _ graph c.in_ok-start.start c.in_ok-rest.rest (pos 1) (pos 1) refl refl refl c.in_ok-start.ensures c.in_ok-rest.ensures
