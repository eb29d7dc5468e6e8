use Rattle.std.proofs.Common.{◌∙◌, Bool, not, if◌then◌else◌, sym, ap}
use Rattle.view_matrix.specs.Columns.{is_set}
use Rattle.view_matrix.proofs.Words.{set_not}
use Rattle.view_matrix.proofs.bounds.Bounds.admitted.Goals as goal

pub returns-else-self : goal.returns-else-self
returns-else-self c = λ i lt.
    set_not c.args.enclosed i c.ranges.enclosed.fits lt ∙ ap (λ (b : Bool). if b then is_set c.args.enclosed i else not (is_set c.args.enclosed i)) (sym c.if-self.false)
