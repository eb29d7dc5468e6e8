-- A view is held where it has a place.
use Rattle.std.proofs.Common.{◌∙◌, ap, is_some}
use Rattle.result_tables.specs.Results.{ResultsData, held_on}
use Rattle.result_tables.proofs.Holding.{whether_found}
use Rattle.result_tables.proofs.results.Results.has.Goals as goal

pub returns : goal.returns
returns c =
    c.is_some.ensures ∙ whether_found c.self.inside.entries c.args.view c.place_of.result c.place_of.ensures
    ∙ ap (λ (m : ResultsData). is_some (held_on m c.args.view)) c.self.view_is
