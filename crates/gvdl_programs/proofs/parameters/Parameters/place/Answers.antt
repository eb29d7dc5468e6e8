-- The table looks a name up by its bytes.
use Rattle.std.proofs.Common.{string_bytes}
use Rattle.gvdl_programs.proofs.ParameterFacts.{place_in}
use Rattle.gvdl_programs.proofs.parameters.Parameters.place.Goals as goal

pub returns : goal.returns
returns c =
    let found = place_in string_bytes c.args.name.now c.self.inside.table.entries in
    cc (c.get.ensures.value, found, c.self.view_is)
