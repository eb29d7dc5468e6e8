-- The table looks a name up by its bytes.
use Rattle.std.proofs.Common.{string_bytes}
use Rattle.gvdl_check.proofs.NameFacts.{meaning_in}
use Rattle.gvdl_check.proofs.names.Names.meaning.Goals as goal

pub returns : goal.returns
returns c =
    let found = meaning_in string_bytes c.args.name.now c.self.inside.table.entries in
    cc (c.get.ensures.value, found, c.self.view_is)
