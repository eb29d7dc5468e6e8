-- The script was read from a text of at most 100,000 bytes, and all edges came with one file.
use Rattle.std.proofs.Common.{◌<◌, ◌^◌, length, arith, rules}
use Rattle.std.proofs.lemmas.Grind.{common_steps}
use Rattle.gvdl_check.specs.Written.{written_so}
use Rattle.session_rows.proofs.tests.planned.Goals as goal

pub check-requires-clause-written : goal.check-requires-clause-written
check-requires-clause-written c =
    let text = c.as_bytes.result.now in
    let short : length text < 2 ^ 31 = first_of (search rules, grind (arith, common_steps)) in
    written_so text c.in_ok-tree.tree short c.in_ok-tree.ensures.found
