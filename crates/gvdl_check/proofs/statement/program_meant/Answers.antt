-- A program that is found by its name fits the graph.
use Rattle.std.proofs.Common.{◌≡◌, Some}
use Rattle.gvdl_check.specs.Names.{program_named}
use Rattle.gvdl_check.proofs.statement.program_meant.Goals as goal

pub call-requires : goal.call-requires
call-requires c =
    let callable = c.in-Some.callable.now in
    let found : program_named c.args.names.now c.args.call.now.name ≡ Some callable = cc (c.in-Some.ensures, c.as_str.ensures) in
    record { fits = c.requires callable found }
