-- What is declared fits the graph.
use Rattle.std.proofs.Common.{rules, ◌≡◌, length, Ok}
use Rattle.gvdl_programs.specs.declared.template.ProgramTemplate.{ProgramTemplate}
use Rattle.gvdl_programs.specs.Programs.{declared}
use Rattle.gvdl_programs.specs.ProgramLaws.{declared_fits}
use Rattle.gvdl_programs.proofs.written.declare.Goals as goal

pub returns-clause-fits : goal.returns-clause-fits
returns-clause-fits c =
    let made : ProgramTemplate = record { parameters = length c.args.written.now.parameters.now; along = c.direction.result; start = c.in_ok-start.start; send = c.in_ok-send.send; gather = c.gathering.result; update = c.in_ok-update.update } in
    let told : declared c.args.graph.now c.args.written.now.parameters.now c.args.written.now.along c.args.written.now.start.now c.args.written.now.send.now c.args.written.now.gather c.args.written.now.update.now ≡ Ok made = search rules in
    declared_fits c.args.graph.now c.args.written.now.parameters.now c.args.written.now.along c.args.written.now.start.now c.args.written.now.send.now c.args.written.now.gather c.args.written.now.update.now made told
