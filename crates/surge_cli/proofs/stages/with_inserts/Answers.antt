-- All edges came at once so far; then those of the files.
use Rattle.std.proofs.Common.{sym, subst}
use Rattle.std.specs.Prelude.{IfErr}
use Rattle.surge_cli.specs.declared.status.Status.{Status}
use Rattle.surge_cli.specs.Causes.{AsksOnly}
use Rattle.surge_cli.specs.Expected.{Grouped, grouped, inserts_of, with_files}
use Rattle.surge_cli.specs.Stages.{IsBehind, IsSaidOf, IsStage, RisesBefore, as_seen, names_of}
use Rattle.surge_cli.proofs.GoingOn.{same_files}
use Rattle.surge_cli.proofs.Saying.{no_memory_said}
use Rattle.surge_cli.proofs.ReadingOnce.{none_each}
use Rattle.surge_cli.proofs.stages.with_inserts.Goals as goal

pub returns-in-Ok-clause-said : goal.returns-in-Ok-clause-said
returns-in-Ok-clause-said g c =
    let held = (g.F.NamedFiles.state c.args.files.now).held in
    subst (λ (w : Grouped). IsSaidOf held (λ files. with_files files w (inserts_of c.args.script.now)) (as_seen c.add_files.result)) c.in-Ok.ensures.said c.add_files.ensures.said

pub returns-in-Ok-clause-causes : goal.returns-in-Ok-clause-causes
returns-in-Ok-clause-causes g c =
    let old = g.F.NamedFiles.state c.args.files.now in
    let new = g.F.NamedFiles.state c.add_files.new.files in
    subst (λ (w : Grouped). IfErr c.add_files.result (λ (s : Status). RisesBefore (IsBehind old.held w (inserts_of c.args.script.now)) s old new)) c.in-Ok.ensures.said c.add_files.ensures.causes

pub returns-in-Ok-clause-asked : goal.returns-in-Ok-clause-asked
returns-in-Ok-clause-asked g c =
    let old = g.F.NamedFiles.state c.args.files.now in
    let new = g.F.NamedFiles.state c.add_files.new.files in
    subst (λ (w : Grouped). AsksOnly (IsBehind old.held w (inserts_of c.args.script.now)) old.asked new.asked) c.in-Ok.ensures.said c.add_files.ensures.asked

pub returns-in-Err-clause-said : goal.returns-in-Err-clause-said
returns-in-Err-clause-said g c = no_memory_said {A = Grouped} (g.F.NamedFiles.state c.args.files.now).held (λ files. with_files files (grouped c.args.graph) (inserts_of c.args.script.now)) c.in-Err.status c.in-Err.ensures.memory

pub returns-in-Err-clause-stage : goal.returns-in-Err-clause-stage
returns-in-Err-clause-stage g c = subst IsStage (sym c.in-Err.ensures.memory) tt

pub returns-in-Err-clause-files : goal.returns-in-Err-clause-files
returns-in-Err-clause-files g c = same_files (g.F.NamedFiles.state c.args.files.now)

pub returns-in-Err-clause-causes : goal.returns-in-Err-clause-causes
returns-in-Err-clause-causes g c =
    let old = g.F.NamedFiles.state c.args.files.now in
    subst (λ (s : Status). RisesBefore (IsBehind old.held (grouped c.args.graph) (inserts_of c.args.script.now)) s old old) (sym c.in-Err.ensures.memory) tt

pub returns-in-Err-clause-once : goal.returns-in-Err-clause-once
returns-in-Err-clause-once g c = none_each (names_of (inserts_of c.args.script.now)) (g.F.NamedFiles.state c.args.files.now)
