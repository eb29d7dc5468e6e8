-- The file is read, and then its edges are put behind the graph.
use Rattle.std.proofs.Common.{List, ℕ, subst}
use Rattle.surge_cli.specs.declared.status.FileRole.TheVariants as role
use Rattle.surge_cli.specs.Expected.{fetched, with_bytes}
use Rattle.surge_cli.specs.Stages.{IsFile, IsSaid, seen, result_of}
use Rattle.surge_cli.proofs.Endings.{inner_stages}
use Rattle.surge_cli.proofs.Reaching.{inner_counts}
use Rattle.surge_cli.proofs.Saying.{goes_on, stops, here}
use Rattle.surge_cli.proofs.stages.add_file.Goals as goal

pub returns-in-Ok-clause-said : goal.returns-in-Ok-clause-said
returns-in-Ok-clause-said g c =
    let held = (g.F.NamedFiles.state c.args.files.now).held in
    let n = c.args.statement in
    let w = seen c.args.loaded.now in
    let r = result_of c.add_bytes.result (seen c.add_bytes.new.loaded) in
    goes_on held (λ files. fetched files (role.Insert n) c.args.name.now) (λ files bytes. with_bytes w n bytes) c.in-Ok.bytes r c.in-Ok.ensures.said
    (here held (with_bytes w n c.in-Ok.bytes) r (subst (λ (bytes : List ℕ). IsSaid (with_bytes w n bytes) r) c.as_slice.ensures c.add_bytes.ensures.said))

pub returns-in-Err-clause-said : goal.returns-in-Err-clause-said
returns-in-Err-clause-said g c =
    let held = (g.F.NamedFiles.state c.args.files.now).held in
    let n = c.args.statement in
    stops held (λ files. fetched files (role.Insert n) c.args.name.now) (λ files bytes. with_bytes (seen c.args.loaded.now) n bytes) c.in-Err.status c.in-Err.ensures.said

pub returns-in-Ok-clause-stage : goal.returns-in-Ok-clause-stage
returns-in-Ok-clause-stage g c = inner_stages c.add_bytes.result c.add_bytes.ensures.inner

pub returns-in-Ok-clause-causes : goal.returns-in-Ok-clause-causes
returns-in-Ok-clause-causes g c =
    inner_counts (IsFile (role.Insert c.args.statement) c.args.name.now) c.add_bytes.result (g.F.NamedFiles.state c.args.files.now) (g.F.NamedFiles.state c.fetch.new.files) c.add_bytes.ensures.inner
