-- A text that is fetched is read.
use Rattle.std.proofs.Common.{List, ℕ, Option, Result, Ok, Err, subst, sym, inl, inr}
use Rattle.std.specs.Prelude.{IfOk, IfErr}
use Rattle.gvdl_tree.specs.declared.script.Script.{Script}
use Rattle.surge_cli.specs.declared.status.Status.{Status}
use Rattle.surge_cli.specs.Expected.{Held}
use Rattle.surge_cli.specs.declared.status.FileRole.TheVariants as role
use Rattle.surge_cli.specs.Reaches.{IsFetched, IsTheScript, HasScript}
use Rattle.surge_cli.specs.Stages.{IsFile, StopsParse, StopsScript}
use Rattle.surge_cli.proofs.Endings.{inner_stages}
use Rattle.surge_cli.proofs.Reaching.{inner_counts}
use Rattle.surge_cli.proofs.stages.fetch_script.Goals as goal

read : (r : Result Script Status) (held : Option Held) (name text : List ℕ) → IsFetched held role.Script name text → IfOk r (IsTheScript text) → IfOk r (HasScript held name)
read (Ok script) held name text is h = record { text = text; is_text = is; the_script = h }
read (Err s) held name text is h = tt

refused : (r : Result Script Status) (held : Option Held) (name text : List ℕ) → IsFetched held role.Script name text → IfErr r (StopsParse text) → IfErr r (StopsScript held name)
refused (Ok script) held name text is h = tt
refused (Err s) held name text is h = inr (text, is, h)

pub returns-in-Ok-clause-ok : goal.returns-in-Ok-clause-ok
returns-in-Ok-clause-ok g c =
    let held = (g.F.NamedFiles.state c.args.files.now).held in
    read c.parse_script.result held c.args.name.now c.as_slice.result.now
    (subst (λ (text : List ℕ). IsFetched held role.Script c.args.name.now text) (sym c.as_slice.ensures) c.in-Ok.ensures.said) c.parse_script.ensures.ok

pub returns-in-Ok-clause-err : goal.returns-in-Ok-clause-err
returns-in-Ok-clause-err g c =
    let held = (g.F.NamedFiles.state c.args.files.now).held in
    refused c.parse_script.result held c.args.name.now c.as_slice.result.now
    (subst (λ (text : List ℕ). IsFetched held role.Script c.args.name.now text) (sym c.as_slice.ensures) c.in-Ok.ensures.said) c.parse_script.ensures.err

pub returns-in-Err-clause-err : goal.returns-in-Err-clause-err
returns-in-Err-clause-err g c = inl c.in-Err.ensures.said

pub returns-in-Ok-clause-stage : goal.returns-in-Ok-clause-stage
returns-in-Ok-clause-stage g c = inner_stages c.parse_script.result c.parse_script.ensures.inner

pub returns-in-Ok-clause-causes : goal.returns-in-Ok-clause-causes
returns-in-Ok-clause-causes g c = inner_counts (IsFile role.Script c.args.name.now) c.parse_script.result (g.F.NamedFiles.state c.args.files.now) (g.F.NamedFiles.state c.fetch.new.files) c.parse_script.ensures.inner
