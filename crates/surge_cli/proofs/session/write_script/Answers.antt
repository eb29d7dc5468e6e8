-- What is written is the canonical text.
use Rattle.std.proofs.Common.{◌≡◌, ◌∙◌, List, ℕ, subst}
use Rattle.std.specs.Prelude.{OnOk, OnErr}
use Rattle.surge_outside.specs.Written.{appended, GrewByFront}
use Rattle.gvdl_printer.specs.Canonical.{canonical}
use Rattle.surge_cli.proofs.session.write_script.Goals as goal

pub returns-in-Ok-clause-ok : goal.returns-in-Ok-clause-ok
returns-in-Ok-clause-ok g c =
    let text : c.as_slice.result.now ≡ canonical c.args.script.now = c.as_slice.ensures ∙ c.in-Ok.ensures.text in
    subst (λ (bytes : List ℕ). OnOk c.put_all.result (g.O.Sink.written c.put_all.new.sink ≡ appended (g.O.Sink.written c.args.out.now) bytes)) text c.put_all.ensures.all

pub returns-in-Ok-clause-err : goal.returns-in-Ok-clause-err
returns-in-Ok-clause-err g c =
    let text : c.as_slice.result.now ≡ canonical c.args.script.now = c.as_slice.ensures ∙ c.in-Ok.ensures.text in
    subst (λ (bytes : List ℕ). OnErr c.put_all.result (GrewByFront (g.O.Sink.written c.args.out.now) (g.O.Sink.written c.put_all.new.sink) bytes)) text c.put_all.ensures.front
