-- The line, or a front of it.
use Rattle.std.proofs.Common.{◌≡◌, ◌∙◌, List, ℕ, subst, ap, Err}
use Rattle.surge_outside.specs.Written.{appended, GrewByFront}
use Rattle.surge_cli.proofs.Endings.{reported, reported_front}
use Rattle.surge_cli.proofs.running.write_line.Goals as goal

pub returns-in-Ok-clause-line : goal.returns-in-Ok-clause-line
returns-in-Ok-clause-line g c =
    let bytes = c.as_bytes.ensures.value ∙ c.requires.line in
    reported c.args.status (g.E.Sink.written c.args.err.now) (g.E.Sink.written c.put_all.new.sink) _ _ c.requires.ended
    (subst (λ (x : List ℕ). g.E.Sink.written c.put_all.new.sink ≡ appended (g.E.Sink.written c.args.err.now) x) bytes c.in-Ok.ensures.all)

pub returns-in-Err-Failed-clause-line : goal.returns-in-Err-Failed-clause-line
returns-in-Err-Failed-clause-line g c =
    let bytes = c.as_bytes.ensures.value ∙ c.requires.line in
    reported_front c.args.status (g.E.Sink.written c.args.err.now) (g.E.Sink.written c.put_all.new.sink) _ _ c.requires.ended (c.in-Err-Failed.ensures.failed (ap Err c.in-Err-Failed.field-0-is))
    (subst (λ (x : List ℕ). GrewByFront (g.E.Sink.written c.args.err.now) (g.E.Sink.written c.put_all.new.sink) x) bytes c.in-Err-Failed.ensures.front)
