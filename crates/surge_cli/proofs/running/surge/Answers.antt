-- The line of a status changes it at most to want of memory.
use Rattle.std.proofs.Common.{map, string_bytes}
use Rattle.surge_cli.specs.Words.{command_line}
use Rattle.surge_cli.specs.Expected.{told}
use Rattle.surge_cli.specs.Reaches.{Reaches}
use Rattle.surge_cli.specs.Causes.{counts}
use Rattle.surge_cli.proofs.Endings.{reported_words, reported_means}
use Rattle.surge_cli.proofs.Reaching.{reported_causes}
use Rattle.surge_cli.proofs.Deciding.{reported_agrees}
use Rattle.surge_cli.proofs.Completing.{completes}
use Rattle.surge_cli.proofs.running.surge.Goals as goal

pub returns-clause-headline : goal.returns-clause-headline
returns-clause-headline g c = reported_means g.U.Updater.answer (told (g.F.NamedFiles.state c.args.files.now).held (map string_bytes c.args.words.now)) (map string_bytes c.args.words.now) c.run-status.result c.report.result (g.O.Sink.written c.args.out.now) (g.O.Sink.written c.run-status.new.out) (g.U.Counted.calls c.args.updater.now) (g.U.Counted.calls c.run-status.new.updater) c.report.ensures.same c.run-status.ensures.headline

pub returns-clause-exact : goal.returns-clause-exact
returns-clause-exact g c = reported_agrees g.U.Updater.answer (told (g.F.NamedFiles.state c.args.files.now).held (map string_bytes c.args.words.now)) (map string_bytes c.args.words.now) c.run-status.result c.report.result (g.O.Sink.written c.args.out.now) (g.O.Sink.written c.run-status.new.out) (g.U.Counted.calls c.args.updater.now) (g.U.Counted.calls c.run-status.new.updater) c.report.ensures.same c.run-status.ensures.headline

pub returns-clause-words : goal.returns-clause-words
returns-clause-words g c = reported_words (command_line (map string_bytes c.args.words.now)) c.run-status.result c.report.result c.report.ensures.same c.run-status.ensures.words

pub returns-clause-causes : goal.returns-clause-causes
returns-clause-causes g c =
    reported_causes (Reaches (g.F.NamedFiles.state c.args.files.now).held (map string_bytes c.args.words.now)) c.run-status.result c.report.result (counts (g.F.NamedFiles.state c.args.files.now) (g.O.Sink.faults c.args.out.now)) (counts (g.F.NamedFiles.state c.run-status.new.files) (g.O.Sink.faults c.run-status.new.out)) c.report.ensures.same c.run-status.ensures.causes

pub returns-clause-complete : goal.returns-clause-complete
returns-clause-complete g c =
    let words = map string_bytes c.args.words.now in
    let old = g.F.NamedFiles.state c.args.files.now in
    λ none. completes g.U.Updater.answer (Reaches old.held words) old.held words c.report.result (g.O.Sink.written c.args.out.now) (g.O.Sink.written c.run-status.new.out) (g.U.Counted.calls c.args.updater.now) (g.U.Counted.calls c.run-status.new.updater) (counts old (g.O.Sink.faults c.args.out.now)) (counts (g.F.NamedFiles.state c.run-status.new.files) (g.O.Sink.faults c.run-status.new.out)) none
    (returns-clause-causes g c) (returns-clause-headline g c)
