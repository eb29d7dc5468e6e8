-- What was printed is what is expected.
use Rattle.std.proofs.Common.{map, string_bytes}
use Rattle.surge_cli.specs.declared.status.Status.TheVariants as status
use Rattle.surge_cli.specs.declared.words.CommandLine.{CommandLine}
use Rattle.surge_cli.specs.declared.words.CommandLine.TheVariants as line
use Rattle.surge_cli.specs.declared.job.Due.{Due}
use Rattle.surge_cli.specs.declared.job.Due.TheVariants as dues
use Rattle.surge_cli.specs.Headline.{AsksFor}
use Rattle.surge_cli.specs.Causes.{IsReplay}
use Rattle.surge_cli.specs.Stages.{IsReplayed}
use Rattle.surge_cli.specs.Words.{command_line}
use Rattle.surge_cli.specs.Expected.{told}
use Rattle.surge_cli.proofs.Endings.{named_words, prints, prints_front, lacks_memory}
use Rattle.surge_cli.proofs.running.run.Goals as goal

pub returns-in-Ok-do_due-clause-headline : goal.returns-in-Ok-do_due-clause-headline
returns-in-Ok-do_due-clause-headline g c = prints g.U.Updater.answer (told (g.F.NamedFiles.state c.args.files.now).held (map string_bytes c.args.words.now)) (map string_bytes c.args.words.now) c.in-Ok.due (g.O.Sink.written c.args.out.now) (g.O.Sink.written c.do_due.new.out) (g.U.Counted.calls c.args.updater.now) (g.U.Counted.calls c.do_due.new.updater) c.in-Ok.ensures.said c.in-Ok.ensures.asks c.in-Ok-do_due.ensures.ok c.in-Ok-do_due.ensures.calls

pub returns-in-Err-Failed-clause-headline : goal.returns-in-Err-Failed-clause-headline
returns-in-Err-Failed-clause-headline g c = prints_front g.U.Updater.answer (told (g.F.NamedFiles.state c.args.files.now).held (map string_bytes c.args.words.now)) (map string_bytes c.args.words.now) c.in-Ok.due (g.O.Sink.written c.args.out.now) (g.O.Sink.written c.do_due.new.out) (g.U.Counted.calls c.args.updater.now) (g.U.Counted.calls c.do_due.new.updater) c.in-Ok.ensures.said c.in-Ok.ensures.asks c.in-Err-Failed.ensures.err

pub returns-in-Ok-clause-headline : goal.returns-in-Ok-clause-headline
returns-in-Ok-clause-headline g c = lacks_memory g.U.Updater.answer (told (g.F.NamedFiles.state c.args.files.now).held (map string_bytes c.args.words.now)) (map string_bytes c.args.words.now) c.in-Ok.due (g.O.Sink.written c.args.out.now) (g.O.Sink.written c.do_due.new.out) (g.U.Counted.calls c.args.updater.now) (g.U.Counted.calls c.do_due.new.updater) c.in-Ok.ensures.said c.in-Ok.ensures.asks c.in-Err-NoMemory.ensures.err

pub returns-in-Ok-do_due-clause-words : goal.returns-in-Ok-do_due-clause-words
returns-in-Ok-do_due-clause-words g c = named_words (command_line (map string_bytes c.args.words.now)) c.in-Ok.due status.Done c.in-Ok.ensures.asks tt tt

pub returns-in-Err-Failed-clause-words : goal.returns-in-Err-Failed-clause-words
returns-in-Err-Failed-clause-words g c = named_words (command_line (map string_bytes c.args.words.now)) c.in-Ok.due status.WriteFault c.in-Ok.ensures.asks tt tt

pub returns-in-Ok-clause-words : goal.returns-in-Ok-clause-words
returns-in-Ok-clause-words g c = named_words (command_line (map string_bytes c.args.words.now)) c.in-Ok.due status.NoMemory c.in-Ok.ensures.asks tt tt

-- where a change text is replayed it is no job of a script that was done
replayed : (asked : CommandLine) (job : Due) → AsksFor asked job → IsReplay asked → IsReplayed job
replayed line.NotOfForm job named is = absurd is
replayed (line.Asked asked) job named is = absurd is
replayed (line.Replay name) (dues.Run job) named is = absurd named
replayed (line.Replay name) (dues.Replay blocks) named is = tt

pub returns-in-Ok-do_due-clause-uncalled : goal.returns-in-Ok-do_due-clause-uncalled
returns-in-Ok-do_due-clause-uncalled g c = λ is. c.do_due.ensures.uncalled (replayed (command_line (map string_bytes c.args.words.now)) c.in-Ok.due c.in-Ok.ensures.asks is)

pub returns-in-Err-Failed-clause-uncalled : goal.returns-in-Err-Failed-clause-uncalled
returns-in-Err-Failed-clause-uncalled g c = λ is. c.do_due.ensures.uncalled (replayed (command_line (map string_bytes c.args.words.now)) c.in-Ok.due c.in-Ok.ensures.asks is)

pub returns-in-Ok-clause-uncalled : goal.returns-in-Ok-clause-uncalled
returns-in-Ok-clause-uncalled g c = λ is. c.do_due.ensures.uncalled (replayed (command_line (map string_bytes c.args.words.now)) c.in-Ok.due c.in-Ok.ensures.asks is)
