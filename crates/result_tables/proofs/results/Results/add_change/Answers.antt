-- With one more answer.
use Rattle.std.proofs.Common.{◌∙◌, ap}
use Rattle.result_tables.specs.Results.{ResultsData, values_after, with_answer}
use Rattle.result_tables.specs.ResultsInside.{data_of}
use Rattle.result_tables.proofs.Holding.{added, more_entries}
use Rattle.result_tables.proofs.results.Results.add_change.Goals as goal

pub invariant_of-self-2 : goal.invariant_of-self-2
invariant_of-self-2 c =
    let es = c.self.inside.entries in
    more_entries es (record { view = c.args.view; outcome = c.args.outcome; kept = c.in_ok-kept.kept }) (values_after (data_of es) c.args.before c.args.change.now) c.push.new.self
    c.self.invariant c.in_ok-kept.ensures c.in_ok-push.ensures.items

pub returns-clause-ok : goal.returns-clause-ok
returns-clause-ok c =
    let es = c.self.inside.entries in
    added es (record { view = c.args.view; outcome = c.args.outcome; kept = c.in_ok-kept.kept }) c.args.before c.args.change.now c.push.new.self.items c.in_ok-kept.ensures c.in_ok-push.ensures.items
    ∙ ap (λ (m : ResultsData). with_answer m c.args.view c.args.before c.args.outcome c.args.change.now) c.self.view_is
