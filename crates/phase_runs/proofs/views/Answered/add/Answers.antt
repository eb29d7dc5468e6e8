-- The new answer stands beside the others.
use Rattle.std.proofs.Common.{◌∙◌, All, sym, ap, subst}
use Rattle.result_tables.specs.Results.{ResultsData}
use Rattle.phase_runs.specs.Courses.{IsLast, IsRight}
use Rattle.phase_runs.proofs.Joining.{last-more, right-more}
use Rattle.phase_runs.proofs.views.Answered.add.Goals as goal

pub returns-clause-stands : goal.returns-clause-stands
returns-clause-stands g c =
    let answer = g.U.Updater.answer in
    let course = c.args.course.now in
    let old = c.args.self.now.results in
    let reached = c.in_ok-reached.reached in
    let held = c.in_ok-reached.ensures.held in
    let is = c.in_ok-reached.ensures.reached in
    record {
      nodes = ap (λ (m : ResultsData). m.nodes) held ∙ c.requires.stands.nodes;
      right = subst (λ (m : ResultsData). All (IsRight answer course) m.held) (sym held) (right-more answer course old c.args.view reached c.requires.stands.right is);
      last = subst (λ (m : ResultsData). IsLast answer course m (record { view = c.args.view; reached = reached })) (sym held) (last-more answer course old c.args.view reached c.requires.view c.requires.new is);
    }
