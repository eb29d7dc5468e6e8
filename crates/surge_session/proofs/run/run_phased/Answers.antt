-- Each view has its answer in phases.
use Rattle.std.proofs.Common.{◌≡◌, ◌∙◌, ◌+◌, ◌*◌, ◌≤◌, ℕ, List, Option, None, Some, length, All, sym, ap, subst, arith}
use Rattle.graph_model.specs.declared.number.ViewNo.{ViewNo}
use Rattle.vertex_lang.specs.Lone.{number_of}
use Rattle.phase_runs.specs.Answers.{HoldsAnswer, held_views, own_runs}
use Rattle.surge_session.specs.Works.{number_for}
use Rattle.surge_session.proofs.Texts.{few_phases}
use Rattle.surge_session.proofs.run.run_phased.Goals as goal

pub phased-requires-clause-begun : goal.phased-requires-clause-begun
phased-requires-clause-begun g c = (few_phases c.args.run.now.phases c.args.phases c.requires.phases c.requires.run.phases).0

pub phased-requires-clause-few : goal.phased-requires-clause-few
phased-requires-clause-few g c = (few_phases c.args.run.now.phases c.args.phases c.requires.phases c.requires.run.phases).1

pub returns-clause-has : goal.returns-clause-has
returns-clause-has g c =
    let run = c.args.run.now in
    let graph = c.args.graph.now in
    let m = c.args.matrix.now in
    let results = c.in_ok-results.results in
    let n : c.number_of-rounds.result ≡ number_of run.rounds = c.number_of-rounds.ensures in (
      c.args.phases,
      record {
        phases = c.requires.phases;
        all = subst (λ (k : ℕ). All (HoldsAnswer g.U.Updater.answer run.program graph m k c.args.phases results) (held_views results)) n
            (subst (λ (vs : List ViewNo). All (HoldsAnswer g.U.Updater.answer run.program graph m c.number_of-rounds.result c.args.phases results) vs) (sym c.in_ok-results.ensures.views) c.in_ok-results.ensures.tables);
      },
    )

pub returns-clause-calls : goal.returns-clause-calls
returns-clause-calls g c =
    let run = c.args.run.now in
    let ids = length c.args.graph.now.ids in
    let m = c.args.matrix.now in
    let phases : c.args.phases ≡ number_for (λ (k : ℕ). k) run.phases = sym (ap (number_for (λ (k : ℕ). k)) c.requires.phases) in
    let same : ids * (c.number_of-rounds.result * c.args.phases) * own_runs m None c.args.order.now ≡ ids * (number_of run.rounds * number_for (λ (k : ℕ). k) run.phases) * own_runs m None (held_views c.in_ok-results.results) =
    ap (λ (k : ℕ). ids * (k * c.args.phases) * own_runs m None c.args.order.now) c.number_of-rounds.ensures
    ∙ ap (λ (k : ℕ). ids * (number_of run.rounds * k) * own_runs m None c.args.order.now) phases
    ∙ ap (λ (vs : List ViewNo). ids * (number_of run.rounds * number_for (λ (k : ℕ). k) run.phases) * own_runs m None vs) (sym c.in_ok-results.ensures.views) in
    subst (λ (k : ℕ). g.U.Counted.calls c.phased.new.updater ≤ g.U.Counted.calls c.args.updater.now + k) same c.phased.ensures.calls
