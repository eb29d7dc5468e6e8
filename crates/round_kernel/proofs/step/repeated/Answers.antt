use Rattle.std.proofs.Common.{◌≡◌, ◌∙◌, ◌<◌, ◌≤◌, [], ℕ, Bool, Some, List, length, get_or, take, sym, ap, subst, refl, arith}
use Rattle.std.proofs.lemmas.List.{get_or-take, length-take}
use Rattle.graph_model.specs.declared.number.EdgeNo.{EdgeNo}
use Rattle.vertex_lang.specs.Lone.{number_of}
use Rattle.vertex_lang.specs.Rounds.{lone}
use Rattle.lone_work.specs.Work.{work}
use Rattle.lone_work.specs.WorkLaws.{equal-nothing}
use Rattle.change_lists.specs.declared.history.Change.{Change}
use Rattle.change_lists.specs.declared.history.History.{History}
use Rattle.change_lists.specs.ChangeLists.{changes_from}
use Rattle.arc_rows.specs.Views.{arcs_in, TellsAll}
use Rattle.round_kernel.specs.Histories.{IsHistory}
use Rattle.round_kernel.specs.Steps.{outcome_of}
use Rattle.round_kernel.proofs.Ending.{outcome-told}
use Rattle.round_kernel.proofs.Repeating.{none-turned, no-change, same-history}
use Rattle.round_kernel.proofs.step.repeated.Goals as goal

pub returns-clause-step : goal.returns-clause-step
returns-clause-step g c =
    let answer = g.U.Updater.answer in
    let plan = c.args.plan in
    let p = plan.program.now in
    let graph = plan.graph.now in
    let n = number_of plan.rounds in
    let behind = c.args.behind in
    let all = c.args.kernel.now.rows.by_head in
    let old = behind.old.now in
    let new = behind.new.now in
    let is = c.requires.behind in
    let same : old ≡ new = none-turned old new (is.old ∙ sym is.new) (subst (λ (es : List EdgeNo). TellsAll old new es) c.requires.none is.all_turned) in
    let shared = c.in_ok-history.history in
    let made : History = record { changes = c.trim.new.changes; marks = shared.marks; starts = shared.starts } in
    let limit : c.limit_of.result ≡ n = c.limit_of.ensures in
    let cut : c.truncate.new.self ≡ take c.limit_of.result shared.changes = c.truncate.ensures in
    let places : (k : ℕ) → k < n → get_or made.changes k [] ≡ get_or behind.history.now.changes k [] = λ k low.
    c.trim.ensures.places k ∙ ap (λ (xs : List (List Change)). get_or xs k []) cut ∙ get_or-take c.limit_of.result shared.changes k [] (omega (arith, low, limit))
    ∙ ap (λ (xs : List (List Change)). get_or xs k []) c.in_ok-history.ensures.changes in
    let few : length made.changes ≤ n = omega (arith, c.trim.ensures.few, ap (λ (xs : List (List Change)). length xs) cut, length-take c.limit_of.result shared.changes, limit) in
    let history : IsHistory answer p graph (Some (arcs_in all new)) n made = subst (λ (es : List Bool). IsHistory answer p graph (Some (arcs_in all es)) n made) same
    (same-history answer p graph (Some (arcs_in all old)) n behind.history.now made places c.in_ok-history.ensures.marks c.in_ok-history.ensures.starts is.history) in
    record {
      history = λ yes. history;
      step = record {
        outcome = c.outcome.ensures ∙ ap (λ (last : ℕ). outcome_of last plan.rounds) c.changing.ensures ∙ outcome-told answer p graph (arcs_in all new) made n history few c.trim.ensures.last plan.rounds refl c.requires.plan.some;
        change = c.new.ensures ∙ sym (no-change 0 (lone answer p graph (arcs_in all new) n)) ∙ ap (λ (es : List Bool). changes_from 0 (lone answer p graph (arcs_in all es) n) (lone answer p graph (arcs_in all new) n)) (sym same);
        work_is = sym (equal-nothing answer p graph (arcs_in all new) n) ∙ ap (λ (es : List Bool). work answer p graph (arcs_in all new) (Some (arcs_in all es)) n) (sym same);
      };
    }
