-- One more phase is quiet, or not.
use Rattle.std.proofs.Common.{◌≡◌, ◌∙◌, ◌+◌, ◌<◌, ℕ, true, List, length, sym, ap, arith, below_more}
use Rattle.std.proofs.lemmas.Bool.{MatchBool-at_false, MatchBool-at_true}
use Rattle.std.proofs.lemmas.List.FromFn.{length-map-range_with_len}
use Rattle.graph_model.specs.declared.value.Val.{Val}
use Rattle.vertex_lang.specs.Expressions.{start_of}
use Rattle.vertex_lang.specs.PhaseLaws.{phase-starts}
use Rattle.vertex_lang.specs.Phases.{phase_values, rounds_gone}
use Rattle.phase_runs.proofs.Phasing.{all-quiet, calls-more, moves-here, next-values, not-quiet, quiet-for-ever, quiet-here, repeats}
use Rattle.phase_runs.proofs.course.Course.run_over.Goals as goal

pub loop-phase-init : goal.loop-phase-init
loop-phase-init g c =
    let self = c.args.self.now in
    let begun = c.from_vec-values.ensures ∙ c.in_ok-from_slice.ensures.items in
    record {
      size = ap (λ (vs : List Val). length vs) (begun ∙ c.requires.course.starts) ∙ length-map-range_with_len (start_of self.program.now self.graph.now) 0 (length self.graph.now.ids);
      values = begun ∙ sym (phase-starts g.U.Updater.answer self.program.now self.graph.now self.starts.now c.args.arcs.now self.rounds);
      quiet = λ k low. absurd (omega (arith, low));
      calls = omega arith;
    }

pub loop-phase-preserved : goal.loop-phase-preserved
loop-phase-preserved g c =
    let self = c.args.self.now in
    let answer = g.U.Updater.answer in
    let k = c.loop-phase._phase in
    let yes : c.in_ok-next.field-0.quiet ≡ true = c.if-not-quiet.false in
    let so_far = c.loop-phase.invariant.values in
    record {
      size = c.in_ok-next.ensures.size;
      values = next-values answer self.program.now self.graph.now self.starts.now c.args.arcs.now self.rounds k c.as_slice.result.now c.loop-phase.values c.as_slice.ensures so_far c.in_ok-next.field-0.values c.in_ok-next.ensures.values;
      quiet = below_more _ _ c.loop-phase.invariant.quiet (quiet-here answer self.program.now self.graph.now self.starts.now c.args.arcs.now self.rounds k c.as_slice.result.now c.loop-phase.values c.as_slice.ensures so_far (MatchBool-at_true _ _ yes c.in_ok-next.ensures.quiet));
      calls = calls-more (length self.graph.now.ids) self.rounds k (rounds_gone answer self.program.now self.graph.now c.as_slice.result.now c.args.arcs.now self.rounds) _ _ _ c.in_ok-next.ensures.few_rounds c.loop-phase.invariant.calls c.in_ok-next.ensures.calls;
    }

pub returns-then-not-quiet-clause-reached : goal.returns-then-not-quiet-clause-reached
returns-then-not-quiet-clause-reached g c =
    let self = c.args.self.now in
    let answer = g.U.Updater.answer in
    let k = c.loop-phase._phase in
    let no = c.if-not-quiet.true in
    record {
      ends = not-quiet answer self.program.now self.graph.now self.starts.now c.args.arcs.now self.rounds self.phases c.requires.course.starts k (omega arith)
          (moves-here answer self.program.now self.graph.now self.starts.now c.args.arcs.now self.rounds k c.as_slice.result.now c.loop-phase.values c.as_slice.ensures c.loop-phase.invariant.values (MatchBool-at_false _ _ no c.in_ok-next.ensures.quiet));
      size = c.in_ok-next.ensures.size;
    }

pub returns-then-are_same-clause-reached : goal.returns-then-are_same-clause-reached
returns-then-are_same-clause-reached g c =
    let self = c.args.self.now in
    let answer = g.U.Updater.answer in
    let k = c.loop-phase._phase in
    let low : k < self.phases = omega arith in
    let so_far = c.loop-phase.invariant.values in
    let yes : c.in_ok-next.field-0.quiet ≡ true = c.if-not-quiet.false in
    let here = quiet-here answer self.program.now self.graph.now self.starts.now c.args.arcs.now self.rounds k c.as_slice.result.now c.loop-phase.values c.as_slice.ensures so_far (MatchBool-at_true _ _ yes c.in_ok-next.ensures.quiet) in
    let next = next-values answer self.program.now self.graph.now self.starts.now c.args.arcs.now self.rounds k c.as_slice.result.now c.loop-phase.values c.as_slice.ensures so_far c.in_ok-next.field-0.values c.in_ok-next.ensures.values in
    let same = sym c.as_slice-in-loop-phase.ensures ∙ c.are_same.ensures c.if-are_same.true ∙ c.as_slice-in-loop-phase-2.ensures in
    let again : phase_values answer self.program.now self.graph.now self.starts.now c.args.arcs.now self.rounds (k + 1) ≡ phase_values answer self.program.now self.graph.now self.starts.now c.args.arcs.now self.rounds k = sym next ∙ same ∙ so_far in
    record {
      ends = all-quiet answer self.program.now self.graph.now self.starts.now c.args.arcs.now self.rounds self.phases c.requires.course.starts c.loop-phase.values
          (quiet-for-ever answer self.program.now self.graph.now self.starts.now c.args.arcs.now self.rounds k self.phases c.loop-phase.invariant.quiet here again)
          (so_far ∙ sym (repeats answer self.program.now self.graph.now self.starts.now c.args.arcs.now self.rounds k self.phases again (omega arith)));
      size = c.loop-phase.invariant.size;
    }

pub returns-clause-reached : goal.returns-clause-reached
returns-clause-reached g c =
    let self = c.args.self.now in
    let answer = g.U.Updater.answer in
    let k = c.loop-phase._phase in
    let all : k ≡ self.phases = omega arith in
    record {
      ends = all-quiet answer self.program.now self.graph.now self.starts.now c.args.arcs.now self.rounds self.phases c.requires.course.starts c.loop-phase.values
          (λ j low. c.loop-phase.invariant.quiet j (omega (arith, low, all)))
          (c.loop-phase.invariant.values ∙ ap (λ (j : ℕ). phase_values answer self.program.now self.graph.now self.starts.now c.args.arcs.now self.rounds j) all);
      size = c.loop-phase.invariant.size;
    }
