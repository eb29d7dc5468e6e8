use Rattle.std.proofs.Common.{◌∙◌, refl, sym, arith}
use Rattle.lone_work.specs.StepLaws.{no-round}
use Rattle.round_kernel.specs.Frames.{new_arcs, old_arcs}
use Rattle.round_kernel.proofs.Logging.{log-none, quiet-before}
use Rattle.round_kernel.proofs.Ending.{IsEnd, end-quiet, end-all, run-history, run-last, run-work, run-new, run-old}
use Rattle.round_kernel.proofs.Untouched.{untouched-same}
use Rattle.round_kernel.proofs.step.run_rounds.Goals as goal
use Rattle.round_kernel.proofs.step.run_rounds.Goals.{then-loop-round-test+else-not-is_quiet, else-loop-round-test}

pub loop-round-init : goal.loop-round-init
loop-round-init g c = record {
  log = log-none g.U.Updater.answer c.args.frame c.in_ok-log.log c.in_ok-log.ensures.changes c.in_ok-log.ensures.marks c.in_ok-log.ensures.last;
  keeps = c.in_ok-log.ensures.keeps;
  state = record {
    at = c.in_ok-lists.ensures.at;
    idle = c.in_ok-lists.ensures.idle;
    kept_size = c.requires.kept;
    kept = λ later. absurd (omega (arith, later));
    lookups = c.in_ok-lookups.ensures.lookups;
    stirred = λ later. absurd (omega (arith, later));
  };
  within = omega arith;
  work = sym (no-round g.U.Updater.answer c.args.frame.program.now c.args.frame.graph.now (new_arcs c.args.frame) (old_arcs c.args.frame));
  few = omega arith;
  calls = omega arith;
}

pub loop-round-preserved : goal.loop-round-preserved
loop-round-preserved g c = record {
  log = c.in_ok-work.ensures.log;
  keeps = c.run_one.ensures.keeps ∙ c.loop-round.invariant.keeps;
  state = c.in_ok-work.ensures.state;
  within = omega arith;
  work = omega (arith, c.loop-round.invariant.work, c.in_ok-work.ensures.work);
  few = omega (arith, c.loop-round.invariant.few, c.in_ok-work.ensures.few);
  calls = omega (arith, c.loop-round.invariant.calls, c.in_ok-work.ensures.calls);
}

pub returns-clause-run : goal.returns-clause-run
returns-clause-run g c =
    let answer = g.U.Updater.answer in
    let f = c.args.frame in
    let r = c.loop-round.round in
    let log = c.loop-round.log in
    let u = c.loop-round.invariant in
    let end : IsEnd answer f r = elim c.loop-round-test.branch [
      | then-loop-round-test+else-not-is_quiet w ↦
          let later = w.is_quiet.ensures.first w.if-not-is_quiet.false in
          end-quiet answer f c.requires.frame r u.within later (w.is_quiet.ensures.old w.if-not-is_quiet.false) (quiet-before answer f r log u.log later (w.is_quiet.ensures.kept w.if-not-is_quiet.false) (w.is_quiet.ensures.passed w.if-not-is_quiet.false))
      | else-loop-round-test w ↦ end-all answer f c.requires.frame r (omega arith)
    ] in
    record {
      history = λ yes. run-history answer f c.requires.frame r u.within end log.history (u.log.kept (u.keeps ∙ yes)) _ c.trim.ensures.places refl (c.in_ok-clone.ensures.cases ∙ u.state.at.starts);
      last = run-last answer f c.requires.frame r u.within end log.last u.log.last;
      work_is = u.work ∙ run-work answer f c.requires.frame r u.within end;
      new_values = u.state.at.new_now.values_are ∙ run-new answer f c.requires.frame r u.within end;
      old_values = λ one. (u.state.at.old_now one).values_are ∙ run-old answer f c.requires.frame r u.within end one;
      plain = record { before = record { size = u.state.at.old_sized.degrees_size; small = u.state.at.old_sized.degrees_small }; after = record { size = u.state.at.new_now.sized.degrees_size; small = u.state.at.new_now.sized.degrees_small } };
      touched_size = u.state.at.touched_size;
      untouched = λ one v low off. untouched-same answer f r c.loop-round.state.lists u.state.at one v low off;
    }
