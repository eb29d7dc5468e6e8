use Rattle.std.proofs.Common.{◌≡◌, ◌∙◌, ◌+◌, ap, sym, below_more, arith}
use Rattle.vertex_lang.specs.Phases.{rounds_from, next_with}
use Rattle.vertex_lang.specs.PhaseLaws.{from_starts, from_next}
use Rattle.vertex_lang.proofs.setting.Setting.run_within.Goals as goal

pub loop-round-init : goal.loop-round-init
loop-round-init g c = record {
  sizes = c.requires.sizes;
  values = c.requires.values ∙ sym (from_starts g.U.Updater.answer c.args.self.now.program.now c.args.self.now.graph.now c.args.self.now.starts.now c.args.self.now.arcs.now);
  changed = λ k low. absurd (omega arith);
  calls = omega arith;
}

pub returns-then-not-advance-clause-outcome : goal.returns-then-not-advance-clause-outcome
returns-then-not-advance-clause-outcome g c =
    let answer = g.U.Updater.answer in
    let p = c.args.self.now.program.now in
    let graph = c.args.self.now.graph.now in
    let starts = c.args.self.now.starts.now in
    let arcs = c.args.self.now.arcs.now in
    let r = c.loop-round.round in
    let later : c.advance.new.lists.values.items ≡ rounds_from answer p graph starts arcs (r + 1) = c.advance.ensures.values ∙ ap (next_with answer p graph starts arcs) c.loop-round.invariant.values ∙ sym (from_next answer p graph starts arcs r) in
    let unchanged : c.advance.new.lists.values.items ≡ rounds_from answer p graph starts arcs r = c.if-not-advance.ensures.changed ∙ c.loop-round.invariant.values in
    (record { within = omega (arith, c.loop-round-test.true); settled = sym later ∙ unchanged; first = c.loop-round.invariant.changed }, unchanged)

pub loop-round-preserved : goal.loop-round-preserved
loop-round-preserved g c =
    let answer = g.U.Updater.answer in
    let p = c.args.self.now.program.now in
    let graph = c.args.self.now.graph.now in
    let starts = c.args.self.now.starts.now in
    let arcs = c.args.self.now.arcs.now in
    let r = c.loop-round.round in
    let later : c.advance.new.lists.values.items ≡ rounds_from answer p graph starts arcs (r + 1) = c.advance.ensures.values ∙ ap (next_with answer p graph starts arcs) c.loop-round.invariant.values ∙ sym (from_next answer p graph starts arcs r) in
    record {
      sizes = c.advance.ensures.sizes;
      values = later;
      changed = below_more _ _ c.loop-round.invariant.changed (λ same. c.if-not-advance.ensures.changed (later ∙ same ∙ sym c.loop-round.invariant.values));
      calls = omega (arith, c.advance.ensures.calls, c.loop-round.invariant.calls);
    }
