-- A new engine stands.
use Rattle.std.proofs.Common.{refl, sym, ap, ◌∙◌, subst, All, length, arith, None, true, false}
use Rattle.view_matrix.specs.Matrices.{IsView}
use Rattle.graph_model.specs.GraphData.{AreDistinct}
use Rattle.view_engine.specs.declared.engine.Engine.{Engine}
use Rattle.view_engine.proofs.Beginning.{IsFirst, first_engine, first_so_far, first_ready, first_stepped, first_works, by_now}
use Rattle.view_engine.proofs.Moving.{stands_of}
use Rattle.view_engine.proofs.engine.Engine.new.Goals as goal

pub fill-requires : goal.fill-requires
fill-requires c = record {
  engine = first_engine _
      (record { segments = c.new.ensures.items; held = c.new-2.ensures.held; nodes = c.new-2.ensures.nodes ∙ c.node_count.ensures.count; kernel = refl; assigned = refl; later = refl })
      c.requires.checked c.requires.some c.requires.limit (omega (arith, c.node_count.ensures.count, c.node_count.ensures.limit)) c.requires.split
      (omega (arith, ap length c.in_ok-copied.ensures, c.requires.few));
  views = subst (All (IsView c.args.matrix.now)) (sym c.in_ok-copied.ensures) c.requires.views;
}

pub returns : goal.returns
returns c =
    let more = c.in_ok-fill.ensures.more in
    let n = c.fill.new.self in
    let e : Engine = record {
      alloc = c.args.alloc;
      graph = c.args.graph;
      program = c.args.program;
      rounds = c.args.rounds;
      split = c.args.split;
      order = c.in_ok-copied.field-0;
      segments = c.new.result;
      results = c.new-2.result;
      kernel = None;
      assigned = 0;
      later = 0;
      grows = true;
      spent = false;
    } in
    let first : IsFirst e = record {
      segments = c.new.ensures.items;
      held = c.new-2.ensures.held;
      nodes = c.new-2.ensures.nodes ∙ c.node_count.ensures.count;
      kernel = refl;
      assigned = refl;
      later = refl;
    } in
    record {
      engine = c.in_ok-fill.ensures.engine;
      stands = λ answer.
          stands_of answer c.args.matrix.now n c.in_ok-fill.ensures.engine
          (by_now e n more c.in_ok-fill.ensures.engine (sym (first_stepped e first)))
          (c.in_ok-fill.ensures.stands answer (first_ready e first c.args.split)
          (first_so_far e first answer c.args.matrix.now c.requires.matrix
          (subst (All (IsView c.args.matrix.now)) (sym c.in_ok-copied.ensures) c.requires.views)
          (subst AreDistinct (sym c.in_ok-copied.ensures) c.requires.distinct)));
      graph = let h = more.run.graph in cc;
      program = let h = more.run.program in cc;
      rounds = more.run.rounds;
      split = more.run.split;
      order = more.order ∙ c.in_ok-copied.ensures;
      works = λ k. more.works k ∙ first_works e first k;
      grows = more.run.grows;
      fresh = more.spent;
    }
