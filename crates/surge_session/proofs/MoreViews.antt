-- An engine that follows edges, before and behind views that are added.
use Rattle.std.proofs.Common.{◌≡◌, ◌∙◌, ◌+◌, ◌-◌, ◌*◌, ◌++◌, ℕ, List, length, false, refl, sym, ap, arith, length-append}
use Rattle.graph_model.specs.declared.number.ViewNo.{ViewNo}
use Rattle.graph_model.specs.GraphData.{GraphData}
use Rattle.vertex_lang.specs.declared.lone.Rounds.{Rounds}
use Rattle.vertex_lang.specs.Expressions.{Answer}
use Rattle.vertex_lang.specs.Lone.{number_of}
use Rattle.gvdl_check.specs.declared.plan.RunPlan.{RunPlan}
use Rattle.view_matrix.specs.Matrices.{MatrixData}
use Rattle.view_order.specs.Greedy.{numbers}
use Rattle.view_versions.specs.declared.engine.VersionEngine.{VersionEngine}
use Rattle.view_versions.specs.Engines.{IsEngine, IsSameRun, Stands, most_works}
use Rattle.surge_session.specs.State.{HasFollowed}

-- the same run, when it has run more views
module _ (old now : VersionEngine) (runs : IsSameRun old now) where
  same_graph : now.graph.now ≡ old.graph.now
  same_graph = ap (λ r. r.now) runs.graph

  pub has_more : (answer : Answer) (run : RunPlan) (m : MatrixData) → HasFollowed answer old.graph.now run m (numbers old.order) old → IsEngine now → now.spent ≡ false → Stands answer m now
      → HasFollowed answer old.graph.now run m (numbers now.order) now
  has_more answer run m has engine fresh stands = record {
    engine = engine;
    fresh = fresh;
    stands = stands;
    order = refl;
    graph = same_graph;
    program = ap (λ r. r.now) runs.program ∙ has.program;
    rounds = runs.rounds ∙ has.rounds;
    unphased = has.unphased;
  }

  -- what so many views cost at most
  pub same_most : (views : List ViewNo) → now.order ≡ old.order ++ views → most_works old (length views) ≡ most_works now (length now.order - length old.order)
  same_most views order =
      let whole : length now.order ≡ length old.order + length views = ap (λ (vs : List ViewNo). length vs) order ∙ length-append old.order views in
      let count : length views ≡ length now.order - length old.order = omega (arith, whole) in
      let nodes : length old.graph.now.ids ≡ length now.graph.now.ids = ap (λ (x : GraphData). length x.ids) (sym same_graph) in
      let rounds : number_of old.rounds ≡ number_of now.rounds = ap (λ (x : Rounds). number_of x) (sym runs.rounds) in
      ap (λ (v : ℕ). v * (length old.graph.now.ids * number_of old.rounds)) count
      ∙ ap (λ (i : ℕ). (length now.order - length old.order) * (i * number_of old.rounds)) nodes
      ∙ ap (λ (r : ℕ). (length now.order - length old.order) * (length now.graph.now.ids * r)) rounds
