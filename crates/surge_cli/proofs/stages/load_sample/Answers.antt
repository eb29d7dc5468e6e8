-- The graph of the sample is that of its two texts.
use Rattle.std.proofs.Common.{◌≡◌, ◌∙◌, ℕ, List, Result, subst}
use Rattle.graph_model.specs.GraphData.{GraphData}
use Rattle.graph_loader.specs.DataFiles.{graph_of}
use Rattle.sample_data.specs.Sample.{nodes_text, edges_text}
use Rattle.surge_cli.specs.declared.status.Status.{Status}
use Rattle.surge_cli.specs.Expected.{loaded}
use Rattle.surge_cli.specs.Stages.{IsSaid}
use Rattle.surge_cli.proofs.stages.load_sample.Goals as goal

both_texts : (a b nodes edges : List ℕ) (r : Result GraphData Status) → a ≡ nodes → b ≡ edges → IsSaid (loaded (graph_of a b)) r → IsSaid (loaded (graph_of nodes edges)) r
both_texts a b nodes edges r first second h = subst (λ (y : List ℕ). IsSaid (loaded (graph_of nodes y)) r) second (subst (λ (x : List ℕ). IsSaid (loaded (graph_of x b)) r) first h)

pub returns-in-Ok-edges-clause-said : goal.returns-in-Ok-edges-clause-said
returns-in-Ok-edges-clause-said c =
    both_texts c.as_slice.result.now c.as_slice-in-Ok-edges.result.now nodes_text (edges_text c.args.number) c.load_graph.result
    (c.as_slice.ensures.value ∙ c.in-Ok.ensures) (c.as_slice-in-Ok-edges.ensures.value ∙ c.in-Ok-edges.ensures) c.load_graph.ensures.said
