-- Views of an order get their segments, as far as the split tells them.
use Rattle.std.proofs.Common.{◌≡◌, ◌≢◌, ℕ, ◌+◌, refl, ◌∙◌, arith}
use Rattle.segment_split.specs.declared.SplitRule.{SplitRule}
use Rattle.segment_split.specs.declared.SplitRule.TheVariants as split
use Rattle.view_engine.specs.declared.engine.Engine.{Engine}
use Rattle.view_engine.specs.Engines.{IsSameRun}
use Rattle.view_engine.specs.Assigning.{AreReadyFor, IsAssigned}

pub ready_other : (rule : SplitRule) (e : Engine) → rule ≢ split.Auto → AreReadyFor rule e
ready_other split.Auto e other = absurd (other refl)
ready_other split.Whole e other = tt
ready_other (split.Every n) e other = tt

pub same_run : (e : Engine) → IsSameRun e e
same_run e = record { graph = refl; program = refl; rounds = refl; split = refl; grows = refl }

pub none_assigned : (e : Engine) (n : ℕ) → n ≡ 0 → IsAssigned n e e
none_assigned e n none = record { run = same_run e; order = refl; assigned = omega (arith, none); works = λ k. refl; stepped = refl; results = refl; spent = refl }

pub assigned_then : (a b c : Engine) (n k : ℕ) → IsAssigned n a b → IsAssigned 1 b c → k ≡ n + 1 → IsAssigned k a c
assigned_then a b c n k first next sum = record {
  run = record {
    graph = next.run.graph ∙ first.run.graph;
    program = next.run.program ∙ first.run.program;
    rounds = next.run.rounds ∙ first.run.rounds;
    split = next.run.split ∙ first.run.split;
    grows = next.run.grows ∙ first.run.grows;
  };
  order = next.order ∙ first.order;
  assigned = omega (arith, first.assigned, next.assigned, sum);
  works = λ i. next.works i ∙ first.works i;
  stepped = next.stepped ∙ first.stepped;
  results = next.results ∙ first.results;
  spent = next.spent ∙ first.spent;
}
