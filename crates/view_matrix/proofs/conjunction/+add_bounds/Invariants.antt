use Rattle.std.proofs.Common.{take}
use Rattle.std.specs.List.{list_all}
use Rattle.edge_predicates.specs.Truth.{truth}
use Rattle.view_matrix.specs.Bounds.{Adds}
use Rattle.view_matrix.proofs.conjunction.+add_bounds.Given as goal

abbrev pub invariant-add_each-loop-pred : goal.invariant-add_each-loop-pred
invariant-add_each-loop-pred l = Adds l.columns l.initial.all.items l.all.items (λ g e. list_all (truth g e) (take l.pred-index l.preds))
