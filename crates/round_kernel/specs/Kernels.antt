-- What a step finds: the arcs, and what the step before it left.
use Rattle.graph_model.specs.GraphData.{GraphData}
use Rattle.arc_rows.specs.Listings.{AreCached}
use Rattle.arc_rows.specs.RowLists.{AreRows}
use Rattle.round_kernel.specs.declared.kernel.Kernel.{Kernel}
use Rattle.round_kernel.specs.Spares.{IsSpare}

-- rows of arcs of the graph, what is kept of a view of them, and lists that are left
pub record IsKernel (graph : GraphData) (kernel : Kernel) : Type 0 where
  pub rows : AreRows graph kernel.rows
  pub cached : AreCached graph kernel.rows.by_head kernel.cached
  pub spare : IsSpare graph kernel.spare
