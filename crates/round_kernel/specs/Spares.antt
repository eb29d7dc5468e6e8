-- What a step leaves to the next one.
use Rattle.std.specs.Prelude.{IfSome}
use Rattle.graph_model.specs.GraphData.{GraphData}
use Rattle.round_kernel.specs.declared.spare.Spare.{Spare}
use Rattle.arc_rows.specs.Counts.{ArePlain}

-- the numbers of arcs that are left, if there are any, are small and one for each node
abbrev pub IsSpare : GraphData → Spare → Type 0
IsSpare graph spare = IfSome spare.degrees (ArePlain graph)
