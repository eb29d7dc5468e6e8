use Rattle.std.specs.Prelude.{take}
use Rattle.arc_rows.proofs.Leaving.{AreTurning}
use Rattle.arc_rows.proofs.degrees.turned_degrees.Given as goal

abbrev pub invariant-loop-arc : goal.invariant-loop-arc
invariant-loop-arc l = AreTurning l.views.graph.now l.views.rows.now.by_head l.views.old.now l.views.new.now (take l.arc-index l.views.arcs.now) l.degrees.items l.done.items
