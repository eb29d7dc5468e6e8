-- Where a new segment starts.
use Rattle.std.specs.Prelude.{◌*◌, ◌≤◌, ◌==◌, leb, ltb, Bool, false, if◌then◌else◌}
use Rattle.segment_split.specs.declared.SplitRule.{SplitRule}
use Rattle.segment_split.specs.declared.SplitRule.TheVariants.{Whole, Every, Auto}
use Rattle.segment_split.specs.declared.Counts.{Counts}

-- the number of views of a segment is at least 1, where the rule has one
abbrev pub HasNumber : SplitRule → Type 0
HasNumber Whole = Unit {0}
HasNumber (Every n) = 1 ≤ n
HasNumber Auto = Unit {0}

-- the work of the next view on top of the segment is more than that of a fresh start, if an edge costs what it cost so far:
-- later_work / later_edges for each differing edge is compared with first_work / first_edges for each edge, without division
abbrev pub is_dearer_on_top : Counts → Bool
is_dearer_on_top c = ltb (c.first_work * c.next_edges * c.later_edges) (c.later_work * c.next_difference * c.first_edges)

-- while no later view differed, nothing tells what a differing edge costs: then edges are compared with edges
abbrev pub starts_by_work : Counts → Bool
starts_by_work c = if c.later_edges == 0 then ltb c.next_edges c.next_difference else is_dearer_on_top c

-- whether the view that comes next starts a new segment
abbrev pub starts_new : SplitRule → Counts → Bool
starts_new Whole c = false
starts_new (Every n) c = leb n c.in_segment
starts_new Auto c = starts_by_work c
