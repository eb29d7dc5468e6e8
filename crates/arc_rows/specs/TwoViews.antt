-- A view and the one before it, over the same arcs.
use Rattle.std.specs.Prelude.{◌≡◌, ◌<◌, ℕ, Bool, List, length, All, Contains}
use Rattle.vertex_lang.specs.Arcs.{IsArc}
use Rattle.arc_rows.specs.declared.cached.Listed.{Listed}
use Rattle.arc_rows.specs.declared.cached.CachedArcs.{CachedArcs}
use Rattle.arc_rows.specs.declared.degrees.Degrees.{Degrees}
use Rattle.arc_rows.specs.declared.views.TwoViews.{TwoViews}
use Rattle.arc_rows.specs.Counts.{AreBoth, AreCounted}
use Rattle.arc_rows.specs.Listings.{AreCached, IsListed}
use Rattle.arc_rows.specs.RowLists.{AreRows}
use Rattle.arc_rows.specs.Views.{IsTurned, TellsAll}

-- there is a flag for each edge, and all that is in one of the two alone is told
pub record AreTwoViews (v : TwoViews) : Type 0 where
  pub rows : AreRows v.graph.now v.rows.now
  pub old : length v.old.now ≡ length v.graph.now.ends
  pub new : length v.new.now ≡ length v.graph.now.ends
  pub arcs : All (IsArc v.graph.now) v.arcs.now
  pub all_arcs : All (λ a. IsTurned v.old.now v.new.now a → Contains v.arcs.now a) v.rows.now.by_head
  pub edges : All (λ e. e.0 < length v.graph.now.ends) v.edges.now
  pub all_edges : TellsAll v.old.now v.new.now v.edges.now

-- what is kept of a view over these arcs
abbrev pub AreCachedOver : TwoViews → CachedArcs → Type 0
AreCachedOver v cached = AreCached v.graph.now v.rows.now.by_head cached

-- the arcs of the new view are listed, if any are
abbrev pub IsListedInNew : TwoViews → Listed → Type 0
IsListedInNew v listed = IsListed v.graph.now v.rows.now.by_head v.new.now listed

-- so many arcs of the view before leave each node
abbrev pub AreCountedInOld : TwoViews → List ℕ → Type 0
AreCountedInOld v degrees = AreCounted v.graph.now v.rows.now.by_head v.old.now degrees

-- and of the new one
abbrev pub AreCountedInNew : TwoViews → List ℕ → Type 0
AreCountedInNew v degrees = AreCounted v.graph.now v.rows.now.by_head v.new.now degrees

-- and of both, where it's asked for
abbrev pub AreCountedInBoth : Bool → TwoViews → Degrees → Type 0
AreCountedInBoth asked v degrees = AreBoth asked v.graph.now v.rows.now.by_head v.old.now v.new.now degrees
