-- The views before this one have their segments.
use Rattle.std.proofs.Common.{◌-◌, ◌≤◌, length}
use Rattle.vertex_lang.specs.Expressions.{Answer}
use Rattle.view_engine.specs.Assigning.{IsAssigned, SoFar, HasGrown}
use Rattle.view_engine.specs.Engines.{IsEngine}
use Rattle.view_engine.proofs.engine.Engine.assign_rest.Given as goal

abbrev pub invariant-loop-self : goal.invariant-loop-self
invariant-loop-self l = record {
  engine : IsEngine l.self;
  grown : l.fn.self.assigned ≤ l.self.assigned;
  more : IsAssigned (l.self.assigned - l.fn.self.assigned) l.fn.self l.self;
  size : HasGrown l.fn.self l.self;
  stands : (answer : Answer) → SoFar answer l.matrix l.fn.self → SoFar answer l.matrix l.self;
}

abbrev pub decreases-loop-self : goal.decreases-loop-self
decreases-loop-self l = length l.self.order - l.self.assigned
