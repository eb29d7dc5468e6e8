-- The views before this place are others.
use Rattle.std.proofs.Common.{◌≡◌, drop}
use Rattle.view_engine.specs.Engines.{work_beside}
use Rattle.view_engine.proofs.engine.work_beside.Given as goal

abbrev pub invariant-loop-place : goal.invariant-loop-place
invariant-loop-place l = work_beside (drop l.place l.views) (drop l.place l.works) l.view ≡ work_beside l.views l.works l.view
