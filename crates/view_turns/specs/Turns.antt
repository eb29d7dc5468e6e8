-- The turns of a run.
use Rattle.std.specs.Prelude.{◌≡◌, ℕ, zero, suc, ◌+◌, ◌==◌, List, [], ◌∷◌, length, get_or, sum_by, if◌then◌else◌, Option, Some, None}
use Rattle.draws.specs.declared.Draws.{Draws}
use Rattle.draws.specs.Draws.{next_state, drawn}
use Rattle.vertex_lang.specs.Expressions.{Answer}
use Rattle.view_matrix.specs.Matrices.{MatrixData}
use Rattle.view_segment.specs.declared.segment.Segment.{Segment}
use Rattle.view_engine.specs.declared.engine.Engine.{Engine}
use Rattle.view_engine.specs.Engines.{Stands, HasMoved, segments_in, stepped_in}

-- the numbers of the segments that have a view which wasn't stepped, rising; the first of these segments has this number
abbrev pub unfinished_from : ℕ → List Segment → List ℕ
unfinished_from k [] = []
unfinished_from k (s ∷ ss) = if length s.works == length s.views then unfinished_from (k + 1) ss else k ∷ unfinished_from (k + 1) ss

abbrev pub unfinished : Engine → List ℕ
unfinished e = unfinished_from 0 (segments_in e)

-- the place of the one that is turned, of so many: the first, or the next one that is drawn
abbrev pub chosen : Option Draws → ℕ → ℕ
chosen None count = 0
chosen (Some draws) count = drawn draws.state count

abbrev pub after_draw : Option Draws → Option Draws
after_draw None = None
after_draw (Some draws) = Some (record { state = next_state draws.state })

-- the stream of a seed, where turns are drawn
abbrev pub seeded : Option ℕ → Option Draws
seeded None = None
seeded (Some seed) = Some (record { state = seed })

-- the stream behind so many turns
abbrev pub after_turns : Option Draws → ℕ → Option Draws
after_turns draws zero = draws
after_turns draws (suc n) = after_draw (after_turns draws n)

-- the segment that is turned next: of those that have a view left, the one at the place that is chosen
abbrev pub next_segment : Option Draws → Engine → ℕ
next_segment draws e = get_or (unfinished e) (chosen draws (length (unfinished e))) 0

-- the works of all views that an engine stepped
abbrev pub done : Engine → ℕ
done e = sum_by (λ s. sum_by (λ n. n) s.works) (segments_in e)

-- One more view was stepped, the next one of this segment. The updater was called as often as its work says.
pub record HasTurned (k : ℕ) (old new : Engine) (calls_before calls_after : ℕ) : Type 0 where
  pub moved : HasMoved k old new calls_before calls_after
  pub stepped : stepped_in new ≡ stepped_in old + 1
  pub calls : calls_after + done old ≡ calls_before + done new

-- ---- all turns

-- The last of some turns: those before it led to an engine that stands for the matrix, and it is one of the segment that is
-- chosen there.
pub record IsLastTurn (Before : Engine → ℕ → Type 0) (answer : Answer) (m : MatrixData) (draws : Option Draws) (new : Engine) (calls_after : ℕ) : Type 0 where
  pub between : Engine
  pub calls : ℕ
  pub before : Before between calls
  pub stands : Stands answer m between
  pub turn : HasTurned (next_segment draws between) between new calls calls_after

-- So many turns lead from one engine to another, each one of the segment that is chosen there: the first that has a view left,
-- or the one that the stream draws, which goes on from turn to turn.
abbrev pub AreTurned : Answer → MatrixData → Option Draws → ℕ → (old : Engine) → (calls : ℕ) → (new : Engine) → (calls_after : ℕ) → Type 0
AreTurned answer m draws zero old calls new calls_after = (new ≡ old) × (calls_after ≡ calls)
AreTurned answer m draws (suc n) old calls new calls_after = IsLastTurn (AreTurned answer m draws n old calls) answer m (after_turns draws n) new calls_after

-- some number of turns lead there
pub record IsTurned (answer : Answer) (m : MatrixData) (draws : Option Draws) (old new : Engine) (calls calls_after : ℕ) : Type 0 where
  pub turns : ℕ
  pub each : AreTurned answer m draws turns old calls new calls_after
