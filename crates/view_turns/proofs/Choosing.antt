-- One turn after the other.
use Rattle.std.proofs.Common.{◌≡◌, ◌+◌, ℕ, suc, Option, sym, ap, ◌∙◌, subst, arith}
use Rattle.draws.specs.declared.Draws.{Draws}
use Rattle.vertex_lang.specs.Expressions.{Answer}
use Rattle.view_matrix.specs.Matrices.{MatrixData}
use Rattle.view_engine.specs.declared.engine.Engine.{Engine}
use Rattle.view_engine.specs.Engines.{Stands, IsSameRun}
use Rattle.view_turns.specs.Turns.{after_draw, after_turns, next_segment, HasTurned, AreTurned}

pub run_on : (a b c : Engine) → IsSameRun a b → IsSameRun b c → IsSameRun a c
run_on a b c first next = record { graph = next.graph ∙ first.graph; program = next.program ∙ first.program; rounds = next.rounds ∙ first.rounds; split = next.split ∙ first.split; grows = next.grows ∙ first.grows }

-- the stream behind one more turn
pub drawn_on : (draws now new : Option Draws) (n : ℕ) → now ≡ after_turns draws n → new ≡ after_draw now → new ≡ after_turns draws (n + 1)
drawn_on draws now new n is one = one ∙ ap after_draw is ∙ ap (after_turns draws) (let e : suc n ≡ n + 1 = omega arith in e)

module _ (answer : Answer) (m : MatrixData) (draws : Option Draws) (old : Engine) (calls : ℕ) where
  -- one turn more
  pub turned_on : (n : ℕ) (now : Option Draws) (e : Engine) (c : ℕ) (e2 : Engine) (c2 : ℕ) → now ≡ after_turns draws n → AreTurned answer m draws n old calls e c → Stands answer m e
      → HasTurned (next_segment now e) e e2 c c2 → AreTurned answer m draws (n + 1) old calls e2 c2
  turned_on n now e c e2 c2 is before stands turn =
      subst (λ (k : ℕ). AreTurned answer m draws k old calls e2 c2) (let s : suc n ≡ n + 1 = omega arith in s)
      (record { between = e; calls = c; before = before; stands = stands; turn = subst (λ (d : Option Draws). HasTurned (next_segment d e) e e2 c c2) is turn })

  -- and none
  pub turned_still : (n : ℕ) (e : Engine) (c : ℕ) (e2 : Engine) (c2 : ℕ) → e2 ≡ e → c2 ≡ c → AreTurned answer m draws n old calls e c → AreTurned answer m draws n old calls e2 c2
  turned_still n e c e2 c2 same none turned =
      subst (λ (x : Engine). AreTurned answer m draws n old calls x c2) (sym same) (subst (λ (k : ℕ). AreTurned answer m draws n old calls e k) (sym none) turned)
