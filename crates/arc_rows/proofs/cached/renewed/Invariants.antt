use Rattle.std.proofs.Common.{◌≡◌, ℕ, take, get_or, false, length}
use Rattle.std.specs.Prelude.{All}
use Rattle.arc_rows.proofs.cached.renewed.Given as goal

abbrev pub invariant-loop-edge : goal.invariant-loop-edge
invariant-loop-edge l = record {
  size : length l.flags.items ≡ length l.new;
  set : All (λ e. get_or l.flags.items e.0 false ≡ get_or l.new e.0 false) (take l.edge-index l.turned);
  others : (v : ℕ) → get_or l._old v false ≡ get_or l.new v false → get_or l.flags.items v false ≡ get_or l.new v false;
}
