use Rattle.vertex_lang.specs.PhaseLaws.{from_starts, from_next, next-with-at, length-from, from-stays, permuted-from}
use Rattle.vertex_lang.proofs.laws.rounds_from.Goals as goal

pub returns : goal.returns
returns c = λ answer p graph starts arcs. record {
  first = from_starts answer p graph starts arcs;
  later = from_next answer p graph starts arcs;
  value = next-with-at answer p graph starts arcs;
  size = length-from answer p graph starts arcs;
  stays = from-stays answer p graph starts arcs;
  permuted = permuted-from answer p graph starts arcs;
}
