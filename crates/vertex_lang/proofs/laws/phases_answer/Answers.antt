use Rattle.vertex_lang.specs.Phases.{starts_of}
use Rattle.vertex_lang.specs.PhaseLaws.{phase-starts, phase-next, phases-meet, phases-one, phases-size}
use Rattle.vertex_lang.proofs.laws.phases_answer.Goals as goal

pub returns : goal.returns
returns c = λ answer p graph arcs n m. record {
  first = phase-starts answer p graph (starts_of p graph) arcs n;
  later = phase-next answer p graph (starts_of p graph) arcs n;
  meets = phases-meet answer p graph arcs n m;
  one = phases-one answer p graph arcs n m;
  size = phases-size answer p graph arcs n m;
}
