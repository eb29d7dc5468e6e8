-- A new chain of new operators.
use Rattle.std.proofs.Common.{sym, ◌∙◌, refl}
use Rattle.flow_core.specs.Parts.{link_whole, link_first, link_second}
use Rattle.flow_core.specs.PartLaws.{parts_fresh, lub_level}
use Rattle.flow_core.proofs.chain.Chain.new.Goals as goal

pub returns-clause-fresh : goal.returns-clause-fresh
returns-clause-fresh g c = record {
  is_new = (parts_fresh link_whole link_first link_second (λ _. refl) (λ _. refl) (g.A.Operator.stands c.args.first) (g.B.Operator.stands c.args.second) c.requires.first.is_new c.requires.second.is_new, c.requires.second.at_least ∙ sym c.requires.first.at_least);
  nothing_due = rw (c.requires.first.nothing_due, c.requires.second.nothing_due) refl;
  at_least = lub_level g.met.T.Time.lattice _ _ (c.requires.second.at_least ∙ sym c.requires.first.at_least) ∙ c.requires.first.at_least;
  live = rw (c.requires.first.live, c.requires.second.live) refl;
}
