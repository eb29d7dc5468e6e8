-- Two new operators side by side.
use Rattle.std.proofs.Common.{sym, ◌∙◌, refl}
use Rattle.flow_core.specs.Parts.{branch_whole, branch_first, branch_second}
use Rattle.flow_core.specs.PartLaws.{parts_fresh, lub_level}
use Rattle.flow_core.proofs.fork.Fork.new.Goals as goal

pub returns-clause-fresh : goal.returns-clause-fresh
returns-clause-fresh g c = record {
  is_new = (parts_fresh branch_whole branch_first branch_second (λ _. refl) (λ _. refl) (g.A.Operator.stands c.args.first) (g.B.Operator.stands c.args.second) c.requires.first.is_new c.requires.second.is_new, c.requires.second.at_least ∙ sym c.requires.first.at_least);
  nothing_due = rw (c.requires.first.nothing_due, c.requires.second.nothing_due) refl;
  at_least = lub_level g.met.T.Time.lattice _ _ (c.requires.second.at_least ∙ sym c.requires.first.at_least) ∙ c.requires.first.at_least;
  live = rw (c.requires.first.live, c.requires.second.live) refl;
}
