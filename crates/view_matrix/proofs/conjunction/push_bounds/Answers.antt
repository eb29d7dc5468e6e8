-- With the last one, or behind it.
use Rattle.std.proofs.Common.{◌∙◌, ◌++◌, ◌∷◌, [], List, ap, sym}
use Rattle.view_matrix.specs.declared.bounds.Bounds.{Bounds}
use Rattle.view_matrix.proofs.Conjunctions.{last_more, one_more}
use Rattle.view_matrix.proofs.conjunction.push_bounds.Goals as goal

pub returns-in_ok-push-in-Some-both : goal.returns-in_ok-push-in-Some-both
returns-in_ok-push-in-Some-both c =
    last_more c.args.columns c.args.all.now.items c.pop.new.self.items c.push-in-Some-both.new.self.items c.in-Some.last c.args.bounds c.in-Some-both.both
    c.requires c.in-Some.ensures.items c.in_ok-push-in-Some-both.ensures.items c.in-Some-both.ensures.column c.in-Some-both.ensures.same c.in-Some-both.ensures.means

pub returns-in_ok-push-in-None-both-2 : goal.returns-in_ok-push-in-None-both-2
returns-in_ok-push-in-None-both-2 c =
    one_more c.args.columns c.args.all.now.items c.push-in-None-both-2.new.self.items c.args.bounds c.requires
    (c.in_ok-push-in-None-both-2.ensures.items ∙ ap (λ (all : List Bounds). all ++ c.args.bounds ∷ []) (c.in_ok-push-in-None-both.ensures.items ∙ sym c.in-Some.ensures.items))
