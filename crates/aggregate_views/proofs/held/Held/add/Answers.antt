-- The newest layer has what comes, and what the layers had whose place it takes.
use Rattle.std.proofs.Common.{◌≡◌, ◌∙◌, ◌-◌, ◌++◌, length, take, drop, arith, ap}
use Rattle.std.proofs.lemmas.List.{take_all, length-drop}
use Rattle.weighted.specs.Alike.{Alike, Alike-is, Alike-trans}
use Rattle.weighted.specs.Batches.{joined}
use Rattle.aggregate_views.proofs.Layers.{with_newest}
use Rattle.aggregate_views.proofs.held.Held.add.Goals as goal

pub returns : goal.returns
returns g c =
    let ls = c.self.inside.layers.items in let kept = c.stay-kept.result in
    let rest : take (length c.deref.result.now - kept) (drop kept c.deref.result.now) ≡ drop kept ls = take_all (length c.deref.result.now - kept) (drop kept c.deref.result.now) (omega (arith, length-drop kept c.deref.result.now)) ∙ ap (drop kept) c.deref.ensures.value in
    let others : Alike c.in_ok-others.others (joined (drop kept ls)) = Alike-trans c.in_ok-others.ensures.alike (Alike-is (ap joined rest)) in
    Alike-trans (with_newest ls c.truncate.new.self.items c.push.new.self.items kept c.in_ok-others.others c.in_ok-newest.newest c.args.more c.truncate.ensures.items c.in_ok-push.ensures.items others c.in_ok-newest.ensures) (Alike-is (ap (λ v. v ++ c.args.more) c.self.view_is))
