use Rattle.std.proofs.Common.{◌+◌, ◌<◌, sym, ap, subst, length, take, arith}
use Rattle.graph_loader.specs.LoadSteps.{IsTableOf, no_place}
use Rattle.graph_loader.proofs.PlaceFacts.{table-step}
use Rattle.graph_loader.proofs.places.places_of.Goals as goal

pub loop-place-preserved : goal.loop-place-preserved
loop-place-preserved c =
    let ids = c.as_slice-ids.result.now in
    let lt : c.loop-place.place < length ids = omega (arith, c.loop-place-test.true) in
    let few : length ids < no_place = omega (arith, ap length c.as_slice-ids.ensures.keys, c.requires) in
    subst (λ l. IsTableOf (take (c.loop-place.place + 1) ids) l) (sym c.set_place.ensures) (table-step ids c.loop-place.places.items c.loop-place.place _ lt few c.loop-place.invariant)
