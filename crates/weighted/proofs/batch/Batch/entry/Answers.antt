-- A batch has no weight zero.
use Rattle.std.proofs.Common.{◌<◌, length, ap, arith}
use Rattle.weighted.proofs.Rises.{Weighty-at}
use Rattle.weighted.proofs.batch.Batch.entry.Goals as goal

pub returns-clause-weight : goal.returns-clause-weight
returns-clause-weight g c =
    let low : c.args.i < length c.self.inside.entries.items = omega (arith, ap length c.self.view_is) in
    Weighty-at c.self.inside.entries.items c.args.i c.index.result.now low c.self.invariant.weighty c.index.ensures
