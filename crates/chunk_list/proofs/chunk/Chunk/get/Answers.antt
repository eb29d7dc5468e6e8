-- The item that stands at the place.
use Rattle.std.proofs.Common.{◌∙◌, ◌<◌, length, slice_get, sym, ap, subst}
use Rattle.chunk_list.specs.Places.{somes}
use Rattle.chunk_list.proofs.Filled.{holds, is_item}
use Rattle.chunk_list.proofs.chunk.Chunk.get.Goals as goal

pub get-requires : goal.get-requires
get-requires g c =
    let low : c.args.i < length (somes c.self.inside.cells.slots) = subst (λ xs. c.args.i < length xs) (sym c.self.view_is) c.requires in
    (sym c.self.invariant.0, holds c.self.inside.cells.slots c.args.i c.self.invariant.4 low)

pub returns : goal.returns
returns g c =
    let low : c.args.i < length (somes c.self.inside.cells.slots) = subst (λ xs. c.args.i < length xs) (sym c.self.view_is) c.requires in
    ap (λ xs. slice_get xs c.args.i) (sym c.self.view_is) ∙ is_item c.self.inside.cells.slots c.args.i c.get.result.now c.self.invariant.4 low c.get.ensures
