-- The item in its chunk.
use Rattle.std.proofs.Common.{◌∙◌, ◌<◌, ◌≤◌, ◌*◌, length, slice_get, sym, ap, subst, arith}
use Rattle.chunk_list.specs.Chunked.{Chunked}
use Rattle.chunk_list.specs.Places.{joined}
use Rattle.chunk_list.proofs.Pieces.{found, in_reach}
use Rattle.chunk_list.proofs.list.ChunkList.get.Goals as goal

pub get-requires : goal.get-requires
get-requires g c =
    let cs = c.self.inside.chunks.items in let h = c.self.invariant in
    let low : c.args.i < length (joined cs) = subst (λ (v : Chunked g.row.T.Denot). c.args.i < length v.items) (sym c.self.view_is) c.requires in
    let fits : length (joined cs) ≤ 64 * length cs = omega (arith, h.1, h.2, h.3) in
    in_reach cs h.0 c.args.i c.index.result.now fits low c.index.ensures

pub returns : goal.returns
returns g c =
    let cs = c.self.inside.chunks.items in let h = c.self.invariant in
    let low : c.args.i < length (joined cs) = subst (λ (v : Chunked g.row.T.Denot). c.args.i < length v.items) (sym c.self.view_is) c.requires in
    let fits : length (joined cs) ≤ 64 * length cs = omega (arith, h.1, h.2, h.3) in
    ap (λ (v : Chunked g.row.T.Denot). slice_get v.items c.args.i) (sym c.self.view_is) ∙ found cs h.0 c.args.i c.index.result.now fits low c.index.ensures ∙ c.get.ensures
