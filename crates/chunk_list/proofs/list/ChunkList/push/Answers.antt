-- The item comes into the first chunk that is not full.
use Rattle.std.proofs.Common.{◌≡◌, ◌∙◌, ◌<◌, ◌-◌, ◌*◌, ◌/◌, [], ◌∷◌, ◌++◌, length, get_or, ap, arith, length-append, length-set}
use Rattle.chunk_list.specs.Chunked.{Chunked}
use Rattle.chunk_list.specs.Places.{joined}
use Rattle.chunk_list.proofs.Pieces.{has_room, joined-pushed, laid-pushed}
use Rattle.chunk_list.proofs.list.ChunkList.push.Goals as goal

pub push-requires : goal.push-requires
push-requires g c =
    let cs = c.self.inside.chunks.items in let h = c.self.invariant in
    let spare : c.self.inside.room - c.self.inside.len ≡ c.args.self.now.spare = ap (λ (v : Chunked g.row.T.Denot). v.spare) c.self.view_is in
    let room : length (joined cs) < 64 * length cs = omega (arith, h.1, h.2, h.3, spare, c.requires) in
    let is : c.index_mut.result.now ≡ get_or cs (length (joined cs) / 64) c.index_mut.result.now = c.index_mut.ensures.value ∙ ap (λ n. get_or cs (n / 64) c.index_mut.result.now) h.1 in
    has_room cs h.0 c.args.item c.index_mut.result.now room is

pub invariant_of-self : goal.invariant_of-self
invariant_of-self g c =
    let cs = c.self.inside.chunks.items in let h = c.self.invariant in let x = c.args.item in
    let spare : c.self.inside.room - c.self.inside.len ≡ c.args.self.now.spare = ap (λ (v : Chunked g.row.T.Denot). v.spare) c.self.view_is in
    let room : length (joined cs) < 64 * length cs = omega (arith, h.1, h.2, h.3, spare, c.requires) in
    let is : c.index_mut.result.now ≡ get_or cs (length (joined cs) / 64) c.index_mut.result.now = c.index_mut.ensures.value ∙ ap (λ n. get_or cs (n / 64) c.index_mut.result.now) h.1 in
    let items = joined-pushed cs h.0 x c.index_mut.result.now room is in
    let long = length-set cs (length (joined cs) / 64) (c.index_mut.result.now ++ x ∷ []) in
    rw (h.1, c.push.ensures) (laid-pushed cs h.0 x c.index_mut.result.now room is, omega (arith, ap length items, length-append (joined cs) (x ∷ [])), omega (arith, long, h.2), omega (arith, room, h.2))

pub returns-clause-items : goal.returns-clause-items
returns-clause-items g c =
    let cs = c.self.inside.chunks.items in let h = c.self.invariant in let x = c.args.item in
    let spare : c.self.inside.room - c.self.inside.len ≡ c.args.self.now.spare = ap (λ (v : Chunked g.row.T.Denot). v.spare) c.self.view_is in
    let room : length (joined cs) < 64 * length cs = omega (arith, h.1, h.2, h.3, spare, c.requires) in
    let is : c.index_mut.result.now ≡ get_or cs (length (joined cs) / 64) c.index_mut.result.now = c.index_mut.ensures.value ∙ ap (λ n. get_or cs (n / 64) c.index_mut.result.now) h.1 in
    rw (h.1, c.push.ensures) (joined-pushed cs h.0 x c.index_mut.result.now room is) ∙ ap (λ (v : Chunked g.row.T.Denot). v.items ++ x ∷ []) c.self.view_is
