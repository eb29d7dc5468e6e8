-- A chunk without items is added behind the others.
use Rattle.std.proofs.Common.{◌≡◌, ◌∙◌, ◌≤◌, ◌+◌, ◌-◌, ◌*◌, suc, [], ◌∷◌, ◌++◌, length, sym, ap, arith, length-append}
use Rattle.chunk_list.specs.Chunked.{Chunked}
use Rattle.chunk_list.specs.Places.{joined, pieces}
use Rattle.chunk_list.proofs.Pieces.{joined-more, one_more}
use Rattle.chunk_list.proofs.list.ChunkList.grow.Goals as goal

pub invariant_of-self-2 : goal.invariant_of-self-2
invariant_of-self-2 g c =
    let cs = c.self.inside.chunks.items in let h = c.self.invariant in
    let more : c.push.new.self.items ≡ cs ++ [] ∷ [] = c.in_ok-push.ensures.items ∙ ap (λ v. cs ++ v ∷ []) c.in_ok-chunk.ensures in
    let long : length c.push.new.self.items ≡ suc (length cs) = ap length more ∙ length-append cs ([] ∷ []) ∙ omega arith in
    let items : joined c.push.new.self.items ≡ joined cs = ap joined more ∙ joined-more cs in
    let fits : length (joined cs) ≤ 64 * length cs = omega (arith, h.1, h.2, h.3) in
    let room : c.in-Some.room ≡ c.self.inside.room + 64 = omega (arith, c.in-Some.ensures) in
    (more ∙ ap (λ v. v ++ [] ∷ []) h.0 ∙ sym (one_more (length cs) (joined cs) fits) ∙ (λ k. pieces (sym long k) (sym items k)), h.1 ∙ ap length (sym items), omega (arith, room, h.2, long), omega (arith, room, h.3))

pub returns-clause-ok : goal.returns-clause-ok
returns-clause-ok g c =
    let cs = c.self.inside.chunks.items in let h = c.self.invariant in
    let more : c.push.new.self.items ≡ cs ++ [] ∷ [] = c.in_ok-push.ensures.items ∙ ap (λ v. cs ++ v ∷ []) c.in_ok-chunk.ensures in
    let items : joined c.push.new.self.items ≡ joined cs = ap joined more ∙ joined-more cs in
    let room : c.in-Some.room ≡ c.self.inside.room + 64 = omega (arith, c.in-Some.ensures) in
    let spare : c.self.inside.room - c.self.inside.len ≡ c.args.self.now.spare = ap (λ (v : Chunked g.row.T.Denot). v.spare) c.self.view_is in
    (items ∙ ap (λ (v : Chunked g.row.T.Denot). v.items) c.self.view_is, omega (arith, room, h.3, spare))
