-- The first place without an item is filled.
use Rattle.std.proofs.Common.{◌≡◌, ◌∙◌, ◌+◌, ◌<◌, [], ◌∷◌, ◌++◌, length, get_or, Some, None, sym, ap, subst, arith, length-append}
use Rattle.std.specs.Prelude.{slice_set}
use Rattle.chunk_list.specs.Places.{somes, filled}
use Rattle.chunk_list.proofs.Filled.{is_empty, is_within, pushed}
use Rattle.chunk_list.proofs.chunk.Chunk.push.Goals as goal

pub write-requires : goal.write-requires
write-requires g c =
    let cs = c.self.inside.cells.slots in let h = c.self.invariant in
    let low : length (somes cs) < 64 = subst (λ xs. length xs < 64) (sym c.self.view_is) c.requires in
    (sym h.0, subst (λ n. n < length cs) (sym h.5) (is_within cs h.4 low), subst (λ n. get_or cs n None ≡ None) (sym h.5) (is_empty cs h.4))

pub invariant_of-self : goal.invariant_of-self
invariant_of-self g c =
    let cs = c.self.inside.cells.slots in let h = c.self.invariant in let x = c.args.item in
    let low : length (somes cs) < 64 = subst (λ xs. length xs < 64) (sym c.self.view_is) c.requires in
    let made = pushed cs x h.4 low in
    let is : c.write.new.self.slots ≡ slice_set cs (length (somes cs)) (Some x) = c.write.ensures.1 ∙ ap (λ n. slice_set cs n (Some x)) h.5 in
    let items : somes c.write.new.self.slots ≡ somes cs ++ x ∷ [] = ap somes is ∙ made.1 in
    let more : length (somes c.write.new.self.slots) ≡ length (somes cs) + 1 = ap length items ∙ length-append (somes cs) (x ∷ []) in
    (c.write.ensures.0 ∙ h.0, h.1, h.2, h.3, is ∙ made.0 ∙ ap (λ v. filled v 64) (sym items), ap (λ n. n + 1) h.5 ∙ sym more, omega (arith, more))

pub returns : goal.returns
returns g c =
    let cs = c.self.inside.cells.slots in let h = c.self.invariant in let x = c.args.item in
    let low : length (somes cs) < 64 = subst (λ xs. length xs < 64) (sym c.self.view_is) c.requires in
    ap somes (c.write.ensures.1 ∙ ap (λ n. slice_set cs n (Some x)) h.5) ∙ (pushed cs x h.4 low).1 ∙ ap (λ v. v ++ x ∷ []) c.self.view_is
