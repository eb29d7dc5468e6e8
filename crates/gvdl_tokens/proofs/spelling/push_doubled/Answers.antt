use Rattle.std.proofs.Common.{◌≡◌, ◌<◌, ◌+◌, ◌∙◌, ℕ, suc, List, [], ◌∷◌, ◌++◌, length, drop, get_or, ap, sym, append_assoc, drop-cons, add-one, refl, rules}
use Rattle.gvdl_tokens.specs.Spelling.{doubled}
use Rattle.gvdl_tokens.proofs.Enclosing.{doubled-append}
use Rattle.gvdl_tokens.proofs.spelling.push_doubled.Goals as goal

one_more : (q i b : ℕ) (content text longer whole : List ℕ) → i < length content → b ≡ get_or content i 0 → longer ≡ text ++ doubled q (b ∷ []) → text ++ doubled q (drop i content) ≡ whole
    → longer ++ doubled q (drop (i + 1) content) ≡ whole
one_more q i b content text longer whole lt e f h =
    let cut : drop i content ≡ b ∷ drop (i + 1) content = drop-cons content i 0 lt ∙ ap (λ (x : ℕ). x ∷ drop (suc i) content) (sym e) ∙ ap (λ (x : ℕ). b ∷ drop x content) (sym (add-one i)) in
    ap (λ (x : List ℕ). x ++ doubled q (drop (i + 1) content)) f
    ∙ append_assoc text (doubled q (b ∷ [])) (doubled q (drop (i + 1) content))
    ∙ ap (λ (x : List ℕ). text ++ x) (sym (doubled-append q (b ∷ []) (drop (i + 1) content)) ∙ ap (doubled q) (sym cut))
    ∙ h

pub loop-b-preserved : goal.loop-b-preserved
loop-b-preserved c =
    one_more c.args.quote c.loop-b.b-index (get_or c.args.content.now c.loop-b.b-index 0) c.args.content.now c.loop-b.text c.push_character.new.text (c.args.text.now ++ doubled c.args.quote c.args.content.now)
    (search rules) refl c.in_ok-push_character.ensures c.loop-b.invariant
