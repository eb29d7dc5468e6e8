-- Of two lines that no text has the later one is behind the first.
use Rattle.std.proofs.Common.{◌≡◌, ◌∙◌, ◌≤◌, ◌<◌, ◌-◌, ℕ, List, ◌++◌, take, drop, sym, ap, arith, append_assoc, take-append-drop}
use Rattle.std.proofs.lemmas.List.{take-take}
use Rattle.change_text.specs.Spelling.{changes_lines, ended}
use Rattle.change_text.specs.Reading.{Begins, IsBadLine}
use Rattle.change_text.proofs.Blocks.{ended-append}
use Rattle.change_text.proofs.laws.one_fault.Goals as goal

-- a text that begins a change text with its first lines does so with fewer
begins_less : (text : List ℕ) (n m : ℕ) → n ≤ m → Begins m text → Begins n text
begins_less text n m le b =
    let lines : List (List ℕ) = changes_lines b.blocks in
    let front : take n (take m lines) ≡ take n lines = take-take n m lines le in
    record {
      blocks = b.blocks;
      are = b.are;
      many = omega (arith, le, b.many);
      rest = ended (drop n (take m lines)) ++ b.rest;
      text_is = b.text_is ∙ ap (λ (ls : List (List ℕ)). ended ls ++ b.rest) (sym (take-append-drop n (take m lines))) ∙ ap (λ (bytes : List ℕ). bytes ++ b.rest) (ended-append (take n (take m lines)) (drop n (take m lines)))
          ∙ append_assoc (ended (take n (take m lines))) (ended (drop n (take m lines))) b.rest
          ∙ ap (λ (ls : List (List ℕ)). ended ls ++ (ended (drop n (take m lines)) ++ b.rest)) front;
    }

not_before : (text : List ℕ) (n m : ℕ) → IsBadLine text n → IsBadLine text m → n < m → ⊥
not_before text n m first second lt = first.bad (begins_less text n (m - 1) (omega (arith, lt)) second.before)

same : (text : List ℕ) (n m : ℕ) → IsBadLine text n → IsBadLine text m → n ≡ m
same text n m h k = omega (arith, not_before text n m h k, not_before text m n k h)

pub returns : goal.returns
returns c = same
