use Rattle.std.proofs.Common.{◌≡◌, ℕ, ◌<◌, get_or}
use Rattle.gvdl_tokens.specs.Spelling.{word_spelling}
use Rattle.gvdl_tokens.specs.declared.word.Word.TheVariants as word
use Rattle.gvdl_tokens.proofs.word.word_among.Given as goal

abbrev pub invariant-loop-word : goal.invariant-loop-word
invariant-loop-word l = (k : ℕ) → k < l.word-index → l.run ≡ word_spelling (get_or l.list k word.Load) → ⊥
