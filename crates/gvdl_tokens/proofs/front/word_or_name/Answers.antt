use Rattle.std.proofs.Common.{◌≡◌, ◌∙◌, ℕ, take, ap, sym, subst}
use Rattle.std.specs.Str.{IsUtf8}
use Rattle.std.specs.List.{prefix_len}
use Rattle.std.proofs.lemmas.List.Folds.{length-prefix_len}
use Rattle.gvdl_tokens.specs.Characters.{in_name}
use Rattle.gvdl_tokens.specs.Spelling.{IsNotReserved}
use Rattle.gvdl_tokens.proofs.Runs.{run_passes}
use Rattle.gvdl_tokens.proofs.Lexemes.{word_lexeme, name_lexeme}
use Rattle.gvdl_tokens.proofs.Utf8.{name_utf8}
use Rattle.gvdl_tokens.proofs.front.word_or_name.Goals as goal

pub returns-in-Some : goal.returns-in-Some
returns-in-Some c =
    let n : c.name_len-len.result ≡ prefix_len in_name c.args.bytes.now = c.name_len-len.ensures ∙ length-prefix_len in_name c.args.bytes.now in
    let run : c.split_at.result.0.now ≡ take (prefix_len in_name c.args.bytes.now) c.args.bytes.now = c.split_at.ensures.front ∙ ap (λ (n : ℕ). take n c.args.bytes.now) n in
    rw n (word_lexeme c.args.bytes.now c.requires.begins c.in-Some.word (sym run ∙ c.in-Some.ensures.found))

pub text_of-requires : goal.text_of-requires
text_of-requires c =
    let n : c.name_len-len.result ≡ prefix_len in_name c.args.bytes.now = c.name_len-len.ensures ∙ length-prefix_len in_name c.args.bytes.now in
    let run : c.split_at.result.0.now ≡ take (prefix_len in_name c.args.bytes.now) c.args.bytes.now = c.split_at.ensures.front ∙ ap (λ (n : ℕ). take n c.args.bytes.now) n in
    subst IsUtf8 (sym run) (name_utf8 (take (prefix_len in_name c.args.bytes.now) c.args.bytes.now) (run_passes in_name c.args.bytes.now))

pub returns : goal.returns
returns c =
    let n : c.name_len-len.result ≡ prefix_len in_name c.args.bytes.now = c.name_len-len.ensures ∙ length-prefix_len in_name c.args.bytes.now in
    let run : c.split_at.result.0.now ≡ take (prefix_len in_name c.args.bytes.now) c.args.bytes.now = c.split_at.ensures.front ∙ ap (λ (n : ℕ). take n c.args.bytes.now) n in
    rw n (name_lexeme c.args.bytes.now c.requires.begins c.in_ok-name.name (c.in_ok-name.ensures ∙ run) (subst IsNotReserved run c.in_default.ensures.none))
