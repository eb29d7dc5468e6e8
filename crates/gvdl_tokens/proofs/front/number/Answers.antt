use Rattle.std.proofs.Common.{◌≡◌, ◌∙◌, ◌≤◌, ◌^◌, ℕ, List, true, take, ap, sym, subst}
use Rattle.std.specs.List.{prefix_len, list_all}
use Rattle.std.specs.Str.Parse.{digits_value}
use Rattle.std.proofs.lemmas.List.Folds.{length-prefix_len}
use Rattle.gvdl_tokens.specs.Characters.{is_digit}
use Rattle.gvdl_tokens.proofs.Runs.{run_passes}
use Rattle.gvdl_tokens.proofs.Lexemes.{number_lexeme, large_number}
use Rattle.gvdl_tokens.proofs.front.number.Goals as goal

pub value_of-requires : goal.value_of-requires
value_of-requires c =
    let n : c.digits_len-len.result ≡ prefix_len is_digit c.args.bytes.now = c.digits_len-len.ensures ∙ length-prefix_len is_digit c.args.bytes.now in
    let run : c.split_at.result.0.now ≡ take (prefix_len is_digit c.args.bytes.now) c.args.bytes.now = c.split_at.ensures.front ∙ ap (λ (n : ℕ). take n c.args.bytes.now) n in
    subst (λ (x : List ℕ). list_all is_digit x ≡ true) (sym run) (run_passes is_digit c.args.bytes.now)

pub returns-in-None : goal.returns-in-None
returns-in-None c =
    let n : c.digits_len-len.result ≡ prefix_len is_digit c.args.bytes.now = c.digits_len-len.ensures ∙ length-prefix_len is_digit c.args.bytes.now in
    let run : c.split_at.result.0.now ≡ take (prefix_len is_digit c.args.bytes.now) c.args.bytes.now = c.split_at.ensures.front ∙ ap (λ (n : ℕ). take n c.args.bytes.now) n in
    large_number c.args.bytes.now c.requires.begins (subst (λ (x : List ℕ). 2 ^ 63 ≤ digits_value 10 x) run c.in-None.ensures.large)

pub returns-in-Some : goal.returns-in-Some
returns-in-Some c =
    let n : c.digits_len-len.result ≡ prefix_len is_digit c.args.bytes.now = c.digits_len-len.ensures ∙ length-prefix_len is_digit c.args.bytes.now in
    let run : c.split_at.result.0.now ≡ take (prefix_len is_digit c.args.bytes.now) c.args.bytes.now = c.split_at.ensures.front ∙ ap (λ (n : ℕ). take n c.args.bytes.now) n in
    rw (n, c.new.ensures) (number_lexeme c.args.bytes.now c.requires.begins c.in-Some.value (c.in-Some.ensures.value ∙ ap (digits_value 10) run) c.in-Some.ensures.limit)
