use Rattle.std.proofs.Common.{◌≡◌, ◌≢◌, ℕ, List, [], sym, subst, refl, arith}
use Rattle.gvdl_tokens.specs.Lexing.{AreTheTokens, IsReadUpTo}
use Rattle.gvdl_tokens.specs.Reading.{IsLexeme}
use Rattle.gvdl_tokens.specs.declared.token.Token.{Token}
use Rattle.gvdl_tokens.specs.declared.place.Place.{Place}
use Rattle.gvdl_tokens.proofs.Runs.{empty, not_empty}
use Rattle.gvdl_tokens.proofs.Whole.{IsFront, start}
use Rattle.gvdl_tokens.proofs.Steps.{front_of, stands, utf8_behind, ends_at_end, ends_at_syntax, ends_at_large, utf8_left, step, token_found, nothing_found, large_found}
use Rattle.gvdl_tokens.proofs.lexer.tokens_of.Goals as goal

at_start : (text : List ℕ) (tokens : List Token) (places : List Place) (place : Place) → tokens ≡ [] → places ≡ [] → place ≡ record { line = 1; column = 1 } → IsReadUpTo text tokens places place [] text
at_start text tokens places place e f g =
    subst (λ (ts : List Token). IsReadUpTo text ts places place [] text) (sym e) (subst (λ (ps : List Place). IsReadUpTo text [] ps place [] text) (sym f) (start text place g))

pub tokens-init : goal.tokens-init
tokens-init c = record {
  fits = omega arith;
  utf8 = c.requires.utf8;
  line_fits = omega arith;
  column_fits = omega arith;
  so_far = ([], at_start c.args.text.now c.new-tokens.result c.new-places.result (record { line = 1; column = 1 }) c.new-tokens.ensures c.new-places.ensures refl);
}

pub returns-then-is_empty : goal.returns-then-is_empty
returns-then-is_empty c =
    let so = c.tokens.invariant.so_far in
    let f : IsFront c.tokens.rest.now c.split_at.result.0.now c.split_at.result.1.now so.0 c.after-here.result =
    front_of c.gap_len.result so.0 c.tokens.rest.now c.split_at.result.0.now c.split_at.result.1.now c.tokens.place c.after-here.result c.split_at.ensures.front c.split_at.ensures.back c.gap_len.ensures.rest c.after-here.ensures.place so.1.place_is in
    subst (AreTheTokens c.args.text.now) (sym c.ended.ensures)
    (ends_at_end c.args.text.now c.tokens.tokens c.tokens.places c.tokens.place so.0 c.tokens.rest.now so.1 c.split_at.result.0.now c.split_at.result.1.now c.after-here.result f
    (empty c.split_at.result.1.now (sym c.if-is_empty.ensures)))

pub token_at-requires-clause-utf8 : goal.token_at-requires-clause-utf8
token_at-requires-clause-utf8 c =
    let so = c.tokens.invariant.so_far in
    let f : IsFront c.tokens.rest.now c.split_at.result.0.now c.split_at.result.1.now so.0 c.after-here.result =
    front_of c.gap_len.result so.0 c.tokens.rest.now c.split_at.result.0.now c.split_at.result.1.now c.tokens.place c.after-here.result c.split_at.ensures.front c.split_at.ensures.back c.gap_len.ensures.rest c.after-here.ensures.place so.1.place_is in
    utf8_behind so.0 c.tokens.rest.now c.split_at.result.0.now c.split_at.result.1.now c.after-here.result f (not_empty c.split_at.result.1.now (sym c.if-is_empty.ensures)) c.tokens.invariant.utf8

pub token_at-requires-clause-stands : goal.token_at-requires-clause-stands
token_at-requires-clause-stands c =
    let so = c.tokens.invariant.so_far in
    let f : IsFront c.tokens.rest.now c.split_at.result.0.now c.split_at.result.1.now so.0 c.after-here.result =
    front_of c.gap_len.result so.0 c.tokens.rest.now c.split_at.result.0.now c.split_at.result.1.now c.tokens.place c.after-here.result c.split_at.ensures.front c.split_at.ensures.back c.gap_len.ensures.rest c.after-here.ensures.place so.1.place_is in
    stands so.0 c.tokens.rest.now c.split_at.result.0.now c.split_at.result.1.now c.after-here.result f (not_empty c.split_at.result.1.now (sym c.if-is_empty.ensures))

pub tokens-preserved : goal.tokens-preserved
tokens-preserved c =
    let so = c.tokens.invariant.so_far in
    let f : IsFront c.tokens.rest.now c.split_at.result.0.now c.split_at.result.1.now so.0 c.after-here.result =
    front_of c.gap_len.result so.0 c.tokens.rest.now c.split_at.result.0.now c.split_at.result.1.now c.tokens.place c.after-here.result c.split_at.ensures.front c.split_at.ensures.back c.gap_len.ensures.rest c.after-here.ensures.place so.1.place_is in
    let some : c.split_at.result.1.now ≢ [] = not_empty c.split_at.result.1.now (sym c.if-is_empty.ensures) in
    let l : IsLexeme c.split_at.result.1.now c.in-Token.token c.in-Token.len = token_found c.split_at.result.1.now c.in_ok-token.field-0 c.in_ok-token.ensures c.in-Token.token c.in-Token.len c.in-Token.is in
    record {
      fits = omega (arith, c.tokens.invariant.fits, c.split_at.ensures.front_len, c.split_at.ensures.back_len, c.split_at-in-Token.ensures.front_len, c.split_at-in-Token.ensures.back_len);
      utf8 = utf8_left c.args.text.now c.tokens.tokens c.tokens.places c.tokens.place so.0 c.tokens.rest.now so.1 c.split_at.result.0.now c.split_at.result.1.now c.after-here.result f some c.in-Token.token c.in-Token.len l
          c.split_at-in-Token.result.0.now c.split_at-in-Token.result.1.now c.split_at-in-Token.ensures.front c.split_at-in-Token.ensures.back
          (utf8_behind so.0 c.tokens.rest.now c.split_at.result.0.now c.split_at.result.1.now c.after-here.result f some c.tokens.invariant.utf8);
      line_fits = omega (arith, c.tokens.invariant.line_fits, c.after-place.ensures.line, c.after-here.ensures.line, c.split_at.ensures.front_len, c.split_at.ensures.back_len, c.split_at-in-Token.ensures.front_len, c.split_at-in-Token.ensures.back_len);
      column_fits = omega (arith, c.tokens.invariant.column_fits, c.after-place.ensures.column, c.after-here.ensures.column, c.split_at.ensures.front_len, c.split_at.ensures.back_len, c.split_at-in-Token.ensures.front_len, c.split_at-in-Token.ensures.back_len);
      so_far = step c.args.text.now c.tokens.tokens c.tokens.places c.tokens.place so.0 c.tokens.rest.now so.1 c.split_at.result.0.now c.split_at.result.1.now c.after-here.result f some c.in-Token.token c.in-Token.len l
          c.split_at-in-Token.result.0.now c.split_at-in-Token.result.1.now c.split_at-in-Token.ensures.front c.split_at-in-Token.ensures.back
          c.after-place.result c.push.new.self c.push-in-Token.new.self c.after-place.ensures.place c.in_ok-push-in-Token.ensures.ok c.in_ok-push-in-Token-2.ensures.ok;
    }

pub returns-in-Nothing : goal.returns-in-Nothing
returns-in-Nothing c =
    let so = c.tokens.invariant.so_far in
    let f : IsFront c.tokens.rest.now c.split_at.result.0.now c.split_at.result.1.now so.0 c.after-here.result =
    front_of c.gap_len.result so.0 c.tokens.rest.now c.split_at.result.0.now c.split_at.result.1.now c.tokens.place c.after-here.result c.split_at.ensures.front c.split_at.ensures.back c.gap_len.ensures.rest c.after-here.ensures.place so.1.place_is in
    subst (AreTheTokens c.args.text.now) (sym c.ended-in-Nothing.ensures)
    (ends_at_syntax c.args.text.now c.tokens.tokens c.tokens.places c.tokens.place so.0 c.tokens.rest.now so.1 c.split_at.result.0.now c.split_at.result.1.now c.after-here.result f
    (nothing_found c.split_at.result.1.now c.in_ok-token.field-0 c.in_ok-token.ensures c.in-Nothing.is))

pub returns-in-TooLarge : goal.returns-in-TooLarge
returns-in-TooLarge c =
    let so = c.tokens.invariant.so_far in
    let f : IsFront c.tokens.rest.now c.split_at.result.0.now c.split_at.result.1.now so.0 c.after-here.result =
    front_of c.gap_len.result so.0 c.tokens.rest.now c.split_at.result.0.now c.split_at.result.1.now c.tokens.place c.after-here.result c.split_at.ensures.front c.split_at.ensures.back c.gap_len.ensures.rest c.after-here.ensures.place so.1.place_is in
    subst (AreTheTokens c.args.text.now) (sym c.ended-in-TooLarge.ensures)
    (ends_at_large c.args.text.now c.tokens.tokens c.tokens.places c.tokens.place so.0 c.tokens.rest.now so.1 c.split_at.result.0.now c.split_at.result.1.now c.after-here.result f
    (large_found c.split_at.result.1.now c.in_ok-token.field-0 c.in_ok-token.ensures c.in-TooLarge.is))
