use Rattle.std.proofs.Common.{◌+◌, ◌≤◌, ℕ, List, length}
use Rattle.std.specs.Str.{IsUtf8}
use Rattle.gvdl_tokens.specs.Lexing.{IsReadUpTo}
use Rattle.gvdl_tokens.proofs.lexer.tokens_of.Given as goal

abbrev pub invariant-tokens : goal.invariant-tokens
invariant-tokens l = record {
  fits : length l.rest ≤ length l.text;
  utf8 : IsUtf8 l.rest;
  line_fits : l.place.line + length l.rest ≤ 1 + length l.text;
  column_fits : l.place.column + length l.rest ≤ 1 + length l.text;
  so_far : (before : List ℕ) × IsReadUpTo l.text l.tokens l.places l.place before l.rest;
}

abbrev pub decreases-tokens : goal.decreases-tokens
decreases-tokens l = length l.rest
