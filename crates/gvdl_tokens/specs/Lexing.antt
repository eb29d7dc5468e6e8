-- What reading all tokens of a text answers.
use Rattle.std.specs.Prelude.{◌≡◌, ℕ, List, [], ◌++◌}
use Rattle.gvdl_tokens.specs.declared.token.Token.{Token}
use Rattle.gvdl_tokens.specs.declared.place.Place.{Place}
use Rattle.gvdl_tokens.specs.declared.tokens.Ending.{Ending}
use Rattle.gvdl_tokens.specs.declared.tokens.Tokens.{Tokens}
use Rattle.gvdl_tokens.specs.Characters.{place_behind}
use Rattle.gvdl_tokens.specs.Tokens.{Lexes}

-- the tokens of the text, and nothing else is that
pub record AreTheTokens (text : List ℕ) (all : Tokens) : Type 0 where
  pub lexed : Lexes [] text all.tokens all.places all.ending
  pub only : (other : Tokens) → Lexes [] text other.tokens other.places other.ending → other ≡ all

-- the tokens of the text begin with these, and what is before the rest was read
pub record IsReadUpTo (text : List ℕ) (tokens : List Token) (places : List Place) (place : Place) (before rest : List ℕ) : Type 0 where
  pub split : text ≡ before ++ rest
  pub place_is : place ≡ place_behind before
  pub whole : (ts : List Token) (ps : List Place) (end : Ending) → Lexes before rest ts ps end → Lexes [] text (tokens ++ ts) (places ++ ps) end
  pub only : (ts : List Token) (ps : List Place) (end : Ending) → Lexes [] text ts ps end
      → (more : List Token) × (more_places : List Place) × (ts ≡ tokens ++ more) × (ps ≡ places ++ more_places) × Lexes before rest more more_places end
