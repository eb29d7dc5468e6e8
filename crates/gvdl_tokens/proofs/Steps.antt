-- One step of reading tokens, in the words of what its parts answer.
use Rattle.std.proofs.Common.{◌≡◌, ◌≢◌, ℕ, List, [], ◌∷◌, ◌++◌, take, drop, Ok, sym, ap, subst, ◌∙◌}
use Rattle.std.specs.Str.{IsUtf8}
use Rattle.std.proofs.lemmas.List.{take-append-drop, append_cancel_right}
use Rattle.gvdl_tokens.specs.declared.token.Token.{Token}
use Rattle.gvdl_tokens.specs.declared.place.Place.{Place}
use Rattle.gvdl_tokens.specs.declared.tokens.Ending.TheVariants as ending
use Rattle.gvdl_tokens.specs.declared.front.Found.{Found}
use Rattle.gvdl_tokens.specs.declared.front.Found.TheVariants as found
use Rattle.gvdl_tokens.specs.Characters.{StandsOut, place_behind}
use Rattle.gvdl_tokens.specs.Tokens.{IsAtFront, IsNoToken, IsTooLarge}
use Rattle.gvdl_tokens.specs.Reading.{behind_gap, moved, IsLexeme, ReadsToken}
use Rattle.gvdl_tokens.specs.Lexing.{AreTheTokens, IsReadUpTo}
use Rattle.gvdl_tokens.proofs.Gaps.{gap_before, behind_stands}
use Rattle.gvdl_tokens.proofs.Places.{moved_is}
use Rattle.gvdl_tokens.proofs.Utf8.{past_gap, past_token}
use Rattle.gvdl_tokens.proofs.Whole.{IsFront, read_all, read_more, at_end, only_end, no_next, at_syntax, only_syntax, no_next_at_syntax, at_large, only_large, no_next_at_large}

cut : (n : ℕ) (bytes front back : List ℕ) → front ≡ take n bytes → back ≡ drop n bytes → bytes ≡ front ++ back
cut n bytes front back e f = sym (take-append-drop n bytes) ∙ ap (λ (x : List ℕ). x ++ drop n bytes) (sym e) ∙ ap (λ (x : List ℕ). front ++ x) (sym f)

pub front_of : (n : ℕ) (before rest gap behind : List ℕ) (place here : Place) → gap ≡ take n rest → behind ≡ drop n rest → drop n rest ≡ behind_gap rest → here ≡ moved place gap → place ≡ place_behind before → IsFront rest gap behind before here
front_of n before rest gap behind place here e f g h k = record {
  split = cut n rest gap behind e f;
  behind_is = f ∙ g;
  here_is = h ∙ ap (λ (p : Place). moved p gap) k ∙ moved_is before gap;
}

module _ (before rest gap behind : List ℕ) (here : Place) (f : IsFront rest gap behind before here) (some : behind ≢ []) where
  some_behind : behind_gap rest ≢ []
  some_behind e = some (f.behind_is ∙ e)

  pub stands : StandsOut behind
  stands = subst StandsOut (sym f.behind_is) (behind_stands rest some_behind)

  pub utf8_behind : IsUtf8 rest → IsUtf8 behind
  utf8_behind u = past_gap rest gap behind f.split (gap_before rest gap (f.split ∙ ap (λ (x : List ℕ). gap ++ x) f.behind_is) some_behind) u

module _ (text : List ℕ) (tokens : List Token) (places : List Place) (place : Place) (before rest : List ℕ) (so_far : IsReadUpTo text tokens places place before rest) (gap behind : List ℕ) (here : Place) (f : IsFront rest gap behind before here) where
  pub ends_at_end : behind ≡ [] → AreTheTokens text (record { tokens = tokens; places = places; ending = ending.End here })
  ends_at_end e = read_all text tokens places place before rest so_far (ending.End here)
      (record { is = at_end before rest gap behind here f e; only = only_end before rest gap behind here f e; none = no_next before rest gap behind here f e })

  pub ends_at_syntax : IsNoToken behind → AreTheTokens text (record { tokens = tokens; places = places; ending = ending.Syntax here })
  ends_at_syntax n = read_all text tokens places place before rest so_far (ending.Syntax here)
      (record { is = at_syntax before rest gap behind here f n; only = only_syntax before rest gap behind here f n; none = no_next_at_syntax before rest gap behind here f n })

  pub ends_at_large : IsTooLarge behind → AreTheTokens text (record { tokens = tokens; places = places; ending = ending.NumberTooLarge here })
  ends_at_large n = read_all text tokens places place before rest so_far (ending.NumberTooLarge here)
      (record { is = at_large before rest gap behind here f n; only = only_large before rest gap behind here f n; none = no_next_at_large before rest gap behind here f n })

  module _ (some : behind ≢ []) (token : Token) (len : ℕ) (l : IsLexeme behind token len) (taken left : List ℕ) (taken_is : taken ≡ take len behind) (left_is : left ≡ drop len behind) where
    t : IsAtFront token behind left
    t = subst (IsAtFront token behind) (sym left_is) l.front

    taken_spells : taken ≡ t.spelling
    taken_spells = append_cancel_right taken t.spelling left (sym (cut len behind taken left taken_is left_is) ∙ t.split)

    pub utf8_left : IsUtf8 behind → IsUtf8 left
    utf8_left u = past_token token behind left t u

    pub step : (after : Place) (longer : List Token) (longer_places : List Place) → after ≡ moved here taken → longer ≡ tokens ++ token ∷ [] → longer_places ≡ places ++ here ∷ []
        → (read : List ℕ) × IsReadUpTo text longer longer_places after read left
    step after longer longer_places e g h =
        let after_is : after ≡ place_behind (before ++ gap ++ t.spelling) =
        e ∙ ap (λ (p : Place). moved p taken) f.here_is ∙ moved_is (before ++ gap) taken ∙ ap (λ (x : List ℕ). place_behind (before ++ gap ++ x)) taken_spells in
        let more = read_more text tokens places place before rest so_far gap behind here f token left t some after after_is in (
          before ++ gap ++ t.spelling,
          subst (λ (ts : List Token). IsReadUpTo text ts longer_places after (before ++ gap ++ t.spelling) left) (sym g)
              (subst (λ (ps : List Place). IsReadUpTo text (tokens ++ token ∷ []) ps after (before ++ gap ++ t.spelling) left) (sym h) more),
        )

-- ---- what was found

module _ (bytes : List ℕ) (found_ : Found) (reads : ReadsToken bytes (Ok found_)) where
  pub token_found : (token : Token) (len : ℕ) → found_ ≡ found.Token token len → IsLexeme bytes token len
  token_found token len e = subst (λ (x : Found). ReadsToken bytes (Ok x)) e reads

  pub nothing_found : found_ ≡ found.Nothing → IsNoToken bytes
  nothing_found e = subst (λ (x : Found). ReadsToken bytes (Ok x)) e reads

  pub large_found : found_ ≡ found.TooLarge → IsTooLarge bytes
  large_found e = subst (λ (x : Found). ReadsToken bytes (Ok x)) e reads
