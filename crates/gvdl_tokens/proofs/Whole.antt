-- From tokens at the front to the tokens of a whole text.
use Rattle.std.proofs.Common.{◌≡◌, ◌≢◌, ℕ, List, [], ◌∷◌, ◌++◌, refl, sym, ap, subst, ◌∙◌, append_assoc}
use Rattle.std.proofs.lemmas.List.{append-nil, append_cancel_right}
use Rattle.gvdl_tokens.specs.declared.token.Token.{Token}
use Rattle.gvdl_tokens.specs.declared.place.Place.{Place}
use Rattle.gvdl_tokens.specs.declared.tokens.Ending.{Ending}
use Rattle.gvdl_tokens.specs.declared.tokens.Ending.TheVariants as ending
use Rattle.gvdl_tokens.specs.declared.tokens.Tokens.{Tokens}
use Rattle.gvdl_tokens.specs.Characters.{IsGap, StandsOut, place_behind}
use Rattle.gvdl_tokens.specs.Tokens.{IsAtFront, IsNext, IsTooLarge, IsNoToken, Meets, EndsSo, Lexes}
use Rattle.gvdl_tokens.specs.Reading.{behind_gap}
use Rattle.gvdl_tokens.specs.Lexing.{AreTheTokens, IsReadUpTo}
use Rattle.gvdl_tokens.proofs.Gaps.{gap_before, last_gap, behind_is, nothing_behind}
use Rattle.gvdl_tokens.proofs.Fronts.{front_stands, large_stands, none_in_nothing, rest_is, token_is, large_no_token}

pub start : (text : List ℕ) (place : Place) → place ≡ place_behind [] → IsReadUpTo text [] [] place [] text
start text place e = record { split = refl; place_is = e; whole = λ ts ps end l. l; only = λ ts ps end l. (ts, ps, refl, refl, l) }

-- ---- what comes next, in the words of what is behind the gap

-- the gap at the front of some bytes, and where it ends
pub record IsFront (bytes gap behind : List ℕ) (before : List ℕ) (here : Place) : Type 0 where
  pub split : bytes ≡ gap ++ behind
  pub behind_is : behind ≡ behind_gap bytes
  pub here_is : here ≡ place_behind (before ++ gap)

module _ (before bytes gap behind : List ℕ) (here : Place) (f : IsFront bytes gap behind before here) where
  nonempty : behind ≢ [] → behind_gap bytes ≢ []
  nonempty some e = some (f.behind_is ∙ e)

  is_gap : behind ≢ [] → IsGap gap
  is_gap some = gap_before bytes gap (f.split ∙ ap (λ (x : List ℕ). gap ++ x) f.behind_is) (nonempty some)

  -- any other split at something that stands out is the same
  same_behind : (gap' behind' : List ℕ) → bytes ≡ gap' ++ behind' → IsGap gap' → StandsOut behind' → behind' ≡ behind
  same_behind gap' behind' e g h = sym (behind_is bytes gap' behind' e g h) ∙ sym f.behind_is

  same_gap : (gap' behind' : List ℕ) → bytes ≡ gap' ++ behind' → behind' ≡ behind → gap' ≡ gap
  same_gap gap' behind' e same = append_cancel_right gap' gap behind (ap (λ (x : List ℕ). gap' ++ x) (sym same) ∙ sym e ∙ f.split)

  -- ---- a token

  pub next_is : (token : Token) (rest : List ℕ) → IsAtFront token behind rest → behind ≢ [] → IsNext token bytes rest
  next_is token rest t some = record { gap = gap; behind = behind; split = f.split; skipped = is_gap some; front = t }

  module _ (token other : Token) (rest left : List ℕ) (t : IsAtFront token behind rest) (n : IsNext other bytes left) where
    stands : StandsOut n.behind
    stands = front_stands n.behind left other n.front

    pub same_front : n.behind ≡ behind
    same_front = same_behind n.gap n.behind n.split n.skipped stands

    pub gap_same : n.gap ≡ gap
    gap_same = same_gap n.gap n.behind n.split same_front

    moved_front : IsAtFront other behind left
    moved_front = record { spelling = n.front.spelling; split = sym same_front ∙ n.front.split; spells = n.front.spells; longest = n.front.longest }

    pub token_same : other ≡ token
    token_same = token_is behind rest left token other t moved_front

    retold : IsAtFront token behind left
    retold = subst (λ (x : Token). IsAtFront x behind left) token_same moved_front

    pub rest_same : left ≡ rest
    rest_same = sym (rest_is token behind rest left t retold)

    pub spelling_same : n.front.spelling ≡ t.spelling
    spelling_same = append_cancel_right n.front.spelling t.spelling rest (ap (λ (x : List ℕ). n.front.spelling ++ x) (sym rest_same) ∙ sym n.front.split ∙ same_front ∙ t.split)

  -- ---- an ending

  -- where a token comes next, nothing ends
  pub no_ending : (token : Token) (rest : List ℕ) → IsAtFront token behind rest → (end : Ending) → EndsSo before bytes end → ⊥
  no_ending token rest t (ending.End p) e = none_in_nothing token rest (subst (λ (x : List ℕ). IsAtFront token x rest) (f.behind_is ∙ nothing_behind bytes e.0) t)
  no_ending token rest t (ending.Syntax p) e =
      let same : e.behind ≡ behind = same_behind e.gap e.behind e.split e.skipped e.here.stands in
      e.here.none token rest (subst (λ (x : List ℕ). IsAtFront token x rest) (sym same) t)
  no_ending token rest t (ending.NumberTooLarge p) e =
      let same : e.behind ≡ behind = same_behind e.gap e.behind e.split e.skipped (large_stands e.behind e.here) in
      large_no_token e.behind rest token e.here (subst (λ (x : List ℕ). IsAtFront token x rest) (sym same) t)

  -- the place of what is met
  met_at : (P : List ℕ → Type 0) (p : Place) (m : Meets P before bytes p) → m.behind ≡ behind → p ≡ here
  met_at P p m same = m.place_is ∙ ap (λ (x : List ℕ). place_behind (before ++ x)) (same_gap m.gap m.behind m.split same) ∙ sym f.here_is

  meets : (P : List ℕ → Type 0) → P behind → behind ≢ [] → Meets P before bytes here
  meets P h some = record { gap = gap; behind = behind; split = f.split; skipped = is_gap some; here = h; place_is = f.here_is }

  -- the end
  module _ (nothing : behind ≡ []) where
    whole_gap : bytes ≡ gap
    whole_gap = f.split ∙ ap (λ (x : List ℕ). gap ++ x) nothing ∙ append-nil gap

    pub at_end : EndsSo before bytes (ending.End here)
    at_end = (last_gap bytes (sym f.behind_is ∙ nothing), f.here_is ∙ ap (λ (x : List ℕ). place_behind (before ++ x)) (sym whole_gap))

    nothing_stands : (xs : List ℕ) → xs ≡ behind → StandsOut xs → ⊥
    nothing_stands [] e h = h
    nothing_stands (x ∷ xs) e h = let no_way : x ∷ xs ≡ [] = e ∙ nothing in absurd cc

    pub only_end : (end : Ending) → EndsSo before bytes end → end ≡ ending.End here
    only_end (ending.End p) e = ap ending.End (e.1 ∙ ap (λ (x : List ℕ). place_behind (before ++ x)) whole_gap ∙ sym f.here_is)
    only_end (ending.Syntax p) e = absurd (nothing_stands e.behind (same_behind e.gap e.behind e.split e.skipped e.here.stands) e.here.stands)
    only_end (ending.NumberTooLarge p) e = absurd (nothing_stands e.behind (same_behind e.gap e.behind e.split e.skipped (large_stands e.behind e.here)) (large_stands e.behind e.here))

    pub no_next : (token : Token) (rest : List ℕ) → IsNext token bytes rest → ⊥
    no_next token rest n = nothing_stands n.behind (same_behind n.gap n.behind n.split n.skipped (front_stands n.behind rest token n.front)) (front_stands n.behind rest token n.front)

  not_nothing : StandsOut behind → behind ≢ []
  not_nothing h e = subst StandsOut e h

  -- no token
  module _ (none : IsNoToken behind) where
    pub at_syntax : EndsSo before bytes (ending.Syntax here)
    at_syntax = meets IsNoToken none (not_nothing none.stands)

    pub only_syntax : (end : Ending) → EndsSo before bytes end → end ≡ ending.Syntax here
    only_syntax (ending.End p) e = absurd (not_nothing none.stands (f.behind_is ∙ nothing_behind bytes e.0))
    only_syntax (ending.Syntax p) e = ap ending.Syntax (met_at IsNoToken p e (same_behind e.gap e.behind e.split e.skipped e.here.stands))
    only_syntax (ending.NumberTooLarge p) e = absurd (none.small (subst IsTooLarge (same_behind e.gap e.behind e.split e.skipped (large_stands e.behind e.here)) e.here))

    pub no_next_at_syntax : (token : Token) (rest : List ℕ) → IsNext token bytes rest → ⊥
    no_next_at_syntax token rest n =
        none.none token rest (subst (λ (x : List ℕ). IsAtFront token x rest) (same_behind n.gap n.behind n.split n.skipped (front_stands n.behind rest token n.front)) n.front)

  -- a number that is too large
  module _ (large : IsTooLarge behind) where
    pub at_large : EndsSo before bytes (ending.NumberTooLarge here)
    at_large = meets IsTooLarge large (not_nothing (large_stands behind large))

    pub only_large : (end : Ending) → EndsSo before bytes end → end ≡ ending.NumberTooLarge here
    only_large (ending.End p) e = absurd (not_nothing (large_stands behind large) (f.behind_is ∙ nothing_behind bytes e.0))
    only_large (ending.Syntax p) e = absurd (e.here.small (subst IsTooLarge (sym (same_behind e.gap e.behind e.split e.skipped e.here.stands)) large))
    only_large (ending.NumberTooLarge p) e = ap ending.NumberTooLarge (met_at IsTooLarge p e (same_behind e.gap e.behind e.split e.skipped (large_stands e.behind e.here)))

    pub no_next_at_large : (token : Token) (rest : List ℕ) → IsNext token bytes rest → ⊥
    no_next_at_large token rest n =
        large_no_token behind rest token large (subst (λ (x : List ℕ). IsAtFront token x rest) (same_behind n.gap n.behind n.split n.skipped (front_stands n.behind rest token n.front)) n.front)

-- ---- all tokens

abbrev all : List Token → List Place → Ending → Tokens
all ts ps e = record { tokens = ts; places = ps; ending = e }

all_same : (x y : Tokens) → x.tokens ≡ y.tokens → x.places ≡ y.places → x.ending ≡ y.ending → x ≡ y
all_same x y p q r = ap (λ (ts : List Token). all ts x.places x.ending) p ∙ ap (λ (ps : List Place). all y.tokens ps x.ending) q ∙ ap (λ (e : Ending). all y.tokens y.places e) r

-- nothing but this ending comes next
pub record OnlyEnds (before bytes : List ℕ) (end : Ending) : Type 0 where
  pub is : EndsSo before bytes end
  pub only : (other : Ending) → EndsSo before bytes other → other ≡ end
  pub none : (token : Token) (rest : List ℕ) → IsNext token bytes rest → ⊥

module _ (text : List ℕ) (tokens : List Token) (places : List Place) (place : Place) (before bytes : List ℕ) (so_far : IsReadUpTo text tokens places place before bytes) where
  -- the text ends so
  pub read_all : (end : Ending) → OnlyEnds before bytes end → AreTheTokens text (record { tokens = tokens; places = places; ending = end })
  read_all end o = record {
    lexed = subst (λ (ts : List Token). Lexes [] text ts places end) (append-nil tokens) (subst (λ (ps : List Place). Lexes [] text (tokens ++ []) ps end) (append-nil places) (so_far.whole [] [] end o.is));
    only = λ other l. let so = so_far.only other.tokens other.places other.ending l in at_end so.0 so.1 other so.2 so.3 so.4;
  } where
    at_end : (more : List Token) (more_places : List Place) (other : Tokens) → other.tokens ≡ tokens ++ more → other.places ≡ places ++ more_places → Lexes before bytes more more_places other.ending
        → other ≡ record { tokens = tokens; places = places; ending = end }
    at_end [] [] other e g l = all_same other (record { tokens = tokens; places = places; ending = end }) (e ∙ append-nil tokens) (g ∙ append-nil places) (o.only other.ending l)
    at_end [] (p ∷ ps) other e g l = absurd l
    at_end (t ∷ ts) [] other e g l = absurd l
    at_end (t ∷ ts) (p ∷ ps) other e g l = absurd (o.none t l.0 l.1)

  -- one more token
  module _ (gap behind : List ℕ) (here : Place) (f : IsFront bytes gap behind before here) (token : Token) (rest : List ℕ) (t : IsAtFront token behind rest) (some : behind ≢ []) where
    read : List ℕ
    read = before ++ gap ++ t.spelling

    regrouped : {A : Type 0} (xs more : List A) (x : A) → xs ++ x ∷ more ≡ (xs ++ x ∷ []) ++ more
    regrouped xs more x = sym (append_assoc xs (x ∷ []) more)

    pub read_more : (after : Place) → after ≡ place_behind (before ++ gap ++ t.spelling) → IsReadUpTo text (tokens ++ token ∷ []) (places ++ here ∷ []) after (before ++ gap ++ t.spelling) rest
    unfolding next_is
    read_more after after_is = record {
      split = so_far.split ∙ ap (λ (x : List ℕ). before ++ x) (f.split ∙ ap (λ (x : List ℕ). gap ++ x) t.split)
          ∙ sym (append_assoc before gap (t.spelling ++ rest)) ∙ sym (append_assoc (before ++ gap) t.spelling rest);
      place_is = after_is;
      whole = λ ts ps end l.
          subst (λ (x : List Token). Lexes [] text x ((places ++ here ∷ []) ++ ps) end) (regrouped tokens ts token)
          (subst (λ (x : List Place). Lexes [] text (tokens ++ token ∷ ts) x end) (regrouped places ps here)
          (so_far.whole (token ∷ ts) (here ∷ ps) end (rest, next_is before bytes gap behind here f token rest t some, f.here_is, l)));
      only = λ ts ps end l. let so = so_far.only ts ps end l in after_one so.0 so.1 ts ps end so.2 so.3 so.4;
    } where
      after_one : (more : List Token) (more_places : List Place) (ts : List Token) (ps : List Place) (end : Ending) → ts ≡ tokens ++ more → ps ≡ places ++ more_places → Lexes before bytes more more_places end
          → (others : List Token) × (other_places : List Place) × (ts ≡ (tokens ++ token ∷ []) ++ others) × (ps ≡ (places ++ here ∷ []) ++ other_places) × Lexes (before ++ gap ++ t.spelling) rest others other_places end
      after_one [] [] ts ps end e g l = absurd (no_ending before bytes gap behind here f token rest t end l)
      after_one [] (p ∷ more_places) ts ps end e g l = absurd l
      after_one (x ∷ more) [] ts ps end e g l = absurd l
      after_one (x ∷ more) (p ∷ more_places) ts ps end e g l =
          let n = l.1 in
          let token_is_same : x ≡ token = token_same before bytes gap behind here f token x rest l.0 t n in
          let gap_is_same : n.gap ≡ gap = gap_same before bytes gap behind here f token x rest l.0 t n in
          let spelling_is_same : n.front.spelling ≡ t.spelling = spelling_same before bytes gap behind here f token x rest l.0 t n in
          let left_is_same : l.0 ≡ rest = rest_same before bytes gap behind here f token x rest l.0 t n in
          let place_is_same : p ≡ here = l.2 ∙ ap (λ (y : List ℕ). place_behind (before ++ y)) gap_is_same ∙ sym f.here_is in (
            more,
            more_places,
            e ∙ ap (λ (y : Token). tokens ++ y ∷ more) token_is_same ∙ regrouped tokens more token,
            g ∙ ap (λ (y : Place). places ++ y ∷ more_places) place_is_same ∙ regrouped places more_places here,
            subst (λ (y : List ℕ). Lexes (before ++ gap ++ y) rest more more_places end) spelling_is_same
                (subst (λ (y : List ℕ). Lexes (before ++ y ++ n.front.spelling) rest more more_places end) gap_is_same
                (subst (λ (y : List ℕ). Lexes (before ++ n.gap ++ n.front.spelling) y more more_places end) left_is_same l.3)),
          )
