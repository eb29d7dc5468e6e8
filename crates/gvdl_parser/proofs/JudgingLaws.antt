-- From the tokens of a text to the text.
use Rattle.std.proofs.Common.{◌≡◌, ◌≢◌, ◌⊎◌, ℕ, ◌+◌, List, [], ◌∷◌, ◌++◌, length, take, drop, Option, Some, None, Result, Ok, Err, refl, sym, ap, subst, ◌∙◌, inl, inr, arith}
use Rattle.std.specs.Prelude.{IfOk, slice_get}
use Rattle.std.specs.Str.{IsUtf8}
use Rattle.std.proofs.lemmas.List.{append-nil, take-append-drop}
use Rattle.std.proofs.lemmas.Bool.{cases_lt}
use Rattle.std.proofs.lemmas.Option.{slice_get_within, slice_get_cases}
use Rattle.phrase_theory.specs.Reading.{Begins}
use Rattle.phrase_theory.specs.SequenceLaws.{stays_phrase}
use Rattle.phrase_theory.specs.FirstFaultLaws.{syntax_once, deep_once, not_both, sound_no_syntax, sound_no_deep}
use Rattle.phrase_theory.specs.FirstFault.{IsSoundTo, IsFirstSyntax, IsFirstTooDeep}
use Rattle.gvdl_tokens.specs.declared.token.Token.{Token}
use Rattle.gvdl_tokens.specs.declared.place.Place.{Place}
use Rattle.gvdl_tokens.specs.declared.tokens.Ending.{Ending}
use Rattle.gvdl_tokens.specs.declared.tokens.Ending.TheVariants as ending
use Rattle.gvdl_tokens.specs.declared.tokens.Tokens.{Tokens}
use Rattle.gvdl_tokens.specs.Tokens.{Lexes, HasTokens}
use Rattle.gvdl_tree.specs.declared.script.Script.{Script}
use Rattle.gvdl_parser.specs.declared.fault.ScriptFault.{ScriptFault}
use Rattle.gvdl_parser.specs.declared.fault.ScriptFault.TheVariants as faults
use Rattle.gvdl_parser.specs.declared.fault.ParseFault.{ParseFault}
use Rattle.gvdl_parser.specs.declared.fault.ParseFault.TheVariants as outcome
use Rattle.gvdl_parser.specs.Terminals.{opens}
use Rattle.gvdl_parser.specs.Statements.{script}
use Rattle.gvdl_parser.specs.Parsing.{IsTheScript}
use Rattle.gvdl_parser.specs.Script.{IsScriptWith, IsScript, EndsBadly, HasSyntaxAt, IsFirst, IsFirstFault}
use Rattle.gvdl_parser.specs.Judging.{ending_fault, syntax_fault, deep_fault, Judges}

-- each token has a place
places_of : (before bytes : List ℕ) (tokens : List Token) (places : List Place) (end : Ending) → Lexes before bytes tokens places end → length places ≡ length tokens
places_of before bytes [] [] end h = refl
places_of before bytes [] (p ∷ places) end h = absurd h
places_of before bytes (t ∷ tokens) [] end h = absurd h
places_of before bytes (t ∷ tokens) (p ∷ places) end h = omega (arith, places_of (before ++ h.1.gap ++ h.1.front.spelling) h.0 tokens places end h.3)

pub as_many : (text : List ℕ) (all : Tokens) → HasTokens text all → length all.places ≡ length all.tokens
as_many text all has = places_of [] _ all.tokens all.places all.ending has.lexed

-- ---- whole lists of tokens

whole_take : (ts : List Token) → take (length ts) ts ≡ ts
whole_take [] = refl
whole_take (t ∷ ts) = ap (λ (x : List Token). t ∷ x) (whole_take ts)

-- a script begins with each of its fronts
begins_front : (n : ℕ) (ts : List Token) (tree : Script) (k : ℕ) → script n ts tree → Begins (script n) (take k ts)
begins_front n ts tree k p = record { more = drop k ts; tree = tree; whole = subst (λ (x : List Token). script n x tree) (sym (take-append-drop k ts)) p }

sound_whole : (ts : List Token) (tree : Script) → script 64 ts tree → IsSoundTo opens script 64 ts (length ts)
sound_whole ts tree p =
    let q : script 64 (take (length ts) ts) tree = subst (λ (x : List Token). script 64 x tree) (sym (whole_take ts)) p in
    record {
      possible = (64, record { more = []; tree = tree; whole = subst (λ (x : List Token). script 64 x tree) (sym (append-nil (take (length ts) ts))) q });
      stays = stays_phrase (script 64) (take (length ts) ts) tree q;
    }

-- ---- the script, and something else behind it

ended_badly : (all : Tokens) (e : Ending) → e ≡ all.ending → IsSoundTo opens script 64 all.tokens (length all.tokens) → ((place : Place) → e ≢ ending.End place) → IsFirst all (ending_fault e)
ended_badly all (ending.End place) same sound broken = absurd (broken place refl)
ended_badly all (ending.Syntax place) same sound broken = inr (sound, subst (λ (x : Ending). EndsBadly all.tokens x place) same refl)
ended_badly all (ending.NumberTooLarge place) same sound broken = (sound, sym same)

pub broken_behind : (all : Tokens) (tree : Script) → IsTheScript all.tokens tree → ((place : Place) → all.ending ≢ ending.End place) → Judges all (Err (outcome.Fault (ending_fault all.ending)))
broken_behind all tree p broken = (ended_badly all all.ending refl (sound_whole all.tokens tree p.whole) broken, λ other q ends. broken ends.0 ends.1)

-- ---- a token that no script has there

ended_early : (all : Tokens) (e : Ending) → e ≡ all.ending → IsSoundTo opens script 64 all.tokens (length all.tokens) → ((n : ℕ) (tree : Script) → script n all.tokens tree → ⊥) → IsFirst all (ending_fault e)
ended_early all (ending.End place) same sound none = inr (sound, subst (λ (x : Ending). EndsBadly all.tokens x place) same (refl, none))
ended_early all (ending.Syntax place) same sound none = inr (sound, subst (λ (x : Ending). EndsBadly all.tokens x place) same refl)
ended_early all (ending.NumberTooLarge place) same sound none = (sound, sym same)

syntax_by : (all : Tokens) (k : ℕ) (x : Option Place) → slice_get all.places k ≡ x → length all.places ≡ length all.tokens → IsFirstSyntax opens script 64 all.tokens k → IsFirst all (syntax_fault x all.ending)
syntax_by all k (Some place) e many first = inl (k, omega (arith, slice_get_within all.places k place e, many), first, e)
syntax_by all k None e many first =
    let at : k ≡ length all.tokens = elim (slice_get_cases all.places k).1 [ inl h ↦ absurd (let no : Some h.0 ≡ None = sym h.2 ∙ e in cc) | inr h ↦ omega (arith, h.0, many, first.within) ] in
    ended_early all all.ending refl (subst (λ (x : ℕ). IsSoundTo opens script 64 all.tokens x) at first.sound) (first.at_end at)

no_script_at : (all : Tokens) (k : ℕ) → IsFirstSyntax opens script 64 all.tokens k → (tree : Script) → script 64 all.tokens tree → ⊥
no_script_at all k first tree p = elim (cases_lt k (length all.tokens)) [ inl lt ↦ first.here lt (64, begins_front 64 all.tokens tree (k + 1) p) | inr ge ↦ first.at_end (omega (arith, ge, first.within)) 64 tree p ]

pub syntax_judged : (all : Tokens) (k : ℕ) (fault : ScriptFault) → length all.places ≡ length all.tokens → IsFirstSyntax opens script 64 all.tokens k → fault ≡ syntax_fault (slice_get all.places k) all.ending → Judges all (Err (outcome.Fault fault))
syntax_judged all k fault many first e = (subst (λ (x : ScriptFault). IsFirst all x) (sym e) (syntax_by all k (slice_get all.places k) refl many first), λ tree p ends. no_script_at all k first tree p)

-- ---- a level too many

deep_by : (all : Tokens) (k : ℕ) (x : Option Place) → slice_get all.places k ≡ x → length all.places ≡ length all.tokens → IsFirstTooDeep opens script 64 all.tokens k → IsFirst all (deep_fault x all.ending)
deep_by all k (Some place) e many first = (k, first, e)
deep_by all k None e many first =
    elim (slice_get_cases all.places k).1 [ inl h ↦ absurd (let no : Some h.0 ≡ None = sym h.2 ∙ e in cc) | inr h ↦ absurd (omega (arith, h.0, many, first.within)) ]

pub deep_judged : (all : Tokens) (k : ℕ) (fault : ScriptFault) → length all.places ≡ length all.tokens → IsFirstTooDeep opens script 64 all.tokens k → fault ≡ deep_fault (slice_get all.places k) all.ending → Judges all (Err (outcome.Fault fault))
deep_judged all k fault many first e = (subst (λ (x : ScriptFault). IsFirst all x) (sym e) (deep_by all k (slice_get all.places k) refl many first), λ tree p ends. first.here (begins_front 64 all.tokens tree (k + 1) p))

-- ---- one first fault

ends_once : (ts : List Token) (e : Ending) (a b : Place) → EndsBadly ts e a → EndsBadly ts e b → a ≡ b
ends_once ts (ending.End place) a b p q = sym p.0 ∙ q.0
ends_once ts (ending.Syntax place) a b p q = sym p ∙ q
ends_once ts (ending.NumberTooLarge place) a b p q = absurd p

token_once : (places : List Place) (j k : ℕ) (a b : Place) → j ≡ k → slice_get places j ≡ Some a → slice_get places k ≡ Some b → a ≡ b
token_once places j k a b e p q = let both : Some a ≡ Some b = sym p ∙ ap (λ (x : ℕ). slice_get places x) e ∙ q in cc

syntax_place : (all : Tokens) (a b : Place) → HasSyntaxAt all a → HasSyntaxAt all b → a ≡ b
syntax_place all a b p q = elim p [
  | inl x ↦ elim q [
    | inl y ↦ token_once all.places x.0 y.0 a b (syntax_once x.0 y.0 x.2 y.2) x.3 y.3
    | inr y ↦ absurd (sound_no_syntax x.0 y.0 x.1 x.2)
  ]
  | inr x ↦ elim q [
    | inl y ↦ absurd (sound_no_syntax y.0 x.0 y.1 y.2)
    | inr y ↦ ends_once all.tokens all.ending a b x.1 y.1
  ]
]

syntax_no_number : (all : Tokens) (a b : Place) → HasSyntaxAt all a → IsSoundTo opens script 64 all.tokens (length all.tokens) → all.ending ≡ ending.NumberTooLarge b → ⊥
syntax_no_number all a b p s e = elim p [
  | inl x ↦ sound_no_syntax x.0 s x.1 x.2
  | inr x ↦ subst (λ (y : Ending). EndsBadly all.tokens y a) e x.1
]

syntax_no_deep : (all : Tokens) (a : Place) (k : ℕ) → HasSyntaxAt all a → IsFirstTooDeep opens script 64 all.tokens k → ⊥
syntax_no_deep all a k p q = elim p [ inl x ↦ not_both x.0 k x.2 q | inr x ↦ sound_no_deep k x.0 q ]

first_once : (all : Tokens) (f g : ScriptFault) → IsFirst all f → IsFirst all g → f ≡ g
first_once all (faults.Syntax l c) (faults.Syntax m d) p q =
    let a : Place = record { line = l; column = c } in
    let b : Place = record { line = m; column = d } in
    let e : a ≡ b = syntax_place all a b p q in
    let lines : l ≡ m = ap (λ (x : Place). x.line) e in
    let columns : c ≡ d = ap (λ (x : Place). x.column) e in
    cc
first_once all (faults.Syntax l c) (faults.NumberTooLarge m d) p q = absurd (syntax_no_number all _ _ p q.0 q.1)
first_once all (faults.Syntax l c) (faults.TooDeep m d) p q = absurd (syntax_no_deep all _ q.0 p q.1)
first_once all (faults.Syntax l c) faults.NotUtf8 p q = absurd q
first_once all (faults.NumberTooLarge l c) (faults.Syntax m d) p q = absurd (syntax_no_number all _ _ q p.0 p.1)
first_once all (faults.NumberTooLarge l c) (faults.NumberTooLarge m d) p q =
    let a : Place = record { line = l; column = c } in
    let b : Place = record { line = m; column = d } in
    let ends : ending.NumberTooLarge a ≡ ending.NumberTooLarge b = sym p.1 ∙ q.1 in
    let e : a ≡ b = cc in
    let lines : l ≡ m = ap (λ (x : Place). x.line) e in
    let columns : c ≡ d = ap (λ (x : Place). x.column) e in
    cc
first_once all (faults.NumberTooLarge l c) (faults.TooDeep m d) p q = absurd (sound_no_deep q.0 p.0 q.1)
first_once all (faults.NumberTooLarge l c) faults.NotUtf8 p q = absurd q
first_once all (faults.TooDeep l c) (faults.Syntax m d) p q = absurd (syntax_no_deep all _ p.0 q p.1)
first_once all (faults.TooDeep l c) (faults.NumberTooLarge m d) p q = absurd (sound_no_deep p.0 q.0 p.1)
first_once all (faults.TooDeep l c) (faults.TooDeep m d) p q =
    let a : Place = record { line = l; column = c } in
    let b : Place = record { line = m; column = d } in
    let e : a ≡ b = token_once all.places p.0 q.0 a b (deep_once p.0 q.0 p.1 q.1) p.2 q.2 in
    let lines : l ≡ m = ap (λ (x : Place). x.line) e in
    let columns : c ≡ d = ap (λ (x : Place). x.column) e in
    cc
first_once all (faults.TooDeep l c) faults.NotUtf8 p q = absurd q
first_once all faults.NotUtf8 g p q = absurd p

-- a script has no fault
no_fault : (all : Tokens) (f : ScriptFault) (tree : Script) → script 64 all.tokens tree → (place : Place) → all.ending ≡ ending.End place → IsFirst all f → ⊥
no_fault all (faults.Syntax l c) tree p place e q = elim q [
  | inl x ↦ no_script_at all x.0 x.2 tree p
  | inr x ↦ (subst (λ (y : Ending). EndsBadly all.tokens y (record { line = l; column = c })) e x.1).1 64 tree p
]
no_fault all (faults.NumberTooLarge l c) tree p place e q = let no : ending.End place ≡ ending.NumberTooLarge (record { line = l; column = c }) = sym e ∙ q.1 in absurd cc
no_fault all (faults.TooDeep l c) tree p place e q = q.1.here (begins_front 64 all.tokens tree (q.0 + 1) p)
no_fault all faults.NotUtf8 tree p place e q = absurd q

-- ---- texts

module _ (text : List ℕ) (all : Tokens) (has : HasTokens text all) (lone : (other : Tokens) → HasTokens text other → other ≡ all) where
  pub found : (r : Result Script ParseFault) → Judges all r → IfOk r (λ s. IsScript text s)
  found (Ok tree) h = record { all = all; has = has; place = h.1.0; ended = h.1.1; phrase = h.0.whole }
  found (Err e) h = tt

  same_phrase : (n : ℕ) (other : Script) (k : IsScriptWith n text other) → script n all.tokens other
  same_phrase n other k = subst (λ (x : Tokens). script n x.tokens other) (lone k.all k.has) k.phrase

  pub only : (r : Result Script ParseFault) → Judges all r → IfOk r (λ s. (n : ℕ) (other : Script) → IsScriptWith n text other → other ≡ s)
  only (Ok tree) h = λ n other k. h.0.only n other (same_phrase n other k)
  only (Err e) h = tt

  of_text : (f : ScriptFault) → IsFirst all f → IsFirstFault text f
  of_text faults.NotUtf8 h = absurd h
  of_text (faults.Syntax l c) h = (all, has, h)
  of_text (faults.NumberTooLarge l c) h = (all, has, h)
  of_text (faults.TooDeep l c) h = (all, has, h)

  pub faulted : (r : Result Script ParseFault) → Judges all r → (f : ScriptFault) → r ≡ Err (outcome.Fault f) → IsFirstFault text f
  faulted (Ok tree) h f e = absurd cc
  faulted (Err (outcome.Fault g)) h f e = let same : g ≡ f = cc in of_text f (subst (λ (x : ScriptFault). IsFirst all x) same h.0)
  faulted (Err outcome.NoMemory) h f e = absurd cc

  pub all_scripts : (r : Result Script ParseFault) → Judges all r → (s : Script) → IsScript text s → (r ≡ Ok s) ⊎ (r ≡ Err outcome.NoMemory)
  all_scripts (Ok tree) h s k = inl (ap Ok (sym (h.0.only 64 s (same_phrase 64 s k))))
  all_scripts (Err (outcome.Fault g)) h s k = absurd (h.1 s (same_phrase 64 s k) (k.place, subst (λ (x : Tokens). x.ending ≡ ending.End k.place) (lone k.all k.has) k.ended))
  all_scripts (Err outcome.NoMemory) h s k = inr refl

  of_tokens : (f : ScriptFault) → IsFirstFault text f → IsFirst all f
  of_tokens faults.NotUtf8 h = absurd (h has.utf8)
  of_tokens (faults.Syntax l c) h = subst (λ (x : Tokens). IsFirst x (faults.Syntax l c)) (lone h.0 h.1) h.2
  of_tokens (faults.NumberTooLarge l c) h = subst (λ (x : Tokens). IsFirst x (faults.NumberTooLarge l c)) (lone h.0 h.1) h.2
  of_tokens (faults.TooDeep l c) h = subst (λ (x : Tokens). IsFirst x (faults.TooDeep l c)) (lone h.0 h.1) h.2

  pub all_faults : (r : Result Script ParseFault) → Judges all r → (f : ScriptFault) → IsFirstFault text f → (r ≡ Err (outcome.Fault f)) ⊎ (r ≡ Err outcome.NoMemory)
  all_faults (Ok tree) h f k = absurd (no_fault all f tree h.0.whole h.1.0 h.1.1 (of_tokens f k))
  all_faults (Err (outcome.Fault g)) h f k = inl (ap (λ (x : ScriptFault). Err (outcome.Fault x)) (first_once all g f h.0 (of_tokens f k)))
  all_faults (Err outcome.NoMemory) h f k = inr refl

-- ---- texts that are not UTF-8

pub not_text : (text : List ℕ) → (IsUtf8 text → ⊥) → (r : Result Script ParseFault) → r ≡ Err (outcome.Fault faults.NotUtf8) → (f : ScriptFault) → r ≡ Err (outcome.Fault f) → IsFirstFault text f
not_text text h r a f e = let same : faults.NotUtf8 ≡ f = cc in subst (λ (x : ScriptFault). IsFirstFault text x) same h

pub no_text : (text : List ℕ) → (IsUtf8 text → ⊥) → (r : Result Script ParseFault) (s : Script) → IsScript text s → (r ≡ Ok s) ⊎ (r ≡ Err outcome.NoMemory)
no_text text h r s k = absurd (h k.has.utf8)

pub lone_fault : (text : List ℕ) → (IsUtf8 text → ⊥) → (r : Result Script ParseFault) → r ≡ Err (outcome.Fault faults.NotUtf8) → (f : ScriptFault) → IsFirstFault text f → (r ≡ Err (outcome.Fault f)) ⊎ (r ≡ Err outcome.NoMemory)
lone_fault text h r e faults.NotUtf8 k = inl e
lone_fault text h r e _ k = absurd (h k.1.utf8)
