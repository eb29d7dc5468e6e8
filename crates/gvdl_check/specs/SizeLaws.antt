-- A script has fewer statements than its text has bytes.
use Rattle.std.proofs.Common.{◌≡◌, ℕ, ◌≤◌, ◌<◌, ◌^◌, List, [], ◌∷◌, ◌++◌, length, drop, ap, inl, inr, arith, length-append, length-drop, if◌then◌else◌, ◌⊎◌, Bool, true, false}
use Rattle.std.specs.Prelude.{nat_eq}
use Rattle.std.specs.List.{starts_with}
use Rattle.phrase_theory.specs.Phrases.{◌∣◌, Then, Either, word, many}
use Rattle.gvdl_tokens.specs.declared.token.Token.{Token}
use Rattle.gvdl_tokens.specs.declared.token.Token.TheVariants as t
use Rattle.gvdl_tokens.specs.declared.token.Sign.{Sign}
use Rattle.gvdl_tokens.specs.declared.token.Sign.TheVariants as sign
use Rattle.gvdl_tokens.specs.declared.word.Word.{Word}
use Rattle.gvdl_tokens.specs.declared.word.Word.TheVariants as word
use Rattle.gvdl_tokens.specs.declared.place.Place.{Place}
use Rattle.gvdl_tokens.specs.declared.tokens.Ending.{Ending}
use Rattle.gvdl_tokens.specs.Spelling.{Spells, word_spelling, sign_spelling, IsWordShaped, IsDigits}
use Rattle.gvdl_tokens.specs.Tokens.{Lexes, byte_order_mark, unmarked}
use Rattle.gvdl_tree.specs.declared.script.Script.{Script}
use Rattle.gvdl_tree.specs.declared.script.Statement.{Statement}
use Rattle.gvdl_parser.specs.Statements.{behind, create, program, run, append, show, statement_phrase, script, insert, remove, aggregate, second_form, script_behind}
use Rattle.gvdl_check.specs.Written.{IsWritten}

-- ---- tokens take bytes

word_long : (w : Word) → 1 ≤ length (word_spelling w)
word_long word.Load = omega arith
word_long word.Graph = omega arith
word_long word.Nodes = omega arith
word_long word.Edges = omega arith
word_long word.Create = omega arith
word_long word.View = omega arith
word_long word.Collection = omega arith
word_long word.On = omega arith
word_long word.Where = omega arith
word_long word.Window = omega arith
word_long word.From = omega arith
word_long word.To = omega arith
word_long word.Width = omega arith
word_long word.Step = omega arith
word_long word.Program = omega arith
word_long word.Along = omega arith
word_long word.Out = omega arith
word_long word.In = omega arith
word_long word.Both = omega arith
word_long word.Start = omega arith
word_long word.Send = omega arith
word_long word.Gather = omega arith
word_long word.Update = omega arith
word_long word.Min = omega arith
word_long word.Max = omega arith
word_long word.Sum = omega arith
word_long word.Count = omega arith
word_long word.Run = omega arith
word_long word.Within = omega arith
word_long word.For = omega arith
word_long word.Rounds = omega arith
word_long word.Round = omega arith
word_long word.Order = omega arith
word_long word.Greedy = omega arith
word_long word.Declared = omega arith
word_long word.Split = omega arith
word_long word.None = omega arith
word_long word.Every = omega arith
word_long word.Auto = omega arith
word_long word.Keep = omega arith
word_long word.As = omega arith
word_long word.Append = omega arith
word_long word.Show = omega arith
word_long word.Work = omega arith
word_long word.And = omega arith
word_long word.Or = omega arith
word_long word.Not = omega arith
word_long word.Is = omega arith
word_long word.Absent = omega arith
word_long word.True = omega arith
word_long word.False = omega arith
word_long word.Src = omega arith
word_long word.Dst = omega arith
word_long word.Id = omega arith
word_long word.Value = omega arith
word_long word.Gathered = omega arith
word_long word.Outdeg = omega arith
word_long word.Edge = omega arith
word_long word.Node = omega arith
word_long word.If = omega arith
word_long word.Then = omega arith
word_long word.Else = omega arith
word_long word.Form = omega arith
word_long word.Insert = omega arith
word_long word.Remove = omega arith
word_long word.Tree = omega arith
word_long word.Group = omega arith
word_long word.By = omega arith
word_long word.Aggregate = omega arith
word_long word.Phases = omega arith
word_long word.Changes = omega arith
word_long word.Replay = omega arith

sign_long : (s : Sign) → 1 ≤ length (sign_spelling s)
sign_long sign.Semicolon = omega arith
sign_long sign.Comma = omega arith
sign_long sign.Colon = omega arith
sign_long sign.Dot = omega arith
sign_long sign.Open = omega arith
sign_long sign.Close = omega arith
sign_long sign.OpenBracket = omega arith
sign_long sign.CloseBracket = omega arith
sign_long sign.OpenBrace = omega arith
sign_long sign.CloseBrace = omega arith
sign_long sign.Plus = omega arith
sign_long sign.Minus = omega arith
sign_long sign.Star = omega arith
sign_long sign.Slash = omega arith
sign_long sign.Equal = omega arith
sign_long sign.NotEqual = omega arith
sign_long sign.Less = omega arith
sign_long sign.AtMost = omega arith
sign_long sign.Greater = omega arith
sign_long sign.AtLeast = omega arith

shaped_long : (bytes : List ℕ) → IsWordShaped bytes → 1 ≤ length bytes
shaped_long [] h = absurd h
shaped_long (b ∷ bs) h = omega arith

digits_long : (bytes : List ℕ) → IsDigits bytes → 1 ≤ length bytes
digits_long [] h = absurd h
digits_long (b ∷ bs) h = omega arith

token_long : (token : Token) (bytes : List ℕ) → Spells token bytes → 1 ≤ length bytes
token_long (t.Name name) bytes h = shaped_long bytes h.1.0
token_long (t.Quoted name) bytes h = omega (arith, ap (λ (l : List ℕ). length l) h.0)
token_long (t.Number n) bytes h = digits_long bytes h.0
token_long (t.Str s) bytes h = omega (arith, ap (λ (l : List ℕ). length l) h)
token_long (t.Word w) bytes h = omega (arith, word_long w, ap (λ (l : List ℕ). length l) h)
token_long (t.Sign s) bytes h = omega (arith, sign_long s, ap (λ (l : List ℕ). length l) h)
token_long t.End bytes h = absurd h

lexed_few : (before bytes : List ℕ) (tokens : List Token) (places : List Place) (end : Ending) → Lexes before bytes tokens places end → length tokens ≤ length bytes
lexed_few before bytes [] places end h = omega arith
lexed_few before bytes (token ∷ tokens) [] end h = absurd h
lexed_few before bytes (token ∷ tokens) (place ∷ places) end h =
    let next = h.1 in
    let more = lexed_few (before ++ next.gap ++ next.front.spelling) h.0 tokens places end h.3 in
    let long = token_long token next.front.spelling next.front.spells in
    omega (arith, more, long, ap (λ (l : List ℕ). length l) next.split, ap (λ (l : List ℕ). length l) next.front.split, length-append next.gap next.behind, length-append next.front.spelling h.0)

unmarked_short : (b : Bool) (text : List ℕ) → length (if b then drop 3 text else text) ≤ length text
unmarked_short true text = omega (arith, length-drop 3 text)
unmarked_short false text = omega arith

-- ---- statements take tokens

begun : {B : Type 0} (token : Token) (M : Unit {0} → List Token → B → Type 0) (ts : List Token) (b : B) → Then (word token) M ts b → 1 ≤ length ts
begun token M ts b h = omega (arith, ap (λ (l : List Token). length l) h.split, ap (λ (l : List Token). length l) h.first, length-append h.front h.back)

create_long : (n : ℕ) (ts : List Token) (s : Statement) → create n ts s → 1 ≤ length ts
unfolding create
create_long n ts s h = begun (t.Word word.Create) _ ts s h

program_long : (n : ℕ) (ts : List Token) (s : Statement) → program n ts s → 1 ≤ length ts
unfolding program behind
program_long n ts s h =
    omega (arith, begun (t.Word word.Program) _ h.front h.tree h.first, ap (λ (l : List Token). length l) h.split, length-append h.front h.back)

run_long : (ts : List Token) (s : Statement) → run ts s → 1 ≤ length ts
unfolding run
run_long ts s h = begun (t.Word word.Run) _ ts s h

append_long : (n : ℕ) (ts : List Token) (s : Statement) → append n ts s → 1 ≤ length ts
unfolding append
append_long n ts s h = begun (t.Word word.Append) _ ts s h

show_long : (ts : List Token) (s : Statement) → show ts s → 1 ≤ length ts
unfolding show
show_long ts s h = begun (t.Word word.Show) _ ts s h

insert_long : (ts : List Token) (s : Statement) → insert ts s → 1 ≤ length ts
unfolding insert
insert_long ts s h = begun (t.Word word.Insert) _ ts s h

remove_long : (n : ℕ) (ts : List Token) (s : Statement) → remove n ts s → 1 ≤ length ts
unfolding remove
remove_long n ts s h = begun (t.Word word.Remove) _ ts s h

aggregate_long : (ts : List Token) (s : Statement) → aggregate ts s → 1 ≤ length ts
unfolding aggregate behind
aggregate_long ts s h =
    omega (arith, begun (t.Word word.Aggregate) _ h.front h.tree h.first, ap (λ (l : List Token). length l) h.split, length-append h.front h.back)

either_long : {A : Type 0} (L M : List Token → A → Type 0) (ts : List Token) (a : A) → (L ts a → 1 ≤ length ts) → (M ts a → 1 ≤ length ts) → Either L M ts a → 1 ≤ length ts
either_long L M ts a l m h = by h.which where
  by : L ts a ⊎ M ts a → 1 ≤ length ts
  by (inl x) = l x
  by (inr y) = m y

second_form_long : (n : ℕ) (ts : List Token) (s : Statement) → second_form n ts s → 1 ≤ length ts
unfolding second_form
second_form_long n ts s h =
    either_long insert (remove n ∣ aggregate) ts s (insert_long ts s) (either_long (remove n) aggregate ts s (remove_long n ts s) (aggregate_long ts s)) h

statement_long : (n : ℕ) (ts : List Token) (s : Statement) → statement_phrase n ts s → 1 ≤ length ts
unfolding statement_phrase
statement_long n ts s h =
    either_long (create n) (program n ∣ run ∣ append n ∣ show ∣ second_form n) ts s (create_long n ts s)
    (either_long (program n) (run ∣ append n ∣ show ∣ second_form n) ts s (program_long n ts s)
    (either_long run (append n ∣ show ∣ second_form n) ts s (run_long ts s)
    (either_long (append n) (show ∣ second_form n) ts s (append_long n ts s)
    (either_long show (second_form n) ts s (show_long ts s) (second_form_long n ts s))))) h

many_few : {A : Type 0} (L : List Token → A → Type 0) → ((ts : List Token) (a : A) → L ts a → 1 ≤ length ts) → (ts : List Token) (xs : List A) → many L ts xs → length xs ≤ length ts
many_few L long ts [] h = omega arith
many_few L long ts (a ∷ more) h =
    omega (arith, ap (λ (l : List Token). length l) h.2, length-append h.0 h.1, long h.0 a h.3, many_few L long h.1 more h.4)

script_few : (n : ℕ) (ts : List Token) (s : Script) → script n ts s → length s.statements ≤ length ts
unfolding script script_behind
script_few n ts s h =
    let j = h.second in
    let k = j.second in
    let few = many_few (statement_phrase n) (statement_long n) k.front k.tree k.first in
    let same : length s.statements ≡ length k.tree = ap (λ (x : Script). length x.statements) k.second.1 in
    let outer : length j.back ≤ length ts = omega (arith, ap (λ (l : List Token). length l) h.split, length-append h.front h.back, ap (λ (l : List Token). length l) j.split, length-append j.front j.back) in
    omega (arith, few, same, outer, ap (λ (l : List Token). length l) k.split, length-append k.front k.back)

pub few_statements : (s : Script) → IsWritten s → length s.statements < 2 ^ 31
few_statements s w =
    let all = w.script.all in
    let tokens = script_few 64 all.tokens s w.script.phrase in
    let bytes = lexed_few [] (unmarked w.text) all.tokens all.places all.ending w.script.has.lexed in
    let short = unmarked_short (starts_with nat_eq w.text byte_order_mark) w.text in
    omega (arith, tokens, bytes, short, w.short)
