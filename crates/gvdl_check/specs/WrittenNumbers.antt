-- No argument of a call in a script is the number -(2^63), since no number in its text is above 2^63 - 1.
use Rattle.std.proofs.Common.{◌≡◌, ◌≢◌, ◌∙◌, ℕ, ◌<◌, ◌^◌, pos, neg_ℤ, List, [], ◌∷◌, ◌++◌, sym, subst, inl, inr, arith}
use Rattle.std.specs.Prelude.{All}
use Rattle.std.proofs.lemmas.Int.{ints}
use Rattle.std.proofs.lemmas.List.Elements.{All-nil, All-cons}
use Rattle.phrase_theory.specs.Phrases.{◌>>◌, word, many, separated}
use Rattle.gvdl_tokens.specs.declared.token.Token.{Token}
use Rattle.gvdl_tokens.specs.declared.token.Token.TheVariants as t
use Rattle.gvdl_tokens.specs.declared.token.Sign.TheVariants as sign
use Rattle.gvdl_tokens.specs.declared.place.Place.{Place}
use Rattle.gvdl_tokens.specs.declared.tokens.Ending.{Ending}
use Rattle.gvdl_tokens.specs.Spelling.{Spells}
use Rattle.gvdl_tokens.specs.Tokens.{Lexes, unmarked}
use Rattle.gvdl_tree.specs.declared.script.Arg.{Arg}
use Rattle.gvdl_tree.specs.declared.script.Arg.TheVariants as arg
use Rattle.gvdl_tree.specs.declared.script.Call.{Call}
use Rattle.gvdl_tree.specs.declared.script.Script.{Script}
use Rattle.gvdl_tree.specs.declared.script.Statement.{Statement}
use Rattle.gvdl_parser.specs.Terminals.{int}
use Rattle.gvdl_parser.specs.Statements.{number_arg, prop_arg, arg_phrase, listed_behind, parentheses, listed, call, collection, single, made, create, program, run, append, show_order, show_work, shown, show, statement_phrase, script, show_tree, insert, remove, aggregate, second_form, script_behind}
use Rattle.vertex_lang.specs.Values.{lowest_number}
use Rattle.gvdl_programs.specs.Calls.{HasNoLowest}
use Rattle.gvdl_check.specs.Written.{IsWritten}
use Rattle.gvdl_check.specs.CallLaws.{CallHolds}

-- ---- the numbers of a text

abbrev IsSmall : Token → Type 0
IsSmall (t.Number n) = n < 2 ^ 63
IsSmall _ = Unit {0}

abbrev AreSmall : List Token → Type 0
AreSmall [] = Unit {0}
AreSmall (token ∷ more) = IsSmall token × AreSmall more

front_small : (xs ys : List Token) → AreSmall (xs ++ ys) → AreSmall xs
front_small [] ys h = tt
front_small (x ∷ xs) ys h = (h.0, front_small xs ys h.1)

back_small : (xs ys : List Token) → AreSmall (xs ++ ys) → AreSmall ys
back_small [] ys h = h
back_small (x ∷ xs) ys h = back_small xs ys h.1

spelled_small : (token : Token) (bytes : List ℕ) → Spells token bytes → IsSmall token
spelled_small (t.Name name) bytes h = tt
spelled_small (t.Quoted name) bytes h = tt
spelled_small (t.Number n) bytes h = h.2
spelled_small (t.Str s) bytes h = tt
spelled_small (t.Word w) bytes h = tt
spelled_small (t.Sign s) bytes h = tt
spelled_small t.End bytes h = tt

lexed_small : (before bytes : List ℕ) (tokens : List Token) (places : List Place) (end : Ending) → Lexes before bytes tokens places end → AreSmall tokens
lexed_small before bytes [] places end h = tt
lexed_small before bytes (token ∷ tokens) [] end h = absurd h
lexed_small before bytes (token ∷ tokens) (place ∷ places) end h =
    let next = h.1 in
    (spelled_small token next.front.spelling next.front.spells, lexed_small (before ++ next.gap ++ next.front.spelling) h.0 tokens places end h.3)

-- ---- parts of phrases

-- what is said of the trees of a phrase whose numbers are small
abbrev Means : {A : Type 0} → (List Token → A → Type 0) → (A → Type 0) → Type 0
Means {A} L Q = (ts : List Token) (a : A) → AreSmall ts → L ts a → Q a

front_of : (ts front back : List Token) → ts ≡ front ++ back → AreSmall ts → AreSmall front
front_of ts front back split h = front_small front back (subst AreSmall split h)

back_of : (ts front back : List Token) → ts ≡ front ++ back → AreSmall ts → AreSmall back
back_of ts front back split h = back_small front back (subst AreSmall split h)

module _ {A : Type 0} (L : List Token → A → Type 0) (Q : A → Type 0) (each : Means L Q) where
  many_mean : (token : Token) → Means (many (word token >> L)) (All Q)
  many_mean token ts [] small h = All-nil Q
  many_mean token ts (a ∷ more) small h =
      let here = front_of ts h.0 h.1 h.2 small in
      All-cons Q a more (each h.3.back a (back_of h.0 h.3.front h.3.back h.3.split here) h.3.second)
      (many_mean token h.1 more (back_of ts h.0 h.1 h.2 small) h.4)

  separated_mean : (token : Token) → Means (separated token L) (All Q)
  separated_mean token ts trees small h =
      let rest = h.second in
      let behind_first = back_of ts h.front h.back h.split small in
      subst (All Q) (sym rest.second.1) (All-cons Q h.tree rest.tree (each h.front h.tree (front_of ts h.front h.back h.split small) h.first)
      (many_mean token rest.front rest.tree (front_of h.back rest.front rest.back rest.split behind_first) rest.first))

  behind_mean : Means (listed_behind L) (All Q)
  unfolding listed_behind
  behind_mean ts trees small h = elim h.which [
    | inl x ↦ subst (All Q) (sym x.second.1) (All-nil Q)
    | inr y ↦ subst (All Q) (sym y.second.second.1) (separated_mean (t.Sign sign.Comma) y.front y.tree (front_of ts y.front y.back y.split small) y.first)
  ]

  parentheses_mean : Means (parentheses L) (All Q)
  unfolding parentheses
  parentheses_mean ts trees small h =
      let inner = h.second in
      subst (All Q) (sym inner.second.1) (behind_mean inner.front inner.tree (front_of h.back inner.front inner.back inner.split (back_of ts h.front h.back h.split small)) inner.first)

  listed_mean : Means (listed L) (All Q)
  unfolding listed
  listed_mean ts trees small h = elim h.which [
    | inl x ↦ parentheses_mean ts trees small x
    | inr y ↦ subst (All Q) (sym y.1) (All-nil Q)
  ]

-- ---- arguments

small_pos : (n : ℕ) → pos n ≢ lowest_number
small_pos n e = absurd cc

small_neg : (n : ℕ) → n < 2 ^ 63 → neg_ℤ (pos n) ≢ lowest_number
small_neg n h e = absurd (grind (arith, ints, h, e))

int_mean : Means int (λ z. z ≢ lowest_number)
unfolding int
int_mean ts z small h = elim h.which [
  | inl x ↦ λ e. small_pos x.tree (sym x.second.1 ∙ e)
  | inr y ↦
      let w = y.second in
      let number : AreSmall (t.Number w.tree ∷ []) = subst AreSmall w.first (front_of y.back w.front w.back w.split (back_of ts y.front y.back y.split small)) in
      λ e. small_neg w.tree number.0 (sym w.second.1 ∙ e)
]

abbrev Other : Arg → Type 0
Other a = a ≢ arg.Number lowest_number

number_mean : Means number_arg Other
unfolding number_arg
number_mean ts a small h =
    let other = int_mean h.front h.tree (front_of ts h.front h.back h.split small) h.first in
    λ e. other (let same : arg.Number h.tree ≡ arg.Number lowest_number = sym h.second.1 ∙ e in cc)

prop_mean : Means prop_arg Other
unfolding prop_arg
prop_mean ts a small h = λ e. let same : arg.Prop h.tree ≡ arg.Number lowest_number = sym h.second.1 ∙ e in absurd cc

arg_mean : Means arg_phrase Other
unfolding arg_phrase
arg_mean ts a small h = elim h.which [ inl x ↦ number_mean ts a small x | inr y ↦ prop_mean ts a small y ]

abbrev CallOther : Call → Type 0
CallOther c = HasNoLowest c.args

call_mean : Means call CallOther
unfolding call
call_mean ts c small h =
    let k = h.second in
    subst CallOther (sym k.second.1) (listed_mean arg_phrase Other arg_mean k.front k.tree (front_of h.back k.front k.back k.split (back_of ts h.front h.back h.split small)) k.first)

-- ---- statements

abbrev StatementOther : Statement → Type 0
StatementOther s = CallHolds CallOther s

run_mean : Means run StatementOther
unfolding run
run_mean ts s small h =
    let k = h.second in
    let here = call_mean k.front k.tree (front_of h.back k.front k.back k.split (back_of ts h.front h.back h.split small)) k.first in
    subst StatementOther (sym k.second.second.second.second.second.second.second.1) here

collection_mean : (n : ℕ) → Means (collection n) StatementOther
unfolding collection
collection_mean n ts s small h = subst StatementOther (sym h.second.second.second.second.1) tt

single_mean : (n : ℕ) → Means (single n) StatementOther
unfolding single
single_mean n ts s small h = subst StatementOther (sym h.second.second.second.second.second.second.1) tt

create_mean : (n : ℕ) → Means (create n) StatementOther
unfolding create made
create_mean n ts s small h =
    let k = h.second.second in
    let here = front_of h.second.back k.front k.back k.split (back_of h.back h.second.front h.second.back h.second.split (back_of ts h.front h.back h.split small)) in
    subst StatementOther (sym k.second.1) (elim k.first.which [ inl x ↦ collection_mean n k.front k.tree here x | inr y ↦ single_mean n k.front k.tree here y ])

program_mean : (n : ℕ) → Means (program n) StatementOther
unfolding program
program_mean n ts s small h = subst StatementOther (sym h.second.second.second.second.second.second.second.second.second.1) tt

append_mean : (n : ℕ) → Means (append n) StatementOther
unfolding append
append_mean n ts s small h = subst StatementOther (sym h.second.second.second.second.1) tt

shown_mean : Means shown StatementOther
unfolding shown show_order show_work show_tree
shown_mean ts s small h = elim h.which [
  | inl x ↦ subst StatementOther (sym x.second.1) tt
  | inr y ↦ elim y.which [ inl z ↦ subst StatementOther (sym z.second.1) tt | inr z ↦ subst StatementOther (sym z.second.1) tt ]
]

show_mean : Means show StatementOther
unfolding show
show_mean ts s small h =
    let k = h.second in
    subst StatementOther (sym k.second.1) (shown_mean k.front k.tree (front_of h.back k.front k.back k.split (back_of ts h.front h.back h.split small)) k.first)

insert_mean : Means insert StatementOther
unfolding insert
insert_mean ts s small h = subst StatementOther (sym h.second.second.1) tt

remove_mean : (n : ℕ) → Means (remove n) StatementOther
unfolding remove
remove_mean n ts s small h = subst StatementOther (sym h.second.second.second.second.second.1) tt

aggregate_mean : Means aggregate StatementOther
unfolding aggregate
aggregate_mean ts s small h = subst StatementOther (sym h.second.second.second.second.second.1) tt

second_form_mean : (n : ℕ) → Means (second_form n) StatementOther
unfolding second_form
second_form_mean n ts s small h = elim h.which [
  | inl a ↦ insert_mean ts s small a
  | inr b ↦ elim b.which [ inl c ↦ remove_mean n ts s small c | inr d ↦ aggregate_mean ts s small d ]
]

statement_mean : (n : ℕ) → Means (statement_phrase n) StatementOther
unfolding statement_phrase
statement_mean n ts s small h = elim h.which [
  | inl a ↦ create_mean n ts s small a
  | inr b ↦ elim b.which [
    | inl c ↦ program_mean n ts s small c
    | inr d ↦ elim d.which [
      | inl e ↦ run_mean ts s small e
      | inr f ↦ elim f.which [
        | inl i ↦ append_mean n ts s small i
        | inr j ↦ elim j.which [ inl l ↦ show_mean ts s small l | inr m ↦ second_form_mean n ts s small m ]
      ]
    ]
  ]
]

statements_mean : (n : ℕ) → Means (many (statement_phrase n)) (All StatementOther)
statements_mean n ts [] small h = All-nil StatementOther
statements_mean n ts (s ∷ more) small h =
    All-cons StatementOther s more (statement_mean n h.0 s (front_of ts h.0 h.1 h.2 small) h.3) (statements_mean n h.1 more (back_of ts h.0 h.1 h.2 small) h.4)

script_mean : (n : ℕ) → Means (script n) (λ s. All StatementOther s.statements)
unfolding script script_behind
script_mean n ts s small h =
    let j = h.second in
    let k = j.second in
    let behind = back_of h.back j.front j.back j.split (back_of ts h.front h.back h.split small) in
    subst (λ (x : Script). All StatementOther x.statements) (sym k.second.1)
    (statements_mean n k.front k.tree (front_of j.back k.front k.back k.split behind) k.first)

-- no call of a script has such an argument
pub written_calls : (s : Script) → IsWritten s → All (CallHolds (λ c. HasNoLowest c.args)) s.statements
written_calls s w =
    let all = w.script.all in
    script_mean 64 all.tokens s (lexed_small [] (unmarked w.text) all.tokens all.places all.ending w.script.has.lexed) w.script.phrase
