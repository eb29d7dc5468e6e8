-- No name that a script gives a collection, a view of one or the program of a run has a byte that ends a line, since each is a name in
-- its text, and no number of a call is above 2^63 - 1 but for its sign.
use Rattle.std.proofs.Common.{◌≡◌, ◌≢◌, ◌∙◌, ℕ, zero, suc, ◌<◌, ◌^◌, ℤ, pos, negsuc, neg_ℤ, Bool, true, false, ◌&&◌, List, [], ◌∷◌, ◌++◌, refl, sym, ap, subst, inl, inr}
use Rattle.std.specs.Prelude.{All}
use Rattle.std.specs.List.{list_all}
use Rattle.std.proofs.lemmas.List.Elements.{All-nil, All-cons}
use Rattle.phrase_theory.specs.Phrases.{◌>>◌, one, word, many, separated}
use Rattle.gvdl_tokens.specs.declared.token.Token.{Token}
use Rattle.gvdl_tokens.specs.declared.token.Token.TheVariants as t
use Rattle.gvdl_tokens.specs.declared.token.Sign.TheVariants as sign
use Rattle.gvdl_tokens.specs.declared.word.Word.{Word}
use Rattle.gvdl_tokens.specs.declared.word.Word.TheVariants as words
use Rattle.gvdl_tokens.specs.declared.place.Place.{Place}
use Rattle.gvdl_tokens.specs.declared.tokens.Ending.{Ending}
use Rattle.gvdl_tokens.specs.Characters.{begins_name, in_name}
use Rattle.gvdl_tokens.specs.Spelling.{IsWordShaped, Spells}
use Rattle.gvdl_tokens.specs.Tokens.{Lexes, unmarked}
use Rattle.gvdl_tree.specs.declared.script.Arg.{Arg}
use Rattle.gvdl_tree.specs.declared.script.Arg.TheVariants as arg
use Rattle.gvdl_tree.specs.declared.script.Call.{Call}
use Rattle.gvdl_tree.specs.declared.script.Item.{Item}
use Rattle.gvdl_tree.specs.declared.script.Script.{Script}
use Rattle.gvdl_tree.specs.declared.script.Statement.{Statement}
use Rattle.gvdl_tree.specs.declared.script.Statement.TheVariants as statement
use Rattle.gvdl_parser.specs.Terminals.{int}
use Rattle.gvdl_parser.specs.Statements.{behind, listed_behind, parentheses, listed, number_arg, prop_arg, arg_phrase, item, items, call, collection, single, made, create, program, run, append, show_order, show_work, shown, show, statement_phrase, script, show_tree, insert, remove, aggregate, second_form, script_behind}
use Rattle.gvdl_check.specs.Written.{IsWritten}
use Rattle.gvdl_check.specs.NameLines.{ArgShort, CallNamed, IsLine, IsShort}

-- ---- the names of a text

abbrev IsPlain : Token → Type 0
IsPlain (t.Name name) = IsLine name
IsPlain (t.Number n) = n < 2 ^ 63
IsPlain _ = Unit {0}

abbrev ArePlain : List Token → Type 0
ArePlain [] = Unit {0}
ArePlain (token ∷ more) = IsPlain token × ArePlain more

front_plain : (xs ys : List Token) → ArePlain (xs ++ ys) → ArePlain xs
front_plain [] ys h = tt
front_plain (x ∷ xs) ys h = (h.0, front_plain xs ys h.1)

back_plain : (xs ys : List Token) → ArePlain (xs ++ ys) → ArePlain ys
back_plain [] ys h = h
back_plain (x ∷ xs) ys h = back_plain xs ys h.1

begins_other : (b : ℕ) → begins_name b ≡ true → b ≢ 10
begins_other b h = λ e. let wrong : false ≡ true = sym (ap begins_name e) ∙ h in absurd cc

in_other : (b : ℕ) → in_name b ≡ true → b ≢ 10
in_other b h = λ e. let wrong : false ≡ true = sym (ap in_name e) ∙ h in absurd cc

all_other : (bs : List ℕ) → list_all in_name bs ≡ true → IsLine bs
all_other [] h = All-nil (λ b. b ≢ 10)
all_other (b ∷ bs) h = All-cons (λ b. b ≢ 10) b bs (in_other b (first (in_name b) (list_all in_name bs) h)) (all_other bs (rest (in_name b) (list_all in_name bs) h)) where
  first : (x y : Bool) → (x && y) ≡ true → x ≡ true
  first true y e = refl
  first false y e = absurd cc

  rest : (x y : Bool) → (x && y) ≡ true → y ≡ true
  rest true y e = e
  rest false y e = absurd cc

name_line : (name : List ℕ) → IsWordShaped name → IsLine name
name_line [] h = absurd h
name_line (b ∷ bs) h = All-cons (λ b. b ≢ 10) b bs (begins_other b h.0) (all_other bs h.1)

spelled_plain : (token : Token) (bytes : List ℕ) → Spells token bytes → IsPlain token
spelled_plain (t.Name name) bytes h = name_line name (subst IsWordShaped h.0 h.1.0)
spelled_plain (t.Quoted name) bytes h = tt
spelled_plain (t.Number n) bytes h = h.2
spelled_plain (t.Str s) bytes h = tt
spelled_plain (t.Word w) bytes h = tt
spelled_plain (t.Sign s) bytes h = tt
spelled_plain t.End bytes h = tt

lexed_plain : (before bytes : List ℕ) (tokens : List Token) (places : List Place) (end : Ending) → Lexes before bytes tokens places end → ArePlain tokens
lexed_plain before bytes [] places end h = tt
lexed_plain before bytes (token ∷ tokens) [] end h = absurd h
lexed_plain before bytes (token ∷ tokens) (place ∷ places) end h =
    let next = h.1 in
    (spelled_plain token next.front.spelling next.front.spells, lexed_plain (before ++ next.gap ++ next.front.spelling) h.0 tokens places end h.3)

-- ---- parts of phrases

-- what is said of the trees of a phrase whose names are lines
abbrev Means : {A : Type 0} → (List Token → A → Type 0) → (A → Type 0) → Type 0
Means {A} L Q = (ts : List Token) (a : A) → ArePlain ts → L ts a → Q a

front_of : (ts front back : List Token) → ts ≡ front ++ back → ArePlain ts → ArePlain front
front_of ts front back split h = front_plain front back (subst ArePlain split h)

back_of : (ts front back : List Token) → ts ≡ front ++ back → ArePlain ts → ArePlain back
back_of ts front back split h = back_plain front back (subst ArePlain split h)

module _ {A : Type 0} (L : List Token → A → Type 0) (Q : A → Type 0) (each : Means L Q) where
  many_mean : (token : Token) → Means (many (word token >> L)) (All Q)
  many_mean token ts [] plain h = All-nil Q
  many_mean token ts (a ∷ more) plain h =
      let here = front_of ts h.0 h.1 h.2 plain in
      All-cons Q a more (each h.3.back a (back_of h.0 h.3.front h.3.back h.3.split here) h.3.second)
      (many_mean token h.1 more (back_of ts h.0 h.1 h.2 plain) h.4)

  separated_mean : (token : Token) → Means (separated token L) (All Q)
  separated_mean token ts trees plain h =
      let rest = h.second in
      let behind_first = back_of ts h.front h.back h.split plain in
      subst (All Q) (sym rest.second.1) (All-cons Q h.tree rest.tree (each h.front h.tree (front_of ts h.front h.back h.split plain) h.first)
      (many_mean token rest.front rest.tree (front_of h.back rest.front rest.back rest.split behind_first) rest.first))

  listed_behind_mean : Means (listed_behind L) (All Q)
  unfolding listed_behind
  listed_behind_mean ts trees plain h = elim h.which [
    | inl x ↦ subst (All Q) (sym x.second.1) (All-nil Q)
    | inr y ↦ subst (All Q) (sym y.second.second.1) (separated_mean (t.Sign sign.Comma) y.front y.tree (front_of ts y.front y.back y.split plain) y.first)
  ]

  parentheses_mean : Means (parentheses L) (All Q)
  unfolding parentheses
  parentheses_mean ts trees plain h =
      let inner = h.second in
      subst (All Q) (sym inner.second.1) (listed_behind_mean inner.front inner.tree (front_of h.back inner.front inner.back inner.split (back_of ts h.front h.back h.split plain)) inner.first)

  listed_mean : Means (listed L) (All Q)
  unfolding listed
  listed_mean ts trees plain h = elim h.which [
    | inl x ↦ parentheses_mean ts trees plain x
    | inr y ↦ subst (All Q) (sym y.1) (All-nil Q)
  ]

  behind_mean : (w : Word) → Means (behind w L) Q
  unfolding behind
  behind_mean w ts a plain h =
      let k = h.second in
      subst Q (sym k.second.1) (each k.front k.tree (front_of h.back k.front k.back k.split (back_of ts h.front h.back h.split plain)) k.first)

name_mean : Means (one t.Name) IsLine
name_mean ts name plain h = (subst ArePlain h plain).0

-- ---- calls

short_neg : (n : ℕ) → n < 2 ^ 63 → IsShort (neg_ℤ (pos n))
short_neg zero h = h
short_neg (suc n) h = h

int_mean : Means int IsShort
unfolding int
int_mean ts z plain h = elim h.which [
  | inl x ↦
      let number : ArePlain (t.Number x.tree ∷ []) = subst ArePlain x.first (front_of ts x.front x.back x.split plain) in
      subst IsShort (sym x.second.1) number.0
  | inr y ↦
      let w = y.second in
      let number : ArePlain (t.Number w.tree ∷ []) = subst ArePlain w.first (front_of y.back w.front w.back w.split (back_of ts y.front y.back y.split plain)) in
      subst IsShort (sym w.second.1) (short_neg w.tree number.0)
]

arg_mean : Means arg_phrase ArgShort
unfolding arg_phrase number_arg prop_arg
arg_mean ts a plain h = elim h.which [
  | inl x ↦ subst ArgShort (sym x.second.1) (int_mean x.front x.tree (front_of ts x.front x.back x.split plain) x.first)
  | inr y ↦ subst ArgShort (sym y.second.1) tt
]

call_mean : Means call CallNamed
unfolding call
call_mean ts c plain h =
    let k = h.second in
    let behind_name = back_of ts h.front h.back h.split plain in
    let named : CallNamed (record { name = h.tree; args = k.tree }) = record {
      name = name_mean h.front h.tree (front_of ts h.front h.back h.split plain) h.first;
      args = listed_mean arg_phrase ArgShort arg_mean k.front k.tree (front_of h.back k.front k.back k.split behind_name) k.first;
    } in
    subst CallNamed (sym k.second.1) named

-- ---- statements

abbrev pub ItemNamed : Item → Type 0
ItemNamed it = IsLine it.name

abbrev pub IsNamed : Statement → Type 0
IsNamed (statement.Collection name base items) = IsLine name × All ItemNamed items
IsNamed (statement.Append target items) = All ItemNamed items
IsNamed (statement.Run call target within number order split keep phases) = CallNamed call
IsNamed _ = Unit {0}

item_mean : (n : ℕ) → Means (item n) ItemNamed
unfolding item
item_mean n ts it plain h =
    let k = h.second in
    subst ItemNamed (sym k.second.second.second.second.1) (name_mean k.front k.tree (front_of h.back k.front k.back k.split (back_of ts h.front h.back h.split plain)) k.first)

items_mean : (n : ℕ) → Means (items n) (All ItemNamed)
unfolding items
items_mean n ts its plain h = separated_mean (item n) ItemNamed (item_mean n) (t.Sign sign.Comma) ts its plain h

run_mean : Means run IsNamed
unfolding run
run_mean ts s plain h =
    let k = h.second in
    let here = call_mean k.front k.tree (front_of h.back k.front k.back k.split (back_of ts h.front h.back h.split plain)) k.first in
    subst IsNamed (sym k.second.second.second.second.second.second.second.1) here

collection_mean : (n : ℕ) → Means (collection n) IsNamed
unfolding collection
collection_mean n ts s plain h =
    let base = h.second in
    let its = base.second in
    let behind_name = back_of ts h.front h.back h.split plain in
    let behind_base = back_of h.back base.front base.back base.split behind_name in
    subst IsNamed (sym its.second.second.1)
    (behind_mean (one t.Name) IsLine name_mean words.Collection h.front h.tree (front_of ts h.front h.back h.split plain) h.first, items_mean n its.front its.tree (front_of base.back its.front its.back its.split behind_base) its.first)

single_mean : (n : ℕ) → Means (single n) IsNamed
unfolding single
single_mean n ts s plain h = subst IsNamed (sym h.second.second.second.second.second.second.1) tt

create_mean : (n : ℕ) → Means (create n) IsNamed
unfolding create made
create_mean n ts s plain h =
    let k = h.second.second in
    let here = front_of h.second.back k.front k.back k.split (back_of h.back h.second.front h.second.back h.second.split (back_of ts h.front h.back h.split plain)) in
    subst IsNamed (sym k.second.1) (elim k.first.which [ inl x ↦ collection_mean n k.front k.tree here x | inr y ↦ single_mean n k.front k.tree here y ])

program_mean : (n : ℕ) → Means (program n) IsNamed
unfolding program
program_mean n ts s plain h = subst IsNamed (sym h.second.second.second.second.second.second.second.second.second.1) tt

append_mean : (n : ℕ) → Means (append n) IsNamed
unfolding append
append_mean n ts s plain h =
    let to = h.second in
    let its = to.second in
    let behind_word = back_of ts h.front h.back h.split plain in
    let behind_name = back_of h.back to.front to.back to.split behind_word in
    subst IsNamed (sym its.second.second.1) (items_mean n its.front its.tree (front_of to.back its.front its.back its.split behind_name) its.first)

shown_mean : Means shown IsNamed
unfolding shown show_order show_work show_tree
shown_mean ts s plain h = elim h.which [
  | inl x ↦ subst IsNamed (sym x.second.1) tt
  | inr y ↦ elim y.which [ inl z ↦ subst IsNamed (sym z.second.1) tt | inr z ↦ subst IsNamed (sym z.second.1) tt ]
]

show_mean : Means show IsNamed
unfolding show
show_mean ts s plain h =
    let k = h.second in
    subst IsNamed (sym k.second.1) (shown_mean k.front k.tree (front_of h.back k.front k.back k.split (back_of ts h.front h.back h.split plain)) k.first)

insert_mean : Means insert IsNamed
unfolding insert
insert_mean ts s plain h = subst IsNamed (sym h.second.second.1) tt

remove_mean : (n : ℕ) → Means (remove n) IsNamed
unfolding remove
remove_mean n ts s plain h = subst IsNamed (sym h.second.second.second.second.second.1) tt

aggregate_mean : Means aggregate IsNamed
unfolding aggregate
aggregate_mean ts s plain h = subst IsNamed (sym h.second.second.second.second.second.1) tt

second_form_mean : (n : ℕ) → Means (second_form n) IsNamed
unfolding second_form
second_form_mean n ts s plain h = elim h.which [
  | inl a ↦ insert_mean ts s plain a
  | inr b ↦ elim b.which [ inl c ↦ remove_mean n ts s plain c | inr d ↦ aggregate_mean ts s plain d ]
]

statement_mean : (n : ℕ) → Means (statement_phrase n) IsNamed
unfolding statement_phrase
statement_mean n ts s plain h = elim h.which [
  | inl a ↦ create_mean n ts s plain a
  | inr b ↦ elim b.which [
    | inl c ↦ program_mean n ts s plain c
    | inr d ↦ elim d.which [
      | inl e ↦ run_mean ts s plain e
      | inr f ↦ elim f.which [
        | inl i ↦ append_mean n ts s plain i
        | inr j ↦ elim j.which [ inl l ↦ show_mean ts s plain l | inr m ↦ second_form_mean n ts s plain m ]
      ]
    ]
  ]
]

statements_mean : (n : ℕ) → Means (many (statement_phrase n)) (All IsNamed)
statements_mean n ts [] plain h = All-nil IsNamed
statements_mean n ts (s ∷ more) plain h =
    All-cons IsNamed s more (statement_mean n h.0 s (front_of ts h.0 h.1 h.2 plain) h.3) (statements_mean n h.1 more (back_of ts h.0 h.1 h.2 plain) h.4)

script_mean : (n : ℕ) → Means (script n) (λ s. All IsNamed s.statements)
unfolding script script_behind
script_mean n ts s plain h =
    let j = h.second in
    let k = j.second in
    let behind_load = back_of h.back j.front j.back j.split (back_of ts h.front h.back h.split plain) in
    subst (λ (x : Script). All IsNamed x.statements) (sym k.second.1)
    (statements_mean n k.front k.tree (front_of j.back k.front k.back k.split behind_load) k.first)

pub written_names : (s : Script) → IsWritten s → All IsNamed s.statements
written_names s w =
    let all = w.script.all in
    script_mean 64 all.tokens s (lexed_plain [] (unmarked w.text) all.tokens all.places all.ending w.script.has.lexed) w.script.phrase
