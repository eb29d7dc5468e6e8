-- Statements: there are some, more levels give more, and what they begin with.
use Rattle.std.proofs.Common.{◌≡◌, ◌≢◌, ℕ, zero, suc, ◌<◌, length, length-append, arith, Bool, true, false, List, [], ◌∷◌, ◌++◌, Option, Some, None, Result, Ok, Err, refl, sym, ap, ◌∙◌}
use Rattle.std.proofs.lemmas.Bool.{eqb-true, eqb-false}
use Rattle.std.specs.Prelude.{◌==◌}
use Rattle.gvdl_tokens.specs.declared.token.Token.{Token}
use Rattle.gvdl_tokens.specs.declared.token.Token.TheVariants as t
use Rattle.gvdl_tokens.specs.declared.token.Kind.{Kind}
use Rattle.gvdl_tokens.specs.declared.token.Kind.TheVariants as kind
use Rattle.gvdl_tokens.specs.declared.token.Sign.TheVariants as s
use Rattle.gvdl_tokens.specs.declared.word.Word.{Word}
use Rattle.gvdl_tokens.specs.declared.word.Word.TheVariants as w
use Rattle.gvdl_tree.specs.declared.script.Along.TheVariants as along
use Rattle.gvdl_tree.specs.declared.script.Gather.TheVariants as gather
use Rattle.gvdl_tree.specs.declared.script.OrderWord.{OrderWord}
use Rattle.gvdl_tree.specs.declared.script.OrderWord.TheVariants as order
use Rattle.gvdl_tree.specs.declared.script.SplitWord.{SplitWord}
use Rattle.gvdl_tree.specs.declared.script.Statement.{Statement}
use Rattle.gvdl_tree.specs.declared.script.Script.{Script}
use Rattle.gvdl_parser.specs.declared.run.RunOptions.{RunOptions}
use Rattle.phrase_theory.specs.declared.fault.Fault.{Fault}
use Rattle.phrase_theory.specs.Phrases.{pure, one, Then, separated}
use Rattle.phrase_theory.specs.Reading.{next, alone, HasPhrase, Finds, Fails, Reads}
use Rattle.phrase_theory.specs.SequenceLaws.{Grows, Apart, phrase_then, phrase_word, phrase_one, phrase_pure, phrase_left, phrase_right, first_fails, then_finds, then_fails}
use Rattle.phrase_theory.specs.ChoiceLaws.{Avoids, avoids_word, avoids_then, avoids_either}
use Rattle.phrase_theory.specs.LevelLaws.{Within, within_then, within_either, within_many, within_chained, within_same}
use Rattle.phrase_theory.specs.ChainLaws.{IsChain, IsLoop, phrase_many, phrase_chained}
use Rattle.phrase_theory.specs.OptionalLaws.{Skips, skips_optional, avoids_behind, apart_by, phrase_optional}
use Rattle.gvdl_parser.specs.Kinds.{kind_number, kind_at, number_at, comes}
use Rattle.gvdl_parser.specs.Terminals.{opens, keyword, mark, int, prop, along_token, gather_token, order_token}
use Rattle.gvdl_parser.specs.Predicates.{predicate_of, conjunction_of, negation, negated, enclosed, atom, operand_phrase, number_operand, text_operand, truth_operand, source_operand, target_operand, edge_operand, after_predicate}
use Rattle.gvdl_parser.specs.Expressions.{expression}
use Rattle.gvdl_parser.specs.Statements.{behind, part, listed_behind, listed, load, window, rule, item_body, item, items, collection, single, made, create, append, show_order, shown, show, number_arg, prop_arg, arg_phrase, call, rounds_word, split_word, order_part, split_part, keep_part, unphased, run_options, run, program, insert, remove, sum_part, aggregate, second_form, statement_phrase, form_part, script_behind, script, after_items, after_order, after_split, after_form, after_script}
use Rattle.gvdl_parser.proofs.Nexts.{Clear, clear_at, clearing}
use Rattle.gvdl_parser.proofs.Having.{phrases, int_has, prop_has, predicate_has}
use Rattle.gvdl_parser.proofs.PredicateLaws.{predicate_grows, clear_truth}
use Rattle.gvdl_parser.proofs.ExpressionLaws.{expression_has, expression_grows}

ruleset within = (within_then, within_either, within_many, within_chained, within_same)

-- ---- there are some

pub phrase_along : HasPhrase (one along_token)
phrase_along = phrase_one along_token along.Out

pub phrase_gather : HasPhrase (one gather_token)
phrase_gather = phrase_one gather_token gather.Min

pub phrase_order : HasPhrase (one order_token)
phrase_order = phrase_one order_token order.Greedy

pub behind_has : {A : Type 0} (x : Word) (L : List Token → A → Type 0) → HasPhrase L → HasPhrase (behind x L)
unfolding behind
behind_has x L h = phrase_then _ _ (phrase_word _) (λ u. phrase_then _ _ h (λ a. phrase_pure a))

pub part_has : {A : Type 0} (x : Word) (L : List Token → A → Type 0) → HasPhrase L → HasPhrase (part x L)
unfolding part
part_has x L h = phrase_then _ _ (phrase_word _) (λ u. phrase_then _ _ h (λ a. phrase_then _ _ (phrase_word _) (λ v. phrase_pure a)))

pub listed_behind_has : {A : Type 0} (L : List Token → A → Type 0) → HasPhrase (listed_behind L)
unfolding listed_behind
listed_behind_has L = phrase_left _ _ (phrase_then _ _ (phrase_word _) (λ u. phrase_pure _))

pub listed_has : {A : Type 0} (L : List Token → A → Type 0) → HasPhrase (listed L)
unfolding listed
listed_has L = phrase_right _ _ (phrase_pure _)

pub rule_has : (n : ℕ) → HasPhrase (rule n)
unfolding rule
rule_has n = phrase_then _ _ (predicate_has n) (λ p. phrase_pure _)

pub item_body_has : (n : ℕ) → HasPhrase (item_body n)
unfolding item_body
item_body_has n = phrase_right _ _ (rule_has n)

pub item_has : (n : ℕ) → HasPhrase (item n)
unfolding item
item_has n = search (phrases, item_body_has) depth 20

pub items_has : (n : ℕ) → HasPhrase (items n)
unfolding items
items_has n = phrase_chained (t.Sign s.Comma) (λ members. members) (item n) (item_has n)

pub single_has : (n : ℕ) → HasPhrase (single n)
unfolding single
single_has n = search (phrases, behind_has, predicate_has) depth 30

pub made_has : (n : ℕ) → HasPhrase (made n)
unfolding made
made_has n = phrase_right _ _ (single_has n)

pub shown_has : HasPhrase shown
unfolding shown show_order
shown_has = phrase_left _ _ (search (phrases, part_has) depth 12)

pub call_has : HasPhrase call
unfolding call
call_has = search (phrases, listed_has) depth 12

pub rounds_word_has : HasPhrase rounds_word
unfolding rounds_word
rounds_word_has = phrase_left _ _ (phrase_word _)

pub order_part_has : HasPhrase order_part
unfolding order_part
order_part_has = phrase_optional _

pub split_part_has : HasPhrase split_part
unfolding split_part
split_part_has = phrase_optional _

pub keep_part_has : HasPhrase keep_part
unfolding keep_part
keep_part_has = phrase_optional _

-- what is read behind the order of a run, and behind its split
abbrev pub behind_order : Option OrderWord → List Token → RunOptions → Type 0
behind_order o = Then split_part (λ d. Then keep_part (λ k. Then (mark s.Semicolon) (λ u. pure (record { order = o; split = d; keep = k; phases = None }))))

abbrev pub behind_split : Option OrderWord → Option SplitWord → List Token → RunOptions → Type 0
behind_split o d = Then keep_part (λ k. Then (mark s.Semicolon) (λ u. pure (record { order = o; split = d; keep = k; phases = None })))

pub behind_split_has : (o : Option OrderWord) (d : Option SplitWord) → HasPhrase (behind_split o d)
behind_split_has o d = search (phrases, keep_part_has) depth 12

pub behind_order_has : (o : Option OrderWord) → HasPhrase (behind_order o)
behind_order_has o = search (phrases, split_part_has, keep_part_has) depth 12

pub unphased_has : HasPhrase unphased
unfolding unphased
unphased_has = search (phrases, order_part_has, split_part_has, keep_part_has) depth 12

pub run_options_has : (within : Bool) → HasPhrase (run_options within)
unfolding run_options
run_options_has true = phrase_right _ _ unphased_has
run_options_has false = unphased_has

pub sum_part_has : HasPhrase sum_part
unfolding sum_part
sum_part_has = phrase_optional _

pub show_has : HasPhrase show
unfolding show
show_has = search (phrases, shown_has) depth 12

pub arg_has : HasPhrase arg_phrase
unfolding arg_phrase number_arg
arg_has = search (phrases, int_has) depth 12

pub statement_has : (n : ℕ) → HasPhrase (statement_phrase n)
unfolding statement_phrase
statement_has n = phrase_right _ _ (phrase_right _ _ (phrase_right _ _ (phrase_right _ _ (phrase_left _ _ show_has))))

load_has : HasPhrase load
unfolding load
load_has = search (phrases, behind_has) depth 20

pub script_behind_has : (n : ℕ) (form : Option ℕ) → HasPhrase (script_behind n form)
unfolding script_behind
script_behind_has n form = phrase_then _ _ load_has (λ l. phrase_then _ _ (phrase_many _) (λ xs. phrase_pure _))

pub ruleset statement_phrases = (phrases, phrase_along, phrase_gather, phrase_order, behind_has, part_has, listed_behind_has, listed_has, int_has, prop_has, predicate_has, expression_has, item_body_has, item_has, items_has, made_has, shown_has, call_has, rounds_word_has, order_part_has, split_part_has, keep_part_has, run_options_has, sum_part_has, arg_has, phrase_many)

-- ---- more levels, more phrases

part_within : {A : Type 0} (x : Word) (L M : List Token → A → Type 0) → Within L M → Within (part x L) (part x M)
unfolding part
part_within x L M g = search within depth 12

pub part_grows : (x : Word) → Grows (λ n. part x (expression n))
part_grows x n = part_within x (expression n) (expression (suc n)) (expression_grows n)

predicate_more : (n : ℕ) → Within (predicate_of (negation n)) (predicate_of (negation (suc n)))
predicate_more n = predicate_grows n

rule_more : (n : ℕ) → Within (rule n) (rule (suc n))
unfolding rule
rule_more n = within_then _ _ _ _ (predicate_more n) (λ p. within_same _)

pub item_body_grows : Grows item_body
unfolding item_body
item_body_grows n = within_either _ _ _ _ (within_same window) (rule_more n)

item_body_more : (n : ℕ) → Within (item_body n) (item_body (suc n))
item_body_more n = item_body_grows n

pub item_grows : Grows item
unfolding item
item_grows n = search (within, item_body_more) depth 20

items_more : (n : ℕ) → Within (items n) (items (suc n))
unfolding items
items_more n = within_chained (t.Sign s.Comma) (λ members. members) (item n) (item (suc n)) (item_grows n)

pub items_grows : Grows items
items_grows n = items_more n

collection_more : (n : ℕ) → Within (collection n) (collection (suc n))
unfolding collection
collection_more n = search (within, items_more) depth 20

single_more : (n : ℕ) → Within (single n) (single (suc n))
unfolding single
single_more n = search (within, predicate_more) depth 20

pub made_grows : Grows made
unfolding made
made_grows n = within_either _ _ _ _ (collection_more n) (single_more n)

made_more : (n : ℕ) → Within (made n) (made (suc n))
made_more n = made_grows n

create_more : (n : ℕ) → Within (create n) (create (suc n))
unfolding create
create_more n = search (within, made_more) depth 20

append_more : (n : ℕ) → Within (append n) (append (suc n))
unfolding append
append_more n = search (within, items_more) depth 20

part_more : (x : Word) (n : ℕ) → Within (part x (expression n)) (part x (expression (suc n)))
part_more x n = part_grows x n

program_more : (n : ℕ) → Within (program n) (program (suc n))
unfolding program
program_more n = search (within, part_more) depth 30

remove_more : (n : ℕ) → Within (remove n) (remove (suc n))
unfolding remove
remove_more n = search (within, predicate_more) depth 20

second_form_more : (n : ℕ) → Within (second_form n) (second_form (suc n))
unfolding second_form
second_form_more n = within_either _ _ _ _ (within_same insert) (within_either _ _ _ _ (remove_more n) (within_same aggregate))

pub statement_grows : Grows statement_phrase
unfolding statement_phrase
statement_grows n = within_either _ _ _ _ (create_more n) (within_either _ _ _ _ (program_more n) (within_either _ _ _ _ (within_same run) (within_either _ _ _ _ (append_more n) (within_either _ _ _ _ (within_same show) (second_form_more n)))))

script_behind_more : (n : ℕ) (form : Option ℕ) → Within (script_behind n form) (script_behind (suc n) form)
unfolding script_behind
script_behind_more n form = within_then _ _ _ _ (within_same load) (λ l. within_then _ _ _ _ (within_many _ _ (statement_grows n)) (λ xs. within_same _))

pub script_grows : Grows script
unfolding script
script_grows n = within_then _ _ _ _ (within_same form_part) (script_behind_more n)

-- ---- chains

pub item_chain : IsChain (t.Sign s.Comma) item alone after_items
item_chain = record { goes_on = refl; weaker = λ x h. refl; other = refl; grows = item_grows }

pub comma_chain : {A : Type 0} (L : List Token → A → Type 0) → IsChain (t.Sign s.Comma) (λ n. L) alone after_items
comma_chain L = record { goes_on = refl; weaker = λ x h. refl; other = refl; grows = λ n us a p. p }

pub statement_loop : IsLoop statement_phrase alone after_script
statement_loop = record { weaker = λ x h. refl; fresh = λ n us behind a p. refl; grows = statement_grows }

-- ---- what they begin with

pub statement_needs : (n : ℕ) (x : Option Token) → x ≡ None → Avoids (statement_phrase n) alone x
unfolding statement_phrase create program behind run append show second_form insert remove aggregate
statement_needs n x e = avoids_either _ _ x alone (avoids_then _ _ x alone (none_word w.Create))
    (avoids_either _ _ x alone (avoids_then _ _ x alone (avoids_then _ _ x alone (none_word w.Program)))
    (avoids_either _ _ x alone (avoids_then _ _ x alone (none_word w.Run))
    (avoids_either _ _ x alone (avoids_then _ _ x alone (none_word w.Append))
    (avoids_either _ _ x alone (avoids_then _ _ x alone (none_word w.Show))
    (avoids_either _ _ x alone (avoids_then _ _ x alone (none_word w.Insert))
    (avoids_either _ _ x alone (avoids_then _ _ x alone (none_word w.Remove)) (avoids_then _ _ x alone (avoids_then _ _ x alone (none_word w.Aggregate)))))))))
  where
    none_word : (k : Word) → Avoids (keyword k) alone x
    none_word k = avoids_word (t.Word k) x alone (λ h. absurd cc)

-- a word that comes next is no other token
not_other : (k : Kind) (x : Option Token) (token : Token) → comes k x ≡ true → (kind_number k == number_at (Some token)) ≡ false → x ≢ Some token
not_other k x token c h e = eqb-false (kind_number k) (number_at (Some token)) h (eqb-true (kind_number k) (number_at x) c ∙ ap number_at e)

behind_avoids : {A : Type 0} (v : Word) (L : List Token → A → Type 0) (x : Option Token) → x ≢ Some (t.Word v) → Avoids (behind v L) alone x
unfolding behind
behind_avoids v L x h = avoids_then _ _ x alone (avoids_word _ x alone h)

keep_skips : (x : Option Token) → x ≢ Some (t.Word w.Keep) → Skips keep_part x
unfolding keep_part
keep_skips x h = skips_optional _ x (avoids_then _ _ x alone (avoids_word _ x alone h))

split_skips : (x : Option Token) → x ≢ Some (t.Word w.Split) → Skips split_part x
unfolding split_part
split_skips x h = skips_optional _ x (behind_avoids w.Split split_word x h)

order_skips : (x : Option Token) → x ≢ Some (t.Word w.Order) → Skips order_part x
unfolding order_part
order_skips x h = skips_optional _ x (behind_avoids w.Order (one order_token) x h)

-- what is read behind a part of the options begins with none of these

split_avoids : (o : Option OrderWord) (d : Option SplitWord) (x : Option Token) → x ≢ Some (t.Word w.Keep) → x ≢ Some (t.Sign s.Semicolon) → Avoids (behind_split o d) alone x
split_avoids o d x no_keep no_end = avoids_behind _ _ x alone (keep_skips x no_keep) (λ k. avoids_then _ _ x alone (avoids_word _ x alone no_end))

order_avoids : (o : Option OrderWord) (x : Option Token) → x ≢ Some (t.Word w.Split) → x ≢ Some (t.Word w.Keep) → x ≢ Some (t.Sign s.Semicolon) → Avoids (behind_order o) alone x
order_avoids o x no_split no_keep no_end = avoids_behind _ _ x alone (split_skips x no_split) (λ d. split_avoids o d x no_keep no_end)

pub order_apart : Apart behind_order after_order alone
order_apart = apart_by behind_order after_order alone at where
  at : (o : Option OrderWord) (x : Option Token) → after_order x ≡ true → Avoids (behind_order o) alone x
  at o x h = order_avoids o x (not_other (kind.Word w.Order) x (t.Word w.Split) h refl) (not_other (kind.Word w.Order) x (t.Word w.Keep) h refl) (not_other (kind.Word w.Order) x (t.Sign s.Semicolon) h refl)

pub split_apart : (o : Option OrderWord) → Apart (behind_split o) after_split alone
split_apart o = apart_by (behind_split o) after_split alone at where
  at : (d : Option SplitWord) (x : Option Token) → after_split x ≡ true → Avoids (behind_split o d) alone x
  at d x h = split_avoids o d x (not_other (kind.Word w.Split) x (t.Word w.Keep) h refl) (not_other (kind.Word w.Split) x (t.Sign s.Semicolon) h refl)

pub unphased_avoids : (x : Option Token) → comes (kind.Word w.Phases) x ≡ true → Avoids unphased alone x
unfolding unphased
unphased_avoids x h = avoids_behind _ _ x alone (order_skips x (no (t.Word w.Order) refl)) (λ o. order_avoids o x (no (t.Word w.Split) refl) (no (t.Word w.Keep) refl) (no (t.Sign s.Semicolon) refl)) where
  no : (token : Token) → (kind_number (kind.Word w.Phases) == number_at (Some token)) ≡ false → x ≢ Some token
  no token other = not_other (kind.Word w.Phases) x token h other

-- ---- behind the form

form_apart : (n : ℕ) → Apart (script_behind n) after_form after_script
unfolding script_behind load
form_apart n = apart_by (script_behind n) after_form after_script (λ f x h. avoids_then _ _ x after_script (avoids_then _ _ x alone (avoids_word _ x alone (not_other (kind.Word w.Form) x (t.Word w.Load) h refl))))

module _ {d : ℕ} {ts : List Token} where
  pub form_stuck : {e : Fault} {rest : List Token} → Fails opens (λ n. form_part) after_form d ts e rest → Fails opens script after_script d ts e rest
  unfolding script
  form_stuck {e} {rest} f = first_fails (λ n. form_part) script_behind after_form after_script form_apart d ts e rest script_behind_has f

  pub form_read : {form : Option ℕ} {mid : List Token} (r : Result Script Fault) (rest : List Token) → Finds (λ n. form_part) after_form d ts form mid → Reads opens (λ n. script_behind n form) after_script d mid r rest → Reads opens script after_script d ts r rest
  unfolding script
  form_read {form} {mid} (Ok tree) rest p q = then_finds (λ n. form_part) script_behind after_form after_script form_apart d ts form mid tree rest p q
  form_read {form} {mid} (Err e) rest p q = then_fails (λ n. form_part) script_behind after_form after_script form_apart d ts form mid e rest (λ n us a h. h) p q

negation_no_window : (n : ℕ) → Clear (negation n) alone (kind.Word w.Window)
unfolding negation negated enclosed atom operand_phrase number_operand text_operand truth_operand source_operand target_operand edge_operand int prop
negation_no_window zero = search (clearing, clear_truth) depth 30
negation_no_window (suc n) = search (clearing, clear_truth) depth 30

pub rule_clear : (n : ℕ) → Clear (rule n) after_predicate (kind.Word w.Window)
unfolding rule predicate_of conjunction_of
rule_clear n = record { at = λ x e. avoids_then _ _ x after_predicate (avoids_then _ _ x alone (avoids_then _ _ x alone ((negation_no_window n).at x e))) }

arg_clear : Clear arg_phrase alone (kind.Sign s.Close)
unfolding arg_phrase number_arg prop_arg int prop
arg_clear = search clearing depth 20

pub arg_no_close : (x : Option Token) → x ≡ Some (t.Sign s.Close) → Avoids (Then (separated (t.Sign s.Comma) arg_phrase) (λ xs. Then (mark s.Close) (λ u. pure xs))) alone x
arg_no_close x e = avoids_then _ _ x alone (avoids_then _ _ x alone (clear_at (kind.Sign s.Close) (sym (ap kind_at e)) arg_clear))

pub name_no_close : (x : Option Token) → x ≡ Some (t.Sign s.Close) → Avoids (Then (separated (t.Sign s.Comma) (one t.Name)) (λ xs. Then (mark s.Close) (λ u. pure xs))) alone x
name_no_close x e = avoids_then _ _ x alone (avoids_then _ _ x alone (clear_at (kind.Sign s.Close) (sym (ap kind_at e)) (search clearing)))

-- ---- the end of the tokens

pub not_none : (ts : List Token) → (length ts == 0) ≡ false → after_script (next ts) ≡ true
not_none [] h = absurd cc
not_none (x ∷ ts) h = refl

pub is_none : (ts : List Token) → (length ts == 0) ≡ true → next ts ≡ None
is_none [] h = refl
is_none (x ∷ ts) h = absurd (omega (arith, eqb-true (length (x ∷ ts)) 0 h))

-- ---- the tokens that are left grow fewer

pub statement_shorter : {d : ℕ} (ts mid : List Token) {a : Statement} → Finds statement_phrase alone d ts a mid → length mid < length ts
statement_shorter {d} ts mid {a} p = by_taken p.taken p.split p.phrase where
  by_taken : (us : List Token) → ts ≡ us ++ mid → statement_phrase d us a → length mid < length ts
  by_taken [] e q = absurd ((statement_needs d None refl).by [] [] a q refl refl)
  by_taken (x ∷ us) e q = omega (arith, ap length e, length-append us mid)
