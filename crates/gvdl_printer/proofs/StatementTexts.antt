-- What is written of a statement is that statement, in no more tokens and with no more levels.
use Rattle.std.proofs.Common.{◌≡◌, ◌∙◌, ℕ, Bool, true, false, List, [], ◌∷◌, ◌++◌, Option, Some, None, refl, sym, ap, subst, inl, inr, arith, append_assoc}
use Rattle.std.proofs.lemmas.List.{append-nil}
use Rattle.gvdl_tokens.specs.declared.token.Token.{Token}
use Rattle.gvdl_tokens.specs.declared.token.Token.TheVariants as t
use Rattle.gvdl_tokens.specs.declared.token.Sign.TheVariants as s
use Rattle.gvdl_tokens.specs.declared.word.Word.{Word}
use Rattle.gvdl_tokens.specs.declared.word.Word.TheVariants as w
use Rattle.gvdl_tokens.specs.Printing.{IsPrintable}
use Rattle.gvdl_tokens.specs.Spelling.{word_spelling}
use Rattle.gvdl_tree.specs.declared.script.Arg.{Arg}
use Rattle.gvdl_tree.specs.declared.script.Call.{Call}
use Rattle.gvdl_tree.specs.declared.script.Item.{Item}
use Rattle.gvdl_tree.specs.declared.script.ItemBody.{ItemBody}
use Rattle.gvdl_tree.specs.declared.script.ItemBody.TheVariants as body
use Rattle.gvdl_tree.specs.declared.script.OrderWord.{OrderWord}
use Rattle.gvdl_tree.specs.declared.script.SplitWord.{SplitWord}
use Rattle.gvdl_tree.specs.declared.script.SplitWord.TheVariants as split
use Rattle.gvdl_tree.specs.declared.script.Statement.{Statement}
use Rattle.gvdl_tree.specs.declared.script.Statement.TheVariants as statement
use Rattle.gvdl_parser.specs.declared.run.RunOptions.{RunOptions}
use Rattle.phrase_theory.specs.Phrases.{one, word, pure, Then, separated, optional}
use Rattle.gvdl_parser.specs.Terminals.{along_token, gather_token, within_token}
use Rattle.gvdl_parser.specs.Statements.{behind, part, listed_behind, parentheses, listed, window, rule, item_body, item, items, collection, single, made, create, append, show_order, show_work, shown, show, number_arg, prop_arg, arg_phrase, call, rounds_word, split_none, split_every, split_auto, split_word, order_part, split_part, keep_part, unphased, phased, run_options, run, program, show_tree, insert, remove, sum_part, aggregate, second_form, statement_phrase}
use Rattle.gvdl_printer.specs.Layout.{Piece, tokens, plain, sign, word as word_piece}
use Rattle.gvdl_printer.specs.Canonical.{int_pieces, predicate_pieces, expression_pieces, joined, in_call, arg_pieces, call_pieces, body_pieces, item_pieces, items_pieces, order_pieces, split_pieces, keep_pieces, options_pieces, sum_pieces, statement_pieces}
use Rattle.gvdl_printer.proofs.NameTests.{shaped_utf8}
use Rattle.gvdl_printer.proofs.Better.{AreFewer, IsBetter, Writes, named, pure_is, word_is, one_is, step, left, right}
use Rattle.gvdl_printer.proofs.Ladder.{tokens-append}
use Rattle.gvdl_printer.proofs.Chains.{list_is}
use Rattle.gvdl_printer.proofs.Atoms.{int_tokens, int_is, prop_token, prop_is, either_is}
use Rattle.gvdl_printer.proofs.PredicateTexts.{predicate_is}
use Rattle.gvdl_printer.proofs.ExpressionTexts.{expression_is}

-- ---- parts

pub carried : {A : Type 0} {f : A → Token} → Writes (λ a. f a ∷ []) (one f) (one f)
carried ts a h = one_is h

pub behind_is : {A : Type 0} {f : A → List Token} {L M : List Token → A → Type 0} (w : Word) → Writes f L M → Writes (λ a. t.Word w ∷ f a) (behind w L) (behind w M)
unfolding behind
behind_is {A} {f} w each ts a q =
    let k = q.second in
    named (step q (word_is q.first) (step k (each k.front k.tree k.first) (pure_is k.second)))
    (ap (λ (x : List Token). t.Word w ∷ x) (append-nil (f k.tree)) ∙ ap (λ (x : A). t.Word w ∷ f x) (sym k.second.1))

pub part_is : {A : Type 0} {f : A → List Token} {L M : List Token → A → Type 0} (w : Word) → Writes f L M → Writes (λ a. t.Word w ∷ (f a ++ (t.Sign s.Semicolon ∷ []))) (part w L) (part w M)
unfolding part
part_is {A} {f} w each ts a q =
    let k = q.second in
    let l = k.second in
    named (step q (word_is q.first) (step k (each k.front k.tree k.first) (step l (word_is l.first) (pure_is l.second))))
    (ap (λ (x : A). t.Word w ∷ (f x ++ (t.Sign s.Semicolon ∷ []))) (sym l.second.1))

pub optional_is : {A : Type 0} {f : A → List Token} {L M : List Token → A → Type 0} (g : Option A → List Token) → g None ≡ [] → ((a : A) → g (Some a) ≡ f a) → Writes f L M → Writes g (optional L) (optional M)
optional_is {A} {f} g at_none at_some each ts o q = elim q.which [
  | inl h ↦ named (left (step h (each h.front h.tree h.first) (pure_is h.second))) (append-nil (f h.tree) ∙ sym (at_some h.tree) ∙ ap g (sym h.second.1))
  | inr h ↦ named (right (pure_is h)) (sym (ap g h.1 ∙ at_none))
]

-- ---- lists in parentheses

module _ {A : Type 0} {L M : List Token → A → Type 0} (F : A → List Piece) (each : Writes (λ a. tokens (F a)) L M) where
  abbrev call_tokens : List A → List Token
  call_tokens members = tokens (in_call F members)

  some_called : (first : A) (others : List A) → call_tokens (first ∷ others) ≡ t.Sign s.Open ∷ (tokens (joined (sign s.Comma) F (first ∷ others)) ++ (t.Sign s.Close ∷ []))
  some_called first others = ap (λ (x : List Token). t.Sign s.Open ∷ x) (tokens-append (joined (sign s.Comma) F (first ∷ others)) (sign s.Close ∷ []))

  some_inside : (ts : List Token) (members : List A) → separated (t.Sign s.Comma) L ts members → call_tokens members ≡ t.Sign s.Open ∷ (tokens (joined (sign s.Comma) F members) ++ (t.Sign s.Close ∷ []))
  some_inside ts members q =
      let e : members ≡ q.tree ∷ q.second.tree = q.second.second.1 in
      subst (λ (xs : List A). call_tokens xs ≡ t.Sign s.Open ∷ (tokens (joined (sign s.Comma) F xs) ++ (t.Sign s.Close ∷ []))) (sym e) (some_called q.tree q.second.tree)

  parentheses_is : (ts : List Token) (members : List A) → parentheses L ts members → IsBetter (listed M) ts (call_tokens members) members
  unfolding listed parentheses listed_behind
  parentheses_is ts members q =
      let k = q.second in
      elim k.first.which [
        | inl h ↦
            let e : members ≡ [] = k.second.1 ∙ h.second.1 in
            let none : IsBetter (listed M) ts [] members = record { phrase = record { which = inr (refl, e) }; few = λ f fair. omega arith; printable = λ p. tt } in
            named none (sym (ap call_tokens e))
        | inr h ↦
            let l = h.second in
            let inner : IsBetter (listed_behind M) k.front (tokens (joined (sign s.Comma) F h.tree) ++ (t.Sign s.Close ∷ [])) k.tree = right (step h (list_is (sign s.Comma) F each h.front h.tree h.first) (step l (word_is l.first) (pure_is l.second))) in
            let whole : IsBetter (listed M) ts (t.Sign s.Open ∷ ((tokens (joined (sign s.Comma) F h.tree) ++ (t.Sign s.Close ∷ [])) ++ [])) members = left (step q (word_is q.first) (step k inner (pure_is k.second))) in
            let same : h.tree ≡ members = sym (k.second.1 ∙ l.second.1) in
            named whole (ap (λ (x : List Token). t.Sign s.Open ∷ x) (append-nil (tokens (joined (sign s.Comma) F h.tree) ++ (t.Sign s.Close ∷ []))) ∙ sym (some_inside h.front h.tree h.first) ∙ ap call_tokens same)
      ]

  pub listed_is : Writes (λ members. tokens (in_call F members)) (listed L) (listed M)
  unfolding listed
  listed_is ts members q = elim q.which [
    | inl h ↦ parentheses_is ts members h
    | inr h ↦ named (right (pure_is h)) (sym (ap call_tokens h.1))
  ]

-- ---- items

rule_is : (n : ℕ) → Writes (λ b. tokens (body_pieces b)) (rule n) (rule n)
unfolding rule
rule_is n ts b h = named (step h (predicate_is n h.front h.tree h.first) (pure_is h.second)) (append-nil (tokens (predicate_pieces h.tree 0)) ∙ sym (ap (λ (x : ItemBody). tokens (body_pieces x)) h.second.1))

window_is : Writes (λ b. tokens (body_pieces b)) window window
unfolding window
window_is ts b q =
    let k = q.second in
    let l = k.second in
    let m = l.second in
    let n = m.second in
    let o = n.second in
    let p = o.second in
    let tail : List Piece = word_piece w.Width ∷ plain (t.Number o.tree) ∷ word_piece w.Step ∷ plain (t.Number p.tree) ∷ [] in
    let spelt : tokens (body_pieces (body.Window q.tree l.tree n.tree o.tree p.tree)) ≡ t.Word w.Window ∷ prop_token q.tree ∷ t.Word w.From ∷ (int_tokens l.tree ++ (t.Word w.To ∷ (int_tokens n.tree ++ tokens tail))) =
    ap (λ (x : List Token). t.Word w.Window ∷ prop_token q.tree ∷ t.Word w.From ∷ x) (tokens-append (int_pieces l.tree) (word_piece w.To ∷ (int_pieces n.tree ++ tail)) ∙ ap (λ (x : List Token). int_tokens l.tree ++ (t.Word w.To ∷ x)) (tokens-append (int_pieces n.tree) tail)) in
    named (step q (behind_is w.Window prop_is q.front q.tree q.first) (step k (word_is k.first) (step l (int_is l.front l.tree l.first) (step m (word_is m.first) (step n (int_is n.front n.tree n.first)
    (step o (behind_is w.Width carried o.front o.tree o.first) (step p (behind_is w.Step carried p.front p.tree p.first) (pure_is p.second))))))))
    (sym (ap (λ (x : ItemBody). tokens (body_pieces x)) p.second.1 ∙ spelt))

body_is : (n : ℕ) → Writes (λ b. tokens (body_pieces b)) (item_body n) (item_body n)
unfolding item_body
body_is n = either_is window_is (rule_is n)

item_is : (n : ℕ) → Writes (λ i. tokens (item_pieces i)) (item n) (item n)
unfolding item
item_is n ts i q =
    let k = q.second in
    let l = k.second in
    let m = l.second in
    let o = m.second in
    named (step q (word_is q.first) (step k (one_is k.first) (step l (word_is l.first) (step m (body_is n m.front m.tree m.first) (step o (word_is o.first) (pure_is o.second))))))
    (sym (ap (λ (x : Item). tokens (item_pieces x)) o.second.1 ∙ ap (λ (x : List Token). t.Sign s.OpenBracket ∷ t.Name k.tree ∷ t.Sign s.Colon ∷ x) (tokens-append (body_pieces m.tree) (sign s.CloseBracket ∷ []))))

items_is : (n : ℕ) → Writes (λ is. tokens (items_pieces is)) (items n) (items n)
unfolding items
items_is n = list_is (sign s.Comma) item_pieces (item_is n)

-- ---- statements behind their first words

abbrev pub statement_tokens : Statement → List Token
statement_tokens x = tokens (statement_pieces x)

-- what is written in place of a phrase, behind other tokens, is what is written of the statement
record IsRest (before : List Token) (L : List Token → Statement → Type 0) (ts : List Token) (x : Statement) : Type 0 where
  made_ : List Token
  whole : before ++ made_ ≡ statement_tokens x
  better : IsBetter L ts made_ x

collection_is : (n : ℕ) (ts : List Token) (x : Statement) → collection n ts x → IsRest (t.Word w.Create ∷ t.Word w.View ∷ []) (collection n) ts x
unfolding collection
collection_is n ts x q =
    let k = q.second in
    let l = k.second in
    let m = l.second in
    record {
      made_ = t.Word w.Collection ∷ t.Name q.tree ∷ t.Word w.On ∷ t.Name k.tree ∷ (tokens (items_pieces l.tree) ++ (t.Sign s.Semicolon ∷ []));
      whole = sym (ap statement_tokens m.second.1 ∙ ap (λ (x : List Token). t.Word w.Create ∷ t.Word w.View ∷ t.Word w.Collection ∷ t.Name q.tree ∷ t.Word w.On ∷ t.Name k.tree ∷ x) (tokens-append (items_pieces l.tree) (sign s.Semicolon ∷ [])));
      better = step q (behind_is w.Collection carried q.front q.tree q.first) (step k (behind_is w.On carried k.front k.tree k.first) (step l (items_is n l.front l.tree l.first) (step m (word_is m.first) (pure_is m.second))));
    }

single_is : (n : ℕ) (ts : List Token) (x : Statement) → single n ts x → IsRest (t.Word w.Create ∷ t.Word w.View ∷ []) (single n) ts x
unfolding single
single_is n ts x q =
    let k = q.second in
    let l = k.second in
    let m = l.second in
    let o = m.second in
    let p = o.second in
    record {
      made_ = t.Name q.tree ∷ t.Word w.On ∷ t.Name k.tree ∷ t.Word w.Edges ∷ t.Word w.Where ∷ (tokens (predicate_pieces o.tree 0) ++ (t.Sign s.Semicolon ∷ []));
      whole = sym (ap statement_tokens p.second.1 ∙ ap (λ (x : List Token). t.Word w.Create ∷ t.Word w.View ∷ t.Name q.tree ∷ t.Word w.On ∷ t.Name k.tree ∷ t.Word w.Edges ∷ t.Word w.Where ∷ x) (tokens-append (predicate_pieces o.tree 0) (sign s.Semicolon ∷ [])));
      better = step q (one_is q.first) (step k (behind_is w.On carried k.front k.tree k.first) (step l (word_is l.first) (step m (word_is m.first) (step o (predicate_is n o.front o.tree o.first) (step p (word_is p.first) (pure_is p.second))))));
    }

made_is : (n : ℕ) (ts : List Token) (x : Statement) → made n ts x → IsRest (t.Word w.Create ∷ t.Word w.View ∷ []) (made n) ts x
unfolding made
made_is n ts x q = elim q.which [
  | inl h ↦ let r = collection_is n ts x h in record { made_ = r.made_; whole = r.whole; better = left r.better }
  | inr h ↦ let r = single_is n ts x h in record { made_ = r.made_; whole = r.whole; better = right r.better }
]

create_is : (n : ℕ) → Writes statement_tokens (create n) (create n)
unfolding create
create_is n ts x q =
    let k = q.second in
    let l = k.second in
    let r = made_is n l.front l.tree l.first in
    named (step q (word_is q.first) (step k (word_is k.first) (step l r.better (pure_is l.second))))
    (ap (λ (x : List Token). t.Word w.Create ∷ t.Word w.View ∷ x) (append-nil r.made_) ∙ r.whole ∙ ap statement_tokens (sym l.second.1))

append_is : (n : ℕ) → Writes statement_tokens (append n) (append n)
unfolding append
append_is n ts x q =
    let k = q.second in
    let l = k.second in
    let m = l.second in
    named (step q (word_is q.first) (step k (behind_is w.To carried k.front k.tree k.first) (step l (items_is n l.front l.tree l.first) (step m (word_is m.first) (pure_is m.second)))))
    (sym (ap statement_tokens m.second.1 ∙ ap (λ (x : List Token). t.Word w.Append ∷ t.Word w.To ∷ t.Name k.tree ∷ x) (tokens-append (items_pieces l.tree) (sign s.Semicolon ∷ []))))

show_order_is : (ts : List Token) (x : Statement) → show_order ts x → IsRest (t.Word w.Show ∷ []) show_order ts x
unfolding show_order
show_order_is ts x q = record {
  made_ = t.Word w.Order ∷ t.Name q.tree ∷ t.Sign s.Semicolon ∷ [];
  whole = sym (ap statement_tokens q.second.1);
  better = step q (part_is w.Order carried q.front q.tree q.first) (pure_is q.second);
}

show_work_is : (ts : List Token) (x : Statement) → show_work ts x → IsRest (t.Word w.Show ∷ []) show_work ts x
unfolding show_work
show_work_is ts x q = record {
  made_ = t.Word w.Work ∷ t.Name q.tree ∷ t.Sign s.Semicolon ∷ [];
  whole = sym (ap statement_tokens q.second.1);
  better = step q (part_is w.Work carried q.front q.tree q.first) (pure_is q.second);
}

show_tree_is : (ts : List Token) (x : Statement) → show_tree ts x → IsRest (t.Word w.Show ∷ []) show_tree ts x
unfolding show_tree
show_tree_is ts x q = record {
  made_ = t.Word w.Tree ∷ t.Name q.tree ∷ t.Sign s.Semicolon ∷ [];
  whole = sym (ap statement_tokens q.second.1);
  better = step q (part_is w.Tree carried q.front q.tree q.first) (pure_is q.second);
}

shown_is : (ts : List Token) (x : Statement) → shown ts x → IsRest (t.Word w.Show ∷ []) shown ts x
unfolding shown
shown_is ts x q = elim q.which [
  | inl h ↦ let r = show_order_is ts x h in record { made_ = r.made_; whole = r.whole; better = left r.better }
  | inr u ↦ elim u.which [
    | inl h ↦ let r = show_work_is ts x h in record { made_ = r.made_; whole = r.whole; better = right (left r.better) }
    | inr h ↦ let r = show_tree_is ts x h in record { made_ = r.made_; whole = r.whole; better = right (right r.better) }
  ]
]

show_is : Writes statement_tokens show show
unfolding show
show_is ts x q =
    let k = q.second in
    let r = shown_is k.front k.tree k.first in
    named (step q (word_is q.first) (step k r.better (pure_is k.second)))
    (ap (λ (x : List Token). t.Word w.Show ∷ x) (append-nil r.made_) ∙ r.whole ∙ ap statement_tokens (sym k.second.1))

-- ---- runs

abbrev arg_tokens : Arg → List Token
arg_tokens a = tokens (arg_pieces a)

number_arg_is : Writes arg_tokens number_arg number_arg
unfolding number_arg
number_arg_is ts a h = named (step h (int_is h.front h.tree h.first) (pure_is h.second)) (append-nil (int_tokens h.tree) ∙ sym (ap arg_tokens h.second.1))

prop_arg_is : Writes arg_tokens prop_arg prop_arg
unfolding prop_arg
prop_arg_is ts a h = named (step h (prop_is h.front h.tree h.first) (pure_is h.second)) (sym (ap arg_tokens h.second.1))

arg_is : Writes arg_tokens arg_phrase arg_phrase
unfolding arg_phrase
arg_is = either_is number_arg_is prop_arg_is

abbrev pub call_tokens_of : Call → List Token
call_tokens_of c = tokens (call_pieces c)

call_is : Writes call_tokens_of call call
unfolding call
call_is ts c q =
    let k = q.second in
    named (step q (one_is q.first) (step k (listed_is arg_pieces arg_is k.front k.tree k.first) (pure_is k.second)))
    (ap (λ (x : List Token). t.Name q.tree ∷ x) (append-nil (tokens (in_call arg_pieces k.tree))) ∙ sym (ap call_tokens_of k.second.1))

rounds_printable : IsPrintable (t.Word w.Rounds)
rounds_printable = record { bytes = word_spelling w.Rounds; spelled = refl; utf8 = shaped_utf8 (word_spelling w.Rounds) (refl, refl) }

rounds_is : Writes (λ u. t.Word w.Rounds ∷ []) rounds_word rounds_word
unfolding rounds_word
rounds_is ts u q = elim q.which [
  | inl h ↦ left (word_is h)
  | inr h ↦ record {
    phrase = record { which = inl refl };
    few = subst (AreFewer (t.Word w.Rounds ∷ [])) (sym h) (λ f fair. let le = fair.rounds in omega (arith, le));
    printable = λ p. (rounds_printable, tt);
  }
]

split_rest : SplitWord → List Token
split_rest split.Whole = t.Word w.None ∷ []
split_rest (split.Every n) = t.Word w.Every ∷ t.Number n ∷ []
split_rest split.Auto = t.Word w.Auto ∷ []

split_word_is : Writes split_rest split_word split_word
unfolding split_word split_none split_every split_auto split_rest
split_word_is = either_is (λ ts d h. named (step h (word_is h.first) (pure_is h.second)) (sym (ap split_rest h.second.1)))
    (either_is (λ ts d h. named (step h (behind_is w.Every carried h.front h.tree h.first) (pure_is h.second)) (sym (ap split_rest h.second.1)))
    (λ ts d h. named (step h (word_is h.first) (pure_is h.second)) (sym (ap split_rest h.second.1))))

split_spelt : (d : SplitWord) → tokens (split_pieces (Some d)) ≡ t.Word w.Split ∷ split_rest d
unfolding split_rest
split_spelt split.Whole = refl
split_spelt (split.Every n) = refl
split_spelt split.Auto = refl

order_is : Writes (λ o. tokens (order_pieces o)) order_part order_part
unfolding order_part
order_is = optional_is (λ o. tokens (order_pieces o)) refl (λ o. refl) (behind_is w.Order carried)

split_is : Writes (λ d. tokens (split_pieces d)) split_part split_part
unfolding split_part
split_is = optional_is (λ d. tokens (split_pieces d)) refl split_spelt (behind_is w.Split split_word_is)

kept_is : Writes (λ name. t.Word w.Keep ∷ t.Word w.As ∷ t.Name name ∷ []) (Then (word (t.Word w.Keep)) (λ _. Then (behind w.As (one t.Name)) (λ name. pure name))) (Then (word (t.Word w.Keep)) (λ _. Then (behind w.As (one t.Name)) (λ name. pure name)))
kept_is ts name q =
    let k = q.second in
    named (step q (word_is q.first) (step k (behind_is w.As carried k.front k.tree k.first) (pure_is k.second)))
    (ap (λ (x : List ℕ). t.Word w.Keep ∷ t.Word w.As ∷ t.Name x ∷ []) (sym k.second.1))

keep_is : Writes (λ k. tokens (keep_pieces k)) keep_part keep_part
unfolding keep_part
keep_is = optional_is (λ k. tokens (keep_pieces k)) refl (λ k. refl) kept_is

ending_spelt : (o : Option OrderWord) (d : Option SplitWord) (k : Option (List ℕ)) → tokens (order_pieces o ++ (split_pieces d ++ (keep_pieces k ++ sign s.Semicolon ∷ []))) ≡ tokens (order_pieces o) ++ (tokens (split_pieces d) ++ (tokens (keep_pieces k) ++ (t.Sign s.Semicolon ∷ [])))
ending_spelt o d k = tokens-append (order_pieces o) _ ∙ ap (λ (x : List Token). tokens (order_pieces o) ++ x) (tokens-append (split_pieces d) _ ∙ ap (λ (x : List Token). tokens (split_pieces d) ++ x) (tokens-append (keep_pieces k) (sign s.Semicolon ∷ [])))

abbrev options_tokens : RunOptions → List Token
options_tokens o = tokens (options_pieces o.order o.split o.keep o.phases)

unphased_is : Writes options_tokens unphased unphased
unfolding unphased
unphased_is ts o q =
    let h = q.second in
    let i = h.second in
    let k = i.second in
    named (step q (order_is q.front q.tree q.first) (step h (split_is h.front h.tree h.first) (step i (keep_is i.front i.tree i.first) (step k (word_is k.first) (pure_is k.second)))))
    (sym (ap options_tokens k.second.1 ∙ ending_spelt q.tree h.tree i.tree))

phased_is : Writes options_tokens phased phased
unfolding phased
phased_is ts o q = named (step q (part_is w.Phases carried q.front q.tree q.first) (pure_is q.second)) (sym (ap options_tokens q.second.1))

options_is : (within : Bool) → Writes options_tokens (run_options within) (run_options within)
unfolding run_options
options_is true = either_is phased_is unphased_is
options_is false = unphased_is

run_is : Writes statement_tokens run run
unfolding run
run_is ts x q =
    let a = q.second in
    let b = a.second in
    let c = b.second in
    let d = c.second in
    let f = d.second in
    let g = f.second in
    let h = g.second in
    let o : RunOptions = h.tree in
    let made_ : List Token = t.Word w.Run ∷ (call_tokens_of a.tree ++ (t.Word w.On ∷ t.Name c.tree ∷ within_token d.tree ∷ t.Number f.tree ∷ t.Word w.Rounds ∷ options_tokens o)) in
    let spelt : statement_tokens (statement.Run a.tree c.tree d.tree f.tree o.order o.split o.keep o.phases) ≡ made_ =
    ap (λ (x : List Token). t.Word w.Run ∷ x) (tokens-append (call_pieces a.tree) (word_piece w.On ∷ plain (t.Name c.tree) ∷ plain (within_token d.tree) ∷ plain (t.Number f.tree) ∷ word_piece w.Rounds ∷ options_pieces o.order o.split o.keep o.phases)) in
    named (step q (word_is q.first) (step a (call_is a.front a.tree a.first) (step b (word_is b.first) (step c (one_is c.first) (step d (one_is d.first) (step f (one_is f.first) (step g (rounds_is g.front g.tree g.first)
    (step h (options_is d.tree h.front h.tree h.first) (pure_is h.second)))))))))
    (ap (λ (x : List Token). t.Word w.Run ∷ (call_tokens_of a.tree ++ (t.Word w.On ∷ t.Name c.tree ∷ within_token d.tree ∷ t.Number f.tree ∷ t.Word w.Rounds ∷ x))) (append-nil (options_tokens o)) ∙ sym (ap statement_tokens h.second.1 ∙ spelt))

-- ---- programs

params_is : Writes (λ ps. tokens (in_call (λ p. plain (t.Name p) ∷ []) ps)) (listed (one t.Name)) (listed (one t.Name))
params_is = listed_is (λ p. plain (t.Name p) ∷ []) carried

program_is : (n : ℕ) → Writes statement_tokens (program n) (program n)
unfolding program
program_is n ts x q =
    let a = q.second in
    let b = a.second in
    let c = b.second in
    let d = c.second in
    let f = d.second in
    let g = f.second in
    let h = g.second in
    let i = h.second in
    let end : List Piece = sign s.Semicolon ∷ sign s.CloseBrace ∷ [] in
    let update : List Piece = expression_pieces h.tree 0 ++ end in
    let gathered : List Piece = sign s.Semicolon ∷ word_piece w.Gather ∷ plain (gather_token g.tree) ∷ sign s.Semicolon ∷ word_piece w.Update ∷ update in
    let sent : List Piece = expression_pieces f.tree 0 ++ gathered in
    let started : List Piece = expression_pieces d.tree 0 ++ sign s.Semicolon ∷ word_piece w.Send ∷ sent in
    let inner : List Piece = sign s.OpenBrace ∷ word_piece w.Along ∷ plain (along_token c.tree) ∷ sign s.Semicolon ∷ word_piece w.Start ∷ started in
    let params : List Piece = in_call (λ (p : List ℕ). plain (t.Name p) ∷ []) a.tree in
    let e1 : tokens update ≡ tokens (expression_pieces h.tree 0) ++ tokens end = tokens-append (expression_pieces h.tree 0) end in
    let e2 : tokens sent ≡ tokens (expression_pieces f.tree 0) ++ tokens gathered = tokens-append (expression_pieces f.tree 0) gathered in
    let e3 : tokens started ≡ tokens (expression_pieces d.tree 0) ++ (t.Sign s.Semicolon ∷ t.Word w.Send ∷ tokens sent) = tokens-append (expression_pieces d.tree 0) (sign s.Semicolon ∷ word_piece w.Send ∷ sent) in
    let e4 : tokens (params ++ inner) ≡ tokens params ++ tokens inner = tokens-append params inner in
    let made_ : List Token = (t.Word w.Program ∷ t.Name q.tree ∷ []) ++ (tokens params ++ (t.Sign s.OpenBrace ∷ ((t.Word w.Along ∷ along_token c.tree ∷ t.Sign s.Semicolon ∷ []) ++ ((t.Word w.Start ∷ (tokens (expression_pieces d.tree 0) ++ (t.Sign s.Semicolon ∷ []))) ++ ((t.Word w.Send ∷ (tokens (expression_pieces f.tree 0) ++ (t.Sign s.Semicolon ∷ []))) ++ ((t.Word w.Gather ∷ gather_token g.tree ∷ t.Sign s.Semicolon ∷ []) ++ ((t.Word w.Update ∷ (tokens (expression_pieces h.tree 0) ++ (t.Sign s.Semicolon ∷ []))) ++ (t.Sign s.CloseBrace ∷ [])))))))) in
    let spelt : statement_tokens (statement.Program q.tree a.tree c.tree d.tree f.tree g.tree h.tree) ≡ made_ =
    ap (λ (x : List Token). t.Word w.Program ∷ t.Name q.tree ∷ x) (e4 ∙ ap (λ (x : List Token). tokens params ++ (t.Sign s.OpenBrace ∷ t.Word w.Along ∷ along_token c.tree ∷ t.Sign s.Semicolon ∷ t.Word w.Start ∷ x))
    (program_parts (tokens (expression_pieces d.tree 0)) (tokens (expression_pieces f.tree 0)) (tokens (expression_pieces h.tree 0)) (gather_token g.tree) (tokens started) (tokens sent) (tokens update) e3 e2 e1)) in
    named (step q (behind_is w.Program carried q.front q.tree q.first) (step a (params_is a.front a.tree a.first) (step b (word_is b.first) (step c (part_is w.Along carried c.front c.tree c.first)
    (step d (part_is w.Start (expression_is n) d.front d.tree d.first) (step f (part_is w.Send (expression_is n) f.front f.tree f.first) (step g (part_is w.Gather carried g.front g.tree g.first)
    (step h (part_is w.Update (expression_is n) h.front h.tree h.first) (step i (word_is i.first) (pure_is i.second))))))))))
    (sym (ap statement_tokens i.second.1 ∙ spelt)) where
      program_parts : (start send update : List Token) (gather : Token) (started sent updated : List Token) → started ≡ start ++ (t.Sign s.Semicolon ∷ t.Word w.Send ∷ sent) → sent ≡ send ++ (t.Sign s.Semicolon ∷ t.Word w.Gather ∷ gather ∷ t.Sign s.Semicolon ∷ t.Word w.Update ∷ updated) → updated ≡ update ++ (t.Sign s.Semicolon ∷ t.Sign s.CloseBrace ∷ [])
          → started ≡ (start ++ (t.Sign s.Semicolon ∷ [])) ++ (t.Word w.Send ∷ ((send ++ (t.Sign s.Semicolon ∷ [])) ++ (t.Word w.Gather ∷ gather ∷ t.Sign s.Semicolon ∷ t.Word w.Update ∷ ((update ++ (t.Sign s.Semicolon ∷ [])) ++ (t.Sign s.CloseBrace ∷ [])))))
      program_parts start send update gather started sent updated e3 e2 e1 =
          e3 ∙ ap (λ (x : List Token). start ++ (t.Sign s.Semicolon ∷ t.Word w.Send ∷ x)) (e2 ∙ ap (λ (x : List Token). send ++ (t.Sign s.Semicolon ∷ t.Word w.Gather ∷ gather ∷ t.Sign s.Semicolon ∷ t.Word w.Update ∷ x)) (e1 ∙ sym (append_assoc update (t.Sign s.Semicolon ∷ []) (t.Sign s.CloseBrace ∷ [])))
          ∙ sym (append_assoc send (t.Sign s.Semicolon ∷ []) _)) ∙ sym (append_assoc start (t.Sign s.Semicolon ∷ []) _)

-- ---- statements of form 2

insert_is : Writes statement_tokens insert insert
unfolding insert
insert_is ts x q =
    let k = q.second in
    named (step q (word_is q.first) (step k (part_is w.Edges carried k.front k.tree k.first) (pure_is k.second))) (sym (ap statement_tokens k.second.1))

remove_is : (n : ℕ) → Writes statement_tokens (remove n) (remove n)
unfolding remove
remove_is n ts x q =
    let k = q.second in
    let l = k.second in
    let m = l.second in
    let o = m.second in
    named (step q (word_is q.first) (step k (word_is k.first) (step l (word_is l.first) (step m (predicate_is n m.front m.tree m.first) (step o (word_is o.first) (pure_is o.second))))))
    (sym (ap statement_tokens o.second.1 ∙ ap (λ (x : List Token). t.Word w.Remove ∷ t.Word w.Edges ∷ t.Word w.Where ∷ x) (tokens-append (predicate_pieces m.tree 0) (sign s.Semicolon ∷ []))))

sum_is : Writes (λ p. tokens (sum_pieces p)) sum_part sum_part
unfolding sum_part
sum_is = optional_is (λ p. tokens (sum_pieces p)) refl (λ p. refl) (behind_is w.Sum prop_is)

aggregate_is : Writes statement_tokens aggregate aggregate
unfolding aggregate
aggregate_is ts x q =
    let k = q.second in
    let l = k.second in
    let m = l.second in
    let o = m.second in
    named (step q (behind_is w.Aggregate carried q.front q.tree q.first) (step k (word_is k.first) (step l (behind_is w.By prop_is l.front l.tree l.first) (step m (sum_is m.front m.tree m.first) (step o (word_is o.first) (pure_is o.second))))))
    (sym (ap statement_tokens o.second.1 ∙ ap (λ (x : List Token). t.Word w.Aggregate ∷ t.Name q.tree ∷ t.Word w.Group ∷ t.Word w.By ∷ prop_token l.tree ∷ x) (tokens-append (sum_pieces m.tree) (sign s.Semicolon ∷ []))))

second_form_is : (n : ℕ) → Writes statement_tokens (second_form n) (second_form n)
unfolding second_form
second_form_is n = either_is insert_is (either_is (remove_is n) aggregate_is)

-- ---- all statements

pub statement_is : (n : ℕ) → Writes statement_tokens (statement_phrase n) (statement_phrase n)
unfolding statement_phrase
statement_is n = either_is (create_is n) (either_is (program_is n) (either_is run_is (either_is (append_is n) (either_is show_is (second_form_is n)))))
