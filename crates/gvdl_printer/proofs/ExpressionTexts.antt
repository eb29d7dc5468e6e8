-- What is written of an expression is that expression, in no more tokens and with no more levels.
use Rattle.std.proofs.Common.{◌≡◌, ◌∙◌, ◌≤◌, ◌<◌, ℕ, zero, suc, Bool, true, false, List, [], ◌∷◌, ◌++◌, refl, sym, ap, subst, inl, inr, arith}
use Rattle.std.specs.List.{flat_map}
use Rattle.std.proofs.lemmas.List.{append-nil}
use Rattle.gvdl_tokens.specs.declared.token.Token.{Token}
use Rattle.gvdl_tokens.specs.declared.token.Token.TheVariants as t
use Rattle.gvdl_tokens.specs.declared.token.Sign.TheVariants as s
use Rattle.gvdl_tokens.specs.declared.word.Word.TheVariants as w
use Rattle.gvdl_tree.specs.declared.predicate.Cmp.{Cmp}
use Rattle.gvdl_tree.specs.declared.expression.ExprTree.{ExprTree}
use Rattle.gvdl_tree.specs.declared.expression.ExprTree.TheVariants as e
use Rattle.gvdl_tree.specs.declared.expression.Test.{Test}
use Rattle.gvdl_tree.specs.declared.expression.Test.TheVariants as test
use Rattle.phrase_theory.specs.LevelLaws.{Within}
use Rattle.gvdl_parser.specs.Terminals.{cmp_token, term_token, factor_token, extreme_token}
use Rattle.gvdl_parser.specs.Expressions.{product_tree, sum_tree, else_tree, factor, product_of, term, sum_of, sums_of, compared_sum, nil_sum, test_of, condition_of, negative, enclosed, extreme_tree, extreme, unary_with, conditional, unary, expression}
use Rattle.gvdl_printer.specs.Layout.{tokens, plain, sign, word as word_piece}
use Rattle.gvdl_printer.specs.Canonical.{expression_pieces, test_pieces, joined}
use Rattle.gvdl_printer.proofs.Equations.{expression-If, expression-Else, expression-Sum, expression-Product, expression-Minus, expression-Least, expression-Most, test-Compare, test-IsNil}
use Rattle.gvdl_printer.proofs.Better.{IsBetter, Writes, named, pure_is, word_is, one_is, step, left, right, chain_tokens}
use Rattle.gvdl_printer.proofs.Ladder.{tokens-append, parenthesized, IsRanked, ranked, IsLadder, IsPlaced, ArePlaced, IsSettled, chain_placed, plain_placed, settled_at, settled_top, enclosed_placed}
use Rattle.gvdl_printer.proofs.Chains.{chained_one, chain_cases, several_is, tokens-joined, tokens-parts, list_is}
use Rattle.gvdl_printer.proofs.Tails.{tail_tokens, tail_cases, tailed_one, tail_is}
use Rattle.gvdl_printer.proofs.MoreLevels.{product_within, sum_within, unary_grows, expression_grows}
use Rattle.gvdl_printer.proofs.Leaves.{spelt, leaf_is}

-- a place takes any expression (0), no `if` and no chain of `else` (1), no sum either (2), or no chain at all (3)
abbrev P : ℕ → ℕ → List Token → ExprTree → Type 0
P n zero = expression n
P n (suc zero) = sum_of (unary n)
P n (suc (suc zero)) = product_of (unary n)
P n (suc (suc (suc k))) = unary n

-- ---- chains of one member, and more levels

product_one : (U : List Token → ExprTree → Type 0) → Within U (product_of U)
unfolding product_of factor
product_one U ts a h = tailed_one factor_token product_tree U (λ a. refl) ts a h

sum_one : (U : List Token → ExprTree → Type 0) → Within (product_of U) (sum_of U)
unfolding sum_of term
sum_one U ts a h = tailed_one term_token sum_tree (product_of U) (λ a. refl) ts a h

sums_one : (U : List Token → ExprTree → Type 0) → Within (sum_of U) (sums_of U)
unfolding sums_of
sums_one U ts a h = chained_one (t.Word w.Else) else_tree (sum_of U) ts a refl h

of_sums : (n : ℕ) → Within (sums_of (unary n)) (expression n)
unfolding unary expression
of_sums zero ts a h = h
of_sums (suc n) ts a h = record { which = inr h }

ladder : (n : ℕ) → IsLadder spelt 3 P n
ladder n = record { lower = lower } where
  lower : (k : ℕ) → k < 3 → Within (P n (suc k)) (P n k)
  lower zero lt = λ ts a h. of_sums n ts a (sums_one (unary n) ts a h)
  lower (suc zero) lt = sum_one (unary n)
  lower (suc (suc zero)) lt = product_one (unary n)
  lower (suc (suc (suc k))) lt = absurd (omega (arith, lt))

grows : (n k : ℕ) → Within (P n k) (P (suc n) k)
grows n zero = expression_grows n
grows n (suc zero) = sum_within (unary n) (unary (suc n)) (unary_grows n)
grows n (suc (suc zero)) = product_within (unary n) (unary (suc n)) (unary_grows n)
grows n (suc (suc (suc k))) = unary_grows n

opened : (n : ℕ) (ts : List Token) (a : ExprTree) → expression n ts a → unary (suc n) (parenthesized ts) a
unfolding unary expression unary_with enclosed
opened n ts a h = record {
  which = inr (record {
    which = inl (record {
      front = t.Sign s.Open ∷ [];
      back = ts ++ t.Sign s.Close ∷ [];
      tree = tt;
      split = refl;
      first = refl;
      second = record { front = ts; back = t.Sign s.Close ∷ []; tree = a; split = refl; first = h; second = record { front = t.Sign s.Close ∷ []; back = []; tree = tt; split = refl; first = refl; second = (refl, refl) } };
    });
  });
}

-- ---- how chains are written

if_ranked : (tests : List Test) (a b : ExprTree) → IsRanked spelt 0 (e.If tests a b)
if_ranked tests a b = ranked expression_pieces 0 (e.If tests a b) (word_piece w.If ∷ (joined (word_piece w.And) test_pieces tests ++ word_piece w.Then ∷ (expression_pieces a 1 ++ word_piece w.Else ∷ expression_pieces b 0))) (expression-If tests a b)

else_ranked : (members : List ExprTree) → IsRanked spelt 0 (e.Else members)
else_ranked members = ranked expression_pieces 0 (e.Else members) (joined (word_piece w.Else) (λ a. expression_pieces a 1) members) (expression-Else members)

sum_ranked : (first : ExprTree) (others : List (Bool × ExprTree)) → IsRanked spelt 1 (e.Sum first others)
sum_ranked first others = ranked expression_pieces 1 (e.Sum first others) (expression_pieces first 2 ++ flat_map (λ other. plain (term_token other.0) ∷ expression_pieces other.1 2) others) (expression-Sum first others)

product_ranked : (first : ExprTree) (others : List (Bool × ExprTree)) → IsRanked spelt 2 (e.Product first others)
product_ranked first others = ranked expression_pieces 2 (e.Product first others) (expression_pieces first 3 ++ flat_map (λ other. plain (factor_token other.0) ∷ expression_pieces other.1 3) others) (expression-Product first others)

else_spelt : (first : ExprTree) (others : List ExprTree) → spelt 0 (e.Else (first ∷ others)) ≡ chain_tokens (t.Word w.Else) (spelt 1) first others
else_spelt first others = ap tokens (expression-Else (first ∷ others) 0) ∙ tokens-joined (word_piece w.Else) (λ a. expression_pieces a 1) first others

sum_spelt : (first : ExprTree) (others : List (Bool × ExprTree)) → spelt 1 (e.Sum first others) ≡ spelt 2 first ++ tail_tokens term_token (spelt 2) others
sum_spelt first others = ap tokens (expression-Sum first others 1) ∙ tokens-append (expression_pieces first 2) (flat_map (λ other. plain (term_token other.0) ∷ expression_pieces other.1 2) others)
    ∙ ap (λ (ts : List Token). spelt 2 first ++ ts) (tokens-parts (λ (other : Bool × ExprTree). plain (term_token other.0) ∷ expression_pieces other.1 2) others)

product_spelt : (first : ExprTree) (others : List (Bool × ExprTree)) → spelt 2 (e.Product first others) ≡ spelt 3 first ++ tail_tokens factor_token (spelt 3) others
product_spelt first others = ap tokens (expression-Product first others 2) ∙ tokens-append (expression_pieces first 3) (flat_map (λ other. plain (factor_token other.0) ∷ expression_pieces other.1 3) others)
    ∙ ap (λ (ts : List Token). spelt 3 first ++ ts) (tokens-parts (λ (other : Bool × ExprTree). plain (factor_token other.0) ∷ expression_pieces other.1 3) others)

abbrev Placed : ℕ → ℕ → Type 0
Placed n k = ArePlaced spelt 3 P n k

at_place : (n k : ℕ) → Placed n k → Writes (spelt k) (P n k) (P n k)
at_place n k h ts a q = (h ts a q).by k (omega arith)

products_placed : (n : ℕ) → Placed n 3 → Placed n 2
unfolding product_of factor
products_placed n top ts a q = elim (tail_cases factor_token product_tree (unary n) (λ a. refl) ts a q) [
  | inl h ↦ let k = top ts a h in record { by = λ j le. k.by j (omega (arith, le)) }
  | inr v ↦ chain_placed spelt 3 P n 2 (ladder n) (omega arith) ts a (subst (IsRanked spelt 2) (sym v.is) (product_ranked v.first (v.other ∷ v.others)))
      (named (tail_is (spelt 3) (at_place n 3 top) ts a v) (sym (product_spelt v.first (v.other ∷ v.others)) ∙ ap (spelt 2) (sym v.is)))
]

sums_placed : (n : ℕ) → Placed n 2 → Placed n 1
unfolding sum_of term
sums_placed n middle ts a q = elim (tail_cases term_token sum_tree (product_of (unary n)) (λ a. refl) ts a q) [
  | inl h ↦ let k = middle ts a h in record { by = λ j le. k.by j (omega (arith, le)) }
  | inr v ↦ chain_placed spelt 3 P n 1 (ladder n) (omega arith) ts a (subst (IsRanked spelt 1) (sym v.is) (sum_ranked v.first (v.other ∷ v.others)))
      (named (tail_is (spelt 2) (at_place n 2 middle) ts a v) (sym (sum_spelt v.first (v.other ∷ v.others)) ∙ ap (spelt 1) (sym v.is)))
]

-- chains of `else`
else_placed : (n : ℕ) → Placed n 1 → (ts : List Token) (a : ExprTree) → sums_of (unary n) ts a → IsPlaced spelt 3 P n 0 ts a
unfolding sums_of
else_placed n middle ts a q = elim (chain_cases (t.Word w.Else) else_tree (sum_of (unary n)) (λ a. refl) ts a q) [
  | inl h ↦ let k = middle ts a h in record { by = λ j le. k.by j (omega (arith, le)) }
  | inr v ↦
      let made = several_is (spelt 1) (at_place n 1 middle) ts a v in
      let us : List Token = chain_tokens (t.Word w.Else) (spelt 1) v.first (v.second ∷ v.more) in
      let better : IsBetter (expression n) ts us a = record { phrase = of_sums n us a made.phrase; few = made.few; printable = made.printable } in
      chain_placed spelt 3 P n 0 (ladder n) (omega arith) ts a (subst (IsRanked spelt 0) (sym v.is) (else_ranked (v.first ∷ v.second ∷ v.more)))
      (named better (sym (else_spelt v.first (v.second ∷ v.more)) ∙ ap (spelt 0) (sym v.is)))
]

-- ---- what stands in parentheses

product_settled : (n : ℕ) (ts : List Token) (a : ExprTree) → product_of (unary n) ts a → IsSettled spelt 3 P n ts a
unfolding product_of factor
product_settled n ts a q = elim (tail_cases factor_token product_tree (unary n) (λ a. refl) ts a q) [
  | inl h ↦ settled_top spelt 3 P n ts a h
  | inr v ↦ settled_at spelt 3 P n 2 (omega arith) ts a q (subst (IsRanked spelt 2) (sym v.is) (product_ranked v.first (v.other ∷ v.others)))
]

sum_settled : (n : ℕ) (ts : List Token) (a : ExprTree) → sum_of (unary n) ts a → IsSettled spelt 3 P n ts a
unfolding sum_of term
sum_settled n ts a q = elim (tail_cases term_token sum_tree (product_of (unary n)) (λ a. refl) ts a q) [
  | inl h ↦ product_settled n ts a h
  | inr v ↦ settled_at spelt 3 P n 1 (omega arith) ts a q (subst (IsRanked spelt 1) (sym v.is) (sum_ranked v.first (v.other ∷ v.others)))
]

sums_settled : (n : ℕ) (ts : List Token) (a : ExprTree) → sums_of (unary n) ts a → IsSettled spelt 3 P n ts a
unfolding sums_of
sums_settled n ts a q = elim (chain_cases (t.Word w.Else) else_tree (sum_of (unary n)) (λ a. refl) ts a q) [
  | inl h ↦ sum_settled n ts a h
  | inr v ↦ settled_at spelt 3 P n 0 (omega arith) ts a (of_sums n ts a q) (subst (IsRanked spelt 0) (sym v.is) (else_ranked (v.first ∷ v.second ∷ v.more)))
]

conditional_settled : (n : ℕ) (ts : List Token) (a : ExprTree) → conditional (unary n) (expression n) ts a → expression (suc n) ts a → IsSettled spelt 3 P (suc n) ts a
unfolding conditional
conditional_settled n ts a q whole =
    let last = q.second.second.second.second.second.second in
    settled_at spelt 3 P (suc n) 0 (omega arith) ts a whole (subst (IsRanked spelt 0) (sym last.1) (if_ranked q.second.tree q.second.second.second.tree q.second.second.second.second.second.tree))

expression_settled : (n : ℕ) (ts : List Token) (a : ExprTree) → expression n ts a → IsSettled spelt 3 P n ts a
unfolding unary expression
expression_settled zero ts a q = sums_settled 0 ts a q
expression_settled (suc n) ts a q = elim q.which [ inl h ↦ conditional_settled n ts a h q | inr h ↦ sums_settled (suc n) ts a h ]

-- ---- tests

abbrev pub test_tokens : Test → List Token
test_tokens x = tokens (test_pieces x)

compared_spelt : (a : ExprTree) (c : Cmp) (b : ExprTree) → test_tokens (test.Compare a c b) ≡ spelt 1 a ++ (cmp_token c ∷ spelt 1 b)
compared_spelt a c b = ap tokens (test-Compare a c b) ∙ tokens-append (expression_pieces a 1) (plain (cmp_token c) ∷ expression_pieces b 1)

nil_spelt : (a : ExprTree) → test_tokens (test.IsNil a) ≡ spelt 1 a ++ (t.Word w.Is ∷ t.Word w.None ∷ [])
nil_spelt a = ap tokens (test-IsNil a) ∙ tokens-append (expression_pieces a 1) (word_piece w.Is ∷ word_piece w.None ∷ [])

test_is : (U : List Token → ExprTree → Type 0) → Writes (spelt 1) (sum_of U) (sum_of U) → Writes test_tokens (test_of U) (test_of U)
unfolding test_of compared_sum nil_sum
test_is U each ts x q =
    let first = each q.front q.tree q.first in
    elim q.second.which [
      | inl h ↦
          let k = h.second in
          named (step q first (left (step h (one_is h.first) (step k (each k.front k.tree k.first) (pure_is k.second)))))
          (ap (λ (ts : List Token). spelt 1 q.tree ++ (cmp_token h.tree ∷ ts)) (append-nil (spelt 1 k.tree)) ∙ sym (ap test_tokens k.second.1 ∙ compared_spelt q.tree h.tree k.tree))
      | inr h ↦
          let k = h.second in
          named (step q first (right (step h (word_is h.first) (step k (word_is k.first) (pure_is k.second)))))
          (sym (ap test_tokens k.second.1 ∙ nil_spelt q.tree))
    ]

condition_is : (U : List Token → ExprTree → Type 0) → Writes (spelt 1) (sum_of U) (sum_of U) → Writes (λ tests. tokens (joined (word_piece w.And) test_pieces tests)) (condition_of U) (condition_of U)
unfolding condition_of
condition_is U each = list_is (word_piece w.And) test_pieces (test_is U each)

-- ---- all levels

record ArePlacedAll (n : ℕ) : Type 0 where
  top : Placed n 3
  products : Placed n 2
  sums : Placed n 1
  weak : Placed n 0

each_place : (n : ℕ) → ArePlacedAll n → (k : ℕ) → k ≤ 3 → Placed n k
each_place n all zero le = all.weak
each_place n all (suc zero) le = all.sums
each_place n all (suc (suc zero)) le = all.products
each_place n all (suc (suc (suc zero))) le = all.top
each_place n all (suc (suc (suc (suc k)))) le = absurd (omega (arith, le))

extreme_spelt : (greatest : Bool) (a b : ExprTree) (k : ℕ) → spelt k (extreme_tree greatest a b) ≡ extreme_token greatest ∷ t.Sign s.Open ∷ (spelt 0 a ++ (t.Sign s.Comma ∷ (spelt 0 b ++ (t.Sign s.Close ∷ []))))
extreme_spelt false a b k = ap tokens (expression-Least a b k) ∙ ap (λ (ts : List Token). t.Word w.Min ∷ t.Sign s.Open ∷ ts) (tokens-append (expression_pieces a 0) (sign s.Comma ∷ (expression_pieces b 0 ++ sign s.Close ∷ [])) ∙ ap (λ (ts : List Token). spelt 0 a ++ (t.Sign s.Comma ∷ ts)) (tokens-append (expression_pieces b 0) (sign s.Close ∷ [])))
extreme_spelt true a b k = ap tokens (expression-Most a b k) ∙ ap (λ (ts : List Token). t.Word w.Max ∷ t.Sign s.Open ∷ ts) (tokens-append (expression_pieces a 0) (sign s.Comma ∷ (expression_pieces b 0 ++ sign s.Close ∷ [])) ∙ ap (λ (ts : List Token). spelt 0 a ++ (t.Sign s.Comma ∷ ts)) (tokens-append (expression_pieces b 0) (sign s.Close ∷ [])))

top_zero : Placed 0 3
unfolding unary
top_zero ts a q = let l = leaf_is ts a q in plain_placed spelt 3 P 0 (ladder 0) ts l.made a l.at l.better

negative_placed : (n : ℕ) → ArePlacedAll n → (ts : List Token) (a : ExprTree) → negative (unary n) ts a → IsPlaced spelt 3 P (suc n) 3 ts a
unfolding unary negative unary_with
negative_placed n inside ts a h =
    let k = h.second in
    let inner = (inside.top k.front k.tree k.first).by 3 (omega arith) in
    let made : IsBetter (unary (suc n)) ts (t.Sign s.Minus ∷ (spelt 3 k.tree ++ [])) a = left (step h (word_is h.first) (step k inner (pure_is k.second))) in
    plain_placed spelt 3 P (suc n) (ladder (suc n)) ts (t.Sign s.Minus ∷ spelt 3 k.tree) a (λ j. ap (spelt j) k.second.1 ∙ ap tokens (expression-Minus k.tree j)) (named made (ap (λ (x : List Token). t.Sign s.Minus ∷ x) (append-nil (spelt 3 k.tree))))

round_placed : (n : ℕ) → ArePlacedAll n → (ts : List Token) (a : ExprTree) → enclosed (expression n) ts a → IsPlaced spelt 3 P (suc n) 3 ts a
unfolding enclosed
round_placed n inside ts a h =
    let k = h.second in
    let l = k.second in
    let same : k.tree ≡ a = sym l.second.1 in
    let whole : ts ≡ parenthesized k.front = h.split ∙ ap (λ (x : List Token). x ++ h.back) h.first ∙ ap (λ (x : List Token). t.Sign s.Open ∷ x) (k.split ∙ ap (λ (x : List Token). k.front ++ x) (l.split ∙ ap (λ (x : List Token). x ++ l.back) l.first ∙ ap (λ (x : List Token). t.Sign s.Close ∷ x) l.second.0)) in
    let it : expression n k.front a = subst (λ (x : ExprTree). expression n k.front x) same k.first in
    subst (λ (x : List Token). IsPlaced spelt 3 P (suc n) 3 x a) (sym whole) (enclosed_placed spelt 3 P n (ladder (suc n)) (grows n) (opened n) (each_place n inside) k.front a (expression_settled n k.front a it))

extreme_placed : (n : ℕ) → ArePlacedAll n → (ts : List Token) (a : ExprTree) → extreme (expression n) ts a → IsPlaced spelt 3 P (suc n) 3 ts a
unfolding unary extreme unary_with
extreme_placed n inside ts a h =
    let k = h.second in
    let l = k.second in
    let m = l.second in
    let o = m.second in
    let p = o.second in
    let first = (inside.weak l.front l.tree l.first).by 0 (omega arith) in
    let second = (inside.weak o.front o.tree o.first).by 0 (omega arith) in
    plain_placed spelt 3 P (suc n) (ladder (suc n)) ts (extreme_token h.tree ∷ t.Sign s.Open ∷ (spelt 0 l.tree ++ (t.Sign s.Comma ∷ (spelt 0 o.tree ++ (t.Sign s.Close ∷ []))))) a
    (λ j. ap (spelt j) p.second.1 ∙ extreme_spelt h.tree l.tree o.tree j)
    (right (right (left (step h (one_is h.first) (step k (word_is k.first) (step l first (step m (word_is m.first) (step o second (step p (word_is p.first) (pure_is p.second))))))))))

top_more : (n : ℕ) → ArePlacedAll n → Placed (suc n) 3
unfolding unary unary_with
top_more n inside ts a q = elim q.which [
  | inl h ↦ negative_placed n inside ts a h
  | inr x ↦ elim x.which [
    | inl h ↦ round_placed n inside ts a h
    | inr y ↦ elim y.which [
      | inl h ↦ extreme_placed n inside ts a h
      | inr h ↦ let l = leaf_is ts a h in plain_placed spelt 3 P (suc n) (ladder (suc n)) ts l.made a l.at (right (right (right l.better)))
    ]
  ]
]

conditional_spelt : (tests : List Test) (a b : ExprTree) → spelt 0 (e.If tests a b) ≡ t.Word w.If ∷ (tokens (joined (word_piece w.And) test_pieces tests) ++ (t.Word w.Then ∷ (spelt 1 a ++ (t.Word w.Else ∷ spelt 0 b))))
conditional_spelt tests a b = ap tokens (expression-If tests a b 0) ∙ ap (λ (ts : List Token). t.Word w.If ∷ ts)
    (tokens-append (joined (word_piece w.And) test_pieces tests) (word_piece w.Then ∷ (expression_pieces a 1 ++ word_piece w.Else ∷ expression_pieces b 0))
    ∙ ap (λ (ts : List Token). tokens (joined (word_piece w.And) test_pieces tests) ++ (t.Word w.Then ∷ ts)) (tokens-append (expression_pieces a 1) (word_piece w.Else ∷ expression_pieces b 0)))

conditional_placed : (n : ℕ) → ArePlacedAll n → (ts : List Token) (a : ExprTree) → conditional (unary n) (expression n) ts a → IsPlaced spelt 3 P (suc n) 0 ts a
unfolding expression conditional
conditional_placed n inside ts a h =
    let k = h.second in
    let l = k.second in
    let m = l.second in
    let o = m.second in
    let p = o.second in
    let tests = condition_is (unary n) (at_place n 1 inside.sums) k.front k.tree k.first in
    let first = (inside.sums m.front m.tree m.first).by 1 (omega arith) in
    let second = (inside.weak p.front p.tree p.first).by 0 (omega arith) in
    let condition : List Token = tokens (joined (word_piece w.And) test_pieces k.tree) in
    let made : IsBetter (expression (suc n)) ts (t.Word w.If ∷ (condition ++ (t.Word w.Then ∷ (spelt 1 m.tree ++ (t.Word w.Else ∷ (spelt 0 p.tree ++ [])))))) a =
    left (step h (word_is h.first) (step k tests (step l (word_is l.first) (step m first (step o (word_is o.first) (step p second (pure_is p.second))))))) in
    chain_placed spelt 3 P (suc n) 0 (ladder (suc n)) (omega arith) ts a (subst (IsRanked spelt 0) (sym p.second.1) (if_ranked k.tree m.tree p.tree))
    (named made (ap (λ (x : List Token). t.Word w.If ∷ (condition ++ (t.Word w.Then ∷ (spelt 1 m.tree ++ (t.Word w.Else ∷ x))))) (append-nil (spelt 0 p.tree)) ∙ sym (ap (spelt 0) p.second.1 ∙ conditional_spelt k.tree m.tree p.tree)))

all_placed : (n : ℕ) → ArePlacedAll n
unfolding unary expression
all_placed zero =
    let products = products_placed 0 top_zero in
    let sums = sums_placed 0 products in
    record { top = top_zero; products = products; sums = sums; weak = else_placed 0 sums }
all_placed (suc n) =
    let inside = all_placed n in
    let top = top_more n inside in
    let products = products_placed (suc n) top in
    let sums = sums_placed (suc n) products in
    record { top = top; products = products; sums = sums; weak = λ ts a q. elim q.which [ inl h ↦ conditional_placed n inside ts a h | inr h ↦ else_placed (suc n) sums ts a h ] }

pub expression_is : (n : ℕ) → Writes (spelt 0) (expression n) (expression n)
expression_is n = at_place n 0 (all_placed n).weak
