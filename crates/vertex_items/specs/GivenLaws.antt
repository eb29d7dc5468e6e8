-- Under the items of an input, each once, a node gives the next value.
use Rattle.std.specs.Prelude.{◌≡◌, ◌≢◌, ℕ, zero, suc, ◌+◌, ◌%◌, ◌^◌, ◌<◌, ◌≤◌, ◌==◌, ◌⊎◌, nat_lt, Bool, true, false, List, [], ◌∷◌, ◌++◌, length, map, filter, replicate, sum_by, All, Option, Some, None, if◌then◌else◌, refl}
use Rattle.std.specs.declared.cmp.Ordering.{Ordering}
use Rattle.std.specs.declared.cmp.Ordering.TheVariants.{Less, Equal, Greater}
use Rattle.std.specs.Ordering.{is_eq, ordering_reverse}
use Rattle.std.specs.Cmp.{Equal-is, IsTotalOrder, tied_itself, both_ways}
use Rattle.std.proofs.Common.{arith, ap, sym, subst, ◌∙◌, inl, inr}
use Rattle.std.proofs.lemmas.Bool.{lt-ltb}
use Rattle.std.proofs.lemmas.Bool.Decides.{nat_tests}
use Rattle.std.proofs.lemmas.List.Elements.{All-head, All-tail}
use Rattle.std.proofs.lemmas.List.Sums.{sum_by-cons}
use Rattle.weighted.specs.Words.{sum_at, Same}
use Rattle.weighted.specs.Alike.{Alike, Alike-is, Alike-trans, words-Alike}
use Rattle.weighted.specs.Normal.{normal, normal-Alike, normal-Rising, normal-Weighty, Below, Rising, Weighty, unique}
use Rattle.flow_core.specs.Expanded.{expanded, expanded_linear}
use Rattle.multisets.specs.Multisets.{often, AreOne}
use Rattle.multisets.specs.CountLaws.{often-append}
use Rattle.graph_model.specs.declared.value.Val.{Val}
use Rattle.graph_model.specs.declared.value.Val.TheVariants.{Nil, Num}
use Rattle.graph_model.specs.declared.number.NodeNo.{NodeNo}
use Rattle.graph_model.specs.ValueOrder.{order_of}
use Rattle.graph_model.specs.GraphData.{GraphData, id_of, node}
use Rattle.vertex_lang.specs.declared.arc.Arc.{Arc}
use Rattle.vertex_lang.specs.declared.program.Program.{Program}
use Rattle.vertex_lang.specs.Arcs.{gathered_of, repeated, messages, is_sent}
use Rattle.vertex_lang.specs.Expressions.{Answer, start_of}
use Rattle.vertex_lang.specs.Lone.{same_value}
use Rattle.vertex_lang.specs.GatherLaws.{values-exact, gathered-one, length-one}
use Rattle.vertex_lang.specs.MessageLaws.{messages-sent}
use Rattle.vertex_lang.specs.RoundLaws.{next-at}
use Rattle.vertex_lang.specs.Rounds.{value_at, carried, received, next_of, lone}
use Rattle.lone_work.specs.Items.{Item}
use Rattle.lone_work.specs.Inputs.{input}
use Rattle.work_theory.specs.Once.{once}
use Rattle.vertex_items.specs.declared.item.NodeItem.{NodeItem}
use Rattle.vertex_items.specs.declared.item.NodeItem.TheVariants.{Start, Own, Message}
use Rattle.vertex_items.specs.Orders.{value_same}
use Rattle.vertex_items.specs.Names.{named}
use Rattle.vertex_items.specs.Given.{start_in, own_in, message_in, single, updated_by, node_gives}
use Rattle.vertex_items.specs.Laws.{IsItemOrder, InputGivesNext}

-- ---- one kind of items among words that rise

-- what has the kind is one value under a name, and stands in the order of values
pub record IsKind (icmp : NodeItem → NodeItem → Ordering) (vcmp : Val → Val → Ordering) (name : Val → NodeItem) (kind : NodeItem → List Val) : Type 0 where
  pub only : (i : NodeItem) → (kind i ≡ []) ⊎ ((a : Val) × (kind i ≡ a ∷ []) × (i ≡ name a))
  pub order : (a b : Val) → icmp (name a) (name b) ≡ vcmp a b

module _ (icmp : NodeItem → NodeItem → Ordering) (vcmp : Val → Val → Ordering) (name : Val → NodeItem) (kind : NodeItem → List Val) (is_kind : IsKind icmp vcmp name kind) where
  kind_below : (a : Val) (es : List (NodeItem × ℕ)) → Below icmp (name a) es → Below vcmp a (expanded kind es)
  kind_below a [] b = tt
  kind_below a (e ∷ es) b = elim (is_kind.only e.0) [
    | inl none ↦ rw none (kind_below a es b.1)
    | inr w ↦ rw w.1 (sym (is_kind.order a w.0) ∙ ap (icmp (name a)) (sym w.2) ∙ b.0, kind_below a es b.1)
  ]

  pub kind_rising : (es : List (NodeItem × ℕ)) → Rising icmp es → Rising vcmp (expanded kind es)
  kind_rising [] r = tt
  kind_rising (e ∷ es) r = elim (is_kind.only e.0) [
    | inl none ↦ rw none (kind_rising es r.1)
    | inr w ↦ rw w.1 (kind_below w.0 es (subst (λ i. Below icmp i es) w.2 r.0), kind_rising es r.1)
  ]

  pub kind_weighty : (es : List (NodeItem × ℕ)) → Weighty es → Weighty (expanded kind es)
  kind_weighty [] h = tt
  kind_weighty (e ∷ es) h = elim (is_kind.only e.0) [
    | inl none ↦ rw none (kind_weighty es h.2)
    | inr w ↦ rw w.1 (h.0, h.1, kind_weighty es h.2)
  ]

-- ---- the kinds of an input

start_kind : (icmp : NodeItem → NodeItem → Ordering) → ((a b : Val) → icmp (Start a) (Start b) ≡ order_of a b) → IsKind icmp order_of (λ a. Start a) start_in
start_kind icmp order = record { only = only; order = order } where
  only : (i : NodeItem) → (start_in i ≡ []) ⊎ ((a : Val) × (start_in i ≡ a ∷ []) × (i ≡ Start a))
  only (Start a) = inr (a, refl, refl)
  only (Own a) = inl refl
  only (Message a) = inl refl

own_kind : (icmp : NodeItem → NodeItem → Ordering) → ((a b : Val) → icmp (Own a) (Own b) ≡ order_of a b) → IsKind icmp order_of (λ a. Own a) own_in
own_kind icmp order = record { only = only; order = order } where
  only : (i : NodeItem) → (own_in i ≡ []) ⊎ ((a : Val) × (own_in i ≡ a ∷ []) × (i ≡ Own a))
  only (Start a) = inl refl
  only (Own a) = inr (a, refl, refl)
  only (Message a) = inl refl

message_kind : (icmp : NodeItem → NodeItem → Ordering) → ((a b : Val) → icmp (Message a) (Message b) ≡ order_of a b) → IsKind icmp order_of (λ a. Message a) message_in
message_kind icmp order = record { only = only; order = order } where
  only : (i : NodeItem) → (message_in i ≡ []) ⊎ ((a : Val) × (message_in i ≡ a ∷ []) × (i ≡ Message a))
  only (Start a) = inl refl
  only (Own a) = inl refl
  only (Message Nil) = inl refl
  only (Message (Num z)) = inr (Num z, refl, refl)

no_starts : (ms : List Val) → expanded start_in (once named (map Item.message ms)) ≡ []
no_starts [] = refl
no_starts (m ∷ ms) = no_starts ms

no_owns : (ms : List Val) → expanded own_in (once named (map Item.message ms)) ≡ []
no_owns [] = refl
no_owns (m ∷ ms) = no_owns ms

sent_by : (m : Val) (ms : List Val) → is_sent m ≡ true → expanded message_in (once named (map Item.message ms)) ≡ once (λ n. n) ms → expanded message_in (once named (map Item.message (m ∷ ms))) ≡ once (λ n. n) (m ∷ ms)
sent_by Nil ms s h = absurd (cc)
sent_by (Num z) ms s h = ap (λ es. (Num z, 1) ∷ es) h

all_messages : (ms : List Val) → All (λ m. is_sent m ≡ true) ms → expanded message_in (once named (map Item.message ms)) ≡ once (λ n. n) ms
all_messages [] h = refl
all_messages (m ∷ ms) h = sent_by m ms (All-head (λ m. is_sent m ≡ true) m ms h) (all_messages ms (All-tail (λ m. is_sent m ≡ true) m ms h))

-- ---- messages with counts, as a list

same_orders : (vtotal : IsTotalOrder order_of) (m n : Val) → is_eq (order_of n m) ≡ same_value m n
same_orders vtotal m n = both_ways (is_eq (order_of n m)) (same_value m n)
    (λ e. let one : n ≡ m = value_same n m ((Equal-is (order_of n m)).0 e) in subst (λ v. same_value v n ≡ true) one (values-exact.itself n))
    (λ e. let one : m ≡ n = values-exact.one m n e in subst (λ v. is_eq (order_of v m) ≡ true) one (ap is_eq (tied_itself vtotal m)))

often_many_by : (m n : Val) (b : Bool) (w : ℕ) → same_value m n ≡ b → often same_value m (replicate w n) ≡ (if b then w else 0)
often_many_by m n true zero e = refl
often_many_by m n false zero e = refl
often_many_by m n true (suc w) e = rw e (omega (arith, often_many_by m n true w e))
often_many_by m n false (suc w) e = rw e (omega (arith, often_many_by m n false w e))

often_repeated : (vtotal : IsTotalOrder order_of) (m : Val) (es : List (Val × ℕ)) → often same_value m (repeated es) ≡ sum_at order_of es m
often_repeated vtotal m [] = refl
often_repeated vtotal m (e ∷ es) =
    often-append same_value m (replicate e.1 e.0) (repeated es)
    ∙ ap (λ n. n + often same_value m (repeated es)) (often_many_by m e.0 (is_eq (order_of e.0 m)) e.1 (sym (same_orders vtotal m e.0)))
    ∙ ap (λ n. (if is_eq (order_of e.0 m) then e.1 else 0) + n) (often_repeated vtotal m es)

often_once : (vtotal : IsTotalOrder order_of) (m : Val) (ms : List Val) → sum_at order_of (once (λ n. n) ms) m ≡ often same_value m ms
often_once vtotal m [] = refl
often_once vtotal m (n ∷ ms) = rw (same_orders vtotal m n) (ap (λ k. (if same_value m n then 1 else 0) + k) (often_once vtotal m ms))

-- records that rise stand there once, so that no sum reaches 2^64
none_below : (vtotal : IsTotalOrder order_of) (x : Val) (es : List (Val × ℕ)) → Below order_of x es → sum_at order_of es x ≡ 0
none_below vtotal x [] b = refl
none_below vtotal x (e ∷ es) b =
    let above : is_eq (order_of e.0 x) ≡ false = ap is_eq (vtotal.antisymm e.0 x ∙ ap ordering_reverse b.0) in
    rw above (omega (arith, none_below vtotal x es b.1))

one_word_by : (vtotal : IsTotalOrder order_of) (x : Val) (e : Val × ℕ) (es : List (Val × ℕ)) (b : Bool) → is_eq (order_of e.0 x) ≡ b → Below order_of e.0 es → e.1 < 2 ^ 64 → sum_at order_of es x < 2 ^ 64 → (if b then e.1 else 0) + sum_at order_of es x < 2 ^ 64
one_word_by vtotal x e es true p below low h =
    let is : e.0 ≡ x = value_same e.0 x ((Equal-is (order_of e.0 x)).0 p) in
    let none : sum_at order_of es x ≡ 0 = none_below vtotal x es (subst (λ v. Below order_of v es) is below) in
    omega arith
one_word_by vtotal x e es false p below low h = omega arith

one_word : (vtotal : IsTotalOrder order_of) (x : Val) (es : List (Val × ℕ)) → Rising order_of es → Weighty es → sum_at order_of es x < 2 ^ 64
one_word vtotal x [] r w = omega arith
one_word vtotal x (e ∷ es) r w = one_word_by vtotal x e es (is_eq (order_of e.0 x)) refl r.0 w.1 (one_word vtotal x es r.1 w.2)

length_many : {A : Type 0} (n : ℕ) (x : A) → length (replicate n x) ≡ n
length_many zero x = refl
length_many (suc n) x = ap (λ k. suc k) (length_many n x)

length_both : {A : Type 0} (xs ys : List A) → length (xs ++ ys) ≡ length xs + length ys
length_both [] ys = omega arith
length_both (x ∷ xs) ys = omega (arith, length_both xs ys)

length_repeated : (es : List (Val × ℕ)) → length (repeated es) ≡ sum_by (λ m. m.1) es
length_repeated [] = refl
length_repeated (e ∷ es) = length_both (replicate e.1 e.0) (repeated es) ∙ omega (arith, length_many e.1 e.0, length_repeated es, sum_by-cons (λ (m : Val × ℕ). m.1) e es)

small_often : (a b : ℕ) → a % 2 ^ 64 ≡ b % 2 ^ 64 → a < 2 ^ 64 → b < 2 ^ 64 → a ≡ b
small_often a b h p q = omega arith

count_by : (b : Bool) (n m : ℕ) → n ≤ m → (if b then 1 else 0) + n ≤ suc m
count_by true n m h = omega arith
count_by false n m h = omega arith

often_few : (m : Val) (ms : List Val) → often same_value m ms ≤ length ms
often_few m [] = omega arith
often_few m (n ∷ ms) = count_by (same_value m n) (often same_value m ms) (length ms) (often_few m ms)

-- messages with counts that are, as a collection, a short list, are that list in some order
messages_are : (vtotal : IsTotalOrder order_of) (es : List (Val × ℕ)) (ms : List Val) → Rising order_of es → Weighty es → Alike es (once (λ n. n) ms) → length ms < 2 ^ 32 → AreOne same_value (repeated es) ms
messages_are vtotal es ms r w a few = record {
  counts = λ m.
      let words : sum_at order_of es m % 2 ^ 64 ≡ sum_at order_of (once (λ n. n) ms) m % 2 ^ 64 = (words-Alike order_of es (once (λ n. n) ms) a).words m in
      let low : often same_value m ms ≤ length ms = often_few m ms in
      let same : sum_at order_of es m % 2 ^ 64 ≡ often same_value m ms % 2 ^ 64 = words ∙ ap (λ n. n % 2 ^ 64) (often_once vtotal m ms) in
      let small : often same_value m ms < 2 ^ 64 = omega arith in
      often_repeated vtotal m es ∙ small_often (sum_at order_of es m) (often same_value m ms) same (one_word vtotal m es r w) small;
}

-- ---- a node gets fewer messages than there are arcs

few_by : {A : Type 0} (b : Bool) (x : A) (n : ℕ) (ys : List A) → length ys ≤ n → length (if b then x ∷ ys else ys) ≤ suc n
few_by true x n ys h = omega arith
few_by false x n ys h = omega arith

filter_few : {A : Type 0} (f : A → Bool) (xs : List A) → length (filter f xs) ≤ length xs
filter_few f [] = omega arith
filter_few f (x ∷ xs) = few_by (f x) x (length xs) (filter f xs) (filter_few f xs)

map_few : {A B : Type 0} (f : A → B) (xs : List A) → length (map f xs) ≡ length xs
map_few f [] = refl
map_few f (x ∷ xs) = omega (arith, map_few f xs)

messages_few : (c : Arc → Val) (arcs : List Arc) (v : ℕ) → length (messages c arcs v) ≤ length arcs
messages_few c arcs v = omega (arith, filter_few is_sent (map c (filter (λ a. a.head.0 == v) arcs)), map_few c (filter (λ a. a.head.0 == v) arcs), filter_few (λ a. a.head.0 == v) arcs)

-- ---- the next value

answer_by : (answer : Answer) (p : Program) (id : ℕ) (start own g h : Val) (n m : ℕ) → g ≡ h → n ≡ m → answer p id start own g n ≡ answer p id start own h m
answer_by answer p id start own g h n m e f = cc

module _ (icmp : NodeItem → NodeItem → Ordering) (itotal : IsTotalOrder icmp) (isame : (x y : NodeItem) → icmp x y ≡ Equal → x ≡ y) (vtotal : IsTotalOrder order_of) (starts : (a b : Val) → icmp (Start a) (Start b) ≡ order_of a b) (owns : (a b : Val) → icmp (Own a) (Own b) ≡ order_of a b) (sent : (a b : Val) → icmp (Message a) (Message b) ≡ order_of a b) where
  -- one kind of the normal form
  kind_is : (kind : NodeItem → List Val) (es : List (NodeItem × ℕ)) (zs : List (Val × ℕ)) → expanded kind es ≡ zs → Alike (expanded kind (normal icmp es)) zs
  kind_is kind es zs e = Alike-trans ((expanded_linear kind).respects (normal icmp es) es (normal-Alike icmp itotal isame es)) (Alike-is e)

  one_of : (name : Val → NodeItem) (kind : NodeItem → List Val) → IsKind icmp order_of name kind → (es : List (NodeItem × ℕ)) (a : Val) → expanded kind es ≡ (a, 1) ∷ [] → single (expanded kind (normal icmp es)) ≡ Some a
  one_of name kind is_kind es a e = ap single (unique order_of vtotal value_same (expanded kind (normal icmp es)) ((a, 1) ∷ [])
      (kind_rising icmp order_of name kind is_kind (normal icmp es) (normal-Rising icmp itotal isame es))
      (kind_weighty icmp order_of name kind is_kind (normal icmp es) (normal-Weighty icmp itotal isame es))
      (tt, tt) ((λ z. absurd (omega (arith, z))), omega arith, tt)
      (kind_is kind es ((a, 1) ∷ []) e))

  updated_is : (answer : Answer) (p : Program) (id : ℕ) (own_option start_option : Option Val) (start own : Val) (es : List (Val × ℕ)) → start_option ≡ Some start → own_option ≡ Some own → sum_by (λ m. m.1) es < 2 ^ 32 → updated_by answer p id start_option own_option es ≡ (answer p id start own (gathered_of p.gather (repeated es)) (length (repeated es)), 1) ∷ []
  updated_is answer p id own_option start_option start own es e f low =
      let test : nat_lt (sum_by (λ (m : Val × ℕ). m.1) es) 4_294_967_296 ≡ true = lt-ltb (sum_by (λ (m : Val × ℕ). m.1) es) 4_294_967_296 (omega arith) in
      rw (e, f, test) refl

  pub given-next : (answer : Answer) (p : Program) (graph : GraphData) (arcs : List Arc) (v r : ℕ) → v < length graph.ids → length arcs < 2 ^ 32 → node_gives answer p graph (node v) (normal icmp (once named (input answer p graph arcs v r))) ≡ (value_at (lone answer p graph arcs (r + 1)) v, 1) ∷ []
  unfolding node_gives
  given-next answer p graph arcs v r low few =
      let start : Val = start_of p graph v in
      let own : Val = value_at (lone answer p graph arcs r) v in
      let ms : List Val = received p graph arcs (lone answer p graph arcs r) v in
      let es : List (NodeItem × ℕ) = once named (input answer p graph arcs v r) in
      let qs : List (Val × ℕ) = expanded message_in (normal icmp es) in
      let is_start : single (expanded start_in (normal icmp es)) ≡ Some start = one_of (λ a. Start a) start_in (start_kind icmp starts) es start (ap (λ zs. (start, 1) ∷ zs) (no_starts ms)) in
      let is_own : single (expanded own_in (normal icmp es)) ≡ Some own = one_of (λ a. Own a) own_in (own_kind icmp owns) es own (ap (λ zs. (own, 1) ∷ zs) (no_owns ms)) in
      let short : length ms ≤ length arcs = messages_few (carried p graph arcs (lone answer p graph arcs r)) arcs v in
      let all : expanded message_in es ≡ once (λ n. n) ms = all_messages ms (messages-sent (carried p graph arcs (lone answer p graph arcs r)) arcs v) in
      let one : AreOne same_value (repeated qs) ms = messages_are vtotal qs ms
      (kind_rising icmp order_of (λ a. Message a) message_in (message_kind icmp sent) (normal icmp es) (normal-Rising icmp itotal isame es))
      (kind_weighty icmp order_of (λ a. Message a) message_in (message_kind icmp sent) (normal icmp es) (normal-Weighty icmp itotal isame es))
      (kind_is message_in es (once (λ n. n) ms) all) (omega arith) in
      let count : length (repeated qs) ≡ length ms = length-one (repeated qs) ms one in
      let sum : sum_by (λ (m : Val × ℕ). m.1) qs < 2 ^ 32 = omega (arith, length_repeated qs) in
      let here : nat_lt v (length graph.ids) ≡ true = lt-ltb v (length graph.ids) low in
      rw here (updated_is answer p (id_of graph v) (single (expanded own_in (normal icmp es))) (single (expanded start_in (normal icmp es))) start own qs is_start is_own sum
      ∙ ap (λ w. (w, 1) ∷ []) (answer_by answer p (id_of graph v) start own (gathered_of p.gather (repeated qs)) (gathered_of p.gather ms) (length (repeated qs)) (length ms) (gathered-one p.gather (repeated qs) ms one) count
      ∙ sym (next-at answer p graph arcs r v low)))

values_total : (icmp : NodeItem → NodeItem → Ordering) → IsItemOrder icmp → IsTotalOrder order_of
values_total icmp o = record {
  antisymm = λ x y. sym (o.starts x y) ∙ o.total.antisymm (Start x) (Start y) ∙ ap ordering_reverse (o.starts y x);
  trans = λ x y z h k. sym (o.starts x z) ∙ o.total.trans (Start x) (Start y) (Start z) (o.starts x y ∙ h) (o.starts y z ∙ k);
  congr = λ x y z h. sym (o.starts x z) ∙ o.total.congr (Start x) (Start y) (Start z) (o.starts x y ∙ h) ∙ o.starts y z;
}

pub input-gives-next : InputGivesNext
input-gives-next icmp o answer p graph arcs v r low few = given-next icmp o.total o.same (values_total icmp o) o.starts o.owns o.messages answer p graph arcs v r low few

-- ---- words that give nothing

-- no words
pub empty-gives : (answer : Answer) (p : Program) (graph : GraphData) (v : NodeNo) → node_gives answer p graph v [] ≡ []
unfolding node_gives
empty-gives answer p graph v = by (nat_lt v.0 (length graph.ids)) where
  by : (b : Bool) → ◌≡◌ {A = List (Val × ℕ)} (if b then [] else []) []
  by true = refl
  by false = refl

-- those of a number that the graph doesn't have
pub far-gives : (answer : Answer) (p : Program) (graph : GraphData) (v : NodeNo) (words : List (NodeItem × ℕ)) → length graph.ids ≤ v.0 → node_gives answer p graph v words ≡ []
unfolding node_gives
far-gives answer p graph v words high = let far : nat_lt v.0 (length graph.ids) ≡ false = not_below v.0 (length graph.ids) high in rw far refl where
  not_below : (m n : ℕ) → n ≤ m → nat_lt m n ≡ false
  not_below m n h = grind (arith, nat_tests)
