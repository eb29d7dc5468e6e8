-- What an input tells: the messages and the value in it, and so the next value.
use Rattle.std.specs.Prelude.{◌≡◌, ℕ, suc, ◌+◌, ◌<◌, Bool, true, false, List, [], ◌∷◌, map, length, if◌then◌else◌, refl}
use Rattle.std.proofs.Common.{arith, ap, sym, ◌∙◌}
use Rattle.graph_model.specs.declared.value.Val.{Val}
use Rattle.graph_model.specs.GraphData.{GraphData, id_of}
use Rattle.vertex_lang.specs.declared.arc.Arc.{Arc}
use Rattle.vertex_lang.specs.declared.program.Program.{Program}
use Rattle.vertex_lang.specs.Arcs.{gathered_of}
use Rattle.vertex_lang.specs.Expressions.{Answer, start_of}
use Rattle.vertex_lang.specs.RoundLaws.{next-at}
use Rattle.vertex_lang.specs.Rounds.{value_at, received, lone}
use Rattle.vertex_lang.specs.Lone.{same_value}
use Rattle.multisets.specs.Multisets.{IsExact, often, AreOne}
use Rattle.lone_work.specs.Items.{Item, same_item}
use Rattle.vertex_lang.specs.GatherLaws.{values-exact, length-one, gathered-one}
use Rattle.lone_work.specs.Laws.{SameInputSameValue}

-- ---- the test of items

item-itself : (i : Item) → same_item i i ≡ true
item-itself (Item.start a) = values-exact.itself a
item-itself (Item.own a) = values-exact.itself a
item-itself (Item.message a) = values-exact.itself a

item-one : (i j : Item) → same_item i j ≡ true → i ≡ j
item-one (Item.start a) (Item.start b) e = ap (λ (v : Val). Item.start v) (values-exact.one a b e)
item-one (Item.start a) (Item.own b) e = absurd cc
item-one (Item.start a) (Item.message b) e = absurd cc
item-one (Item.own a) (Item.start b) e = absurd cc
item-one (Item.own a) (Item.own b) e = ap (λ (v : Val). Item.own v) (values-exact.one a b e)
item-one (Item.own a) (Item.message b) e = absurd cc
item-one (Item.message a) (Item.start b) e = absurd cc
item-one (Item.message a) (Item.own b) e = absurd cc
item-one (Item.message a) (Item.message b) e = ap (λ (v : Val). Item.message v) (values-exact.one a b e)

pub items-exact : IsExact same_item
items-exact = record { itself = item-itself; one = item-one }

-- ---- how often an item stands in an input

pub often-message : (m : Val) (ms : List Val) → often same_item (Item.message m) (map Item.message ms) ≡ often same_value m ms
often-message m [] = refl
often-message m (n ∷ ms) = ap (λ k. (if same_value m n then 1 else 0) + k) (often-message m ms)

pub often-own : (w : Val) (ms : List Val) → often same_item (Item.own w) (map Item.message ms) ≡ 0
often-own w [] = refl
often-own w (n ∷ ms) = omega (arith, often-own w ms)

pub often-start : (w : Val) (ms : List Val) → often same_item (Item.start w) (map Item.message ms) ≡ 0
often-start w [] = refl
often-start w (n ∷ ms) = omega (arith, often-start w ms)

-- the messages that stand in two inputs that are one
pub messages-one : (s a t b : Val) (ms ns : List Val) → AreOne same_item (Item.start s ∷ Item.own a ∷ map Item.message ms) (Item.start t ∷ Item.own b ∷ map Item.message ns) → AreOne same_value ms ns
messages-one s a t b ms ns e = record { counts = λ m. omega (arith, e.counts (Item.message m), often-message m ms, often-message m ns) }

-- the value
own-by : (a b : Val) (k : Bool) (ms ns : List Val) → same_value a b ≡ k → 1 + often same_item (Item.own a) (map Item.message ms) ≡ (if k then 1 else 0) + often same_item (Item.own a) (map Item.message ns) → a ≡ b
own-by a b true ms ns h e = values-exact.one a b h
own-by a b false ms ns h e = absurd (omega (arith, e, often-own a ms, often-own a ns))

pub own-one : (s a t b : Val) (ms ns : List Val) → AreOne same_item (Item.start s ∷ Item.own a ∷ map Item.message ms) (Item.start t ∷ Item.own b ∷ map Item.message ns) → a ≡ b
own-one s a t b ms ns e = own-by a b (same_value a b) ms ns refl (omega (arith, simp (values-exact.itself a) at (e.counts (Item.own a))))

-- the other way: messages that are one make inputs that are one
pub items-one : (s a : Val) (ms ns : List Val) → AreOne same_value ms ns → (x : Item) → often same_item x (Item.start s ∷ Item.own a ∷ map Item.message ms) ≡ often same_item x (Item.start s ∷ Item.own a ∷ map Item.message ns)
items-one s a ms ns e (Item.start w) = omega (arith, often-start w ms, often-start w ns)
items-one s a ms ns e (Item.own w) = omega (arith, often-own w ms, often-own w ns)
items-one s a ms ns e (Item.message w) = omega (arith, often-message w ms, often-message w ns, e.counts w)

-- ---- the next value

answer-by : (answer : Answer) (p : Program) (id : ℕ) (start a b g h : Val) (n m : ℕ) → a ≡ b → g ≡ h → n ≡ m → answer p id start a g n ≡ answer p id start b h m
answer-by answer p id start a b g h n m d e f = cc

pub value-told : SameInputSameValue
value-told answer p graph new old r s v low e =
    let start = start_of p graph v in
    let a = value_at (lone answer p graph new r) v in
    let b = value_at (lone answer p graph old s) v in
    let ms = received p graph new (lone answer p graph new r) v in
    let ns = received p graph old (lone answer p graph old s) v in
    let same = messages-one start a start b ms ns e in
    next-at answer p graph new r v low
    ∙ answer-by answer p (id_of graph v) start a b (gathered_of p.gather ms) (gathered_of p.gather ns) (length ms) (length ns) (own-one start a start b ms ns e) (gathered-one p.gather ms ns same) (length-one ms ns same)
    ∙ sym (next-at answer p graph old s v low)
