-- What was found gives what the node gives.
use Rattle.std.specs.Prelude.{◌≡◌, ℕ, suc, zero, ◌+◌, ◌<◌, ◌≤◌, ◌==◌, nat_lt, min, sum_by, fold, IsTrue, All, Bool, true, false, List, [], ◌∷◌, ◌++◌, length, replicate, Option, Some, None, if◌then◌else◌, refl}
use Rattle.std.proofs.Common.{arith, ap, sym, ◌∙◌}
use Rattle.std.proofs.lemmas.Bool.{lt-ltb, ltb-true}
use Rattle.std.proofs.lemmas.Bool.Decides.{nat_tests}
use Rattle.std.proofs.lemmas.List.Elements.{All-nil, All-cons}
use Rattle.std.proofs.lemmas.List.Sums.{sum_by-cons}
use Rattle.flow_core.specs.Expanded.{expanded}
use Rattle.graph_model.specs.declared.value.Val.{Val}
use Rattle.graph_model.specs.declared.value.Val.TheVariants.{Nil, Num}
use Rattle.graph_model.specs.declared.number.NodeNo.{NodeNo}
use Rattle.graph_model.specs.GraphData.{GraphData, id_of}
use Rattle.vertex_lang.specs.declared.program.Program.{Program}
use Rattle.vertex_lang.specs.Arcs.{gathered_of, repeated, is_sent}
use Rattle.vertex_lang.specs.Expressions.{Answer}
use Rattle.vertex_items.specs.declared.item.NodeItem.{NodeItem}
use Rattle.vertex_items.specs.declared.item.NodeItem.TheVariants.{Start, Own, Message}
use Rattle.vertex_items.specs.Given.{start_in, own_in, message_in, single, updated_by, node_gives}
use Rattle.vertex_update.specs.declared.single.Single.{Single}
use Rattle.vertex_update.specs.declared.single.Single.TheVariants.{Nothing, One, Other}
use Rattle.vertex_update.specs.Reading.{with_one, told, next_of, given_of}

-- ---- one value of a kind

other_stays : (es : List (Val × ℕ)) → fold with_one Other es ≡ Other
other_stays [] = refl
other_stays (e ∷ es) = other_stays es

one_by : (b : Bool) (e : Val × ℕ) → told (if b then One e.0 else Other) ≡ (if b then Some e.0 else None)
one_by true e = refl
one_by false e = refl

more_by : (b : Bool) (e f : Val × ℕ) (es : List (Val × ℕ)) → told (fold with_one (if b then One e.0 else Other) (f ∷ es)) ≡ None
more_by true e f es = ap told (other_stays es)
more_by false e f es = ap told (other_stays es)

-- what was found of a kind is its one value
pub told-single : (es : List (Val × ℕ)) → told (fold with_one Nothing es) ≡ single es
told-single [] = refl
told-single (e ∷ []) = one_by (e.1 == 1) e
told-single (e ∷ f ∷ es) = more_by (e.1 == 1) e f es

-- ---- messages

sent_by : (i : NodeItem) (w : ℕ) (es : List (NodeItem × ℕ)) → All (λ m. IsTrue (is_sent m.0)) (expanded message_in es) → All (λ m. IsTrue (is_sent m.0)) (expanded message_in ((i, w) ∷ es))
sent_by (Start a) w es h = h
sent_by (Own a) w es h = h
sent_by (Message Nil) w es h = h
sent_by (Message (Num z)) w es h = All-cons (λ m. IsTrue (is_sent m.0)) (Num z, w) (expanded message_in es) refl h

pub all-sent : (es : List (NodeItem × ℕ)) → All (λ m. IsTrue (is_sent m.0)) (expanded message_in es)
all-sent [] = All-nil (λ m. IsTrue (is_sent m.0))
all-sent (e ∷ es) = sent_by e.0 e.1 es (all-sent es)

length_many : {A : Type 0} (n : ℕ) (x : A) → length (replicate n x) ≡ n
length_many zero x = refl
length_many (suc n) x = ap (λ k. suc k) (length_many n x)

length_both : {A : Type 0} (xs ys : List A) → length (xs ++ ys) ≡ length xs + length ys
length_both [] ys = omega arith
length_both (x ∷ xs) ys = omega (arith, length_both xs ys)

length-repeated : (es : List (Val × ℕ)) → length (repeated es) ≡ sum_by (λ m. m.1) es
length-repeated [] = refl
length-repeated (e ∷ es) = length_both (replicate e.1 e.0) (repeated es) ∙ omega (arith, length_many e.1 e.0, length-repeated es, sum_by-cons (λ (m : Val × ℕ). m.1) e es)

-- ---- the next value

below : (n : ℕ) → nat_lt n 4_294_967_296 ≡ true → n < 4_294_967_296
below n h = ltb-true n 4_294_967_296 h

above : (n : ℕ) → nat_lt n 4_294_967_296 ≡ false → 4_294_967_296 ≤ n
above n h = grind (arith, nat_tests)

updated_same : (answer : Answer) (p : Program) (graph : GraphData) (v : ℕ) (start own : Single) (ms : List (Val × ℕ)) (count : ℕ) → count ≡ min (sum_by (λ m. m.1) ms) 4_294_967_296 → given_of (next_of answer p graph v start own ms count) ≡ updated_by answer p (id_of graph v) (told start) (told own) ms
updated_same answer p graph v Nothing own ms count e = refl
updated_same answer p graph v Other own ms count e = refl
updated_same answer p graph v (One start) Nothing ms count e = refl
updated_same answer p graph v (One start) Other ms count e = refl
updated_same answer p graph v (One start) (One own) ms count e = by (nat_lt count 4_294_967_296) (nat_lt (sum_by (λ (m : Val × ℕ). m.1) ms) 4_294_967_296) refl refl where
  by : (a b : Bool) → nat_lt count 4_294_967_296 ≡ a → nat_lt (sum_by (λ (m : Val × ℕ). m.1) ms) 4_294_967_296 ≡ b → given_of (if a then Some (answer p (id_of graph v) start own (gathered_of p.gather (repeated ms)) count) else None) ≡ (if b then (answer p (id_of graph v) start own (gathered_of p.gather (repeated ms)) (length (repeated ms)), 1) ∷ [] else [])
  by true true h k =
      let small : count < 4_294_967_296 = below count h in
      let same : count ≡ length (repeated ms) = omega (arith, length-repeated ms) in
      ap (λ n. (answer p (id_of graph v) start own (gathered_of p.gather (repeated ms)) n, 1) ∷ []) same
  by false false h k = refl
  by true false h k = absurd (let small : count < 4_294_967_296 = below count h in let large : 4_294_967_296 ≤ sum_by (λ (m : Val × ℕ). m.1) ms = above (sum_by (λ (m : Val × ℕ). m.1) ms) k in omega arith)
  by false true h k = absurd (let large : 4_294_967_296 ≤ count = above count h in let small : sum_by (λ (m : Val × ℕ). m.1) ms < 4_294_967_296 = below (sum_by (λ (m : Val × ℕ). m.1) ms) k in omega arith)

pub gives-found : (answer : Answer) (p : Program) (graph : GraphData) (v : NodeNo) (words : List (NodeItem × ℕ)) (start own : Single) (ms : List (Val × ℕ)) (count : ℕ) (next : Option Val) → v.0 < length graph.ids
    → start ≡ fold with_one Nothing (expanded start_in words) → own ≡ fold with_one Nothing (expanded own_in words) → ms ≡ expanded message_in words → count ≡ min (sum_by (λ m. m.1) (expanded message_in words)) 4_294_967_296
    → next ≡ next_of answer p graph v.0 start own ms count → node_gives answer p graph v words ≡ given_of next
unfolding node_gives
gives-found answer p graph v words start own ms count next low is_start is_own is_ms is_count is_next =
    let here : nat_lt v.0 (length graph.ids) ≡ true = lt-ltb v.0 (length graph.ids) low in
    let sum : count ≡ min (sum_by (λ (m : Val × ℕ). m.1) ms) 4_294_967_296 = is_count ∙ ap (λ (es : List (Val × ℕ)). min (sum_by (λ (m : Val × ℕ). m.1) es) 4_294_967_296) (sym is_ms) in
    let first : told start ≡ single (expanded start_in words) = ap told is_start ∙ told-single (expanded start_in words) in
    let second : told own ≡ single (expanded own_in words) = ap told is_own ∙ told-single (expanded own_in words) in
    rw here (sym (
    ap given_of is_next
    ∙ updated_same answer p graph v.0 start own ms count sum
    ∙ ap (λ s. updated_by answer p (id_of graph v.0) s (told own) ms) first
    ∙ ap (λ s. updated_by answer p (id_of graph v.0) (single (expanded start_in words)) s ms) second
    ∙ ap (λ es. updated_by answer p (id_of graph v.0) (single (expanded start_in words)) (single (expanded own_in words)) es) is_ms))

-- a value is given once at most
pub few-given : (next : Option Val) → length (given_of next) ≤ 1
few-given None = omega arith
few-given (Some v) = omega arith
