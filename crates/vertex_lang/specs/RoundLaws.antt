-- Rounds: one value of the next round, how many values there are, and rounds after which nothing changes; in any order of the arcs.
use Rattle.std.specs.Prelude.{◌≡◌, ℕ, zero, suc, ◌+◌, ◌<◌, ◌≤◌, ◌-◌, List, [], ◌∷◌, map, length, refl}
use Rattle.std.specs.List.{range_with_len}
use Rattle.std.specs.List.Sorted.{IsPermutation}
use Rattle.std.proofs.Common.{arith, ap, sym, ◌∙◌, add-one}
use Rattle.std.proofs.lemmas.List.FromFn.{fill_by_all, length-map-range_with_len, get_or-map-range_with_len}
use Rattle.graph_model.specs.declared.value.Val.{Val}
use Rattle.graph_model.specs.declared.value.Val.TheVariants.{Nil}
use Rattle.graph_model.specs.GraphData.{GraphData, id_of}
use Rattle.vertex_lang.specs.declared.arc.Arc.{Arc}
use Rattle.vertex_lang.specs.declared.program.Program.{Program}
use Rattle.vertex_lang.specs.Arcs.{gathered_of}
use Rattle.vertex_lang.specs.Expressions.{Answer, start_of}
use Rattle.vertex_lang.specs.Rounds.{nodes_of, value_at, received, next_of, next, lone}
use Rattle.vertex_lang.specs.GatherLaws.{gathered-one, length-one}
use Rattle.vertex_lang.specs.MessageLaws.{received-permuted}

-- ---- all nodes

-- two functions that agree on the nodes
pub same_over_nodes : (f g : ℕ → Val) (n : ℕ) → ((k : ℕ) → k < n → f k ≡ g k) → map f (range_with_len 0 n) ≡ map g (range_with_len 0 n)
same_over_nodes f g n agree = fill_by_all g (map f (range_with_len 0 n)) n Nil (length-map-range_with_len f 0 n) (λ k h. get_or-map-range_with_len f 0 n k k Nil h (omega arith) ∙ agree k h)

-- ---- one round more

pub lone_starts : (answer : Answer) (p : Program) (graph : GraphData) (arcs : List Arc) → lone answer p graph arcs 0 ≡ map (start_of p graph) (nodes_of graph)
unfolding lone
lone_starts answer p graph arcs = refl

pub lone_next : (answer : Answer) (p : Program) (graph : GraphData) (arcs : List Arc) (r : ℕ) → lone answer p graph arcs (r + 1) ≡ next answer p graph arcs (lone answer p graph arcs r)
unfolding lone
lone_next answer p graph arcs r = ap (lone answer p graph arcs) (add-one r)

pub start-at : (answer : Answer) (p : Program) (graph : GraphData) (arcs : List Arc) (v : ℕ) → v < length graph.ids → value_at (lone answer p graph arcs 0) v ≡ start_of p graph v
start-at answer p graph arcs v low = ap (λ (vs : List Val). value_at vs v) (lone_starts answer p graph arcs) ∙ get_or-map-range_with_len (start_of p graph) 0 (length graph.ids) v v Nil low (omega arith)

pub next-at : (answer : Answer) (p : Program) (graph : GraphData) (arcs : List Arc) (r v : ℕ) → v < length graph.ids → value_at (lone answer p graph arcs (r + 1)) v ≡ next_of answer p graph arcs (lone answer p graph arcs r) v
unfolding next
next-at answer p graph arcs r v low = ap (λ (vs : List Val). value_at vs v) (lone_next answer p graph arcs r) ∙ get_or-map-range_with_len (next_of answer p graph arcs (lone answer p graph arcs r)) 0 (length graph.ids) v v Nil low (omega arith)

pub length-lone : (answer : Answer) (p : Program) (graph : GraphData) (arcs : List Arc) (r : ℕ) → length (lone answer p graph arcs r) ≡ length graph.ids
unfolding lone next
length-lone answer p graph arcs zero = length-map-range_with_len (start_of p graph) 0 (length graph.ids)
length-lone answer p graph arcs (suc r) = length-map-range_with_len (next_of answer p graph arcs (lone answer p graph arcs r)) 0 (length graph.ids)

-- ---- a fixpoint stays

stays-from : (answer : Answer) (p : Program) (graph : GraphData) (arcs : List Arc) (r n : ℕ) → lone answer p graph arcs (r + 1) ≡ lone answer p graph arcs r → lone answer p graph arcs (r + n) ≡ lone answer p graph arcs r
stays-from answer p graph arcs r zero e = let same : r + zero ≡ r = omega arith in ap (λ k. lone answer p graph arcs k) same
stays-from answer p graph arcs r (suc n) e =
    let more : r + suc n ≡ (r + n) + 1 = omega arith in
    ap (λ k. lone answer p graph arcs k) more
    ∙ lone_next answer p graph arcs (r + n)
    ∙ ap (next answer p graph arcs) (stays-from answer p graph arcs r n e)
    ∙ sym (lone_next answer p graph arcs r)
    ∙ e

pub stays : (answer : Answer) (p : Program) (graph : GraphData) (arcs : List Arc) (r k : ℕ) → lone answer p graph arcs (r + 1) ≡ lone answer p graph arcs r → r ≤ k → lone answer p graph arcs k ≡ lone answer p graph arcs r
stays answer p graph arcs r k e low = let same : r + (k - r) ≡ k = omega arith in ap (λ n. lone answer p graph arcs n) (sym same) ∙ stays-from answer p graph arcs r (k - r) e

-- ---- in any order of the arcs

pub answer-by : (answer : Answer) (p : Program) (id : ℕ) (start value g h : Val) (n m : ℕ) → g ≡ h → n ≡ m → answer p id start value g n ≡ answer p id start value h m
answer-by answer p id start value g h n m e f = cc

pub next-permuted : (answer : Answer) (p : Program) (graph : GraphData) (xs ys : List Arc) (values : List Val) (v : ℕ) → IsPermutation xs ys → next_of answer p graph xs values v ≡ next_of answer p graph ys values v
next-permuted answer p graph xs ys values v s =
    let ms = received p graph xs values v in
    let ns = received p graph ys values v in
    let same = received-permuted p graph xs ys values v s in
    answer-by answer p (id_of graph v) (start_of p graph v) (value_at values v) (gathered_of p.gather ms) (gathered_of p.gather ns) (length ms) (length ns) (gathered-one p.gather ms ns same) (length-one ms ns same)

pub map-same : {A B : Type 0} (f g : A → B) (xs : List A) → ((x : A) → f x ≡ g x) → map f xs ≡ map g xs
map-same f g [] h = refl
map-same f g (x ∷ xs) h = rw (h x, map-same f g xs h) refl

pub permuted-arcs : (answer : Answer) (p : Program) (graph : GraphData) (xs ys : List Arc) (r : ℕ) → IsPermutation xs ys → lone answer p graph xs r ≡ lone answer p graph ys r
unfolding lone next
permuted-arcs answer p graph xs ys zero s = refl
permuted-arcs answer p graph xs ys (suc r) s =
    map-same (next_of answer p graph xs (lone answer p graph xs r)) (next_of answer p graph ys (lone answer p graph xs r)) (nodes_of graph) (λ v. next-permuted answer p graph xs ys (lone answer p graph xs r) v s)
    ∙ ap (λ (vs : List Val). map (next_of answer p graph ys vs) (nodes_of graph)) (permuted-arcs answer p graph xs ys r s)
