-- What comes into the loop from the nodes and the arcs of a view.
use Rattle.std.specs.Prelude.{◌≡◌, ℕ, ◌+◌, ◌*◌, ◌%◌, ◌^◌, ◌<◌, ◌≤◌, ◌==◌, ◌&&◌, nat_lt, Bool, true, false, List, [], ◌∷◌, ◌++◌, length, map, filter, cond, count_by, sum_by, All, if◌then◌else◌, refl}
use Rattle.std.specs.List.{range_with_len}
use Rattle.std.specs.declared.cmp.Ordering.{Ordering}
use Rattle.std.specs.declared.cmp.Ordering.TheVariants.{Equal}
use Rattle.std.specs.Ordering.{is_eq}
use Rattle.std.specs.Cmp.{Equal-is, IsTotalOrder, tied_itself, both_ways}
use Rattle.std.proofs.Common.{arith, ap, sym, subst, ◌∙◌, append-nil, append_assoc, eqb-true, zero, suc}
use Rattle.std.proofs.lemmas.Bool.{lt-ltb, eq-eqb}
use Rattle.std.proofs.lemmas.List.Elements.{All-head, All-tail}
use Rattle.std.proofs.lemmas.List.Sums.{sum_by-cons}
use Rattle.weighted.specs.WordLaws.{total, mapped}
use Rattle.weighted.specs.Alike.{Alike, Alike-is, Alike-refl, Alike-sym, Alike-trans, Alike-append, Alike-mapped, total-append}
use Rattle.weighted.specs.Normal.{normal, normal-Alike}
use Rattle.flow_core.specs.Expanded.{expanded, expanded-append, expanded_linear}
use Rattle.reduce_theory.specs.Evaluated.{key_part}
use Rattle.reduce_theory.specs.ByKey.{reduce_apply, reduce_part, reduce_respects, by_keys}
use Rattle.loop_theory.specs.declared.input.LoopInput.TheVariants.{Fixed, Moving}
use Rattle.graph_model.specs.declared.value.Val.{Val}
use Rattle.graph_model.specs.declared.number.NodeNo.{NodeNo}
use Rattle.graph_model.specs.GraphData.{GraphData, node}
use Rattle.vertex_lang.specs.declared.arc.Arc.{Arc}
use Rattle.vertex_lang.specs.declared.program.Program.{Program}
use Rattle.vertex_lang.specs.Arcs.{IsArc, outdeg}
use Rattle.vertex_lang.specs.Expressions.{Answer, start_of}
use Rattle.vertex_lang.specs.Named.{names_outdeg}
use Rattle.vertex_lang.specs.RoundLaws.{start-at}
use Rattle.vertex_lang.specs.Rounds.{nodes_of, value_at, lone}
use Rattle.work_theory.specs.Once.{once}
use Rattle.vertex_items.specs.declared.input.FlowInput.{FlowInput}
use Rattle.vertex_items.specs.declared.input.FlowInput.TheVariants as flow
use Rattle.vertex_items.specs.declared.input.FixedItem.TheVariants as fixed
use Rattle.view_items.specs.Collections.{InLoop, started, kept, valued, view_in_loop}
use Rattle.view_items.specs.Prepared.{has_arc, begun, tailed, degrees, arc_in_loop, arcs_in_loop, node_begins, flow_tails, prepared, view_fed, told_of}

-- ---- sums of weights

sum_total : {A : Type 0} (es : List (A × ℕ)) → sum_by (λ e. e.1) es ≡ total (λ _. 1) es
sum_total [] = refl
sum_total {A} (e ∷ es) = omega (arith, sum_by-cons (λ (x : A × ℕ). x.1) e es, sum_total es)

once_total : {A V : Type 0} (f : A → V) (xs : List A) → total (λ _. 1) (once f xs) ≡ length xs
once_total f [] = refl
once_total f (x ∷ xs) = omega (arith, once_total f xs)

once_mapped : {A V W : Type 0} (g : V → W) (f : A → V) (xs : List A) → mapped g (once f xs) ≡ once (λ x. g (f x)) xs
once_mapped g f [] = refl
once_mapped g f (x ∷ xs) = ap (λ es. (g (f x), 1) ∷ es) (once_mapped g f xs)

-- ---- no tail has more arcs than there are

degree_few_by : (b : Bool) (n m : ℕ) → n ≤ m → cond b 1 0 + n ≤ suc m
degree_few_by true n m h = omega arith
degree_few_by false n m h = omega arith

pub degree_few : (arcs : List Arc) (u : ℕ) → outdeg arcs u ≤ length arcs
degree_few [] u = omega arith
degree_few (a ∷ arcs) u = omega (arith, sum_by-cons (λ (b : Arc). cond (b.tail.0 == u) 1 0) a arcs, degree_few_by (a.tail.0 == u) (outdeg arcs u) (length arcs) (degree_few arcs u))

-- ---- the arcs of one tail

module _ (ncmp : NodeNo → NodeNo → Ordering) (nsame : (x y : NodeNo) → ncmp x y ≡ Equal → x ≡ y) (nitself : (x : NodeNo) → ncmp x x ≡ Equal) (graph : GraphData) where
  abbrev from : NodeNo → List Arc → List Arc
  from k arcs = filter (λ a. is_eq (ncmp a.tail k)) arcs

  same_tail : (a : Arc) (k : NodeNo) → is_eq (ncmp a.tail k) ≡ (a.tail.0 == k.0)
  same_tail a k = both_ways (is_eq (ncmp a.tail k)) (a.tail.0 == k.0)
      (λ e. eq-eqb a.tail.0 k.0 (ap (λ v. v.0) (nsame a.tail k ((Equal-is (ncmp a.tail k)).0 e))))
      (λ e. let is : a.tail ≡ k = ap node (eqb-true a.tail.0 k.0 e) in subst (λ v. is_eq (ncmp a.tail v) ≡ true) is (ap is_eq (nitself a.tail)))

  count_by_of : (b : Bool) (a : Arc) (rest : List Arc) (n : ℕ) → length rest ≡ n → length (if b then a ∷ rest else rest) ≡ cond b 1 0 + n
  count_by_of true a rest n h = omega arith
  count_by_of false a rest n h = omega arith

  from_count : (k : NodeNo) (arcs : List Arc) → length (from k arcs) ≡ outdeg arcs k.0
  from_count k [] = refl
  from_count k (a ∷ arcs) =
      count_by_of (is_eq (ncmp a.tail k)) a (from k arcs) (outdeg arcs k.0) (from_count k arcs)
      ∙ ap (λ b. cond b 1 0 + outdeg arcs k.0) (same_tail a k)
      ∙ sym (sum_by-cons (λ b. cond (b.tail.0 == k.0) 1 0) a arcs)

  has : (a : Arc) → IsArc graph a → has_arc graph a ≡ true
  has a is = rw (lt-ltb a.tail.0 (length graph.ids) is.tail, lt-ltb a.head.0 (length graph.ids) is.head) (lt-ltb a.edge.0 (length graph.ends) is.edge)

  tails_are : (arcs : List Arc) → All (IsArc graph) arcs → expanded (flow_tails graph) (once flow.Arc arcs) ≡ once (λ a. (a.tail, a)) arcs
  tails_are [] all = refl
  tails_are (a ∷ arcs) all = rw (has a (All-head (IsArc graph) a arcs all)) (ap (λ es. ((a.tail, a), 1) ∷ es) (tails_are arcs (All-tail (IsArc graph) a arcs all)))

  no_tails : (vs : List NodeNo) → expanded (flow_tails graph) (once flow.Node vs) ≡ []
  no_tails [] = refl
  no_tails (v ∷ vs) = no_tails vs

  part_by : {A : Type 0} (g : Arc → A) (b : Bool) (a : Arc) (rest : List Arc) → (if b then (g a, 1) ∷ once g rest else once g rest) ≡ once g (if b then a ∷ rest else rest)
  part_by g true a rest = refl
  part_by g false a rest = refl

  tail_part : {A : Type 0} (g : Arc → A) (k : NodeNo) (arcs : List Arc) → key_part ncmp k (once (λ a. (a.tail, g a)) arcs) ≡ once g (from k arcs)
  tail_part g k [] = refl
  tail_part g k (a ∷ arcs) = ap (λ es. if is_eq (ncmp a.tail k) then (g a, 1) ∷ es else es) (tail_part g k arcs) ∙ part_by g (is_eq (ncmp a.tail k)) a (from k arcs)

  -- among the arcs of one tail what is told is the same
  told_by : (told : Arc → ℕ) (n : ℕ) (k : NodeNo) (b : Bool) (a : Arc) (rest : List Arc) → (b ≡ true → told a ≡ n) → once {V = Arc × ℕ} (λ a. (a, told a)) rest ≡ once {V = Arc × ℕ} (λ a. (a, n)) rest → once {V = Arc × ℕ} (λ a. (a, told a)) (if b then a ∷ rest else rest) ≡ once {V = Arc × ℕ} (λ a. (a, n)) (if b then a ∷ rest else rest)
  told_by told n k true a rest f h = ap (λ m. ((a, m), 1) ∷ once {V = Arc × ℕ} (λ a. (a, told a)) rest) (f refl) ∙ ap (λ es. ((a, n), 1) ∷ es) h
  told_by told n k false a rest f h = h

  told_same : (told : Arc → ℕ) (n : ℕ) (k : NodeNo) → ((a : Arc) → a.tail ≡ k → told a ≡ n) → (arcs : List Arc) → once {V = Arc × ℕ} (λ a. (a, told a)) (from k arcs) ≡ once {V = Arc × ℕ} (λ a. (a, n)) (from k arcs)
  told_same told n k f [] = refl
  told_same told n k f (a ∷ arcs) = told_by told n k (is_eq (ncmp a.tail k)) a (from k arcs) (λ e. f a (nsame a.tail k ((Equal-is (ncmp a.tail k)).0 e))) (told_same told n k f arcs)

  module _ (acmp : Arc → Arc → Ordering) (atotal : IsTotalOrder acmp) (asame : (x y : Arc) → acmp x y ≡ Equal → x ≡ y) where
    degrees_by : (is_named : Bool) (k : NodeNo) (ws : List (Arc × ℕ)) (n : ℕ) → sum_by (λ a. a.1) ws % 2 ^ 64 ≡ n → n < 4_294_967_296 → degrees is_named k ws ≡ mapped (λ a. (a, if is_named then n else 0)) ws
    degrees_by is_named k ws n e low =
        let test : nat_lt n 4_294_967_296 ≡ true = lt-ltb n 4_294_967_296 low in
        ap (λ m. if nat_lt m 4_294_967_296 then mapped (λ a. (a, if is_named then m else 0)) ws else []) e
        ∙ ap (λ b. if b then mapped (λ a. (a, if is_named then n else 0)) ws else []) test

    no_degrees : (is_named : Bool) (k : NodeNo) → degrees is_named k [] ≡ []
    no_degrees is_named k = refl

    degree_sum : (k : NodeNo) (arcs : List Arc) (ws : List (Arc × ℕ)) → Alike ws (once (λ a. a) (from k arcs)) → length arcs < 2 ^ 32 → (outdeg arcs k.0 ≤ length arcs) → sum_by (λ a. a.1) ws % 2 ^ 64 ≡ outdeg arcs k.0
    degree_sum k arcs ws a few low =
        let sum : sum_by (λ (e : Arc × ℕ). e.1) ws ≡ total (λ _. 1) ws = sum_total ws in
        let all : total (λ _. 1) ws % 2 ^ 64 ≡ total (λ _. 1) (once (λ (a : Arc). a) (from k arcs)) % 2 ^ 64 = a.totals (λ _. 1) in
        let count : total (λ _. 1) (once (λ (a : Arc). a) (from k arcs)) ≡ length (from k arcs) = once_total (λ (a : Arc). a) (from k arcs) in
        let degree : length (from k arcs) ≡ outdeg arcs k.0 = from_count k arcs in
        omega arith

    -- the arcs with the degrees that are told
    degrees_are : (p : Program) (arcs : List Arc) → length arcs < 2 ^ 32 → Alike (reduce_apply ncmp acmp (degrees (names_outdeg p.send)) (once (λ a. (a.tail, a)) arcs)) (once (λ a. (a.tail, (a, told_of p arcs a))) arcs)
    degrees_are p arcs few = by_keys ncmp nsame nitself (reduce_apply ncmp acmp (degrees (names_outdeg p.send)) (once (λ a. (a.tail, a)) arcs)) (once (λ a. (a.tail, (a, told_of p arcs a))) arcs) (λ k.
        let ws : List (Arc × ℕ) = normal acmp (key_part ncmp k (once (λ a. (a.tail, a)) arcs)) in
        let n : ℕ = if names_outdeg p.send then outdeg arcs k.0 else 0 in
        let part : key_part ncmp k (once (λ a. (a.tail, a)) arcs) ≡ once (λ a. a) (from k arcs) = tail_part (λ a. a) k arcs in
        let is : Alike ws (once (λ a. a) (from k arcs)) = Alike-trans (normal-Alike acmp atotal asame (key_part ncmp k (once (λ a. (a.tail, a)) arcs))) (Alike-is part) in
        let low : outdeg arcs k.0 ≤ length arcs = degree_few arcs k.0 in
        let small : outdeg arcs k.0 < 4_294_967_296 = omega arith in
        Alike-trans (Alike-is (reduce_part ncmp nsame nitself acmp (degrees (names_outdeg p.send)) (no_degrees (names_outdeg p.send)) (once (λ a. (a.tail, a)) arcs) k ∙ degrees_by (names_outdeg p.send) k ws (outdeg arcs k.0) (degree_sum k arcs ws is few low) small))
        (Alike-trans (Alike-mapped (λ a. (a, n)) ws (once (λ a. a) (from k arcs)) is)
        (Alike-is (once_mapped (λ a. (a, n)) (λ (a : Arc). a) (from k arcs)
        ∙ sym (told_same (told_of p arcs) n k (λ a e. ap (λ v. if names_outdeg p.send then outdeg arcs v.0 else 0) e) arcs)
        ∙ sym (tail_part (λ a. (a, told_of p arcs a)) k arcs)))))

    -- ---- the nodes

    has_node : (v : NodeNo) → v.0 < length graph.ids → nat_lt v.0 (length graph.ids) ≡ true
    has_node v low = lt-ltb v.0 (length graph.ids) low

    begins : (p : Program) (values : List Val) (k n : ℕ) → k + n ≤ length graph.ids → ((v : ℕ) → v < length graph.ids → value_at values v ≡ start_of p graph v) → Alike (expanded (node_begins p graph) (once flow.Node (map node (range_with_len k n)))) (once (started p graph) (map node (range_with_len k n)) ++ once (valued values) (map node (range_with_len k n)))
    begins p values k zero low f = Alike-refl []
    begins p values k (suc n) low f =
        let here : nat_lt k (length graph.ids) ≡ true = has_node (node k) (omega arith) in
        let same : value_at values k ≡ start_of p graph k = f k (omega arith) in
        rw (here, same) (
        let more : Alike (expanded (node_begins p graph) (once flow.Node (map node (range_with_len (k + 1) n)))) (once (started p graph) (map node (range_with_len (k + 1) n)) ++ once (valued values) (map node (range_with_len (k + 1) n))) = begins p values (k + 1) n (omega arith) f in
        two (started p graph (node k)) (Moving (node k, start_of p graph k)) (expanded (node_begins p graph) (once flow.Node (map node (range_with_len (k + 1) n)))) (once (started p graph) (map node (range_with_len (k + 1) n))) (once (valued values) (map node (range_with_len (k + 1) n))) more) where
          two : (x y : InLoop) (es us vs : List (InLoop × ℕ)) → Alike es (us ++ vs) → Alike ((x, 1) ∷ (y, 1) ∷ es) (((x, 1) ∷ us) ++ ((y, 1) ∷ vs))
          two x y es us vs a = record { totals = λ g. sums (g x) (g y) (total g es) (total g us) (total g vs) (total g (us ++ ((y, 1) ∷ vs))) (total g (us ++ vs)) (a.totals g) (total-append g us vs) (total-append g us ((y, 1) ∷ vs)) } where
            sums : (a b e u v w z : ℕ) → e % 2 ^ 64 ≡ z % 2 ^ 64 → z ≡ u + v → w ≡ u + (b * 1 + v) → (a * 1 + (b * 1 + e)) % 2 ^ 64 ≡ (a * 1 + w) % 2 ^ 64
            sums a b e u v w z h k l = omega arith

    no_begins : (p : Program) (arcs : List Arc) → expanded (node_begins p graph) (once flow.Arc arcs) ≡ []
    no_begins p [] = refl
    no_begins p (a ∷ arcs) = no_begins p arcs

    -- ---- both

    kept_are : (p : Program) (told : Arc → ℕ) (arcs : List Arc) → mapped arc_in_loop (once (λ a. (a.tail, (a, told a))) arcs) ≡ once (kept told) arcs
    kept_are p told arcs = once_mapped arc_in_loop (λ a. (a.tail, (a, told a))) arcs

    swapped : (us vs ws : List (InLoop × ℕ)) → Alike ((us ++ vs) ++ ws) ((us ++ ws) ++ vs)
    swapped us vs ws = record { totals = λ g. rw (total-append g (us ++ vs) ws, total-append g us vs, total-append g (us ++ ws) vs, total-append g us ws) (ap (λ n. n % 2 ^ 64) (turned (total g us) (total g vs) (total g ws))) } where
      turned : (a b c : ℕ) → (a + b) + c ≡ (a + c) + b
      turned a b c = omega arith

    pub view-prepared : (answer : Answer) (p : Program) (arcs : List Arc) → All (IsArc graph) arcs → length arcs < 2 ^ 32 → Alike (prepared ncmp acmp p graph (view_fed graph arcs)) (view_in_loop p graph (told_of p arcs) arcs (lone answer p graph arcs 0))
    view-prepared answer p arcs all few =
        let nodes : List NodeNo = map node (nodes_of graph) in
        let values : List Val = lone answer p graph arcs 0 in
        let first : Alike (expanded (node_begins p graph) (view_fed graph arcs)) (once (started p graph) nodes ++ once (valued values) nodes) =
        Alike-trans (Alike-is (expanded-append (node_begins p graph) (once flow.Node nodes) (once flow.Arc arcs) ∙ ap (λ es. expanded (node_begins p graph) (once flow.Node nodes) ++ es) (no_begins p arcs) ∙ append-nil (expanded (node_begins p graph) (once flow.Node nodes)))) (begins p values 0 (length graph.ids) (omega arith) (λ v low. start-at answer p graph arcs v low)) in
        let tails : expanded (flow_tails graph) (view_fed graph arcs) ≡ once (λ a. (a.tail, a)) arcs = expanded-append (flow_tails graph) (once flow.Node nodes) (once flow.Arc arcs) ∙ ap (λ es. es ++ expanded (flow_tails graph) (once flow.Arc arcs)) (no_tails nodes) ∙ tails_are arcs all in
        let second : Alike (arcs_in_loop ncmp acmp p (expanded (flow_tails graph) (view_fed graph arcs))) (once (kept (told_of p arcs)) arcs) =
        Alike-trans (Alike-is (ap (arcs_in_loop ncmp acmp p) tails)) (Alike-trans (Alike-mapped arc_in_loop (reduce_apply ncmp acmp (degrees (names_outdeg p.send)) (once (λ a. (a.tail, a)) arcs)) (once (λ a. (a.tail, (a, told_of p arcs a))) arcs) (degrees_are p arcs few)) (Alike-is (kept_are p (told_of p arcs) arcs))) in
        Alike-trans (Alike-append first second) (swapped (once (started p graph) nodes) (once (valued values) nodes) (once (kept (told_of p arcs)) arcs))

    -- one collection comes into the loop as one
    pub prepared_respects : (p : Program) (xs ys : List (FlowInput × ℕ)) → Alike xs ys → Alike (prepared ncmp acmp p graph xs) (prepared ncmp acmp p graph ys)
    prepared_respects p xs ys s = Alike-append ((expanded_linear (node_begins p graph)).respects xs ys s)
        (Alike-mapped arc_in_loop (reduce_apply ncmp acmp (degrees (names_outdeg p.send)) (expanded (flow_tails graph) xs)) (reduce_apply ncmp acmp (degrees (names_outdeg p.send)) (expanded (flow_tails graph) ys)) (reduce_respects ncmp nsame nitself acmp atotal asame (degrees (names_outdeg p.send)) (no_degrees (names_outdeg p.send)) (expanded (flow_tails graph) xs) (expanded (flow_tails graph) ys) ((expanded_linear (flow_tails graph)).respects xs ys s)))
