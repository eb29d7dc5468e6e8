-- Where a view is in the loop, the items of a node are its input.
use Rattle.std.specs.Prelude.{◌≡◌, ◌≢◌, ℕ, zero, suc, ◌+◌, ◌*◌, ◌<◌, ◌≤◌, ◌^◌, ◌==◌, ◌&&◌, nat_lt, Bool, true, false, List, [], ◌∷◌, ◌++◌, length, map, All, Option, Some, None, if◌then◌else◌, refl}
use Rattle.std.specs.List.{range_with_len}
use Rattle.std.specs.declared.cmp.Ordering.{Ordering}
use Rattle.std.specs.declared.cmp.Ordering.TheVariants.{Equal}
use Rattle.std.specs.Ordering.{is_eq}
use Rattle.std.specs.Cmp.{Equal-is, both_ways}
use Rattle.std.proofs.Common.{arith, ap, sym, subst, ◌∙◌, inl, inr, eqb-true, append-nil}
use Rattle.std.proofs.lemmas.Bool.{lt-ltb, eq-eqb}
use Rattle.std.proofs.lemmas.Bool.Decides.{nat_tests}
use Rattle.std.proofs.lemmas.List.Elements.{All-head, All-tail}
use Rattle.weighted.specs.Alike.{Alike, Alike-is, Alike-trans, Alike-append}
use Rattle.weighted.specs.SumLaws.{product, paired}
use Rattle.flow_core.specs.declared.side.Side.{Side}
use Rattle.flow_core.specs.declared.side.Side.TheVariants.{Left, Right}
use Rattle.flow_core.specs.Sides.{lefts, rights}
use Rattle.flow_core.specs.Functions.{lefts-append, rights-append}
use Rattle.flow_core.specs.Expanded.{expanded, expanded-append, expanded_linear}
use Rattle.reduce_theory.specs.Evaluated.{key_part}
use Rattle.reduce_theory.specs.ByKey.{part-append, at_each_key}
use Rattle.diff_join.specs.Joins.{one, given, pairs, joined_sides}
use Rattle.diff_join.specs.GivenLaws.{given-append}
use Rattle.diff_join.specs.PairLaws.{joined_respects}
use Rattle.graph_model.specs.declared.value.Val.{Val}
use Rattle.graph_model.specs.declared.value.Val.TheVariants.{Nil, Num}
use Rattle.graph_model.specs.declared.number.NodeNo.{NodeNo}
use Rattle.graph_model.specs.GraphData.{GraphData, node}
use Rattle.vertex_lang.specs.declared.arc.Arc.{Arc}
use Rattle.vertex_lang.specs.declared.program.Program.{Program}
use Rattle.vertex_lang.specs.Arcs.{IsArc, outdeg, messages}
use Rattle.vertex_lang.specs.MessageLaws.{sent_of, messages-cons}
use Rattle.vertex_lang.specs.Expressions.{Answer, start_of, sent_by}
use Rattle.vertex_lang.specs.Rounds.{nodes_of, value_at, carried, received, lone}
use Rattle.lone_work.specs.Items.{Item}
use Rattle.lone_work.specs.Inputs.{input, input_under}
use Rattle.work_theory.specs.Once.{once}
use Rattle.vertex_items.specs.declared.item.NodeItem.{NodeItem}
use Rattle.vertex_items.specs.declared.item.NodeItem.TheVariants.{Start, Own, Message}
use Rattle.vertex_items.specs.Names.{named}
use Rattle.view_items.specs.Collections.{InLoop, own_items, sides, is_sound, brought, sends, items, started, kept, valued, view_in_loop}

-- ---- lists in which each record has one weight

once-append : {A V : Type 0} (f : A → V) (xs ys : List A) → once f (xs ++ ys) ≡ once f xs ++ once f ys
once-append f [] ys = refl
once-append f (x ∷ xs) ys = ap (λ es. (f x, 1) ∷ es) (once-append f xs ys)

map-append : {A B : Type 0} (f : A → B) (xs ys : List A) → map f (xs ++ ys) ≡ map f xs ++ map f ys
map-append f [] ys = refl
map-append f (x ∷ xs) ys = ap (λ zs. f x ∷ zs) (map-append f xs ys)

-- ---- the parts of a view in the loop

module _ (p : Program) (graph : GraphData) (told : Arc → ℕ) (values : List Val) where
  own_started : (vs : List NodeNo) → expanded own_items (once (started p graph) vs) ≡ once (λ v. (v, Start (start_of p graph v.0))) vs
  own_started [] = refl
  own_started (v ∷ vs) = ap (λ es. ((v, Start (start_of p graph v.0)), 1) ∷ es) (own_started vs)

  own_kept : (arcs : List Arc) → expanded own_items (once (kept told) arcs) ≡ []
  own_kept [] = refl
  own_kept (a ∷ arcs) = own_kept arcs

  own_valued : (vs : List NodeNo) → expanded own_items (once (valued values) vs) ≡ once (λ v. (v, Own (value_at values v.0))) vs
  own_valued [] = refl
  own_valued (v ∷ vs) = ap (λ es. ((v, Own (value_at values v.0)), 1) ∷ es) (own_valued vs)

  lefts_started : (vs : List NodeNo) → expanded sides (once (started p graph) vs) ≡ []
  lefts_started [] = refl
  lefts_started (v ∷ vs) = lefts_started vs

  lefts_kept : (arcs : List Arc) → lefts (expanded sides (once (kept told) arcs)) ≡ once (λ a. (a.tail, (a, told a))) arcs
  lefts_kept [] = refl
  lefts_kept (a ∷ arcs) = ap (λ es. ((a.tail, (a, told a)), 1) ∷ es) (lefts_kept arcs)

  rights_kept : (arcs : List Arc) → rights (expanded sides (once (kept told) arcs)) ≡ []
  rights_kept [] = refl
  rights_kept (a ∷ arcs) = rights_kept arcs

  lefts_valued : (vs : List NodeNo) → lefts (expanded sides (once (valued values) vs)) ≡ []
  lefts_valued [] = refl
  lefts_valued (v ∷ vs) = lefts_valued vs

  rights_valued : (vs : List NodeNo) → rights (expanded sides (once (valued values) vs)) ≡ once (λ v. (v, value_at values v.0)) vs
  rights_valued [] = refl
  rights_valued (v ∷ vs) = ap (λ es. ((v, value_at values v.0), 1) ∷ es) (rights_valued vs)

  sides_of_view : (vs : List NodeNo) (arcs : List Arc) → expanded sides ((once (started p graph) vs ++ once (kept told) arcs) ++ once (valued values) vs) ≡ expanded sides (once (kept told) arcs) ++ expanded sides (once (valued values) vs)
  sides_of_view vs arcs =
      expanded-append sides (once (started p graph) vs ++ once (kept told) arcs) (once (valued values) vs)
      ∙ ap (λ es. es ++ expanded sides (once (valued values) vs)) (expanded-append sides (once (started p graph) vs) (once (kept told) arcs) ∙ ap (λ es. es ++ expanded sides (once (kept told) arcs)) (lefts_started vs))

  lefts_of_view : (vs : List NodeNo) (arcs : List Arc) → lefts (expanded sides ((once (started p graph) vs ++ once (kept told) arcs) ++ once (valued values) vs)) ≡ once (λ a. (a.tail, (a, told a))) arcs
  lefts_of_view vs arcs =
      ap lefts (sides_of_view vs arcs)
      ∙ lefts-append (expanded sides (once (kept told) arcs)) (expanded sides (once (valued values) vs))
      ∙ ap (λ es. lefts (expanded sides (once (kept told) arcs)) ++ es) (lefts_valued vs)
      ∙ append-nil (lefts (expanded sides (once (kept told) arcs)))
      ∙ lefts_kept arcs

  rights_of_view : (vs : List NodeNo) (arcs : List Arc) → rights (expanded sides ((once (started p graph) vs ++ once (kept told) arcs) ++ once (valued values) vs)) ≡ once (λ v. (v, value_at values v.0)) vs
  rights_of_view vs arcs =
      ap rights (sides_of_view vs arcs)
      ∙ rights-append (expanded sides (once (kept told) arcs)) (expanded sides (once (valued values) vs))
      ∙ ap (λ es. es ++ rights (expanded sides (once (valued values) vs))) (rights_kept arcs)
      ∙ rights_valued vs

  own_of_view : (vs : List NodeNo) (arcs : List Arc) → expanded own_items ((once (started p graph) vs ++ once (kept told) arcs) ++ once (valued values) vs) ≡ once (λ v. (v, Start (start_of p graph v.0))) vs ++ once (λ v. (v, Own (value_at values v.0))) vs
  own_of_view vs arcs =
      expanded-append own_items (once (started p graph) vs ++ once (kept told) arcs) (once (valued values) vs)
      ∙ ap (λ es. es ++ expanded own_items (once (valued values) vs)) (expanded-append own_items (once (started p graph) vs) (once (kept told) arcs) ∙ ap (λ es. expanded own_items (once (started p graph) vs) ++ es) (own_kept arcs) ∙ append-nil (expanded own_items (once (started p graph) vs)) ∙ own_started vs)
      ∙ ap (λ es. once (λ v. (v, Start (start_of p graph v.0))) vs ++ es) (own_valued vs)

-- ---- one node among those of the graph

module _ (ncmp : NodeNo → NodeNo → Ordering) (nsame : (x y : NodeNo) → ncmp x y ≡ Equal → x ≡ y) (nitself : (x : NodeNo) → ncmp x x ≡ Equal) where
  eq_node : (a b : ℕ) → is_eq (ncmp (node a) (node b)) ≡ (a == b)
  eq_node a b = both_ways (is_eq (ncmp (node a) (node b))) (a == b)
      (λ e. eq-eqb a b (ap (λ v. v.0) (nsame (node a) (node b) ((Equal-is (ncmp (node a) (node b))).0 e))))
      (λ e. let is : a ≡ b = eqb-true a b e in subst (λ n. is_eq (ncmp (node a) (node n)) ≡ true) is (ap is_eq (nitself (node a))))

  not_node : (a b : ℕ) → a ≢ b → is_eq (ncmp (node a) (node b)) ≡ false
  not_node a b n = eq_node a b ∙ other a b n where
    other : (a b : ℕ) → a ≢ b → (a == b) ≡ false
    other a b n = grind (arith, nat_tests)

  is_node : (a : ℕ) → is_eq (ncmp (node a) (node a)) ≡ true
  is_node a = ap is_eq (nitself (node a))

  module _ {A : Type 0} (h : NodeNo → A) where
    part_none : (k n v : ℕ) → (v < k) → key_part ncmp (node v) (once (λ u. (u, h u)) (map node (range_with_len k n))) ≡ []
    part_none k zero v low = refl
    part_none k (suc n) v low = rw (not_node k v (λ e. absurd (omega (arith, e)))) (part_none (k + 1) n v (omega arith))

    pub part_over : (k n v : ℕ) → k + n ≤ v → key_part ncmp (node v) (once (λ u. (u, h u)) (map node (range_with_len k n))) ≡ []
    part_over k zero v high = refl
    part_over k (suc n) v high = rw (not_node k v (λ e. absurd (omega (arith, e)))) (part_over (k + 1) n v (omega arith))

    part_by : (k n v : ℕ) (b : Bool) → (k == v) ≡ b → (k ≢ v → key_part ncmp (node v) (once (λ u. (u, h u)) (map node (range_with_len (k + 1) n))) ≡ (h (node v), 1) ∷ []) → key_part ncmp (node v) (once (λ u. (u, h u)) (map node (range_with_len k (suc n)))) ≡ (h (node v), 1) ∷ []
    part_by k n v true e go =
        let is : k ≡ v = eqb-true k v e in
        let here : is_eq (ncmp (node k) (node v)) ≡ true = subst (λ m. is_eq (ncmp (node k) (node m)) ≡ true) is (is_node k) in
        rw here (ap (λ es. (h (node k), 1) ∷ es) (part_none (k + 1) n v (omega arith)) ∙ ap (λ m. (h (node m), 1) ∷ []) is)
    part_by k n v false e go = let n_is : k ≢ v = differs k v e in rw (not_node k v n_is) (go n_is) where
      differs : (k v : ℕ) → (k == v) ≡ false → k ≢ v
      differs k v e z = grind (arith, nat_tests)

    pub part_one : (k n v : ℕ) → k ≤ v → v < k + n → key_part ncmp (node v) (once (λ u. (u, h u)) (map node (range_with_len k n))) ≡ (h (node v), 1) ∷ []
    part_one k zero v low high = absurd (omega arith)
    part_one k (suc n) v low high = part_by k n v (k == v) refl (λ m. part_one (k + 1) n v (omega arith) (omega arith))

  -- ---- one arc with the values of all nodes

  module _ {E O : Type 0} (gives : NodeNo → E → Val → Option O) (h : NodeNo → Val) (t : ℕ) (e : E) where
    abbrev row : ℕ → ℕ → List (O × ℕ)
    row k n = given (pairs ncmp gives) (paired (node t, e) 1 (once (λ v. (v, h v)) (map node (range_with_len k n))))

    row_none : (k n : ℕ) → t < k → row k n ≡ []
    row_none k zero low = refl
    row_none k (suc n) low = rw (not_node t k (λ z. absurd (omega (arith, z)))) (row_none (k + 1) n (omega arith))

    row_by : (k n : ℕ) (b : Bool) → (t == k) ≡ b → (t ≢ k → row (k + 1) n ≡ one (gives (node t) e (h (node t))) 1) → row k (suc n) ≡ one (gives (node t) e (h (node t))) 1
    row_by k n true z go =
        let is : t ≡ k = eqb-true t k z in
        let here : is_eq (ncmp (node t) (node k)) ≡ true = subst (λ m. is_eq (ncmp (node t) (node m)) ≡ true) is (is_node t) in
        rw here (ap (λ es. one (gives (node t) e (h (node k))) 1 ++ es) (row_none (k + 1) n (omega arith)) ∙ append-nil (one (gives (node t) e (h (node k))) 1) ∙ ap (λ m. one (gives (node t) e (h (node m))) 1) (sym is))
    row_by k n false z go = let n_is : t ≢ k = differs t k z in rw (not_node t k n_is) (go n_is) where
      differs : (t k : ℕ) → (t == k) ≡ false → t ≢ k
      differs t k e z = grind (arith, nat_tests)

    row_one : (k n : ℕ) → k ≤ t → t < k + n → row k n ≡ one (gives (node t) e (h (node t))) 1
    row_one k zero low high = absurd (omega arith)
    row_one k (suc n) low high = row_by k n (t == k) refl (λ m. row_one (k + 1) n (omega arith) (omega arith))

  -- ---- what the arcs bring to one node

  module _ (p : Program) (graph : GraphData) (told : Arc → ℕ) (small : (a : Arc) → told a < 2 ^ 32) (values : List Val) (c : Arc → Val) (right : (a : Arc) → sent_by p graph a.tail.0 (value_at values a.tail.0) (told a) a.edge.0 ≡ c a) (v : ℕ) where
    sound : (a : Arc) → IsArc graph a → is_sound graph (a, told a) ≡ true
    sound a is = rw (lt-ltb a.tail.0 (length graph.ids) is.tail, lt-ltb a.edge.0 (length graph.ends) is.edge) (lt-ltb (told a) 4_294_967_296 (few (told a) (small a))) where
      few : (n : ℕ) → n < 2 ^ 32 → n < 4_294_967_296
      few n h = omega arith

    abbrev here : Bool → Val → List (NodeItem × ℕ)
    here b m = once named (map Item.message (if b then sent_of m else []))

    arc_by : (head : NodeNo) (m : Val) (b : Bool) → is_eq (ncmp head (node v)) ≡ b → key_part ncmp (node v) (one (brought head m) 1) ≡ here b m
    arc_by head Nil true e = refl
    arc_by head Nil false e = refl
    arc_by head (Num z) true e = rw e refl
    arc_by head (Num z) false e = rw e refl

    arc_part : (a : Arc) → IsArc graph a → key_part ncmp (node v) (one (sends p graph a.tail (a, told a) (value_at values a.tail.0)) 1) ≡ here (a.head.0 == v) (c a)
    arc_part a is =
        ap (λ b. key_part ncmp (node v) (one (if b then brought a.head (sent_by p graph a.tail.0 (value_at values a.tail.0) (told a) a.edge.0) else None) 1)) (sound a is)
        ∙ ap (λ m. key_part ncmp (node v) (one (brought a.head m) 1)) (right a)
        ∙ arc_by a.head (c a) (a.head.0 == v) (eq_node a.head.0 v)

    arcs_part : (arcs : List Arc) → All (IsArc graph) arcs → key_part ncmp (node v) (given (pairs ncmp (sends p graph)) (product (once (λ a. (a.tail, (a, told a))) arcs) (once (λ u. (u, value_at values u.0)) (map node (nodes_of graph))))) ≡ once named (map Item.message (messages c arcs v))
    arcs_part [] all = refl
    arcs_part (a ∷ arcs) all =
        let is : IsArc graph a = All-head (IsArc graph) a arcs all in
        let nodes : List ((NodeNo × Val) × ℕ) = once (λ u. (u, value_at values u.0)) (map node (nodes_of graph)) in
        let more : List ((NodeNo × (Arc × ℕ)) × ℕ) = once (λ a. (a.tail, (a, told a))) arcs in
        let first : given (pairs ncmp (sends p graph)) (paired (a.tail, (a, told a)) 1 nodes) ≡ one (sends p graph a.tail (a, told a) (value_at values a.tail.0)) 1 = row_one (sends p graph) (λ u. value_at values u.0) a.tail.0 (a, told a) 0 (length graph.ids) (omega arith) (omega (arith, is.tail)) in
        ap (key_part ncmp (node v)) (given-append (pairs ncmp (sends p graph)) (paired (a.tail, (a, told a)) 1 nodes) (product more nodes))
        ∙ part-append ncmp nsame nitself (node v) (given (pairs ncmp (sends p graph)) (paired (a.tail, (a, told a)) 1 nodes)) (given (pairs ncmp (sends p graph)) (product more nodes))
        ∙ ap (λ es. key_part ncmp (node v) es ++ key_part ncmp (node v) (given (pairs ncmp (sends p graph)) (product more nodes))) first
        ∙ ap (λ es. es ++ key_part ncmp (node v) (given (pairs ncmp (sends p graph)) (product more nodes))) (arc_part a is)
        ∙ ap (λ es. here (a.head.0 == v) (c a) ++ es) (arcs_part arcs (All-tail (IsArc graph) a arcs all))
        ∙ sym (ap (λ ms. once named (map Item.message ms)) (messages-cons c a arcs v)
        ∙ ap (once named) (map-append Item.message (if a.head.0 == v then sent_of (c a) else []) (messages c arcs v))
        ∙ once-append named (map Item.message (if a.head.0 == v then sent_of (c a) else [])) (map Item.message (messages c arcs v)))

  -- ---- all items of a node

  module _ (p : Program) (graph : GraphData) (told : Arc → ℕ) (small : (a : Arc) → told a < 2 ^ 32) (arcs : List Arc) (all : All (IsArc graph) arcs) (values : List Val) (right : (a : Arc) → sent_by p graph a.tail.0 (value_at values a.tail.0) (told a) a.edge.0 ≡ carried p graph arcs values a) where
    abbrev view : List (InLoop × ℕ)
    view = view_in_loop p graph told arcs values

    joined_part : (v : ℕ) → key_part ncmp (node v) (joined_sides ncmp (sends p graph) (expanded sides view)) ≡ once named (map Item.message (received p graph arcs values v))
    joined_part v =
        ap (λ es. key_part ncmp (node v) (given (pairs ncmp (sends p graph)) (product es (rights (expanded sides view))))) (lefts_of_view p graph told values (map node (nodes_of graph)) arcs)
        ∙ ap (λ es. key_part ncmp (node v) (given (pairs ncmp (sends p graph)) (product (once (λ a. (a.tail, (a, told a))) arcs) es))) (rights_of_view p graph told values (map node (nodes_of graph)) arcs)
        ∙ arcs_part p graph told small values (carried p graph arcs values) right v arcs all

    own_part : (v : ℕ) → v < length graph.ids → key_part ncmp (node v) (expanded own_items view) ≡ (Start (start_of p graph v), 1) ∷ (Own (value_at values v), 1) ∷ []
    own_part v low =
        let nodes : List NodeNo = map node (nodes_of graph) in
        ap (key_part ncmp (node v)) (own_of_view p graph told values nodes arcs)
        ∙ part-append ncmp nsame nitself (node v) (once (λ u. (u, Start (start_of p graph u.0))) nodes) (once (λ u. (u, Own (value_at values u.0))) nodes)
        ∙ ap (λ es. es ++ key_part ncmp (node v) (once (λ u. (u, Own (value_at values u.0))) nodes)) (part_one (λ u. Start (start_of p graph u.0)) 0 (length graph.ids) v (omega arith) (omega arith))
        ∙ ap (λ es. (Start (start_of p graph v), 1) ∷ es) (part_one (λ u. Own (value_at values u.0)) 0 (length graph.ids) v (omega arith) (omega arith))

    pub items-are-input : (v : ℕ) → v < length graph.ids → key_part ncmp (node v) (items ncmp p graph view) ≡ once named (input_under p graph arcs values v)
    items-are-input v low =
        part-append ncmp nsame nitself (node v) (expanded own_items view) (joined_sides ncmp (sends p graph) (expanded sides view))
        ∙ ap (λ es. es ++ key_part ncmp (node v) (joined_sides ncmp (sends p graph) (expanded sides view))) (own_part v low)
        ∙ ap (λ es. (Start (start_of p graph v), 1) ∷ (Own (value_at values v), 1) ∷ es) (joined_part v)

    -- ---- another number gets nothing

    own_none : (v : ℕ) → length graph.ids ≤ v → key_part ncmp (node v) (expanded own_items view) ≡ []
    own_none v high =
        let nodes : List NodeNo = map node (nodes_of graph) in
        ap (key_part ncmp (node v)) (own_of_view p graph told values nodes arcs)
        ∙ part-append ncmp nsame nitself (node v) (once (λ u. (u, Start (start_of p graph u.0))) nodes) (once (λ u. (u, Own (value_at values u.0))) nodes)
        ∙ ap (λ es. es ++ key_part ncmp (node v) (once (λ u. (u, Own (value_at values u.0))) nodes)) (part_over (λ u. Start (start_of p graph u.0)) 0 (length graph.ids) v (omega arith))
        ∙ part_over (λ u. Own (value_at values u.0)) 0 (length graph.ids) v (omega arith)

    no_messages_by : (c : Arc → Val) (a : Arc) (rest : List Arc) (v : ℕ) (b : Bool) → (a.head.0 == v) ≡ b → a.head.0 ≢ v → messages c rest v ≡ [] → messages c (a ∷ rest) v ≡ []
    no_messages_by c a rest v true e n h = absurd (n (eqb-true a.head.0 v e))
    no_messages_by c a rest v false e n h = messages-cons c a rest v ∙ ap (λ b. (if b then sent_of (c a) else []) ++ messages c rest v) e ∙ h

    no_messages : (c : Arc → Val) (rest : List Arc) (v : ℕ) → All (IsArc graph) rest → length graph.ids ≤ v → messages c rest v ≡ []
    no_messages c [] v h high = refl
    no_messages c (a ∷ rest) v h high =
        let is : IsArc graph a = All-head (IsArc graph) a rest h in
        let low : a.head.0 < length graph.ids = is.head in
        no_messages_by c a rest v (a.head.0 == v) refl (λ e. absurd (omega (arith, e))) (no_messages c rest v (All-tail (IsArc graph) a rest h) high)

    pub no-items : (v : ℕ) → length graph.ids ≤ v → key_part ncmp (node v) (items ncmp p graph view) ≡ []
    no-items v high =
        part-append ncmp nsame nitself (node v) (expanded own_items view) (joined_sides ncmp (sends p graph) (expanded sides view))
        ∙ ap (λ es. es ++ key_part ncmp (node v) (joined_sides ncmp (sends p graph) (expanded sides view))) (own_none v high)
        ∙ joined_part v
        ∙ ap (λ ms. once named (map Item.message ms)) (no_messages (carried p graph arcs values) arcs v all high)

  -- one collection has one collection of items
  pub items_respect : (p : Program) (graph : GraphData) (xs ys : List (InLoop × ℕ)) → Alike xs ys → Alike (items ncmp p graph xs) (items ncmp p graph ys)
  items_respect p graph xs ys s = Alike-append ((expanded_linear own_items).respects xs ys s) (joined_respects ncmp (sends p graph) (expanded sides xs) (expanded sides ys) ((expanded_linear sides).respects xs ys s))
