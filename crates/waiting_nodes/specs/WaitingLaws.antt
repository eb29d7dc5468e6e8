-- Nodes that wait: one more, one less, and those who still wait.
use Rattle.std.proofs.Common.{◌≡◌, ◌∙◌, ◌<◌, ◌≤◌, ◌+◌, ◌++◌, ◌∷◌, [], sym, ap, subst, refl, ℕ, suc, Bool, true, false, List, length, get_or, set, take, drop, filter, arith, inl, inr}
use Rattle.std.specs.Prelude.{All, ◌||◌, ◌==◌, ◌⊎◌}
use Rattle.std.proofs.lemmas.Bool.{cases_eq, cases_lt, cases_Bool, eq-eqb, ne_eqb}
use Rattle.std.proofs.lemmas.Grind.{get_or-set_at}
use Rattle.std.proofs.lemmas.List.{get_or-set_other, get_or_past, length-set, length-append, get_or_append_left, append-nil}
use Rattle.std.proofs.Math.Seq.{get_or-append_seam, drop-cons}
use Rattle.std.proofs.lemmas.List.Elements.{All-push, All-weaker, All-head, All-tail, All-cons, All-filter}
use Rattle.std.proofs.lemmas.List.Sorted.{All-permutation}
use Rattle.graph_model.specs.GraphData.{GraphData}
use Rattle.vertex_lang.specs.Arcs.{IsArc}
use Rattle.arc_rows.specs.declared.rows.Rows.{Rows}
use Rattle.arc_rows.specs.RowLists.{AreRows}
use Rattle.std.proofs.lemmas.List.Folds.{list_any-append}
use Rattle.graph_model.specs.declared.number.NodeNo.{NodeNo}
use Rattle.vertex_lang.specs.declared.arc.Arc.{Arc}
use Rattle.waiting_nodes.specs.declared.queue.Queue.{Queue}
use Rattle.change_lists.specs.ChangeLists.{is_listed, mark_if}
use Rattle.waiting_nodes.specs.Queues.{waits, IsQueue, StillWait, AllHear, DegreeAgrees}
use Rattle.arc_rows.specs.ListLaws.{clash, more-of}

or-left : (a b : Bool) → a ≡ true → (a || b) ≡ true
or-left true b e = refl
or-left false b e = absurd cc

pub or-right : (a b : Bool) → b ≡ true → (a || b) ≡ true
or-right true b e = refl
or-right false b e = e

pub or-first : (a b : Bool) → (a || b) ≡ true → b ≡ false → a ≡ true
or-first true b e f = refl
or-first false b e f = absurd (clash b f e)

-- what is true of two lists, one behind the other, is true of each
pub all-front : {X : Type 0} (P : X → Type 0) (xs ys : List X) → All P (xs ++ ys) → All P xs
all-front P [] ys h = λ i d low. absurd (omega (arith, low))
all-front P (x ∷ xs) ys h = All-cons P x xs (All-head P x (xs ++ ys) h) (all-front P xs ys (All-tail P x (xs ++ ys) h))

pub all-back : {X : Type 0} (P : X → Type 0) (xs ys : List X) → All P (xs ++ ys) → All P ys
all-back P [] ys h = h
all-back P (x ∷ xs) ys h = all-back P xs ys (All-tail P x (xs ++ ys) h)

-- one more in the list
pub listed-push : (v : ℕ) (nodes : List NodeNo) (n : NodeNo) → is_listed v (nodes ++ n ∷ []) ≡ (is_listed v nodes || (n.0 == v))
listed-push v nodes n = list_any-append (λ (m : NodeNo). m.0 == v) nodes (n ∷ []) ∙ ap (λ (b : Bool). is_listed v nodes || b) (or-none (n.0 == v)) where
  or-none : (b : Bool) → (b || false) ≡ b
  or-none true = refl
  or-none false = refl

pub listed-kept : (v : ℕ) (nodes : List NodeNo) (n : NodeNo) → is_listed v nodes ≡ true → is_listed v (nodes ++ n ∷ []) ≡ true
listed-kept v nodes n e = listed-push v nodes n ∙ or-left (is_listed v nodes) (n.0 == v) e

pub listed-last : (v : ℕ) (nodes : List NodeNo) (n : NodeNo) → v ≡ n.0 → is_listed v (nodes ++ n ∷ []) ≡ true
listed-last v nodes n e = listed-push v nodes n ∙ or-right (is_listed v nodes) (n.0 == v) (eq-eqb n.0 v (sym e))

pub listed-rest : (v : ℕ) (nodes : List NodeNo) (n : NodeNo) → (v ≡ n.0 → ⊥) → is_listed v (nodes ++ n ∷ []) ≡ true → is_listed v nodes ≡ true
listed-rest v nodes n ne e = or-first (is_listed v nodes) (n.0 == v) (sym (listed-push v nodes n) ∙ e) (ne_eqb n.0 v (λ h. ne (sym h)))

pub queue-at : (n : ℕ) (q : Queue) → IsQueue n q → IsQueue (length q.waits.items) q
queue-at n q u = subst (λ k. IsQueue k q) (sym u.size) u

module _ (n : ℕ) (q q' : Queue) (node : NodeNo) (u : IsQueue n q) (low : node.0 < n) where
  pub queue-added : q'.waits.items ≡ set q.waits.items node.0 true → q'.nodes.items ≡ q.nodes.items ++ node ∷ [] → IsQueue n q'
  queue-added ew en = record {
    size = ap (λ (ws : List Bool). length ws) ew ∙ length-set q.waits.items node.0 true ∙ u.size;
    within = subst (λ (ns : List NodeNo). All (λ m. m.0 < n) ns) (sym en) (All-push (λ (m : NodeNo). m.0 < n) q.nodes.items node u.within low);
    listed = λ v e. subst (λ (ns : List NodeNo). is_listed v ns ≡ true) (sym en) (elim (cases_eq v node.0) [
      | inl same ↦ listed-last v q.nodes.items node same
      | inr other ↦ listed-kept v q.nodes.items node (u.listed v (sym (get_or-set_other q.waits.items node.0 v true false other) ∙ sym (ap (λ (ws : List Bool). get_or ws v false) ew) ∙ e))
    ]);
  }

  pub still-added : q'.waits.items ≡ set q.waits.items node.0 true → StillWait q q'
  still-added ew = record {
    still = λ v e. ap (λ (ws : List Bool). get_or ws v false) ew ∙ (elim (cases_eq v node.0) [
      | inl same ↦ get_or-set_at q.waits.items node.0 v true false same (omega (arith, u.size))
      | inr other ↦ get_or-set_other q.waits.items node.0 v true false other ∙ e
    ]);
  }

  pub waits-added : q'.waits.items ≡ set q.waits.items node.0 true → waits q' node.0 ≡ true
  waits-added ew = ap (λ (ws : List Bool). get_or ws node.0 false) ew ∙ get_or-set_at q.waits.items node.0 node.0 true false refl (omega (arith, u.size))

-- where one was taken out, the others that wait did
pub still-waits : (waiting : List Bool) (n v : ℕ) → get_or (set waiting n false) v false ≡ true → get_or waiting v false ≡ true
still-waits waiting n v e = elim (cases_eq v n) [
  | inl same ↦ absurd (clash (get_or (set waiting n false) v false) (off (cases_lt n (length waiting)) same) e)
  | inr other ↦ sym (get_or-set_other waiting n v false false other) ∙ e
] where
  off : (n < length waiting) ⊎ (length waiting ≤ n) → v ≡ n → get_or (set waiting n false) v false ≡ false
  off (inl low) same = get_or-set_at waiting n v false false same low
  off (inr high) same = get_or_past (set waiting n false) v false (omega (arith, high, same, length-set waiting n false))

pub still-refl : (q : Queue) → StillWait q q
still-refl q = record { still = λ v e. e }

pub still-trans : (a b c : Queue) → StillWait a b → StillWait b c → StillWait a c
still-trans a b c s t = record { still = λ v e. t.still v (s.still v e) }

-- those who are taken out of the list without waiting, and one that waited
module _ (n : ℕ) (q q' : Queue) (node : NodeNo) (u : IsQueue n q) (en : q.nodes.items ≡ q'.nodes.items ++ node ∷ []) where
  rest-within : All (λ m. m.0 < n) q'.nodes.items
  rest-within = λ i d low. subst (λ (m : NodeNo). m.0 < n) (at i d low) (u.within i d (longer i low)) where
    longer : (i : ℕ) → i < length q'.nodes.items → i < length q.nodes.items
    longer i low = omega (arith, ap (λ (ns : List NodeNo). length ns) en, length-append q'.nodes.items (node ∷ []))

    at : (i : ℕ) (d : NodeNo) → i < length q'.nodes.items → get_or q.nodes.items i d ≡ get_or q'.nodes.items i d
    at i d low = ap (λ (ns : List NodeNo). get_or ns i d) en ∙ get_or_append_left q'.nodes.items (node ∷ []) d i low

  pub queue-idle : q'.waits.items ≡ q.waits.items → waits q node.0 ≡ false → IsQueue n q'
  queue-idle ew idle = record {
    size = ap (λ (ws : List Bool). length ws) ew ∙ u.size;
    within = rest-within;
    listed = λ v e.
        let was : waits q v ≡ true = sym (ap (λ (ws : List Bool). get_or ws v false) ew) ∙ e in
        listed-rest v q'.nodes.items node (λ same. clash (waits q v) (ap (λ k. waits q k) same ∙ idle) was) (sym (ap (λ (ns : List NodeNo). is_listed v ns) en) ∙ u.listed v was);
  }

  pub queue-taken : q'.waits.items ≡ set q.waits.items node.0 false → node.0 < n → IsQueue n q'
  queue-taken ew low = record {
    size = ap (λ (ws : List Bool). length ws) ew ∙ length-set q.waits.items node.0 false ∙ u.size;
    within = rest-within;
    listed = λ v e.
        let now : get_or (set q.waits.items node.0 false) v false ≡ true = sym (ap (λ (ws : List Bool). get_or ws v false) ew) ∙ e in
        let other : v ≡ node.0 → ⊥ = λ same. clash (get_or (set q.waits.items node.0 false) v false) (get_or-set_at q.waits.items node.0 v false false same (omega (arith, u.size))) now in
        listed-rest v q'.nodes.items node other (sym (ap (λ (ns : List NodeNo). is_listed v ns) en) ∙ u.listed v (sym (get_or-set_other q.waits.items node.0 v false false other) ∙ now));
  }

  pub last-within : node.0 < n
  last-within = subst (λ (m : NodeNo). m.0 < n) (ap (λ (ns : List NodeNo). get_or ns (length q'.nodes.items) node) en ∙ get_or-append_seam q'.nodes.items node [] node) (u.within (length q'.nodes.items) node (omega (arith, ap (λ (ns : List NodeNo). length ns) en, length-append q'.nodes.items (node ∷ []))))

pub none-waits : (n : ℕ) (q : Queue) → IsQueue n q → q.nodes.items ≡ [] → (v : ℕ) → waits q v ≡ false
none-waits n q u e v = elim (cases_Bool (waits q v)) [
  | inl t ↦ absurd (clash (is_listed v []) refl (sym (ap (λ (ns : List NodeNo). is_listed v ns) e) ∙ u.listed v t))
  | inr f ↦ f
]

-- what holds of all that pass a test
pub All-of-filter : {X : Type 0} (test : X → Bool) (T P : X → Type 0) → ((x : X) → T x → test x ≡ true) → (xs : List X) → All P (filter test xs) → All (λ x. T x → P x) xs
All-of-filter test T P passes [] each = λ i d low. absurd (omega arith)
All-of-filter test T P passes (x ∷ xs) each = elim (cases_Bool (test x)) [
  | inl e ↦
      let here : All P (x ∷ filter test xs) = rw e at each in
      All-cons (λ y. T y → P y) x xs (λ t. All-head P x (filter test xs) here) (All-of-filter test T P passes xs (All-tail P x (filter test xs) here))
  | inr e ↦
      let rest : All P (filter test xs) = rw e at each in
      All-cons (λ y. T y → P y) x xs (λ t. absurd (clash (test x) e (passes x t))) (All-of-filter test T P passes xs rest)
]

-- ---- those that wait are listed anew

module _ (nodes : List NodeNo) (b : Bool) (n : ℕ) where
  pub waiting-within : (count : ℕ) → n < count → All (λ m. m.0 < count) nodes → All (λ m. m.0 < count) (nodes ++ mark_if b (record { 0 = n }))
  waiting-within count low all = elim (cases_Bool b) [
    | inl e ↦ rw e (All-push (λ (m : NodeNo). m.0 < count) nodes (record { 0 = n }) all low)
    | inr e ↦ rw e (subst (λ (ns : List NodeNo). All (λ m. m.0 < count) ns) (sym (append-nil nodes)) all)
  ]

  pub waiting-kept : (v : ℕ) → is_listed v nodes ≡ true → is_listed v (nodes ++ mark_if b (record { 0 = n })) ≡ true
  waiting-kept v h = list_any-append (λ (m : NodeNo). m.0 == v) nodes (mark_if b (record { 0 = n })) ∙ or-left (is_listed v nodes) (is_listed v (mark_if b (record { 0 = n }))) h

  pub waiting-last : (v : ℕ) → v ≡ n → b ≡ true → is_listed v (nodes ++ mark_if b (record { 0 = n })) ≡ true
  waiting-last v same e = rw e (listed-last v nodes (record { 0 = n }) same)

-- ---- loops over those who are to wait

pub queue-step : (n : ℕ) (q q' : Queue) → IsQueue n q → IsQueue (length q.waits.items) q' → IsQueue n q'
queue-step n q q' u h = subst (λ k. IsQueue k q') u.size h

module _ (arcs : List Arc) (i : ℕ) (d : Arc) (low : i < length arcs) (q q' : Queue) where
  pub heads-more : StillWait q q' → All (λ a. waits q a.head.0 ≡ true) (take i arcs) → waits q' (get_or arcs i d).head.0 ≡ true → All (λ a. waits q' a.head.0 ≡ true) (take (i + 1) arcs)
  heads-more s all here = more-of (λ (a : Arc). waits q a.head.0 ≡ true) (λ (a : Arc). waits q' a.head.0 ≡ true) arcs i d low (λ a h. s.still a.head.0 h) all here

  pub heads-or-more : (P : Arc → Type 0) → StillWait q q' → All (λ a. P a ⊎ (waits q a.head.0 ≡ true)) (take i arcs) → P (get_or arcs i d) ⊎ (waits q' (get_or arcs i d).head.0 ≡ true) → All (λ a. P a ⊎ (waits q' a.head.0 ≡ true)) (take (i + 1) arcs)
  heads-or-more P s all here = more-of (λ (a : Arc). P a ⊎ (waits q a.head.0 ≡ true)) (λ (a : Arc). P a ⊎ (waits q' a.head.0 ≡ true)) arcs i d low
      (λ a h. elim h [ inl e ↦ inl e | inr w ↦ inr (s.still a.head.0 w) ]) all here

-- a row is heard where all its heads wait
pub row-hears : (arcs row : List Arc) (u : ℕ) (q : Queue) → row ≡ filter (λ a. a.tail.0 == u) arcs → All (λ a. waits q a.head.0 ≡ true) row → AllHear arcs q u
row-hears arcs row u q e all = filtered arcs (subst (λ (xs : List Arc). All (λ a. waits q a.head.0 ≡ true) xs) e all) where
  filtered : (xs : List Arc) → All (λ a. waits q a.head.0 ≡ true) (filter (λ a. a.tail.0 == u) xs) → All (λ a. a.tail.0 ≡ u → waits q a.head.0 ≡ true) xs
  filtered xs each = All-of-filter (λ (a : Arc). a.tail.0 == u) (λ (a : Arc). a.tail.0 ≡ u) (λ (a : Arc). waits q a.head.0 ≡ true) (λ a h. eq-eqb a.tail.0 u h) xs each

pub marks-more : (marks : List NodeNo) (i : ℕ) (d : NodeNo) → i < length marks → (q q' : Queue) (touched : List Bool) → StillWait q q' → All (λ n. get_or touched n.0 false ≡ true → waits q n.0 ≡ true) (take i marks)
    → (get_or touched (get_or marks i d).0 false ≡ true → waits q' (get_or marks i d).0 ≡ true) → All (λ n. get_or touched n.0 false ≡ true → waits q' n.0 ≡ true) (take (i + 1) marks)
marks-more marks i d low q q' touched s all here = more-of (λ (n : NodeNo). get_or touched n.0 false ≡ true → waits q n.0 ≡ true) (λ (n : NodeNo). get_or touched n.0 false ≡ true → waits q' n.0 ≡ true) marks i d low (λ n h t. s.still n.0 (h t)) all here

-- one more cleared
pub cleared-more : (marks : List NodeNo) (i : ℕ) (d : NodeNo) → i < length marks → (marked : List Bool) → (get_or marks i d).0 < length marked → ((v : ℕ) → get_or marked v false ≡ true → is_listed v (drop i marks) ≡ true)
    → (v : ℕ) → get_or (set marked (get_or marks i d).0 false) v false ≡ true → is_listed v (drop (i + 1) marks) ≡ true
cleared-more marks i d low marked within h v e =
    let n = get_or marks i d in
    let up : suc i ≡ i + 1 = omega arith in
    let next : drop i marks ≡ n ∷ drop (i + 1) marks = drop-cons marks i d low ∙ ap (λ (k : ℕ). n ∷ drop k marks) up in
    elim (cases_eq v n.0) [
      | inl same ↦ absurd (clash (get_or (set marked n.0 false) v false) (get_or-set_at marked n.0 v false false same within) e)
      | inr other ↦
          let was : is_listed v (drop i marks) ≡ true = h v (sym (get_or-set_other marked n.0 v false false other) ∙ e) in
          or-second (n.0 == v) (is_listed v (drop (i + 1) marks)) (ne_eqb n.0 v (λ s. other (sym s))) (sym (ap (λ (ns : List NodeNo). is_listed v ns) next) ∙ was)
    ] where
      or-second : (a b : Bool) → a ≡ false → (a || b) ≡ true → b ≡ true
      or-second true b f t = absurd cc
      or-second false b f t = t

-- the arcs of a row lead to nodes, along edges of the graph
module _ (graph : GraphData) (rows : Rows) (is : AreRows graph rows) (u : ℕ) (row : List Arc) (e : row ≡ filter (λ a. a.tail.0 == u) rows.by_tail) (m : ℕ) where
  row-arcs : All (IsArc graph) row
  row-arcs = subst (λ (xs : List Arc). All (IsArc graph) xs) (sym e) (All-filter (λ (a : Arc). a.tail.0 == u) (IsArc graph) rows.by_tail (All-permutation (IsArc graph) rows.by_head rows.by_tail is.same is.arcs))

  pub row-heads : m ≡ length graph.ids → All (λ a. a.head.0 < m) row
  row-heads em = All-weaker (IsArc graph) (λ (a : Arc). a.head.0 < m) (λ a h. omega (arith, em, h.head)) row row-arcs

  pub row-edges : m ≡ length graph.ends → All (λ a. a.edge.0 < m) row
  row-edges em = All-weaker (IsArc graph) (λ (a : Arc). a.edge.0 < m) (λ a h. omega (arith, em, h.edge)) row row-arcs

pub readers-more : (turned : List Arc) (i : ℕ) (d : Arc) → i < length turned → (q q' : Queue) (by : Bool) (od nd : List ℕ) (tails : List Arc) → StillWait q q'
    → All (λ t. DegreeAgrees by od nd t.tail.0 ⊎ AllHear tails q t.tail.0) (take i turned) → DegreeAgrees by od nd (get_or turned i d).tail.0 ⊎ AllHear tails q' (get_or turned i d).tail.0
    → All (λ t. DegreeAgrees by od nd t.tail.0 ⊎ AllHear tails q' t.tail.0) (take (i + 1) turned)
readers-more turned i d low q q' by od nd tails s all here = more-of (λ (t : Arc). DegreeAgrees by od nd t.tail.0 ⊎ AllHear tails q t.tail.0) (λ (t : Arc). DegreeAgrees by od nd t.tail.0 ⊎ AllHear tails q' t.tail.0) turned i d low
    (λ t h. elim h [
      | inl a ↦ inl a
      | inr a ↦ inr (All-weaker (λ (x : Arc). x.tail.0 ≡ t.tail.0 → waits q x.head.0 ≡ true) (λ (x : Arc). x.tail.0 ≡ t.tail.0 → waits q' x.head.0 ≡ true) (λ x g e. s.still x.head.0 (g e)) tails a)
    ]) all here
