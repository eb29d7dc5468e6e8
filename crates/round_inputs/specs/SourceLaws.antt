-- What is kept of a view's arcs and of a round's values gives what a node gets.
use Rattle.std.proofs.Common.{◌≡◌, ◌∙◌, ◌<◌, ◌≤◌, ◌+◌, ◌∷◌, [], sym, ap, subst, refl, ℕ, ℤ, Bool, true, false, List, length, get_or, map, filter, Option, Some, Vec, Global, arith, inl, inr}
use Rattle.std.specs.Prelude.{All, ◌==◌, if◌then◌else◌, IfSome}
use Rattle.std.proofs.lemmas.Bool.{cases_Bool}
use Rattle.std.proofs.lemmas.List.{length-map}
use Rattle.std.proofs.lemmas.List.Elements.{All-head, All-tail, All-weaker, All-filter, All-map}
use Rattle.std.proofs.lemmas.List.Sums.{length-filter, count_by-le-length}
use Rattle.std.proofs.lemmas.Simd.{map-map}
use Rattle.graph_model.specs.declared.number.NodeNo.{NodeNo}
use Rattle.graph_model.specs.declared.value.Val.{Val}
use Rattle.graph_model.specs.declared.value.Val.TheVariants.{Nil}
use Rattle.graph_model.specs.GraphData.{GraphData}
use Rattle.vertex_lang.specs.declared.arc.Arc.{Arc}
use Rattle.vertex_lang.specs.declared.program.Program.{Program}
use Rattle.vertex_lang.specs.Arcs.{is_sent, IsArc, outdeg}
use Rattle.vertex_lang.specs.Expressions.{Answer, sent_by, send_words, edge_value}
use Rattle.vertex_lang.specs.Rounds.{value_at, carried, lone}
use Rattle.vertex_lang.specs.Values.{added}
use Rattle.lone_work.specs.Inputs.{got_values}
use Rattle.round_inputs.specs.declared.source.MessageSource.{MessageSource}
use Rattle.change_lists.specs.declared.history.Change.{Change}
use Rattle.arc_rows.specs.declared.live.Live.{Live}
use Rattle.message_forms.specs.declared.edge_step.Link.{Link}
use Rattle.round_inputs.specs.Sources.{IsSource, HasValues}
use Rattle.change_lists.specs.ChangeLists.{is_changed, HasChanges}
use Rattle.arc_rows.specs.Listings.{AreTails, AreLinks}
use Rattle.arc_rows.specs.Links.{tail_of, link_of}
use Rattle.value_codes.specs.Numbers.{sent_over, sent_from, AreNumbers, AreRenewed}
use Rattle.arc_rows.specs.Lives.{AreLive, row_in}
use Rattle.message_forms.specs.Codes.{number_at, value_in, code_of}
use Rattle.round_inputs.specs.Numbers.{sent_in_view, sent_with}
use Rattle.message_forms.specs.Forms.{IsStep, MayKeep}
use Rattle.arc_rows.specs.Views.{in_view, arcs_in, row_of}
use Rattle.round_messages.specs.Sides.{AreSent}
use Rattle.round_inputs.specs.Inputs.{IsRound}
use Rattle.round_inputs.specs.Movers.{sent_in}
use Rattle.change_lists.specs.UnchangedLaws.{unchanged-at}
use Rattle.arc_rows.specs.ViewLaws.{row-few}
use Rattle.round_inputs.specs.declared.source.MessageSource.TheVariants as sources

-- ---- a row

module _ {A : Type 0} (pick : Arc → A) (all : List Arc) (edges : List Bool) (count : ℕ) (live : Live A) (is : AreLive pick all edges count live) (v : ℕ) (low : v < count) (row : List A) (e : row ≡ row_in live.items.items live.places.items v) where
  pub row-is : row ≡ map pick (filter (in_view edges) (row_of all v))
  row-is = e ∙ is.row v low

  pub few : length row ≤ length all
  few =
      let arcs = filter (in_view edges) (row_of all v) in
      omega (arith, ap (λ (xs : List A). length xs) row-is, length-map arcs pick, length-filter (in_view edges) (row_of all v), count_by-le-length (in_view edges) (row_of all v), row-few all (row_of all v) v refl)

  pub each : (P : A → Type 0) → All (λ a. P (pick a)) all → All P row
  each P h = subst (λ (xs : List A). All P xs) (sym row-is) (All-map P pick (filter (in_view edges) (row_of all v)) (All-filter (in_view edges) (λ a. P (pick a)) (row_of all v) (All-filter (λ (a : Arc). a.head.0 == v) (λ a. P (pick a)) all h)))

-- ---- the two ways to choose arcs

same-cons : (v w : Val) (vs ws : List Val) → v ≡ w → filter is_sent vs ≡ filter is_sent ws → filter is_sent (v ∷ vs) ≡ filter is_sent (w ∷ ws)
same-cons v w vs ws e h = ap (λ (x : Val). filter is_sent (x ∷ vs)) e ∙ with-one w where
  with-one : (x : Val) → filter is_sent (x ∷ vs) ≡ filter is_sent (x ∷ ws)
  with-one x = elim (cases_Bool (is_sent x)) [
    | inl t ↦ rw t (ap (λ (xs : List Val). x ∷ xs) h)
    | inr f ↦ rw f h
  ]

-- where what an arc brings is none unless a test holds, those at which it holds are all that counts
pub gated : (f : Arc → Bool) (b : Arc → Val) (xs : List Arc) → filter is_sent (map (λ a. if f a then b a else Nil) xs) ≡ filter is_sent (map b (filter f xs))
gated f b [] = refl
gated f b (a ∷ xs) = elim (cases_Bool (f a)) [
  | inl t ↦ rw t (same-cons (b a) (b a) (map (λ c. if f c then b c else Nil) xs) (map b (filter f xs)) refl (gated f b xs))
  | inr e ↦ rw e (gated f b xs)
]

module _ (f h : Arc → Bool) (b c : Arc → Val) where
  pub chosen-both : (xs : List Arc) → All (λ a. b a ≡ c a) xs → filter is_sent (map b (filter f (filter h xs))) ≡ filter is_sent (map c (filter h (filter f xs)))
  chosen-both [] same = refl
  chosen-both (a ∷ xs) same =
      let rest = chosen-both xs (All-tail (λ a. b a ≡ c a) a xs same) in
      let here = All-head (λ a. b a ≡ c a) a xs same in
      elim (cases_Bool (f a)) [
        | inl ef ↦ elim (cases_Bool (h a)) [
          | inl eh ↦ rw (eh, ef, eh) (same-cons (b a) (c a) (map b (filter f (filter h xs))) (map c (filter h (filter f xs))) here rest)
          | inr eh ↦ rw (eh, ef, eh) rest
        ]
        | inr ef ↦ elim (cases_Bool (h a)) [
          | inl eh ↦ rw (eh, ef) rest
          | inr eh ↦ rw (eh, ef) rest
        ]
      ]

-- ---- what a node gets

module _ (answer : Answer) (p : Program) (graph : GraphData) (all : List Arc) (edges : List Bool) (r : ℕ) (arcs : All (IsArc graph) all) (v : ℕ) (low : v < length graph.ids) where
  carries : Arc → Val
  carries = carried p graph (arcs_in all edges) (lone answer p graph (arcs_in all edges) r)

  -- the numbers are those of the messages of the round
  abbrev AreMessages : List ℤ → Type 0
  AreMessages numbers = (u e : ℕ) → u < length graph.ids → number_at numbers u ≡ sent_in answer p graph (arcs_in all edges) r u e

  -- an arc brings the number of its tail
  carries-number : (numbers : List ℤ) → AreMessages numbers → All (λ a. number_at numbers a.tail.0 ≡ carries a) all
  unfolding carries
  carries-number numbers has = All-weaker (IsArc graph) (λ a. number_at numbers a.tail.0 ≡ carries a) (λ a arc. has a.tail.0 a.edge.0 arc.tail) all arcs

  pub by-messages : (numbers : List ℤ) (row : List Arc) → AreMessages numbers → row ≡ row_of all v
      → sent_in_view numbers edges row ≡ got_values answer p graph (arcs_in all edges) v r
  unfolding carries
  by-messages numbers row has e =
      let brought : Arc → Val = λ a. number_at numbers a.tail.0 in
      ap (λ (xs : List Arc). sent_in_view numbers edges xs) e
      ∙ gated (in_view edges) brought (row_of all v)
      ∙ chosen-both (in_view edges) (λ (a : Arc). a.head.0 == v) brought carries all (carries-number numbers has)

  pub by-tails : (live : Live NodeNo) (numbers : List ℤ) (row : List NodeNo) → AreMessages numbers → AreTails graph all edges live → row ≡ row_in live.items.items live.places.items v
      → sent_from numbers row ≡ got_values answer p graph (arcs_in all edges) v r
  unfolding carries
  by-tails live numbers row has rows e =
      let brought : Arc → Val = λ a. number_at numbers a.tail.0 in
      ap (λ (xs : List NodeNo). sent_from numbers xs) (row-is tail_of all edges (length graph.ids) live rows v low row e)
      ∙ ap (λ (ms : List Val). filter is_sent ms) (map-map (λ (t : NodeNo). number_at numbers t.0) tail_of (filter (in_view edges) (row_of all v)))
      ∙ chosen-both (in_view edges) (λ (a : Arc). a.head.0 == v) brought carries all (carries-number numbers has)

  -- an arc brings the number of its tail and the property added
  with-property : (column : ℕ) (numbers : List ℤ) → HasValues answer p graph all edges r column numbers → (a : Arc) → IsArc graph a
      → added true (number_at numbers a.tail.0) (edge_value graph a.edge.0 column) ≡ carries a
  unfolding carries
  with-property column numbers has a arc =
      ap (λ (x : Val). added true x (edge_value graph a.edge.0 column)) (has.each a.tail.0 arc.tail)
      ∙ sym (has.step graph a.tail.0 (value_at (lone answer p graph (arcs_in all edges) r) a.tail.0) (outdeg (arcs_in all edges) a.tail.0) a.edge.0)

  pub by-values : (column : ℕ) (numbers : List ℤ) (row : List Arc) → HasValues answer p graph all edges r column numbers → row ≡ row_of all v
      → sent_with graph column numbers edges row ≡ got_values answer p graph (arcs_in all edges) v r
  unfolding carries
  by-values column numbers row has e =
      let brought : Arc → Val = λ a. added true (number_at numbers a.tail.0) (edge_value graph a.edge.0 column) in
      ap (λ (xs : List Arc). sent_with graph column numbers edges xs) e
      ∙ gated (in_view edges) brought (row_of all v)
      ∙ chosen-both (in_view edges) (λ (a : Arc). a.head.0 == v) brought carries all (All-weaker (IsArc graph) (λ a. brought a ≡ carries a) (with-property column numbers has) all arcs)

  pub by-links : (column : ℕ) (live : Live Link) (numbers : List ℤ) (row : List Link) → HasValues answer p graph all edges r column numbers → AreLinks graph all edges column live → row ≡ row_in live.items.items live.places.items v
      → sent_over numbers row ≡ got_values answer p graph (arcs_in all edges) v r
  unfolding carries
  by-links column live numbers row has links e =
      let brought : Arc → Val = λ a. added true (number_at numbers a.tail.0) (value_in (code_of (edge_value graph a.edge.0 column))) in
      ap (λ (xs : List Link). sent_over numbers xs) (row-is (link_of graph column) all edges (length graph.ids) live links.rows v low row e)
      ∙ ap (λ (ms : List Val). filter is_sent ms) (map-map (λ (l : Link). added true (number_at numbers l.tail.0) (value_in l.step)) (link_of graph column) (filter (in_view edges) (row_of all v)))
      ∙ chosen-both (in_view edges) (λ (a : Arc). a.head.0 == v) brought carries all (All-weaker (IsArc graph) (λ a. brought a ≡ carries a) (λ a arc.
      ap (λ (x : Val). added true (number_at numbers a.tail.0) x) (links.proper a.edge.0 arc.edge) ∙ with-property column numbers has a arc) all arcs)

-- ---- from round to round

module _ (answer : Answer) (p : Program) (graph : GraphData) (all : List Arc) (edges : List Bool) (degrees : List ℕ) (values : List Val) (r : ℕ) (is : IsRound answer p graph all edges degrees values r) where
  -- a message is the one of the round
  pub sent-under : (u e : ℕ) → u < length graph.ids → sent_by p graph u (value_at values u) (get_or degrees u 0) e ≡ sent_in answer p graph (arcs_in all edges) r u e
  sent-under u e low = (elim is.degrees_are [
    | inl ignores ↦ ignores (send_words graph u (value_at values u) 0 e) (get_or degrees u 0) (outdeg (arcs_in all edges) u)
    | inr are ↦ ap (λ n. sent_by p graph u (value_at values u) n e) (are u low)
  ])
      ∙ ap (λ (vs : List Val). sent_by p graph u (value_at vs u) (outdeg (arcs_in all edges) u) e) is.values_are

  -- a message that is kept is the one of the round
  pub sent-is : (alike : Bool) (sent : List ℤ) → AreSent alike p graph degrees values sent → alike ≡ true → (u e : ℕ) → u < length graph.ids → number_at sent u ≡ sent_in answer p graph (arcs_in all edges) r u e
  sent-is alike sent has on u e low = (has on).1 u e low ∙ sent-under u e low

  pub values-begin : (column : ℕ) (numbers : List ℤ) → AreNumbers values numbers → IsStep p column
      → HasValues answer p graph all edges r column numbers
  values-begin column numbers are step = record {
    step = step;
    size = are.size ∙ is.sized.values_size;
    each = λ u low. are.each u (omega (arith, low, is.sized.values_size)) ∙ ap (λ (vs : List Val). value_at vs u) is.values_are;
  }

picked : (b : Bool) (x y : Val) → b ≡ true → (if b then x else y) ≡ x
picked true x y e = refl
picked false x y e = absurd cc

passed : (b : Bool) (x y : Val) → b ≡ false → (if b then x else y) ≡ y
passed true x y e = absurd cc
passed false x y e = refl

module _ (answer : Answer) (p : Program) (graph : GraphData) (all : List Arc) (edges : List Bool) (degrees : List ℕ) (values : List Val) (r : ℕ) (is : IsRound answer p graph all edges degrees values (r + 1))
    (cs : List Change) (has : HasChanges (length graph.ids) (lone answer p graph (arcs_in all edges) r) (lone answer p graph (arcs_in all edges) (r + 1)) cs) where
  abbrev now : List Val
  now = lone answer p graph (arcs_in all edges) (r + 1)

  abbrev was : List Val
  was = lone answer p graph (arcs_in all edges) r

  pub values-next : (column : ℕ) (before after : List ℤ) → AreRenewed values cs before after
      → HasValues answer p graph all edges r column before → HasValues answer p graph all edges (r + 1) column after
  values-next column before after new had = record {
    step = had.step;
    size = new.size ∙ had.size;
    each = λ u low. new.each u (omega (arith, low, had.size)) ∙ (elim (cases_Bool (is_changed u cs)) [
      | inl t ↦ picked (is_changed u cs) (value_at values u) (number_at before u) t ∙ ap (λ (vs : List Val). value_at vs u) is.values_are
      | inr f ↦ passed (is_changed u cs) (value_at values u) (number_at before u) f ∙ had.each u low ∙ sym (unchanged-at (length graph.ids) was now cs u low has f)
    ]);
  }

-- the same under equal names
pub renewed-as : (values vs : List Val) (cs : List Change) (before bs after zs : List ℤ) → vs ≡ values → bs ≡ before → after ≡ zs → AreRenewed vs cs bs zs → AreRenewed values cs before after
renewed-as values vs cs before bs after zs ev eb ea h =
    subst (λ (xs : List Val). AreRenewed xs cs before after) ev (subst (λ (xs : List ℤ). AreRenewed vs cs xs after) eb (subst (λ (xs : List ℤ). AreRenewed vs cs bs xs) (sym ea) h))

-- ---- what is kept

module _ (answer : Answer) (p : Program) (graph : GraphData) (all : List Arc) (edges : List Bool) (r : ℕ) (source : MessageSource) (held : IsSource answer p graph all edges r source) where
  pub fed-tails : (live : Option (Live NodeNo)) (tails : Live NodeNo) → source ≡ sources.Messages live → live ≡ Some tails → AreTails graph all edges tails
  fed-tails live tails e is = subst (λ (o : Option (Live NodeNo)). IfSome o (AreTails graph all edges)) is (subst (λ (f : MessageSource). IsSource answer p graph all edges r f) e held).1

  pub fed-keeps : (live : Option (Live NodeNo)) → source ≡ sources.Messages live → MayKeep true p graph
  fed-keeps live e = (subst (λ (f : MessageSource). IsSource answer p graph all edges r f) e held).0

  pub fed-values : (column : ℕ) (numbers : Vec ℤ Global) (live : Option (Live Link)) → source ≡ sources.Steps column numbers live → HasValues answer p graph all edges r column numbers.items
  fed-values column numbers live e = (subst (λ (f : MessageSource). IsSource answer p graph all edges r f) e held).0

  pub fed-links : (column : ℕ) (numbers : Vec ℤ Global) (live : Option (Live Link)) (links : Live Link) → source ≡ sources.Steps column numbers live → live ≡ Some links → AreLinks graph all edges column links
  fed-links column numbers live links e is = subst (λ (o : Option (Live Link)). IfSome o (AreLinks graph all edges column)) is (subst (λ (f : MessageSource). IsSource answer p graph all edges r f) e held).1
