-- Rows of items that are made anew in their place.
use Rattle.std.proofs.Common.{◌≡◌, ◌∙◌, ◌<◌, ◌≤◌, ◌+◌, ◌-◌, ◌++◌, ◌∷◌, [], zero, suc, sym, ap, subst, refl, ℕ, Bool, true, false, List, length, get_or, set, take, drop, map, filter, cond, arith, inl, inr, length-set}
use Rattle.std.specs.Prelude.{All, Contains, ◌≢◌, ◌==◌}
use Rattle.std.specs.Int.{from_bool}
use Rattle.std.proofs.lemmas.Bool.{cases_Bool, cases_lt, cases_eq, eqb-true, true≢false}
use Rattle.std.proofs.lemmas.Grind.{get_or-set_at}
use Rattle.std.proofs.lemmas.List.{append-nil, map-append, take-take, take_at, take_all, take-set-le, take_more_set, drop-set-lt, drop-set-add, drop-drop, drop-take, length-drop, length-take-le, get_or-set_other, get_or_append_left}
use Rattle.std.proofs.Math.Seq.{get_or-append_seam}
use Rattle.std.proofs.lemmas.List.Elements.{All-contains, All-head, All-tail, filter_more}
use Rattle.vertex_lang.specs.declared.arc.Arc.{Arc}
use Rattle.arc_rows.specs.declared.live.Live.{Live}
use Rattle.arc_rows.specs.declared.live.Place.{Place}
use Rattle.arc_rows.specs.Lives.{AreLive, AreRenewed, ArePut, IsLaid, IsRenewed, place_at, picked_of, row_in}
use Rattle.arc_rows.specs.RowLists.{IsGrouped, begin_of}
use Rattle.arc_rows.specs.Views.{in_view, row_of, IsTurned}
use Rattle.arc_rows.specs.ListLaws.{clash}

none : {A : Type 0} (xs : List A) → take 0 xs ≡ []
none [] = refl
none (x ∷ xs) = refl

-- ---- the items of one row

module _ {A : Type 0} (pick : Arc → A) (edges : List Bool) (from room : ℕ) (row : List Arc) (old : List A) where
  pub put-none : ArePut pick edges from room (take 0 row) 0 old old
  put-none = record {
    size = refl;
    few = omega arith;
    before = refl;
    behind = refl;
    made = none (drop from old) ∙ ap (picked_of pick edges) (sym (none row));
  }

  module _ (i : ℕ) (d : Arc) (low : i < length row) (count : ℕ) (now : List A) (had : ArePut pick edges from room (take i row) count old now) where
    few-so-far : count ≤ i
    few-so-far = omega (arith, had.few, length-take-le i row (omega (arith, low)))

    size-next : length (take (i + 1) row) ≡ i + 1
    size-next = length-take-le (i + 1) row (omega (arith, low))

    picked-yes : in_view edges (get_or row i d) ≡ true → picked_of pick edges (take (i + 1) row) ≡ picked_of pick edges (take i row) ++ pick (get_or row i d) ∷ []
    picked-yes t =
        ap (map pick) (filter_more (in_view edges) row i d low ∙ ap (λ (b : Bool). filter (in_view edges) (take i row) ++ cond b (get_or row i d ∷ []) []) t)
        ∙ map-append pick (filter (in_view edges) (take i row)) (get_or row i d ∷ [])

    picked-no : in_view edges (get_or row i d) ≡ false → picked_of pick edges (take (i + 1) row) ≡ picked_of pick edges (take i row)
    picked-no f =
        ap (map pick) (filter_more (in_view edges) row i d low ∙ ap (λ (b : Bool). filter (in_view edges) (take i row) ++ cond b (get_or row i d ∷ []) []) f
        ∙ append-nil (filter (in_view edges) (take i row)))

    -- an arc that isn't in the view is passed over
    pub put-same : in_view edges (get_or row i d) ≡ false → ArePut pick edges from room (take (i + 1) row) count old now
    put-same f = record {
      size = had.size;
      few = omega (arith, few-so-far, size-next);
      before = had.before;
      behind = had.behind;
      made = had.made ∙ sym (picked-no f);
    }

    module _ (wide : i < room) (within : from + room ≤ length old) (new : List A) (e : new ≡ set now (from + count) (pick (get_or row i d))) where
      filled : take (count + 1) (drop from new) ≡ picked_of pick edges (take i row) ++ pick (get_or row i d) ∷ []
      filled =
          ap (λ (xs : List A). take (count + 1) (drop from xs)) e
          ∙ ap (take (count + 1)) (drop-set-add from now count (pick (get_or row i d)))
          ∙ take_more_set (drop from now) count (pick (get_or row i d)) (omega (arith, length-drop from now, had.size, few-so-far, wide, within))
          ∙ ap (λ (xs : List A). xs ++ pick (get_or row i d) ∷ []) had.made

      made-by : (b : Bool) (more : ℕ) → in_view edges (get_or row i d) ≡ b → more ≡ from_bool b → take (count + more) (drop from new) ≡ picked_of pick edges (take (i + 1) row)
      made-by true more t em = ap (λ (n : ℕ). take (count + n) (drop from new)) em ∙ filled ∙ sym (picked-yes t)
      made-by false more f em =
          let same : count + more ≡ count = omega (arith, em) in
          let less : count ≤ count + 1 = omega arith in
          let size : length (picked_of pick edges (take i row)) ≡ count =
          sym (ap (λ (xs : List A). length xs) had.made) ∙ length-take-le count (drop from now) (omega (arith, length-drop from now, had.size, few-so-far, wide, within)) in
          ap (λ (n : ℕ). take n (drop from new)) same
          ∙ sym (take-take count (count + 1) (drop from new) less)
          ∙ ap (take count) filled
          ∙ take_at (picked_of pick edges (take i row)) (pick (get_or row i d) ∷ []) count size
          ∙ sym (picked-no f)

      counted : (b : Bool) (more : ℕ) → more ≡ from_bool b → more ≤ 1
      counted true more em = omega (arith, em)
      counted false more em = omega (arith, em)

      -- one is put behind those before, and counted where it is in the view
      pub put-more : (b : Bool) (more : ℕ) → in_view edges (get_or row i d) ≡ b → more ≡ from_bool b → ArePut pick edges from room (take (i + 1) row) (count + more) old new
      put-more b more eb em = record {
        size = ap (λ (xs : List A). length xs) e ∙ length-set now (from + count) (pick (get_or row i d)) ∙ had.size;
        few = omega (arith, few-so-far, size-next, counted b more em);
        before = ap (take from) e ∙ take-set-le from now (from + count) (pick (get_or row i d)) (omega arith) ∙ had.before;
        behind = ap (drop (from + room)) e ∙ drop-set-lt (from + room) now (from + count) (pick (get_or row i d)) (omega (arith, few-so-far, wide)) ∙ had.behind;
        made = made-by b more eb em;
      }

  pub put-all : (n count : ℕ) (new : List A) → length row ≤ n → ArePut pick edges from room (take n row) count old new → ArePut pick edges from room row count old new
  put-all n count new all h = subst (λ (xs : List Arc). ArePut pick edges from room xs count old new) (take_all n row all) h

-- ---- the rows of others stay

module _ {A : Type 0} (xs ys : List A) (m : ℕ) where
  part-before : (from count : ℕ) → take m xs ≡ take m ys → from + count ≤ m → take count (drop from xs) ≡ take count (drop from ys)
  part-before from count e low =
      sym (drop-take from count xs)
      ∙ ap (drop from) (sym (take-take (from + count) m xs low) ∙ ap (take (from + count)) e ∙ take-take (from + count) m ys low)
      ∙ drop-take from count ys

  part-behind : (from count : ℕ) → drop m xs ≡ drop m ys → m ≤ from → take count (drop from xs) ≡ take count (drop from ys)
  part-behind from count e low =
      let at : m + (from - m) ≡ from = omega (arith, low) in
      ap (take count) (ap (λ (n : ℕ). drop n xs) (sym at) ∙ sym (drop-drop (from - m) m xs) ∙ ap (drop (from - m)) e ∙ drop-drop (from - m) m ys ∙ ap (λ (n : ℕ). drop n ys) at)

nowhere : Place
nowhere = record { from = 0; count = 0 }

module _ {A : Type 0} (pick : Arc → A) (all : List Arc) (edges : List Bool) (count : ℕ) where
  module _ (v : ℕ) (low : v < count) (old new : Live A) (laid : IsLaid all count old) (row : List Arc) (e : row ≡ row_of all v) (kept : ℕ)
      (put : ArePut pick edges (place_at old.places.items v).from (length row) row kept old.items.items new.items.items)
      (places : new.places.items ≡ set old.places.items v (record { from = (place_at old.places.items v).from; count = kept })) where
    abbrev begin : ℕ → ℕ
    begin u = (place_at old.places.items u).from

    room : length row ≡ length (row_of all v)
    room = ap (λ (xs : List Arc). length xs) e

    here : place_at new.places.items v ≡ record { from = begin v; count = kept }
    here = ap (λ (ps : List Place). place_at ps v) places ∙ get_or-set_at old.places.items v v (record { from = begin v; count = kept }) (record { from = 0; count = 0 }) refl (omega (arith, low, laid.size))

    elsewhere : (u : ℕ) → u ≢ v → place_at new.places.items u ≡ place_at old.places.items u
    elsewhere u other = ap (λ (ps : List Place). place_at ps u) places ∙ get_or-set_other old.places.items v u (record { from = begin v; count = kept }) (record { from = 0; count = 0 }) other

    begin-same : (u : ℕ) → (place_at new.places.items u).from ≡ begin u
    begin-same u = elim (cases_eq u v) [
      | inl same ↦ subst (λ (n : ℕ). (place_at new.places.items n).from ≡ begin n) (sym same) (ap (λ (p : Place). p.from) here)
      | inr other ↦ ap (λ (p : Place). p.from) (elsewhere u other)
    ]

    few-each : (u : ℕ) → u < count → (place_at new.places.items u).count ≤ length (row_of all u)
    few-each u less = elim (cases_eq u v) [
      | inl same ↦ subst (λ (n : ℕ). (place_at new.places.items n).count ≤ length (row_of all n)) (sym same) (omega (arith, ap (λ (p : Place). p.count) here, put.few, room))
      | inr other ↦ omega (arith, ap (λ (p : Place). p.count) (elsewhere u other), laid.few u less)
    ]

    other-row : (u : ℕ) → u < count → u ≢ v → row_in new.items.items new.places.items u ≡ row_in old.items.items old.places.items u
    other-row u less other =
        ap (λ (p : Place). take p.count (drop p.from new.items.items)) (elsewhere u other)
        ∙ (elim (cases_lt u v) [
          | inl before ↦ part-before new.items.items old.items.items (begin v) (begin u) (place_at old.places.items u).count put.before (omega (arith, laid.apart u v before low, laid.few u less))
          | inr behind ↦
              let more : v < u = omega (arith, behind, other) in
              part-behind new.items.items old.items.items (begin v + length row) (begin u) (place_at old.places.items u).count put.behind (omega (arith, laid.apart v u more less, room))
        ])

    pub renewed : IsRenewed pick all edges count v old new
    renewed = record {
      laid = record {
        size = ap (λ (ps : List Place). length ps) places ∙ length-set old.places.items v (record { from = begin v; count = kept }) ∙ laid.size;
        few = few-each;
        apart = λ u w less within. omega (arith, begin-same u, begin-same w, laid.apart u w less within);
        within = λ u less. omega (arith, begin-same u, laid.within u less, put.size);
      };
      made = ap (λ (p : Place). take p.count (drop p.from new.items.items)) here ∙ put.made ∙ ap (picked_of pick edges) e;
      others = other-row;
    }

  pub renewed-at : (v : ℕ) → v < count → (old new : Live A) → IsLaid all count old → (row : List Arc) → row ≡ row_of all v → (kept : ℕ) → (place : Place) → place_at old.places.items v ≡ place
      → ArePut pick edges place.from (length row) row kept old.items.items new.items.items → new.places.items ≡ set old.places.items v (record { from = place.from; count = kept }) → IsRenewed pick all edges count v old new
  renewed-at v low old new laid row e kept place ep put places =
      renewed v low old new laid row e kept
      (subst (λ (p : Place). ArePut pick edges p.from (length row) row kept old.items.items new.items.items) (sym ep) put)
      (subst (λ (p : Place). new.places.items ≡ set old.places.items v (record { from = p.from; count = kept })) (sym ep) places)

  -- ---- row by row

  pub renewed-none : (chosen : List Bool) (old : Live A) → IsLaid all count old → AreRenewed pick all edges count chosen 0 old old
  renewed-none chosen old laid = record {
    laid = laid;
    made = λ v low less. absurd (omega (arith, less));
    others = λ v low is. refl;
  }

  module _ (chosen : List Bool) (done : ℕ) (old now : Live A) (had : AreRenewed pick all edges count chosen done old now) where
    pub renewed-pass : get_or chosen done false ≡ false → AreRenewed pick all edges count chosen (done + 1) old now
    renewed-pass out = record {
      laid = had.laid;
      made = λ v low less is. elim (cases_lt v done) [
        | inl before ↦ had.made v low before is
        | inr here ↦ let same : v ≡ done = omega (arith, here, less) in absurd (clash (get_or chosen done false) out (subst (λ (n : ℕ). get_or chosen n false ≡ true) same is))
      ];
      others = had.others;
    }

    pub renewed-next : (new : Live A) → get_or chosen done false ≡ true → IsRenewed pick all edges count done now new → AreRenewed pick all edges count chosen (done + 1) old new
    renewed-next new is next = record {
      laid = next.laid;
      made = λ v low less t. elim (cases_lt v done) [
        | inl before ↦ next.others v low (omega (arith, before)) ∙ had.made v low before t
        | inr here ↦ let same : done ≡ v = omega (arith, here, less) in subst (λ (n : ℕ). row_in new.items.items new.places.items n ≡ picked_of pick edges (row_of all n)) same next.made
      ];
      others = λ v low out. next.others v low (λ same. clash (get_or chosen v false) out (subst (λ (n : ℕ). get_or chosen n false ≡ true) (sym same) is)) ∙ had.others v low out;
    }

  -- ---- all of them

  pub all-live : (chosen : List Bool) (old new : Live A) → ((v : ℕ) → v < count → get_or chosen v false ≡ true) → AreRenewed pick all edges count chosen count old new → AreLive pick all edges count new
  all-live chosen old new each h = record {
    laid = h.laid;
    row = λ v low. h.made v low low (each v low);
  }

-- ---- those alone to which a turned arc comes

-- two tests that agree at each arc of a row choose the same of it
same-row : (p q : Arc → Bool) (v : ℕ) (all : List Arc) → All (λ a. a.head.0 ≡ v → p a ≡ q a) all → filter p (row_of all v) ≡ filter q (row_of all v)
same-row p q v [] h = refl
same-row p q v (a ∷ all) h =
    let rest = same-row p q v all (All-tail (λ a. a.head.0 ≡ v → p a ≡ q a) a all h) in
    elim (cases_Bool (a.head.0 == v)) [
      | inl t ↦
          let one : p a ≡ q a = All-head (λ a. a.head.0 ≡ v → p a ≡ q a) a all h (eqb-true a.head.0 v t) in
          rw t (elim (cases_Bool (q a)) [
            | inl is ↦ let both = one ∙ is in rw (is, both) (ap (λ (xs : List Arc). a ∷ xs) rest)
            | inr is ↦ let both = one ∙ is in rw (is, both) rest
          ])
      | inr f ↦ rw f rest
    ]

agree-by : (a b : Bool) → (a ≢ b → ⊥) → a ≡ b
agree-by true true h = refl
agree-by true false h = absurd (h true≢false)
agree-by false true h = absurd (h (λ e. true≢false (sym e)))
agree-by false false h = refl

module _ {A : Type 0} (pick : Arc → A) (all : List Arc) (old new : List Bool) (count : ℕ) (turned : List Arc) (heads : List Bool)
    (each : All (λ a. IsTurned old new a → Contains turned a) all) (marked : All (λ a. get_or heads a.head.0 false ≡ true) turned) where
  row-stays : (v : ℕ) → get_or heads v false ≡ false → picked_of pick old (row_of all v) ≡ picked_of pick new (row_of all v)
  row-stays v out = ap (map pick) (same-row (in_view old) (in_view new) v all (λ i d low at.
      let a = get_or all i d in
      agree-by (in_view old a) (in_view new a) (λ other.
      clash (get_or heads v false) out (subst (λ (n : ℕ). get_or heads n false ≡ true) at (All-contains (λ a. get_or heads a.head.0 false ≡ true) turned a marked (each i d low other))))))

  pub turned-live : (before after : Live A) → AreLive pick all old count before → AreRenewed pick all new count heads count before after → AreLive pick all new count after
  turned-live before after was h = record {
    laid = h.laid;
    row = λ v low. elim (cases_Bool (get_or heads v false)) [
      | inl is ↦ h.made v low low is
      | inr out ↦ h.others v low out ∙ was.row v low ∙ row-stays v out
    ];
  }

-- ---- room for rows

module _ (all : List Arc) (ends : List ℕ) (count : ℕ) (is : IsGrouped (λ a. a.head.0) all ends count) where
  pub row-size : (v : ℕ) → v < count → begin_of ends v + length (row_of all v) ≡ get_or ends v 0
  row-size v low =
      let size = ap (λ (xs : List Arc). length xs) (is.row v low) in
      let part = length-take-le (get_or ends v 0 - begin_of ends v) (drop (begin_of ends v) all) (omega (arith, length-drop (begin_of ends v) all, is.within v low)) in
      omega (arith, size, part, is.rising v low)

  rise : (u v : ℕ) → u < v → v < count → get_or ends u 0 ≤ begin_of ends v
  rise u zero less low = absurd (omega (arith, less))
  rise u (suc v) less low = elim (cases_eq u v) [
    | inl same ↦ subst (λ (n : ℕ). get_or ends n 0 ≤ get_or ends v 0) (sym same) (omega arith)
    | inr other ↦ omega (arith, rise u v (omega (arith, less, other)) (omega (arith, low)), is.rising v (omega (arith, low)))
  ]

  pub laid-out : {A : Type 0} (live : Live A) → length live.places.items ≡ count → length live.items.items ≡ length all
      → ((v : ℕ) → v < count → place_at live.places.items v ≡ record { from = begin_of ends v; count = 0 }) → IsLaid all count live
  laid-out live size room each = record {
    size = size;
    few = λ v low. omega (arith, ap (λ (p : Place). p.count) (each v low));
    apart = λ u v less low. omega (arith, ap (λ (p : Place). p.from) (each u (omega (arith, less, low))), ap (λ (p : Place). p.from) (each v low), row-size u (omega (arith, less, low)), rise u v less low);
    within = λ v low. omega (arith, ap (λ (p : Place). p.from) (each v low), row-size v low, is.within v low, room);
  }

  -- one row more behind those before
  pub laid-more : (places ps : List Place) (node from : ℕ) → length places ≡ node → from ≡ begin_of ends node → ((v : ℕ) → v < node → place_at places v ≡ record { from = begin_of ends v; count = 0 })
      → ps ≡ places ++ record { from = from; count = 0 } ∷ [] → (v : ℕ) → v < node + 1 → place_at ps v ≡ record { from = begin_of ends v; count = 0 }
  laid-more places ps node from size ef each e v low = ap (λ (xs : List Place). place_at xs v) e ∙ (elim (cases_lt v node) [
    | inl before ↦ get_or_append_left places (record { from = from; count = 0 } ∷ []) (record { from = 0; count = 0 }) v (omega (arith, before, size)) ∙ each v before
    | inr here ↦
        let same : v ≡ node = omega (arith, here, low) in
        ap (λ (n : ℕ). place_at (places ++ record { from = from; count = 0 } ∷ []) n) (same ∙ sym size)
        ∙ get_or-append_seam places (record { from = from; count = 0 }) [] (record { from = 0; count = 0 })
        ∙ ap {B = Place} (λ (n : ℕ). record { from = n; count = 0 }) (ef ∙ ap (begin_of ends) (sym same))
  ])
