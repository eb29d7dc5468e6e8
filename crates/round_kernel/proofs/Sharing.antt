-- A list of the view before that is also that of the new view: at the touched nodes it has what was found.
use Rattle.std.proofs.Common.{◌≡◌, ◌∙◌, ◌<◌, ◌+◌, ◌++◌, ◌∷◌, [], sym, ap, subst, refl, ℕ, Bool, true, false, List, cond, get_or, filter, inl, inr}
use Rattle.std.specs.Prelude.{All, Contains, ◌&&◌, ◌||◌, ◌==◌, not}
use Rattle.std.specs.List.{list_any}
use Rattle.std.proofs.lemmas.Bool.{cases_Bool, cases_eq, eq-eqb, ne_eqb}
use Rattle.std.proofs.lemmas.List.Folds.{list_any-append, list_any_at}
use Rattle.std.proofs.lemmas.List.Elements.{All-append, All-cons, All-contains, All-filter, All-head, All-nil, All-tail, All-weaker}
use Rattle.graph_model.specs.declared.value.Val.{Val}
use Rattle.graph_model.specs.declared.number.NodeNo.{NodeNo}
use Rattle.vertex_lang.specs.Expressions.{Answer}
use Rattle.vertex_lang.specs.Lone.{same_value}
use Rattle.vertex_lang.specs.Rounds.{value_at}
use Rattle.lone_work.specs.Work.{lone_in}
use Rattle.lone_work.specs.WorkLaws.{untouched-mark}
use Rattle.change_lists.specs.declared.history.Change.{Change}
use Rattle.change_lists.specs.ChangeLists.{HasNodes, HasChanges, is_changed, is_listed}
use Rattle.round_kernel.specs.declared.frame.Frame.{Frame}
use Rattle.round_kernel.specs.declared.frame.Lists.{Lists}
use Rattle.round_kernel.specs.Frames.{AreDivided, AreStirred, HasSome, StandAt, changes_at, count_in, lone_at, marked_at, marked_before, new_arcs, old_arcs, stirs, touched_at}
use Rattle.arc_rows.specs.ListLaws.{clash}
use Rattle.round_kernel.proofs.Parting.{same-truth}
use Rattle.round_kernel.proofs.Rounding.{any-kept, stirred-all, untouched-two}

or-rest : (b c : Bool) → b ≡ false → (b || c) ≡ true → c ≡ true
or-rest true c off e = absurd (clash true off refl)
or-rest false c off e = e

or-first : (b c : Bool) → b ≡ true → (b || c) ≡ true
or-first true c on = refl
or-first false c on = absurd (clash false refl on)

or-turned : (b c : Bool) → (b || c) ≡ (c || b)
or-turned true true = refl
or-turned true false = refl
or-turned false true = refl
or-turned false false = refl

and-second : (b c : Bool) → (b && c) ≡ true → c ≡ true
and-second true c e = e
and-second false c e = absurd (clash false refl e)

and-both : (b c : Bool) → b ≡ true → c ≡ true → (b && c) ≡ true
and-both true c on e = e
and-both false c on e = absurd (clash false refl on)

module _ {X : Type 0} where
  -- an element with this key is in the list
  keyed : (key : X → ℕ) (Q : X → Type 0) (v : ℕ) (xs : List X) → All Q xs → list_any (λ x. key x == v) xs ≡ true → (x : X) × (key x ≡ v) × Q x
  keyed key Q v [] all e = absurd (clash false refl e)
  keyed key Q v (x ∷ xs) all e = elim (cases_eq (key x) v) [
    | inl same ↦ (x, same, All-head Q x xs all)
    | inr other ↦ keyed key Q v xs (All-tail Q x xs all) (or-rest (key x == v) (list_any (λ x. key x == v) xs) (ne_eqb (key x) v other) e)
  ]

  parted-filter : (Q : X → Type 0) (x : X) (rest : List X) (b : Bool) → All Q (cond b (x ∷ rest) rest) → (b ≡ true → Q x) × All Q rest
  parted-filter Q x rest true all = (λ e. All-head Q x rest all, All-tail Q x rest all)
  parted-filter Q x rest false all = (λ e. absurd (clash false refl e), all)

  -- what holds of all that pass a test
  unfiltered : (test : X → Bool) (Q : X → Type 0) (xs : List X) → All Q (filter test xs) → All (λ x. test x ≡ true → Q x) xs
  unfiltered test Q [] all = All-nil (λ x. test x ≡ true → Q x)
  unfiltered test Q (x ∷ xs) all =
      let two = parted-filter Q x (filter test xs) (test x) all in
      All-cons (λ y. test y ≡ true → Q y) x xs two.0 (unfiltered test Q xs two.1)

module _ (answer : Answer) (f : Frame) (r : ℕ) (t : List Bool) (suspects : (v : ℕ) → v < count_in f → get_or t v false ≡ touched_at answer f r v) where
  -- a touched node has a mark in both views or in none, where those that are shown and touched were found, and all that were found are shown
  pub same-marks : (flags : List Bool) (shown found : List NodeNo) → AreDivided answer f r flags shown → HasNodes (count_in f) (λ v. touched_at answer f r v && marked_at answer f r v) found
      → All (λ n. get_or t n.0 false ≡ true → is_listed n.0 found ≡ true) shown → All (λ n. get_or flags n.0 false ≡ true) found
      → (v : ℕ) → v < count_in f → 0 < r → touched_at answer f r v ≡ true → marked_before answer f r v ≡ marked_at answer f r v
  same-marks flags shown found d a ins infound v low later on = same-truth (marked_before answer f r v) (marked_at answer f r v)
      (λ before. elim (cases_Bool (is_listed v shown)) [
        | inl e ↦
            let x = keyed (λ (n : NodeNo). n.0) (λ n. get_or t n.0 false ≡ true → is_listed n.0 found ≡ true) v shown ins e in
            let is : is_listed v found ≡ true = subst (λ k. get_or t k false ≡ true → is_listed k found ≡ true) x.1 x.2 (suspects v low ∙ on) in
            and-second (touched_at answer f r v) (marked_at answer f r v) (sym (a.listed v low) ∙ is)
        | inr off ↦ absurd (clash (touched_at answer f r v) (d.stay v low later before off) on)
      ])
      (λ none. elim (cases_Bool (marked_at answer f r v)) [
        | inl m ↦
            let x = keyed (λ (n : NodeNo). n.0) (λ n. get_or flags n.0 false ≡ true) v found infound (a.listed v low ∙ and-both (touched_at answer f r v) (marked_at answer f r v) on m) in
            let flag : get_or flags v false ≡ true = subst (λ k. get_or flags k false ≡ true) x.1 x.2 in
            absurd (clash (marked_before answer f r v) none (d.among v low later (sym (d.flagged v) ∙ flag)))
        | inr off ↦ off
      ])

  -- then the marks are those of the view before
  pub shared-marks : (old : List NodeNo) → HasNodes (count_in f) (marked_before answer f r) old → ((v : ℕ) → v < count_in f → touched_at answer f r v ≡ true → marked_before answer f r v ≡ marked_at answer f r v)
      → HasNodes (count_in f) (marked_at answer f r) old
  shared-marks old b same = record {
    within = b.within;
    listed = λ v low. elim (cases_Bool (touched_at answer f r v)) [
      | inl on ↦ b.listed v low ∙ same v low on
      | inr off ↦ b.listed v low ∙ sym (untouched-mark answer f.program.now f.graph.now (new_arcs f) (old_arcs f) v r off)
    ];
  }

  module _ (w : List Bool) (found old rest : List Change) (a : HasSome answer f r (touched_at answer f r) found)
      (b : HasChanges (count_in f) (lone_in answer f.program.now f.graph.now (old_arcs f) r) (lone_in answer f.program.now f.graph.now (old_arcs f) (r + 1)) old)
      (er : rest ≡ filter (λ c. stirs t w c.node.0) old) (ins : All (λ c. get_or t c.node.0 false ≡ true → Contains found c) rest) (infound : All (λ c. is_changed c.node.0 rest ≡ true) found) where
    each : All (λ c. get_or t c.node.0 false ≡ true → Contains found c) old
    each = All-weaker (λ (c : Change). stirs t w c.node.0 ≡ true → get_or t c.node.0 false ≡ true → Contains found c) (λ c. get_or t c.node.0 false ≡ true → Contains found c)
        (λ c h on. h (or-first (get_or t c.node.0 false) (get_or w c.node.0 false) on) on) old
        (unfiltered (λ c. stirs t w c.node.0) (λ c. get_or t c.node.0 false ≡ true → Contains found c) old (subst (λ (cs : List Change). All (λ c. get_or t c.node.0 false ≡ true → Contains found c) cs) er ins))

    was-found : (v : ℕ) → v < count_in f → touched_at answer f r v ≡ true → is_changed v old ≡ true → changes_at answer f r v ≡ true
    was-found v low on e =
        let x = keyed (λ (c : Change). c.node.0) (λ c. get_or t c.node.0 false ≡ true → Contains found c) v old each e in
        let has : Contains found x.0 = x.2 (ap (λ k. get_or t k false) x.1 ∙ suspects v low ∙ on) in
        let is : is_changed v found ≡ true = list_any_at (λ (c : Change). c.node.0 == v) found has.0 x.0 has.1 (ap (λ (c : Change). c.node.0 == v) has.2 ∙ eq-eqb x.0.node.0 v x.1) in
        and-second (touched_at answer f r v) (changes_at answer f r v) (sym (a.listed v low) ∙ is)

    was-old : (v : ℕ) → v < count_in f → touched_at answer f r v ≡ true → is_changed v old ≡ false → changes_at answer f r v ≡ false
    was-old v low on off = elim (cases_Bool (changes_at answer f r v)) [
      | inl m ↦
          let x = keyed (λ (c : Change). c.node.0) (λ c. is_changed c.node.0 rest ≡ true) v found infound (a.listed v low ∙ and-both (touched_at answer f r v) (changes_at answer f r v) on m) in
          let is : is_changed v rest ≡ true = subst (λ k. is_changed k rest ≡ true) x.1 x.2 in
          absurd (clash (is_changed v old) off (and-second (stirs t w v) (is_changed v old) (sym (any-kept (λ (c : Change). c.node.0) (stirs t w) v old) ∙ sym (ap (λ (cs : List Change). is_changed v cs) er) ∙ is)))
      | inr none ↦ none
    ]

    -- the changes are those of the view before, where those of touched nodes were found, and the nodes of all that were found are among them
    pub shared-changes : HasChanges (count_in f) (lone_at answer f r) (lone_at answer f (r + 1)) old
    shared-changes = record {
      within = b.within;
      values = λ i d low. elim (cases_Bool (get_or t (get_or old i d).node.0 false)) [
        | inl on ↦ All-contains (λ (c : Change). c.value ≡ value_at (lone_at answer f (r + 1)) c.node.0) found (get_or old i d) a.values (each i d low on)
        | inr off ↦
            let v = (get_or old i d).node.0 in
            b.values i d low ∙ sym (untouched-two answer f.program.now f.graph.now (new_arcs f) v r (old_arcs f) (b.within i d low) (sym (suspects v (b.within i d low)) ∙ off)).0
      ];
      listed = λ v low. elim (cases_Bool (touched_at answer f r v)) [
        | inl on ↦ same-truth (is_changed v old) (changes_at answer f r v) (was-found v low on) (was-old v low on)
        | inr off ↦
            let two = untouched-two answer f.program.now f.graph.now (new_arcs f) v r (old_arcs f) low off in
            b.listed v low ∙ ap (λ (x : Val). not (same_value x (value_at (lone_in answer f.program.now f.graph.now (old_arcs f) r) v))) (sym two.0) ∙ ap (λ (x : Val). not (same_value (value_at (lone_at answer f (r + 1)) v) x)) (sym two.1)
      ];
    }

-- what may have to be told, in another order
pub stirred-few : (answer : Answer) (f : Frame) (r : ℕ) (lists : Lists) → StandAt answer f r (touched_at answer f r) lists → (t w : List Bool) → t ≡ lists.touched.items → w ≡ lists.watched.items → (found old : List Change)
    → HasSome answer f r (touched_at answer f r) found → old ≡ get_or f.history.now.changes r []
    → HasChanges (count_in f) (lone_in answer f.program.now f.graph.now (old_arcs f) r) (lone_in answer f.program.now f.graph.now (old_arcs f) (r + 1)) old
    → AreStirred answer f r (filter (λ c. stirs t w c.node.0) old ++ found)
stirred-few answer f r lists u t w et ew found old a eo b = record {
  within = All-append (λ (c : Change). c.node.0 < count_in f) rest found (All-filter (λ c. stirs t w c.node.0) (λ (c : Change). c.node.0 < count_in f) old b.within) a.within;
  old = λ v low e. elim (all.old v low e) [
    | inl h ↦ inl (turned v ∙ h)
    | inr quiet ↦ inr quiet
  ];
  new = λ v low e. elim (all.new v low e) [
    | inl h ↦ inl (turned v ∙ h)
    | inr quiet ↦ inr quiet
  ];
} where
  rest : List Change
  rest = filter (λ c. stirs t w c.node.0) old

  all : AreStirred answer f r (found ++ rest)
  all = stirred-all answer f r lists u t w et ew found old a eo b

  turned : (v : ℕ) → is_changed v (rest ++ found) ≡ is_changed v (found ++ rest)
  turned v = list_any-append (λ (c : Change). c.node.0 == v) rest found ∙ or-turned (is_changed v rest) (is_changed v found) ∙ sym (list_any-append (λ (c : Change). c.node.0 == v) found rest)
