-- The numbers of some edges in a column, and words of the edges that meet bounds.
use Rattle.std.proofs.Common.{◌≡◌, ◌≢◌, ◌∙◌, ◌+◌, ◌^◌, ◌≤◌, ◌<◌, ◌==◌, ◌⊎◌, inl, inr, ℕ, ℤ, pos, Bool, true, false, not, ◌&&◌, if◌then◌else◌, List, length, get_or, set, sym, ap, ap₂, arith, bit_and, get_or-set_same, get_or-set_other}
use Rattle.std.specs.Prelude.{nat_lt}
use Rattle.std.proofs.Math.Bool.{and_comm}
use Rattle.std.proofs.lemmas.Bool.{lt-ltb, le-ltb, cases_lt}
use Rattle.std.proofs.lemmas.Bool.Decides.{eqb_tells}
use Rattle.graph_model.specs.GraphData.{GraphData, Cell, edge_cell_of}
use Rattle.edge_predicates.specs.Truth.{edge_place}
use Rattle.view_matrix.specs.declared.bounds.Bounds.{Bounds}
use Rattle.view_matrix.specs.Bounds.{admits, lies_within, meets, meets_at}
use Rattle.view_matrix.specs.Columns.{is_set}
use Rattle.view_matrix.specs.Numbers.{ShowCells}
use Rattle.view_matrix.proofs.Words.{none_above, set_and}

-- the cell of an edge in a column that there is
pub place_within : (g : GraphData) (e column : ℕ) → column < length g.edge_columns → edge_place g e column ≡ edge_cell_of g e column
place_within g e column lt = ap (λ (b : Bool). if b then edge_cell_of g e column else Cell.absent) (lt-ltb column (length g.edge_columns) lt)

-- ---- a number more

same_lt : (i place : ℕ) → i ≢ place → (i < place) ⊎ (place ≤ i) → nat_lt i place ≡ nat_lt i (place + 1)
same_lt i place other (inl lt) = lt-ltb i place lt ∙ sym (lt-ltb i (place + 1) (omega (arith, lt)))
same_lt i place other (inr le) = le-ltb i place le ∙ sym (le-ltb i (place + 1) (omega (arith, le, other)))

module _ (g : GraphData) (first place column : ℕ) (numbers : List ℤ) (present new : ℕ) (number : ℤ) (is : Bool) (within : place < 64) (long : length numbers ≡ 64)
    (so_far : ShowCells g first place column numbers present)
    (bits : (i : ℕ) → i < 64 → is_set new i ≡ (if i == place then is else is_set present i))
    (one : (b : Bounds) → (is && admits b number) ≡ meets b (edge_place g (first + place) column)) where
  shown_by : (b : Bounds) (i : ℕ) → i < 64 → ((i == place) ≡ true) × (i ≡ place) ⊎ ((i == place) ≡ false) × (i ≢ place)
      → (is_set new i && admits b (get_or (set numbers place number) i (pos 0))) ≡ (nat_lt i (place + 1) && meets b (edge_place g (first + i) column))
  shown_by b i lt (inl h) =
      ap₂ (λ (x : Bool) (z : ℤ). x && admits b z) (bits i lt ∙ ap (λ (c : Bool). if c then is else is_set present i) h.0)
      (ap (λ (j : ℕ). get_or (set numbers place number) j (pos 0)) h.1 ∙ get_or-set_same numbers place number (pos 0) (omega (arith, within, long)))
      ∙ one b ∙ ap (λ (j : ℕ). meets b (edge_place g (first + j) column)) (sym h.1)
      ∙ sym (ap (λ (c : Bool). c && meets b (edge_place g (first + i) column)) (lt-ltb i (place + 1) (omega (arith, h.1))))
  shown_by b i lt (inr h) =
      ap₂ (λ (x : Bool) (z : ℤ). x && admits b z) (bits i lt ∙ ap (λ (c : Bool). if c then is else is_set present i) h.0) (get_or-set_other numbers place i number (pos 0) h.1)
      ∙ so_far b i lt ∙ ap (λ (c : Bool). c && meets b (edge_place g (first + i) column)) (same_lt i place h.1 (cases_lt i place))

  pub shown_more : ShowCells g first (place + 1) column (set numbers place number) new
  shown_more b i lt = shown_by b i lt (eqb_tells i place)

-- ---- a word of those that meet bounds

module _ (g : GraphData) (first count column : ℕ) (numbers : List ℤ) (present enclosed admitted place : ℕ) (b : Bounds) (few : count ≤ 64) (all : place ≡ 64) (same : b.column ≡ column)
    (shown : ShowCells g first count column numbers present)
    (bits : (i : ℕ) → is_set enclosed i ≡ (nat_lt i place && lies_within b.low b.high (get_or numbers i (pos 0))))
    (by_inside : (i : ℕ) → i < 64 → is_set admitted i ≡ (if b.inside then is_set enclosed i else not (is_set enclosed i)))
    (small : admitted < 2 ^ 64) where
  word_by : (i : ℕ) → (i < 64) ⊎ (64 ≤ i) → is_set (bit_and admitted present) i ≡ (nat_lt i count && meets_at g (first + i) b)
  word_by i (inl lt) =
      let lies : is_set enclosed i ≡ lies_within b.low b.high (get_or numbers i (pos 0)) =
      bits i ∙ ap (λ (c : Bool). c && lies_within b.low b.high (get_or numbers i (pos 0))) (lt-ltb i place (omega (arith, lt, all))) in
      set_and admitted present i
      ∙ ap (λ (c : Bool). c && is_set present i) (by_inside i lt ∙ ap (λ (c : Bool). if b.inside then c else not c) lies)
      ∙ and_comm (admits b (get_or numbers i (pos 0))) (is_set present i) ∙ shown b i lt
      ∙ ap (λ (k : ℕ). nat_lt i count && meets b (edge_place g (first + i) k)) (sym same)
  word_by i (inr le) =
      set_and admitted present i ∙ ap (λ (c : Bool). c && is_set present i) (none_above admitted i small le)
      ∙ sym (ap (λ (c : Bool). c && meets_at g (first + i) b) (le-ltb i count (omega (arith, le, few))))

  pub met_word : (i : ℕ) → is_set (bit_and admitted present) i ≡ (nat_lt i count && meets_at g (first + i) b)
  met_word i = word_by i (cases_lt i 64)

-- ---- the masks of places

module _ (masks : List ℕ) (place mask : ℕ) (within : place < length masks)
    (so_far : (k i : ℕ) → k < place → is_set (get_or masks k 0) i ≡ (i == k))
    (one : (i : ℕ) → is_set mask i ≡ (i == place)) where
  masks_by : (k i : ℕ) → k < place + 1 → (k < place) ⊎ (place ≤ k) → is_set (get_or (set masks place mask) k 0) i ≡ (i == k)
  masks_by k i lt (inl low) =
      let other : k ≢ place = λ e. absurd (omega (arith, e, low)) in
      ap (λ (w : ℕ). is_set w i) (get_or-set_other masks place k mask 0 other) ∙ so_far k i low
  masks_by k i lt (inr high) =
      let here : k ≡ place = omega (arith, lt, high) in
      ap (λ (j : ℕ). is_set (get_or (set masks place mask) j 0) i) here ∙ ap (λ (w : ℕ). is_set w i) (get_or-set_same masks place mask 0 within)
      ∙ one i ∙ ap (λ (j : ℕ). i == j) (sym here)

  pub masks_more : (k i : ℕ) → k < place + 1 → is_set (get_or (set masks place mask) k 0) i ≡ (i == k)
  masks_more k i lt = masks_by k i lt (cases_lt k place)
