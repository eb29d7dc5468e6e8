-- Blocks in memory: one more row that waits, one more block, one block after the other.
use Rattle.std.proofs.Common.{◌≡◌, ◌∙◌, ℕ, ◌+◌, ◌-◌, ◌<◌, ◌≤◌, List, [], ◌∷◌, ◌++◌, length, take, drop, refl, sym, ap, ap₂, subst, arith, length-append, length-drop, get_or, Bool, true, if◌then◌else◌}
use Rattle.std.proofs.lemmas.List.{drop-append-le, drop-drop, drop_all, drop_more, length_push, take-append-le, take_all}
use Rattle.vertex_lang.specs.declared.lone.Outcome.TheVariants as outcome
use Rattle.change_text.specs.declared.flat.End.{End}
use Rattle.change_text.specs.declared.kind.Kind.TheVariants as kind
use Rattle.change_text.specs.declared.row.Row.{Row}
use Rattle.change_text.specs.Blocks.{Block}
use Rattle.change_text.specs.Memory.{AreEnds, blocks_of, rows_left}
use Rattle.change_text.proofs.Split.{same_cons}

abbrev pub block_of : End → List ℕ → List Row → Block
block_of e heads rows = record { kind = e.kind; head = take e.head heads; outcome = e.outcome; rows = take e.rows rows }

-- rows behind those of the blocks are no part of these
pub blocks_stay : (es : List End) (heads : List ℕ) (rows more : List Row) → AreEnds es heads rows → blocks_of es heads (rows ++ more) ≡ blocks_of es heads rows
blocks_stay [] heads rows more are = refl
blocks_stay (e ∷ es) heads rows more are =
    same_cons (ap (λ (rs : List Row). record { kind = e.kind; head = take e.head heads; outcome = e.outcome; rows = rs }) (take-append-le e.rows rows more are.1))
    (ap (λ (rs : List Row). blocks_of es (drop e.head heads) rs) (drop-append-le e.rows rows more are.1) ∙ blocks_stay es (drop e.head heads) (drop e.rows rows) more are.2)

pub left_more : (es : List End) (heads : List ℕ) (rows more : List Row) → AreEnds es heads rows → rows_left es (rows ++ more) ≡ rows_left es rows ++ more
left_more [] heads rows more are = refl
left_more (e ∷ es) heads rows more are = ap (rows_left es) (drop-append-le e.rows rows more are.1) ∙ left_more es (drop e.head heads) (drop e.rows rows) more are.2

pub are_more : (es : List End) (heads : List ℕ) (rows more : List Row) → AreEnds es heads rows → AreEnds es heads (rows ++ more)
are_more [] heads rows more are = are
are_more (e ∷ es) heads rows more are = (
  are.0,
  omega (arith, are.1, length-append rows more),
  subst (λ (rs : List Row). AreEnds es (drop e.head heads) rs) (sym (drop-append-le e.rows rows more are.1)) (are_more es (drop e.head heads) (drop e.rows rows) more are.2),
)

pub left_push : (es : List End) (heads : List ℕ) (rows : List Row) (row : Row) (n : ℕ) → AreEnds es heads rows → length (rows_left es rows) ≡ n → length (rows_left es (rows ++ row ∷ [])) ≡ n + 1
left_push es heads rows row n are is = ap (λ (rs : List Row). length rs) (left_more es heads rows (row ∷ []) are) ∙ length_push (rows_left es rows) row ∙ ap (λ (m : ℕ). m + 1) is

-- the rows that wait stand at the end
pub left_is : (es : List End) (heads : List ℕ) (rows : List Row) → AreEnds es heads rows → (length (rows_left es rows) ≤ length rows) × (drop (length rows - length (rows_left es rows)) rows ≡ rows_left es rows)
left_is [] heads rows are = let none : length rows - length rows ≡ 0 = omega arith in (omega arith, ap (λ (n : ℕ). drop n rows) none)
left_is (e ∷ es) heads rows are =
    let k = left_is es (drop e.head heads) (drop e.rows rows) are.2 in
    let size = length-drop e.rows rows in
    let left : ℕ = length (rows_left es (drop e.rows rows)) in
    let same : length rows - left ≡ e.rows + (length (drop e.rows rows) - left) = omega (arith, k.0, size, are.1) in (
      omega (arith, k.0, size),
      ap (λ (n : ℕ). drop n rows) same ∙ sym (drop-drop (length (drop e.rows rows) - length (rows_left es (drop e.rows rows))) e.rows rows) ∙ k.1,
    )

pub pushed : (ok : Bool) (now longer was : List End) → now ≡ (if ok then longer else was) → ok ≡ true → now ≡ longer
pushed ok now longer was e done = e ∙ ap (λ (b : Bool). if b then longer else was) done

-- ---- one more block

module _ (e : End) (head : List ℕ) (fits : e.head ≡ length head) where
  pub blocks_push : (es : List End) (heads : List ℕ) (rows : List Row) → AreEnds es heads rows → e.rows ≡ length (rows_left es rows)
      → blocks_of (es ++ e ∷ []) (heads ++ head) rows ≡ blocks_of es heads rows ++ record { kind = e.kind; head = head; outcome = e.outcome; rows = rows_left es rows } ∷ []
  blocks_push [] heads rows are is =
      ap₂ (λ (h : List ℕ) (rs : List Row). record { kind = e.kind; head = h; outcome = e.outcome; rows = rs } ∷ [])
      (ap (λ (hs : List ℕ). take e.head (hs ++ head)) are ∙ take_all e.head head (omega (arith, fits)))
      (take_all e.rows rows (omega (arith, is)))
  blocks_push (d ∷ es) heads rows are is =
      same_cons (ap (λ (h : List ℕ). record { kind = d.kind; head = h; outcome = d.outcome; rows = take d.rows rows }) (take-append-le d.head heads head are.0))
      (ap (λ (hs : List ℕ). blocks_of (es ++ e ∷ []) hs (drop d.rows rows)) (drop-append-le d.head heads head are.0) ∙ blocks_push es (drop d.head heads) (drop d.rows rows) are.2 is)

  pub are_push : (es : List End) (heads : List ℕ) (rows : List Row) → AreEnds es heads rows → e.rows ≡ length (rows_left es rows) → AreEnds (es ++ e ∷ []) (heads ++ head) rows
  are_push [] heads rows are is = (
    omega (arith, fits, length-append heads head),
    omega (arith, is),
    drop_all e.head (heads ++ head) (omega (arith, fits, length-append heads head, ap (λ (hs : List ℕ). length hs) are)),
  )
  are_push (d ∷ es) heads rows are is = (
    omega (arith, are.0, length-append heads head),
    are.1,
    subst (λ (hs : List ℕ). AreEnds (es ++ e ∷ []) hs (drop d.rows rows)) (sym (drop-append-le d.head heads head are.0)) (are_push es (drop d.head heads) (drop d.rows rows) are.2 is),
  )

  pub none_left : (es : List End) (heads : List ℕ) (rows : List Row) → e.rows ≡ length (rows_left es rows) → rows_left (es ++ e ∷ []) rows ≡ []
  none_left [] heads rows is = drop_all e.rows rows (omega (arith, is))
  none_left (d ∷ es) heads rows is = none_left es heads (drop d.rows rows) is

-- ---- one block after the other

pub next_blocks : (es : List End) (i : ℕ) (d : End) (heads : List ℕ) (rows : List Row) → i < length es
    → blocks_of (drop i es) heads rows ≡ block_of (get_or es i d) heads rows ∷ blocks_of (drop (i + 1) es) (drop (get_or es i d).head heads) (drop (get_or es i d).rows rows)
next_blocks es i d heads rows lt = ap (λ (ds : List End). blocks_of ds heads rows) (drop_more es i d lt)

pub next_ends : (es : List End) (i : ℕ) (d : End) (heads : List ℕ) (rows : List Row) → i < length es → AreEnds (drop i es) heads rows
    → ((get_or es i d).head ≤ length heads) × ((get_or es i d).rows ≤ length rows) × AreEnds (drop (i + 1) es) (drop (get_or es i d).head heads) (drop (get_or es i d).rows rows)
next_ends es i d heads rows lt are = subst (λ (ds : List End). AreEnds ds heads rows) (drop_more es i d lt) are

-- an end that none is
abbrev pub other_end : End
other_end = record { kind = kind.Full; outcome = outcome.Settled 0; head = 0; rows = 0 }
