-- Blanks and comments between tokens.
use Rattle.std.proofs.Common.{◌≡◌, ◌≢◌, ◌⊎◌, inl, inr, ℕ, Bool, true, false, not, List, [], ◌∷◌, ◌++◌, refl, sym, ap, subst, ◌∙◌, append_assoc}
use Rattle.std.specs.Prelude.{◌&&◌, ◌||◌, ◌==◌, if◌then◌else◌}
use Rattle.std.specs.List.{concat, list_all}
use Rattle.std.proofs.lemmas.List.{append-nil, append_cancel_right}
use Rattle.gvdl_tokens.specs.Characters.{is_blank, in_line, IsComment, IsSkipped, AreSkipped, IsGap, IsLastGap, StandsOut}
use Rattle.gvdl_tokens.specs.Reading.{behind_gap, behind_comment}
use Rattle.gvdl_tokens.proofs.Runs.{both, if_true, if_false}
use Rattle.gvdl_tokens.proofs.Enclosing.{decided, is_quote}

pub no_gap : IsGap []
no_gap = record { pieces = []; whole = refl; skipped = tt }

longer_gap : (piece gap : List ℕ) → IsSkipped piece → IsGap gap → IsGap (piece ++ gap)
longer_gap piece gap p g = record { pieces = piece ∷ g.pieces; whole = ap (λ (x : List ℕ). piece ++ x) g.whole; skipped = (p, g.skipped) }

blank_first : (b : ℕ) (gap : List ℕ) → is_blank b ≡ true → IsGap gap → IsGap (b ∷ gap)
blank_first b gap h g = longer_gap (b ∷ []) gap (inl (b, refl, h)) g

line_first : (words gap : List ℕ) → list_all in_line words ≡ true → IsGap gap → IsGap (35 ∷ (words ++ 10 ∷ gap))
line_first words gap h g =
    subst IsGap (ap (λ (x : List ℕ). 35 ∷ x) (append_assoc words (10 ∷ []) gap)) (longer_gap (35 ∷ (words ++ 10 ∷ [])) gap (inr (35 ∷ words, refl, (words, refl, h))) g)

-- ---- where a gap ends

-- the bytes are a gap, and what is left behind it
record Ended (bytes behind : List ℕ) : Type 0 where
  gap : List ℕ
  split : bytes ≡ gap ++ behind
  is : IsGap gap

-- the bytes are a gap, and a comment that the text ends in
record Open (bytes : List ℕ) : Type 0 where
  gap : List ℕ
  comment : List ℕ
  split : bytes ≡ gap ++ comment
  is : IsGap gap
  open_ : IsComment comment

-- the bytes are the rest of a line, its LF, and more
record Line (bytes : List ℕ) (More : List ℕ → Type 0) : Type 0 where
  words : List ℕ
  more : List ℕ
  split : bytes ≡ words ++ 10 ∷ more
  inside : list_all in_line words ≡ true
  is : More more

-- outside a comment, and in one
abbrev Outside : List ℕ → Type 0
Outside bytes = Ended bytes (behind_gap bytes) ⊎ (behind_gap bytes ≡ []) × Open bytes

abbrev Inside : List ℕ → Type 0
Inside bytes = Line bytes (λ more. Ended more (behind_comment bytes)) ⊎ (behind_comment bytes ≡ []) × ((list_all in_line bytes ≡ true) ⊎ Line bytes Open)

hash_no_blank : (b : ℕ) → (b == 35) ≡ true → b ≡ 35
hash_no_blank b h = is_quote b 35 h

and_both : (x y : Bool) → x ≡ true → y ≡ true → (x && y) ≡ true
and_both true y e f = f
and_both false y e f = absurd cc

not_false : (x : Bool) → x ≡ false → not x ≡ true
not_false true e = absurd cc
not_false false e = refl

module _ (b : ℕ) (bs : List ℕ) where
  blank_out : is_blank b ≡ true → Outside bs → Outside (b ∷ bs)
  blank_out k h =
      let e : behind_gap (b ∷ bs) ≡ behind_gap bs = if_true (is_blank b) (behind_gap bs) (if b == 35 then behind_comment bs else b ∷ bs) k in
      elim h [
        | inl x ↦ inl (record { gap = b ∷ x.gap; split = ap (λ (y : List ℕ). b ∷ y) x.split ∙ ap (λ (y : List ℕ). b ∷ x.gap ++ y) (sym e); is = blank_first b x.gap k x.is })
        | inr x ↦ inr (e ∙ x.0, record { gap = b ∷ x.1.gap; comment = x.1.comment; split = ap (λ (y : List ℕ). b ∷ y) x.1.split; is = blank_first b x.1.gap k x.1.is; open_ = x.1.open_ })
      ]

  hash_out : is_blank b ≡ false → (b == 35) ≡ true → Inside bs → Outside (b ∷ bs)
  hash_out k m h =
      let e : behind_gap (b ∷ bs) ≡ behind_comment bs = if_false (is_blank b) (behind_gap bs) (if b == 35 then behind_comment bs else b ∷ bs) k ∙ if_true (b == 35) (behind_comment bs) (b ∷ bs) m in
      let first : b ≡ 35 = hash_no_blank b m in
      elim h [
        | inl x ↦ inl (record {
          gap = 35 ∷ (x.words ++ 10 ∷ x.is.gap);
          split = ap (λ (y : ℕ). y ∷ bs) first
              ∙ ap (λ (y : List ℕ). 35 ∷ y) (x.split ∙ ap (λ (y : List ℕ). x.words ++ 10 ∷ y) (x.is.split ∙ ap (λ (y : List ℕ). x.is.gap ++ y) (sym e)) ∙ sym (append_assoc x.words (10 ∷ x.is.gap) (behind_gap (b ∷ bs))));
          is = line_first x.words x.is.gap x.inside x.is.is;
        })
        | inr x ↦ inr (
          e ∙ x.0,
          elim x.1 [
            | inl y ↦ record { gap = []; comment = b ∷ bs; split = refl; is = no_gap; open_ = (bs, ap (λ (z : ℕ). z ∷ bs) first, y) }
            | inr y ↦ record {
              gap = 35 ∷ (y.words ++ 10 ∷ y.is.gap);
              comment = y.is.comment;
              split = ap (λ (z : ℕ). z ∷ bs) first ∙ ap (λ (z : List ℕ). 35 ∷ z) (y.split ∙ ap (λ (z : List ℕ). y.words ++ 10 ∷ z) y.is.split ∙ sym (append_assoc y.words (10 ∷ y.is.gap) y.is.comment));
              is = line_first y.words y.is.gap y.inside y.is.is;
              open_ = y.is.open_;
            }
          ],
        )
      ]

  other_out : is_blank b ≡ false → (b == 35) ≡ false → Outside (b ∷ bs)
  other_out k m =
      let e : behind_gap (b ∷ bs) ≡ b ∷ bs = if_false (is_blank b) (behind_gap bs) (if b == 35 then behind_comment bs else b ∷ bs) k ∙ if_false (b == 35) (behind_comment bs) (b ∷ bs) m in
      inl (record { gap = []; split = sym e; is = no_gap })

  end_in : (b == 10) ≡ true → Outside bs → Inside (b ∷ bs)
  end_in k h =
      let e : behind_comment (b ∷ bs) ≡ behind_gap bs = if_true (b == 10) (behind_gap bs) (behind_comment bs) k in
      let first : b ∷ bs ≡ 10 ∷ bs = ap (λ (y : ℕ). y ∷ bs) (is_quote b 10 k) in
      elim h [
        | inl x ↦ inl (record { words = []; more = bs; split = first; inside = refl; is = record { gap = x.gap; split = x.split ∙ ap (λ (y : List ℕ). x.gap ++ y) (sym e); is = x.is } })
        | inr x ↦ inr (e ∙ x.0, inr (record { words = []; more = bs; split = first; inside = refl; is = x.1 }))
      ]

  other_in : (b == 10) ≡ false → Inside bs → Inside (b ∷ bs)
  other_in k h =
      let e : behind_comment (b ∷ bs) ≡ behind_comment bs = if_false (b == 10) (behind_gap bs) (behind_comment bs) k in
      let n : in_line b ≡ true = not_false (b == 10) k in
      elim h [
        | inl x ↦ inl (record {
          words = b ∷ x.words;
          more = x.more;
          split = ap (λ (y : List ℕ). b ∷ y) x.split;
          inside = and_both (in_line b) (list_all in_line x.words) n x.inside;
          is = record { gap = x.is.gap; split = x.is.split ∙ ap (λ (y : List ℕ). x.is.gap ++ y) (sym e); is = x.is.is };
        })
        | inr x ↦ inr (
          e ∙ x.0,
          elim x.1 [
            | inl y ↦ inl (and_both (in_line b) (list_all in_line bs) n y)
            | inr y ↦ inr (record { words = b ∷ y.words; more = y.more; split = ap (λ (z : List ℕ). b ∷ z) y.split; inside = and_both (in_line b) (list_all in_line y.words) n y.inside; is = y.is })
          ],
        )
      ]

  one_longer : Outside bs → Inside bs → Outside (b ∷ bs) × Inside (b ∷ bs)
  one_longer out inside = (
    elim (decided (is_blank b)) [
      | inl k ↦ blank_out k out
      | inr k ↦ elim (decided (b == 35)) [ inl m ↦ hash_out k m inside | inr m ↦ other_out k m ]
    ],
    elim (decided (b == 10)) [ inl k ↦ end_in k out | inr k ↦ other_in k inside ],
  )

ends : (bytes : List ℕ) → Outside bytes × Inside bytes
ends [] = (inl (record { gap = []; split = refl; is = no_gap }), inr (refl, inl refl))
ends (b ∷ bs) = let h = ends bs in one_longer b bs h.0 h.1

-- what stands before something else is a gap
pub gap_before : (bytes gap : List ℕ) → bytes ≡ gap ++ behind_gap bytes → behind_gap bytes ≢ [] → IsGap gap
gap_before bytes gap e some = let h = ends bytes in elim h.0 [
  | inl x ↦ subst IsGap (append_cancel_right x.gap gap (behind_gap bytes) (sym x.split ∙ e)) x.is
  | inr x ↦ absurd (some x.0)
]

-- where nothing else stands, the bytes are the last gap of a text
pub last_gap : (bytes : List ℕ) → behind_gap bytes ≡ [] → IsLastGap bytes
last_gap bytes e = let h = ends bytes in elim h.0 [
  | inl x ↦ inl (subst IsGap (sym (x.split ∙ ap (λ (y : List ℕ). x.gap ++ y) e ∙ append-nil x.gap)) x.is)
  | inr x ↦ inr (x.1.gap, x.1.comment, x.1.split, x.1.is, x.1.open_)
]

-- ---- what is behind a gap

behind_words : (words rest : List ℕ) → list_all in_line words ≡ true → behind_comment (words ++ 10 ∷ rest) ≡ behind_gap rest
behind_words [] rest h = refl
behind_words (b ∷ words) rest h =
    let k = both (in_line b) (list_all in_line words) h in
    if_false (b == 10) (behind_gap (words ++ 10 ∷ rest)) (behind_comment (words ++ 10 ∷ rest)) (no_end (b == 10) k.0) ∙ behind_words words rest k.1 where
      no_end : (x : Bool) → not x ≡ true → x ≡ false
      no_end true e = absurd cc
      no_end false e = refl

unended : (words : List ℕ) → list_all in_line words ≡ true → behind_comment words ≡ []
unended [] h = refl
unended (b ∷ words) h =
    let k = both (in_line b) (list_all in_line words) h in
    if_false (b == 10) (behind_gap words) (behind_comment words) (no_end (b == 10) k.0) ∙ unended words k.1 where
      no_end : (x : Bool) → not x ≡ true → x ≡ false
      no_end true e = absurd cc
      no_end false e = refl

behind_piece : (piece rest : List ℕ) → IsSkipped piece → behind_gap (piece ++ rest) ≡ behind_gap rest
behind_piece piece rest (inl x) =
    ap (λ (y : List ℕ). behind_gap (y ++ rest)) x.1 ∙ if_true (is_blank x.0) (behind_gap rest) (if x.0 == 35 then behind_comment rest else x.0 ∷ rest) x.2
behind_piece piece rest (inr x) =
    let c = x.2 in
    ap (λ (y : List ℕ). behind_gap (y ++ rest)) (x.1 ∙ ap (λ (y : List ℕ). y ++ 10 ∷ []) c.1)
    ∙ ap behind_comment (append_assoc c.0 (10 ∷ []) rest) ∙ behind_words c.0 rest c.2

behind_pieces : (pieces : List (List ℕ)) (rest : List ℕ) → AreSkipped pieces → behind_gap (concat pieces ++ rest) ≡ behind_gap rest
behind_pieces [] rest h = refl
behind_pieces (piece ∷ pieces) rest h =
    ap behind_gap (append_assoc piece (concat pieces) rest) ∙ behind_piece piece (concat pieces ++ rest) h.0 ∙ behind_pieces pieces rest h.1

behind_any : (gap rest : List ℕ) → IsGap gap → behind_gap (gap ++ rest) ≡ behind_gap rest
behind_any gap rest g = ap (λ (x : List ℕ). behind_gap (x ++ rest)) g.whole ∙ behind_pieces g.pieces rest g.skipped

neither : (x y : Bool) → (x || y) ≡ false → (x ≡ false) × (y ≡ false)
neither true y e = absurd cc
neither false y e = (refl, e)

out_alone : (behind : List ℕ) → StandsOut behind → behind_gap behind ≡ behind
out_alone [] h = absurd h
out_alone (b ∷ bs) h =
    let k = neither (is_blank b) (b == 35) h in
    if_false (is_blank b) (behind_gap bs) (if b == 35 then behind_comment bs else b ∷ bs) k.0 ∙ if_false (b == 35) (behind_comment bs) (b ∷ bs) k.1

-- what stands out is what is left behind a gap
pub behind_is : (bytes gap behind : List ℕ) → bytes ≡ gap ++ behind → IsGap gap → StandsOut behind → behind_gap bytes ≡ behind
behind_is bytes gap behind e g h = ap behind_gap e ∙ behind_any gap behind g ∙ out_alone behind h

pub gap_is : (bytes gap gap' behind : List ℕ) → bytes ≡ gap ++ behind → bytes ≡ gap' ++ behind → gap' ≡ gap
gap_is bytes gap gap' behind e f = append_cancel_right gap' gap behind (sym f ∙ e)

-- nothing is left behind the last gap
pub nothing_behind : (bytes : List ℕ) → IsLastGap bytes → behind_gap bytes ≡ []
nothing_behind bytes (inl g) = ap behind_gap (sym (append-nil bytes)) ∙ behind_any bytes [] g
nothing_behind bytes (inr x) =
    let c = x.4 in
    ap behind_gap x.2 ∙ behind_any x.0 x.1 x.3 ∙ ap behind_gap c.1 ∙ unended c.0 c.2

either : (x y : Bool) → x ≡ false → y ≡ false → (x || y) ≡ false
either true y e f = absurd cc
either false y e f = f

abbrev Clear : List ℕ → Type 0
Clear xs = (xs ≡ []) ⊎ StandsOut xs

clears : (bytes : List ℕ) → Clear (behind_gap bytes) × Clear (behind_comment bytes)
clears [] = (inl refl, inl refl)
clears (b ∷ bs) = let h = clears bs in (
  elim (decided (is_blank b)) [
    | inl k ↦ subst Clear (sym (if_true (is_blank b) (behind_gap bs) (if b == 35 then behind_comment bs else b ∷ bs) k)) h.0
    | inr k ↦ subst Clear (sym (if_false (is_blank b) (behind_gap bs) (if b == 35 then behind_comment bs else b ∷ bs) k)) (elim (decided (b == 35)) [
      | inl m ↦ subst Clear (sym (if_true (b == 35) (behind_comment bs) (b ∷ bs) m)) h.1
      | inr m ↦ subst Clear (sym (if_false (b == 35) (behind_comment bs) (b ∷ bs) m)) (inr (either (is_blank b) (b == 35) k m))
    ])
  ],
  elim (decided (b == 10)) [
    | inl k ↦ subst Clear (sym (if_true (b == 10) (behind_gap bs) (behind_comment bs) k)) h.0
    | inr k ↦ subst Clear (sym (if_false (b == 10) (behind_gap bs) (behind_comment bs) k)) h.1
  ],
)

-- what is left behind a gap stands out
pub behind_stands : (bytes : List ℕ) → behind_gap bytes ≢ [] → StandsOut (behind_gap bytes)
behind_stands bytes some = let h = clears bytes in elim h.0 [ inl e ↦ absurd (some e) | inr k ↦ k ]
