-- Flags that are made those of a view.
use Rattle.std.proofs.Common.{◌≡◌, ◌∙◌, ◌<◌, ◌==◌, ℕ, Bool, true, false, List, [], ◌∷◌, Some, length, get_or, fold, map, refl, sym, ap, ap₂, subst, arith, inl, inr}
use Rattle.std.specs.Prelude.{All, Contains, if◌then◌else◌, slice_set}
use Rattle.std.proofs.lemmas.List.Elements.{All-map}
use Rattle.std.proofs.lemmas.Bool.{cases_Bool, eq-eqb, true≢false}
use Rattle.std.proofs.lemmas.List.Folds.{list_any_at}
use Rattle.std.proofs.lemmas.List.FromFn.{fill_by_all}
use Rattle.graph_model.specs.declared.number.EdgeNo.{EdgeNo}
use Rattle.arc_rows.specs.RowLists.{edge}
use Rattle.arc_rows.specs.ViewLaws.{same-or-turned}
use Rattle.arc_rows.specs.Views.{TellsAll}
use Rattle.view_matrix.specs.Matrices.{MatrixData, apart, bit_of, differences_of, is_in}
use Rattle.view_versions.specs.EditLaws.{told-at, told-size}
use Rattle.view_versions.specs.declared.flags.Kept.{Kept}
use Rattle.view_versions.specs.Flags.{AreKept, flags_of, with_bit, with_flag}
use Rattle.view_versions.proofs.Choosing.{apart-tells, apart-within, flag-at, flags-count}

contained : (es : List EdgeNo) (x : EdgeNo) → Contains es x → is_in es x ≡ true
contained es x (k, low, is) = list_any_at (λ (y : EdgeNo). y.0 == x.0) es k x low (eq-eqb (get_or es k x).0 x.0 (ap (λ (y : EdgeNo). y.0) is))

where-true : (b : Bool) (x y : Bool) → b ≡ true → (if b then x else y) ≡ x
where-true true x y e = refl
where-true false x y e = absurd cc

where-false : (b : Bool) (x y : Bool) → b ≡ false → (if b then x else y) ≡ y
where-false true x y e = absurd cc
where-false false x y e = refl

module _ (m : MatrixData) (v : ℕ) (es : List EdgeNo) (flags : List Bool) (tells : TellsAll flags (flags_of m v) es) where
  told-bit : (e : ℕ) → e < length flags → (if is_in es (edge e) then bit_of m e v else get_or flags e false) ≡ bit_of m e v
  told-bit e low = elim (cases_Bool (is_in es (edge e))) [
    | inl there ↦ where-true (is_in es (edge e)) (bit_of m e v) (get_or flags e false) there
    | inr gone ↦
        where-false (is_in es (edge e)) (bit_of m e v) (get_or flags e false) gone
        ∙ same-or-turned (get_or flags e false) (bit_of m e v) (λ ne. absurd (true≢false (sym (contained es (edge e) (tells e low (λ same. ne (same ∙ flag-at m v e)))) ∙ gone)))
  ]

  -- where all edges at which flags differ from those of the view are set, they are those of the view
  pub moved-flags : length flags ≡ length m.live → fold (with_bit m v) flags es ≡ flags_of m v
  moved-flags size =
      fill_by_all (λ e. bit_of m e v) (fold (with_bit m v) flags es) (length m.live) false
      (told-size (λ e. bit_of m e v) es flags ∙ size)
      (λ e low. told-at (λ k. bit_of m k v) es flags e (omega (arith, low, size)) ∙ told-bit e (omega (arith, low, size)))

-- edges told as they are in a view
told-bits : (m : MatrixData) (v : ℕ) (es : List EdgeNo) (flags : List Bool) → fold with_flag flags (map (λ e. (e, bit_of m e.0 v)) es) ≡ fold (with_bit m v) flags es
told-bits m v [] flags = refl
told-bits m v (e ∷ es) flags = told-bits m v es (slice_set flags e.0 (bit_of m e.0 v))

-- from one view to another
pub moved-between : (m : MatrixData) (u v : ℕ) (flags : List Bool) (ds : List (EdgeNo × Bool)) → flags ≡ flags_of m u → ds ≡ differences_of m (Some u) v → fold with_flag flags ds ≡ flags_of m v
moved-between m u v flags ds f e =
    ap₂ (λ (bs : List Bool) (cs : List (EdgeNo × Bool)). fold with_flag bs cs) f e
    ∙ told-bits m v (apart m (Some u) v) (flags_of m u)
    ∙ moved-flags m v (apart m (Some u) v) (flags_of m u) (apart-tells m u v) (flags-count m u)

-- and their edges are of the matrix
pub told-within : (m : MatrixData) (u v n : ℕ) (ds : List (EdgeNo × Bool)) → n ≡ length m.live → ds ≡ differences_of m (Some u) v → All (λ c. c.0.0 < n) ds
told-within m u v n ds same e =
    subst (λ k. All (λ c. c.0.0 < k) ds) (sym same)
    (subst (λ (cs : List (EdgeNo × Bool)). All (λ c. c.0.0 < length m.live) cs) (sym e)
    (All-map (λ (c : EdgeNo × Bool). c.0.0 < length m.live) (λ (x : EdgeNo). (x, bit_of m x.0 v)) (apart m (Some u) v) (apart-within m u v)))

-- flags that are kept, made those of their view
pub moved-back : (m : MatrixData) (kept : Kept) (es : List EdgeNo) → AreKept m kept → es ≡ kept.two.turned → fold (with_bit m kept.view.0) kept.two.old.items es ≡ flags_of m kept.view.0
moved-back m kept es is e =
    ap (λ (xs : List EdgeNo). fold (with_bit m kept.view.0) kept.two.old.items xs) e
    ∙ moved-flags m kept.view.0 kept.two.turned kept.two.old.items (subst (λ (bs : List Bool). TellsAll kept.two.old.items bs kept.two.turned) is.new is.two.tells) is.two.old
