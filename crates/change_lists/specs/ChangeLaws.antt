-- Lists of values that change node by node.
use Rattle.std.proofs.Common.{◌≡◌, ◌∙◌, ◌<◌, ◌≤◌, ◌+◌, [], sym, ap, refl, ℕ, Bool, true, false, List, length, get_or, set, take, arith, inl, inr}
use Rattle.std.specs.Prelude.{◌||◌, ◌==◌, not, if◌then◌else◌}
use Rattle.std.proofs.lemmas.Bool.{cases_eq, cases_Bool, eq-eqb, ne_eqb}
use Rattle.std.proofs.lemmas.Grind.{get_or-set_at}
use Rattle.std.proofs.lemmas.List.{get_or-set_other, length-set, ext_get_or, take_all}
use Rattle.std.proofs.lemmas.List.Folds.{list_any_more}
use Rattle.graph_model.specs.declared.value.Val.{Val}
use Rattle.graph_model.specs.declared.value.Val.TheVariants.{Nil}
use Rattle.vertex_lang.specs.Lone.{same_value}
use Rattle.vertex_lang.specs.Rounds.{value_at}
use Rattle.vertex_lang.specs.GatherLaws.{values-exact}
use Rattle.change_lists.specs.declared.history.Change.{Change}
use Rattle.change_lists.specs.ChangeLists.{is_changed, HasChanges, AreChanged}

pub none-changed : (start after : List Val) → AreChanged start after start []
none-changed start after = record { size = refl; at = λ v. refl }

or-true : (b : Bool) → (b || true) ≡ true
or-true true = refl
or-true false = refl

or-false : (b : Bool) → (b || false) ≡ b
or-false true = refl
or-false false = refl

pub one-changed : (start after now : List Val) (changes : List Change) (i : ℕ) (d : Change) (w : Val) → i < length changes → (get_or changes i d).node.0 < length start → w ≡ value_at after (get_or changes i d).node.0
    → AreChanged start after now (take i changes) → AreChanged start after (set now (get_or changes i d).node.0 w) (take (i + 1) changes)
one-changed start after now changes i d w low within e u =
    let c = get_or changes i d in
    record {
      size = length-set now c.node.0 w ∙ u.size;
      at = λ v.
          let more : is_changed v (take (i + 1) changes) ≡ (is_changed v (take i changes) || (c.node.0 == v)) = list_any_more (λ (x : Change). x.node.0 == v) changes i d low in
          elim (cases_eq v c.node.0) [
            | inl same ↦ get_or-set_at now c.node.0 v w Nil same (omega (arith, u.size)) ∙ e ∙ ap (λ k. value_at after k) (sym same)
                ∙ ap (λ (b : Bool). if b then value_at after v else value_at start v) (sym (more ∙ ap (λ (b : Bool). is_changed v (take i changes) || b) (eq-eqb c.node.0 v (sym same)) ∙ or-true (is_changed v (take i changes))))
            | inr other ↦ get_or-set_other now c.node.0 v w Nil other ∙ u.at v
                ∙ ap (λ (b : Bool). if b then value_at after v else value_at start v) (sym (more ∙ ap (λ (b : Bool). is_changed v (take i changes) || b) (ne_eqb c.node.0 v (λ h. other (sym h))) ∙ or-false (is_changed v (take i changes))))
          ];
    }

chosen : (b : Bool) (x y : Val) → b ≡ true → (if b then x else y) ≡ x
chosen true x y e = refl
chosen false x y e = absurd cc

kept : (b t : Bool) (x y : Val) → b ≡ not t → b ≡ false → (t ≡ true → x ≡ y) → (if b then x else y) ≡ x
kept true t x y e f h = absurd cc
kept false true x y e f h = sym (h refl)
kept false false x y e f h = absurd cc

-- after all of them the values are the others
pub all-changed : (start after now : List Val) (changes : List Change) (i n : ℕ) → length after ≡ length start → n ≡ length start → length changes ≤ i → HasChanges n start after changes → AreChanged start after now (take i changes) → now ≡ after
all-changed start after now changes i n size count high h u = ext_get_or Nil now after (u.size ∙ sym size) (λ v low.
    let listed : is_changed v changes ≡ not (same_value (value_at after v) (value_at start v)) = h.listed v (omega (arith, u.size)) in
    u.at v ∙ ap (λ (cs : List Change). if is_changed v cs then value_at after v else value_at start v) (take_all i changes high)
    ∙ (elim (cases_Bool (is_changed v changes)) [
      | inl t ↦ chosen (is_changed v changes) (value_at after v) (value_at start v) t
      | inr f ↦ kept (is_changed v changes) (same_value (value_at after v) (value_at start v)) (value_at after v) (value_at start v) listed f (λ e. values-exact.one (value_at after v) (value_at start v) e)
    ]))
