-- What an operator was fed, where changes are applied.
use Rattle.std.specs.Prelude.{◌≡◌, ℕ, Bool, false, List, [], ◌++◌, replicate, Option}
use Rattle.std.proofs.Common.{ap, sym, subst, ◌∙◌}
use Rattle.weighted.specs.Alike.{Alike, Alike-refl, Alike-sym, Alike-trans, Alike-append}
use Rattle.graph_model.specs.GraphData.{GraphData}
use Rattle.graph_model.specs.declared.number.EdgeNo.{EdgeNo}
use Rattle.lattice_time.specs.declared.position.Position.{Position}
use Rattle.flow_core.specs.Runs.{Every, Run}
use Rattle.aggregate_views.specs.Rows.{present_edges}
use Rattle.aggregate_views.specs.Changes.{changed, AreChanges}
use Rattle.aggregate_views.specs.declared.part.Part.{Part}
use Rattle.aggregate_views.specs.Coding.{change_entries, entries_of}
use Rattle.aggregate_views.specs.Keeping.{IsFed}
use Rattle.aggregate_views.proofs.Stepped.{fed_alike}
use Rattle.aggregate_views.proofs.Turned.{all_changes, none_yet}

pub no_edge : (present : List Bool) (n : ℕ) → present ≡ replicate n false → present_edges present ≡ []
no_edge present n h = ap present_edges h ∙ none_yet 0 n

pub none_known : (P : ℕ → Type 0) (present : List Bool) (n : ℕ) → present ≡ replicate n false → Every P (present_edges present)
none_known P present n h = subst (Every P) (sym (no_edge present n h)) tt

module _ {S O : Type 0} (stands : S → Run Position ((ℕ × ℕ) × Part) O → Type 0) (due : S → List Position) (seal : S → Position) (spent : S → Bool) (operator : S) (at : ℕ) (held : List (O × ℕ)) (g : GraphData) (places : List ℕ) (sum : Option ℕ) where
  -- no edge is present
  pub fed_none : (present : List Bool) (n : ℕ) → present ≡ replicate n false → IsFed stands due seal spent operator at held [] → IsFed stands due seal spent operator at held (entries_of g places sum (present_edges present))
  fed_none present n h f = subst (λ es. IsFed stands due seal spent operator at held (entries_of g places sum es)) (sym (no_edge present n h)) f

  -- after these changes
  pub fed_next : (present next : List Bool) (changes : List (EdgeNo × Bool)) (delta : List (((ℕ × ℕ) × Part) × ℕ)) → next ≡ changed present changes → AreChanges present changes → Alike delta (change_entries g places sum changes) → IsFed stands due seal spent operator at held (entries_of g places sum (present_edges present) ++ delta) → IsFed stands due seal spent operator at held (entries_of g places sum (present_edges next))
  fed_next present next changes delta is h d f = subst (λ v. IsFed stands due seal spent operator at held (entries_of g places sum (present_edges v))) (sym is) (fed_alike stands due seal spent operator at held (entries_of g places sum (present_edges present) ++ delta) (entries_of g places sum (present_edges (changed present changes))) (Alike-trans (Alike-append (Alike-refl (entries_of g places sum (present_edges present))) d) (Alike-sym (all_changes g places sum present changes h))) f)
