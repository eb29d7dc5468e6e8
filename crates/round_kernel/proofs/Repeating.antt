-- A view with the same edges as the one before: nothing is turned, its history is that one's, and its work is none.
use Rattle.std.proofs.Common.{◌≡◌, ◌<◌, ◌+◌, ◌∷◌, [], sym, subst, refl, ℕ, Bool, false, List, length, get_or, arith, rc_value}
use Rattle.std.specs.Prelude.{Contains, IfSome, Option, Some, None, option_map}
use Rattle.std.proofs.lemmas.List.{ext_get_or}
use Rattle.graph_model.specs.declared.value.Val.{Val}
use Rattle.graph_model.specs.declared.number.NodeNo.{NodeNo}
use Rattle.graph_model.specs.GraphData.{GraphData}
use Rattle.vertex_lang.specs.declared.arc.Arc.{Arc}
use Rattle.vertex_lang.specs.declared.program.Program.{Program}
use Rattle.vertex_lang.specs.Expressions.{Answer}
use Rattle.vertex_lang.specs.GatherLaws.{values-exact}
use Rattle.lone_work.specs.Work.{node_marked, lone_in}
use Rattle.change_lists.specs.declared.history.Change.{Change}
use Rattle.change_lists.specs.declared.history.History.{History}
use Rattle.change_lists.specs.ChangeLists.{HasNodes, HasChanges, changes_from}
use Rattle.arc_rows.specs.Views.{TellsAll}
use Rattle.arc_rows.specs.ViewLaws.{same-or-turned}
use Rattle.round_kernel.specs.Histories.{IsHistory, AreStarts}

nothing-in : {A : Type 0} (x : A) → Contains [] x → ⊥
nothing-in x h = let low = h.1 in absurd (omega (arith, low))

-- where no edge is told, both views have the same edges
pub none-turned : (old new : List Bool) → length old ≡ length new → TellsAll old new [] → old ≡ new
none-turned old new size all = ext_get_or false old new size (λ e low. same-or-turned (get_or old e false) (get_or new e false) (λ differ. nothing-in _ (all e low differ)))

-- nothing changes from a list of values to itself
pub no-change : (n : ℕ) (xs : List Val) → changes_from n xs xs ≡ []
no-change n [] = refl
no-change n (x ∷ xs) = rw (values-exact.itself x) (no-change (n + 1) xs)

-- what holds of a value that is kept holds of it where it is shared
mapped : {A B : Type 0} (f : A → B) (P : B → Type 0) (o : Option A) → IfSome o (λ a. P (f a)) → IfSome (option_map f o) P
mapped f P None h = h
mapped f P (Some a) h = h

unmapped : {A B : Type 0} (f : A → B) (P : B → Type 0) (o : Option A) → IfSome (option_map f o) P → IfSome o (λ a. P (f a))
unmapped f P None h = h
unmapped f P (Some a) h = h

-- another one that says the same in these rounds is a history of the same run
module _ (answer : Answer) (p : Program) (graph : GraphData) (view : Option (List Arc)) (n : ℕ) (old made : History) (places : (k : ℕ) → k < n → get_or made.changes k [] ≡ get_or old.changes k []) (marks : made.marks ≡ old.marks) (starts : option_map rc_value made.starts ≡ option_map rc_value old.starts) where
  pub same-history : IsHistory answer p graph view n old → IsHistory answer p graph view n made
  same-history h = record {
    changes = λ k low. subst (λ (cs : List Change). HasChanges (length graph.ids) (lone_in answer p graph view k) (lone_in answer p graph view (k + 1)) cs) (sym (places k low)) (h.changes k low);
    marks = λ k low. subst (λ (ms : List (List NodeNo)). HasNodes (length graph.ids) (λ v. node_marked answer p graph view v (k + 1)) (get_or ms k [])) (sym marks) (h.marks k low);
    starts = unmapped rc_value (AreStarts p graph) made.starts (subst (λ (o : Option (List Val)). IfSome o (AreStarts p graph)) (sym starts) (mapped rc_value (AreStarts p graph) old.starts h.starts));
  }
