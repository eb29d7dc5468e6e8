-- The truth of a predicate, case by case.
use Rattle.std.proofs.Common.{◌≡◌, ◌∙◌, ℕ, Bool, List, [], ◌∷◌, map, refl, sym, ap}
use Rattle.std.specs.Prelude.{not}
use Rattle.std.specs.List.{list_any, list_all}
use Rattle.graph_model.specs.GraphData.{GraphData}
use Rattle.edge_predicates.specs.declared.pred.Cmp.{Cmp}
use Rattle.edge_predicates.specs.declared.pred.Place.{Place}
use Rattle.edge_predicates.specs.declared.pred.Pred.{Pred}
use Rattle.edge_predicates.specs.declared.pred.Pred.TheVariants as pred
use Rattle.edge_predicates.specs.declared.pred.Pred.TheVariants.{rolls-Or, rolls-And, rolls-Not, rolls-Constant, rolls-Compare, rolls-Missing}
use Rattle.edge_predicates.specs.declared.pred.Pred.TheOpen.{Pred-F}
use Rattle.edge_predicates.specs.declared.pred.Pred.TheFolds.{fold-roll-Pred}
use Rattle.edge_predicates.specs.Truth.{truth, truth_of, cells_compare, is_absent, read_at}

any_map : {X : Type 0} (f : X → Bool) (xs : List X) → list_any (λ b. b) (map f xs) ≡ list_any f xs
any_map f [] = refl
any_map f (x ∷ xs) = let e = any_map f xs in cc

all_map : {X : Type 0} (f : X → Bool) (xs : List X) → list_all (λ b. b) (map f xs) ≡ list_all f xs
all_map f [] = refl
all_map f (x ∷ xs) = let e = all_map f xs in cc

pub truth-or : (g : GraphData) (e : ℕ) (ps : List Pred) → truth g e (pred.Or ps) ≡ list_any (truth g e) ps
unfolding truth
truth-or g e ps = ap (λ (p : Pred). truth g e p) (sym (rolls-Or ps)) ∙ fold-roll-Pred Bool (truth_of g e) (Pred-F.Or ps) ∙ any_map (truth g e) ps

pub truth-and : (g : GraphData) (e : ℕ) (ps : List Pred) → truth g e (pred.And ps) ≡ list_all (truth g e) ps
unfolding truth
truth-and g e ps = ap (λ (p : Pred). truth g e p) (sym (rolls-And ps)) ∙ fold-roll-Pred Bool (truth_of g e) (Pred-F.And ps) ∙ all_map (truth g e) ps

pub truth-not : (g : GraphData) (e : ℕ) (p : Pred) → truth g e (pred.Not p) ≡ not (truth g e p)
unfolding truth
truth-not g e p = ap (λ (p : Pred). truth g e p) (sym (rolls-Not p)) ∙ fold-roll-Pred Bool (truth_of g e) (Pred-F.Not p)

pub truth-constant : (g : GraphData) (e : ℕ) (b : Bool) → truth g e (pred.Constant b) ≡ b
unfolding truth
truth-constant g e b = ap (λ (p : Pred). truth g e p) (sym (rolls-Constant b)) ∙ fold-roll-Pred Bool (truth_of g e) (Pred-F.Constant b)

pub truth-compare : (g : GraphData) (e : ℕ) (a : Place) (sign : Cmp) (b : Place) → truth g e (pred.Compare a sign b) ≡ cells_compare sign (read_at g e a) (read_at g e b)
unfolding truth
truth-compare g e a sign b = ap (λ (p : Pred). truth g e p) (sym (rolls-Compare a sign b)) ∙ fold-roll-Pred Bool (truth_of g e) (Pred-F.Compare a sign b)

pub truth-missing : (g : GraphData) (e : ℕ) (a : Place) → truth g e (pred.Missing a) ≡ is_absent (read_at g e a)
unfolding truth
truth-missing g e a = ap (λ (p : Pred). truth g e p) (sym (rolls-Missing a)) ∙ fold-roll-Pred Bool (truth_of g e) (Pred-F.Missing a)
