-- Conjunctions of bounds.
use Rattle.std.proofs.Common.{◌≡◌, ◌∙◌, ◌+◌, ◌<◌, ℕ, Bool, true, false, ◌&&◌, List, [], ◌∷◌, ◌++◌, length, get_or, map, take, Some, refl, sym, ap, ap₂, subst, arith}
use Rattle.std.specs.List.{list_all}
use Rattle.std.proofs.lemmas.List.{take_more}
use Rattle.std.proofs.lemmas.List.Folds.{list_all-append}
use Rattle.std.proofs.lemmas.List.Elements.{All-push, All-pop}
use Rattle.graph_model.specs.GraphData.{GraphData, Cell}
use Rattle.edge_predicates.specs.declared.pred.Pred.{Pred}
use Rattle.edge_predicates.specs.declared.pred.Pred.TheVariants as pred
use Rattle.edge_predicates.specs.declared.pred.Pred.TheVariants.{rolls-And, rolls-Compare}
use Rattle.edge_predicates.specs.declared.pred.Pred.TheOpen.{Pred-F}
use Rattle.edge_predicates.specs.declared.pred.Pred.TheFolds.{fold-roll-Pred}
use Rattle.edge_predicates.specs.declared.pred.Cmp.{Cmp}
use Rattle.edge_predicates.specs.declared.pred.Place.{Place}
use Rattle.edge_predicates.specs.Truth.{truth, truth_of, cells_compare, edge_place, read_at}
use Rattle.view_matrix.specs.declared.bounds.Bounds.{Bounds}
use Rattle.view_matrix.specs.Bounds.{meets, meets_at, all_meet, AreOf, Adds}

-- ---- the truth of predicates

all_map : {X : Type 0} (f : X → Bool) (xs : List X) → list_all (λ b. b) (map f xs) ≡ list_all f xs
all_map f [] = refl
all_map f (x ∷ xs) = let e = all_map f xs in cc

pub truth_and : (g : GraphData) (e : ℕ) (ps : List Pred) → truth g e (pred.And ps) ≡ list_all (truth g e) ps
unfolding truth
truth_and g e ps = ap (λ (p : Pred). truth g e p) (sym (rolls-And ps)) ∙ fold-roll-Pred Bool (truth_of g e) (Pred-F.And ps) ∙ all_map (truth g e) ps

pub truth_compare : (g : GraphData) (e : ℕ) (a : Place) (sign : Cmp) (b : Place) → truth g e (pred.Compare a sign b) ≡ cells_compare sign (read_at g e a) (read_at g e b)
unfolding truth
truth_compare g e a sign b = ap (λ (p : Pred). truth g e p) (sym (rolls-Compare a sign b)) ∙ fold-roll-Pred Bool (truth_of g e) (Pred-F.Compare a sign b)

-- ---- bounds more

and_true : (b : Bool) → (b && true) ≡ b
and_true true = refl
and_true false = refl

and_and : (a b c : Bool) → ((a && b) && c) ≡ (a && (b && c))
and_and true b c = refl
and_and false b c = refl

pub nothing_more : (columns : ℕ) (all : List Bounds) (holds : GraphData → ℕ → Bool) → ((g : GraphData) (e : ℕ) → holds g e ≡ true) → Adds columns all all holds
nothing_more columns all holds always = record {
  of_columns = λ are. are;
  means = λ g e. sym (ap (λ (b : Bool). all_meet g e all && b) (always g e) ∙ and_true (all_meet g e all));
}

pub more_and_more : (columns : ℕ) (old mid new : List Bounds) (first second both : GraphData → ℕ → Bool) → Adds columns old mid first → Adds columns mid new second
    → ((g : GraphData) (e : ℕ) → both g e ≡ (first g e && second g e)) → Adds columns old new both
more_and_more columns old mid new first second both one two is = record {
  of_columns = λ are. two.of_columns (one.of_columns are);
  means = λ g e.
      two.means g e ∙ ap (λ (b : Bool). b && second g e) (one.means g e) ∙ and_and (all_meet g e old) (first g e) (second g e)
      ∙ ap (λ (b : Bool). all_meet g e old && b) (sym (is g e));
}

pub same_adds : (columns : ℕ) (old new : List Bounds) (holds other : GraphData → ℕ → Bool) → Adds columns old new holds → ((g : GraphData) (e : ℕ) → holds g e ≡ other g e) → Adds columns old new other
same_adds columns old new holds other adds same = record {
  of_columns = adds.of_columns;
  means = λ g e. adds.means g e ∙ ap (λ (b : Bool). all_meet g e old && b) (same g e);
}

last_meets : (g : GraphData) (e : ℕ) (all : List Bounds) (b : Bounds) → all_meet g e (all ++ b ∷ []) ≡ (all_meet g e all && meets_at g e b)
last_meets g e all b = list_all-append (meets_at g e) all (b ∷ []) ∙ ap (λ (x : Bool). all_meet g e all && x) (and_true (meets_at g e b))

pub one_more : (columns : ℕ) (old new : List Bounds) (b : Bounds) → b.column < columns → new ≡ old ++ b ∷ [] → Adds columns old new (λ g e. meets_at g e b)
one_more columns old new b within is = record {
  of_columns = λ are. subst (λ (bs : List Bounds). AreOf columns bs) (sym is) (All-push (λ (x : Bounds). x.column < columns) old b are within);
  means = λ g e. ap (λ (bs : List Bounds). all_meet g e bs) is ∙ last_meets g e old b;
}

-- the last one and the new one as one
pub last_more : (columns : ℕ) (old rest new : List Bounds) (last b both : Bounds) → b.column < columns → old ≡ rest ++ last ∷ [] → new ≡ rest ++ both ∷ [] → both.column ≡ last.column → both.column ≡ b.column
    → ((c : Cell) → meets both c ≡ (meets last c && meets b c)) → Adds columns old new (λ g e. meets_at g e b)
last_more columns old rest new last b both within was is of_last of_b means =
    record {
      of_columns = λ are. subst (λ (bs : List Bounds). AreOf columns bs) (sym is)
          (All-push (λ (x : Bounds). x.column < columns) rest both (All-pop (λ (x : Bounds). x.column < columns) old rest (Some last) was are).0 (omega (arith, of_b, within)));
      means = λ g e.
          ap (λ (bs : List Bounds). all_meet g e bs) is ∙ last_meets g e rest both
          ∙ ap (λ (x : Bool). all_meet g e rest && x) (means (edge_place g e both.column) ∙ ap₂ (λ (k l : ℕ). meets last (edge_place g e k) && meets b (edge_place g e l)) of_last of_b)
          ∙ sym (and_and (all_meet g e rest) (meets_at g e last) (meets_at g e b))
          ∙ ap (λ (x : Bool). x && meets_at g e b) (sym (ap (λ (bs : List Bounds). all_meet g e bs) was ∙ last_meets g e rest last));
    }

-- ---- one predicate more

pub each_more : (g : GraphData) (e : ℕ) (ps : List Pred) (i : ℕ) (p : Pred) → i < length ps → p ≡ get_or ps i p → list_all (truth g e) (take (i + 1) ps) ≡ (list_all (truth g e) (take i ps) && truth g e p)
each_more g e ps i p lt is =
    ap (list_all (truth g e)) (take_more ps i p lt) ∙ list_all-append (truth g e) (take i ps) (get_or ps i p ∷ [])
    ∙ ap (λ (b : Bool). list_all (truth g e) (take i ps) && b) (and_true (truth g e (get_or ps i p)) ∙ ap (truth g e) (sym is))
