-- A predicate against the columns, case by case.
use Rattle.std.proofs.Common.{◌≡◌, ◌∙◌, Bool, List, map, sym, ap, Ok}
use Rattle.graph_model.specs.GraphData.{GraphData}
use Rattle.gvdl_tree.specs.declared.predicate.Cmp.{Cmp}
use Rattle.gvdl_tree.specs.declared.predicate.Operand.{Operand}
use Rattle.gvdl_tree.specs.declared.predicate.PredTree.{PredTree}
use Rattle.gvdl_tree.specs.declared.predicate.PredTree.TheVariants as tree
use Rattle.gvdl_tree.specs.declared.predicate.PredTree.TheVariants.{rolls-Or, rolls-And, rolls-Not, rolls-Constant, rolls-Compare, rolls-Missing}
use Rattle.gvdl_tree.specs.declared.predicate.PredTree.TheOpen.{PredTree-F}
use Rattle.gvdl_tree.specs.declared.predicate.PredTree.TheFolds.{fold-roll-PredTree}
use Rattle.edge_predicates.specs.declared.pred.Pred.{Pred}
use Rattle.edge_predicates.specs.declared.pred.Pred.TheVariants as pred
use Rattle.gvdl_programs.specs.Judging.{Judged, ◌>>=◌, each}
use Rattle.gvdl_check.specs.Predicates.{predicate, predicate_of, placed, comparison}

pub predicate-or : (g : GraphData) (ts : List PredTree) → predicate g (tree.Or ts) ≡ (each (map (predicate g) ts) >>= λ ps. Ok (pred.Or ps))
unfolding predicate
predicate-or g ts = ap (λ (t : PredTree). predicate g t) (sym (rolls-Or ts)) ∙ fold-roll-PredTree (Judged Pred) (predicate_of g) (PredTree-F.Or ts)

pub predicate-and : (g : GraphData) (ts : List PredTree) → predicate g (tree.And ts) ≡ (each (map (predicate g) ts) >>= λ ps. Ok (pred.And ps))
unfolding predicate
predicate-and g ts = ap (λ (t : PredTree). predicate g t) (sym (rolls-And ts)) ∙ fold-roll-PredTree (Judged Pred) (predicate_of g) (PredTree-F.And ts)

pub predicate-not : (g : GraphData) (t : PredTree) → predicate g (tree.Not t) ≡ (predicate g t >>= λ p. Ok (pred.Not p))
unfolding predicate
predicate-not g t = ap (λ (u : PredTree). predicate g u) (sym (rolls-Not t)) ∙ fold-roll-PredTree (Judged Pred) (predicate_of g) (PredTree-F.Not t)

pub predicate-constant : (g : GraphData) (b : Bool) → predicate g (tree.Constant b) ≡ Ok (pred.Constant b)
unfolding predicate
predicate-constant g b = ap (λ (t : PredTree). predicate g t) (sym (rolls-Constant b)) ∙ fold-roll-PredTree (Judged Pred) (predicate_of g) (PredTree-F.Constant b)

pub predicate-compare : (g : GraphData) (a : Operand) (sign : Cmp) (b : Operand) → predicate g (tree.Compare a sign b) ≡ comparison g a sign b
unfolding predicate
predicate-compare g a sign b = ap (λ (t : PredTree). predicate g t) (sym (rolls-Compare a sign b)) ∙ fold-roll-PredTree (Judged Pred) (predicate_of g) (PredTree-F.Compare a sign b)

pub predicate-missing : (g : GraphData) (a : Operand) → predicate g (tree.Missing a) ≡ (placed g a >>= λ at. Ok (pred.Missing at.0))
unfolding predicate
predicate-missing g a = ap (λ (t : PredTree). predicate g t) (sym (rolls-Missing a)) ∙ fold-roll-PredTree (Judged Pred) (predicate_of g) (PredTree-F.Missing a)
