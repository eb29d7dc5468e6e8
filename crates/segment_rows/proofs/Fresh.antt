-- A segment of which no view was stepped stands for each task.
use Rattle.std.proofs.Common.{Vec, Global, Bool, ◌≡◌, ◌∙◌, ℕ, List, [], ◌∷◌, None, Option, length, take, sym, ap, subst, refl, arith}
use Rattle.std.specs.Prelude.{IfSome}
use Rattle.change_lists.specs.declared.history.History.{History}
use Rattle.view_order.specs.Greedy.{numbers}
use Rattle.view_segment.specs.declared.segment.Segment.{Segment}
use Rattle.view_segment.specs.Segments.{HistoryOf, FlagsOf, SegmentStands, last_of, last_stepped}
use Rattle.view_segment.specs.Tasks.{Task, works_of}

none-taken : (xs : List ℕ) → take 0 xs ≡ []
none-taken [] = refl
none-taken (x ∷ xs) = refl

pub fresh-stands : (task : Task) (s : Segment) → s.works ≡ [] → s.history ≡ None → s.flags ≡ None → SegmentStands task s
fresh-stands task s e none unknown =
    let nothing : take (length s.works) (numbers s.views) ≡ [] = ap (λ (ws : List ℕ). take (length ws) (numbers s.views)) e ∙ none-taken (numbers s.views) in
    record {
      few = omega (arith, ap (λ (ws : List ℕ). length ws) e);
      works = e ∙ sym (ap (λ (vs : List ℕ). works_of task vs) nothing);
      history = λ left. subst (λ (vs : List ℕ). HistoryOf task (last_of vs) s.history) (sym nothing) (subst (λ (h : Option History). HistoryOf task None h) (sym none) tt);
      flags = subst (λ (o : Option (Vec Bool Global)). IfSome o (λ (kept : Vec Bool Global). FlagsOf task (last_stepped s) kept.items)) (sym unknown) tt;
      done = λ all. unknown;
    }
