-- No statement was executed, so that each matrix is empty and no run is kept.
use Rattle.std.proofs.Common.{◌≡◌, ◌∙◌, ◌<◌, Bool, List, [], length, ap, arith, sym, subst, All}
use Rattle.view_matrix.specs.Matrices.{MatrixData, matrix_of}
use Rattle.surge_session.specs.declared.kept.Kept.{Kept}
use Rattle.surge_session.specs.State.{IsKept, places_of}
use Rattle.surge_session.proofs.LiveFacts.{live_first, live_count}
use Rattle.surge_session.proofs.Places.{started_at}
use Rattle.surge_session.proofs.state.State.new.Goals as goal

pub empty_matrices-requires : goal.empty_matrices-requires
empty_matrices-requires c =
    let graph = c.args.graph.now in
    let p = c.args.plan.now in
    ap (λ (live : List Bool). length live) (c.in_ok-live.ensures ∙ sym (live_first graph p)) ∙ live_count graph p 0

pub returns : goal.returns
returns c =
    let graph = c.args.graph.now in
    let p = c.args.plan.now in
    let made = c.in_ok-made.made.items in
    let live = c.in_ok-live.ensures in
    λ answer. record {
      live = c.into_vec.ensures ∙ live ∙ sym (live_first graph p);
      matrices = started_at graph p made (c.in_ok-made.ensures.count ∙ c.len.ensures) (subst (λ (l : List Bool). All (λ (m : MatrixData). m ≡ matrix_of graph l []) made) live c.in_ok-made.ensures.empty);
      places = ap (λ (kept : List Kept). places_of kept) c.new-kept.ensures.items;
      each = subst (λ (kept : List Kept). All (IsKept answer graph p 0 made) kept) (sym c.new-kept.ensures.items) (λ i d lt. absurd (omega (arith, lt)));
    }
