-- One run more is marked.
use Rattle.std.proofs.Common.{◌≡◌, ◌∙◌, ℕ, ◌+◌, ◌<◌, ◌≤◌, List, suc, length, get_or, ap, arith}
use Rattle.std.specs.Prelude.{set}
use Rattle.std.proofs.lemmas.List.{length-set}
use Rattle.gvdl_check.specs.declared.plan.RunPlan.{RunPlan}
use Rattle.gvdl_check.specs.Known.{run_marked}
use Rattle.gvdl_check.proofs.MarkFacts.{marked_to, marked_on, all_marked}
use Rattle.gvdl_check.proofs.known.mark_runs.Goals as goal

pub loop-place-preserved : goal.loop-place-preserved
loop-place-preserved c =
    let last = c.args.last_edit in
    let numbers = c.args.numbers.now in
    let place = c.loop-place.place in
    let runs = c.loop-place.all.items in
    let run = c.index_mut.result.now in
    let made = c.mark_run.new.run in
    let inv = c.loop-place.invariant in
    let low : place < length runs = omega (arith, inv.size, c.requires, c.loop-place-test.true, c.len-place-end.ensures, ap (λ (l : List RunPlan). length l) c.into_vec-all.ensures) in
    let here : place < length numbers = omega (arith, inv.size, low) in
    let is : made ≡ run_marked last (get_or numbers place 0) (get_or runs place run) =
    c.mark_run.ensures ∙ ap (run_marked last (get_or numbers place 0)) c.index_mut.ensures.value in
    let more : place + 1 ≡ suc place = omega arith in
    record {
      size = length-set runs place made ∙ inv.size;
      marked = ap (λ (i : ℕ). marked_to last numbers i (set runs place made)) more
          ∙ ap (λ (r : RunPlan). marked_to last numbers (suc place) (set runs place r)) is
          ∙ marked_on last place numbers runs run here low
          ∙ inv.marked;
    }

pub returns : goal.returns
returns c =
    let place = c.loop-place.place in
    let runs = c.loop-place.all.items in
    let inv = c.loop-place.invariant in
    let le : length runs ≤ place = omega (arith, inv.size, c.requires, c.loop-place-test.false, c.len-place-end.ensures, ap (λ (l : List RunPlan). length l) c.into_vec-all.ensures) in
    let done = all_marked c.args.last_edit c.args.numbers.now place runs le in
    cc
