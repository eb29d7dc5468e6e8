use Rattle.std.proofs.Common.{◌≡◌, ◌∙◌, ◌<◌, ◌≤◌, ◌⊎◌, List, length, ap, sym, subst, arith}
use Rattle.std.proofs.lemmas.List.{with_items_is}
use Rattle.std.proofs.lemmas.List.FromFn.{length-map-range_with_len}
use Rattle.graph_model.specs.declared.value.Val.{Val}
use Rattle.vertex_lang.specs.Expressions.{start_of}
use Rattle.change_lists.specs.declared.history.Change.{Change}
use Rattle.change_lists.specs.ChangeLists.{HasChanges}
use Rattle.vertex_lang.specs.RoundLaws.{lone_starts}
use Rattle.view_versions.proofs.Rounds.{values-last, values-next}
use Rattle.view_versions.proofs.values.last_values.Goals as goal

pub loop-round-init : goal.loop-round-init
loop-round-init c =
    let p = c.args.program.now in
    let graph = c.args.graph.now in
    record {
      size = ap (λ (vs : List Val). length vs) c.in_ok-values.ensures ∙ length-map-range_with_len (start_of p graph) 0 (length graph.ids);
      are = λ answer arcs is. c.in_ok-values.ensures ∙ sym (lone_starts answer p graph arcs);
    }

pub loop-round-preserved : goal.loop-round-preserved
loop-round-preserved c =
    let p = c.args.program.now in
    let graph = c.args.graph.now in
    let h = c.args.history.now in
    let k = c.loop-round.round in
    let values = c.loop-round.values in
    let made = c.assign.new.now in
    let inv = c.loop-round.invariant in
    let lent : c.deref_mut.result.now ≡ values.items = c.deref_mut.ensures.value in
    let len : length made ≡ values.len = omega (arith, c.assign.auto.now, ap (λ (vs : List Val). length vs) lent, values.ok) in
    let is = with_items_is values made len in
    let below : k < c.args.limit = omega (arith, c.loop-round-test.true, c.rounds_of-rounds.ensures.few) in
    let size : length c.deref_mut.result.now ≡ length graph.ids = ap (λ (vs : List Val). length vs) lent ∙ inv.size in
    record {
      size = ap (λ (vs : List Val). length vs) is ∙ omega (arith, c.assign.auto.now, size);
      are = λ answer arcs told.
          is
          ∙ values-next answer p graph arcs c.args.limit h told k c.deref_mut.result.now made below size (lent ∙ inv.are answer arcs told)
          (λ after same changed. c.assign.ensures after same (subst (λ (cs : List Change). HasChanges (length c.deref_mut.result.now) c.deref_mut.result.now after cs) (sym c.changes_after.ensures) changed));
    }

pub returns : goal.returns
returns c = λ answer arcs is.
    let k = c.loop-round.round in
    let rounds = c.rounds_of-rounds.result in
    let all : k ≡ rounds = omega arith in
    let last : (k ≡ c.args.limit) ⊎ (length c.args.history.now.changes ≤ k) = subst (λ n. (n ≡ c.args.limit) ⊎ (length c.args.history.now.changes ≤ n)) (sym all) c.rounds_of-rounds.ensures.last in
    c.loop-round.invariant.are answer arcs is ∙ values-last answer c.args.program.now c.args.graph.now arcs c.args.limit c.args.history.now is k (omega (arith, all, c.rounds_of-rounds.ensures.few)) last
