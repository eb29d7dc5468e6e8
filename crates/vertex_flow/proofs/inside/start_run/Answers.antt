-- What is told of the loop by the functions of its parts, in the words of starts and arcs.
use Rattle.std.specs.Cmp.{tied_itself}
use Rattle.reduce_theory.specs.ByKey.{reduce_apply}
use Rattle.vertex_items.specs.Given.{node_gives}
use Rattle.view_items.specs.Collections.{items}
use Rattle.view_items.specs.ItemLaws.{items_respect}
use Rattle.view_items.specs.Prepared.{prepared_starts}
use Rattle.view_items.specs.Rounds.{round_of}
use Rattle.vertex_flow.proofs.inside.start_run.Goals as goal

pub returns : goal.returns
returns g c = λ p graph rounds is run stands.
    let reduce = reduce_apply _ _ (node_gives g.U.Updater.answer p graph) in
    let kept = c.loop_inside.ensures.kept (prepared_starts _ _ p graph) (items _ p graph, reduce) rounds is in
    c.inner_is_fed_from_starts.ensures _
    _ (record { total = c.records_are_ordered.ensures.total; same = c.records_are_ordered.ensures.same })
    _ (record { total = c.records_are_ordered-2.ensures.total; same = c.records_are_ordered-2.ensures.same })
    _ c.items_are_ordered.ensures g.U.Updater.answer p graph rounds _ _ _ run
    (c.loop_inside.ensures.inside (prepared_starts _ _ p graph) (items _ p graph, reduce) rounds is (items _ p graph) (items_respect _ c.records_are_ordered.ensures.same (tied_itself c.records_are_ordered.ensures.total) p graph)
    (round_of _ _ g.U.Updater.answer p graph) (c.body_inside.ensures.apply (items _ p graph) reduce kept) (c.body_inside.ensures.inside (items _ p graph) reduce kept) run stands)
