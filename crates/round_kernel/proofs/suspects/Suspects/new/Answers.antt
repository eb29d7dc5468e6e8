use Rattle.std.proofs.Common.{◌≡◌}
use Rattle.round_kernel.specs.Frames.{count_in}
use Rattle.vertex_lang.specs.declared.arc.Arc.{Arc}
use Rattle.round_kernel.proofs.Flagging.{told-start}
use Rattle.round_kernel.proofs.Turning.{told-grouped}
use Rattle.round_kernel.proofs.suspects.Suspects.new.Goals as goal

pub returns : goal.returns
returns g c =
    let f = c.args.frame in
    let n = c.node_count-count.result in
    let count : n ≡ count_in f = c.node_count-count.ensures.count in
    told-start g.U.Updater.answer f _ c.args.lists.now c.requires.at
    (record { apart = c.in_ok-apart.apart; moved = c.in_ok-moved.moved; turned = c.in_ok-turned.turned }) n count
    c.in_ok-apart.ensures.size
    c.in_ok-apart.ensures.flags
    (c.in_ok-moved.ensures.items_if_clones_equal (λ y e. e))
    (told-grouped (λ (a : Arc). a.head.0) f.graph.now f.rows.now.by_head f.turned.now f.first f.old.now f.new.now c.in_ok-turned.turned n count c.in_ok-turned.ensures.rows c.in_ok-turned.ensures.same c.requires.frame.arcs c.requires.frame.turned)
