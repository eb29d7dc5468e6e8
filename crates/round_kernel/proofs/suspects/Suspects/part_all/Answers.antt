use Rattle.std.proofs.Common.{◌∙◌, false}
use Rattle.graph_model.specs.declared.value.Val.TheVariants.{Nil}
use Rattle.change_lists.specs.declared.history.Change.{Change}
use Rattle.round_kernel.specs.Flags.{IsSettled}
use Rattle.round_kernel.proofs.Flagging.{set-more}
use Rattle.round_kernel.proofs.suspects.Suspects.part_all.Goals as goal

abbrev no_change : Change
no_change = record { node = record { 0 = 0 }; value = Nil }

pub loop-change-preserved : goal.loop-change-preserved
loop-change-preserved c =
    let inv = c.loop-change.invariant in
    let flag = c.flag.ensures in
    record {
      apart = set-more (IsSettled c.args.frame c.args.lists.now) false c.args.changes.now c.loop-change.change-index no_change c.loop-change-test.true c.args.self.now.apart.items c.loop-change.self.apart.items c.flag.new.self.apart.items
          inv.apart flag.size flag.right flag.others;
      moved = flag.moved ∙ inv.moved;
      turned = flag.turned ∙ inv.turned;
    }
