use Rattle.std.proofs.Common.{◌+◌, List, subst, sym}
use Rattle.change_lists.specs.declared.history.Change.{Change}
use Rattle.change_lists.specs.ChangeLists.{HasChanges}
use Rattle.round_kernel.specs.Frames.{count_in, lone_at}
use Rattle.round_kernel.proofs.lookups.Lookups.go_on.Goals as goal

pub next_source-requires-clause-changes : goal.next_source-requires-clause-changes
next_source-requires-clause-changes g c =
    let answer = g.U.Updater.answer in
    let f = c.args.frame in
    let r = c.args.round in
    subst (λ (cs : List Change). HasChanges (count_in f) (lone_at answer f r) (lone_at answer f (r + 1)) cs) (sym c.changed-new.ensures) c.requires.made.changes
