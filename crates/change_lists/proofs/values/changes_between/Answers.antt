use Rattle.std.proofs.Common.{◌∙◌, ◌++◌, ◌∷◌, [], List, Bool, sym, ap, take}
use Rattle.std.specs.Prelude.{if◌then◌else◌}
use Rattle.std.proofs.lemmas.List.{append-nil}
use Rattle.vertex_lang.specs.Rounds.{value_at}
use Rattle.change_lists.specs.declared.history.Change.{Change}
use Rattle.change_lists.specs.ChangeLists.{changes_from}
use Rattle.change_lists.proofs.Listing.{from-next}
use Rattle.change_lists.proofs.values.changes_between.Goals as goal
use Rattle.change_lists.proofs.values.changes_between.Goals.{then-are_unlike+in_ok-push, else-are_unlike}

pub loop-node-preserved : goal.loop-node-preserved
loop-node-preserved c =
    let i = c.loop-node.node in
    let one : Change = record { node = record { 0 = i }; value = value_at c.args.new.now i } in
    let had = changes_from 0 (take i c.args.old.now) (take i c.args.new.now) in
    let next = from-next c.args.old.now c.args.new.now i c.are_unlike.result c.loop-node-test.true c.requires.size c.are_unlike.ensures in
    elim c.if-are_unlike.branch [
      | then-are_unlike+in_ok-push w ↦ rw w.changes-is (w.in_ok-push.ensures.ok ∙ ap (λ (cs : List Change). cs ++ one ∷ []) c.loop-node.invariant ∙ sym (next ∙ ap (λ (b : Bool). had ++ (if b then one ∷ [] else [])) w.if-are_unlike.true))
      | else-are_unlike w ↦ rw w.changes-is (c.loop-node.invariant ∙ sym (next ∙ ap (λ (b : Bool). had ++ (if b then one ∷ [] else [])) w.if-are_unlike.false ∙ append-nil had))
    ]
