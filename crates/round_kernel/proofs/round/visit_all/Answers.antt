use Rattle.std.proofs.Common.{◌≡◌, ◌∙◌, ◌<◌, ◌+◌, Bool, false, List, get_or, ap, sym, subst, refl, arith}
use Rattle.std.specs.List.{range_with_len}
use Rattle.std.proofs.lemmas.List.FromFn.{length-range_with_len}
use Rattle.std.proofs.lemmas.List.Sums.{count_by-le-length}
use Rattle.waiting_nodes.specs.declared.queue.Queue.{Queue}
use Rattle.round_kernel.specs.declared.frame.Lists.{Lists}
use Rattle.waiting_nodes.specs.Queues.{waits}
use Rattle.round_kernel.specs.Frames.{counted_at, count_in}
use Rattle.waiting_nodes.specs.WaitingLaws.{queue-at, queue-step, still-waits}
use Rattle.round_kernel.proofs.Visiting.{done, one-most}
use Rattle.round_kernel.proofs.Standing.{at-queue, place-of, shown-still}
use Rattle.round_kernel.proofs.Stepping.{IsVisiting, meanwhile, visiting-start, visiting-next, waiting-was}
use Rattle.round_kernel.proofs.KeptRounds.{IsKeeping, keeping-start, keeping-next}
use Rattle.round_kernel.proofs.round.visit_all.Goals as goal

pub loop-node-init : goal.loop-node-init
loop-node-init g c = record {
  visiting = visiting-start g.U.Updater.answer c.args.stage.now.frame c.args.stage.now.round c.args.lists.now c.args.made.now c.requires.at c.requires.calm c.requires.marks c.requires.changes;
  keeping = keeping-start g.U.Updater.answer c.args.stage.now.frame c.args.stage.now.round c.args.lists.now c.args.kept.now c.requires.kept_size c.requires.calm c.requires.kept;
  shown = c.requires.shown;
  marked = refl;
  listed = refl;
  calls = omega arith;
}

pub next-requires : goal.next-requires
next-requires g c = queue-at _ _ c.loop-node.invariant.visiting.at.queue

pub visit_one-requires-clause-node : goal.visit_one-requires-clause-node
visit_one-requires-clause-node g c = omega (arith, c.in-Some.ensures.within, c.loop-node.invariant.visiting.at.queue.size)

pub visit_one-requires-clause-at : goal.visit_one-requires-clause-at
visit_one-requires-clause-at g c =
    let answer = g.U.Updater.answer in
    let f = c.args.stage.now.frame in
    let r = c.args.stage.now.round in
    let lists0 = c.loop-node.lists in
    let q1 = c.next.new.self in
    let low : c.in-Some.node.0 < count_in f = omega (arith, c.in-Some.ensures.within, c.loop-node.invariant.visiting.at.queue.size) in
    place-of answer f r (meanwhile answer f r lists0.queue) (record lists0 { queue = q1 }) c.in-Some.node.0 low (waiting-was answer f r lists0.queue c.in-Some.node.0 c.in-Some.ensures.was)
    (at-queue answer f r (meanwhile answer f r lists0.queue) lists0 q1 c.loop-node.invariant.visiting.at (queue-step _ lists0.queue q1 c.loop-node.invariant.visiting.at.queue c.in-Some.ensures.queue))
    (λ later. c.loop-node.invariant.shown.shown c.in-Some.node.0 low later c.in-Some.ensures.was)

pub visit_one-requires-clause-sums_size : goal.visit_one-requires-clause-sums_size
visit_one-requires-clause-sums_size g c = c.loop-node.invariant.keeping.size

pub visit_one-requires-clause-sums : goal.visit_one-requires-clause-sums
visit_one-requires-clause-sums g c = λ later touched.
    let low : c.in-Some.node.0 < count_in c.args.stage.now.frame = omega (arith, c.in-Some.ensures.within, c.loop-node.invariant.visiting.at.queue.size) in
    c.loop-node.invariant.keeping.before c.in-Some.node.0 low c.in-Some.ensures.was later touched

pub overflow_add-work : goal.overflow_add-work
overflow_add-work g c =
    let f = c.args.stage.now.frame in
    let test = done (waits c.loop-node.lists.queue) (counted_at g.U.Updater.answer f c.args.stage.now.round) in
    omega (arith, c.loop-node.invariant.visiting.counted, count_by-le-length test (range_with_len 0 (count_in f)), length-range_with_len 0 (count_in f), c.requires.stage.frame.few, one-most _ _ c.in_ok-work.ensures.count)

pub loop-node-preserved : goal.loop-node-preserved
loop-node-preserved g c =
    let answer = g.U.Updater.answer in
    let f = c.args.stage.now.frame in
    let r = c.args.stage.now.round in
    let lists0 = c.loop-node.lists in
    let q1 = c.next.new.self in
    let lists2 = c.visit_one.new.lists in
    let low : c.in-Some.node.0 < count_in f = omega (arith, c.in-Some.ensures.within, c.loop-node.invariant.visiting.at.queue.size) in
    let same : lists2.queue ≡ q1 = ap (λ (l : Lists). l.queue) c.in_ok-work.ensures.kept in
    record {
      visiting = subst (λ (q : Queue). IsVisiting answer f r c.args.made.now.marks q lists2 c.visit_one.new.made (c.loop-node.work + c.in_ok-work.field-0)) (sym same) (visiting-next answer f r c.args.made.now.marks lists0.queue q1 lists0 lists2 c.loop-node.made c.visit_one.new.made c.loop-node.work c.in_ok-work.field-0 c.in-Some.node refl low c.in-Some.ensures.was c.in-Some.ensures.taken
          (queue-step _ lists0.queue q1 c.loop-node.invariant.visiting.at.queue c.in-Some.ensures.queue)
          c.in_ok-work.ensures.kept c.in_ok-work.ensures.touched c.in_ok-work.ensures.count c.in_ok-work.ensures.marks c.in_ok-work.ensures.changes c.loop-node.invariant.visiting);
      keeping = subst (λ (q : Queue). IsKeeping answer f r q c.visit_one.new.kept) (sym same) (keeping-next answer f r lists0.queue q1 c.loop-node.kept c.visit_one.new.kept c.in-Some.node.0 low c.loop-node.invariant.visiting.at.queue.size c.in-Some.ensures.taken
          c.visit_one.ensures.sums_size c.in_ok-work.ensures.sums c.in_ok-work.ensures.others c.loop-node.invariant.keeping);
      shown = shown-still answer f r lists0 lists2 (ap (λ (l : Lists). l.marked) c.in_ok-work.ensures.kept) (λ v e. still-waits lists0.queue.waits.items c.in-Some.node.0 v
          (sym (ap (λ (bs : List Bool). get_or bs v false) c.in-Some.ensures.taken) ∙ sym (ap (λ (q : Queue). waits q v) same) ∙ e)) c.loop-node.invariant.shown;
      marked = ap (λ (l : Lists). l.marked) c.in_ok-work.ensures.kept ∙ c.loop-node.invariant.marked;
      listed = ap (λ (l : Lists). l.shown) c.in_ok-work.ensures.kept ∙ c.loop-node.invariant.listed;
      calls = omega (arith, c.loop-node.invariant.calls, c.in_ok-work.ensures.calls);
    }
