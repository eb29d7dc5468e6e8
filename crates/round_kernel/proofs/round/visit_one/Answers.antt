use Rattle.std.proofs.Common.{◌∙◌, false, refl, sym, arith, rules}
use Rattle.std.proofs.lemmas.Bool.{true≢false}
use Rattle.std.proofs.lemmas.List.{get_or_read}
use Rattle.round_kernel.proofs.Standing.{round-at}
use Rattle.round_messages.specs.SendingLaws.{sent-at}
use Rattle.round_kernel.proofs.round.visit_one.Goals as goal

pub visit-requires-clause-spot : goal.visit-requires-clause-spot
visit-requires-clause-spot g c =
    let answer = g.U.Updater.answer in
    let f = c.args.stage.now.frame in
    let p = f.program.now in
    let graph = f.graph.now in
    let all = f.rows.now.by_head in
    let r = c.args.stage.now.round in
    let at = c.requires.at in
    record {
      round = record {
        checked = c.requires.stage.frame.checked;
        rows = c.requires.stage.frame.rows;
        stands = round-at answer p graph all f.new.now _ _ _ _ r c.deref.ensures.value c.deref-2.ensures.value at.new_now;
        sent = sent-at c.args.lists.now.alike p graph _ _ _ _ _ _ c.deref.ensures.value c.deref-2.ensures.value refl at.new_sent;
      };
      node = c.requires.node;
      start = search rules;
      starts = search rules;
      before = round-at answer p graph all f.new.now _ _ _ _ _ c.deref.ensures.value c.deref-5.ensures.value at.new_before;
      old = λ one. round-at answer p graph all f.old.now _ _ _ _ r c.deref-3.ensures.value c.deref-4.ensures.value (at.old_now one);
      old_sent = λ e. absurd (true≢false (sym e));
      marked = λ later. get_or_read c.args.lists.now.marked.items c.args.node.0 c.index.result.now (omega (arith, c.requires.node, at.marked_size)) c.index.ensures false ∙ at.marked later;
      was = get_or_read c.args.lists.now.touched.items c.args.node.0 c.index-was.result.now (omega (arith, c.requires.node, at.touched_size)) c.index-was.ensures false ∙ at.touched;
      lookups = c.requires.stage.lookups;
    }
