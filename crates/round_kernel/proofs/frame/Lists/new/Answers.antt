use Rattle.std.proofs.Common.{◌≡◌, ◌∙◌, ◌<◌, ◌^◌, ℕ, Bool, false, List, length, get_or, ap, sym, subst, refl, arith, inl, inr}
use Rattle.std.specs.Prelude.{replicate}
use Rattle.std.proofs.lemmas.Bool.{cases_Bool}
use Rattle.std.proofs.lemmas.List.{length-replicate}
use Rattle.vertex_lang.specs.declared.arc.Arc.{Arc}
use Rattle.vertex_lang.specs.Expressions.{start_of}
use Rattle.graph_model.specs.declared.value.Val.{Val}
use Rattle.std.proofs.lemmas.List.FromFn.{length-map-range_with_len}
use Rattle.round_kernel.specs.declared.frame.Lists.{Lists}
use Rattle.waiting_nodes.specs.Queues.{IsQueue}
use Rattle.round_kernel.specs.Frames.{count_in}
use Rattle.round_kernel.proofs.Beginning.{at-start, all-first}
use Rattle.round_messages.specs.SendingLaws.{sent-at}
use Rattle.round_kernel.proofs.Turning.{told-grouped}
use Rattle.round_kernel.proofs.frame.Lists.new.Goals as goal

pub send_all-requires-clause-size : goal.send_all-requires-clause-size
send_all-requires-clause-size g c = ap (λ (vs : List Val). length vs) (c.as_slice-values.ensures ∙ c.deref.ensures ∙ c.in_ok-starts.ensures) ∙ length-map-range_with_len (start_of c.args.frame.program.now c.args.frame.graph.now) 0 (count_in c.args.frame)

pub send_all-requires-clause-sender : goal.send_all-requires-clause-sender
send_all-requires-clause-sender g c = record {
  checked = c.requires.frame.checked;
  degrees_size = ap (λ (ds : List ℕ). length ds) c.deref-2.ensures.value ∙ c.requires.degrees.after.size;
  small = λ u low. subst (λ (ds : List ℕ). get_or ds u 0 < 2 ^ 32) (sym c.deref-2.ensures.value) (c.requires.degrees.after.small u low);
}

pub returns-clause-at : goal.returns-clause-at
returns-clause-at g c =
    let f = c.args.frame in
    let n = c.node_count-count.result in
    let count : n ≡ count_in f = c.node_count-count.ensures.count in
    let lists : Lists = record {
      starts = c.in_ok-starts.starts;
      old_now = c.in_ok-old_now.old_now;
      new_now = c.in_ok-new_now.new_now;
      new_before = c.in_ok-new_before.new_before;
      parted = c.in_ok-parted.parted;
      alike = c.in_ok-alike.alike;
      new_sent = c.in_ok-alike.new_sent;
      old_degrees = c.args.degrees.old;
      new_degrees = c.args.degrees.new;
      touched = c.in_ok-touched.touched;
      marked = c.in_ok-marked.marked;
      shown = c.new-6.result;
      watched = c.in_ok-watched.watched;
      turned = c.in_ok-turned.turned;
      queue = c.in_ok-queue.queue;
      scratch = record { left = c.new-3.result; right = c.new-4.result; picked = c.new-5.result };
    } in
    let parted : c.in_ok-parted.parted.items ≡ replicate n false = c.in_ok-parted.ensures.items_if_clones_equal (λ y e. e) in
    let touched : c.in_ok-touched.touched.items ≡ replicate n f.first = c.in_ok-touched.ensures.items_if_clones_equal (λ y e. e) in
    let marked : c.in_ok-marked.marked.items ≡ replicate n false = c.in_ok-marked.ensures.items_if_clones_equal (λ y e. e) in
    at-start g.U.Updater.answer f c.requires.frame lists c.in_ok-starts.ensures
    (c.in_ok-old_now.ensures.items ∙ c.as_slice-values.ensures ∙ c.deref.ensures)
    (c.in_ok-new_now.ensures.items ∙ c.as_slice-values.ensures ∙ c.deref.ensures)
    (c.in_ok-new_before.ensures.items ∙ c.as_slice-values.ensures ∙ c.deref.ensures)
    c.requires.degrees.before.size
    (elim (cases_Bool f.by_degree) [
      | inl t ↦ inr (c.requires.degrees.before.each t)
      | inr e ↦ inl (c.requires.frame.degree e)
    ])
    c.requires.degrees.before.small
    c.requires.degrees.after.size
    (elim (cases_Bool f.by_degree) [
      | inl t ↦ inr (c.requires.degrees.after.each t)
      | inr e ↦ inl (c.requires.frame.degree e)
    ])
    c.requires.degrees.after.small
    (ap (λ (bs : List Bool). length bs) touched ∙ length-replicate n f.first ∙ count)
    (λ v low. ap (λ (bs : List Bool). get_or bs v false) touched ∙ all-first n v f.first (omega (arith, low, count)))
    (ap (λ (bs : List Bool). length bs) parted ∙ length-replicate n false ∙ count)
    (ap (λ (bs : List Bool). length bs) marked ∙ length-replicate n false ∙ count)
    (c.in_ok-watched.ensures.size ∙ count)
    c.in_ok-watched.ensures.tails
    (told-grouped (λ (a : Arc). a.tail.0) f.graph.now f.rows.now.by_head f.turned.now f.first f.old.now f.new.now c.in_ok-turned.turned n count c.in_ok-turned.ensures.rows c.in_ok-turned.ensures.same c.requires.frame.arcs c.requires.frame.turned)
    (λ e. c.keeps_messages-may.ensures (c.in_ok-alike.ensures.only e))
    (sent-at lists.alike f.program.now f.graph.now _ _ _ _ _ _ (sym c.deref-2.ensures.value) (sym (c.as_slice-values.ensures ∙ c.deref.ensures)) refl c.in_ok-alike.ensures.sent)
    (subst (λ (k : ℕ). IsQueue k c.in_ok-queue.queue) count c.in_ok-queue.ensures.queue)
