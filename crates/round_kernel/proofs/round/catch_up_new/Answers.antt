use Rattle.std.proofs.Common.{◌≡◌, ◌∙◌, ◌-◌, List, length, sym, ap, refl, arith}
use Rattle.std.proofs.lemmas.List.{with_items_is}
use Rattle.graph_model.specs.declared.value.Val.{Val}
use Rattle.vertex_lang.specs.RoundLaws.{length-lone}
use Rattle.round_kernel.specs.Frames.{count_in, lone_at, new_arcs}
use Rattle.round_kernel.proofs.Marking.{moved}
use Rattle.round_kernel.proofs.round.catch_up_new.Goals as goal

pub catch_up-requires-clause-size : goal.catch_up-requires-clause-size
catch_up-requires-clause-size g c =
    let f = c.args._frame in
    ap (λ (vs : List Val). length vs) (c.deref_mut.ensures.value ∙ c.requires.was) ∙ length-lone g.U.Updater.answer f.program.now f.graph.now (new_arcs f) (c.args.round - 1)
    ∙ sym (ap (λ (vs : List Val). length vs) (c.deref.ensures.value ∙ c.requires.now) ∙ length-lone g.U.Updater.answer f.program.now f.graph.now (new_arcs f) c.args.round)

pub catch_up-requires-clause-within : goal.catch_up-requires-clause-within
catch_up-requires-clause-within g c = λ k d low.
    let f = c.args._frame in
    omega (arith, (c.requires.before (omega (arith, c.if-round-eq0.false))).within k d low, ap (λ (vs : List Val). length vs) (c.deref.ensures.value ∙ c.requires.now), length-lone g.U.Updater.answer f.program.now f.graph.now (new_arcs f) c.args.round)

pub returns-clause-new : goal.returns-clause-new
returns-clause-new g c =
    let answer = g.U.Updater.answer in
    let f = c.args._frame in
    let r = c.args.round in
    let lists = c.args.lists.now in
    let size : length c.catch_up.new.before ≡ lists.new_before.len = omega (arith, c.catch_up.auto.before, ap (λ (vs : List Val). length vs) c.deref_mut.ensures.value, lists.new_before.ok) in
    let was = c.deref_mut.ensures.value ∙ c.requires.was in
    let now = c.deref.ensures.value ∙ c.requires.now in
    let count : length c.deref.result.now ≡ count_in f = ap (λ (vs : List Val). length vs) now ∙ length-lone answer f.program.now f.graph.now (new_arcs f) r in
    with_items_is lists.new_before c.catch_up.new.before size
    ∙ c.catch_up.ensures.all (moved (length c.deref.result.now) (count_in f) c.deref_mut.result.now (lone_at answer f (r - 1)) c.deref.result.now (lone_at answer f r) c.args.before.now c.args.before.now count was now refl (c.requires.before (omega (arith, c.if-round-eq0.false))))
    ∙ now
