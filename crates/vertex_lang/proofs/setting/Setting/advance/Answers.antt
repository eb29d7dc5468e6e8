use Rattle.std.proofs.Common.{◌≡◌, ◌∙◌, ◌<◌, List, map, ap, sym, subst, length, length-take, take_at, arith}
use Rattle.graph_model.specs.declared.value.Val.{Val}
use Rattle.graph_model.specs.GraphData.{id_of}
use Rattle.vertex_lang.specs.declared.mail.Mail.{Mail}
use Rattle.vertex_lang.specs.Phases.{next_with, next_with_of}
use Rattle.vertex_lang.specs.RoundLaws.{same_over_nodes}
use Rattle.vertex_lang.specs.Rounds.{value_at, nodes_of, received, carried}
use Rattle.vertex_lang.specs.Mail.{next_from, gathered_in, HasMail}
use Rattle.vertex_lang.proofs.Deliveries.{messages_small, gathered_is}
use Rattle.vertex_lang.proofs.setting.Setting.advance.Goals as goal

pub update_all-requires-clause-counts : goal.update_all-requires-clause-counts
update_all-requires-clause-counts g c =
    let p = c.args.self.now.program.now in
    let arcs = c.args.self.now.arcs.now in
    let graph = c.args.self.now.graph.now in
    let old = c.args.lists.now.values.items in
    let f = carried p graph arcs old in
    let same : c.deref-2.result.now ≡ c.deliver.new.mail =
    c.deref-2.ensures.value ∙ take_at c.deliver.new.mail _ c.args.lists.now.mail.len (omega (arith, c.deliver.auto.mail, c.args.lists.now.mail.ok, length-take c.args.lists.now.mail.len c.args.lists.now.mail.items)) in
    let has : HasMail p.gather f arcs c.deref-2.result.now =
    subst (λ (ms : List Mail). HasMail p.gather f arcs ms) (sym same) (subst (λ (vs : List Val). HasMail p.gather (carried p graph arcs vs) arcs c.deliver.new.mail) c.deref.ensures.value c.deliver.ensures) in
    λ i low. omega (arith, ap (λ (m : Mail). m.count) (has i low), messages_small f arcs i, c.args.self.now.fits.few)

pub returns-clause-values : goal.returns-clause-values
unfolding next_with
returns-clause-values g c =
    let p = c.args.self.now.program.now in
    let graph = c.args.self.now.graph.now in
    let arcs = c.args.self.now.arcs.now in
    let old = c.args.lists.now.values.items in
    let starts = c.args.self.now.starts.now in
    let mail = c.deref-2.result.now in
    let f = carried p graph arcs old in
    let same : c.deref-2.result.now ≡ c.deliver.new.mail =
    c.deref-2.ensures.value ∙ take_at c.deliver.new.mail _ c.args.lists.now.mail.len (omega (arith, c.deliver.auto.mail, c.args.lists.now.mail.ok, length-take c.args.lists.now.mail.len c.args.lists.now.mail.items)) in
    let has : HasMail p.gather f arcs mail =
    subst (λ (ms : List Mail). HasMail p.gather f arcs ms) (sym same) (subst (λ (vs : List Val). HasMail p.gather (carried p graph arcs vs) arcs c.deliver.new.mail) c.deref.ensures.value c.deliver.ensures) in
    let answer = g.U.Updater.answer in
    let n = length graph.ids in
    let was : c.deref_mut-3.result.now ≡ old = c.deref_mut-3.ensures.value in
    let kept = take_at c.update_all.new.values _ c.args.lists.now.values.len (omega (arith, c.update_all.auto.values, c.args.lists.now.values.ok, length-take c.args.lists.now.values.len c.args.lists.now.values.items, ap (λ (vs : List Val). length vs) was)) in
    kept ∙ c.update_all.ensures.values ∙ ap (λ (vs : List Val). map (next_from answer p graph starts mail vs) (nodes_of graph)) was ∙ same_over_nodes (next_from answer p graph starts mail old) (next_with_of answer p graph starts arcs old) n (λ k low.
    let ms = received p graph arcs old k in
    let within : k < length mail = omega (arith, ap (λ (xs : List Mail). length xs) same, c.deliver.auto.mail, c.requires.sizes.mail_size) in
    ap (λ (m : Mail). answer p (id_of graph k) (value_at starts k) (value_at old k) (gathered_in p.gather m) m.count) (has k within)
    ∙ ap (λ (v : Val). answer p (id_of graph k) (value_at starts k) (value_at old k) v (length ms)) (gathered_is p.gather ms))
