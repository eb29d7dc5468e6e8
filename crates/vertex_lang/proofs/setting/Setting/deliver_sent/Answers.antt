use Rattle.std.proofs.Common.{◌≡◌, ◌∙◌, ◌<◌, ◌++◌, ◌∷◌, [], List, false, length, get_or, take, set, ap, sym, subst, arith}
use Rattle.std.proofs.lemmas.List.{take_more, length-take}
use Rattle.graph_model.specs.declared.value.Val.{Val}
use Rattle.vertex_lang.specs.declared.arc.Arc.{Arc}
use Rattle.vertex_lang.specs.declared.mail.Mail.{Mail}
use Rattle.vertex_lang.specs.Rounds.{carried}
use Rattle.vertex_lang.specs.Mail.{HasMail, mail_with, no_mail}
use Rattle.vertex_lang.proofs.Deliveries.{mail_step, messages_small, bounded_set}
use Rattle.vertex_lang.proofs.setting.Setting.deliver_sent.Goals as goal

abbrev no_arc : Arc
no_arc = record { tail = record { 0 = 0 }; head = record { 0 = 0 }; edge = record { 0 = 0 }; back = false }

pub with-requires-clause-room : goal.with-requires-clause-room
with-requires-clause-room c =
    let i = c.loop-arc.arc-index in
    let a = get_or c.args.self.now.arcs.now i no_arc in
    let is_arc = c.args.self.now.fits.are_arcs i no_arc c.loop-arc-test.true in
    let within : a.head.0 < length c.loop-arc.mail = omega (arith, c.loop-arc.auto.mail, is_arc.head, c.requires.mail_size) in
    let f = carried c.args.self.now.program.now c.args.self.now.graph.now c.args.self.now.arcs.now c.args.values.now in
    omega (arith, ap (λ (m : Mail). m.count) (c.loop-arc.invariant.mail a.head.0 within), messages_small f (take i c.args.self.now.arcs.now) a.head.0, length-take i c.args.self.now.arcs.now, c.args.self.now.fits.few)

pub loop-arc-preserved : goal.loop-arc-preserved
loop-arc-preserved c =
    let i = c.loop-arc.arc-index in
    let arcs = c.args.self.now.arcs.now in
    let a = get_or arcs i no_arc in
    let kind = c.args.self.now.program.now.gather in
    let mail = c.loop-arc.mail in
    let is_arc = c.args.self.now.fits.are_arcs i no_arc c.loop-arc-test.true in
    let within : a.head.0 < length mail = omega (arith, c.loop-arc.auto.mail, is_arc.head, c.requires.mail_size) in
    let f = carried c.args.self.now.program.now c.args.self.now.graph.now arcs c.args.values.now in
    let new : c.with.result ≡ mail_with kind (get_or mail a.head.0 no_mail) (f a) = c.with.ensures.mail ∙ ap (λ (m : Val). mail_with kind (get_or mail a.head.0 no_mail) m) (c.requires.sent a.tail.0 a.edge.0 is_arc.tail) in
    let P = λ (xs : List Arc) (m : Mail). HasMail kind f xs (set mail a.head.0 m) in
    record {
      mail = subst (λ (xs : List Arc). P xs c.with.result) (sym (take_more arcs i no_arc c.loop-arc-test.true)) (subst (λ (m : Mail). P (take i arcs ++ a ∷ []) m) (sym new) (mail_step kind f (take i arcs) a mail within c.loop-arc.invariant.mail));
      bounded = bounded_set mail a.head.0 c.with.result c.loop-arc.invariant.bounded c.with.ensures.bounded;
    }
