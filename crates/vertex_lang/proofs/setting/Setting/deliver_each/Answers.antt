use Rattle.std.proofs.Common.{◌≡◌, ◌∙◌, ◌<◌, ◌++◌, ◌∷◌, [], List, false, length, get_or, take, set, ap, sym, subst, arith}
use Rattle.std.proofs.lemmas.List.{take_more, length-take}
use Rattle.vertex_lang.specs.declared.arc.Arc.{Arc}
use Rattle.vertex_lang.specs.declared.mail.Mail.{Mail}
use Rattle.vertex_lang.specs.Expressions.{sent_by}
use Rattle.vertex_lang.specs.Rounds.{carried, value_at}
use Rattle.vertex_lang.specs.Mail.{HasMail, mail_with, no_mail}
use Rattle.vertex_lang.proofs.Deliveries.{mail_step, messages_small}
use Rattle.vertex_lang.proofs.setting.Setting.deliver_each.Goals as goal

abbrev no_arc : Arc
no_arc = record { tail = record { 0 = 0 }; head = record { 0 = 0 }; edge = record { 0 = 0 }; back = false }

pub deliver_one-requires-clause-room : goal.deliver_one-requires-clause-room
deliver_one-requires-clause-room c =
    let i = c.loop-arc.arc-index in
    let a = get_or c.args.self.now.arcs.now i no_arc in
    let is_arc = c.args.self.now.fits.are_arcs i no_arc c.loop-arc-test.true in
    let within : a.head.0 < length c.loop-arc.mail = omega (arith, c.loop-arc.auto.mail, is_arc.head) in
    let f = carried c.args.self.now.program.now c.args.self.now.graph.now c.args.self.now.arcs.now c.args.values.now in
    omega (arith, ap (λ (m : Mail). m.count) (c.loop-arc.invariant.mail a.head.0 within), messages_small f (take i c.args.self.now.arcs.now) a.head.0, length-take i c.args.self.now.arcs.now, c.args.self.now.fits.few)

pub loop-arc-preserved : goal.loop-arc-preserved
loop-arc-preserved c =
    let i = c.loop-arc.arc-index in
    let arcs = c.args.self.now.arcs.now in
    let a = get_or arcs i no_arc in
    let kind = c.args.self.now.program.now.gather in
    let is_arc = c.args.self.now.fits.are_arcs i no_arc c.loop-arc-test.true in
    let within : a.head.0 < length c.loop-arc.mail = omega (arith, c.loop-arc.auto.mail, is_arc.head) in
    let tail_within : a.tail.0 < length c.args.self.now.degrees.items = omega (arith, c.args.self.now.fits.size, is_arc.tail) in
    let f = carried c.args.self.now.program.now c.args.self.now.graph.now arcs c.args.values.now in
    let message = ap (λ n. set c.loop-arc.mail a.head.0 (mail_with kind (get_or c.loop-arc.mail a.head.0 no_mail) (sent_by c.args.self.now.program.now c.args.self.now.graph.now a.tail.0 (value_at c.args.values.now a.tail.0) n a.edge.0))) (c.args.self.now.fits.counted a.tail.0 tail_within) in
    let new : c.deliver_one.new.mail ≡ set c.loop-arc.mail a.head.0 (mail_with kind (get_or c.loop-arc.mail a.head.0 no_mail) (f a)) = c.deliver_one.ensures.mail ∙ message in
    let P = λ (xs : List Arc) (m : List Mail). HasMail kind f xs m in
    record {
      mail = subst (λ (xs : List Arc). P xs c.deliver_one.new.mail) (sym (take_more arcs i no_arc c.loop-arc-test.true)) (subst (λ (m : List Mail). P (take i arcs ++ a ∷ []) m) (sym new) (mail_step kind f (take i arcs) a c.loop-arc.mail within c.loop-arc.invariant.mail));
      bounded = c.deliver_one.ensures.bounded;
    }
