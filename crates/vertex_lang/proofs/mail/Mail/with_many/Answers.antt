use Rattle.std.proofs.Common.{◌∙◌, rules, FitsSigned, w64, ap, sym, refl}
use Rattle.graph_model.specs.declared.value.Val.{Val}
use Rattle.vertex_lang.specs.Mail.{mail_with_many}
use Rattle.vertex_lang.proofs.Deliveries.{mail_from}
use Rattle.vertex_lang.proofs.Wide.{from_64, many_is, many_low, many_high, bounded_from}
use Rattle.vertex_lang.proofs.mail.Mail.with_many.Goals as goal

pub returns-in-Num-clause-mail : goal.returns-in-Num-clause-mail
returns-in-Num-clause-mail c =
    let number = c.in-Num.number in
    let fits : FitsSigned w64 number = search rules in
    let sum = many_is c.args.self number c.args.times c.requires.bounded fits c.requires.room c.from.result c.from-in-Num.result (from_64 c.from.result number fits c.from.ensures) c.from-in-Num.ensures in
    mail_from _ _ _ _ _ _ c.join_many.ensures sum refl ∙ ap (λ (v : Val). mail_with_many c.args.kind c.args.self v c.args.times) (sym c.in-Num.is)

pub returns-in-Num-clause-bounded : goal.returns-in-Num-clause-bounded
returns-in-Num-clause-bounded c =
    let number = c.in-Num.number in
    let fits : FitsSigned w64 number = search rules in
    let sum = many_is c.args.self number c.args.times c.requires.bounded fits c.requires.room c.from.result c.from-in-Num.result (from_64 c.from.result number fits c.from.ensures) c.from-in-Num.ensures in
    bounded_from _ _ _ _ (sym sum) (many_low c.args.self number c.args.times c.requires.bounded fits c.requires.room) (many_high c.args.self number c.args.times c.requires.bounded fits c.requires.room)
