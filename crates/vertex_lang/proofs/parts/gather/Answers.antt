use Rattle.std.proofs.Common.{◌≡◌, ◌∙◌, ◌+◌, ℕ, List, get_or, take, take_all, ap, sym, arith}
use Rattle.std.proofs.lemmas.List.Sums.{sum_by_more}
use Rattle.graph_model.specs.declared.value.Val.{Val}
use Rattle.graph_model.specs.declared.value.Val.TheVariants.{Nil}
use Rattle.vertex_lang.specs.declared.mail.Mail.{Mail}
use Rattle.vertex_lang.specs.Mail.{gathered_in, mail_with_many}
use Rattle.vertex_lang.specs.Arcs.{gathered_of, repeated}
use Rattle.vertex_lang.specs.LowestGiven.{lowest_gathered}
use Rattle.vertex_lang.proofs.Deliveries.{gathered_is, mail_repeated, many_count}
use Rattle.vertex_lang.proofs.parts.gather.Goals as goal

pub loop-message-preserved : goal.loop-message-preserved
loop-message-preserved c =
    let i = c.loop-message.message-index in
    let ms = c.args.messages.now in
    let m = get_or ms i (Nil, 0) in
    let low = c.loop-message-test.true in
    record {
      mail = c.with_many-mail.ensures.mail ∙ ap (λ (x : Mail). mail_with_many c.args.kind x m.0 m.1) c.loop-message.invariant.mail ∙ sym (mail_repeated c.args.kind ms i (Nil, 0) low (c.requires.sent i (Nil, 0) low));
      count = ap (λ (x : Mail). x.count) c.with_many-mail.ensures.mail ∙ many_count c.args.kind c.loop-message.mail m.0 m.1 (c.requires.sent i (Nil, 0) low) ∙ ap (λ (k : ℕ). k + m.1) c.loop-message.invariant.count ∙ sym (sum_by_more (λ (p : Val × ℕ). p.1) ms i (Nil, 0) low);
      bounded = c.with_many-mail.ensures.bounded;
    }

pub returns-clause-lowest : goal.returns-clause-lowest
returns-clause-lowest c =
    let i = c.loop-message.message-index in
    let ms = c.args.messages.now in
    let kind = c.args.kind in
    let all : take i ms ≡ ms = take_all i ms (omega arith) in
    let value : c.gathered.result ≡ gathered_of kind (repeated ms) =
    c.gathered.ensures ∙ ap (gathered_in kind) c.loop-message.invariant.mail ∙ gathered_is kind (repeated (take i ms)) ∙ ap (λ (xs : List (Val × ℕ)). gathered_of kind (repeated xs)) all in
    λ e. lowest_gathered kind (repeated ms) (sym value ∙ e)
