use Rattle.std.proofs.Common.{◌≡◌, ◌+◌, ◌++◌, ◌∷◌, [], List, pos, get_or, take, filter, sym, subst}
use Rattle.graph_model.specs.declared.value.Val.{Val}
use Rattle.vertex_lang.specs.Arcs.{is_sent}
use Rattle.message_forms.specs.declared.edge_step.Link.{Link}
use Rattle.value_codes.specs.Numbers.{number_over, sent_over}
use Rattle.round_inputs.specs.Links.{brought_over, values_over}
use Rattle.round_inputs.specs.Inputs.{AreLeft}
use Rattle.value_codes.specs.SentLaws.{sent-more}
use Rattle.round_inputs.proofs.tails.fill_by_links.Goals as goal

abbrev no_link : Link
no_link = record { tail = record { 0 = 0 }; step = pos 0 }

pub loop-link-preserved : goal.loop-link-preserved
loop-link-preserved c =
    let numbers = c.args.numbers.now in
    let values = c.args.values.now in
    let links = c.args.links.now in
    let i = c.loop-link.link-index in
    let l = get_or links i no_link in
    let first = c.push_over_link.new.first.items in
    let second = c.push_over_link.new.second.items in
    let ls = sent_over numbers (take i links) in
    let rs = values_over values (take i links) in
    let lmore : sent_over numbers (take (i + 1) links) ≡ ls ++ filter is_sent (number_over numbers l ∷ []) = sent-more (number_over numbers) links i no_link c.loop-link-test.true in
    let rmore : values_over values (take (i + 1) links) ≡ rs ++ filter is_sent (brought_over values l ∷ []) = sent-more (brought_over values) links i no_link c.loop-link-test.true in
    subst (λ (xs : List Val). AreLeft first second xs (values_over values (take (i + 1) links))) (sym lmore)
    (subst (λ (xs : List Val). AreLeft first second (ls ++ filter is_sent (number_over numbers l ∷ [])) xs) (sym rmore) (c.in_ok-push_over_link.ensures ls rs c.loop-link.invariant))
