use Rattle.std.proofs.Common.{rc_value, map, ◌∙◌, ◌-◌, [], sym, ap, List, get_or, take, drop, arith}
use Rattle.change_lists.proofs.Chaining.{short-at}
use Rattle.change_lists.proofs.chained.ChainedLists.at.Goals as goal

pub returns-in-Short : goal.returns-in-Short
returns-in-Short g c =
    let inside = c.self.inside in
    c.part.ensures ∙ ap (λ (xs : List g.row.T.Denot). take (c.in-Short.to - c.in-Short.from) (drop c.in-Short.from xs)) c.deref.ensures.value
    ∙ short-at inside.items.items (map rc_value inside.long.items) inside.sites.items c.args.place c.index.result.now c.in-Short.from c.in-Short.to c.self.invariant
    (omega (arith, c.if-place-len.false, c.len.ensures, inside.sites.ok)) (sym c.index.ensures ∙ c.in-Short.is)
    ∙ ap (λ (xss : List (List g.row.T.Denot)). get_or xss c.args.place []) c.self.view_is
