use Rattle.std.proofs.Common.{rc_value, map, ◌∙◌, ◌++◌, ◌∷◌, [], ap, List, arith}
use Rattle.change_lists.proofs.Chaining.{short-more}
use Rattle.change_lists.proofs.chained.ChainedLists.push.Goals as goal

pub returns : goal.returns
returns g c =
    let inside = c.self.inside in
    let items = c.extend_from_slice.new.self in
    short-more inside.items.items c.args.list.now items.items (map rc_value inside.long.items) inside.sites.items c.push.new.self.items c.len-from.result c.len.result c.self.invariant
    (omega (arith, c.len-from.ensures, inside.items.ok)) c.in_ok-extend_from_slice.ensures.items (omega (arith, c.len.ensures, items.ok)) c.in_ok-push.ensures.items
    ∙ ap (λ (xss : List (List g.row.T.Denot)). xss ++ c.args.list.now ∷ []) c.self.view_is
