use Rattle.std.proofs.Common.{◌∙◌, ◌++◌, ◌∷◌, [], ap, List, arith, map, rc_value}
use Rattle.std.proofs.lemmas.List.{map-append, length-map}
use Rattle.change_lists.proofs.Chaining.{long-more}
use Rattle.change_lists.proofs.chained.ChainedLists.push_shared.Goals as goal

pub returns : goal.returns
returns g c =
    let inside = c.self.inside in
    let had = map rc_value inside.long.items in
    long-more inside.items.items c.args.list.value had (map rc_value c.push.new.self.items) inside.sites.items c.push-2.new.self.items c.len-number.result c.self.invariant
    (omega (arith, c.len-number.ensures, inside.long.ok, length-map inside.long.items rc_value))
    (ap (map rc_value) c.in_ok-push.ensures.items ∙ map-append rc_value inside.long.items _)
    c.in_ok-push-2.ensures.items
    ∙ ap (λ (xss : List (List g.row.T.Denot)). xss ++ c.args.list.value ∷ []) c.self.view_is
