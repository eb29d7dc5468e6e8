use Rattle.std.proofs.Common.{rc_value, map, ◌∙◌, sym, ap, List, take}
use Rattle.std.proofs.lemmas.List.{take-map}
use Rattle.change_lists.specs.declared.chained.Site.{Site}
use Rattle.change_lists.specs.Chained.{list_at, lists_at}
use Rattle.change_lists.proofs.chained.ChainedLists.truncate.Goals as goal

pub returns : goal.returns
returns g c =
    let inside = c.self.inside in
    ap (λ (all : List Site). lists_at inside.items.items (map rc_value inside.long.items) all) c.truncate.ensures.items
    ∙ sym (take-map (list_at inside.items.items (map rc_value inside.long.items)) c.args.count inside.sites.items)
    ∙ ap (λ (xss : List (List g.row.T.Denot)). take c.args.count xss) c.self.view_is
