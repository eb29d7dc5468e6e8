-- The layer comes behind those that stay, and the others are dropped.
use Rattle.std.proofs.Common.{◌≡◌, ◌∙◌, ◌+◌, take, ap, sym}
use Rattle.trace_store.proofs.Joined.{cut_behind, with_one}
use Rattle.trace_store.proofs.layers.put_layer.Goals as goal

pub returns-clause-ok : goal.returns-clause-ok
returns-clause-ok g c =
    c.truncate-2.ensures.items ∙ ap (take (c.args.stay + 1)) c.in_ok-insert.ensures.items
    ∙ cut_behind c.args.layers.now.items c.args.stay c.args.newest _ c.requires
    ∙ with_one (take c.args.stay c.args.layers.now.items) c.args.newest (λ z. c.if-len-eq0.false (c.len.ensures.value ∙ z))
