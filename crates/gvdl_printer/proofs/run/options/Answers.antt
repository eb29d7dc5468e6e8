use Rattle.std.proofs.Common.{◌≡◌, ◌++◌, ◌∷◌, [], List, append_assoc}
use Rattle.gvdl_tokens.specs.declared.token.Sign.TheVariants as s
use Rattle.gvdl_printer.specs.Layout.{Piece, sign}
use Rattle.gvdl_printer.specs.Canonical.{order_pieces, split_pieces, keep_pieces, phases_pieces, options_pieces}
use Rattle.gvdl_printer.proofs.Growing.{then_more, ended}
use Rattle.gvdl_printer.proofs.run.options.Goals as goal

five : (m d s k e : List Piece) → (((m ++ d) ++ s) ++ k) ++ e ≡ m ++ (d ++ (s ++ (k ++ e)))
five m d s k e = simp append_assoc

pub returns : goal.returns
returns c =
    let m : List Piece = phases_pieces c.args.limits.phases in
    let d : List Piece = order_pieces c.args.limits.order in
    let p : List Piece = split_pieces c.args.limits.split in
    let k : List Piece = keep_pieces c.args.kept.now in
    let z : List Piece = sign s.Semicolon ∷ [] in
    ended c.sign.result c.args.page.now c.keep.new.page c.sign.new.self (((m ++ d) ++ p) ++ k) z (options_pieces c.args.limits.order c.args.limits.split c.args.kept.now c.args.limits.phases)
    (then_more _ _ _ _ _ (then_more _ _ _ _ _ (then_more _ _ _ _ _ c.in_ok-phases.ensures c.in_ok-order.ensures) c.in_ok-split.ensures) c.in_ok-keep.ensures)
    c.sign.ensures (five m d p k z)
