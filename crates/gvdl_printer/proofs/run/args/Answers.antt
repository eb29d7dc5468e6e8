use Rattle.std.proofs.Common.{◌∷◌, ◌-◌, [], length, take, drop}
use Rattle.gvdl_tokens.specs.declared.token.Sign.TheVariants as s
use Rattle.gvdl_tree.specs.declared.script.Arg.{Arg}
use Rattle.gvdl_printer.specs.Layout.{sign, call_open}
use Rattle.gvdl_printer.specs.Canonical.{joined, in_call, arg_pieces}
use Rattle.gvdl_printer.proofs.Growing.{then_more, ended, part_more, call_done, called_is}
use Rattle.gvdl_printer.proofs.run.args.Goals as goal

pub loop-other-preserved : goal.loop-other-preserved
loop-other-preserved c =
    part_more (λ (x : Arg). sign s.Comma ∷ arg_pieces x) (take (length c.args.given.now - 1) (drop 1 c.args.given.now)) c.loop-other.other-index c.other-item.result c.loop-other.page c.arg-in-loop-other.new.page _ c.loop-other-test.true c.other-item.is
    (then_more _ _ _ _ _ c.in_ok-sign-in-len1-up.ensures c.in_ok-arg-in-len1-up-2.ensures) c.loop-other.invariant

pub returns-after-loop-other : goal.returns-after-loop-other
returns-after-loop-other c =
    ended c.sign-in-len1-up.result c.args.page.now c.loop-other.page c.sign-in-len1-up.new.self (call_open ∷ joined (sign s.Comma) arg_pieces c.args.given.now) (sign s.Close ∷ []) (in_call arg_pieces c.args.given.now)
    (call_done arg_pieces c.args.given.now c.first-item.result c.loop-other.other-index c.args.page.now c.call_open.new.self c.arg.new.page c.loop-other.page c.in-len1-up.len_at_least c.first-item.is c.in_ok-call_open-in-len1-up.ensures c.in_ok-arg-in-len1-up.ensures c.loop-other-test.false c.loop-other.invariant)
    c.sign-in-len1-up.ensures (called_is arg_pieces c.args.given.now c.in-len1-up.len_at_least)
