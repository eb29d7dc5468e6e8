use Rattle.std.proofs.Common.{◌∷◌, ◌-◌, [], ℕ, List, length, take, drop}
use Rattle.gvdl_tokens.specs.declared.token.Token.TheVariants as t
use Rattle.gvdl_tokens.specs.declared.token.Sign.TheVariants as s
use Rattle.gvdl_printer.specs.Layout.{plain, sign, call_open}
use Rattle.gvdl_printer.specs.Canonical.{joined, in_call}
use Rattle.gvdl_printer.proofs.Growing.{then_more, part_more, call_done, called_is, ended}
use Rattle.gvdl_printer.proofs.program.params.Goals as goal

pub loop-other-preserved : goal.loop-other-preserved
loop-other-preserved c =
    part_more (λ (x : List ℕ). sign s.Comma ∷ plain (t.Name x) ∷ []) (take (length c.args.names.now - 1) (drop 1 c.args.names.now)) c.loop-other.other-index c.other-item.result c.loop-other.page c.name-in-loop-other.new.self _ c.loop-other-test.true c.other-item.is
    (then_more _ _ _ _ _ c.in_ok-sign-in-len1-up.ensures c.in_ok-name-in-len1-up-2.ensures) c.loop-other.invariant

pub returns-after-loop-other : goal.returns-after-loop-other
returns-after-loop-other c =
    ended c.sign-in-len1-up.result c.args.page.now c.loop-other.page c.sign-in-len1-up.new.self (call_open ∷ joined (sign s.Comma) (λ (p : List ℕ). plain (t.Name p) ∷ []) c.args.names.now) (sign s.Close ∷ []) (in_call (λ (p : List ℕ). plain (t.Name p) ∷ []) c.args.names.now)
    (call_done (λ (p : List ℕ). plain (t.Name p) ∷ []) c.args.names.now c.first-item.result c.loop-other.other-index c.args.page.now c.call_open.new.self c.name.new.self c.loop-other.page c.in-len1-up.len_at_least c.first-item.is c.in_ok-call_open-in-len1-up.ensures c.in_ok-name-in-len1-up.ensures c.loop-other-test.false c.loop-other.invariant)
    c.sign-in-len1-up.ensures (called_is (λ (p : List ℕ). plain (t.Name p) ∷ []) c.args.names.now c.in-len1-up.len_at_least)
