use Rattle.gvdl_tokens.proofs.Enclosing.{one_read}
use Rattle.gvdl_tokens.proofs.enclosed.read_enclosed.Goals as goal

pub characters-preserved : goal.characters-preserved
characters-preserved c =
    one_read c.args.quote c.in-Character.b c.args.bytes.now c.characters.content c.characters.rest.now c.push.new.self c.in-Character.left.now c.characters.invariant c.in-Character.ensures c.in_ok-push-in-Character.ensures.ok
