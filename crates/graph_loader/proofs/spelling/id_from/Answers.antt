use Rattle.std.proofs.Common.{◌≡◌, ◌∙◌, sym, get_or, true, arith}
use Rattle.std.specs.Char.{is_ascii_digit}
use Rattle.graph_loader.proofs.SpellingFacts.{fits, read_more}
use Rattle.graph_loader.proofs.spelling.id_from.Goals as goal

pub overflow_mul-value : goal.overflow_mul-value
overflow_mul-value c =
    let sum = fits c.args.field.now c.loop-byte.byte-index c.loop-byte.value 0 c.loop-byte.invariant (omega arith) (omega arith) (omega arith) in
    omega arith

pub overflow_add-value : goal.overflow_add-value
overflow_add-value c =
    let sum = fits c.args.field.now c.loop-byte.byte-index c.loop-byte.value c.from.result c.loop-byte.invariant (omega arith) (omega arith) (omega (arith, c.if-not-is_ascii_digit.ensures.cases)) in
    omega arith

pub loop-byte-preserved : goal.loop-byte-preserved
loop-byte-preserved c =
    let b = get_or c.args.field.now c.loop-byte.byte-index 0 in
    let digit : is_ascii_digit b ≡ true = sym c.is_ascii_digit.ensures.value ∙ c.if-not-is_ascii_digit.false in
    rw c.from.ensures (read_more c.args.field.now c.loop-byte.byte-index c.loop-byte.value c.loop-byte.invariant c.loop-byte-test.true digit (omega (arith, c.if-not-is_ascii_digit.ensures.cases)))
