use Rattle.std.proofs.Common.{Option, Some, None}
use Rattle.std.specs.Prelude.{IfNone}
use Rattle.gvdl_tokens.proofs.Words.{none_among}
use Rattle.gvdl_tokens.proofs.word.word_of.Goals as goal

if_none : {A P Q : Type 0} (o : Option A) → (P → Q) → IfNone o P → IfNone o Q
if_none None f h = f h
if_none (Some a) f h = h

pub returns-clause-none : goal.returns-clause-none
returns-clause-none c = if_none c.word_among.result (none_among c.args.run.now) c.word_among.ensures.none
