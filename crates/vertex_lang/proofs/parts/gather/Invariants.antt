use Rattle.std.proofs.Common.{◌≡◌, take}
use Rattle.std.specs.Prelude.{sum_by}
use Rattle.vertex_lang.specs.Arcs.{repeated}
use Rattle.vertex_lang.specs.Mail.{mail_of, IsBounded}
use Rattle.vertex_lang.proofs.parts.gather.Given as goal

abbrev pub invariant-loop-message : goal.invariant-loop-message
invariant-loop-message l = record {
  mail : l.mail ≡ mail_of l.kind (repeated (take l.message-index l.messages));
  count : l.mail.count ≡ sum_by (λ m. m.1) (take l.message-index l.messages);
  bounded : IsBounded l.mail;
}
