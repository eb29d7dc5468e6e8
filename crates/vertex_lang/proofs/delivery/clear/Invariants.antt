use Rattle.std.proofs.Common.{◌≡◌, ◌<◌, ℕ, get_or}
use Rattle.vertex_lang.specs.Mail.{no_mail}
use Rattle.vertex_lang.proofs.delivery.clear.Given as goal

abbrev pub invariant-loop-place : goal.invariant-loop-place
invariant-loop-place l = (k : ℕ) → k < l.place-index → get_or l.mail k no_mail ≡ no_mail
