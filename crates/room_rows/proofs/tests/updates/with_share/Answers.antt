use Rattle.std.proofs.Common.{◌∙◌}
use Rattle.room_rows.proofs.Fitting.{share_fits}
use Rattle.room_rows.proofs.tests.updates.with_share.Goals as goal

pub returns : goal.returns
returns c = share_fits c.program.result _ _ _ _ _ _ (c.program.ensures ∙ c.in_ok-update.ensures) c.in_ok-rest.ensures c.in_ok-share.ensures
