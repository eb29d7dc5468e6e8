-- The last of some views.
use Rattle.std.proofs.Common.{sym, ◌∙◌, ◌-◌, length}
use Rattle.view_engine.proofs.Deciding.{last_number, some_there}
use Rattle.view_engine.proofs.counting.last_view.Goals as goal

pub returns-clause-value : goal.returns-clause-value
returns-clause-value c =
    sym (last_number c.args.views.now (length c.args.views.now - 1) (record { 0 = 0 }) (some_there (length c.args.views.now) (sym c.is_empty.ensures ∙ c.if-is_empty.false)))
