use Rattle.std.proofs.Common.{List, All, sym, subst}
use Rattle.change_text.specs.declared.row.Row.{Row}
use Rattle.change_text.specs.declared.kind.Kind.{Kind}
use Rattle.change_text.specs.Blocks.{Differs}
use Rattle.change_text.specs.Inside.{Advances}
use Rattle.change_text.proofs.tables.advance.Goals as goal

pub change_rows-requires-clause-differ : goal.change_rows-requires-clause-differ
change_rows-requires-clause-differ c =
    subst (λ (rs : List Row). All (Differs rs) c.args.rows.now) (sym c.deref_mut.ensures.value)
    (subst (λ (k : Kind). Advances k c.args.table.now.items c.args.rows.now) c.in-Change.is c.requires).2
