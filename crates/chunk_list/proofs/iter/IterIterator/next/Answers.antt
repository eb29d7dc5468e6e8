-- The first of what is left.
use Rattle.std.proofs.Common.{◌∙◌, sym}
use Rattle.chunk_list.proofs.Pieces.{left}
use Rattle.chunk_list.proofs.iter.IterIterator.next.Goals as goal

pub returns-clause-steps : goal.returns-clause-steps
returns-clause-steps g c = sym c.self.view_is ∙ left c.self.inside.list.now.items c.self.inside.at c.get-item.result c.get-item.ensures
