use Rattle.std.proofs.Common.{List, Bool, ℕ, sym, subst}
use Rattle.view_matrix.specs.Columns.{AreWords}
use Rattle.view_matrix.proofs.Columns.{words_of}
use Rattle.view_matrix.proofs.column.Column.words.Goals as goal

pub returns : goal.returns
returns c =
    let words = c.self.inside.words.items in
    let invariant = c.self.invariant in
    subst (λ (xs : List ℕ). AreWords c.args.self.now xs) (sym c.as_slice-words.ensures.value)
    (subst (λ (bs : List Bool). AreWords bs words) c.self.view_is (words_of words c.self.inside.len invariant.few invariant.count invariant.behind invariant.small))
