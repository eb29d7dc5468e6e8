-- One more row that waits.
use Rattle.std.proofs.Common.{◌∙◌, ◌++◌, [], ◌∷◌, List, length, ap, sym, subst, arith}
use Rattle.change_text.specs.declared.row.Row.{Row}
use Rattle.change_text.specs.Memory.{AreEnds, FlatData, blocks_of, rows_left}
use Rattle.change_text.proofs.Holding.{are_more, blocks_stay, left_is, left_more, left_push}
use Rattle.change_text.proofs.flat.Flat.push.Goals as goal

pub overflow_add-self : goal.overflow_add-self
overflow_add-self c =
    let f = c.self.inside in
    omega (arith, (left_is f.ends.items f.heads.items f.rows.items c.self.invariant.are).0, c.self.invariant.waiting, f.rows.ok.0, f.rows.small)

pub invariant_of-self-2 : goal.invariant_of-self-2
invariant_of-self-2 c =
    let f = c.self.inside in
    record {
      are = subst (λ (rs : List Row). AreEnds f.ends.items f.heads.items rs) (sym c.in_ok-push.ensures.items)
          (are_more f.ends.items f.heads.items f.rows.items (c.args.row ∷ []) c.self.invariant.are);
      waiting = ap (λ (rs : List Row). length (rows_left f.ends.items rs)) c.in_ok-push.ensures.items
          ∙ left_push f.ends.items f.heads.items f.rows.items c.args.row f.waiting c.self.invariant.are c.self.invariant.waiting;
    }

pub returns-clause-blocks : goal.returns-clause-blocks
returns-clause-blocks c =
    let f = c.self.inside in
    ap (λ (rs : List Row). blocks_of f.ends.items f.heads.items rs) c.in_ok-push.ensures.items
    ∙ blocks_stay f.ends.items f.heads.items f.rows.items (c.args.row ∷ []) c.self.invariant.are ∙ ap (λ (d : FlatData). d.blocks) c.self.view_is

pub returns-clause-rows : goal.returns-clause-rows
returns-clause-rows c =
    let f = c.self.inside in
    ap (λ (rs : List Row). rows_left f.ends.items rs) c.in_ok-push.ensures.items
    ∙ left_more f.ends.items f.heads.items f.rows.items (c.args.row ∷ []) c.self.invariant.are ∙ ap (λ (d : FlatData). d.rows ++ c.args.row ∷ []) c.self.view_is
