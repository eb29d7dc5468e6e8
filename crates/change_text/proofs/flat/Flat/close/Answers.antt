-- One more block.
use Rattle.std.proofs.Common.{◌∙◌, ◌++◌, [], ◌∷◌, List, ℕ, length, refl, ap, sym, subst}
use Rattle.change_text.specs.declared.row.Row.{Row}
use Rattle.change_text.specs.declared.flat.End.{End}
use Rattle.change_text.specs.Memory.{AreEnds, FlatData, blocks_of, rows_left}
use Rattle.change_text.proofs.Holding.{are_push, blocks_push, none_left, pushed}
use Rattle.change_text.proofs.flat.Flat.close.Goals as goal

pub invariant_of-self-2 : goal.invariant_of-self-2
invariant_of-self-2 c =
    let f = c.self.inside in
    let e : End = record { kind = c.args.kind; outcome = c.args.outcome; head = length c.args.head.now; rows = f.waiting } in
    let ends = pushed _ _ _ _ c.push.ensures.items c.if-is_err.ensures.negation in
    let heads = c.in_ok-extend_from_slice.ensures.items in
    record {
      are = subst (λ (es : List End). AreEnds es c.extend_from_slice.new.self.items f.rows.items) (sym ends)
          (subst (λ (hs : List ℕ). AreEnds (f.ends.items ++ e ∷ []) hs f.rows.items) (sym heads)
          (are_push e c.args.head.now refl f.ends.items f.heads.items f.rows.items c.self.invariant.are (sym c.self.invariant.waiting)));
      waiting = ap (λ (es : List End). length (rows_left es f.rows.items)) ends
          ∙ ap (λ (rs : List Row). length rs) (none_left e c.args.head.now refl f.ends.items f.heads.items f.rows.items (sym c.self.invariant.waiting));
    }

pub returns-clause-blocks : goal.returns-clause-blocks
returns-clause-blocks c =
    let f = c.self.inside in
    let e : End = record { kind = c.args.kind; outcome = c.args.outcome; head = length c.args.head.now; rows = f.waiting } in
    ap (λ (es : List End). blocks_of es c.extend_from_slice.new.self.items f.rows.items) (pushed _ _ _ _ c.push.ensures.items c.if-is_err.ensures.negation)
    ∙ ap (λ (hs : List ℕ). blocks_of (f.ends.items ++ e ∷ []) hs f.rows.items) c.in_ok-extend_from_slice.ensures.items
    ∙ blocks_push e c.args.head.now refl f.ends.items f.heads.items f.rows.items c.self.invariant.are (sym c.self.invariant.waiting)
    ∙ ap (λ (d : FlatData). d.blocks ++ record { kind = c.args.kind; head = c.args.head.now; outcome = c.args.outcome; rows = d.rows } ∷ []) c.self.view_is

pub returns-clause-rows : goal.returns-clause-rows
returns-clause-rows c =
    let f = c.self.inside in
    let e : End = record { kind = c.args.kind; outcome = c.args.outcome; head = length c.args.head.now; rows = f.waiting } in
    ap (λ (es : List End). rows_left es f.rows.items) (pushed _ _ _ _ c.push.ensures.items c.if-is_err.ensures.negation)
    ∙ none_left e c.args.head.now refl f.ends.items f.heads.items f.rows.items (sym c.self.invariant.waiting)
