use Rattle.std.proofs.Common.{◌≡◌, ◌∙◌, ◌++◌, ◌∷◌, [], List, sym, ap, append_assoc}
use Rattle.gvdl_tokens.specs.declared.token.Token.TheVariants as token
use Rattle.gvdl_tokens.specs.declared.word.Word.TheVariants as w
use Rattle.gvdl_printer.specs.Layout.{Piece, plain, word}
use Rattle.gvdl_printer.specs.Canonical.{int_pieces, prop_piece, body_pieces}
use Rattle.gvdl_printer.proofs.Growing.{then_more, ended}
use Rattle.gvdl_printer.proofs.view.item_body.Goals as goal

four : (h : List Piece) (f : Piece) (first : List Piece) (t : Piece) (last width step : List Piece) → (((h ++ f ∷ first) ++ t ∷ last) ++ width) ++ step ≡ h ++ f ∷ (first ++ t ∷ (last ++ (width ++ step)))
four h f first t last width step = simp append_assoc

pub returns-in_ok-counted-in-Window : goal.returns-in_ok-counted-in-Window
returns-in_ok-counted-in-Window c =
    let h : List Piece = word w.Window ∷ prop_piece c.in-Window.property ∷ [] in
    let first : List Piece = int_pieces c.in-Window.first in
    let last : List Piece = int_pieces c.in-Window.last in
    let width : List Piece = word w.Width ∷ plain (token.Number c.in-Window.width) ∷ [] in
    let step : List Piece = word w.Step ∷ plain (token.Number c.in-Window.step) ∷ [] in
    ended c.counted-in-Window.result c.args.page.now c.counted.new.page c.counted-in-Window.new.page (((h ++ word w.From ∷ first) ++ word w.To ∷ last) ++ width) step (body_pieces c.args.body.now)
    (then_more _ _ _ _ _ (then_more _ _ _ _ _ (then_more _ _ _ _ _ (then_more _ _ _ _ _ c.in_ok-word-in-Window.ensures c.in_ok-prop-in-Window.ensures) c.in_ok-bound-in-Window.ensures) c.in_ok-bound-in-Window-2.ensures) c.in_ok-counted-in-Window.ensures)
    c.counted-in-Window.ensures (four h (word w.From) first (word w.To) last width step ∙ sym (ap body_pieces c.in-Window.is))
