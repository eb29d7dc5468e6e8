use Rattle.std.proofs.Common.{◌≡◌, ◌++◌, ◌∷◌, [], ℕ, List, append_assoc}
use Rattle.gvdl_tokens.specs.declared.token.Token.TheVariants as token
use Rattle.gvdl_tokens.specs.declared.token.Sign.TheVariants as s
use Rattle.gvdl_tokens.specs.declared.word.Word.TheVariants as w
use Rattle.gvdl_tree.specs.declared.script.Statement.TheVariants as statement
use Rattle.gvdl_parser.specs.Terminals.{along_token, gather_token}
use Rattle.gvdl_printer.specs.Layout.{Piece, plain, word, sign}
use Rattle.gvdl_printer.specs.Canonical.{in_call, expression_pieces, statement_pieces}
use Rattle.gvdl_printer.proofs.Growing.{then_more, ended}
use Rattle.gvdl_printer.proofs.program.program.Goals as goal

parts : (n p o a : List Piece) (start : Piece) (b : List Piece) (send : Piece) (d g : List Piece) (update : Piece) (e k z : List Piece)
    → (((((((n ++ p) ++ o) ++ a) ++ start ∷ (b ++ k)) ++ send ∷ (d ++ k)) ++ g) ++ update ∷ (e ++ k)) ++ z ≡ n ++ (p ++ (o ++ (a ++ start ∷ (b ++ (k ++ send ∷ (d ++ (k ++ (g ++ update ∷ (e ++ (k ++ z))))))))))
parts n p o a start b send d g update e k z = simp append_assoc

pub returns : goal.returns
returns c =
    let n : List Piece = word w.Program ∷ plain (token.Name c.args.name.now) ∷ [] in
    let p : List Piece = in_call (λ (x : List ℕ). plain (token.Name x) ∷ []) c.args.names.now in
    let o : List Piece = sign s.OpenBrace ∷ [] in
    let k : List Piece = sign s.Semicolon ∷ [] in
    let a : List Piece = word w.Along ∷ plain (along_token c.args.ways.along) ∷ k in
    let b : List Piece = expression_pieces c.args.start.now 0 in
    let d : List Piece = expression_pieces c.args.send.now 0 in
    let g : List Piece = word w.Gather ∷ plain (gather_token c.args.ways.gather) ∷ k in
    let e : List Piece = expression_pieces c.args.update.now 0 in
    let z : List Piece = sign s.CloseBrace ∷ [] in
    ended c.sign-2.result c.args.page.now c.part-3.new.page c.sign-2.new.self ((((((((n ++ p) ++ o) ++ a) ++ word w.Start ∷ (b ++ k)) ++ word w.Send ∷ (d ++ k)) ++ g) ++ word w.Update ∷ (e ++ k))) z (statement_pieces (statement.Program c.args.name.now c.args.names.now c.args.ways.along c.args.start.now c.args.send.now c.args.ways.gather c.args.update.now))
    (then_more _ _ _ _ _ (then_more _ _ _ _ _ (then_more _ _ _ _ _ (then_more _ _ _ _ _ (then_more _ _ _ _ _ (then_more _ _ _ _ _ (then_more _ _ _ _ _ c.in_ok-named.ensures c.in_ok-params.ensures) c.in_ok-sign.ensures) c.in_ok-along.ensures) c.in_ok-part.ensures) c.in_ok-part-2.ensures) c.in_ok-gather.ensures) c.in_ok-part-3.ensures)
    c.sign-2.ensures (parts n p o a (word w.Start) b (word w.Send) d g (word w.Update) e k z)
