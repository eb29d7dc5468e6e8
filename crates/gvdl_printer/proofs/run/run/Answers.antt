use Rattle.std.proofs.Common.{◌≡◌, ◌++◌, ◌∷◌, [], List, append_assoc}
use Rattle.gvdl_tokens.specs.declared.token.Token.TheVariants as token
use Rattle.gvdl_tokens.specs.declared.word.Word.TheVariants as w
use Rattle.gvdl_tree.specs.declared.script.Statement.TheVariants as statement
use Rattle.gvdl_parser.specs.Terminals.{within_token}
use Rattle.gvdl_printer.specs.Layout.{Piece, plain, word}
use Rattle.gvdl_printer.specs.Canonical.{call_pieces, options_pieces, statement_pieces}
use Rattle.gvdl_printer.proofs.Growing.{then_more, ended}
use Rattle.gvdl_printer.proofs.run.run.Goals as goal

eight : (r f o t w n u e : List Piece) → ((((((r ++ f) ++ o) ++ t) ++ w) ++ n) ++ u) ++ e ≡ r ++ (f ++ (o ++ (t ++ (w ++ (n ++ (u ++ e))))))
eight r f o t w n u e = simp append_assoc

pub returns : goal.returns
returns c =
    let r : List Piece = word w.Run ∷ [] in
    let f : List Piece = call_pieces c.args.called.now in
    let o : List Piece = word w.On ∷ [] in
    let to : List Piece = plain (token.Name c.args.target.now) ∷ [] in
    let within : List Piece = plain (within_token c.args.limits.within) ∷ [] in
    let n : List Piece = plain (token.Number c.args.limits.number) ∷ [] in
    let u : List Piece = word w.Rounds ∷ [] in
    let e : List Piece = options_pieces c.args.limits.order c.args.limits.split c.args.kept.now c.args.limits.phases in
    ended c.options.result c.args.page.now c.word-3.new.self c.options.new.page ((((((r ++ f) ++ o) ++ to) ++ within) ++ n) ++ u) e (statement_pieces (statement.Run c.args.called.now c.args.target.now c.args.limits.within c.args.limits.number c.args.limits.order c.args.limits.split c.args.kept.now c.args.limits.phases))
    (then_more _ _ _ _ _ (then_more _ _ _ _ _ (then_more _ _ _ _ _ (then_more _ _ _ _ _ (then_more _ _ _ _ _ (then_more _ _ _ _ _ c.in_ok-word.ensures c.in_ok-call.ensures) c.in_ok-word-2.ensures) c.in_ok-name.ensures) c.in_ok-within.ensures) c.in_ok-number.ensures) c.in_ok-word-3.ensures)
    c.options.ensures (eight r f o to within n u e)
