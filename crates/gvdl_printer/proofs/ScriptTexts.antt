-- What is written of a script is that script, in no more tokens and with no more levels.
use Rattle.std.proofs.Common.{◌∙◌, ℕ, List, [], ◌∷◌, ◌++◌, refl, sym, ap}
use Rattle.std.specs.List.{flat_map}
use Rattle.std.proofs.lemmas.List.{append-nil}
use Rattle.gvdl_tokens.specs.declared.token.Token.{Token}
use Rattle.gvdl_tokens.specs.declared.token.Token.TheVariants as t
use Rattle.gvdl_tokens.specs.declared.token.Sign.TheVariants as s
use Rattle.gvdl_tokens.specs.declared.word.Word.TheVariants as w
use Rattle.gvdl_parser.specs.Statements.{load, form_part, script_behind, script}
use Rattle.gvdl_printer.specs.Canonical.{form_tokens, canonical_tokens}
use Rattle.gvdl_printer.proofs.Better.{Writes, named, pure_is, word_is, step, many_is}
use Rattle.gvdl_printer.proofs.StatementTexts.{carried, behind_is, part_is, optional_is, statement_tokens, statement_is}

abbrev load_tokens : List ℕ × List ℕ × List ℕ → List Token
load_tokens x = t.Word w.Load ∷ t.Word w.Graph ∷ t.Name x.0 ∷ t.Word w.Nodes ∷ t.Str x.1 ∷ t.Word w.Edges ∷ t.Str x.2 ∷ t.Sign s.Semicolon ∷ []

load_is : Writes load_tokens load load
unfolding load
load_is ts x q =
    let k = q.second in
    let l = k.second in
    let m = l.second in
    let o = m.second in
    named (step q (word_is q.first) (step k (behind_is w.Graph carried k.front k.tree k.first) (step l (behind_is w.Nodes carried l.front l.tree l.first) (step m (behind_is w.Edges carried m.front m.tree m.first) (step o (word_is o.first) (pure_is o.second))))))
    (ap load_tokens (sym o.second.1))

form_is : Writes form_tokens form_part form_part
unfolding form_part
form_is = optional_is form_tokens refl (λ n. refl) (part_is w.Form carried)

pub script_is : (n : ℕ) → Writes canonical_tokens (script n) (script n)
unfolding script script_behind
script_is n ts x q =
    let k = q.second in
    let l = k.second in
    let others : List Token = flat_map statement_tokens l.tree in
    named (step q (form_is q.front q.tree q.first) (step k (load_is k.front k.tree k.first) (step l (many_is (statement_is n) l.front l.tree l.first) (pure_is l.second))))
    (ap (λ (y : List Token). form_tokens q.tree ++ (load_tokens k.tree ++ y)) (append-nil others) ∙ ap canonical_tokens (sym l.second.1))
