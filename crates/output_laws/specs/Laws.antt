-- The canonical text of a longer script, as one statement, and its proof.
use Rattle.std.specs.Prelude.{◌≡◌, ℕ, List, ◌++◌, Option}
use Rattle.std.specs.List.{flat_map}
use Rattle.std.proofs.Common.{◌∙◌, ap, sym, append_assoc, refl}
use Rattle.std.proofs.lemmas.List.Concat.{flat_map-append}
use Rattle.gvdl_tree.specs.declared.script.Script.{Script}
use Rattle.gvdl_tree.specs.declared.script.Statement.{Statement}
use Rattle.gvdl_printer.specs.Canonical.{canonical, form_line, load_pieces, statement_pieces}
use Rattle.gvdl_printer.specs.Layout.{line}
use Rattle.gvdl_check.specs.Continued.{IsFront}

-- the same form and load, and further statements behind the script's own
abbrev pub CanonicalTextsGrow : Type 0
CanonicalTextsGrow = (s t : Script) → t.form ≡ s.form → t.graph ≡ s.graph → t.nodes ≡ s.nodes → t.edges ≡ s.edges
    → IsFront s.statements t.statements → IsFront (canonical s) (canonical t)

abbrev lines : List Statement → List ℕ
lines statements = flat_map (λ statement. line (statement_pieces statement)) statements

same-load : (s t : Script) → t.graph ≡ s.graph → t.nodes ≡ s.nodes → t.edges ≡ s.edges → line (load_pieces t) ≡ line (load_pieces s)
same-load s t g n e = rw (g, n, e) refl

loads-grow : (s t : Script) → t.graph ≡ s.graph → t.nodes ≡ s.nodes → t.edges ≡ s.edges → (more : IsFront s.statements t.statements)
    → line (load_pieces t) ++ lines t.statements ≡ (line (load_pieces s) ++ lines s.statements) ++ lines more.0
loads-grow s t g n e more =
    ap (λ (x : List ℕ). x ++ lines t.statements) (same-load s t g n e)
    ∙ ap (λ (x : List Statement). line (load_pieces s) ++ lines x) more.1
    ∙ ap (λ (x : List ℕ). line (load_pieces s) ++ x) (flat_map-append (λ (statement : Statement). line (statement_pieces statement)) s.statements more.0)
    ∙ sym (append_assoc (line (load_pieces s)) (lines s.statements) (lines more.0))

pub canonical-texts-grow : CanonicalTextsGrow
canonical-texts-grow s t f g n e more = (
  lines more.0,
  ap (λ (form : Option ℕ). form_line form ++ (line (load_pieces t) ++ lines t.statements)) f
      ∙ ap (λ (x : List ℕ). form_line s.form ++ x) (loads-grow s t g n e more)
      ∙ sym (append_assoc (form_line s.form) (line (load_pieces s) ++ lines s.statements) (lines more.0)),
)
