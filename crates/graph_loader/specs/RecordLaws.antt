-- Records that are judged one after the other, and whose cells are kept in columns.
use Rattle.std.proofs.Common.{◌≡◌, ◌∙◌, sym, refl, ap, subst, ℕ, ◌+◌, ◌<◌, Bool, true, false, List, [], ◌∷◌, ◌++◌, length, map, Option, Some, None, option_map, arith, if◌then◌else◌}
use Rattle.std.specs.Prelude.{nat_lt}
use Rattle.std.proofs.lemmas.List.{map-append, length-map, append_assoc, append-nil}
use Rattle.std.proofs.lemmas.Bool.Decides.{nat_tests}
use Rattle.graph_model.specs.declared.cell.Cells.{Cells}
use Rattle.graph_model.specs.declared.cell.Column.{Column}
use Rattle.graph_model.specs.declared.cell.Kind.{Kind}
use Rattle.graph_model.specs.declared.number.NodeNo.{NodeNo}
use Rattle.graph_model.specs.GraphData.{kind_of}
use Rattle.graph_loader.specs.declared.fault.Blame.{Blame}
use Rattle.graph_loader.specs.declared.fault.DataFile.{DataFile}
use Rattle.graph_loader.specs.declared.fault.Refusal.{Refusal}
use Rattle.graph_loader.specs.declared.fault.Refusal.TheVariants as refusal
use Rattle.graph_loader.specs.Answers.{IfBlame, IfFault, fault_at}
use Rattle.graph_loader.specs.DataFiles.{Row, cells_of, earlier_of, edge_fault, fault_in, kinds_of, node_fault, rows_fault}
use Rattle.graph_loader.specs.LoadSteps.{pushed}
use Rattle.graph_loader.specs.RowsLeft.{given}
use Rattle.graph_loader.specs.CellLaws.{cells-more, kinds-of-cells}

-- what a file's records give, seen from a place: the items and the cells of those before it
pub record SoFar {A : Type 0} (file : DataFile) (item : Row → A) (first : ℕ) (judge : List Kind → List A → Row → Option Blame) (kinds : List Kind) (all left : List Row) (items : List A) (lists : List Cells) : Type 0 where
  pub taken : List Row
  pub whole : all ≡ taken ++ left
  pub made : items ≡ map item taken
  pub cells : lists ≡ cells_of taken first kinds
  pub fault : rows_fault file (judge kinds) item [] all ≡ rows_fault file (judge kinds) item items left

module _ (A : Type 0) (file : DataFile) (item : Row → A) (first : ℕ) (judge : List Kind → List A → Row → Option Blame) where
  pub nothing-yet : (columns : List Column) (all : List Row) (items : List A) (lists : List Cells) → items ≡ [] → lists ≡ cells_of [] first (kinds_of columns)
      → SoFar file item first judge (kinds_of columns) all all items lists
  nothing-yet columns all items lists n e = record { taken = []; whole = refl; made = n; cells = e; fault = ap (λ x. rows_fault file (judge (kinds_of columns)) item x all) (sym n) }

  pub kinds-so-far : (kinds : List Kind) (all left : List Row) (items : List A) (lists : List Cells) → SoFar file item first judge kinds all left items lists → map kind_of lists ≡ kinds
  kinds-so-far kinds all left items lists s = ap (map kind_of) s.cells ∙ kinds-of-cells s.taken first kinds

  pub width-so-far : (kinds : List Kind) (all left : List Row) (items : List A) (lists : List Cells) → SoFar file item first judge kinds all left items lists → length lists ≡ length kinds
  width-so-far kinds all left items lists s = sym (length-map lists kind_of) ∙ ap length (kinds-so-far kinds all left items lists s)

  pub more-so-far : (kinds : List Kind) (all left rest : List Row) (row : Row) (items new_items : List A) (lists new_lists : List Cells)
      → SoFar file item first judge kinds all left items lists → left ≡ given true row rest
      → judge (map kind_of lists) items row ≡ None → new_items ≡ items ++ item row ∷ [] → new_lists ≡ pushed row first lists
      → SoFar file item first judge kinds all rest new_items new_lists
  more-so-far kinds all left rest row items new_items lists new_lists s l j n c =
      let judged : judge kinds items row ≡ None = ap (λ k. judge k items row) (sym (kinds-so-far kinds all left items lists s)) ∙ j in
      record {
        taken = s.taken ++ row ∷ [];
        whole = s.whole ∙ ap (λ x. s.taken ++ x) l ∙ sym (append_assoc s.taken (row ∷ []) rest);
        made = n ∙ ap (λ x. x ++ item row ∷ []) s.made ∙ sym (map-append item s.taken (row ∷ []));
        cells = c ∙ ap (pushed row first) s.cells ∙ cells-more s.taken row first kinds;
        fault = s.fault ∙ ap (rows_fault file (judge kinds) item items) l
            ∙ ap (λ o. earlier_of (option_map (fault_in file (length items + 2)) o) (rows_fault file (judge kinds) item (items ++ item row ∷ []) rest)) judged
            ∙ ap (λ x. rows_fault file (judge kinds) item x rest) (sym n);
      }

  pub refused-at : (kinds : List Kind) (all left rest : List Row) (row : Row) (items : List A) (lists : List Cells) (e : Refusal)
      → SoFar file item first judge kinds all left items lists → left ≡ given true row rest
      → IfBlame e (λ b. judge (map kind_of lists) items row ≡ Some b)
      → IfFault (fault_at file (length items + 2) e) (λ f. rows_fault file (judge kinds) item [] all ≡ Some f)
  refused-at kinds all left rest row items lists refusal.NoMemory s l j = tt
  refused-at kinds all left rest row items lists (refusal.Blame b) s l j =
      let judged : judge kinds items row ≡ Some b = ap (λ k. judge k items row) (sym (kinds-so-far kinds all left items lists s)) ∙ j in
      s.fault ∙ ap (rows_fault file (judge kinds) item items) l
      ∙ ap (λ o. earlier_of (option_map (fault_in file (length items + 2)) o) (rows_fault file (judge kinds) item (items ++ item row ∷ []) rest)) judged

  pub no-fault : (kinds : List Kind) (all left : List Row) (items : List A) (lists : List Cells) → SoFar file item first judge kinds all left items lists → left ≡ []
      → rows_fault file (judge kinds) item [] all ≡ None
  no-fault kinds all left items lists s e = s.fault ∙ ap (rows_fault file (judge kinds) item items) e

  all-taken : (kinds : List Kind) (all left : List Row) (items : List A) (lists : List Cells) (s : SoFar file item first judge kinds all left items lists) → left ≡ [] → all ≡ s.taken
  all-taken kinds all left items lists s e = s.whole ∙ ap (λ x. s.taken ++ x) e ∙ append-nil s.taken

  pub all-items : (kinds : List Kind) (all left : List Row) (items : List A) (lists : List Cells) → SoFar file item first judge kinds all left items lists → left ≡ [] → items ≡ map item all
  all-items kinds all left items lists s e = s.made ∙ ap (map item) (sym (all-taken kinds all left items lists s e))

  pub all-cells : (kinds : List Kind) (all left : List Row) (items : List A) (lists : List Cells) → SoFar file item first judge kinds all left items lists → left ≡ [] → lists ≡ cells_of all first kinds
  all-cells kinds all left items lists s e = s.cells ∙ ap (λ x. cells_of x first kinds) (sym (all-taken kinds all left items lists s e))

  -- what each record keeps, all of them keep
  pub rows-keep : (kinds : List Kind) (P : List A → Type 0) → ((earlier : List A) (row : Row) → P earlier → judge kinds earlier row ≡ None → P (earlier ++ item row ∷ []))
      → (rows : List Row) (earlier : List A) → P earlier → rows_fault file (judge kinds) item earlier rows ≡ None → P (earlier ++ map item rows)
  rows-keep kinds P keep [] earlier p e = subst P (sym (append-nil earlier)) p
  rows-keep kinds P keep (row ∷ rows) earlier p e = cases (judge kinds earlier row) refl (rows-keep kinds P keep rows (earlier ++ item row ∷ [])) e where
    cases : (o : Option Blame) → judge kinds earlier row ≡ o
        → (P (earlier ++ item row ∷ []) → rows_fault file (judge kinds) item (earlier ++ item row ∷ []) rows ≡ None → P (earlier ++ item row ∷ [] ++ map item rows))
        → earlier_of (option_map (fault_in file (length earlier + 2)) o) (rows_fault file (judge kinds) item (earlier ++ item row ∷ []) rows) ≡ None → P (earlier ++ map item (row ∷ rows))
    cases None j more e = subst P (append_assoc earlier (item row ∷ []) (map item rows)) (more (keep earlier row p j) e)
    cases (Some b) j more e = absurd (cc)

pub fewer-left : (row : Row) (old new : List Row) → old ≡ given true row new → length new < length old
fewer-left row old new e = rw e (omega arith)

-- ---- counts

counted : (t : Bool) (o : Option Blame) (b : Blame) → (if t then o else Some b) ≡ None → (t ≡ true) × (o ≡ None)
counted true o b e = (refl, e)
counted false o b e = absurd (cc)

pub few-nodes : (kinds : List Kind) (ids : List ℕ) (row : Row) → node_fault kinds ids row ≡ None → length ids < 1_000_000
few-nodes kinds ids row e = below (counted (nat_lt (length ids) 1_000_000) _ _ e).0 where
  below : nat_lt (length ids) 1_000_000 ≡ true → length ids < 1_000_000
  below t = grind (arith, nat_tests)

pub few-edges : (before : ℕ) (kinds : List Kind) (ids : List ℕ) (ends : List (NodeNo × NodeNo)) (row : Row) → edge_fault before kinds ids ends row ≡ None → before + length ends < 4_000_000
few-edges before kinds ids ends row e = below (counted (nat_lt (before + length ends) 4_000_000) _ _ e).0 where
  below : nat_lt (before + length ends) 4_000_000 ≡ true → before + length ends < 4_000_000
  below t = grind (arith, nat_tests)
