-- Records whose cells are added to columns one after the other.
use Rattle.std.proofs.Common.{◌≡◌, ◌∙◌, sym, refl, ap, subst, ℕ, zero, suc, ◌+◌, ◌<◌, List, [], ◌∷◌, ◌++◌, length, map, get_or, set, drop, Option, Some, None, option_map, arith, add-one, add-zero}
use Rattle.std.proofs.Math.Seq.{drop-cons}
use Rattle.std.proofs.lemmas.List.{map-append}
use Rattle.graph_model.specs.declared.cell.Cells.{Cells}
use Rattle.graph_model.specs.declared.cell.Cells.TheVariants as cells
use Rattle.graph_model.specs.declared.cell.Column.{Column}
use Rattle.graph_model.specs.declared.cell.Kind.{Kind}
use Rattle.graph_model.specs.declared.cell.Kind.TheVariants as kind
use Rattle.graph_model.specs.GraphData.{kind_of}
use Rattle.graph_loader.specs.declared.fault.Blame.{Blame}
use Rattle.graph_loader.specs.declared.fault.Refusal.{Refusal}
use Rattle.graph_loader.specs.declared.fault.Refusal.TheVariants as refusal
use Rattle.graph_loader.specs.Answers.{IfBlame}
use Rattle.graph_loader.specs.DataFiles.{Row, blame, cell_fault, cells_fault, cells_from, cells_of, earlier_of, field_of, kinds_of}
use Rattle.graph_loader.specs.LoadSteps.{no_cells, pushed, with_cell}

-- ---- columns of which the first so many have the cell of a record

abbrev pub mixed : Row → ℕ → ℕ → List Cells → List Cells
mixed row place zero cs = cs
mixed row place (suc i) [] = []
mixed row place (suc i) (c ∷ cs) = with_cell c (field_of row place) ∷ mixed row (place + 1) i cs

pub length-mixed : (row : Row) (place i : ℕ) (cs : List Cells) → length (mixed row place i cs) ≡ length cs
length-mixed row place zero cs = refl
length-mixed row place (suc i) [] = refl
length-mixed row place (suc i) (c ∷ cs) = ap suc (length-mixed row (place + 1) i cs)

pub get_or-mixed : (row : Row) (place i : ℕ) (cs : List Cells) (d : Cells) → get_or (mixed row place i cs) i d ≡ get_or cs i d
get_or-mixed row place zero cs d = refl
get_or-mixed row place (suc i) [] d = refl
get_or-mixed row place (suc i) (c ∷ cs) d = get_or-mixed row (place + 1) i cs d

set-mixed-suc : (row : Row) (place i : ℕ) (cs : List Cells) (d : Cells) → i < length cs
    → set (mixed row place i cs) i (with_cell (get_or cs i d) (field_of row (place + i))) ≡ mixed row place (suc i) cs
set-mixed-suc row place zero [] d lt = absurd (omega arith)
set-mixed-suc row place zero (c ∷ cs) d lt = rw (add-zero place) refl
set-mixed-suc row place (suc i) [] d lt = absurd (omega arith)
set-mixed-suc row place (suc i) (c ∷ cs) d lt =
    let same : place + suc i ≡ place + 1 + i = omega arith in
    rw same (ap (λ l. with_cell c (field_of row place) ∷ l) (set-mixed-suc row (place + 1) i cs d (omega arith)))

pub set-mixed : (row : Row) (place i : ℕ) (cs : List Cells) (d : Cells) → i < length cs
    → set (mixed row place i cs) i (with_cell (get_or cs i d) (field_of row (place + i))) ≡ mixed row place (i + 1) cs
set-mixed row place i cs d lt = set-mixed-suc row place i cs d lt ∙ ap (λ n. mixed row place n cs) (sym (add-one i))

pub mixed-all : (row : Row) (place : ℕ) (cs : List Cells) → mixed row place (length cs) cs ≡ pushed row place cs
mixed-all row place [] = refl
mixed-all row place (c ∷ cs) = ap (λ l. with_cell c (field_of row place) ∷ l) (mixed-all row (place + 1) cs)

-- the fault of the cells from a place on
pub cells-step : (row : Row) (place i : ℕ) (cs : List Cells) (d : Cells) → i < length cs
    → cells_fault row (place + i) (map kind_of (drop i cs))
    ≡ earlier_of (option_map (blame (place + i + 1)) (cell_fault (kind_of (get_or cs i d)) (field_of row (place + i)))) (cells_fault row (place + (i + 1)) (map kind_of (drop (i + 1) cs)))
cells-step row place i cs d lt =
    let one : drop i cs ≡ get_or cs i d ∷ drop (i + 1) cs = drop-cons cs i d lt ∙ ap (λ n. get_or cs i d ∷ drop n cs) (sym (add-one i)) in
    let next : place + (i + 1) ≡ place + i + 1 = omega arith in
    rw (one, next) refl

-- ---- a step of the loop over the columns

-- the fault of the cells from a place on, by the column and the field there
pub cells-at : (row : Row) (place i : ℕ) (cs now : List Cells) (d : Cells) (field : List ℕ) (all : Option Blame) → i < length cs
    → now ≡ mixed row place i cs → d ≡ get_or now i d → field ≡ field_of row (place + i) → all ≡ cells_fault row (place + i) (map kind_of (drop i cs))
    → all ≡ earlier_of (option_map (blame (place + i + 1)) (cell_fault (kind_of d) field)) (cells_fault row (place + (i + 1)) (map kind_of (drop (i + 1) cs)))
cells-at row place i cs now d field all lt n e f a =
    let rest = cells_fault row (place + (i + 1)) (map kind_of (drop (i + 1) cs)) in
    let cell : get_or cs i d ≡ d = sym (e ∙ ap (λ l. get_or l i d) n ∙ get_or-mixed row place i cs d) in
    a ∙ cells-step row place i cs d lt
    ∙ ap (λ x. earlier_of (option_map (blame (place + i + 1)) (cell_fault (kind_of x) (field_of row (place + i)))) rest) cell
    ∙ ap (λ x. earlier_of (option_map (blame (place + i + 1)) (cell_fault (kind_of d) x)) rest) (sym f)

pub cells-set : (row : Row) (place i : ℕ) (cs now : List Cells) (d new : Cells) (field : List ℕ) → i < length cs
    → now ≡ mixed row place i cs → d ≡ get_or now i d → field ≡ field_of row (place + i) → new ≡ with_cell d field
    → set now i new ≡ mixed row place (i + 1) cs
cells-set row place i cs now d new field lt n e f w =
    let cell : d ≡ get_or cs i d = e ∙ ap (λ l. get_or l i d) n ∙ get_or-mixed row place i cs d in
    ap (λ l. set l i new) n ∙ ap (λ x. set (mixed row place i cs) i x) (w ∙ ap (λ x. with_cell x field) cell ∙ ap (λ x. with_cell (get_or cs i d) x) f)
    ∙ set-mixed row place i cs d lt

pub cells-go-on : (row : Row) (place : ℕ) (kinds : List Kind) (all first : Option Blame) → all ≡ earlier_of first (cells_fault row place kinds) → first ≡ None → all ≡ cells_fault row place kinds
cells-go-on row place kinds all first a e = a ∙ ap (λ x. earlier_of x (cells_fault row place kinds)) e

-- ---- what is told of the first of two

told-first : (first second : Option Blame) (e : Refusal) → IfBlame e (λ b. first ≡ Some b) → IfBlame e (λ b. earlier_of first second ≡ Some b)
told-first first second (refusal.Blame b) t = rw t refl
told-first first second refusal.NoMemory t = tt

-- the exit of a step that met a refusal
pub told-stop : (all first second : Option Blame) (e : Refusal) → all ≡ earlier_of first second → IfBlame e (λ b. first ≡ Some b) → IfBlame e (λ b. all ≡ Some b)
told-stop all first second e step t = subst (λ o. IfBlame e (λ b. o ≡ Some b)) (sym step) (told-first first second e t)

-- ---- whole records

pub kinds-kept : (row : Row) (place : ℕ) (cs : List Cells) → map kind_of (pushed row place cs) ≡ map kind_of cs
kinds-kept row place [] = refl
kinds-kept row place (c ∷ cs) = rw (kinds-kept row (place + 1) cs) (ap (λ k. k ∷ map kind_of cs) (kept c (field_of row place))) where
  kept : (c : Cells) (field : List ℕ) → kind_of (with_cell c field) ≡ kind_of c
  kept (cells.Int items) field = refl
  kept (cells.Str items) field = refl
  kept (cells.Bool items) field = refl

cell-more : (k : Kind) (fields : List (List ℕ)) (field : List ℕ) → with_cell (cells_from k fields) field ≡ cells_from k (fields ++ field ∷ [])
cell-more kind.Int fields field = ap (λ l. cells.Int l) (sym (map-append _ fields (field ∷ [])))
cell-more kind.Str fields field = refl
cell-more kind.Bool fields field = ap (λ l. cells.Bool l) (sym (map-append _ fields (field ∷ [])))

-- the cells of one more record
pub cells-more : (rows : List Row) (row : Row) (place : ℕ) (kinds : List Kind) → pushed row place (cells_of rows place kinds) ≡ cells_of (rows ++ row ∷ []) place kinds
cells-more rows row place [] = refl
cells-more rows row place (k ∷ kinds) =
    let fields : map (λ r. field_of r place) (rows ++ row ∷ []) ≡ map (λ r. field_of r place) rows ++ field_of row place ∷ [] = map-append (λ r. field_of r place) rows (row ∷ []) in
    rw (fields, cells-more rows row (place + 1) kinds) (ap (λ c. c ∷ cells_of (rows ++ row ∷ []) (place + 1) kinds) (cell-more k (map (λ r. field_of r place) rows) (field_of row place)))

pub no-cells : (columns : List Column) (place : ℕ) → map (λ c. no_cells c.kind) columns ≡ cells_of [] place (kinds_of columns)
no-cells [] place = refl
no-cells (c ∷ columns) place = ap (λ l. no_cells c.kind ∷ l) (no-cells columns (place + 1))

pub kinds-of-cells : (rows : List Row) (place : ℕ) (kinds : List Kind) → map kind_of (cells_of rows place kinds) ≡ kinds
kinds-of-cells rows place [] = refl
kinds-of-cells rows place (k ∷ kinds) = rw (kinds-of-cells rows (place + 1) kinds) (ap (λ x. x ∷ kinds) (kept k)) where
  kept : (k : Kind) → kind_of (cells_from k (map (λ r. field_of r place) rows)) ≡ k
  kept kind.Int = refl
  kept kind.Str = refl
  kept kind.Bool = refl
