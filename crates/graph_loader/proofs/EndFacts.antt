-- Edges whose ends wait: their ids are read, and not looked up.
use Rattle.std.proofs.Common.{◌≡◌, ◌∙◌, sym, refl, ap, subst, ℕ, suc, ◌+◌, ◌<◌, true, List, [], ◌∷◌, ◌++◌, length, map, get_or, take, drop, Option, Some, None, option_map, arith, add-zero}
use Rattle.std.specs.Prelude.{◌==◌, nat_lt}
use Rattle.std.proofs.Math.Seq.{drop-cons, take-suc}
use Rattle.std.proofs.lemmas.Bool.Decides.{nat_tests}
use Rattle.std.proofs.lemmas.List.{append_assoc, append-nil, length-append, length-map, map-append}
use Rattle.graph_model.specs.declared.cell.Cells.{Cells}
use Rattle.graph_model.specs.declared.cell.Kind.{Kind}
use Rattle.graph_model.specs.declared.number.NodeNo.{NodeNo}
use Rattle.graph_model.specs.GraphData.{kind_of}
use Rattle.graph_loader.specs.declared.fault.DataFault.{DataFault}
use Rattle.graph_loader.specs.declared.fault.DataFile.{DataFile}
use Rattle.graph_loader.specs.declared.edges.EdgeSource.{EdgeSource}
use Rattle.graph_loader.specs.declared.fault.LoadFault.{LoadFault}
use Rattle.graph_loader.specs.declared.fault.LoadFault.TheVariants as load
use Rattle.graph_loader.specs.Answers.{IfFault}
use Rattle.graph_loader.specs.DataFiles.{Row, cells_fault, cells_of, earlier_of, edge_fault, end_fault, ends_of_row, fault_in, field_of, rows_fault}
use Rattle.graph_loader.specs.LoadSteps.{ends_so_far, fault_by_row, pair_ends, pair_fault, pair_of_row, pairs_fault, pushed}
use Rattle.graph_loader.specs.RowsLeft.{given}
use Rattle.graph_loader.specs.Spelling.{id_spelled}
use Rattle.graph_loader.specs.CellLaws.{cells-more, kinds-of-cells}
use Rattle.graph_loader.specs.RecordLaws.{SoFar}

earlier-three : {A : Type 0} (a b c : Option A) → earlier_of (earlier_of a b) c ≡ earlier_of a (earlier_of b c)
earlier-three (Some x) b c = refl
earlier-three None b c = refl

-- ---- one record

-- a record both of whose ends are ids
pub pair-is : (row : Row) (a b : ℕ) → id_spelled (field_of row 0) ≡ Some a → id_spelled (field_of row 1) ≡ Some b → (a, b) ≡ pair_of_row row
pair-is row a b s d = rw (s, d) refl

pub pair-is-judged : (ids : List ℕ) (row : Row) (a b : ℕ) → id_spelled (field_of row 0) ≡ Some a → id_spelled (field_of row 1) ≡ Some b
    → earlier_of (end_fault ids row 0) (end_fault ids row 1) ≡ pair_fault ids (pair_of_row row)
pair-is-judged ids row a b s d = rw (s, d) refl

pub pair-is-found : (ids : List ℕ) (row : Row) (a b : ℕ) → id_spelled (field_of row 0) ≡ Some a → id_spelled (field_of row 1) ≡ Some b
    → pair_ends ids (pair_of_row row) ≡ ends_of_row ids row
pair-is-found ids row a b s d = rw (s, d) refl

-- ---- pairs of ids

-- one more pair behind the others
pub pairs-more : (of : DataFile) (ids : List ℕ) (count : ℕ) (pairs : List (ℕ × ℕ)) (p : ℕ × ℕ)
    → pairs_fault of ids count (pairs ++ p ∷ []) ≡ earlier_of (pairs_fault of ids count pairs) (option_map (fault_in of (count + length pairs + 2)) (pair_fault ids p))
pairs-more of ids count [] p =
    last (option_map (fault_in of (count + 2)) (pair_fault ids p)) ∙ ap (λ n. option_map (fault_in of (n + 2)) (pair_fault ids p)) (sym (add-zero count))
  where
    last : (o : Option DataFault) → earlier_of o None ≡ o
    last (Some f) = refl
    last None = refl
pairs-more of ids count (q ∷ pairs) p =
    let next : count + length (q ∷ pairs) + 2 ≡ count + 1 + length pairs + 2 = omega arith in
    rw (next, pairs-more of ids (count + 1) pairs p)
    (sym (earlier-three (option_map (fault_in of (count + 2)) (pair_fault ids q)) (pairs_fault of ids (count + 1) pairs) (option_map (fault_in of (count + 1 + length pairs + 2)) (pair_fault ids p))))

pub so-far-more : (ids : List ℕ) (ends : List (NodeNo × NodeNo)) (pairs : List (ℕ × ℕ)) (p : ℕ × ℕ)
    → ends_so_far ids ends (pairs ++ p ∷ []) ≡ ends_so_far ids ends pairs ++ pair_ends ids p ∷ []
so-far-more ids ends pairs p = ap (λ l. ends ++ l) (map-append (pair_ends ids) pairs (p ∷ [])) ∙ sym (append_assoc ends (map (pair_ends ids) pairs) (pair_ends ids p ∷ []))

pub length-so-far : (ids : List ℕ) (ends : List (NodeNo × NodeNo)) (pairs : List (ℕ × ℕ)) → length (ends_so_far ids ends pairs) ≡ length ends + length pairs
length-so-far ids ends pairs = omega (arith, length-append ends (map (pair_ends ids) pairs), length-map pairs (pair_ends ids))

-- one more pair is looked up
pub link-more : (of : DataFile) (ids : List ℕ) (old ends new : List (NodeNo × NodeNo)) (pairs items : List (ℕ × ℕ)) (i : ℕ) (d : ℕ × ℕ) → items ≡ pairs → i < length items
    → ends ≡ old ++ map (pair_ends ids) (take i pairs) → pairs_fault of ids (length old) pairs ≡ pairs_fault of ids (length ends) (drop i pairs)
    → pair_fault ids (get_or items i d) ≡ None → new ≡ ends ++ pair_ends ids (get_or items i d) ∷ []
    → (new ≡ old ++ map (pair_ends ids) (take (i + 1) pairs)) × (pairs_fault of ids (length old) pairs ≡ pairs_fault of ids (length new) (drop (i + 1) pairs))
link-more of ids old ends new pairs items i d same lt e f none n =
    let p : get_or items i d ≡ get_or pairs i d = ap (λ l. get_or l i d) same in
    let within : i < length pairs = subst (λ l. i < length l) same lt in
    let next : i + 1 ≡ suc i = omega arith in
    let taken : take (i + 1) pairs ≡ take i pairs ++ get_or pairs i d ∷ [] = ap (λ k. take k pairs) next ∙ take-suc pairs i d within in
    let left : drop i pairs ≡ get_or pairs i d ∷ drop (i + 1) pairs = drop-cons pairs i d within ∙ ap (λ k. get_or pairs i d ∷ drop k pairs) (sym next) in
    let count : length new ≡ length ends + 1 = omega (arith, ap (λ (l : List (NodeNo × NodeNo)). length l) n, length-append ends (pair_ends ids (get_or items i d) ∷ [])) in (
      n ∙ ap (λ x. ends ++ pair_ends ids x ∷ []) p ∙ ap (λ x. x ++ pair_ends ids (get_or pairs i d) ∷ []) e
          ∙ append_assoc old (map (pair_ends ids) (take i pairs)) (pair_ends ids (get_or pairs i d) ∷ [])
          ∙ ap (λ x. old ++ x) (sym (map-append (pair_ends ids) (take i pairs) (get_or pairs i d ∷ [])))
          ∙ ap (λ x. old ++ map (pair_ends ids) x) (sym taken),
      f ∙ ap (pairs_fault of ids (length ends)) left
          ∙ ap (λ o. earlier_of (option_map (fault_in of (length ends + 2)) o) (pairs_fault of ids (length ends + 1) (drop (i + 1) pairs))) (ap (pair_fault ids) (sym p) ∙ none)
          ∙ ap (λ k. pairs_fault of ids k (drop (i + 1) pairs)) (sym count),
    )

-- ---- a record behind those whose ends wait

-- a record of the right width both of whose ends are ids
pub edge-by-pair : (before : ℕ) (kinds : List Kind) (ids : List ℕ) (earlier : List (NodeNo × NodeNo)) (row : Row) (p : ℕ × ℕ) → before + length earlier < 4_000_000 → length row ≡ length kinds + 2
    → earlier_of (end_fault ids row 0) (end_fault ids row 1) ≡ pair_fault ids p → edge_fault before kinds ids earlier row ≡ earlier_of (pair_fault ids p) (cells_fault row 2 kinds)
edge-by-pair before kinds ids earlier row p few wide e =
    let count : nat_lt (before + length earlier) 4_000_000 ≡ true = grind (arith, nat_tests, few) in
    let width : (length row == length kinds + 2) ≡ true = grind (arith, nat_tests, wide) in
    rw (count, width) (sym (earlier-three (end_fault ids row 0) (end_fault ids row 1) (cells_fault row 2 kinds)) ∙ ap (λ o. earlier_of o (cells_fault row 2 kinds)) e)

-- the ends of a record wait behind those that waited
pub by-pair : (of : EdgeSource) (kinds : List Kind) (ids : List ℕ) (row : Row) (ends room : List (NodeNo × NodeNo)) (pairs few more : List (ℕ × ℕ))
    → pairs_fault of.file ids (length room) few ≡ pairs_fault of.file ids (length ends) pairs → ends_so_far ids room few ≡ ends_so_far ids ends pairs → length room + length few ≡ length ends + length pairs
    → more ≡ few ++ pair_of_row row ∷ [] → edge_fault of.before kinds ids (ends_so_far ids room few) row ≡ pair_fault ids (pair_of_row row)
    → pairs_fault of.file ids (length room) more ≡ fault_by_row of kinds ids ends pairs row
by-pair of kinds ids row ends room pairs few more f n count m told =
    let p = pair_of_row row in
    ap (pairs_fault of.file ids (length room)) m ∙ pairs-more of.file ids (length room) few p
    ∙ ap (λ o. earlier_of o (option_map (fault_in of.file (length room + length few + 2)) (pair_fault ids p))) f
    ∙ ap (λ k. earlier_of (pairs_fault of.file ids (length ends) pairs) (option_map (fault_in of.file (k + 2)) (pair_fault ids p))) count
    ∙ ap (λ o. earlier_of (pairs_fault of.file ids (length ends) pairs) (option_map (fault_in of.file (length ends + length pairs + 2)) o)) (sym told ∙ ap (λ x. edge_fault of.before kinds ids x row) n)

-- ---- the records so far

-- what the records of a file of edges give, seen from a place: the edges before it, of which the last are known by their ids alone
pub record Waits (of : EdgeSource) (ids : List ℕ) (kinds : List Kind) (all left : List Row) (ends : List (NodeNo × NodeNo)) (pairs : List (ℕ × ℕ)) (lists : List Cells) : Type 0 where
  pub taken : List Row
  pub whole : all ≡ taken ++ left
  pub made : ends_so_far ids ends pairs ≡ map (ends_of_row ids) taken
  pub cells : lists ≡ cells_of taken 2 kinds
  pub fault : rows_fault of.file (edge_fault of.before kinds ids) (ends_of_row ids) [] all
      ≡ earlier_of (pairs_fault of.file ids (length ends) pairs) (rows_fault of.file (edge_fault of.before kinds ids) (ends_of_row ids) (ends_so_far ids ends pairs) left)

module _ (of : EdgeSource) (ids : List ℕ) (kinds : List Kind) (all : List Row) where
  EdgesSoFar : List Row → List (NodeNo × NodeNo) → List Cells → Type 0
  EdgesSoFar left ends lists = SoFar of.file (ends_of_row ids) 2 (λ k. edge_fault of.before k ids) kinds all left ends lists

  -- where no end waits
  pub none-waits : (left : List Row) (ends : List (NodeNo × NodeNo)) (pairs : List (ℕ × ℕ)) (lists : List Cells)
      → SoFar of.file (ends_of_row ids) 2 (λ k. edge_fault of.before k ids) kinds all left ends lists → pairs ≡ [] → Waits of ids kinds all left ends pairs lists
  none-waits left ends pairs lists s n =
      let same : ends_so_far ids ends pairs ≡ ends = ap (ends_so_far ids ends) n ∙ append-nil ends in
      record {
        taken = s.taken;
        whole = s.whole;
        made = same ∙ s.made;
        cells = s.cells;
        fault = s.fault ∙ ap (λ x. rows_fault of.file (edge_fault of.before kinds ids) (ends_of_row ids) x left) (sym same)
            ∙ ap (λ x. earlier_of (pairs_fault of.file ids (length ends) x) (rows_fault of.file (edge_fault of.before kinds ids) (ends_of_row ids) (ends_so_far ids ends pairs) left)) (sym n);
      }

  -- the ends that wait are found
  pub linked : (left : List Row) (ends new_ends : List (NodeNo × NodeNo)) (pairs : List (ℕ × ℕ)) (lists : List Cells)
      → Waits of ids kinds all left ends pairs lists → pairs_fault of.file ids (length ends) pairs ≡ None → new_ends ≡ ends_so_far ids ends pairs
      → SoFar of.file (ends_of_row ids) 2 (λ k. edge_fault of.before k ids) kinds all left new_ends lists
  linked left ends new_ends pairs lists w none n = record {
    taken = w.taken;
    whole = w.whole;
    made = n ∙ w.made;
    cells = w.cells;
    fault = w.fault ∙ ap (λ o. earlier_of o (rows_fault of.file (edge_fault of.before kinds ids) (ends_of_row ids) (ends_so_far ids ends pairs) left)) none
        ∙ ap (λ x. rows_fault of.file (edge_fault of.before kinds ids) (ends_of_row ids) x left) (sym n);
  }

  pub kinds-waiting : (left : List Row) (ends : List (NodeNo × NodeNo)) (pairs : List (ℕ × ℕ)) (lists : List Cells) → Waits of ids kinds all left ends pairs lists → map kind_of lists ≡ kinds
  kinds-waiting left ends pairs lists w = ap (map kind_of) w.cells ∙ kinds-of-cells w.taken 2 kinds

  pub width-waiting : (left : List Row) (ends : List (NodeNo × NodeNo)) (pairs : List (ℕ × ℕ)) (lists : List Cells) → Waits of ids kinds all left ends pairs lists → length lists ≡ length kinds
  width-waiting left ends pairs lists w = sym (length-map lists kind_of) ∙ ap length (kinds-waiting left ends pairs lists w)

  module _ (left rest : List Row) (row : Row) (ends : List (NodeNo × NodeNo)) (pairs : List (ℕ × ℕ)) (lists : List Cells) (w : Waits of ids kinds all left ends pairs lists) (l : left ≡ given true row rest) where
    -- what the next record adds to what waits
    by-row : rows_fault of.file (edge_fault of.before kinds ids) (ends_of_row ids) [] all
        ≡ earlier_of (fault_by_row of (map kind_of lists) ids ends pairs row) (rows_fault of.file (edge_fault of.before kinds ids) (ends_of_row ids) (ends_so_far ids ends pairs ++ ends_of_row ids row ∷ []) rest)
    by-row =
        let same = kinds-waiting left ends pairs lists w in
        let more = rows_fault of.file (edge_fault of.before kinds ids) (ends_of_row ids) (ends_so_far ids ends pairs ++ ends_of_row ids row ∷ []) rest in
        w.fault ∙ ap (λ x. earlier_of (pairs_fault of.file ids (length ends) pairs) (rows_fault of.file (edge_fault of.before kinds ids) (ends_of_row ids) (ends_so_far ids ends pairs) x)) l
        ∙ ap (λ n. earlier_of (pairs_fault of.file ids (length ends) pairs) (earlier_of (option_map (fault_in of.file (n + 2)) (edge_fault of.before kinds ids (ends_so_far ids ends pairs) row)) more)) (length-so-far ids ends pairs)
        ∙ sym (earlier-three (pairs_fault of.file ids (length ends) pairs) (option_map (fault_in of.file (length ends + length pairs + 2)) (edge_fault of.before kinds ids (ends_so_far ids ends pairs) row)) more)
        ∙ ap (λ k. earlier_of (fault_by_row of k ids ends pairs row) more) (sym same)

    pub more-waits : (new_ends : List (NodeNo × NodeNo)) (new_pairs : List (ℕ × ℕ)) (new_lists : List Cells)
        → pairs_fault of.file ids (length new_ends) new_pairs ≡ fault_by_row of (map kind_of lists) ids ends pairs row
        → ends_so_far ids new_ends new_pairs ≡ ends_so_far ids ends pairs ++ ends_of_row ids row ∷ [] → new_lists ≡ pushed row 2 lists
        → Waits of ids kinds all rest new_ends new_pairs new_lists
    more-waits new_ends new_pairs new_lists f n c = record {
      taken = w.taken ++ row ∷ [];
      whole = w.whole ∙ ap (λ x. w.taken ++ x) l ∙ sym (append_assoc w.taken (row ∷ []) rest);
      made = n ∙ ap (λ x. x ++ ends_of_row ids row ∷ []) w.made ∙ sym (map-append (ends_of_row ids) w.taken (row ∷ []));
      cells = c ∙ ap (pushed row 2) w.cells ∙ cells-more w.taken row 2 kinds;
      fault = by-row ∙ ap (λ o. earlier_of o (rows_fault of.file (edge_fault of.before kinds ids) (ends_of_row ids) (ends_so_far ids ends pairs ++ ends_of_row ids row ∷ []) rest)) (sym f)
          ∙ ap (λ x. earlier_of (pairs_fault of.file ids (length new_ends) new_pairs) (rows_fault of.file (edge_fault of.before kinds ids) (ends_of_row ids) x rest)) (sym n);
    }

    -- the next record is refused, or an end that waits
    pub stops-by-row : (e : LoadFault) → IfFault e (λ f. fault_by_row of (map kind_of lists) ids ends pairs row ≡ Some f)
        → IfFault e (λ f. rows_fault of.file (edge_fault of.before kinds ids) (ends_of_row ids) [] all ≡ Some f)
    stops-by-row load.NoMemory t = tt
    stops-by-row (load.Fault f) e = by-row ∙ ap (λ o. earlier_of o (rows_fault of.file (edge_fault of.before kinds ids) (ends_of_row ids) (ends_so_far ids ends pairs ++ ends_of_row ids row ∷ []) rest)) e
