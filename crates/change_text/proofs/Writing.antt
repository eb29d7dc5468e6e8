-- The text of a block, and the rows that differ.
use Rattle.std.proofs.Common.{◌≡◌, ◌∙◌, ℕ, ◌+◌, ◌<◌, ◌≤◌, Bool, true, false, not, cond, List, [], ◌∷◌, ◌++◌, length, take, drop, map, filter, flat_map, get_or, codes, Option, Some, None, refl, sym, ap, ap₂, subst, append_assoc, append-nil, decimal, take-append-drop, ◌≢◌, ◌&&◌, MatchBool, true≢false, if◌then◌else◌, option_copied, slice_get}
use Rattle.std.proofs.lemmas.List.{drop_more, map-append, take-take}
use Rattle.std.proofs.lemmas.List.Elements.{filter_more}
use denote.Ref.{Bor}
use Rattle.std.proofs.lemmas.Option.{get_or_from_slice_get}
use Rattle.vertex_lang.specs.Lone.{same_value}
use Rattle.vertex_lang.specs.GatherLaws.{values-exact}
use Rattle.graph_model.specs.GraphData.{GraphData, id_of, nodes_by_id}
use Rattle.graph_model.specs.declared.number.NodeNo.{NodeNo}
use Rattle.graph_model.specs.declared.value.Val.{Val}
use Rattle.vertex_lang.specs.declared.lone.Outcome.{Outcome}
use Rattle.vertex_lang.specs.declared.lone.Outcome.TheVariants as outcome
use Rattle.result_tables.specs.TableText.{line_end, node_line, outcome_text, rows, table_text, value_line, value_text}
use Rattle.result_tables.specs.declared.table.Table.{Table}
use Rattle.change_text.specs.declared.kind.Kind.{Kind}
use Rattle.change_text.specs.declared.kind.Kind.TheVariants as kind
use Rattle.change_text.specs.declared.row.Row.{Row}
use Rattle.change_text.specs.Blocks.{Block}
use Rattle.change_text.specs.Spelling.{block_text, ended, last_line, opening_line, row_line, word}
use Rattle.change_text.specs.Writing.{IsTableHead, block_of, changed_rows, is_changed, kind_behind, row_of, rows_behind, table_rows}
use Rattle.change_text.proofs.Blocks.{ended-append}

-- ---- the text of a block, part by part

pub value_line_is : (id : ℕ) (v : Val) → value_line id v ≡ row_line (record { id = id; value = v }) ++ line_end
value_line_is id v = sym (append_assoc (decimal id) (44 ∷ value_text v) line_end)

pub parts : (b : Block) → block_text b ≡ word b.kind ++ (b.head ++ (codes " " ++ (outcome_text b.outcome ++ (line_end ++ (ended (map row_line b.rows) ++ (codes "end" ++ line_end))))))
parts b =
    let rest : List ℕ = ended (map row_line b.rows ++ last_line ∷ []) in
    let more : List ℕ = line_end ++ (ended (map row_line b.rows) ++ (codes "end" ++ line_end)) in
    let tail : line_end ++ rest ≡ more = ap (λ (bs : List ℕ). line_end ++ bs) (ended-append (map row_line b.rows) (last_line ∷ []) ∙ ap (λ (bs : List ℕ). ended (map row_line b.rows) ++ bs) (append-nil (last_line ++ line_end))) in
    append_assoc (opening_line b.kind b.head b.outcome) line_end rest
    ∙ ap (λ (bs : List ℕ). opening_line b.kind b.head b.outcome ++ bs) tail
    ∙ append_assoc (word b.kind) (b.head ++ (codes " " ++ outcome_text b.outcome)) more
    ∙ ap (λ (bs : List ℕ). word b.kind ++ bs) (append_assoc b.head (codes " " ++ outcome_text b.outcome) more
    ∙ ap (λ (bs : List ℕ). b.head ++ bs) (append_assoc (codes " ") (outcome_text b.outcome) more))

-- ---- a full block is a table

lines_of : (graph : GraphData) (values : List Val) (nodes : List NodeNo) → flat_map (node_line graph values) nodes ≡ ended (map row_line (map (row_of graph values) nodes))
lines_of graph values [] = refl
lines_of graph values (n ∷ ns) = ap₂ (λ (a b : List ℕ). a ++ b) (value_line_is (id_of graph n.0) (row_of graph values n).value) (lines_of graph values ns)

rows_are : (graph : GraphData) (o : Outcome) (values : List Val) → rows graph o values ≡ ended (map row_line (table_rows graph o values))
rows_are graph (outcome.Settled r) values = lines_of graph values (nodes_by_id graph.ids)
rows_are graph (outcome.After r) values = lines_of graph values (nodes_by_id graph.ids)
rows_are graph (outcome.Phases r) values = lines_of graph values (nodes_by_id graph.ids)
rows_are graph outcome.Unsettled values = refl

pub full_text : (head : List ℕ) (graph : GraphData) (table : Table) → IsTableHead head
    → table_text head graph table ≡ block_text (record { kind = kind.Full; head = drop 5 head; outcome = table.outcome; rows = table_rows graph table.outcome table.values })
full_text head graph table is =
    let tail : List ℕ = codes " " ++ (outcome_text table.outcome ++ (line_end ++ (rows graph table.outcome table.values ++ (codes "end" ++ line_end)))) in
    ap (λ (bs : List ℕ). bs ++ tail) (sym (take-append-drop 5 head) ∙ ap (λ (bs : List ℕ). bs ++ drop 5 head) is)
    ∙ append_assoc (codes "view ") (drop 5 head) tail
    ∙ ap (λ (bs : List ℕ). codes "view " ++ (drop 5 head ++ (codes " " ++ (outcome_text table.outcome ++ (line_end ++ (bs ++ (codes "end" ++ line_end))))))) (rows_are graph table.outcome table.values)
    ∙ sym (parts (record { kind = kind.Full; head = drop 5 head; outcome = table.outcome; rows = table_rows graph table.outcome table.values }))

as_full : (k : Kind) (head : List ℕ) (graph : GraphData) (before : Option Table) (table : Table) → k ≡ kind.Full
    → ◌≡◌ {A = Block} (record { kind = kind.Full; head = drop 5 head; outcome = table.outcome; rows = table_rows graph table.outcome table.values }) (record { kind = k; head = drop 5 head; outcome = table.outcome; rows = rows_behind k graph before table })
as_full kind.Full head graph before table e = refl
as_full kind.Change head graph before table e = absurd cc

pub full_is : (head : List ℕ) (graph : GraphData) (before : Option Table) (table : Table) → IsTableHead head → kind_behind before table ≡ kind.Full → table_text head graph table ≡ block_text (block_of head graph before table)
full_is head graph before table is e = full_text head graph table is ∙ ap block_text (as_full (kind_behind before table) head graph before table e)

as_change : (k : Kind) (head : List ℕ) (graph : GraphData) (before table : Table) → k ≡ kind.Change
    → ◌≡◌ {A = Block} (record { kind = kind.Change; head = drop 5 head; outcome = table.outcome; rows = changed_rows graph before.values table.values }) (record { kind = k; head = drop 5 head; outcome = table.outcome; rows = rows_behind k graph (Some before) table })
as_change kind.Full head graph before table e = absurd cc
as_change kind.Change head graph before table e = refl

pub change_is : (head : List ℕ) (graph : GraphData) (before table : Table) → kind_behind (Some before) table ≡ kind.Change
    → block_text (record { kind = kind.Change; head = drop 5 head; outcome = table.outcome; rows = changed_rows graph before.values table.values }) ≡ block_text (block_of head graph (Some before) table)
change_is head graph before table e = ap block_text (as_change (kind_behind (Some before) table) head graph before table e)

pub full_alone : (head : List ℕ) (graph : GraphData) (before : Option (Bor Table)) (table : Table) → IsTableHead head → before ≡ None → table_text head graph table ≡ block_text (block_of head graph (option_copied before) table)
full_alone head graph None table is e = full_is head graph None table is refl
full_alone head graph (Some before) table is e = absurd cc

pub not_before : (x y : Bool) → x ≡ false → (if x && y then kind.Change else kind.Full) ≡ kind.Full
not_before true y e = absurd cc
not_before false y e = refl

pub not_now : (x y : Bool) → y ≡ false → (if x && y then kind.Change else kind.Full) ≡ kind.Full
not_now true y e = ap (λ (b : Bool). if b then kind.Change else kind.Full) e
not_now false y e = refl

pub both_shown : (x y : Bool) → x ≡ true → y ≡ true → (if x && y then kind.Change else kind.Full) ≡ kind.Change
both_shown true y e f = ap (λ (b : Bool). if b then kind.Change else kind.Full) f
both_shown false y e f = absurd cc

-- ---- the rows that differ, one node more

unlike : (b : Bool) (x y : Val) (same : Bool) → same_value x y ≡ same → MatchBool b (x ≢ y) (x ≡ y) → b ≡ not same
unlike true x y true e m = absurd (m (values-exact.one x y e))
unlike true x y false e m = refl
unlike false x y true e m = refl
unlike false x y false e m = absurd (true≢false (sym (subst (λ (z : Val). same_value x z ≡ true) m (values-exact.itself x)) ∙ e))

pub other_is : (b : Bool) (x y : Val) → MatchBool b (x ≢ y) (x ≡ y) → b ≡ not (same_value x y)
other_is b x y m = unlike b x y (same_value x y) refl m

map_if : (f : NodeNo → Row) (b : Bool) (n : NodeNo) → map f (cond b (n ∷ []) []) ≡ cond b (f n ∷ []) []
map_if f true n = refl
map_if f false n = refl

module _ (graph : GraphData) (before values : List Val) where
  abbrev pub rows_upto : ℕ → List Row
  rows_upto place = map (row_of graph values) (filter (is_changed before values) (take place (nodes_by_id graph.ids)))

  grown : (place : ℕ) (n : NodeNo) → place < length (nodes_by_id graph.ids) → n ≡ get_or (nodes_by_id graph.ids) place n → rows_upto (place + 1) ≡ rows_upto place ++ map (row_of graph values) (cond (is_changed before values n) (n ∷ []) [])
  grown place n lt is =
      ap (map (row_of graph values)) (filter_more (is_changed before values) (nodes_by_id graph.ids) place n lt)
      ∙ map-append (row_of graph values) (filter (is_changed before values) (take place (nodes_by_id graph.ids))) (cond (is_changed before values (get_or (nodes_by_id graph.ids) place n)) (get_or (nodes_by_id graph.ids) place n ∷ []) [])
      ∙ ap (λ (m : NodeNo). map (row_of graph values) (filter (is_changed before values) (take place (nodes_by_id graph.ids))) ++ map (row_of graph values) (cond (is_changed before values m) (m ∷ []) [])) (sym is)

  -- the row of the node at a place, where it differs
  pub one_row : (place : ℕ) (n : NodeNo) (rows : List Row) → place < length (nodes_by_id graph.ids) → slice_get (nodes_by_id graph.ids) place ≡ Some n → rows ≡ rows_upto place
      → rows ++ (if is_changed before values n then row_of graph values n ∷ [] else []) ≡ rows_upto (place + 1)
  one_row place n rows lt at so_far =
      ap (λ (rs : List Row). rs ++ (if is_changed before values n then row_of graph values n ∷ [] else [])) so_far
      ∙ sym (grown place n lt (sym (get_or_from_slice_get (nodes_by_id graph.ids) place n n at)) ∙ ap (λ (rs : List Row). rows_upto place ++ rs) (map_if (row_of graph values) (is_changed before values n) n))

-- ---- the lines of rows

row_text_is : (row : Row) (rest : List ℕ) → value_line row.id row.value ++ rest ≡ (row_line row ++ line_end) ++ rest
row_text_is row rest = ap (λ (bs : List ℕ). bs ++ rest) (value_line_is row.id row.value)

pub one_before : (rows : List Row) (i place : ℕ) (row : Row) → place ≡ i + 1 → i < length rows → row ≡ get_or rows i row → value_line row.id row.value ++ ended (map row_line (drop place rows)) ≡ ended (map row_line (drop i rows))
one_before rows i place row next lt is =
    row_text_is row (ended (map row_line (drop place rows)))
    ∙ ap (λ (n : ℕ). (row_line row ++ line_end) ++ ended (map row_line (drop n rows))) next
    ∙ ap (λ (r : Row). (row_line r ++ line_end) ++ ended (map row_line (drop (i + 1) rows))) is
    ∙ sym (ap (λ (rs : List Row). ended (map row_line rs)) (drop_more rows i row lt))

pub more_lines : (rows : List Row) (done upto : ℕ) (first before after : List ℕ) → done ≤ upto → before ≡ first ++ ended (map row_line (take done rows)) → after ≡ before ++ ended (map row_line (drop done (take upto rows)))
    → after ≡ first ++ ended (map row_line (take upto rows))
more_lines rows done upto first before after le so_far more =
    let front : List Row = take done rows in
    let part : List Row = drop done (take upto rows) in
    let cut : take upto rows ≡ front ++ part = sym (ap (λ (rs : List Row). rs ++ part) (sym (take-take done upto rows le)) ∙ take-append-drop done (take upto rows)) in
    more ∙ ap (λ (bs : List ℕ). bs ++ ended (map row_line part)) so_far
    ∙ append_assoc first (ended (map row_line front)) (ended (map row_line part))
    ∙ ap (λ (bs : List ℕ). first ++ bs) (sym (ended-append (map row_line front) (map row_line part)))
    ∙ ap (λ (ls : List (List ℕ)). first ++ ended ls) (sym (map-append row_line front part))
    ∙ ap (λ (rs : List Row). first ++ ended (map row_line rs)) (sym cut)
