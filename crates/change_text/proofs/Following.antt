-- A table's block behind that of the table before.
use Rattle.std.proofs.Common.{◌≡◌, ◌≢◌, ◌∙◌, ℕ, ◌<◌, Bool, true, false, not, cond, List, [], ◌∷◌, map, filter, get_or, drop, Option, Some, None, All, refl, sym, ap, subst, arith, true≢false, if◌then◌else◌, ◌&&◌}
use Rattle.std.proofs.lemmas.List.Elements.{All-cons, All-head, All-nil, All-tail, All-weaker}
use Rattle.graph_model.specs.GraphData.{GraphData, id_of, nodes_by_id}
use Rattle.graph_model.specs.declared.number.NodeNo.{NodeNo}
use Rattle.graph_model.specs.declared.value.Val.{Val}
use Rattle.graph_model.specs.declared.value.Val.TheVariants.{Nil}
use Rattle.vertex_lang.specs.Lone.{same_value}
use Rattle.vertex_lang.specs.GatherLaws.{values-exact}
use Rattle.vertex_lang.specs.declared.lone.Outcome.{Outcome}
use Rattle.vertex_lang.specs.declared.lone.Outcome.TheVariants as outcome
use Rattle.result_tables.specs.declared.table.Table.{Table}
use Rattle.change_text.specs.declared.kind.Kind.{Kind}
use Rattle.change_text.specs.declared.kind.Kind.TheVariants as kind
use Rattle.change_text.specs.declared.row.Row.{Row}
use Rattle.change_text.specs.Blocks.{Block, Differs, Follows, HasRows, IsBlock, IsRising, IsRow, put, put_all, table_of, value_at}
use Rattle.change_text.specs.Writing.{block_of, changed_rows, full_of, is_changed, is_shown, row_of, rows_behind, table_rows}
use Rattle.change_text.specs.Laws.{IsBefore, before_of}
use Rattle.change_text.proofs.Lines.{row_with}
use Rattle.change_text.proofs.Rows.{put_here, put_none, put_other, value_here, value_other}
use Rattle.change_text.proofs.Split.{same_cons}

put_cons : (x : Row) (xs cs : List Row) → All (λ c. x.id < c.id) cs → put_all (x ∷ xs) cs ≡ x ∷ put_all xs cs
put_cons x xs [] all = refl
put_cons x xs (c ∷ cs) all =
    let low : x.id < c.id = All-head (λ (s : Row). x.id < s.id) c cs all in
    ap (λ (r : Row). put_all (r ∷ put xs c) cs) (put_other x c (λ e. absurd (omega (arith, low, e))))
    ∙ put_cons x (put xs c) cs (All-tail (λ (s : Row). x.id < s.id) c cs all)

not_false : (b : Bool) → not b ≡ false → b ≡ true
not_false true e = refl
not_false false e = absurd cc

not_true : (b : Bool) → not b ≡ true → b ≡ false
not_true true e = absurd cc
not_true false e = refl

module _ (graph : GraphData) (old new : List Val) where
  abbrev was : NodeNo → Row
  was n = row_of graph old n

  abbrev is : NodeNo → Row
  is n = row_of graph new n

  abbrev changed : NodeNo → Bool
  changed n = is_changed old new n

  abbrev changes : List NodeNo → List Row
  changes nodes = map is (filter changed nodes)

  unchanged : (n : NodeNo) → changed n ≡ false → was n ≡ is n
  unchanged n e = ap (λ (v : Val). row_with (id_of graph n.0) v) (values-exact.one (get_or old n.0 Nil) (get_or new n.0 Nil) (not_false (same_value (get_or old n.0 Nil) (get_or new n.0 Nil)) e))

  other : (n : NodeNo) → changed n ≡ true → (was n).value ≢ (is n).value
  other n e same =
      true≢false (sym (subst (λ (v : Val). same_value (get_or old n.0 Nil) v ≡ true) same (values-exact.itself (get_or old n.0 Nil))) ∙ not_true (same_value (get_or old n.0 Nil) (get_or new n.0 Nil)) e)

  one_kept : (P : Row → Type 0) (n : NodeNo) (ns : List NodeNo) (b : Bool) → P (is n) → All P (changes ns) → All P (map is (cond b (n ∷ filter changed ns) (filter changed ns)))
  one_kept P n ns true p all = All-cons P (is n) (changes ns) p all
  one_kept P n ns false p all = all

  kept : (P : Row → Type 0) (nodes : List NodeNo) → All P (map is nodes) → All P (changes nodes)
  kept P [] all = all
  kept P (n ∷ ns) all = one_kept P n ns (changed n) (All-head P (is n) (map is ns) all) (kept P ns (All-tail P (is n) (map is ns) all))

  one_rises : (n : NodeNo) (ns : List NodeNo) (b : Bool) → All (λ s. (is n).id < s.id) (changes ns) → IsRising (changes ns) → IsRising (map is (cond b (n ∷ filter changed ns) (filter changed ns)))
  one_rises n ns true low up = (low, up)
  one_rises n ns false low up = up

  rises : (nodes : List NodeNo) → IsRising (map is nodes) → IsRising (changes nodes)
  rises [] up = tt
  rises (n ∷ ns) up = one_rises n ns (changed n) (kept (λ (s : Row). (is n).id < s.id) ns up.0) (rises ns up.1)

  one_gives : (n : NodeNo) (ns : List NodeNo) (b : Bool) → changed n ≡ b → All (λ s. (was n).id < s.id) (map was ns) → All (λ s. (is n).id < s.id) (changes ns) → put_all (map was ns) (changes ns) ≡ map is ns
      → put_all (was n ∷ map was ns) (map is (cond b (n ∷ filter changed ns) (filter changed ns))) ≡ is n ∷ map is ns
  one_gives n ns true e above low rest =
      ap (λ (r : Row). put_all (r ∷ put (map was ns) (is n)) (changes ns)) (put_here (was n) (is n) refl)
      ∙ ap (λ (rs : List Row). put_all (is n ∷ rs) (changes ns)) (put_none (map was ns) (is n) (All-weaker (λ (s : Row). (was n).id < s.id) (λ (s : Row). s.id ≢ (is n).id) (λ s h f. absurd (omega (arith, h, f))) (map was ns) above))
      ∙ put_cons (is n) (map was ns) (changes ns) low ∙ ap (λ (rs : List Row). is n ∷ rs) rest
  one_gives n ns false e above low rest = put_cons (was n) (map was ns) (changes ns) low ∙ same_cons (unchanged n e) rest

  gives : (nodes : List NodeNo) → IsRising (map was nodes) → IsRising (map is nodes) → put_all (map was nodes) (changes nodes) ≡ map is nodes
  gives [] up down = refl
  gives (n ∷ ns) up down = one_gives n ns (changed n) refl up.0 (kept (λ (s : Row). (is n).id < s.id) ns down.0) (gives ns up.1 down.1)

  differs_on : (n : NodeNo) (ns : List NodeNo) (c : Row) → (is n).id < c.id → Differs (map was ns) c → Differs (was n ∷ map was ns) c
  differs_on n ns c low d = (d.0, value_other (was n) c.id (value_at (map was ns) c.id) (λ e. absurd (omega (arith, low, e))) ∙ d.1, d.2)

  one_differs : (n : NodeNo) (ns : List NodeNo) (b : Bool) → changed n ≡ b → All (Differs (was n ∷ map was ns)) (changes ns) → All (Differs (was n ∷ map was ns)) (map is (cond b (n ∷ filter changed ns) (filter changed ns)))
  one_differs n ns true e all = All-cons (Differs (was n ∷ map was ns)) (is n) (changes ns) ((was n).value, value_here (was n) (is n).id (value_at (map was ns) (is n).id) refl, other n e) all
  one_differs n ns false e all = all

  differ_all : (nodes : List NodeNo) → IsRising (map is nodes) → All (Differs (map was nodes)) (changes nodes)
  differ_all [] up = All-nil (Differs [])
  differ_all (n ∷ ns) up =
      let low = kept (λ (s : Row). (is n).id < s.id) ns up.0 in
      let rest = differ_all ns up.1 in
      one_differs n ns (changed n) refl (λ k d lt. differs_on n ns (get_or (changes ns) k d) (low k d lt) (rest k d lt))

-- ---- the block behind a table

rows_shown : (graph : GraphData) (o : Outcome) (values : List Val) → is_shown o ≡ true → table_rows graph o values ≡ map (row_of graph values) (nodes_by_id graph.ids)
rows_shown graph (outcome.Settled r) values e = refl
rows_shown graph (outcome.After r) values e = refl
rows_shown graph (outcome.Phases r) values e = refl
rows_shown graph outcome.Unsettled values e = absurd cc

any_rows : (o : Outcome) (rows : List Row) → is_shown o ≡ true → HasRows o rows
any_rows (outcome.Settled r) rows e = tt
any_rows (outcome.After r) rows e = tt
any_rows (outcome.Phases r) rows e = tt
any_rows outcome.Unsettled rows e = absurd cc

abbrev block_rows : Outcome → List ℕ → List Row → Block
block_rows o of rows = record { kind = kind.Full; head = of; outcome = o; rows = rows }

not_unsettled : (o : Outcome) → is_shown o ≡ true → o ≢ outcome.Unsettled
not_unsettled o e f = true≢false (sym e ∙ ap (λ (p : Outcome). is_shown p) f)

module _ (head earlier : List ℕ) (graph : GraphData) (before table : Table) (block : IsBlock (full_of head graph table)) (old : IsBlock (full_of earlier graph before)) where
  abbrev behind : Kind → Block
  behind k = record { kind = k; head = drop 5 head; outcome = table.outcome; rows = rows_behind k graph (Some before) table }

  abbrev Holds : Kind → Type 0
  Holds k = IsBlock (behind k) × Follows (Some (full_of earlier graph before)) (behind k) × (table_of (Some (full_of earlier graph before)) (behind k) ≡ full_of head graph table)

  holds_full : Holds kind.Full
  holds_full = (record { head = block.head; outcome = block.outcome; rows = block.rows; rising = block.rising; unsettled = block.unsettled }, tt, refl)

  holds_change : is_shown before.outcome ≡ true → is_shown table.outcome ≡ true → Holds kind.Change
  holds_change shown now =
      let nodes : List NodeNo = nodes_by_id graph.ids in
      let was_rows : table_rows graph before.outcome before.values ≡ map (row_of graph before.values) nodes = rows_shown graph before.outcome before.values shown in
      let is_rows : table_rows graph table.outcome table.values ≡ map (row_of graph table.values) nodes = rows_shown graph table.outcome table.values now in
      let up : IsRising (map (row_of graph before.values) nodes) = subst (λ (rs : List Row). IsRising rs) was_rows old.rising in
      let down : IsRising (map (row_of graph table.values) nodes) = subst (λ (rs : List Row). IsRising rs) is_rows block.rising in (
        record {
          head = block.head;
          outcome = block.outcome;
          rows = kept graph before.values table.values IsRow nodes (subst (λ (rs : List Row). All IsRow rs) is_rows block.rows);
          rising = rises graph before.values table.values nodes down;
          unsettled = any_rows table.outcome (changed_rows graph before.values table.values) now;
        },
        (
          not_unsettled before.outcome shown,
          not_unsettled table.outcome now,
          subst (λ (rs : List Row). All (Differs rs) (changed_rows graph before.values table.values)) (sym was_rows) (differ_all graph before.values table.values nodes down),
        ),
        ap (λ (rs : List Row). block_rows table.outcome (drop 5 head) rs) (ap (λ (rs : List Row). put_all rs (changed_rows graph before.values table.values)) was_rows ∙ gives graph before.values table.values nodes up down ∙ sym is_rows),
      )

  by_tests : (x y : Bool) → is_shown before.outcome ≡ x → is_shown table.outcome ≡ y → Holds (if x && y then kind.Change else kind.Full)
  by_tests true true e f = holds_change e f
  by_tests true false e f = holds_full
  by_tests false y e f = holds_full

pub follows : (graph : GraphData) (head earlier : List ℕ) (before : Option Table) (table : Table) → IsBlock (full_of head graph table) → IsBefore earlier graph before
    → IsBlock (block_of head graph before table) × Follows (before_of earlier graph before) (block_of head graph before table) × (table_of (before_of earlier graph before) (block_of head graph before table) ≡ full_of head graph table)
follows graph head earlier None table block old = (record { head = block.head; outcome = block.outcome; rows = block.rows; rising = block.rising; unsettled = block.unsettled }, tt, refl)
follows graph head earlier (Some before) table block old = by_tests head earlier graph before table block old (is_shown before.outcome) (is_shown table.outcome) refl refl
