-- Tables as blocks of a change text, each behind the one before it.
use Rattle.std.proofs.Common.{◌≡◌, ◌∙◌, ◌+◌, ◌<◌, ℕ, zero, suc, List, [], ◌∷◌, ◌++◌, length, take, drop, map, flat_map, get_or, Bool, true, false, Option, Some, None, refl, sym, ap, subst, arith, append-nil, option_copied, add-one}
use denote.Ref.{Bor}
use Rattle.std.proofs.lemmas.List.{map-append}
use Rattle.std.proofs.lemmas.Grind.{flat_map-append}
use Rattle.graph_model.specs.GraphData.{GraphData}
use Rattle.vertex_lang.specs.Expressions.{Answer}
use Rattle.gvdl_check.specs.declared.plan.ViewPlan.{ViewPlan}
use Rattle.gvdl_check.specs.declared.plan.RunPlan.{RunPlan}
use Rattle.surge_outside.specs.Written.{appended, GrewByFront}
use Rattle.result_tables.specs.declared.form.Form.{Form}
use Rattle.result_tables.specs.declared.form.Form.TheVariants as form
use Rattle.result_tables.specs.declared.table.Table.{Table}
use Rattle.result_tables.specs.TableText.{line_end}
use Rattle.change_text.specs.Blocks.{Block}
use Rattle.change_text.specs.Spelling.{block_lines, block_text, changes_lines, changes_text, ended}
use Rattle.change_text.specs.Writing.{IsTableBefore}
use Rattle.surge_session.specs.Live.{LiveGraph}
use Rattle.surge_session.specs.Output.{Shown, alone, block_behind, blocks_behind, is_changes, last_table, tables_in, tables_text, view_shown, view_text}
use Rattle.surge_session.proofs.Telling.{is_table}
use Rattle.surge_session.proofs.Written.{appended-append, front_within}

-- ---- texts

pub changes-cons : (b : Block) (bs : List Block) → changes_text (b ∷ bs) ≡ block_text b ++ changes_text bs
changes-cons b bs = flat_map-append (λ (line : List ℕ). line ++ line_end) (block_lines b) (changes_lines bs)

pub changes-append : (bs cs : List Block) → changes_text (bs ++ cs) ≡ changes_text bs ++ changes_text cs
changes-append bs cs = ap ended (flat_map-append block_lines bs cs) ∙ flat_map-append (λ (line : List ℕ). line ++ line_end) (changes_lines bs) (changes_lines cs)

-- ---- tables behind others

behind-append : (g : GraphData) (before : Option Table) (xs ys : List Shown) → blocks_behind g before (xs ++ ys) ≡ blocks_behind g before xs ++ blocks_behind g (last_table before xs) ys
behind-append g before [] ys = refl
behind-append g before (x ∷ xs) ys = ap (λ (bs : List Block). block_behind g before x ∷ bs) (behind-append g (Some x.table) xs ys)

last-append : (before : Option Table) (xs ys : List Shown) → last_table before (xs ++ ys) ≡ last_table (last_table before xs) ys
last-append before [] ys = refl
last-append before (x ∷ xs) ys = last-append (Some x.table) xs ys

-- the text of more tables is that of the first ones, and more behind it
pub more_tables : (in_form : Form) (g : GraphData) (xs ys : List Shown) → (more : List ℕ) × (tables_in in_form g (xs ++ ys) ≡ tables_in in_form g xs ++ more)
more_tables form.Tables g xs ys = (tables_in form.Tables g ys, flat_map-append (alone form.Tables g) xs ys)
more_tables form.Summary g xs ys = (tables_in form.Summary g ys, flat_map-append (alone form.Summary g) xs ys)
more_tables form.Changes g xs ys = (
  changes_text (blocks_behind g (last_table None xs) ys),
  ap changes_text (behind-append g None xs ys) ∙ changes-append (blocks_behind g None xs) (blocks_behind g (last_table None xs) ys),
)

-- ---- in a form

flat_map-map : {X : Type 0} (h : Shown → List ℕ) (f : X → Shown) (xs : List X) → flat_map (λ x. h (f x)) xs ≡ flat_map h (map f xs)
flat_map-map h f [] = refl
flat_map-map h f (x ∷ xs) = ap (λ (bytes : List ℕ). h (f x) ++ bytes) (flat_map-map h f xs)

-- each table alone
pub texts_alone : (answer : Answer) (in_form : Form) (w : LiveGraph) (run : RunPlan) (name : List ℕ) (views : List ViewPlan) → is_changes in_form ≡ false
    → flat_map (view_text answer in_form w run name) views ≡ tables_text answer in_form w run name views
texts_alone answer form.Tables w run name views e = flat_map-map (alone form.Tables w.graph) (view_shown answer w run name) views
texts_alone answer form.Summary w run name views e = flat_map-map (alone form.Summary w.graph) (view_shown answer w run name) views
texts_alone answer form.Changes w run name views e = absurd cc

-- and as blocks
pub texts_of_blocks : (in_form : Form) (g : GraphData) (tables : List Shown) → is_changes in_form ≡ true → changes_text (blocks_behind g None tables) ≡ tables_in in_form g tables
texts_of_blocks form.Tables g tables e = absurd cc
texts_of_blocks form.Summary g tables e = absurd cc
texts_of_blocks form.Changes g tables e = refl

-- ---- one after the other

pub split_at : {X : Type 0} (xs : List X) (i : ℕ) (x : X) → i < length xs → x ≡ get_or xs i x → xs ≡ take i xs ++ x ∷ drop (suc i) xs
split_at [] i x lt is = absurd (omega (arith, lt))
split_at (y ∷ ys) zero x lt is = ap (λ z. z ∷ ys) (sym is)
split_at (y ∷ ys) (suc i) x lt is = ap (λ zs. y ∷ zs) (split_at ys i x (omega (arith, lt)) is)

pub one_taken : {X : Type 0} (xs : List X) (i : ℕ) (x : X) → i < length xs → x ≡ get_or xs i x → take (suc i) xs ≡ take i xs ++ x ∷ []
one_taken [] i x lt is = absurd (omega (arith, lt))
one_taken (y ∷ ys) zero x lt is = ap (λ z. z ∷ []) (sym is)
one_taken (y ∷ ys) (suc i) x lt is = ap (λ zs. y ∷ zs) (one_taken ys i x (omega (arith, lt)) is)

module _ (g : GraphData) {X : Type 0} (f : X → Shown) (xs : List X) (i : ℕ) (x : X) (lt : i < length xs) (is : x ≡ get_or xs i x) where
  -- the tables before this one, the last of them, and their text
  abbrev before : List Shown
  before = map f (take i xs)

  abbrev last : Option Table
  last = last_table None before

  abbrev text : List ℕ
  text = changes_text (blocks_behind g None before)

  with_one : map f (take (i + 1) xs) ≡ before ++ f x ∷ []
  with_one = ap (λ (n : ℕ). map f (take n xs)) (add-one i) ∙ ap (map f) (one_taken xs i x lt is) ∙ map-append f (take i xs) (x ∷ [])

  pub last_of : last_table None (map f (take (i + 1) xs)) ≡ Some (f x).table
  last_of = ap (last_table None) with_one ∙ last-append None before (f x ∷ [])

  one_more : changes_text (blocks_behind g None (map f (take (i + 1) xs))) ≡ text ++ block_text (block_behind g last (f x))
  one_more =
      ap (λ (tables : List Shown). changes_text (blocks_behind g None tables)) with_one
      ∙ ap changes_text (behind-append g None before (f x ∷ []))
      ∙ changes-append (blocks_behind g None before) (block_behind g last (f x) ∷ [])
      ∙ ap (λ (bytes : List ℕ). text ++ bytes) (changes-cons (block_behind g last (f x)) [] ∙ append-nil (block_text (block_behind g last (f x))))

  pub text_of : (old mid new : Option (List ℕ)) (was : Option Table) → mid ≡ appended old text → was ≡ last → new ≡ appended mid (block_text (block_behind g was (f x))) → new ≡ appended old (changes_text (blocks_behind g None (map f (take (i + 1) xs))))
  text_of old mid new was so_far at e =
      e ∙ ap (λ (t : Option Table). appended mid (block_text (block_behind g t (f x)))) at
      ∙ ap (λ (m : Option (List ℕ)). appended m (block_text (block_behind g last (f x)))) so_far
      ∙ appended-append old text (block_text (block_behind g last (f x)))
      ∙ ap (appended old) (sym one_more)

  whole : changes_text (blocks_behind g None (map f xs)) ≡ text ++ (block_text (block_behind g last (f x)) ++ changes_text (blocks_behind g (Some (f x).table) (map f (drop (suc i) xs))))
  whole =
      let more : List Shown = map f (drop (suc i) xs) in
      ap (λ (ys : List X). changes_text (blocks_behind g None (map f ys))) (split_at xs i x lt is)
      ∙ ap (λ (tables : List Shown). changes_text (blocks_behind g None tables)) (map-append f (take i xs) (x ∷ drop (suc i) xs))
      ∙ ap changes_text (behind-append g None before (f x ∷ more))
      ∙ changes-append (blocks_behind g None before) (block_behind g last (f x) ∷ blocks_behind g (Some (f x).table) more)
      ∙ ap (λ (bytes : List ℕ). text ++ bytes) (changes-cons (block_behind g last (f x)) (blocks_behind g (Some (f x).table) more))

  pub front_of : (old mid new : Option (List ℕ)) (was : Option Table) → mid ≡ appended old text → was ≡ last → GrewByFront mid new (block_text (block_behind g was (f x))) → GrewByFront old new (changes_text (blocks_behind g None (map f xs)))
  front_of old mid new was so_far at piece =
      front_within old mid new text (block_text (block_behind g last (f x))) (changes_text (blocks_behind g (Some (f x).table) (map f (drop (suc i) xs)))) (changes_text (blocks_behind g None (map f xs))) whole so_far
      (subst (λ (t : Option Table). GrewByFront mid new (block_text (block_behind g t (f x)))) at piece)

-- ---- tables of runs

-- the last of them is a table of the graph
last_fits : (answer : Answer) (w : LiveGraph) (run : RunPlan) (name : List ℕ) (was : Option Table) → IsTableBefore w.graph was → (views : List ViewPlan) → IsTableBefore w.graph (last_table was (map (view_shown answer w run name) views))
last_fits answer w run name was h [] = h
last_fits answer w run name was h (view ∷ views) = last_fits answer w run name (Some (view_shown answer w run name view).table) (is_table answer w run view.rule) views

pub before_fits : (answer : Answer) (w : LiveGraph) (run : RunPlan) (name : List ℕ) (views : List ViewPlan) (was : Option (Bor Table)) (is : Option Table) → option_copied was ≡ is → is ≡ last_table None (map (view_shown answer w run name) views)
    → IsTableBefore w.graph (option_copied was)
before_fits answer w run name views was is same last = subst (IsTableBefore w.graph) (sym (same ∙ last)) (last_fits answer w run name None tt views)
