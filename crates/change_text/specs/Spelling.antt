-- How blocks are spelled: as lines.
use Rattle.std.specs.Prelude.{ℕ, List, [], ◌∷◌, ◌++◌, codes, map, flat_map}
use Rattle.std.specs.Fmt.{decimal}
use Rattle.vertex_lang.specs.declared.lone.Outcome.{Outcome}
use Rattle.result_tables.specs.TableText.{line_end, outcome_text, value_text}
use Rattle.change_text.specs.declared.row.Row.{Row}
use Rattle.change_text.specs.declared.kind.Kind.{Kind}
use Rattle.change_text.specs.declared.kind.Kind.TheVariants as kind
use Rattle.change_text.specs.Blocks.{Block, tables_of}

abbrev pub word : Kind → List ℕ
word kind.Full = codes "view "
word kind.Change = codes "change "

abbrev pub opening_line : Kind → List ℕ → Outcome → List ℕ
opening_line kind head outcome = word kind ++ (head ++ (codes " " ++ outcome_text outcome))

abbrev pub row_line : Row → List ℕ
row_line row = decimal row.id ++ (codes "," ++ value_text row.value)

abbrev pub last_line : List ℕ
last_line = codes "end"

-- the lines of a block before its last
abbrev pub front_lines : Block → List (List ℕ)
front_lines b = opening_line b.kind b.head b.outcome ∷ map row_line b.rows

abbrev pub block_lines : Block → List (List ℕ)
block_lines b = front_lines b ++ last_line ∷ []

abbrev pub changes_lines : List Block → List (List ℕ)
changes_lines blocks = flat_map block_lines blocks

-- lines, each with the byte that ends it
abbrev pub ended : List (List ℕ) → List ℕ
ended lines = flat_map (λ line. line ++ line_end) lines

abbrev pub block_text : Block → List ℕ
block_text b = ended (block_lines b)

-- the text of blocks, which is one alone: each part has one spelling
abbrev pub changes_text : List Block → List ℕ
changes_text blocks = ended (changes_lines blocks)

-- the text of the tables that blocks come to
abbrev pub tables_text : List Block → List ℕ
tables_text blocks = changes_text (tables_of blocks)
