-- The files of a sample, by its number.
use Rattle.std.specs.Prelude.{ℕ, zero, suc, ◌+◌, List, [], ◌∷◌, ◌++◌, codes}
use Rattle.std.specs.Fmt.{decimal}
use Rattle.draws.specs.Draws.{next_state, drawn}

-- the byte that ends a line
abbrev pub line_end : List ℕ
line_end = 10 ∷ []

-- ---- the nodes

abbrev pub id_line : ℕ → List ℕ
id_line n = decimal n ++ line_end

-- so many ids, from the first on
unfoldable pub ids_from : (first count : ℕ) → List ℕ
ids_from n zero = []
ids_from n (suc count) = id_line n ++ ids_from (n + 1) count

-- ids 1 to 2,000
abbrev pub nodes_text : List ℕ
nodes_text = codes "id" ++ (line_end ++ ids_from 1 2_000)

-- ---- the edges

abbrev pub edge_line : (source destination weight time : ℕ) → List ℕ
edge_line s d w t = decimal s ++ (codes "," ++ (decimal d ++ (codes "," ++ (decimal w ++ (codes "," ++ (decimal t ++ line_end))))))

-- after so many draws
abbrev pub state_after : ℕ → ℕ → ℕ
state_after zero x = x
state_after (suc n) x = state_after n (next_state x)

-- the edge that is drawn from a state: its ends, its weight from 1 to 9, and its time below 160
abbrev pub edge_drawn : ℕ → List ℕ
edge_drawn x = edge_line (1 + drawn x 2_000) (1 + drawn (state_after 1 x) 2_000) (1 + drawn (state_after 2 x) 9) (drawn (state_after 3 x) 160)

-- so many edges, one after the other
unfoldable pub edges_drawn : ℕ → ℕ → List ℕ
edges_drawn zero x = []
edges_drawn (suc n) x = edge_drawn x ++ edges_drawn n (state_after 4 x)

-- 10,000 of them, drawn from the sample's number on
abbrev pub edges_text : ℕ → List ℕ
edges_text number = codes "src,dst,w:int,t:int" ++ (line_end ++ edges_drawn 10_000 number)

-- ---- the script

abbrev pub script_text : List ℕ
script_text =
    codes "load graph S nodes 'nodes.csv' edges 'edges.csv';" ++ (line_end
    ++ (codes "create view collection W on S [w: window t from 0 to 150 width 40 step 10];" ++ (line_end
    ++ (codes "run dist(1, w) on W within 2000 rounds split auto;" ++ line_end))))
