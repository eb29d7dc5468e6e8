-- Which words an expression names.
use Rattle.std.specs.Prelude.{Bool, true, false}
use Rattle.std.specs.List.{list_any}
use Rattle.vertex_lang.specs.declared.program.Expr.{Expr}
use Rattle.vertex_lang.specs.declared.program.Check.{Check}
use Rattle.vertex_lang.specs.declared.names.Word.{Word}
use Rattle.vertex_lang.specs.declared.names.Word.TheVariants as word
use Rattle.vertex_lang.specs.Leaves.{Leaf, leaves_of, leaves_of_check}

abbrev pub is_edge_property : Leaf → Bool
is_edge_property (Leaf.edge_property column) = true
is_edge_property _ = false

abbrev pub is_outdeg : Leaf → Bool
is_outdeg Leaf.outdeg = true
is_outdeg _ = false

-- the expression names a property of the edge
abbrev pub names_edge : Expr → Bool
names_edge e = list_any is_edge_property (leaves_of e)

-- the expression names how many arcs leave the node
abbrev pub names_outdeg : Expr → Bool
names_outdeg e = list_any is_outdeg (leaves_of e)

-- ---- the one or the other

abbrev pub is_sought : Word → Leaf → Bool
is_sought word.EdgeProperty leaf = is_edge_property leaf
is_sought word.Outdeg leaf = is_outdeg leaf

abbrev pub seeks_outdeg : Word → Bool
seeks_outdeg word.EdgeProperty = false
seeks_outdeg word.Outdeg = true

unfoldable pub names : Word → Expr → Bool
names w e = list_any (is_sought w) (leaves_of e)

unfoldable pub check_names : Word → Check → Bool
check_names w t = list_any (is_sought w) (leaves_of_check t)
