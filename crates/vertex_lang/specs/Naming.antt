-- What the words of an expression stand for, as the code keeps them.
use Rattle.std.specs.Prelude.{ℕ, ◌<◌, ◌^◌, length}
use Rattle.graph_model.specs.declared.value.Val.{Val}
use Rattle.graph_model.specs.declared.value.Val.TheVariants.{Nil}
use Rattle.vertex_lang.specs.declared.words.Words.{Words}
use Rattle.vertex_lang.specs.declared.words.Properties.{Properties}
use Rattle.vertex_lang.specs.declared.words.Properties.TheVariants as properties
use Rattle.vertex_lang.specs.Expressions.{Environment, node_value, edge_value}

abbrev pub node_property_of : Properties → ℕ → Val
node_property_of properties.Nobody column = Nil
node_property_of (properties.Node graph n) column = node_value graph.now n.0 column
node_property_of (properties.Edge graph e) column = Nil

abbrev pub edge_property_of : Properties → ℕ → Val
edge_property_of properties.Nobody column = Nil
edge_property_of (properties.Node graph n) column = Nil
edge_property_of (properties.Edge graph e) column = edge_value graph.now e.0 column

abbrev pub environment : Words → Environment
environment w = record {
  id = w.id;
  start = w.start;
  value = w.value;
  gathered = w.gathered;
  count = w.count;
  outdeg = w.outdeg;
  edge_property = edge_property_of w.properties;
  node_property = node_property_of w.properties;
}

-- what is named is there
abbrev pub AreThere : Properties → Type 0
AreThere properties.Nobody = Unit {0}
AreThere (properties.Node graph n) = n.0 < length graph.now.ids
AreThere (properties.Edge graph e) = e.0 < length graph.now.ends

-- the numbers are those of a node and its messages
pub record AreProper (w : Words) : Type 0 where
  pub id : w.id < 2 ^ 63
  pub count : w.count < 2 ^ 63
  pub outdeg : w.outdeg < 2 ^ 63
  pub properties : AreThere w.properties
