-- What follows from the definitions, each law as one statement, and proofs of them that the rooms above can cite.
use Rattle.std.specs.Prelude.{◌≡◌, ◌≢◌, ℕ, List, All, Ok}
use Rattle.graph_model.specs.declared.cell.Column.{Column}
use Rattle.graph_model.specs.GraphData.{GraphData, IsGraphData}
use Rattle.graph_loader.specs.DataFiles.{extended, graph_of}
use Rattle.graph_loader.specs.ColumnLaws.{HasPropertyName}
use Rattle.graph_loader.specs.LoadLaws.{Extends, NamesProperties, extends, names-loaded, one-line}

-- the columns of a graph that is loaded have names that a property may have
abbrev pub LoadedNames : Type 0
LoadedNames = (nodes edges : List ℕ) (g : GraphData) → graph_of nodes edges ≡ Ok g → NamesProperties g

pub loaded-names : LoadedNames
loaded-names = names-loaded

-- such a name holds no line end
abbrev pub NamesAreLines : Type 0
NamesAreLines = (c : Column) → HasPropertyName c → All (λ b. b ≢ 10) c.name

pub names-are-lines : NamesAreLines
names-are-lines c e = one-line c.name e

-- a further file leaves the nodes, the columns and the edges of a graph as they were, and adds edges that can stand behind them
abbrev pub ExtendedAdds : Type 0
ExtendedAdds = (statement : ℕ) (bytes : List ℕ) (g h : GraphData) → IsGraphData g → extended statement bytes g ≡ Ok h → Extends g h

pub extended-adds : ExtendedAdds
extended-adds statement bytes g h fits e = extends statement bytes g h fits.few_edges e
