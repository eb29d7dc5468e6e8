-- Arcs that are listed with a property, in two rounds.
use Rattle.std.specs.Prelude.{◌≡◌, ℤ, false, List}
use Rattle.graph_model.specs.declared.value.Val.{Val}
use Rattle.message_forms.specs.declared.edge_step.Link.{Link}
use Rattle.round_inputs.specs.declared.movers.Movers.{Movers}
use Rattle.value_codes.specs.Numbers.{number_over}
use Rattle.round_inputs.specs.Links.{brought_over}
use Rattle.round_inputs.specs.Movers.{moves}

-- an arc brings the same by the numbers and by the values, unless its tail may send something else
abbrev pub IsStillOver : Movers → List ℤ → List Val → Link → Type 0
IsStillOver movers numbers values l = moves movers l.tail.0 ≡ false → number_over numbers l ≡ brought_over values l
