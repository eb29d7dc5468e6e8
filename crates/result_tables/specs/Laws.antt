-- What follows from the definitions, each law as one statement, and proofs of them that the rooms above can cite.
use Rattle.std.specs.Prelude.{◌≡◌, ◌≢◌, ℕ, ◌<◌, List, length, Option, Some, None}
use Rattle.std.specs.List.{range_with_len}
use Rattle.std.proofs.Common.{sym, ap, ◌∙◌, arith}
use Rattle.graph_model.specs.declared.number.NodeNo.{NodeNo}
use Rattle.graph_model.specs.declared.number.ViewNo.{ViewNo}
use Rattle.graph_model.specs.declared.value.Val.{Val}
use Rattle.graph_model.specs.GraphData.{GraphData, nodes_by_id, AreDistinct}
use Rattle.vertex_lang.specs.declared.lone.Outcome.{Outcome}
use Rattle.result_tables.specs.Results.{Held, ResultsData, IsChange, IsNew, assigned, held_on, values_after, values_of, with_answer}
use Rattle.result_tables.specs.IdOrder.{id_at, at_places}
use Rattle.result_tables.specs.Changes.{all_from, changes_from}
use Rattle.result_tables.specs.ChangeLaws.{all_values, all_nodes, changes_lead, changes_within, held_itself, held_others}

-- how the values of a view before differ from new ones is a change that gives the new ones
abbrev pub ChangesGive : Type 0
ChangesGive =
    (m : ResultsData) (last : ViewNo) (before : Held) (new : List Val) → held_on m last ≡ Some before → length before.values ≡ m.nodes → length new ≡ m.nodes
    → IsChange m (Some last) (changes_from 0 before.values new) × (values_after m (Some last) (changes_from 0 before.values new) ≡ new)

pub changes_give : ChangesGive
changes_give m last before new held size same =
    let sizes : length before.values ≡ length new = size ∙ sym same in (
      changes_within m.nodes 0 before.values new (omega (arith, same)),
      ap (λ (o : Option Held). assigned (values_of o) (changes_from 0 before.values new)) held ∙ changes_lead before.values new sizes,
    )

-- all nodes with new values are a first change that gives these
abbrev pub AllGives : Type 0
AllGives = (m : ResultsData) (new : List Val) → length new ≡ m.nodes → IsChange m None (all_from 0 new) × (values_after m None (all_from 0 new) ≡ new)

pub all_gives : AllGives
all_gives m new size = (all_nodes 0 new ∙ ap (range_with_len 0) size, all_values 0 new)

-- an added answer is that on its view
abbrev pub AddedIsHeld : Type 0
AddedIsHeld =
    (m : ResultsData) (view : ViewNo) (before : Option ViewNo) (outcome : Outcome) (change : List (NodeNo × Val)) → IsNew m view
    → held_on (with_answer m view before outcome change) view ≡ Some (record { view = view; outcome = outcome; values = values_after m before change })

pub added_is_held : AddedIsHeld
added_is_held m view before outcome change new = held_itself m.held (record { view = view; outcome = outcome; values = values_after m before change }) new

-- and those on other views stay
abbrev pub OthersStay : Type 0
OthersStay =
    (m : ResultsData) (view other : ViewNo) (before : Option ViewNo) (outcome : Outcome) (change : List (NodeNo × Val)) → other.0 ≢ view.0
    → held_on (with_answer m view before outcome change) other ≡ held_on m other

pub others_stay : OthersStay
others_stay m view other before outcome change ne = held_others m.held (record { view = view; outcome = outcome; values = values_after m before change }) other ne

-- where the ids of a graph are distinct, the ids of its nodes in the order of a table rise strictly
abbrev pub IdsRise : Type 0
IdsRise = (g : GraphData) (i j : ℕ) → AreDistinct g.ids → i < j → j < length (nodes_by_id g.ids) → id_at g i < id_at g j

pub ids_rise : IdsRise
ids_rise g i j distinct before within = at_places g i j distinct before within
