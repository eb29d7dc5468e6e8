-- Messages that are made from the value alone, one of a node that changes after the other.
use Rattle.std.proofs.Common.{◌≡◌, ◌∙◌, refl, sym, ℕ, ℤ, true, List, length, get_or, arith}
use Rattle.std.specs.Prelude.{Option}
use Rattle.graph_model.specs.declared.value.Val.{Val}
use Rattle.graph_model.specs.GraphData.{GraphData}
use Rattle.vertex_lang.specs.declared.program.Program.{Program}
use Rattle.vertex_lang.specs.Rounds.{value_at}
use Rattle.message_forms.specs.Forms.{AreMadeWith}
use Rattle.value_codes.specs.Numbers.{AreMessages}
use Rattle.round_messages.specs.Sides.{AreSent}

-- messages that are made so are those that are sent
module _ (p : Program) (graph : GraphData) (degrees : List ℕ) (more : Option ℤ) (made : AreMadeWith p more) (values : List Val) (sent : List ℤ) (size : length values ≡ length graph.ids) where
  pub messages-sent : AreSent true p graph degrees values sent → AreMessages more values sent
  messages-sent h = record {
    size = (h refl).0 ∙ sym size;
    each = λ u low. (h refl).1 u 0 (omega (arith, low, size)) ∙ made graph u (value_at values u) (get_or degrees u 0) 0;
  }
