-- What is left of what the movers among some nodes send, and of what all of them send.
use Rattle.std.proofs.Common.{◌≡◌, ◌<◌, ◌+◌, ◌∷◌, [], ap, refl, ℕ, Bool, false, List, length, map, filter, arith, inl, inr}
use Rattle.std.specs.Prelude.{All}
use Rattle.std.proofs.lemmas.Bool.{cases_Bool}
use Rattle.std.proofs.lemmas.List.Elements.{All-head, All-tail, All-weaker, filter-append}
use Rattle.graph_model.specs.declared.number.NodeNo.{NodeNo}
use Rattle.graph_model.specs.declared.value.Val.{Val}
use Rattle.graph_model.specs.GraphData.{GraphData}
use Rattle.vertex_lang.specs.declared.program.Program.{Program}
use Rattle.vertex_lang.specs.Arcs.{is_sent}
use Rattle.vertex_lang.specs.Lone.{same_value}
use Rattle.multisets.specs.Multisets.{often}
use Rattle.multisets.specs.CountLaws.{often-append}
use Rattle.round_inputs.specs.declared.movers.Movers.{Movers}
use Rattle.round_inputs.specs.Links.{sent_by_tail, sent_by_tails}
use Rattle.round_inputs.specs.Inputs.{AreLeft}
use Rattle.round_inputs.specs.Movers.{AreStill, moves}

-- how often a message is among what these send, one by one
often-sent : {X : Type 0} (f : X → Val) (z : Val) (x : X) (xs : List X)
    → often same_value z (filter is_sent (map f (x ∷ xs))) ≡ often same_value z (filter is_sent (f x ∷ [])) + often same_value z (filter is_sent (map f xs))
often-sent f z x xs = omega (
  arith,
  ap (λ (ms : List Val). often same_value z ms) (filter-append is_sent (f x ∷ []) (map f xs)),
  often-append same_value z (filter is_sent (f x ∷ [])) (filter is_sent (map f xs)),
)

-- those that don't pass the test send the same in both rounds
module _ {X : Type 0} (test : X → Bool) (f g : X → Val) (z : Val) where
  passed-left : (xs : List X) → All (λ x. test x ≡ false → f x ≡ g x) xs
      → often same_value z (filter is_sent (map f (filter test xs))) + often same_value z (filter is_sent (map g xs))
      ≡ often same_value z (filter is_sent (map g (filter test xs))) + often same_value z (filter is_sent (map f xs))
  passed-left [] h = refl
  passed-left (x ∷ xs) h =
      let one = All-head (λ y. test y ≡ false → f y ≡ g y) x xs h in
      let rest = passed-left xs (All-tail (λ y. test y ≡ false → f y ≡ g y) x xs h) in
      elim (cases_Bool (test x)) [
        | inl t ↦ rw t (omega (arith, rest, often-sent f z x (filter test xs), often-sent g z x (filter test xs), often-sent f z x xs, often-sent g z x xs))
        | inr e ↦ rw e (omega (
          arith,
          rest,
          ap (λ (m : Val). often same_value z (filter is_sent (m ∷ []))) (one e),
          often-sent f z x xs,
          often-sent g z x xs,
        ))
      ]

-- what is left of what the movers send is left of what all send
pub movers-left : (p : Program) (graph : GraphData) (movers : Movers) (degrees counts : List ℕ) (values others : List Val) (tails : List NodeNo) (first second : List Val)
    → All (λ t. t.0 < length graph.ids) tails → AreStill p graph movers degrees values counts others
    → AreLeft first second (sent_by_tails p graph degrees values (filter (λ t. moves movers t.0) tails)) (sent_by_tails p graph counts others (filter (λ t. moves movers t.0) tails))
    → AreLeft first second (sent_by_tails p graph degrees values tails) (sent_by_tails p graph counts others tails)
movers-left p graph movers degrees counts values others tails first second low still l =
    let f = sent_by_tail p graph degrees values in
    let g = sent_by_tail p graph counts others in
    let same : All (λ t. moves movers t.0 ≡ false → f t ≡ g t) tails = All-weaker (λ t. t.0 < length graph.ids) (λ t. moves movers t.0 ≡ false → f t ≡ g t) (λ t within e. still t.0 0 within e) tails low in
    record {
      counts = λ z. omega (arith, l.counts z, passed-left (λ (t : NodeNo). moves movers t.0) f g z tails same);
    }
