-- What messages come to.
use Rattle.std.proofs.Common.{◌≡◌, ◌≤◌, ◌++◌, ◌∷◌, [], ap, ℕ, ℤ, pos, ◌+ℤ◌, Bool, List, length, map, filter, arith, ◌∙◌, ◌<◌, ◌+◌, get_or, take}
use Rattle.std.proofs.lemmas.List.Sums.{length-filter, count_by-le-length, fold-append}
use Rattle.std.proofs.lemmas.List.{length-map, length-append, append-nil, take_more, map-append}
use Rattle.graph_model.specs.declared.value.Val.{Val}
use Rattle.graph_model.specs.declared.value.Val.TheVariants.{Nil, Num}
use Rattle.graph_model.specs.GraphData.{GraphData}
use Rattle.vertex_lang.specs.declared.arc.Arc.{Arc}
use Rattle.vertex_lang.specs.declared.program.Program.{Program}
use Rattle.vertex_lang.specs.declared.program.Gather.{Gather}
use Rattle.vertex_lang.specs.Arcs.{is_sent, amount}
use Rattle.vertex_lang.specs.Mail.{extreme_with}
use Rattle.value_codes.specs.declared.tally.Tally.{Tally}
use Rattle.round_messages.specs.Sides.{brings, all_brought}
use Rattle.value_codes.specs.Tallies.{tally_of, tally_with}
use Rattle.std.proofs.lemmas.List.Elements.{filter-append}

-- one message more
tally-from : (x x' : Val) (t t' : ℤ) (n n' : ℕ) → x ≡ x' → t ≡ t' → n ≡ n' → Path Tally (record { extreme = x; total = t; count = n }) (record { extreme = x'; total = t'; count = n' })
tally-from x x' t t' n n' e f g = cc

pub tally-more : (kind : Gather) (ms : List Val) (m : Val) → tally_of kind (ms ++ filter is_sent (m ∷ [])) ≡ tally_with kind (tally_of kind ms) m
tally-more kind ms Nil = ap (λ (xs : List Val). tally_of kind xs) (append-nil ms)
tally-more kind ms (Num z) = tally-from _ _ _ _ _ _ (fold-append (extreme_with kind) Nil ms (Num z ∷ [])) (fold-append (λ (sum : ℤ) (x : Val). sum +ℤ amount x) (pos 0) ms (Num z ∷ [])) (length-append ms (Num z ∷ []))

module _ (p : Program) (graph : GraphData) (edges : List Bool) (degrees : List ℕ) (values : List Val) (row : List Arc) where
  pub brought-few : length (all_brought p graph edges degrees values row) ≤ length row
  brought-few =
      let ms = map (brings p graph edges degrees values) row in
      omega (arith, length-filter is_sent ms, count_by-le-length is_sent ms, length-map row (brings p graph edges degrees values))

-- one more arc
pub brought-more : (p : Program) (graph : GraphData) (edges : List Bool) (degrees : List ℕ) (values : List Val) (row : List Arc) (i : ℕ) (d : Arc) → i < length row
    → all_brought p graph edges degrees values (take (i + 1) row) ≡ all_brought p graph edges degrees values (take i row) ++ filter is_sent (brings p graph edges degrees values (get_or row i d) ∷ [])
brought-more p graph edges degrees values row i d low =
    let b = brings p graph edges degrees values in
    ap (λ (xs : List Arc). filter is_sent (map b xs)) (take_more row i d low)
    ∙ ap (λ (ms : List Val). filter is_sent ms) (map-append b (take i row) (get_or row i d ∷ []))
    ∙ filter-append is_sent (map b (take i row)) (b (get_or row i d) ∷ [])
