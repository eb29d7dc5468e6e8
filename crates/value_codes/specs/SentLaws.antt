-- Values as numbers, one after the other.
use Rattle.std.proofs.Common.{◌≡◌, ◌∙◌, ◌<◌, ◌≤◌, ◌+◌, ◌++◌, ◌∷◌, [], ap, ℕ, List, length, get_or, take, map, filter, arith}
use Rattle.std.proofs.lemmas.List.{length-map, map-append, take_more}
use Rattle.std.proofs.lemmas.List.Elements.{filter-append}
use Rattle.std.proofs.lemmas.List.Sums.{length-filter, count_by-le-length}
use Rattle.graph_model.specs.declared.value.Val.{Val}
use Rattle.vertex_lang.specs.Arcs.{is_sent}

module _ {X : Type 0} (brought : X → Val) (xs : List X) where
  -- one more
  pub sent-more : (i : ℕ) (d : X) → i < length xs → filter is_sent (map brought (take (i + 1) xs)) ≡ filter is_sent (map brought (take i xs)) ++ filter is_sent (brought (get_or xs i d) ∷ [])
  sent-more i d low =
      ap (λ (ys : List X). filter is_sent (map brought ys)) (take_more xs i d low)
      ∙ ap (λ (ms : List Val). filter is_sent ms) (map-append brought (take i xs) (get_or xs i d ∷ []))
      ∙ filter-append is_sent (map brought (take i xs)) (brought (get_or xs i d) ∷ [])

  pub sent-few : length (filter is_sent (map brought xs)) ≤ length xs
  sent-few = omega (arith, length-filter is_sent (map brought xs), count_by-le-length is_sent (map brought xs), length-map xs brought)
