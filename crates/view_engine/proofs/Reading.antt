-- What is read of works beside views.
use Rattle.std.proofs.Common.{◌≡◌, ℕ, zero, suc, ◌+◌, ◌<◌, ◌≤◌, ◌==◌, false, List, [], ◌∷◌, length, get_or, drop, None, refl, sym, ◌∙◌, arith}
use Rattle.graph_model.specs.declared.number.ViewNo.{ViewNo}
use Rattle.view_engine.specs.Engines.{work_beside}

no_works : (us : List ViewNo) (v : ViewNo) → work_beside us [] v ≡ None
no_works [] v = refl
no_works (u ∷ us) v = refl

pub beside_on : (us : List ViewNo) (ws : List ℕ) (i : ℕ) (v d : ViewNo) → (i < length us → i < length ws → ((get_or us i d).0 == v.0) ≡ false)
    → work_beside (drop i us) (drop i ws) v ≡ work_beside (drop (suc i) us) (drop (suc i) ws) v
beside_on [] ws zero v d other = refl
beside_on [] ws (suc i) v d other = refl
beside_on (u ∷ us) [] zero v d other = sym (no_works us v)
beside_on (u ∷ us) (w ∷ ws) zero v d other = rw (other (omega arith) (omega arith)) refl
beside_on (u ∷ us) [] (suc i) v d other = no_works (drop i us) v ∙ sym (no_works (drop (suc i) us) v)
beside_on (u ∷ us) (w ∷ ws) (suc i) v d other = beside_on us ws i v d (λ a b. other (omega (arith, a)) (omega (arith, b)))

pub beside_end : (us : List ViewNo) (ws : List ℕ) (i : ℕ) (v : ViewNo) → length ws ≤ i → work_beside (drop i us) (drop i ws) v ≡ None
beside_end us [] zero v past = no_works us v
beside_end us (w ∷ ws) zero v past = absurd (omega arith)
beside_end [] ws (suc i) v past = refl
beside_end (u ∷ us) [] (suc i) v past = no_works (drop i us) v
beside_end (u ∷ us) (w ∷ ws) (suc i) v past = beside_end us ws i v (omega (arith, past))

pub beside_next : (us : List ViewNo) (ws : List ℕ) (i j : ℕ) (v d : ViewNo) → j ≡ i + 1 → (i < length us → i < length ws → ((get_or us i d).0 == v.0) ≡ false)
    → work_beside (drop j us) (drop j ws) v ≡ work_beside (drop i us) (drop i ws) v
beside_next us ws i j v d next other = let at : j ≡ suc i = omega (arith, next) in rw at (sym (beside_on us ws i v d other))
