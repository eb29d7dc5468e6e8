-- A table of parameters as the list that contracts see.
use Rattle.std.proofs.Common.{◌≡◌, ℕ, Bool, true, false, List, [], ◌∷◌, ◌++◌, map, refl, ap, cond, None, Some}
use Rattle.std.specs.Prelude.{bytes_eq}
use Rattle.std.specs.Map.{lookup}
use Rattle.indexmap.specs.IndexMap.{insert_entry}
use Rattle.gvdl_programs.specs.Expressions.{Places, place_of}

module _ {K : Type 0} (bytes : K → List ℕ) where
  -- the parameters, by the bytes of their keys
  abbrev pub named : List (K × ℕ) → Places
  named es = map (λ e. (bytes e.0, e.1)) es

  abbrev pub same_key : K → K → Bool
  same_key k l = bytes_eq (bytes k) (bytes l)

  -- a look-up by the bytes of a key
  pub place_in : (name : List ℕ) (es : List (K × ℕ)) → lookup (λ k. bytes_eq name (bytes k)) es ≡ place_of (named es) name
  place_in name [] = refl
  place_in name (e ∷ es) = ap (λ o. cond (bytes_eq name (bytes e.0)) (Some e.1) o) (place_in name es)

  -- a name that is not taken comes last
  pub named_new : (k : K) (n : ℕ) (es : List (K × ℕ)) → place_of (named es) (bytes k) ≡ None → named (insert_entry same_key es k n) ≡ named es ++ (bytes k, n) ∷ []
  named_new k n [] h = refl
  named_new k n (e ∷ es) h = by (bytes_eq (bytes k) (bytes e.0)) (named_new k n es) h where
    by : (b : Bool) → (place_of (named es) (bytes k) ≡ None → named (insert_entry same_key es k n) ≡ named es ++ (bytes k, n) ∷ [])
        → cond b (Some e.1) (place_of (named es) (bytes k)) ≡ None
        → named (cond b ((e.0, n) ∷ es) (e ∷ insert_entry same_key es k n)) ≡ (bytes e.0, e.1) ∷ (named es ++ (bytes k, n) ∷ [])
    by true later h = absurd cc
    by false later h = ap (λ (l : Places). (bytes e.0, e.1) ∷ l) (later h)
