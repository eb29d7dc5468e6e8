-- A table of names as the list that contracts see.
use Rattle.std.proofs.Common.{◌≡◌, ℕ, Bool, true, false, List, [], ◌∷◌, ◌++◌, map, refl, ap, cond, None, Some}
use Rattle.std.specs.Prelude.{bytes_eq}
use Rattle.std.specs.Map.{lookup}
use Rattle.indexmap.specs.IndexMap.{insert_entry}
use Rattle.gvdl_check.specs.declared.names.Meaning.{Meaning}
use Rattle.gvdl_check.specs.Names.{NameList, meaning_of}

module _ {K : Type 0} (bytes : K → List ℕ) where
  -- the names, by the bytes of their keys
  abbrev pub named : List (K × Meaning) → NameList
  named es = map (λ e. (bytes e.0, e.1)) es

  abbrev pub same_key : K → K → Bool
  same_key k l = bytes_eq (bytes k) (bytes l)

  -- a look-up by the bytes of a key
  pub meaning_in : (name : List ℕ) (es : List (K × Meaning)) → lookup (λ k. bytes_eq name (bytes k)) es ≡ meaning_of (named es) name
  meaning_in name [] = refl
  meaning_in name (e ∷ es) = ap (λ o. cond (bytes_eq name (bytes e.0)) (Some e.1) o) (meaning_in name es)

  -- a name that is not taken comes last
  pub named_new : (k : K) (m : Meaning) (es : List (K × Meaning)) → meaning_of (named es) (bytes k) ≡ None → named (insert_entry same_key es k m) ≡ named es ++ (bytes k, m) ∷ []
  named_new k m [] h = refl
  named_new k m (e ∷ es) h = by (bytes_eq (bytes k) (bytes e.0)) (named_new k m es) h where
    by : (b : Bool) → (meaning_of (named es) (bytes k) ≡ None → named (insert_entry same_key es k m) ≡ named es ++ (bytes k, m) ∷ [])
        → cond b (Some e.1) (meaning_of (named es) (bytes k)) ≡ None
        → named (cond b ((e.0, m) ∷ es) (e ∷ insert_entry same_key es k m)) ≡ (bytes e.0, e.1) ∷ (named es ++ (bytes k, m) ∷ [])
    by true later h = absurd cc
    by false later h = ap (λ (l : NameList). (bytes e.0, e.1) ∷ l) (later h)
