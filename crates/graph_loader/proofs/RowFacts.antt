-- What a read of a record takes from the records that are left.
use Rattle.std.proofs.Common.{◌≡◌, ◌∙◌, ◌⊎◌, inl, inr, sym, ap, refl, ℕ, zero, suc, ◌+◌, ◌<◌, Bool, true, false, List, [], ◌∷◌, ◌++◌, length, take, drop, not, ◌==◌, ◌&&◌, Option, Some, None, arith, add-one, if◌then◌else◌}
use Rattle.std.proofs.lemmas.Bool.{false≢true}
use Rattle.std.specs.Borrow.{Bor}
use Rattle.csv.specs.Machine.{Read, next_record, step, ends_at_end, is_end, fields_after, field_after}
use Rattle.csv.specs.Reading.{records_from, records_next, default_config, has_failed, strip_bom, source_of, pending_of, ExplainsRead, ReadRecord, ReadsNext, NextIs}
use Rattle.csv.specs.declared.parser.Config.{Config}
use Rattle.csv.specs.declared.parser.State.{State}
use Rattle.csv.specs.declared.parser.State.TheVariants as st
use Rattle.csv.specs.declared.reader.Reader.{Reader}
use Rattle.csv.specs.declared.error.ErrorKind.{ErrorKind}
use Rattle.csv.specs.declared.error.ErrorKind.TheVariants as kind
use Rattle.graph_loader.specs.RowsLeft.{IsOfSource, IsReady, left_of, rows_from, given}

-- what a read leaves: nothing, or less than there was
Shorter : List ℕ → Read → Type 0
Shorter xs p = ((p.1 ≡ st.StartRecord) × (p.2 ≡ [])) ⊎ (length p.2 < length xs)

shorter : (cfg : Config) (s : State) (fields : List (List ℕ)) (field xs : List ℕ) (p : Read) → next_record cfg s fields field xs ≡ Some p → Shorter xs p
unfolding next_record Shorter
shorter cfg s fields field [] p = cases (ends_at_end s) where
  cases : (b : Bool) → (if b then Some (fields ++ (field ∷ []), st.StartRecord, []) else None) ≡ Some p → ((p.1 ≡ st.StartRecord) × (p.2 ≡ [])) ⊎ (length p.2 < 0)
  cases true e = inl (cc, cc)
  cases false e = cc
shorter cfg s fields field (c ∷ rest) p =
    cases (is_end (step cfg s c).1) (shorter cfg (step cfg s c).0 (fields_after (step cfg s c).1 fields field) (field_after (step cfg s c).1 c field) rest p)
  where
    longer : Shorter rest p → Shorter (c ∷ rest) p
    longer (inl h) = inl h
    longer (inr h) = inr (omega arith)

    cases : (b : Bool) → (next_record cfg (step cfg s c).0 (fields_after (step cfg s c).1 fields field) (field_after (step cfg s c).1 c field) rest ≡ Some p → Shorter rest p)
        → (if b then Some (fields_after (step cfg s c).1 fields field, (step cfg s c).0, rest) else next_record cfg (step cfg s c).0 (fields_after (step cfg s c).1 fields field) (field_after (step cfg s c).1 c field) rest) ≡ Some p
        → Shorter (c ∷ rest) p
    cases true more e = let r : rest ≡ p.2 = cc in inr (rw (← r) (omega arith))
    cases false more e = longer (more e)

none-left : (cfg : Config) (n : ℕ) → records_from cfg n st.StartRecord [] ≡ []
unfolding records_from next_record
none-left cfg zero = refl
none-left cfg (suc n) = refl

-- the count of records to read at most doesn't matter, where it is above the number of bytes
enough : (cfg : Config) (n m : ℕ) (s : State) (xs : List ℕ) → length xs < n → length xs < m → records_from cfg n s xs ≡ records_from cfg m s xs
unfolding records_from Shorter
enough cfg zero m s xs a b = absurd (omega arith)
enough cfg (suc n) zero s xs a b = absurd (omega arith)
enough cfg (suc n) (suc m) s xs a b = cases (λ p h. enough cfg n m p.1 p.2 (omega arith) (omega arith)) (next_record cfg s [] [] xs) refl where
  after : (p : Read) → ((p : Read) → length p.2 < length xs → records_from cfg n p.1 p.2 ≡ records_from cfg m p.1 p.2) → Shorter xs p → records_from cfg n p.1 p.2 ≡ records_from cfg m p.1 p.2
  after p more (inl h) = rw (h.0, h.1) (none-left cfg n ∙ sym (none-left cfg m))
  after p more (inr h) = more p h

  cases : ((p : Read) → length p.2 < length xs → records_from cfg n p.1 p.2 ≡ records_from cfg m p.1 p.2) → (o : Option Read) → next_record cfg s [] [] xs ≡ o → records_next (records_from cfg n) o ≡ records_next (records_from cfg m) o
  cases more None e = refl
  cases more (Some p) e = ap (λ rows. p.0 ∷ rows) (after p more (shorter cfg s [] [] xs p e))

one-more : (s : State) (xs : List ℕ) (p : Read) → next_record default_config s [] [] xs ≡ Some p
    → records_from default_config (length xs + 1) s xs ≡ p.0 ∷ records_from default_config (length p.2 + 1) p.1 p.2
unfolding records_from Shorter
one-more s xs p e = rw (add-one (length xs), e) (ap (λ rows. p.0 ∷ rows) (after (shorter default_config s [] [] xs p e))) where
  after : Shorter xs p → records_from default_config (length xs) p.1 p.2 ≡ records_from default_config (length p.2 + 1) p.1 p.2
  after (inl h) = rw (h.0, h.1) (none-left default_config (length xs) ∙ sym (none-left default_config (length {A = ℕ} [] + 1)))
  after (inr h) = enough default_config (length xs) (length p.2 + 1) p.1 p.2 h (omega arith)

no-more : (s : State) (xs : List ℕ) → next_record default_config s [] [] xs ≡ None → records_from default_config (length xs + 1) s xs ≡ []
unfolding records_from
no-more s xs e = rw (add-one, e) refl

-- what a read of known bytes gives
given-rows : (s s2 : State) (xs : List ℕ) (k : Option (List ℕ)) (found : Bool) (f : List (List ℕ)) → ReadsNext default_config s (Some xs) k found f s2
    → rows_from s (Some xs) ≡ given found f (rows_from s2 k)
given-rows s s2 xs None found f r = absurd r
given-rows s s2 xs (Some ys) found f r = cases (next_record default_config s [] [] xs) refl found r where
  cases : (o : Option Read) → next_record default_config s [] [] xs ≡ o → (found : Bool) → NextIs o found f s2 ys → rows_from s (Some xs) ≡ given found f (rows_from s2 (Some ys))
  cases None e true n = absurd (false≢true (sym n))
  cases None e false n = no-more s xs e
  cases (Some p) e true n = rw (n.1, n.2, n.3) (one-more s xs p e)
  cases (Some p) e false n = absurd (false≢true n.0)

known : (failed start : Bool) (u v : List ℕ) → failed ≡ false → (y : List ℕ) × ((if failed then None else if start then Some u else Some v) ≡ Some y)
known failed true u v e = (u, rw e refl)
known failed false u v e = (v, rw e refl)

known-source : (a : Reader (Bor (List ℕ))) → has_failed a ≡ false → (y : List ℕ) × (source_of (λ (s : Bor (List ℕ)). Some s.now) a ≡ Some y)
known-source a sound = known a.failed (not a.bom_checked && (a.at == 0) && (a.filled == 0)) (strip_bom a.rdr.now) (drop a.at (take a.filled a.buffer) ++ a.rdr.now) sound

given-known : (a b : Reader (Bor (List ℕ))) (found : Bool) (f : List (List ℕ)) (y : List ℕ) → a.config ≡ default_config → source_of (λ (s : Bor (List ℕ)). Some s.now) a ≡ Some y
    → ReadRecord (λ (s : Bor (List ℕ)). Some s.now) a b found f → left_of a ≡ given found f (left_of b)
given-known a b found f y config source r =
    let g = given-rows a.state b.state y (pending_of (Some b.rdr.now) b) found f (rw (config, source) at r.0) in
    rw (source, r.1) g

-- a read by a reader that is ready
pub given-left : (a b : Reader (Bor (List ℕ))) (found : Bool) (f : List (List ℕ)) → IsReady a → ReadRecord (λ (s : Bor (List ℕ)). Some s.now) a b found f
    → left_of a ≡ given found f (left_of b)
given-left a b found f ready r =
    let k = known-source a ready.sound in
    given-known a b found f k.0 ready.config k.1 r

-- why a read by a reader that is ready fails
pub fails-of-source : (a b : Reader (Bor (List ℕ))) (k : ErrorKind) → IsReady a → ExplainsRead (λ (s : Bor (List ℕ)). Some s.now) a b false k → IsOfSource k
fails-of-source a b (kind.Io e) ready why = tt
fails-of-source a b kind.OutOfMemory ready why = tt
fails-of-source a b (kind.UnequalLengths pos expected len) ready why = false≢true (sym why.0 ∙ ready.flexible)
fails-of-source a b (kind.Utf8 pos err) ready why = false≢true why.0
fails-of-source a b (kind.Serialize text) ready why = why
fails-of-source a b (kind.Deserialize pos err) ready why = why

pub only-of-source : (k : ErrorKind) → IsOfSource k → (k ≡ kind.OutOfMemory → ⊥) → ((e : _) → k ≡ kind.Io e → ⊥) → ⊥
only-of-source (kind.Io e) of memory io = io e refl
only-of-source kind.OutOfMemory of memory io = memory refl
only-of-source (kind.UnequalLengths pos expected len) of memory io = of
only-of-source (kind.Utf8 pos err) of memory io = of
only-of-source (kind.Serialize text) of memory io = of
only-of-source (kind.Deserialize pos err) of memory io = of
