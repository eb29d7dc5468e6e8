-- The properties of a header, named one after the other.
use Rattle.std.proofs.Common.{◌≡◌, refl, subst, ℕ, ◌+◌, ◌<◌, Bool, true, false, List, [], ◌∷◌, ◌++◌, length, Option, Some, None, option_and_then, Result, Ok, Err, if◌then◌else◌, arith}
use Rattle.std.specs.Prelude.{not, nat_le}
use Rattle.std.specs.Str.{IsUtf8, is_utf8}
use Rattle.std.proofs.lemmas.Str.{is_utf8-from_IsUtf8}
use Rattle.std.proofs.lemmas.Bool.Decides.{nat_tests}
use Rattle.graph_model.specs.declared.cell.Column.{Column}
use Rattle.graph_model.specs.declared.cell.Kind.{Kind}
use Rattle.graph_loader.specs.declared.fault.DataKind.{DataKind}
use Rattle.graph_loader.specs.declared.fault.DataKind.TheVariants as wrong
use Rattle.graph_loader.specs.DataFiles.{Row, blame, has_name, most_properties, new_column, properties_from, property_in, result_and_then, result_map_err}
use Rattle.graph_loader.specs.Spelling.{cut_at_last_colon, column_named, column_spelled, is_property, kind_spelled}

-- ---- one property

pub column-of : (field : List ℕ) (cut : Option (List ℕ × List ℕ)) → cut_at_last_colon field ≡ cut
    → column_spelled field ≡ option_and_then (λ p. option_and_then (column_named p.0) (kind_spelled p.1)) cut
column-of field cut e = rw e refl

pub property-of-text : (earlier : List Column) (field : List ℕ) → nat_le most_properties (length earlier) ≡ false → IsUtf8 field
    → property_in earlier field ≡ new_column earlier (column_spelled field)
property-of-text earlier field few text = rw (few, is_utf8-from_IsUtf8 field text) refl

pub property-of-bytes : (earlier : List Column) (field : List ℕ) → nat_le most_properties (length earlier) ≡ false → is_utf8 field ≡ false
    → property_in earlier field ≡ Err wrong.NotUtf8
property-of-bytes earlier field few bytes = rw (few, bytes) refl

-- what holds where a property is named: there are few, none has its name, and it may have this name
pub record Named (earlier : List Column) (c : Column) : Type 0 where
  pub few : length earlier < 16
  pub new : has_name earlier c.name ≡ false
  pub name : is_property c.name ≡ true

named-so : (name : List ℕ) (k : Kind) (c : Column) → column_named name k ≡ Some c → is_property c.name ≡ true
named-so name k c e = cases (is_property name) refl e where
  cases : (t : Bool) → is_property name ≡ t → (if t then Some (record { name = name; kind = k }) else None) ≡ Some c → is_property c.name ≡ true
  cases true q e = let same : record { name = name; kind = k } ≡ c = cc in subst (λ (x : Column). is_property x.name ≡ true) same q
  cases false q e = absurd (cc)

spelled-so : (field : List ℕ) (c : Column) → column_spelled field ≡ Some c → is_property c.name ≡ true
spelled-so field c e = cut (cut_at_last_colon field) e where
  kinded : (name : List ℕ) (k : Option Kind) → option_and_then (column_named name) k ≡ Some c → is_property c.name ≡ true
  kinded name None e = absurd (cc)
  kinded name (Some k) e = named-so name k c e

  cut : (o : Option (List ℕ × List ℕ)) → option_and_then (λ p. option_and_then (column_named p.0) (kind_spelled p.1)) o ≡ Some c → is_property c.name ≡ true
  cut None e = absurd (cc)
  cut (Some p) e = kinded p.0 (kind_spelled p.1) e

column-is : (earlier : List Column) (o : Option Column) (c : Column) → new_column earlier o ≡ Ok c → o ≡ Some c
column-is earlier None c e = absurd (cc)
column-is earlier (Some x) c e = cases (has_name earlier x.name) e where
  cases : (t : Bool) → ◌≡◌ {A = Result Column DataKind} (if t then Err wrong.BadHeader else Ok x) (Ok c) → Some x ≡ Some c
  cases true e = absurd (cc)
  cases false e = cc

fresh : (earlier : List Column) (o : Option Column) (c : Column) → new_column earlier o ≡ Ok c → has_name earlier c.name ≡ false
fresh earlier None c e = absurd (cc)
fresh earlier (Some x) c e = cases (has_name earlier x.name) refl e where
  cases : (t : Bool) → has_name earlier x.name ≡ t → ◌≡◌ {A = Result Column DataKind} (if t then Err wrong.BadHeader else Ok x) (Ok c) → has_name earlier c.name ≡ false
  cases true n e = absurd (cc)
  cases false n e = let same : x ≡ c = cc in subst (λ y. has_name earlier y.name ≡ false) same n

pub named : (earlier : List Column) (field : List ℕ) (c : Column) → property_in earlier field ≡ Ok c → Named earlier c
named earlier field c e = cases (nat_le most_properties (length earlier)) (is_utf8 field) refl e where
  below : nat_le most_properties (length earlier) ≡ false → length earlier < 16
  below t = grind (arith, nat_tests)

  cases : (t u : Bool) → nat_le most_properties (length earlier) ≡ t
      → ◌≡◌ {A = Result Column DataKind} (if t then Err wrong.TooManyColumns else if not u then Err wrong.NotUtf8 else new_column earlier (column_spelled field)) (Ok c) → Named earlier c
  cases true u t e = absurd (cc)
  cases false false t e = absurd (cc)
  cases false true t e = record { few = below t; new = fresh earlier (column_spelled field) c e; name = spelled-so field c (column-is earlier (column_spelled field) c e) }

-- ---- the properties of a header

-- what each named property keeps, all of them keep
pub properties-keep : (P : List Column → Type 0) → ((earlier : List Column) (c : Column) → P earlier → Named earlier c → P (earlier ++ c ∷ []))
    → (fields : Row) (column : ℕ) (earlier out : List Column) → P earlier → properties_from column earlier fields ≡ Ok out → P out
properties-keep P keep [] column earlier out p e = let same : earlier ≡ out = cc in subst P same p
properties-keep P keep (field ∷ fields) column earlier out p e =
    cases (property_in earlier field) refl (λ c q. properties-keep P keep fields (column + 1) (earlier ++ c ∷ []) out q) e
  where
    cases : (r : Result Column DataKind) → property_in earlier field ≡ r
        → ((c : Column) → P (earlier ++ c ∷ []) → properties_from (column + 1) (earlier ++ c ∷ []) fields ≡ Ok out → P out)
        → result_and_then (λ c. properties_from (column + 1) (earlier ++ c ∷ []) fields) (result_map_err (blame column) r) ≡ Ok out → P out
    cases (Ok c) q more e = more c (keep earlier c p (named earlier field c q)) e
    cases (Err k) q more e = absurd (cc)
