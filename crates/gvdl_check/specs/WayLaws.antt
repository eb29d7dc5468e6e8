-- How long a run goes on, how often and where it starts anew, as far as it is allowed.
use Rattle.std.proofs.Common.{◌≡◌, ◌∙◌, ℕ, ◌≤◌, Bool, true, false, List}
use Rattle.std.proofs.Common.{refl, sym, ap, subst, arith, Option, None, Some}
use Rattle.std.proofs.Common.{Ok}
use Rattle.std.specs.Prelude.{not, ◌==◌, IfSome}
use Rattle.std.proofs.lemmas.Bool.Decides.{nat_tests}
use Rattle.gvdl_tree.specs.declared.script.SplitWord.{SplitWord}
use Rattle.gvdl_tree.specs.declared.script.SplitWord.TheVariants as split_word
use Rattle.segment_split.specs.Rule.{HasNumber}
use Rattle.segment_split.specs.declared.SplitRule.{SplitRule}
use Rattle.segment_split.specs.declared.SplitRule.TheVariants as split
use Rattle.vertex_lang.specs.declared.lone.Rounds.{Rounds}
use Rattle.vertex_lang.specs.Lone.{number_of}
use Rattle.gvdl_programs.specs.declared.refusal.Refusal.{Refusal}
use Rattle.gvdl_programs.specs.declared.refusal.Refusal.TheVariants as refusal
use Rattle.gvdl_programs.specs.Judging.{Judged, ◌>>=◌, expect}
use Rattle.gvdl_programs.specs.JudgingLaws.{through, same_value, expected}
use Rattle.gvdl_check.specs.declared.call.Limits.{Limits}
use Rattle.gvdl_check.specs.Plans.{are_rounds, rounds_with}
use Rattle.gvdl_check.specs.Plans.{rounds_of, are_phases, phases_of, keep_of, every, split_of}
use Rattle.gvdl_check.specs.Plans.{limits_meant}

number_is : (within : Bool) (n : ℕ) → number_of (rounds_with within n) ≡ n
number_is true n = refl
number_is false n = refl

rounds_fit : (within : Bool) (n : ℕ) (limit : Rounds) → rounds_of within n ≡ Ok limit
    → (1 ≤ number_of limit) × (number_of limit ≤ 1_000_000)
rounds_fit within n limit e =
    let t = through (expect (are_rounds n) refusal.BadRounds) (λ _. Ok (rounds_with within n)) limit e in
    let allowed : are_rounds n ≡ true = expected (are_rounds n) refusal.BadRounds t.value t.first in
    let same : n ≡ number_of limit =
    sym (number_is within n) ∙ ap number_of (same_value (rounds_with within n) limit t.rest) in
    subst (λ (m : ℕ). (1 ≤ m) × (m ≤ 1_000_000)) same (grind (arith, nat_tests), grind (arith, nat_tests))

every_fits : (n : ℕ) (rule : SplitRule) → every n ≡ Ok rule → HasNumber rule
every_fits n rule e =
    let t = through (expect (not (n == 0)) refusal.BadSplit) (λ _. Ok (split.Every n)) rule e in
    let allowed : not (n == 0) ≡ true = expected (not (n == 0)) refusal.BadSplit t.value t.first in
    let some : 1 ≤ n = grind (arith, nat_tests) in
    subst HasNumber (same_value (split.Every n) rule t.rest) some

split_fits : (d : Option SplitWord) (rule : SplitRule) → split_of d ≡ Ok rule → HasNumber rule
split_fits None rule e = subst HasNumber (same_value split.Whole rule e) tt
split_fits (Some split_word.Whole) rule e = subst HasNumber (same_value split.Whole rule e) tt
split_fits (Some (split_word.Every n)) rule e = every_fits n rule e
split_fits (Some split_word.Auto) rule e = subst HasNumber (same_value split.Auto rule e) tt

abbrev pub ArePhases : Option ℕ → Type 0
ArePhases phases = IfSome phases (λ n. (1 ≤ n) × (n ≤ 1_000))

phases_fit : (asked phases : Option ℕ) → phases_of asked ≡ Ok phases → ArePhases phases
phases_fit None phases e = subst ArePhases (same_value {E = Refusal} None phases e) tt
phases_fit (Some n) phases e =
    let t = through (expect (are_phases n) refusal.BadRounds) (λ _. Ok (Some n)) phases e in
    let allowed : are_phases n ≡ true = expected (are_phases n) refusal.BadRounds t.value t.first in
    subst ArePhases (same_value (Some n) phases t.rest) (grind (arith, nat_tests), grind (arith, nat_tests))

-- a run in phases is not kept
abbrev pub IsUnkept : Option ℕ → Option (List ℕ) → Type 0
IsUnkept phases keep = IfSome phases (λ n. keep ≡ None)

pub keep_unkept : (phases : Option ℕ) (keep : Option (List ℕ)) → IsUnkept phases (keep_of phases keep)
keep_unkept None keep = tt
keep_unkept (Some n) keep = refl

phases_same : (asked phases : Option ℕ) → phases_of asked ≡ Ok phases → asked ≡ phases
phases_same None phases e = same_value {E = Refusal} None phases e
phases_same (Some n) phases e =
    let t = through (expect (are_phases n) refusal.BadRounds) (λ _. Ok (Some n)) phases e in
    same_value (Some n) phases t.rest

pub both_kept : (asked phases : Option ℕ) (keep : Option (List ℕ)) → asked ≡ phases → ArePhases phases → IsUnkept asked keep → IfSome phases (λ n. (1 ≤ n) × (n ≤ 1_000) × (keep ≡ None))
both_kept asked None keep same few unkept = tt
both_kept asked (Some n) keep same few unkept = (few.0, few.1, subst (λ (p : Option ℕ). IsUnkept p keep) same unkept)

-- how long a run goes on, how often, and where it starts anew
abbrev pub Way : Type 0
Way = Rounds × Option ℕ × SplitRule

pub way_phases : (limits : Limits) (way : Way) → limits_meant limits ≡ Ok way → limits.phases ≡ way.1
way_phases limits way e =
    let from_phases : Rounds → Option ℕ → Judged Way = λ limit phases. split_of limits.split >>= λ segments. Ok (limit, phases, segments) in
    let a = through (rounds_of limits.within limits.number) (λ limit. phases_of limits.phases >>= from_phases limit) way e in
    let b = through (phases_of limits.phases) (from_phases a.value) way a.rest in
    let c = through (split_of limits.split) (λ segments. Ok (a.value, b.value, segments)) way b.rest in
    phases_same limits.phases b.value b.first ∙ ap (λ (w : Way). w.1) (same_value (a.value, b.value, c.value) way c.rest)

abbrev pub IsWay : Way → Type 0
IsWay way = (1 ≤ number_of way.0) × (number_of way.0 ≤ 1_000_000) × ArePhases way.1 × HasNumber way.2

pub way_fits : (limits : Limits) (way : Way) → limits_meant limits ≡ Ok way → IsWay way
way_fits limits way e =
    let from_phases : Rounds → Option ℕ → Judged Way = λ limit phases. split_of limits.split >>= λ segments. Ok (limit, phases, segments) in
    let a = through (rounds_of limits.within limits.number) (λ limit. phases_of limits.phases >>= from_phases limit) way e in
    let b = through (phases_of limits.phases) (from_phases a.value) way a.rest in
    let c = through (split_of limits.split) (λ segments. Ok (a.value, b.value, segments)) way b.rest in
    let allowed = rounds_fit limits.within limits.number a.value a.first in
    subst IsWay (same_value (a.value, b.value, c.value) way c.rest)
    (allowed.0, allowed.1, phases_fit limits.phases b.value b.first, split_fits limits.split c.value c.first)
