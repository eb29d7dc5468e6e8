-- Putting into the mail what the arcs bring, one arc after the other.
use Rattle.std.proofs.Common.{◌≡◌, ◌∙◌, ◌<◌, ◌≤◌, ◌+◌, ◌++◌, ◌∷◌, [], ℕ, zero, suc, ℤ, pos, ◌+ℤ◌, Bool, true, false, cond, List, length, get_or, set, take, map, filter, fold, replicate, sym, ap, subst, refl, inl, inr, arith}
use Rattle.std.specs.Prelude.{◌==◌, ◌*ℤ◌}
use Rattle.std.proofs.Math.IntN.{*ℤ_comm, *ℤ-zero, suc_ℤ-*ℤ}
use Rattle.std.proofs.lemmas.Bool.{cases_eq, eq-eqb, ne_eqb}
use Rattle.std.proofs.lemmas.Grind.{get_or-set_at, flat_map-append}
use Rattle.std.proofs.lemmas.Int.{ints}
use Rattle.std.proofs.lemmas.List.{append-nil, get_or-set_other, length-set, length-append, length-map, length-replicate, map-append, take_more}
use Rattle.std.proofs.lemmas.List.Elements.{filter-append}
use Rattle.std.proofs.lemmas.List.Sums.{fold-append, length-filter, count_by-le-length}
use Rattle.graph_model.specs.declared.value.Val.{Val}
use Rattle.graph_model.specs.declared.value.Val.TheVariants.{Nil, Num}
use Rattle.vertex_lang.specs.declared.arc.Arc.{Arc}
use Rattle.vertex_lang.specs.declared.program.Gather.{Gather}
use Rattle.vertex_lang.specs.declared.program.Gather.TheVariants as gather
use Rattle.vertex_lang.specs.declared.mail.Mail.{Mail}
use Rattle.vertex_lang.specs.Arcs.{messages, is_sent, gathered_of, repeated, total, amount}
use Rattle.vertex_lang.specs.Mail.{mail_of, mail_with, mail_with_many, extreme_with, gathered_in, no_mail, HasMail, IsBounded, AreBounded}

abbrev sum_with : ℤ → Val → ℤ
sum_with sum m = sum +ℤ amount m

filter_small : {A : Type 0} (p : A → Bool) (xs : List A) → length (filter p xs) ≤ length xs
filter_small p xs = omega (arith, length-filter p xs, count_by-le-length p xs)

-- a node gets at most one message from each arc
pub messages_small : (carried : Arc → Val) (arcs : List Arc) (v : ℕ) → length (messages carried arcs v) ≤ length arcs
messages_small carried arcs v =
    let here = filter (λ (a : Arc). a.head.0 == v) arcs in
    omega (arith, filter_small is_sent (map carried here), length-map here carried, filter_small (λ (a : Arc). a.head.0 == v) arcs)

messages-append : (carried : Arc → Val) (xs ys : List Arc) (v : ℕ) → messages carried (xs ++ ys) v ≡ messages carried xs v ++ messages carried ys v
messages-append carried xs ys v =
    let p = λ (a : Arc). a.head.0 == v in
    ap (λ (arcs : List Arc). filter is_sent (map carried arcs)) (filter-append p xs ys)
    ∙ ap (λ (ms : List Val). filter is_sent ms) (map-append carried (filter p xs) (filter p ys))
    ∙ filter-append is_sent (map carried (filter p xs)) (map carried (filter p ys))

-- one arc alone
one_here : (carried : Arc → Val) (a : Arc) (v : ℕ) → (a.head.0 == v) ≡ true → messages carried (a ∷ []) v ≡ filter is_sent (carried a ∷ [])
one_here carried a v e = ap (λ (t : Bool). filter is_sent (map carried (cond t (a ∷ []) []))) e

one_elsewhere : (carried : Arc → Val) (a : Arc) (v : ℕ) → (a.head.0 == v) ≡ false → messages carried (a ∷ []) v ≡ []
one_elsewhere carried a v e = ap (λ (t : Bool). filter is_sent (map carried (cond t (a ∷ []) []))) e

pub mail_from : (x x' : Val) (t t' : ℤ) (n n' : ℕ) → x ≡ x' → t ≡ t' → n ≡ n' → Path Mail (record { extreme = x; total = t; count = n }) (record { extreme = x'; total = t'; count = n' })
mail_from x x' t t' n n' e f g = cc

mail_more : (kind : Gather) (ms : List Val) (m : Val) → mail_of kind (ms ++ filter is_sent (m ∷ [])) ≡ mail_with kind (mail_of kind ms) m
mail_more kind ms Nil = ap (λ (xs : List Val). mail_of kind xs) (append-nil ms)
mail_more kind ms (Num z) = mail_from _ _ _ _ _ _ (fold-append (extreme_with kind) Nil ms (Num z ∷ [])) (fold-append sum_with (pos 0) ms (Num z ∷ [])) (length-append ms (Num z ∷ []))

-- what is gathered of the mail is what is gathered of the messages
pub gathered_is : (kind : Gather) (ms : List Val) → gathered_in kind (mail_of kind ms) ≡ gathered_of kind ms
gathered_is gather.Min ms = refl
gathered_is gather.Max ms = refl
gathered_is gather.Sum ms = refl
gathered_is gather.Count ms = refl

-- ---- a message that is there more than once

regroup : (a z k : ℤ) → (a +ℤ z) +ℤ k ≡ a +ℤ (k +ℤ z)
regroup a z k = omega (arith, ints)

once_more : (z : ℤ) (n : ℕ) → z *ℤ pos (suc n) ≡ z *ℤ pos n +ℤ z
once_more z n = *ℤ_comm z (pos (suc n)) ∙ suc_ℤ-*ℤ (pos n) z ∙ ap (λ (k : ℤ). k +ℤ z) (*ℤ_comm (pos n) z)

not_once : (a z : ℤ) → a ≡ a +ℤ (z *ℤ pos 0)
not_once a z = let e = *ℤ-zero z in sym (ap (λ (k : ℤ). a +ℤ k) e ∙ (omega (arith, ints)))

total_repeated : (n : ℕ) (a z : ℤ) → fold sum_with a (replicate n (Num z)) ≡ a +ℤ (z *ℤ pos n)
total_repeated zero a z = not_once a z
total_repeated (suc n) a z = total_repeated n (a +ℤ z) z ∙ regroup a z (z *ℤ pos n) ∙ ap (λ (k : ℤ). a +ℤ k) (sym (once_more z n))

mail_many : (kind : Gather) (ms : List Val) (m : Val) (n : ℕ) → is_sent m ≡ true → mail_of kind (ms ++ replicate n m) ≡ mail_with_many kind (mail_of kind ms) m n
mail_many kind ms Nil n e = absurd cc
mail_many kind ms (Num z) n e = mail_from _ _ _ _ _ _
    (fold-append (extreme_with kind) Nil ms (replicate n (Num z)))
    (fold-append sum_with (pos 0) ms (replicate n (Num z)) ∙ total_repeated n (total ms) z)
    (length-append ms (replicate n (Num z)) ∙ ap (λ (k : ℕ). length ms + k) (length-replicate n (Num z)))

pub many_count : (kind : Gather) (mail : Mail) (m : Val) (n : ℕ) → is_sent m ≡ true → (mail_with_many kind mail m n).count ≡ mail.count + n
many_count kind mail Nil n e = absurd cc
many_count kind mail (Num z) n e = refl

-- with the mail of some messages, one message more, as often as its count says
pub mail_repeated : (kind : Gather) (ms : List (Val × ℕ)) (i : ℕ) (d : Val × ℕ) → i < length ms → is_sent (get_or ms i d).0 ≡ true → mail_of kind (repeated (take (i + 1) ms)) ≡ mail_with_many kind (mail_of kind (repeated (take i ms))) (get_or ms i d).0 (get_or ms i d).1
mail_repeated kind ms i d low sent =
    let m = get_or ms i d in
    ap (λ (xs : List (Val × ℕ)). mail_of kind (repeated xs)) (take_more ms i d low)
    ∙ ap (λ (xs : List Val). mail_of kind xs) (flat_map-append (λ (p : Val × ℕ). replicate p.1 p.0) (take i ms) (m ∷ []) ∙ ap (λ (xs : List Val). repeated (take i ms) ++ xs) (append-nil (replicate m.1 m.0)))
    ∙ mail_many kind (repeated (take i ms)) m.0 m.1 sent

-- ---- bounds

-- the mail stays bounded where one is exchanged for another
pub bounded_set : (mail : List Mail) (i : ℕ) (m : Mail) → AreBounded mail → IsBounded m → AreBounded (set mail i m)
bounded_set mail i m so_far new v low =
    let lower : v < length mail = omega (arith, length-set mail i m) in
    elim (cases_eq v i) [
      | inl same ↦ subst IsBounded (sym (get_or-set_at mail i v m no_mail same (subst (λ k. k < length mail) same lower))) new
      | inr other ↦ subst IsBounded (sym (get_or-set_other mail i v m no_mail other)) (so_far v lower)
    ]

-- with the mail of some arcs, one arc more
pub mail_step : (kind : Gather) (carried : Arc → Val) (xs : List Arc) (a : Arc) (mail : List Mail) → a.head.0 < length mail → HasMail kind carried xs mail → HasMail kind carried (xs ++ a ∷ []) (set mail a.head.0 (mail_with kind (get_or mail a.head.0 no_mail) (carried a)))
mail_step kind carried xs a mail within so_far v low =
    let m = mail_with kind (get_or mail a.head.0 no_mail) (carried a) in
    let lower : v < length mail = omega (arith, length-set mail a.head.0 m) in
    let split = messages-append carried xs (a ∷ []) v in
    elim (cases_eq v a.head.0) [
      | inl same ↦
          get_or-set_at mail a.head.0 v m no_mail same within
          ∙ ap (λ (x : Mail). mail_with kind x (carried a)) (ap (λ k. get_or mail k no_mail) (sym same) ∙ so_far v lower)
          ∙ sym (mail_more kind (messages carried xs v) (carried a))
          ∙ ap (λ (ms : List Val). mail_of kind ms) (sym (split ∙ ap (λ (ms : List Val). messages carried xs v ++ ms) (one_here carried a v (eq-eqb _ _ (sym same)))))
      | inr other ↦
          get_or-set_other mail a.head.0 v m no_mail other
          ∙ so_far v lower
          ∙ ap (λ (ms : List Val). mail_of kind ms) (sym (split ∙ ap (λ (ms : List Val). messages carried xs v ++ ms) (one_elsewhere carried a v (ne_eqb _ _ (λ same. other (sym same)))) ∙ append-nil (messages carried xs v)))
    ]
