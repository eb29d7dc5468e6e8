-- The least and the greatest of messages that are there more than once.
use Rattle.std.proofs.Common.{◌≡◌, ◌∙◌, ◌<◌, ℕ, zero, suc, ℤ, Bool, true, false, cond, fold, replicate, refl, ap, arith}
use Rattle.std.specs.Prelude.{int_lt}
use Rattle.std.specs.Int.{int_min, int_max}
use Rattle.graph_model.specs.declared.value.Val.{Val}
use Rattle.graph_model.specs.declared.value.Val.TheVariants.{Nil, Num}
use Rattle.vertex_lang.specs.declared.program.Gather.{Gather}
use Rattle.vertex_lang.specs.declared.program.Gather.TheVariants as gather
use Rattle.vertex_lang.specs.Values.{lesser, greater}
use Rattle.vertex_lang.specs.Mail.{extreme_with}

cond_same : {A : Type 0} (b : Bool) (x : A) → cond b x x ≡ x
cond_same true x = refl
cond_same false x = refl

min_again : (b : Bool) (x y : ℤ) → int_lt y x ≡ b → int_min (cond b y x) y ≡ cond b y x
min_again true x y e = cond_same (int_lt y y) y
min_again false x y e = ap (λ (t : Bool). cond t y x) e

max_again : (b : Bool) (x y : ℤ) → int_lt y x ≡ b → int_max (cond b x y) y ≡ cond b x y
max_again true x y e = ap (λ (t : Bool). cond t x y) e
max_again false x y e = cond_same (int_lt y y) y

-- taking a message once more changes nothing
lesser_again : (v m : Val) → lesser (lesser v m) m ≡ lesser v m
lesser_again Nil Nil = refl
lesser_again Nil (Num b) = ap (λ (z : ℤ). Num z) (cond_same (int_lt b b) b)
lesser_again (Num a) Nil = refl
lesser_again (Num a) (Num b) = ap (λ (z : ℤ). Num z) (min_again (int_lt b a) a b refl)

greater_again : (v m : Val) → greater (greater v m) m ≡ greater v m
greater_again Nil Nil = refl
greater_again Nil (Num b) = ap (λ (z : ℤ). Num z) (cond_same (int_lt b b) b)
greater_again (Num a) Nil = refl
greater_again (Num a) (Num b) = ap (λ (z : ℤ). Num z) (max_again (int_lt b a) a b refl)

extreme_again : (kind : Gather) (v m : Val) → extreme_with kind (extreme_with kind v m) m ≡ extreme_with kind v m
extreme_again gather.Min v m = lesser_again v m
extreme_again gather.Max v m = greater_again v m
extreme_again gather.Sum v m = refl
extreme_again gather.Count v m = refl

stays : (kind : Gather) (n : ℕ) (v m : Val) → extreme_with kind v m ≡ v → fold (extreme_with kind) v (replicate n m) ≡ v
stays kind zero v m e = refl
stays kind (suc n) v m e = ap (λ (w : Val). fold (extreme_with kind) w (replicate n m)) e ∙ stays kind n v m e

-- a message counts once, however often it is there
pub extreme_repeated : (kind : Gather) (n : ℕ) (v m : Val) → 0 < n → fold (extreme_with kind) v (replicate n m) ≡ extreme_with kind v m
extreme_repeated kind zero v m h = absurd (omega arith)
extreme_repeated kind (suc n) v m h = stays kind n (extreme_with kind v m) m (extreme_again kind v m)
