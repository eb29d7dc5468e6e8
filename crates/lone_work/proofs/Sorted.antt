-- Whether lists of values are one multiset, by the sorted lists that the code compares, under a test that says the same of two values.
use Rattle.std.proofs.Common.{◌≡◌, ◌∙◌, ◌++◌, sym, ap, Bool, List}
use Rattle.std.specs.Cmp.{both_ways}
use Rattle.graph_model.specs.declared.value.Val.{Val}
use Rattle.multisets.specs.Multisets.{IsExact, are_one, do_cancel}
use Rattle.multisets.specs.CountLaws.{one-told, one-tells, cancel-is-one}
use Rattle.multisets.specs.OrderLaws.{permuted-one, one-permuted}
use Rattle.vertex_lang.specs.GatherLaws.{values-exact}
use Rattle.vertex_lang.specs.Lone.{same_value}

module _ {eq : Val → Val → Bool} (matches : (x y : Val) → eq x y ≡ same_value x y) where
  exact : IsExact eq
  exact = record {
    itself = λ x. matches x x ∙ values-exact.itself x;
    one = λ x y e. values-exact.one x y (sym (matches x y) ∙ e);
  }

  by-exact : (xs ys : List Val) → are_one eq xs ys ≡ are_one same_value xs ys
  by-exact xs ys = both_ways (are_one eq xs ys) (are_one same_value xs ys)
      (λ e. one-tells same_value xs ys (permuted-one same_value xs ys (one-permuted eq exact xs ys (one-told eq exact xs ys e))))
      (λ e. one-tells eq xs ys (permuted-one eq xs ys (one-permuted same_value values-exact xs ys (one-told same_value values-exact xs ys e))))

  pub one-by : (xs ys us vs : List Val) (b : Bool) → us ≡ xs → vs ≡ ys → b ≡ are_one eq us vs → b ≡ are_one same_value xs ys
  one-by xs ys us vs b e f d = d ∙ by-exact us vs ∙ ap (λ (ws : List Val). are_one same_value ws vs) e ∙ ap (λ (ws : List Val). are_one same_value xs ws) f

  pub cancel-by : (a b c d us vs : List Val) (t : Bool) → us ≡ a ++ d → vs ≡ b ++ c → t ≡ are_one eq us vs → t ≡ do_cancel same_value a b c d
  cancel-by a b c d us vs t e f h = one-by (a ++ d) (b ++ c) us vs t e f h ∙ sym (cancel-is-one same_value values-exact a b c d)
