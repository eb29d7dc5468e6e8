-- Lists of which the short ones lie one behind the other: what is added behind leaves each as it is, and one more list.
use Rattle.std.proofs.Common.{◌≡◌, ◌∙◌, ◌<◌, ◌+◌, ◌-◌, ◌++◌, ◌∷◌, [], suc, sym, ap, subst, refl, ℕ, List, length, get_or, take, drop, arith}
use Rattle.std.proofs.lemmas.List.{append-nil, take-append-le, take_all, drop-take, map-append, get_or-map}
use Rattle.std.proofs.lemmas.List.Elements.{All-get_or}
use Rattle.std.proofs.Math.ListN.{get_or-append}
use Rattle.std.proofs.Math.Seq.{drop-append_seam, get_or-append_seam}
use Rattle.change_lists.specs.declared.chained.Site.{Site}
use Rattle.change_lists.specs.Chained.{list_at, lists_at, IsSite, AreSites}
use Rattle.change_lists.specs.declared.chained.Site.TheVariants as sites

module _ {A : Type 0} where
  one-stays : (items behind : List A) (long others : List (List A)) (s : Site) → IsSite (length items) (length long) s → list_at (items ++ behind) (long ++ others) s ≡ list_at items long s
  one-stays items behind long others (sites.Short from to) h = ap (λ (xs : List A). drop from xs) (take-append-le to items behind h.1)
  one-stays items behind long others (sites.Long number) h = get_or-append long others [] number h

  lists-stay : (items behind : List A) (long others : List (List A)) (all : List Site) → AreSites items long all → lists_at (items ++ behind) (long ++ others) all ≡ lists_at items long all
  lists-stay items behind long others [] h = refl
  lists-stay items behind long others (s ∷ all) h =
      ap (λ (xs : List A). xs ∷ lists_at (items ++ behind) (long ++ others) all) (one-stays items behind long others s (h 0 s (omega arith)))
      ∙ ap (λ (xss : List (List A)). list_at items long s ∷ xss) (lists-stay items behind long others all (λ k d low. h (suc k) d (omega (arith, low))))

  -- one more short list
  pub short-more : (items list other : List A) (long : List (List A)) (all more : List Site) (from to : ℕ) → AreSites items long all → from ≡ length items → other ≡ items ++ list → to ≡ length other → more ≡ all ++ sites.Short from to ∷ []
      → lists_at other long more ≡ lists_at items long all ++ list ∷ []
  short-more items list other long all more from to h ef eo et em =
      let stay : lists_at other long all ≡ lists_at items long all =
      ap (λ (xs : List A). lists_at xs long all) eo ∙ ap (λ (xss : List (List A)). lists_at (items ++ list) xss all) (sym (append-nil long)) ∙ lists-stay items list long [] all h in
      let last : drop from (take to other) ≡ list =
      ap (λ (xs : List A). drop from xs) (take_all to other (omega (arith, et)) ∙ eo) ∙ ap (λ (n : ℕ). drop n (items ++ list)) ef ∙ drop-append_seam items list in
      ap (λ (ss : List Site). lists_at other long ss) em ∙ map-append (list_at other long) all (sites.Short from to ∷ [])
      ∙ ap (λ (xss : List (List A)). xss ++ drop from (take to other) ∷ []) stay ∙ ap (λ (xs : List A). lists_at items long all ++ xs ∷ []) last

  -- one more long list
  pub long-more : (items list : List A) (long longer : List (List A)) (all more : List Site) (number : ℕ) → AreSites items long all → number ≡ length long → longer ≡ long ++ list ∷ [] → more ≡ all ++ sites.Long number ∷ []
      → lists_at items longer more ≡ lists_at items long all ++ list ∷ []
  long-more items list long longer all more number h en el em =
      let stay : lists_at items longer all ≡ lists_at items long all =
      ap (λ (xss : List (List A)). lists_at items xss all) el ∙ ap (λ (xs : List A). lists_at xs (long ++ list ∷ []) all) (sym (append-nil items)) ∙ lists-stay items [] long (list ∷ []) all h in
      let last : get_or longer number [] ≡ list =
      ap (λ (xss : List (List A)). get_or xss number []) el ∙ ap (λ (n : ℕ). get_or (long ++ list ∷ []) n []) en ∙ get_or-append_seam long list [] [] in
      ap (λ (ss : List Site). lists_at items longer ss) em ∙ map-append (list_at items longer) all (sites.Long number ∷ [])
      ∙ ap (λ (xss : List (List A)). xss ++ get_or longer number [] ∷ []) stay ∙ ap (λ (xs : List A). lists_at items long all ++ xs ∷ []) last

  -- a short list is a part of the items
  pub short-at : (items : List A) (long : List (List A)) (all : List Site) (k : ℕ) (d : Site) (from to : ℕ) → AreSites items long all → k < length all → get_or all k d ≡ sites.Short from to
      → take (to - from) (drop from items) ≡ get_or (lists_at items long all) k []
  short-at items long all k d from to h low e =
      let here : IsSite (length items) (length long) (sites.Short from to) = subst (λ (s : Site). IsSite (length items) (length long) s) e (All-get_or (IsSite (length items) (length long)) all k d low h) in
      let whole : to ≡ from + (to - from) = omega (arith, here.0) in
      sym (get_or-map (list_at items long) all k d [] low ∙ ap (λ (s : Site). list_at items long s) e ∙ ap (λ (m : ℕ). drop from (take m items)) whole ∙ drop-take from (to - from) items)
