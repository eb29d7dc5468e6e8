-- The tree weighs at most as much as any order is long. What is left of the order while the tree grows are chains: each is a
-- point inside and views outside that are walked from it. When a view joins, its chain is cut there: what stands before it is
-- walked back from it, what stands behind it is walked on, and the edge from the point inside to the first view is saved.
use Rattle.std.proofs.Common.{◌≡◌, ◌∙◌, ℕ, zero, suc, ◌+◌, ◌≤◌, ◌==◌, ◌⊎◌, inl, inr, List, [], ◌∷◌, ◌++◌, length, Option, Some, None, refl, sym, ap, arith}
use Rattle.std.specs.Prelude.{IsPermutation}
use Rattle.std.proofs.lemmas.Bool.Decides.{eqb_tells}
use Rattle.std.proofs.lemmas.List.Sums.{sum_by-cons}
use Rattle.view_order.specs.Greedy.{nearest, without}
use Rattle.tree_order.specs.Trees.{Branch, branch, closest, joins, reach, tree, walked, weight}
use Rattle.tree_order.proofs.Metric.{IsMetric, to_view}
use Rattle.tree_order.proofs.Nearest.{IsInside, inside_last, inside_more, nearest_among, nearest_least, reach_least}
use Rattle.tree_order.proofs.Times.{AreOnce, Told, gone, itself, once_without, one, other, some_or_none, still, times, times-append, times-permutation}

pub record Chain : Type 0 where
  pub point : Option ℕ
  pub views : List ℕ

abbrev chain : Option ℕ → List ℕ → Chain
chain point views = record { point = point; views = views }

abbrev all_views : List Chain → List ℕ
all_views [] = []
all_views (c ∷ cs) = c.views ++ all_views cs

abbrev AreInside : List ℕ → List Chain → Type 0
AreInside joined [] = Unit {0}
AreInside joined (c ∷ cs) = IsInside joined c.point × AreInside joined cs

inside_all : (joined : List ℕ) (v : ℕ) (cs : List Chain) → AreInside joined cs → AreInside (joined ++ v ∷ []) cs
inside_all joined v [] all = tt
inside_all joined v (c ∷ cs) all = (inside_more joined v c.point all.0, inside_all joined v cs all.1)

module _ (d : Option ℕ → Option ℕ → ℕ) (metric : IsMetric d) where
  abbrev far : Option ℕ → ℕ → ℕ
  far = to_view d

  abbrev total : List Chain → ℕ
  total [] = 0
  total (c ∷ cs) = walked far c.point c.views + total cs

  -- ---- a chain that is cut

  -- the views before one of them, from it back, and those behind it
  record Cut (v head : ℕ) (before behind : List ℕ) : Type 0 where
    back : List ℕ
    on : List ℕ
    long : walked far (Some v) back + walked far (Some v) on ≡ walked far (Some head) before + walked far (Some head) behind
    same : (x : ℕ) → one (v == x) + (times x back + times x on) ≡ times x before + times x (head ∷ behind)

  cut_by : (v head : ℕ) (before behind : List ℕ) → 1 ≤ times v (head ∷ behind) → (1 ≤ times v behind → Cut v head before behind) → Told head v → Cut v head before behind
  cut_by v head before behind is later (inl h) = record {
    back = before;
    on = behind;
    long = ap (λ (w : ℕ). walked far (Some w) before + walked far (Some w) behind) (sym h.1);
    same = λ x. omega (arith, ap (λ (w : ℕ). one (w == x)) h.1);
  }
  cut_by v head before behind is later (inr h) = later (omega (arith, is, ap one h.0))

  -- those before it are walked from the head back, those behind the head on
  cut : (v head : ℕ) (before behind : List ℕ) → 1 ≤ times v (head ∷ behind) → Cut v head before behind
  cut v head before [] is = cut_by v head before [] is (λ none. absurd (omega (arith, none))) (eqb_tells head v)
  cut v head before (w ∷ ws) is =
      cut_by v head before (w ∷ ws) is
      (λ more.
      let next : Cut v w (head ∷ before) ws = cut v w (head ∷ before) ws more in
      record {
        back = next.back;
        on = next.on;
        long = omega (arith, next.long, metric.back (Some w) (Some head));
        same = λ x. omega (arith, next.same x);
      })
      (eqb_tells head v)

  -- ---- the chain of a view

  -- a chain in which a view stands, and the others
  record Pulled (joined : List ℕ) (v : ℕ) (cs : List Chain) : Type 0 where
    point : Option ℕ
    head : ℕ
    behind : List ℕ
    others : List Chain
    here : 1 ≤ times v (head ∷ behind)
    same : (x : ℕ) → times x (all_views cs) ≡ times x (head ∷ behind) + times x (all_views others)
    long : total cs ≡ walked far point (head ∷ behind) + total others
    inside : IsInside joined point
    all : AreInside joined others

  pull_first : (joined : List ℕ) (v : ℕ) (point : Option ℕ) (views : List ℕ) (cs : List Chain) → IsInside joined point → AreInside joined cs → 1 ≤ times v views → Pulled joined v (chain point views ∷ cs)
  pull_first joined v point [] cs is all here = absurd (omega arith)
  pull_first joined v point (head ∷ behind) cs is all here = record {
    point = point;
    head = head;
    behind = behind;
    others = cs;
    here = here;
    same = λ x. times-append x (head ∷ behind) (all_views cs);
    long = refl;
    inside = is;
    all = all;
  }

  pull_later : (joined : List ℕ) (v : ℕ) (point : Option ℕ) (views : List ℕ) (cs : List Chain) → IsInside joined point → Pulled joined v cs → Pulled joined v (chain point views ∷ cs)
  pull_later joined v point views cs is p = record {
    point = p.point;
    head = p.head;
    behind = p.behind;
    others = chain point views ∷ p.others;
    here = p.here;
    same = λ x. omega (arith, p.same x, times-append x views (all_views cs), times-append x views (all_views p.others));
    long = omega (arith, p.long);
    inside = p.inside;
    all = (is, p.all);
  }

  pull_by : (joined : List ℕ) (v : ℕ) (point : Option ℕ) (views : List ℕ) (cs : List Chain) → IsInside joined point → AreInside joined cs → 1 ≤ times v views + times v (all_views cs) → (1 ≤ times v (all_views cs) → Pulled joined v cs) → (times v views ≡ 0) ⊎ (1 ≤ times v views) → Pulled joined v (chain point views ∷ cs)
  pull_by joined v point views cs is all some later (inl none) = pull_later joined v point views cs is (later (omega (arith, none, some)))
  pull_by joined v point views cs is all some later (inr here) = pull_first joined v point views cs is all here

  pull : (joined : List ℕ) (v : ℕ) (cs : List Chain) → AreInside joined cs → 1 ≤ times v (all_views cs) → Pulled joined v cs
  pull joined v [] all is = absurd (omega arith)
  pull joined v (c ∷ cs) all is =
      pull_by joined v c.point c.views cs all.0 all.1 (omega (arith, is, times-append v c.views (all_views cs))) (pull joined v cs all.1) (some_or_none (times v c.views))

  -- ---- the tree

  rest_by : (n x c : ℕ) (outside : List ℕ) → times x outside ≡ one (n == x) + c → AreOnce outside → 1 ≤ times n outside → Told n x → c ≡ times x (without n outside)
  rest_by n x c outside is once some (inl h) =
      let one_is : one (n == x) ≡ 1 = ap one h.0 in
      let none : times x (without n outside) ≡ 0 = ap (λ (y : ℕ). times y (without n outside)) (sym h.1) ∙ gone n outside in
      omega (arith, is, once x, one_is, none)
  rest_by n x c outside is once some (inr h) = omega (arith, is, ap one h.0, still n x outside h.1)

  -- how often each stands in what is left when a view has joined
  rest : (n x c : ℕ) (outside : List ℕ) → times x outside ≡ one (n == x) + c → AreOnce outside → 1 ≤ times n outside → c ≡ times x (without n outside)
  rest n x c outside is once some = rest_by n x c outside is once some (eqb_tells n x)

  pub below : (n : ℕ) (joined outside : List ℕ) (cs : List Chain) → AreOnce outside → ((x : ℕ) → times x (all_views cs) ≡ times x outside) → AreInside joined cs → weight far (joins far n joined outside) ≤ total cs
  below zero joined outside cs once same all = omega arith
  below (suc n) joined [] cs once same all = omega arith
  below (suc n) joined (v ∷ vs) cs once same all =
      let near : ℕ → ℕ = reach far joined in
      let next = nearest near v vs in
      let among : 1 ≤ times next (v ∷ vs) = nearest_among near v vs in
      let p : Pulled joined next cs = pull joined next cs all (omega (arith, among, same next)) in
      let c : Cut next p.head [] p.behind = cut next p.head [] p.behind p.here in
      let left : List Chain = chain (Some next) c.back ∷ chain (Some next) c.on ∷ p.others in
      let head_in : 1 ≤ times p.head (v ∷ vs) = omega (arith, same p.head, p.same p.head, itself p.head) in
      let least : near next ≤ near p.head = nearest_least near v vs p.head head_in in
      let edge : near p.head ≤ far p.point p.head = reach_least far joined p.head p.point p.inside in
      let left_same : (x : ℕ) → times x (all_views left) ≡ times x (without next (v ∷ vs)) = λ x.
      rest next x (times x (all_views left)) (v ∷ vs)
      (omega (arith, same x, p.same x, c.same x, times-append x c.back (c.on ++ all_views p.others), times-append x c.on (all_views p.others)))
      once among in
      let so_far : weight far (joins far n (joined ++ next ∷ []) (without next (v ∷ vs))) ≤ total left =
      below n (joined ++ next ∷ []) (without next (v ∷ vs)) left (once_without next (v ∷ vs) once) left_same
      (inside_last joined next, (inside_last joined next, inside_all joined next p.others p.all)) in
      omega (
        arith,
        so_far,
        least,
        edge,
        p.long,
        c.long,
        sum_by-cons (λ (b : Branch). far b.parent b.view) (branch (closest far joined next) next) (joins far n (joined ++ next ∷ []) (without next (v ∷ vs))),
      )

  pub tree_below : (views other : List ℕ) → AreOnce views → IsPermutation views other → weight far (tree far views) ≤ walked far None other
  tree_below views other once p =
      let whole : weight far (joins far (length views) [] views) ≤ total (chain None other ∷ []) =
      below (length views) [] views (chain None other ∷ []) once
      (λ x. omega (arith, times-append x other [], times-permutation x views other p))
      (tt, tt) in
      omega (arith, whole)
