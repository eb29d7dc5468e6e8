-- How the work is counted, node by node and round by round.
use Rattle.std.proofs.Common.{◌≡◌, ◌∙◌, ◌+◌, ◌<◌, ◌≤◌, ◌*◌, ◌++◌, ◌∷◌, [], sym, ap, subst, refl, ℕ, suc, Bool, true, false, List, Option, Some, None, length, cond, arith}
use Rattle.std.specs.Prelude.{◌&&◌, ◌||◌, not, map, if◌then◌else◌}
use Rattle.std.specs.Cmp.{both_ways}
use Rattle.std.specs.List.{count_by, range_with_len}
use Rattle.std.proofs.lemmas.List.FromFn.{sum_by-map-range_with_len_more, map-range_with_len_more}
use Rattle.std.proofs.lemmas.List.Sums.{sum_by_push}
use Rattle.graph_model.specs.declared.value.Val.{Val}
use Rattle.graph_model.specs.GraphData.{GraphData}
use Rattle.vertex_lang.specs.declared.arc.Arc.{Arc}
use Rattle.vertex_lang.specs.declared.program.Program.{Program}
use Rattle.vertex_lang.specs.Expressions.{Answer}
use Rattle.vertex_lang.specs.Lone.{same_value}
use Rattle.vertex_lang.specs.Rounds.{nodes_of, value_at, lone}
use Rattle.multisets.specs.Multisets.{AreOne, are_one, do_cancel}
use Rattle.multisets.specs.CountLaws.{one-told, one-tells, here}
use Rattle.lone_work.specs.Inputs.{own_values, got_values}
use Rattle.lone_work.specs.Work.{previous, node_active, node_touched, node_counted, node_marked, touched_before, work}
use Rattle.vertex_lang.specs.GatherLaws.{values-exact}
use Rattle.lone_work.specs.WorkLaws.{marked-at-first, first-counted}
use Rattle.lone_work.specs.CountLaws.{work-by-rounds}
use Rattle.lone_work.specs.SplitLaws.{active-splits, mark-splits, single}
use Rattle.lone_work.specs.StepLaws.{counted-is, touched-is, no-round}

map-same : (xs : List ℕ) → map (λ (x : ℕ). x) xs ≡ xs
map-same [] = refl
map-same (x ∷ xs) = ap (λ (ys : List ℕ). x ∷ ys) (map-same xs)

range-more : (n : ℕ) → range_with_len 0 (n + 1) ≡ range_with_len 0 n ++ n ∷ []
range-more n = sym (map-same (range_with_len 0 (n + 1))) ∙ map-range_with_len_more (λ (x : ℕ). x) 0 n n (omega arith) ∙ ap (λ (ys : List ℕ). ys ++ n ∷ []) (map-same (range_with_len 0 n))

pub count-more : (f : ℕ → Bool) (n : ℕ) → count_by f (range_with_len 0 (n + 1)) ≡ count_by f (range_with_len 0 n) + (if f n then 1 else 0)
count-more f n = ap (λ (ys : List ℕ). count_by f ys) (range-more n) ∙ sum_by_push (λ k. cond (f k) 1 0) (range_with_len 0 n) n

-- one more node
pub count-next : (f : ℕ → Bool) (n count one : ℕ) (b : Bool) → count ≡ count_by f (range_with_len 0 n) → b ≡ f n → one ≡ (if b then 1 else 0) → count + one ≡ count_by f (range_with_len 0 (n + 1))
count-next f n count one b e g h = omega (arith, e, h ∙ ap (λ (t : Bool). if t then 1 else 0) g, count-more f n)

pub one-at-most : (b : Bool) (one : ℕ) → one ≡ (if b then 1 else 0) → one ≤ 1
one-at-most true one e = omega (arith, e)
one-at-most false one e = omega (arith, e)

single-one : (a b : Val) → are_one same_value (a ∷ []) (b ∷ []) ≡ same_value a b
single-one a b = both_ways (are_one same_value (a ∷ []) (b ∷ [])) (same_value a b)
    (λ e. single a b (same_value a b) refl (omega (arith, (one-told same_value values-exact (a ∷ []) (b ∷ []) e).counts a, here same_value values-exact a [])))
    (λ e. one-tells same_value (a ∷ []) (b ∷ []) (subst (λ (x : Val). AreOne same_value (a ∷ []) (x ∷ [])) (values-exact.one a b e) (record { counts = λ x. refl })))

module _ (answer : Answer) (p : Program) (graph : GraphData) (new : List Arc) (v r : ℕ) where
  pub marked-first : r ≡ 0 → true ≡ node_marked answer p graph (Some new) v r
  marked-first e = sym (marked-at-first answer p graph new v) ∙ ap (λ n. node_marked answer p graph (Some new) v n) (sym e)

  pub marked-by : (k : ℕ) → r ≡ suc k → (x own got : Bool) (a b c d : List Val)
      → a ≡ own_values answer p graph new v r → b ≡ own_values answer p graph new v k → c ≡ got_values answer p graph new v r → d ≡ got_values answer p graph new v k
      → own ≡ are_one same_value a b → got ≡ are_one same_value c d → x ≡ not (own && got) → x ≡ node_marked answer p graph (Some new) v r
  marked-by k at x own got a b c d ea eb ec ed eo eg ex =
      let ovs = own_values answer p graph new v in
      let gvs = got_values answer p graph new v in
      let own-is : own ≡ are_one same_value (ovs r) (ovs k) = eo ∙ ap (λ (ws : List Val). are_one same_value ws b) ea ∙ ap (λ (ws : List Val). are_one same_value (ovs r) ws) eb in
      let got-is : got ≡ are_one same_value (gvs r) (gvs k) = eg ∙ ap (λ (ws : List Val). are_one same_value ws d) ec ∙ ap (λ (ws : List Val). are_one same_value (gvs r) ws) ed in
      let both-are : (own && got) ≡ (are_one same_value (ovs (suc k)) (ovs k) && are_one same_value (gvs (suc k)) (gvs k)) = ap (λ (t : Bool). t && got) (own-is ∙ ap (λ n. are_one same_value (ovs n) (ovs k)) at) ∙ ap (λ (t : Bool). are_one same_value (ovs (suc k)) (ovs k) && t) (got-is ∙ ap (λ n. are_one same_value (gvs n) (gvs k)) at) in
      ex ∙ ap not (both-are ∙ ap (λ (t : Bool). t && are_one same_value (gvs (suc k)) (gvs k)) (single-one (value_at (lone answer p graph new (suc k)) v) (value_at (lone answer p graph new k) v))) ∙ sym (mark-splits answer p graph new v k) ∙ ap (λ n. node_marked answer p graph (Some new) v n) (sym at)

module _ (answer : Answer) (p : Program) (graph : GraphData) (new old : List Arc) (v r : ℕ) where
  pub active-by-lists : (x own got : Bool) (a b c d e f g h : List Val)
      → a ≡ own_values answer p graph new v r → b ≡ own_values answer p graph old v r → c ≡ previous (own_values answer p graph new v) r → d ≡ previous (own_values answer p graph old v) r
      → e ≡ got_values answer p graph new v r → f ≡ got_values answer p graph old v r → g ≡ previous (got_values answer p graph new v) r → h ≡ previous (got_values answer p graph old v) r
      → own ≡ do_cancel same_value a b c d → got ≡ do_cancel same_value e f g h → x ≡ not (own && got) → x ≡ node_active answer p graph new (Some old) v r
  active-by-lists x own got a b c d e f g h ea eb ec ed ee ef eg eh eo et ex =
      ex ∙ ap (λ (t : Bool). not (t && got)) (eo ∙ four a b c d _ _ _ _ ea eb ec ed) ∙ ap (λ (t : Bool). not (do_cancel same_value (own_values answer p graph new v r) (own_values answer p graph old v r) (previous (own_values answer p graph new v) r) (previous (own_values answer p graph old v) r) && t)) (et ∙ four e f g h _ _ _ _ ee ef eg eh) ∙ sym (active-splits answer p graph new old v r) where
        four : (a b c d a' b' c' d' : List Val) → a ≡ a' → b ≡ b' → c ≡ c' → d ≡ d' → do_cancel same_value a b c d ≡ do_cancel same_value a' b' c' d'
        four a b c d a' b' c' d' p q s t = ap (λ (w : List Val). do_cancel same_value w b c d) p ∙ ap (λ (w : List Val). do_cancel same_value a' w c d) q ∙ ap (λ (w : List Val). do_cancel same_value a' b' w d) s ∙ ap (λ (w : List Val). do_cancel same_value a' b' c' w) t

  pub counted-by : (x t a m o : Bool) → t ≡ node_touched answer p graph new (Some old) v r → a ≡ node_active answer p graph new (Some old) v r → m ≡ node_marked answer p graph (Some old) v r → o ≡ (a || m) → x ≡ (t && o) → x ≡ node_counted answer p graph new (Some old) v r
  counted-by x t a m o et ea em eo ex =
      ex ∙ ap (λ (b : Bool). b && o) et ∙ ap (λ (b : Bool). node_touched answer p graph new (Some old) v r && b) (eo ∙ ap (λ (b : Bool). b || m) ea ∙ ap (λ (b : Bool). node_active answer p graph new (Some old) v r || b) em)
      ∙ sym (counted-is answer p graph new (Some old) v r)

  pub touched-more : (x t a : Bool) → t ≡ touched_before answer p graph new (Some old) v r → a ≡ node_active answer p graph new (Some old) v r → x ≡ (t || a) → x ≡ touched_before answer p graph new (Some old) v (r + 1)
  touched-more x t a et ea ex =
      let more : suc r ≡ r + 1 = omega arith in
      ex ∙ ap (λ (b : Bool). b || a) et ∙ ap (λ (b : Bool). touched_before answer p graph new (Some old) v r || b) ea
      ∙ sym (touched-is answer p graph new (Some old) v r) ∙ ap (λ n. touched_before answer p graph new (Some old) v n) more

  pub touched-at : (n : ℕ) → n ≡ r + 1 → touched_before answer p graph new (Some old) v n ≡ node_touched answer p graph new (Some old) v r
  touched-at n e = let more : n ≡ suc r = omega arith in ap (λ k. touched_before answer p graph new (Some old) v k) more

module _ (answer : Answer) (p : Program) (graph : GraphData) (new : List Arc) (old : Option (List Arc)) where
  pub work-none : 0 ≡ work answer p graph new old 0
  work-none = sym (no-round answer p graph new old)

  pub work-more : (r total count : ℕ) → total ≡ work answer p graph new old r → count ≡ count_by (λ v. node_counted answer p graph new old v r) (nodes_of graph) → total + count ≡ work answer p graph new old (r + 1)
  work-more r total count e h = omega (arith, e, h, work-by-rounds answer p graph new old r)

count-same : (f g : ℕ → Bool) (xs : List ℕ) → ((x : ℕ) → f x ≡ g x) → count_by f xs ≡ count_by g xs
count-same f g [] h = refl
count-same f g (x ∷ xs) h = grind (arith, h x, count-same f g xs h)

pub marks-counted : (answer : Answer) (p : Program) (graph : GraphData) (new : List Arc) (r : ℕ) → count_by (λ v. node_marked answer p graph (Some new) v r) (nodes_of graph) ≡ count_by (λ v. node_counted answer p graph new None v r) (nodes_of graph)
marks-counted answer p graph new r = count-same _ _ (nodes_of graph) (λ v. sym (first-counted answer p graph new v r))
