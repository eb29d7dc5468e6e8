-- Messages that are kept, and one of a node that changes.
use Rattle.std.proofs.Common.{◌≡◌, ◌∙◌, ◌<◌, ◌+◌, ◌++◌, ◌∷◌, [], sym, ap, subst, ℕ, ℤ, pos, Bool, true, List, length, get_or, set, arith, inl, inr}
use Rattle.std.proofs.lemmas.Bool.{cases_eq}
use Rattle.std.proofs.lemmas.Grind.{get_or-set_at}
use Rattle.std.proofs.lemmas.List.{get_or-set_other, get_or_append_left, get_or_push}
use Rattle.graph_model.specs.declared.value.Val.{Val}
use Rattle.graph_model.specs.declared.value.Val.TheVariants.{Nil}
use Rattle.graph_model.specs.GraphData.{GraphData}
use Rattle.vertex_lang.specs.declared.program.Program.{Program}
use Rattle.vertex_lang.specs.Expressions.{sent_by, send_words, edge_value}
use Rattle.vertex_lang.specs.Ignoring.{IgnoresEdge}
use Rattle.vertex_lang.specs.Rounds.{value_at}
use Rattle.message_forms.specs.Codes.{value_in, number_at}
use Rattle.value_codes.specs.Numbers.{IsPut}
use Rattle.round_messages.specs.Sides.{AreSent}
use Rattle.message_forms.specs.Forms.{MayKeep}

-- as slices of the lists
pub sent-at : (alike : Bool) (p : Program) (graph : GraphData) (degrees ds : List ℕ) (values vs : List Val) (sent ss : List ℤ) → ds ≡ degrees → vs ≡ values → ss ≡ sent → AreSent alike p graph degrees values sent → AreSent alike p graph ds vs ss
sent-at alike p graph degrees ds values vs sent ss ed ev es h =
    subst (λ (xs : List ℕ). AreSent alike p graph xs vs ss) (sym ed) (subst (λ (xs : List Val). AreSent alike p graph degrees xs ss) (sym ev) (subst (λ (xs : List ℤ). AreSent alike p graph degrees values xs) (sym es) h))

-- any edge tells
pub any-edge : (p : Program) (graph : GraphData) (u d e f : ℕ) (v : Val) → IgnoresEdge p.send → sent_by p graph u v d e ≡ sent_by p graph u v d f
any-edge p graph u d e f v h = h (send_words graph u v d e) (edge_value graph e) (edge_value graph f)

module _ (p : Program) (graph : GraphData) (degrees : List ℕ) (values : List Val) where
  abbrev message_of : ℕ → ℕ → Val
  message_of u e = sent_by p graph u (value_at values u) (get_or degrees u 0) e

  -- those of so many nodes, and one more
  pub more-sent : (numbers more : List ℤ) (n edge : ℕ) (z : ℤ) (m : Val) → IgnoresEdge p.send → length numbers ≡ n → more ≡ numbers ++ z ∷ [] → value_in z ≡ m → m ≡ message_of n edge
      → ((u e : ℕ) → u < n → number_at numbers u ≡ message_of u e) → (u e : ℕ) → u < n + 1 → number_at more u ≡ message_of u e
  more-sent numbers more n edge z m any size em ez is h u e low = ap (λ (zs : List ℤ). number_at zs u) em ∙ (elim (cases_eq u n) [
    | inl same ↦ ap value_in (get_or_push numbers z (pos 0) u (size ∙ sym same)) ∙ ez ∙ is ∙ any-edge p graph n (get_or degrees n 0) edge e (value_at values n) any ∙ ap (λ k. message_of k e) (sym same)
    | inr other ↦
        let before : u < n = omega arith in
        ap value_in (get_or_append_left numbers (z ∷ []) (pos 0) u (omega (arith, before, size))) ∙ h u e before
  ])

  -- the one of a node that gets another value
  pub one-sent : (alike kept : Bool) (sent after : List ℤ) (n edge : ℕ) (w m : Val) → length values ≡ length graph.ids → n < length graph.ids → MayKeep alike p graph → alike ≡ true → m ≡ sent_by p graph n w (get_or degrees n 0) edge
      → (kept ≡ true → IsPut n m sent after) → AreSent alike p graph degrees values sent → AreSent kept p graph degrees (set values n w) after
  one-sent alike kept sent after n edge w m size low keep on em put h = λ e. (
    (put e).size ∙ (h on).0,
    λ u f within. elim (cases_eq u n) [
      | inl same ↦ ap (λ k. number_at after k) same ∙ (put e).here ∙ em ∙ any-edge p graph n (get_or degrees n 0) edge f w (keep on).0
          ∙ ap (λ k. sent_by p graph k w (get_or degrees k 0) f) (sym same)
          ∙ ap (λ (x : Val). sent_by p graph u x (get_or degrees u 0) f) (sym (get_or-set_at values n u w Nil same (omega (arith, size, low))))
      | inr other ↦ (put e).others u other ∙ (h on).1 u f within ∙ ap (λ (x : Val). sent_by p graph u x (get_or degrees u 0) f) (sym (get_or-set_other values n u w Nil other))
    ],
  )
