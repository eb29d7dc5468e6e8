-- What the parts stand for gives the run of the reduce inside.
use Rattle.std.specs.Prelude.{◌≡◌, ℕ, zero, suc, ◌+◌, ◌*◌, ◌<◌, ◌≤◌, Bool, true, false, IsTrue, List, [], ◌∷◌, ◌++◌, length, map, take, drop, if◌then◌else◌, refl}
use Rattle.std.specs.List.{sum}
use Rattle.std.specs.declared.cmp.Ordering.{Ordering}
use Rattle.std.proofs.Common.{arith, ap, sym, subst, ◌∙◌}
use Rattle.std.proofs.lemmas.List.Sums.{sum_by-cons}
use Rattle.std.proofs.Math.Seq.{take-append_seam, drop-append_seam}
use Rattle.lattice_time.specs.Lattice.{IsLattice}
use Rattle.lattice_time.specs.declared.pair.Pair.{Pair}
use Rattle.lattice_time.specs.declared.round.Round.{Round}
use Rattle.weighted.specs.Alike.{Alike, Alike-refl, Alike-is, Alike-trans, Alike-append, Alike-mapped}
use Rattle.weighted.specs.Batches.{IsBatch}
use Rattle.trace_store.specs.Traces.{in_turn}
use Rattle.flow_core.specs.Runs.{Step, Run, Every, NoneBelow, Answers, fed_to, made_to, times_of, charges_of}
use Rattle.flow_core.specs.Lists.{Every-append_front, Every-append_back}
use Rattle.flow_core.specs.RunLaws.{times_of-append}
use Rattle.flow_core.specs.Parts.{Link, link_whole, link_first, link_second, StandsByLinks}
use Rattle.flow_core.specs.PartLaws.{lub_level, above_first, times_part}
use Rattle.flow_core.specs.ChainLaws.{fed_first, made_first, made_second}
use Rattle.flow_core.specs.Quietly.{StandsQuietly, quiet_answers, quiet_free}
use Rattle.reduce_theory.specs.Evaluated.{EachCharged, charged}
use Rattle.loop_theory.specs.declared.input.LoopInput.{LoopInput}
use Rattle.loop_theory.specs.declared.input.LoopInput.TheVariants.{Moving}
use Rattle.loop_theory.specs.Inputs.{fixed, moving, as_moving, Alike-fixed, Alike-moving}
use Rattle.loop_theory.specs.Loops.{after_rounds, pair_leq, pair_lub, pair_of, Exchange, charge_of, Lap, IsLap, lap_step, steps_from, body_steps, StandsByLaps}
use Rattle.loop_theory.specs.LoopLaws.{HoldsAtRound, seal_below, none_outer}
use Rattle.inner_theory.specs.Inside.{AreSums, BodyInside, LoopInside, rounds_from, all_rounds}

-- behind a part that is charged nothing, the whole is charged what the second is
none_more : (a b : ℕ) → a ≡ 0 → a + b ≡ b
none_more a b h = omega arith

links_free : {T I M O : Type 0} (links : List (Link T I M O)) → Every (λ s. s.charge ≡ 0) (map link_first links) → charges_of (map link_second links) ≡ charges_of (map link_whole links)
links_free [] h = refl
links_free (l ∷ ls) h = ap (λ c. c ∷ charges_of (map link_second ls)) (sym (none_more l.first_charge l.second_charge h.0)) ∙ ap (λ cs. (l.first_charge + l.second_charge) ∷ cs) (links_free ls h.1)

charges_of-append : {T I O : Type 0} (xs ys : List (Step T I O)) → charges_of (xs ++ ys) ≡ charges_of xs ++ charges_of ys
charges_of-append [] ys = refl
charges_of-append (s ∷ ss) ys = ap (λ cs. s.charge ∷ cs) (charges_of-append ss ys)

no_base : (a b c d : ℕ) → a + b ≡ c → a ≡ 0 → b ≡ c
no_base a b c d h k = omega arith

-- ---- a part that charges nothing, and a reduce

module _ {T I K V O : Type 0} (leq : T → T → Bool) (lub : T → T → T) (lattice : IsLattice leq lub) (tcmp : T → T → Ordering) (kcmp : K → K → Ordering) (vcmp : V → V → Ordering) (items : List (I × ℕ) → List ((K × V) × ℕ)) (first_seal seal : T) (first_due due : List T) (charge : ℕ) (First : Run T I (K × V) → Type 0) (Reduce : Run T (K × V) (K × O) → Type 0) where
  pub body-inside : ((r : Run T I (K × V)) → First r → Answers leq lub items first_seal first_due r)
      → ((r : Run T (K × V) (K × O)) → Reduce r → charge ≡ r.base + charged leq lub tcmp kcmp vcmp seal (take r.before r.steps) [] (drop r.before r.steps))
      → ((r : Run T (K × V) (K × O)) → Reduce r → EachCharged leq lub tcmp kcmp vcmp seal (take r.before r.steps) [] (drop r.before r.steps))
      → ((r : Run T (K × V) (K × O)) → Reduce r → Every (λ s. IsBatch (in_turn kcmp vcmp) s.fed) r.steps)
      → (run : Run T I (K × O)) → StandsByLinks (StandsQuietly First) Reduce run → seal ≡ first_seal
      → BodyInside leq lub tcmp kcmp vcmp items (lub first_seal seal) (first_due ++ due) charge run
  body-inside answers charges each batched run h level =
      let first_run : Run T I (K × V) = record { steps = map link_first h.links; before = run.before; base = h.first_base } in
      let inner : Run T (K × V) (K × O) = record { steps = map link_second h.links; before = run.before; base = h.second_base } in
      let whole : lub first_seal seal ≡ seal = lub_level lattice first_seal seal level ∙ sym level in
      record {
        inner = inner;
        times = times_part link_whole link_second (λ _. refl) h.links ∙ ap times_of (sym h.steps);
        made = λ t. ap (λ ss. made_to leq ss t) h.steps ∙ made_second leq h.links t;
        before = refl;
        base = no_base h.first_base h.second_base run.base 0 h.base h.first_run.base;
        fed = λ t over below. rw (h.steps, fed_first leq h.links t, ← made_first leq h.links t) ((quiet_answers leq lub items first_seal first_due First answers first_run h.first_run).closed t (above_first lattice first_seal seal t over) (Every-append_front (λ d. leq d t ≡ false) first_due due below));
        batches = batched inner h.second_run;
        charges = links_free h.links (quiet_free First first_run h.first_run) ∙ ap charges_of (sym h.steps);
        each = subst (λ s. EachCharged leq lub tcmp kcmp vcmp s (take run.before (map link_second h.links)) [] (drop run.before (map link_second h.links))) (sym whole) (each inner h.second_run);
        charged_is = charges inner h.second_run ∙ ap (λ s. h.second_base + charged leq lub tcmp kcmp vcmp s (take run.before (map link_second h.links)) [] (drop run.before (map link_second h.links))) (sym whole);
      }

-- ---- a loop behind a part that charges nothing

module _ {F X : Type 0} (body : List (LoopInput F X × ℕ) → List (X × ℕ)) (respects : (xs ys : List (LoopInput F X × ℕ)) → Alike xs ys → Alike (body xs) (body ys)) where
  pub after_respects : (xs ys : List (LoopInput F X × ℕ)) (q : ℕ) → Alike xs ys → Alike (after_rounds body xs q) (after_rounds body ys q)
  after_respects xs ys zero h = Alike-moving xs ys h
  after_respects xs ys (suc q) h = respects (fixed xs ++ as_moving (after_rounds body xs q)) (fixed ys ++ as_moving (after_rounds body ys q)) (Alike-append (Alike-fixed xs ys h) (Alike-mapped Moving (after_rounds body xs q) (after_rounds body ys q) (after_respects xs ys q h)))

module _ {T F X : Type 0} where
  lap_times : (t : T) (k : ℕ) (es : List (Exchange F X)) → times_of (steps_from t k es) ≡ rounds_from t k (length es)
  lap_times t k [] = refl
  lap_times t k (e ∷ es) = ap (λ ts. pair_of t k ∷ ts) (lap_times t (suc k) es)

  laps_times : (rounds : ℕ) (laps : List (Lap T F X)) → Every (IsLap rounds) laps → times_of (body_steps laps) ≡ all_rounds rounds (times_of (map lap_step laps))
  laps_times rounds [] h = refl
  laps_times rounds (l ∷ ls) h =
      times_of-append (steps_from l.time 0 l.taken) (body_steps ls)
      ∙ ap (λ ts. ts ++ times_of (body_steps ls)) (lap_times l.time 0 l.taken ∙ ap (rounds_from l.time 0) h.0.count)
      ∙ ap (λ ts. rounds_from l.time 0 rounds ++ ts) (laps_times rounds ls h.1)

  -- ---- what a lap is charged is the sum of what its rounds are

  round_charges : (t : T) (k : ℕ) (es : List (Exchange F X)) → length (charges_of (steps_from t k es)) ≡ length es
  round_charges t k [] = refl
  round_charges t k (e ∷ es) = ap (λ m. suc m) (round_charges t (suc k) es)

  lap_sum : (t : T) (k : ℕ) (es : List (Exchange F X)) → sum (charges_of (steps_from t k es)) ≡ charge_of es
  lap_sum t k [] = refl
  lap_sum t k (e ∷ es) = sum_by-cons (λ m. m) e.charge (charges_of (steps_from t (suc k) es)) ∙ ap (λ m. e.charge + m) (lap_sum t (suc k) es)

  laps_sums : (rounds : ℕ) (laps : List (Lap T F X)) → Every (IsLap rounds) laps → AreSums rounds (charges_of (map lap_step laps)) (charges_of (body_steps laps))
  laps_sums rounds [] h = tt
  laps_sums rounds (l ∷ ls) h =
      let own : List ℕ = charges_of (steps_from l.time 0 l.taken) in
      let long : length own ≡ rounds = round_charges l.time 0 l.taken ∙ h.0.count in
      let all : charges_of (body_steps (l ∷ ls)) ≡ own ++ charges_of (body_steps ls) = charges_of-append (steps_from l.time 0 l.taken) (body_steps ls) in
      let front : take rounds (charges_of (body_steps (l ∷ ls))) ≡ own = ap (take rounds) all ∙ ap (λ n. take n (own ++ charges_of (body_steps ls))) (sym long) ∙ take-append_seam own (charges_of (body_steps ls)) in
      let rest : drop rounds (charges_of (body_steps (l ∷ ls))) ≡ charges_of (body_steps ls) = ap (drop rounds) all ∙ ap (λ n. drop n (own ++ charges_of (body_steps ls))) (sym long) ∙ drop-append_seam own (charges_of (body_steps ls)) in
      (h.0.charge ∙ sym (ap sum front ∙ lap_sum l.time 0 l.taken), subst (AreSums rounds (charges_of (map lap_step ls))) (sym rest) (laps_sums rounds ls h.1))

module _ {T In F K V O : Type 0} (leq : T → T → Bool) (lub : T → T → T) (lattice : IsLattice leq lub) (pcmp : Pair T Round → Pair T Round → Ordering) (kcmp : K → K → Ordering) (vcmp : V → V → Ordering) (prep : List (In × ℕ) → List (LoopInput F (K × O) × ℕ)) (items : List (LoopInput F (K × O) × ℕ) → List ((K × V) × ℕ)) (body : List (LoopInput F (K × O) × ℕ) → List ((K × O) × ℕ)) (items_respects : (xs ys : List (LoopInput F (K × O) × ℕ)) → Alike xs ys → Alike (items xs) (items ys)) (body_respects : (xs ys : List (LoopInput F (K × O) × ℕ)) → Alike xs ys → Alike (body xs) (body ys)) (rounds : ℕ) (first_seal : T) (body_seal : Pair T Round) (first_due : List T) (body_due : List (Pair T Round)) (charge : ℕ) (First : Run T In (LoopInput F (K × O)) → Type 0) (Body : Run (Pair T Round) (LoopInput F (K × O)) (K × O) → Type 0) where
  -- what the loop's body is fed in a round, from what the whole was fed
  round_fed : (laps : List (Lap T F (K × O))) (arrived fed : List (LoopInput F (K × O) × ℕ)) (t : T) (r : ℕ) → fed_to leq (map lap_step laps) t ≡ arrived → Alike arrived fed → HoldsAtRound leq body laps t r → Alike (fed_to (pair_leq leq) (body_steps laps) (pair_of t r)) (fixed fed ++ as_moving (after_rounds body fed r))
  round_fed laps arrived fed t r is a holds =
      Alike-trans holds.fed (subst (λ v. Alike (fixed v ++ as_moving (after_rounds body v r)) (fixed fed ++ as_moving (after_rounds body fed r))) (sym is)
      (Alike-append (Alike-fixed arrived fed a) (Alike-mapped Moving (after_rounds body arrived r) (after_rounds body fed r) (after_respects body body_respects arrived fed r a))))

  pub loop-inside : ((r : Run T In (LoopInput F (K × O))) → First r → Answers leq lub prep first_seal first_due r)
      → ((r : Run (Pair T Round) (LoopInput F (K × O)) (K × O)) → Body r → BodyInside (pair_leq leq) (pair_lub lub) pcmp kcmp vcmp items body_seal body_due charge r)
      → (run : Run T In (Round × (K × O))) (h : StandsByLinks (StandsQuietly First) (λ r. StandsByLaps Body rounds r × (body_seal.inner.0 ≡ 0)) run) → body_seal.outer ≡ first_seal
      → ((t : T) (r : ℕ) → r < rounds → IsTrue (leq body_seal.outer t) → NoneBelow leq t (map (λ d. d.outer) body_due) → HoldsAtRound leq body h.second_run.0.laps t r)
      → LoopInside leq lub pcmp kcmp vcmp prep items body rounds (lub first_seal body_seal.outer) (first_due ++ map (λ d. d.outer) body_due) charge run
  loop-inside answers inside run h level holds =
      let first_run : Run T In (LoopInput F (K × O)) = record { steps = map link_first h.links; before = run.before; base = h.first_base } in
      let loop : StandsByLaps Body rounds (record { steps = map link_second h.links; before = run.before; base = h.second_base }) = h.second_run.0 in
      let zero_round : body_seal.inner.0 ≡ 0 = h.second_run.1 in
      let b : BodyInside (pair_leq leq) (pair_lub lub) pcmp kcmp vcmp items body_seal body_due charge (record { steps = body_steps loop.laps; before = run.before * rounds; base = h.second_base }) = inside (record { steps = body_steps loop.laps; before = run.before * rounds; base = h.second_base }) loop.stands in
      let whole : lub first_seal body_seal.outer ≡ body_seal.outer = lub_level lattice first_seal body_seal.outer level ∙ sym level in
      let at_zero : body_seal ≡ pair_of body_seal.outer 0 = ap (λ n. pair_of body_seal.outer n) zero_round in
      record {
        inner = b.inner;
        times = b.times ∙ laps_times rounds loop.laps loop.each ∙ ap (λ ss. all_rounds rounds (times_of ss)) (sym loop.steps) ∙ ap (all_rounds rounds) (times_part link_whole link_second (λ _. refl) h.links ∙ ap times_of (sym h.steps));
        before = b.before;
        base = b.base ∙ no_base h.first_base h.second_base run.base 0 h.base h.first_run.base;
        fed = λ t r low over below.
            let own : IsTrue (leq body_seal.outer t) = subst (λ s. IsTrue (leq s t)) whole over in
            let outer : NoneBelow leq t (map (λ d. d.outer) body_due) = Every-append_back (λ d. leq d t ≡ false) first_due (map (λ d. d.outer) body_due) below in
            let came : Alike (made_to leq (map link_first h.links) t) (prep (fed_to leq (map link_first h.links) t)) = (quiet_answers leq lub prep first_seal first_due First answers first_run h.first_run).closed t (above_first lattice first_seal body_seal.outer t over) (Every-append_front (λ d. leq d t ≡ false) first_due (map (λ d. d.outer) body_due) below) in
            let arrived : fed_to leq (map lap_step loop.laps) t ≡ made_to leq (map link_first h.links) t = ap (λ ss. fed_to leq ss t) (sym loop.steps) ∙ sym (made_first leq h.links t) in
            let fed : prep (fed_to leq (map link_first h.links) t) ≡ prep (fed_to leq run.steps t) = ap prep (sym (ap (λ ss. fed_to leq ss t) h.steps ∙ fed_first leq h.links t)) in
            let round : Alike (fed_to (pair_leq leq) (body_steps loop.laps) (pair_of t r)) (fixed (prep (fed_to leq run.steps t)) ++ as_moving (after_rounds body (prep (fed_to leq run.steps t)) r)) = round_fed loop.laps (made_to leq (map link_first h.links) t) (prep (fed_to leq run.steps t)) t r arrived (Alike-trans came (Alike-is fed)) (holds t r low own outer) in
            Alike-trans (b.fed (pair_of t r) (seal_below leq body_seal t r zero_round own) (none_outer leq t r body_due outer)) (items_respects (fed_to (pair_leq leq) (body_steps loop.laps) (pair_of t r)) (fixed (prep (fed_to leq run.steps t)) ++ as_moving (after_rounds body (prep (fed_to leq run.steps t)) r)) round);
        batches = b.batches;
        charges = subst (λ cs. AreSums rounds cs (charges_of b.inner.steps)) (ap charges_of (sym loop.steps) ∙ links_free h.links (quiet_free First first_run h.first_run) ∙ ap charges_of (sym h.steps)) (subst (AreSums rounds (charges_of (map lap_step loop.laps))) (sym b.charges) (laps_sums rounds loop.laps loop.each));
        each = subst (λ s. EachCharged (pair_leq leq) (pair_lub lub) pcmp kcmp vcmp s (take b.inner.before b.inner.steps) [] (drop b.inner.before b.inner.steps)) (at_zero ∙ ap (λ o. pair_of o 0) (sym whole)) b.each;
        charged_is = b.charged_is ∙ ap (λ s. b.inner.base + charged (pair_leq leq) (pair_lub lub) pcmp kcmp vcmp s (take b.inner.before b.inner.steps) [] (drop b.inner.before b.inner.steps)) (at_zero ∙ ap (λ o. pair_of o 0) (sym whole));
      }
