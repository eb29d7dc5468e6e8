-- Operators with a bypass: part of what comes in goes past an operator, and part into it.
use Rattle.std.specs.Prelude.{◌≡◌, ℕ, Bool, true, false, List, [], ◌∷◌, ◌++◌, map, if◌then◌else◌, refl}
use Rattle.std.proofs.lemmas.List.{map-append}
use Rattle.weighted.specs.Alike.{Alike, Alike-refl, Alike-sym, Alike-trans, Alike-append, Alike-swap}
use Rattle.flow_core.specs.Linear.{IsLinear}
use Rattle.flow_core.specs.Lists.{Every-append}
use Rattle.flow_core.specs.Runs.{Step, Run, Every, NoneAbove, Answers, fed_to, made_to, times_of, continued, sealed, empty_run}
use Rattle.flow_core.specs.PartLaws.{times_part, length_part}

-- a step: what is handed to the operator inside, what that gives, and what it is charged
pub record Route (T A M O : Type 0) : Type 0 where
  pub time : T
  pub fed : List (A × ℕ)
  pub handed : List (M × ℕ)
  pub given : List (O × ℕ)
  pub made : List (O × ℕ)
  pub charge : ℕ

abbrev pub route_whole : {T A M O : Type 0} → Route T A M O → Step T A O
route_whole r = record { time = r.time; fed = r.fed; made = r.made; charge = r.charge }

abbrev pub route_inner : {T A M O : Type 0} → Route T A M O → Step T M O
route_inner r = record { time = r.time; fed = r.handed; made = r.given; charge = r.charge }

-- what is handed is one function of what is fed, and what is made is another one of it and what the operator inside
-- gives
pub record IsRoute {T A M O : Type 0} (past : List (A × ℕ) → List (O × ℕ)) (into : List (A × ℕ) → List (M × ℕ)) (r : Route T A M O) : Type 0 where
  pub handed : Alike r.handed (into r.fed)
  pub made : Alike r.made (past r.fed ++ r.given)

-- the operator inside stands for the run of what is handed to it
pub record StandsByRoutes {T A M O : Type 0} (past : List (A × ℕ) → List (O × ℕ)) (into : List (A × ℕ) → List (M × ℕ)) (stands : Run T M O → Type 0) (run : Run T A O) : Type 0 where
  pub routes : List (Route T A M O)
  pub each : Every (IsRoute past into) routes
  pub steps : run.steps ≡ map route_whole routes
  pub inner : stands (record { steps = map route_inner routes; before = run.before; base = run.base })

module _ {T A M O : Type 0} (past : List (A × ℕ) → List (O × ℕ)) (into : List (A × ℕ) → List (M × ℕ)) where
  pub routes_fresh : (stands : Run T M O → Type 0) → stands empty_run → StandsByRoutes past into stands empty_run
  routes_fresh stands h = record { routes = []; each = tt; steps = refl; inner = h }

  -- where no step of the whole is at or above a time, none of the operator inside is
  pub routes_above : (leq : T → T → Bool) (t : T) (routes : List (Route T A M O)) (steps : List (Step T A O)) → steps ≡ map route_whole routes → NoneAbove leq t (times_of steps) → NoneAbove leq t (times_of (map route_inner routes))
  routes_above leq t routes steps is above = rw (times_part route_whole route_inner (λ _. refl) routes, ← is) above

  -- a step of the operator inside
  pub routes_continued : (leq : T → T → Bool) (old new : Run T M O → Type 0) (run : Run T A O) (r : Route T A M O) → IsRoute past into r → ((q : Run T M O) → old q → NoneAbove leq r.time (times_of q.steps) → new (continued q r.time r.handed r.given r.charge)) → StandsByRoutes past into old run → NoneAbove leq r.time (times_of run.steps) → StandsByRoutes past into new (continued run r.time r.fed r.made r.charge)
  routes_continued leq old new run r is step h above =
      let inner_above : NoneAbove leq r.time (times_of (map route_inner h.routes)) = routes_above leq r.time h.routes run.steps h.steps above in
      record {
        routes = h.routes ++ r ∷ [];
        each = Every-append (IsRoute past into) h.routes (r ∷ []) h.each (is, tt);
        steps = rw (h.steps, map-append route_whole h.routes (r ∷ [])) refl;
        inner = rw (map-append route_inner h.routes (r ∷ [])) (step _ h.inner inner_above);
      }

  -- a seal of the operator inside
  pub routes_sealed : (old new : Run T M O → Type 0) (run : Run T A O) (charge : ℕ) → ((q : Run T M O) → old q → new (sealed q charge)) → StandsByRoutes past into old run → StandsByRoutes past into new (sealed run charge)
  routes_sealed old new run charge seal h = record {
    routes = h.routes;
    each = h.each;
    steps = h.steps;
    inner = rw (h.steps, ← length_part route_whole route_inner h.routes) (seal _ h.inner);
  }

module _ {T A M O : Type 0} (past : List (A × ℕ) → List (O × ℕ)) (into : List (A × ℕ) → List (M × ℕ)) (past_linear : IsLinear past) (into_linear : IsLinear into) where
  -- a step that is fed nothing where nothing is due
  pub routes_idle : (leq : T → T → Bool) (stands : Run T M O → Type 0) (run : Run T A O) (t : T) → ((q : Run T M O) → stands q → NoneAbove leq t (times_of q.steps) → stands (continued q t [] [] 0)) → StandsByRoutes past into stands run → NoneAbove leq t (times_of run.steps) → StandsByRoutes past into stands (continued run t [] [] 0)
  routes_idle leq stands run t idle h above =
      let r : Route T A M O = record { time = t; fed = []; handed = []; given = []; made = []; charge = 0 } in
      let is : IsRoute past into r = record { handed = rw into_linear.nothing (Alike-refl []); made = rw past_linear.nothing (Alike-refl []) } in
      routes_continued past into leq stands stands run r is idle h above

  handed_part : (b : Bool) (r : Route T A M O) → IsRoute past into r → Alike (if b then r.handed else []) (into (if b then r.fed else []))
  handed_part true r is = is.handed
  handed_part false r is = rw into_linear.nothing (Alike-refl [])

  made_part : (b : Bool) (r : Route T A M O) → IsRoute past into r → Alike (if b then r.made else []) (past (if b then r.fed else []) ++ (if b then r.given else []))
  made_part true r is = is.made
  made_part false r is = rw past_linear.nothing (Alike-refl [])

  -- what is handed up to a time is the function of what was fed
  routes_handed : (leq : T → T → Bool) (rs : List (Route T A M O)) (t : T) → Every (IsRoute past into) rs → Alike (fed_to leq (map route_inner rs) t) (into (fed_to leq (map route_whole rs) t))
  routes_handed leq [] t h = rw into_linear.nothing (Alike-refl [])
  routes_handed leq (r ∷ rs) t h = Alike-trans (Alike-append (handed_part (leq r.time t) r h.0) (routes_handed leq rs t h.1)) (Alike-sym (into_linear.sum (if leq r.time t then r.fed else []) (fed_to leq (map route_whole rs) t)))

  -- what is made up to a time, of what was fed and what the operator inside gave
  routes_made : (leq : T → T → Bool) (rs : List (Route T A M O)) (t : T) → Every (IsRoute past into) rs → Alike (made_to leq (map route_whole rs) t) (past (fed_to leq (map route_whole rs) t) ++ made_to leq (map route_inner rs) t)
  routes_made leq [] t h = rw past_linear.nothing (Alike-refl [])
  routes_made leq (r ∷ rs) t h =
      let fed : List (A × ℕ) = if leq r.time t then r.fed else [] in
      let given : List (O × ℕ) = if leq r.time t then r.given else [] in
      Alike-trans (Alike-append (made_part (leq r.time t) r h.0) (routes_made leq rs t h.1))
      (Alike-trans (Alike-swap (past fed) given (past (fed_to leq (map route_whole rs) t)) (made_to leq (map route_inner rs) t))
      (Alike-append (Alike-sym (past_linear.sum fed (fed_to leq (map route_whole rs) t))) (Alike-refl (given ++ made_to leq (map route_inner rs) t))))

  pub routes_answers : (leq : T → T → Bool) (lub : T → T → T) (f : List (M × ℕ) → List (O × ℕ)) → ((xs ys : List (M × ℕ)) → Alike xs ys → Alike (f xs) (f ys)) → (seal : T) (due : List T) (stands : Run T M O → Type 0) → ((q : Run T M O) → stands q → Answers leq lub f seal due q) → (run : Run T A O) → StandsByRoutes past into stands run → Answers leq lub (λ xs. past xs ++ f (into xs)) seal due run
  routes_answers leq lub f respects seal due stands answers run h =
      let inner : Run T M O = record { steps = map route_inner h.routes; before = run.before; base = run.base } in
      let a : Answers leq lub f seal due inner = answers inner h.inner in
      let times : times_of inner.steps ≡ times_of run.steps = rw h.steps (times_part route_whole route_inner (λ _. refl) h.routes) in
      record {
        closed = λ t over below.
            let q : Alike (made_to leq inner.steps t) (f (into (fed_to leq (map route_whole h.routes) t))) = Alike-trans (a.closed t over below) (respects _ _ (routes_handed leq h.routes t h.each)) in
            rw h.steps (Alike-trans (routes_made leq h.routes t h.each) (Alike-append (Alike-refl (past (fed_to leq (map route_whole h.routes) t))) q));
        lubs = rw times at a.lubs;
        ahead = rw times at a.ahead;
      }
