-- A search for a key that is there finds it.
use Rattle.std.proofs.Common.{Err}
use Rattle.std.specs.Cmp.{Equal-is}
use Rattle.std.specs.Ordering.{is_eq}
use Rattle.aggregate_views.proofs.Places.{found_at, search_is}
use Rattle.aggregate_views.proofs.codes.place_of.Goals as goal

pub returns-in-Err-clause-within : goal.returns-in-Err-clause-within
returns-in-Err-clause-within g c =
    let f = found_at (λ k. is_eq (g.K.Ord.cmp c.args.key k)) c.args.keys.now c.requires.there in
    absurd (search_is g.K.Ord.cmp g.met.K.Ord.total c.args.keys.now c.requires.rise c.args.key f.0 f.1 (λ d. (Equal-is (g.K.Ord.cmp c.args.key _)).0 (f.2 d)) (Err c.in-Err.place) c.in-Err.ensures.position c.in-Err.ensures.bound)

pub returns-in-Err-clause-place : goal.returns-in-Err-clause-place
returns-in-Err-clause-place g c =
    let f = found_at (λ k. is_eq (g.K.Ord.cmp c.args.key k)) c.args.keys.now c.requires.there in
    λ d. absurd (search_is g.K.Ord.cmp g.met.K.Ord.total c.args.keys.now c.requires.rise c.args.key f.0 f.1 (λ e. (Equal-is (g.K.Ord.cmp c.args.key _)).0 (f.2 e)) (Err c.in-Err.place) c.in-Err.ensures.position c.in-Err.ensures.bound)
