-- What feeds that were read give may be called.
use Rattle.std.proofs.Common.{◌≡◌, ◌<◌, ◌≤◌, ⊎_elim, ℕ, refl, ap, arith, List, [], map, length, true}
use Rattle.bus_semantics.specs.Common.{option_map_or, All, cases_lt, slice_get_past, All-nil, wish_fits, Plan, Wanted, to_tick, wanted_of}
use Rattle.std.proofs.lemmas.List.Elements.{All-same}
use Rattle.bus_semantics.specs.declared.entries.Actor.TheVariants.{Env}
use Rattle.feed_queue.specs.declared.feeds.Feeds.{Feeds}
use Rattle.feed_queue.specs.Given.{may_give}
use Rattle.script_reading.proofs.Carrying.{call_fits}
use Rattle.live_lanes.specs.Drawn.{wanted_at}

given_fits : (p : Plan) (w : Wanted) → may_give p w ≡ true → wish_fits p Env w ≡ true
given_fits p to_tick may = refl
given_fits p w may = call_fits p w may

no_feed : (feeds : Feeds) (f : ℕ) → length feeds.wishes.items ≤ f → wanted_at feeds f ≡ []
no_feed feeds f past = ap (λ o. map wanted_of (option_map_or (λ v. v.items) o [])) (slice_get_past feeds.wishes.items f past)

pub all_fit : (p : Plan) (feeds : Feeds) → length feeds.wishes.items ≡ 4 → ((f : ℕ) → f < 4 → All (λ w. may_give p w ≡ true) (wanted_at feeds f)) → (f : ℕ) → All (λ w. wish_fits p Env w ≡ true) (wanted_at feeds f)
all_fit p feeds four given f = ⊎_elim
    (λ less. λ k d within. given_fits p _ (given f less k d within))
    (λ past. All-same (λ w. wish_fits p Env w ≡ true) (wanted_at feeds f) [] (no_feed feeds f (omega (arith, past, four))) (All-nil (λ w. wish_fits p Env w ≡ true)))
    (cases_lt f 4)
