-- What is seen of countdowns that are kept by their ends.
use Rattle.std.proofs.Common.{◌≡◌, ℕ, zero, suc, ◌+◌, ◌-◌, ◌%◌, ◌^◌, ◌<◌, ◌≤◌, List, [], ◌∷◌, length, map, get_or, refl, ap, arith, Some}
use Rattle.std.specs.List.{slice_get, All}
use Rattle.std.proofs.lemmas.Option.{same_Some}
use Rattle.std.proofs.lemmas.List.Elements.{All-head, All-tail}
use Rattle.tick_events.specs.Countdowns.{Countdown, one_less, ticks_between, seen, all_seen}
use Rattle.tick_events.specs.Winners.{left_at}
use Rattle.tick_events.specs.declared.countdown.Countdown as kept

one_tick : (now end : ℕ) → now < 2 ^ 64 → 1 ≤ ticks_between now end → ticks_between ((now + 1) % 2 ^ 64) end ≡ ticks_between now end - 1
one_tick now end within more = omega arith

-- a tick takes one from what is left of each
pub all_tick : (now : ℕ) (cs : List kept.Countdown) → now < 2 ^ 64 → All (λ c. 1 ≤ c.left) (all_seen now cs) → all_seen ((now + 1) % 2 ^ 64) cs ≡ map one_less (all_seen now cs)
all_tick now [] within more = refl
all_tick now (c ∷ cs) within more =
    let first = one_tick now c.end within (All-head (λ c. 1 ≤ c.left) (seen now c) (all_seen now cs) more) in
    let others = all_tick now cs within (All-tail (λ c. 1 ≤ c.left) (seen now c) (all_seen now cs) more) in
    λ i. record { period = c.period; left = first i } ∷ others i

pub seen_left : (now : ℕ) (cs : List kept.Countdown) (place : ℕ) (d : kept.Countdown) → place < length cs → left_at (all_seen now cs) place ≡ ticks_between now (get_or cs place d).end
seen_left now [] place d within = absurd (omega arith)
seen_left now (c ∷ cs) zero d within = refl
seen_left now (c ∷ cs) (suc place) d within = seen_left now cs place d (omega arith)

pub seen_period : (now : ℕ) (cs : List kept.Countdown) (place : ℕ) (d : kept.Countdown) (c : Countdown) → slice_get (all_seen now cs) place ≡ Some c → (get_or cs place d).period ≡ c.period
seen_period now [] place d c found = absurd (cc found)
seen_period now (x ∷ cs) zero d c found = ap (λ (c : Countdown). c.period) (same_Some (seen now x) c found)
seen_period now (x ∷ cs) (suc place) d c found = seen_period now cs place d c found
