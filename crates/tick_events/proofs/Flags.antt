-- A flag of the clock, which is a TimingEvent's.
use Rattle.std.proofs.Common.{◌≡◌, ◌<◌, ℕ, sym, ◌∙◌, ap, subst, false, List, length, map, set, Some, All}
use Rattle.std.specs.List.{slice_get}
use Rattle.std.specs.Option.{option_map, option_map_or}
use Rattle.std.proofs.lemmas.List.{map-set}
use Rattle.std.proofs.lemmas.List.Elements.{All-set}
use Rattle.std.proofs.lemmas.Option.{slice_get-map, slice_get_within, get_or_from_slice_get}
use Rattle.latches.specs.Latches.{Latch, clear_in}
use Rattle.tick_events.specs.Countdowns.{Countdown}
use Rattle.tick_events.specs.Kept as kept
use Rattle.tick_events.specs.Running.{IsRunning, kept_timer}

abbrev pub nowhere : Latch
nowhere = record { group = 0; is_set = false }

module _ (cs : List Countdown) (ls now : List Latch) (event : ℕ) (l : Latch) (found : slice_get ls event ≡ Some l) (cleared : now ≡ set ls event (clear_in l.group)) where
  pub started_kept : map (kept_timer cs) now ≡ kept.timers_after event (map (kept_timer cs) ls)
  started_kept =
      let ks = map (kept_timer cs) ls in
      ap (map (kept_timer cs)) cleared ∙ map-set (kept_timer cs) ls event (clear_in l.group)
      ∙ sym (ap (λ o. option_map_or (λ (k : kept.Timer). set ks event (kept.started k)) o ks) (slice_get-map (kept_timer cs) ls event ∙ ap (option_map (kept_timer cs)) found))

  pub still_running : IsRunning cs ls → IsRunning cs now
  still_running before = record {
    fit = record { within = before.fit.within; there = subst (All (λ (k : Latch). k.group < length cs)) (sym cleared) (All-set (λ (k : Latch). k.group < length cs) ls event (clear_in l.group) own before.fit.there) };
    going = before.going;
  }
    where
      own : l.group < length cs
      own = subst (λ (k : Latch). k.group < length cs) (get_or_from_slice_get ls event l l found) (before.fit.there event l (slice_get_within ls event l found))
