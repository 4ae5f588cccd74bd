use Rattle.std.proofs.Common.{◌∙◌, ◌⊎◌, ℕ, inl, inr, [], length, map, subst, sym, ap, arith, Contains}
use Rattle.std.specs.Option.{option_map}
use Rattle.std.proofs.lemmas.List.{length-map}
use Rattle.std.proofs.lemmas.List.Sums.{count_by-le-length}
use Rattle.latches.specs.Latches.{IsNewlySet, Latch, is_clear}
use Rattle.tick_events.specs.Kept.{IsRung, Kept, after_tick, is_due}
use Rattle.tick_events.specs.Running.{kept_timer}
use Rattle.tick_events.proofs.Anew.{fit_ticked, kept_ticked, same_due}
use Rattle.tick_events.proofs.clock.Clock.tick_and_tell.Goals as goal

pub ring_and_tell-requires-clause-fit : goal.ring_and_tell-requires-clause-fit
ring_and_tell-requires-clause-fit c = fit_ticked c.self.inside.countdowns c.tick.new.self c.self.inside.pending c.tick.ensures c.self.invariant

pub ring_and_tell-requires-clause-named : goal.ring_and_tell-requires-clause-named
ring_and_tell-requires-clause-named c = c.requires.named ∙ ap (λ (k : Kept). length k.timers) (sym c.self.view_is) ∙ length-map c.self.inside.pending (kept_timer c.self.inside.countdowns)

pub ring_and_tell-requires-clause-room : goal.ring_and_tell-requires-clause-room
ring_and_tell-requires-clause-room c =
    let ls = c.self.inside.pending in
    omega (arith, count_by-le-length is_clear ls, c.requires.room, ap (λ (k : Kept). length k.timers) c.self.view_is, length-map ls (kept_timer c.self.inside.countdowns), c.clear.ensures.capacity, ap length c.clear.ensures.items)

pub returns-clause-kept : goal.returns-clause-kept
returns-clause-kept c =
    ap (λ ks. record { timers = ks; unstarted = c.self.inside.unstarted.items })
    (kept_ticked c.self.inside.countdowns c.tick.new.self c.ring_and_tell.new.countdowns c.self.inside.pending c.ring_and_tell.new.flags c.tick.ensures c.self.invariant c.ring_and_tell.ensures.running c.ring_and_tell.ensures.settled)
    ∙ ap after_tick c.self.view_is

pub returns-clause-rung : goal.returns-clause-rung
returns-clause-rung c = λ event name was now named.
    c.ring_and_tell.ensures.told event name (sym (same_due c.self.inside.countdowns c.self.inside.pending event) ∙ ap (is_due event) c.self.view_is ∙ was)
    (sym (same_due c.ring_and_tell.new.countdowns c.ring_and_tell.new.flags event) ∙ now) named

pub returns-clause-only : goal.returns-clause-only
returns-clause-only c = λ name among. of_now name (c.ring_and_tell.ensures.only name among)
  where
    nothing_in : (name : ℕ) → Contains {X = ℕ} [] name → ⊥
    nothing_in name among = let less = among.1 in omega arith

    of_now : (name : ℕ) → Contains c.clear.new.self.items name ⊎ IsNewlySet c.self.inside.pending c.ring_and_tell.new.flags c.args.names.now name → IsRung c.args.names.now c.args.self.now (record { timers = map (kept_timer c.ring_and_tell.new.countdowns) c.ring_and_tell.new.flags; unstarted = c.self.inside.unstarted.items }) name
    of_now name (inl before) = absurd (nothing_in name (subst (λ xs. Contains xs name) c.clear.ensures.items before))
    of_now name (inr newly) = record {
      event = newly.at;
      named = newly.named;
      was = sym (ap (is_due newly.at) c.self.view_is) ∙ same_due c.self.inside.countdowns c.self.inside.pending newly.at ∙ ap (option_map (λ (l : Latch). l.is_set)) newly.was;
      is = same_due c.ring_and_tell.new.countdowns c.ring_and_tell.new.flags newly.at ∙ ap (option_map (λ (l : Latch). l.is_set)) newly.is;
    }
