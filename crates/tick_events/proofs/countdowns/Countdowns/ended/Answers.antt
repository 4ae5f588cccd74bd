use Rattle.std.proofs.Common.{◌≡◌, ℕ, ◌<◌, ◌≤◌, List, sym, ◌∙◌, ap, subst, length, get_or, arith, Some}
use Rattle.std.specs.List.{slice_get, All}
use Rattle.std.specs.Vec.{vec_len}
use Rattle.std.proofs.lemmas.Bool.{eqb-false}
use Rattle.std.proofs.lemmas.List.{length-map}
use Rattle.tick_events.specs.declared.countdown.Countdown as kept
use Rattle.tick_events.specs.Countdowns.{Countdown, seen, all_seen, ticks_between}
use Rattle.tick_events.specs.Winners.{left_at, winner_at, IsTree}
use Rattle.tick_events.proofs.Seen.{seen_left}
use Rattle.tick_events.proofs.Tree.{winner_is_place, none_ended, one_ended}
use Rattle.tick_events.proofs.countdowns.Countdowns.ended.Goals as goal

-- the countdown that goes on from the root
record IsFirst (now : ℕ) (cs : List kept.Countdown) (best : List ℕ) (place left : ℕ) : Type 0 where
  within : place < length (all_seen now cs)
  won : place ≡ winner_at best 1
  is_left : left_at (all_seen now cs) place ≡ left

first : (now : ℕ) (cs : List kept.Countdown) (best : List ℕ) (place left : ℕ) (c : kept.Countdown) → IsTree (all_seen now cs) best → 0 < length cs → place ≡ winner_at best 1 → c ≡ get_or cs place c → left ≡ ticks_between now c.end → IsFirst now cs best place left
first now cs best place left c tree some won found is_left =
    let count = tree.count in
    let same = length-map cs (seen now) in
    let root = winner_is_place best 1 tree.places (omega arith) in
    let within : place < length cs = omega arith in
    record {
      within = omega arith;
      won = won;
      is_left = seen_left now cs place c within ∙ ap (λ (x : kept.Countdown). ticks_between now x.end) (sym found) ∙ sym is_left;
    }

pub returns-then-left-gt0-clause-none : goal.returns-then-left-gt0-clause-none
returns-then-left-gt0-clause-none c =
    let some = eqb-false (vec_len c.self.inside.countdowns) 0 (sym c.if-is_empty.ensures) in
    let root = first c.self.inside.ticks c.self.inside.countdowns.items c.self.inside.best.items c.winner-first.result c.left.result c.index.result.now c.self.invariant (omega arith) (c.winner-first.ensures ∙ ap (λ best. winner_at best 1) c.deref.ensures.value) c.index.ensures c.left.ensures in
    let left = subst (λ p. left_at (all_seen c.self.inside.ticks c.self.inside.countdowns.items) p ≡ c.left.result) root.won root.is_left in
    subst (All (λ c. 1 ≤ c.left)) c.self.view_is (none_ended _ _ c.self.invariant (omega arith))

pub returns-clause-some : goal.returns-clause-some
returns-clause-some c =
    let some = eqb-false (vec_len c.self.inside.countdowns) 0 (sym c.if-is_empty.ensures) in
    let root = first c.self.inside.ticks c.self.inside.countdowns.items c.self.inside.best.items c.winner-first.result c.left.result c.index.result.now c.self.invariant (omega arith) (c.winner-first.ensures ∙ ap (λ best. winner_at best 1) c.deref.ensures.value) c.index.ensures c.left.ensures in
    subst (λ cs. (x : Countdown) × (slice_get cs c.winner-first.result ≡ Some x) × (x.left ≡ 0)) c.self.view_is (one_ended _ _ root.within (root.is_left ∙ omega arith))
