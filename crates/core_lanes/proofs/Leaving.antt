-- Turns in a row without an entry.
use Rattle.std.proofs.Common.{◌≡◌, ◌≤◌, ◌<◌, ◌+◌, ◌*◌, ◌⊎◌, ◌||◌, ℕ, suc, Bool, true, false, if◌then◌else◌, refl, sym, ◌∙◌, ap, subst, inl, inr, ⊎_elim, arith, List, [], length}
use mathlib.Core.Logic.{dite}
use native.Mathlib.Decide.{ℕ_discrete}
use Rattle.bus_semantics.specs.Common.{length_push, same_Some, Plan}
use Rattle.port_objects.specs.Benches.{Work, IsFurther}
use Rattle.task_machine.specs.declared.instr.TaskSet.{TaskSet}
use Rattle.task_slots.specs.declared.slot.Slot.{Slot}
use Rattle.core_turn.specs.Cores.{CoreState, looks_in}
use Rattle.core_turn.specs.Turning.{NothingFound, IsContended}
use Rattle.cross_core_table.specs.declared.views.View.{View}
use Rattle.cross_core_table.specs.OpenRounds.{Sitting, told_of}
use Rattle.core_lanes.specs.declared.stay.Stay.{Stay}
use Rattle.core_lanes.specs.Leaving.{IsEmptyTurn, EmptyTurns, none, more, through, looks_due, nothing_done, Counts, IsTrueOf, MayLeave}
use Rattle.core_lanes.specs.Benching.{IsTaken}
use Rattle.core_lanes.proofs.Taken.{none_taken, lost_taken}

-- ---- one turn

further_counts : (looks lost : ℕ) (before after : Sitting) → IsFurther (told_of before).work (told_of after).work [] looks lost
    → (before.view.looks + looks ≤ after.view.looks) × (before.view.tries + lost ≤ after.view.tries)
further_counts looks lost before after further =
    let same = same_Some _ _ further.told in
    let held : after.view.looks ≡ further.work.not_yet = ap (λ (w : Work). w.not_yet) same in
    let missed : after.view.tries ≡ further.work.contended = ap (λ (w : Work). w.contended) same in
    (omega (arith, held, further.not_yet), omega (arith, missed, further.contended))

module _ (p : Plan) (t : TaskSet) (old turned : CoreState) (before after : Sitting) where
  -- each of so many looks answered NotYet
  pub nothing_said : (few looks : ℕ) → NothingFound p t few old turned (told_of before) (told_of after) → IsFurther (told_of before).work (told_of after).work [] looks 0 → IsEmptyTurn looks before.view after.view
  nothing_said few looks nothing further =
      let counts = further_counts looks 0 before after further in
      let held = counts.0 in
      let missed = counts.1 in
      record {
        made = (none_taken p t old turned before after few nothing).1;
        looked = omega (arith, held);
        tried = omega (arith, missed);
        cause = inl held;
      }

  -- a word named another core
  pub another_held : (looks object : ℕ) → IsContended p t old turned (told_of before) (told_of after) object → IsEmptyTurn looks before.view after.view
  another_held looks object lost =
      let counts = further_counts 0 1 before after lost.work in
      let held = counts.0 in
      let missed = counts.1 in
      record {
        made = (lost_taken p t old turned before after object lost).1;
        looked = omega (arith, held);
        tried = omega (arith, missed);
        cause = inr (omega (arith, missed));
      }

-- it looked, however often
pub any_looks : (looks : ℕ) (a b : View) → IsEmptyTurn looks a b → IsEmptyTurn 0 a b
any_looks looks a b turn = record { made = turn.made; looked = turn.looked; tried = turn.tried; cause = inl (let far = turn.looked in omega (arith, far)) }

-- where not all looks are due none is counted
pub not_due : (p : Plan) (slots : List Slot) (all : Bool) → all ≡ false → 0 ≡ looks_due p slots all
not_due p slots all is = sym (ap (λ (b : Bool). if b then looks_in p slots else 0) is)

-- ---- what a core did

-- it counts a further turn
pub counts_on : (p : Plan) (slots : List Slot) (old new : Stay) (v w : View) (made all : Bool) → new.made ≡ (if made then old.made + 1 else old.made) → new.quiet ≡ (if made then 0 else old.quiet + 1)
    → new.whole ≡ (if made then false else (all || old.whole)) → (made ≡ false → IsEmptyTurn (looks_due p slots all) v w) → Counts p slots old new v w made
counts_on p slots old new v w true all entries turns whole looked = record { made = omega (arith, entries); quiet = turns; whole = whole }
counts_on p slots old new v w false true entries turns whole looked = record {
  made = entries;
  quiet = omega (arith, turns);
  empty = any_looks (looks_in p slots) v w (looked refl);
  whole = inr (whole, looked refl);
}
counts_on p slots old new v w false false entries turns whole looked = record { made = entries; quiet = omega (arith, turns); empty = looked refl; whole = inl whole }

-- after the turn in which all looks are due it is known that one of the row looked at all slots
pub known_due : (old new : Stay) (made all : Bool) → new.whole ≡ (if made then false else (all || old.whole)) → made ≡ false → all ≡ true → new.whole ≡ true
known_due old new made all whole empty due = whole ∙ ap (λ (b : Bool). if b then false else (all || old.whole)) empty ∙ ap (λ (b : Bool). b || old.whole) due

-- so from then on until the next entry
pub known_on : (p : Plan) (slots : List Slot) (old new : Stay) (v w : View) (made : Bool) → Counts p slots old new v w made → (made ≡ false → old.quiet ≡ 32 → new.whole ≡ true)
    → (32 < old.quiet → old.whole ≡ true) → 32 < new.quiet → new.whole ≡ true
known_on p slots old new v w true counts due known far = absurd (let row = counts.quiet in omega (arith, row, far))
known_on p slots old new v w false counts due known far = dite (ℕ_discrete old.quiet 32)
    (λ is. due refl is)
    (λ ne. ⊎_elim (λ same. same ∙ known (let next = counts.quiet in omega (arith, far, next, ne))) (λ one. one.0) counts.whole)

-- nothing is true of a seat that has made nothing
pub nothing_true : (p : Plan) (slots : List Slot) (s : Stay) (v : View) → v.made ≡ [] → s ≡ nothing_done → IsTrueOf p slots s v
nothing_true p slots s v empty is = subst (λ (x : Stay). IsTrueOf p slots x v) (sym is) (record { made = ap length empty; from = v; turns = none })

-- what was true of its seat is so after a further turn
pub true_on : (p : Plan) (t : TaskSet) (old new : CoreState) (before after : Stay) (v w : View) (made : Bool) → IsTaken p t old new v.made w.made made → Counts p old.slots before after v w made
    → IsTrueOf p old.slots before v → IsTrueOf p new.slots after w
true_on p t old new before after v w true taken counts so = record {
  made = ap length taken.added ∙ length_push v.made taken.made ∙ (let one = counts.made in omega (arith, one, so.made));
  from = w;
  turns = subst (λ n. EmptyTurns p new.slots w n after.whole w) (sym counts.quiet) (subst (λ (b : Bool). EmptyTurns p new.slots w 0 b w) (sym counts.whole) none);
}
true_on p t old new before after v w false taken counts so = subst (λ (c : CoreState). IsTrueOf p c.slots after w) (sym taken.0) (record {
  made = ap length taken.1 ∙ so.made ∙ sym counts.made;
  from = so.from;
  turns = subst (λ n. EmptyTurns p old.slots so.from n after.whole w) (sym counts.quiet) (⊎_elim
      (λ same. subst (λ (b : Bool). EmptyTurns p old.slots so.from (suc before.quiet) b w) (sym same) (more before.quiet before.whole v w so.turns counts.empty))
      (λ one. subst (λ (b : Bool). EmptyTurns p old.slots so.from (suc before.quiet) b w) (sym one.0) (through before.quiet before.whole v w so.turns one.1))
      counts.whole);
})

-- no core makes more turns than it may
pub stay_on : (p : Plan) (slots : List Slot) (old new : Stay) (v w : View) (made : Bool) (turns : ℕ) → Counts p slots old new v w made → old.made < 1024 → old.quiet < 64 → turns ≤ 64 * old.made + old.quiet
    → (new.made ≤ 1024) × (new.quiet ≤ 64) × (turns + 1 ≤ 64 * new.made + new.quiet)
stay_on p slots old new v w true turns counts few short count = let entries = counts.made in let row = counts.quiet in (omega (arith, few, entries), omega (arith, row), omega (arith, short, entries, row, count))
stay_on p slots old new v w false turns counts few short count = let entries = counts.made in let row = counts.quiet in (omega (arith, few, entries), omega (arith, short, row), omega (arith, entries, row, count))

-- ---- a core leaves

pub leaves : (s : Stay) → (32 < s.quiet → s.whole ≡ true) → (s.made ≡ 1024) ⊎ (s.quiet ≡ 64) → MayLeave s
leaves s known why = ⊎_elim (λ all. inl all) (λ long. inr (long, known (omega (arith, long)))) why

-- at its last turn at the latest
pub turned_out : (made quiet turns : ℕ) → made ≤ 1024 → quiet ≤ 64 → turns ≤ 64 * made + quiet → 65536 ≤ turns → (made ≡ 1024) ⊎ (quiet ≡ 64)
turned_out made quiet turns few rests count all = dite (ℕ_discrete made 1024) (λ is. inl is) (λ ne. inr (omega (arith, few, rests, count, all, ne)))

pub stays_no_more : (made quiet : ℕ) → made ≤ 1024 → quiet ≤ 64 → (1024 ≤ made) ⊎ (64 ≤ quiet) → (made ≡ 1024) ⊎ (quiet ≡ 64)
stays_no_more made quiet few rests why = ⊎_elim (λ far. inl (omega (arith, few, far))) (λ long. inr (omega (arith, rests, long))) why
