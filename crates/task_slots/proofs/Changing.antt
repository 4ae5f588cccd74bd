-- A task that stands for a history stands for a further entry too, by what the entry is to it.
use Rattle.std.proofs.Common.{◌≡◌, ℕ, Bool, true, false, ◌&&◌, ◌||◌, refl, sym, ◌∙◌, ap, subst, List, [], ◌∷◌, Option, Some, None}
use Rattle.std.specs.Prelude.{option_and_then, option_map}
use Rattle.bus_semantics.specs.Common.{and_right, false≢true, or_right, Value, ActKey, same_key, Plan, History, is_over, is_end, is_of, runs, direct_key, accepted_point}
use Rattle.bus_laws.specs.Common.{Deed, Entry}
use Rattle.bus_semantics.specs.declared.entries.Deed.TheVariants as deed
use Rattle.history_laws.proofs.Keys.{begins, runs_other}
use Rattle.task_machine.specs.declared.instr.TaskSet.{TaskSet}
use Rattle.task_machine.specs.Standing.{Standing}
use Rattle.task_machine.specs.Frames.{Stands}
use Rattle.task_slots.specs.Common.{Call, Activity, Free, Runs, Calls, Serves, call_at, call_in, is_key_of, IsRunning, IsCalled, IsActive, StandsFor, TaskStands, Fed}
use Rattle.task_slots.specs.Standing.{IsHeldBack, ActivityStands}
use Rattle.task_slots.proofs.Basics.{same_keys, key_same}
use Rattle.task_slots.proofs.Facts.{CallIs, call_is}
use Rattle.task_slots.proofs.Histories.{entry_by, asked_mine, asked_other, answered_free, free_on, freed_now, ended_mine, ended_other, ended_now, frame_on, frame_begun, frame_fed}
use Rattle.task_slots.proofs.Begun.{direct_own, direct_apart}

-- nothing direct is called where no call is made
pub uncalled : (p : Plan) (k : ActKey) (d : Deed) → call_in p k d ≡ None → option_and_then (direct_key p) (accepted_point d) ≡ None
uncalled p k d none = by_point (accepted_point d) none
  where
    by_key : (o : Option ActKey) (c : ActKey → Call) → option_map c o ≡ None → o ≡ None
    by_key None c none = refl
    by_key (Some j) c none = absurd (cc none)

    by_point : (o : Option ℕ) → option_and_then (call_at p k) o ≡ None → option_and_then (direct_key p) o ≡ None
    by_point None none = refl
    by_point (Some q) none = by_key (direct_key p q) _ none

-- the point at which a call is made
pub record CalledAt (p : Plan) (k : ActKey) (d : Deed) (c : Call) : Type 0 where
  pub point : ℕ
  pub asked : accepted_point d ≡ Some point
  pub is : call_at p k point ≡ Some c

pub called_at : (p : Plan) (k : ActKey) (d : Deed) (c : Call) → call_in p k d ≡ Some c → CalledAt p k d c
called_at p k d c some = by_point (accepted_point d) refl some
  where
    by_point : (o : Option ℕ) → accepted_point d ≡ o → option_and_then (call_at p k) o ≡ Some c → CalledAt p k d c
    by_point None asked some = absurd (cc some)
    by_point (Some q) asked some = record { point = q; asked = asked; is = some }

-- the entry is of no key that runs
abbrev pub AreApart : Entry → Activity → Type 0
AreApart e Free = Unit {0}
AreApart e (Runs k) = is_of k e ≡ false
AreApart e (Calls c) = (is_of c.caller e ≡ false) × (is_of c.direct e ≡ false)
AreApart e (Serves c) = (is_of c.caller e ≡ false) × (is_of c.direct e ≡ false)

module _ (p : Plan) (t : TaskSet) (g : History) where
  -- ---- an entry of nobody of the task

  held_on : (c : Call) (e : Entry) (f : Standing) → is_of c.caller e ≡ false → is_of c.direct e ≡ false → IsHeldBack p t g f c → IsHeldBack p t (e ∷ g) f c
  held_on c e f other apart held = record {
    frame = frame_on t g c.caller e f other held.frame;
    point = held.point;
    serves = held.serves;
    asked = asked_other c.caller e g other ∙ held.asked;
    waits = ended_other c.caller c.direct e g other (ap (λ b. b && is_end e.deed) apart) ∙ held.waits;
  }

  module _ (events : List ℕ) (frame inner : Standing) where
    -- of none of its keys
    pub apart_stands : (e : Entry) (a : Activity) → ((j : ActKey) → is_key_of p events j ≡ true → is_of j e ≡ false) → AreApart e a → TaskStands p t g events frame inner a → TaskStands p t (e ∷ g) events frame inner a
    apart_stands e a other apart stands = record { one = λ j mine. runs_other j e g (other j mine) ∙ stands.one j mine; doing = by_activity a apart stands.doing }
      where
        by_activity : (a : Activity) → AreApart e a → ActivityStands p t g frame inner a → ActivityStands p t (e ∷ g) frame inner a
        by_activity Free apart doing = tt
        by_activity (Runs k) apart doing = record { frame = frame_on t g k e frame apart doing.frame; free = free_on p g k e apart doing.free }
        by_activity (Calls c) apart doing = held_on c e frame apart.0 apart.1 doing
        by_activity (Serves c) apart doing =
            (held_on c e frame apart.0 apart.1 doing.0, record { frame = frame_on t g c.direct e inner apart.1 doing.1.frame; alone = asked_other c.direct e g apart.1 ∙ doing.1.alone })

    pub other_stands : (e : Entry) (a : Activity) → ((j : ActKey) → is_key_of p events j ≡ true → is_of j e ≡ false) → IsActive p t events frame inner a → TaskStands p t g events frame inner a
        → TaskStands p t (e ∷ g) events frame inner a
    other_stands e a other active stands = apart_stands e a other (by_activity a active) stands
      where
        by_activity : (a : Activity) → IsActive p t events frame inner a → AreApart e a
        by_activity Free active = tt
        by_activity (Runs k) active = other k active.own
        by_activity (Calls c) active = (other c.caller active.0.own, other c.direct (direct_own p t events frame c active.0 active.1))
        by_activity (Serves c) active = (other c.caller active.0.own, other c.direct (direct_own p t events frame c active.0 active.1.called))

    -- ---- a start by an event of the free task

    pub start_stands : (k : ActKey) (n : ℕ) (point : Option ℕ) (value : Value) (new : Standing) → TaskStands p t g events frame inner Free → Stands t k (deed.Start n point value) [] new
        → TaskStands p t (entry_by k (deed.Start n point value) ∷ g) events new inner (Runs k)
    start_stands k n point value new stands begun = record {
      one = λ j mine. by_test j mine (same_key j k) refl;
      doing = record { frame = frame_begun t g k n point value new begun; free = answered_free p g k (deed.Start n point value) refl };
    }
      where
        by_test : (j : ActKey) → is_key_of p events j ≡ true → (b : Bool) → same_key j k ≡ b → runs j (entry_by k (deed.Start n point value) ∷ g) ≡ b
        by_test j mine true is = rw is refl
        by_test j mine false is = runs_other j (entry_by k (deed.Start n point value)) g is ∙ stands.one j mine

    -- ---- an answer to the activation that goes on

    module _ (k : ActKey) (d : Deed) (new : Standing) (stands : TaskStands p t g events frame inner (Runs k)) where
      -- with which it is over
      pub over_stands : is_over d ≡ true → TaskStands p t (entry_by k d ∷ g) events new inner Free
      over_stands over = record { one = λ j mine. by_test j mine (same_key j k) refl; doing = tt }
        where
          by_test : (j : ActKey) → is_key_of p events j ≡ true → (b : Bool) → same_key j k ≡ b → runs j (entry_by k d ∷ g) ≡ false
          by_test j mine true is = rw (is, over) refl
          by_test j mine false is = runs_other j (entry_by k d) g is ∙ stands.one j mine ∙ is

      module _ (other : begins d ≡ false) (goes : is_over d ≡ false) (fed : Fed t d frame new) where
        still_one : (j : ActKey) → is_key_of p events j ≡ true → runs j (entry_by k d ∷ g) ≡ same_key j k
        still_one j mine = by_test (same_key j k) refl
          where
            by_test : (b : Bool) → same_key j k ≡ b → runs j (entry_by k d ∷ g) ≡ b
            by_test true is = rw (is, goes) refl
            by_test false is = runs_other j (entry_by k d) g is ∙ stands.one j mine ∙ is

        -- after which it goes on
        pub answer_stands : call_in p k d ≡ None → TaskStands p t (entry_by k d ∷ g) events new inner (Runs k)
        answer_stands none = record { one = still_one; doing = record { frame = frame_fed t g k d frame new other fed stands.doing.frame; free = answered_free p g k d (uncalled p k d none) } }

        -- after which its direct activation comes first
        pub call_stands : (c : Call) → call_in p k d ≡ Some c → TaskStands p t (entry_by k d ∷ g) events new inner (Calls c)
        call_stands c some = subst (λ j. TaskStands p t (entry_by j d ∷ g) events new inner (Calls c)) is.caller (by_caller (sym is.caller))
          where
            at : CalledAt p k d c
            at = called_at p k d c some

            is : CallIs p k at.point c
            is = call_is p k at.point c at.is

            by_caller : k ≡ c.caller → TaskStands p t (entry_by c.caller d ∷ g) events new inner (Calls c)
            by_caller same = record {
              one = λ j mine. subst (λ i. runs j (entry_by i d ∷ g) ≡ same_key j i) same (still_one j mine);
              doing = record {
                frame = subst (λ i. StandsFor t (entry_by i d ∷ g) new i) same (frame_fed t g k d frame new other fed stands.doing.frame);
                point = at.point;
                serves = is.key;
                asked = asked_mine c.caller d g ∙ at.asked;
                waits = ended_mine c.caller c.direct d g;
              };
            }

    -- ---- an entry of the direct activation

    module _ (c : Call) (r : IsRunning p t events frame c.caller) (called : IsCalled p c) where
      caller_apart : (d : Deed) → is_of c.caller (entry_by c.direct d) ≡ false
      caller_apart d = direct_apart p t events frame c r called

      held_still : (d : Deed) → is_end d ≡ false → IsHeldBack p t g frame c → IsHeldBack p t (entry_by c.direct d ∷ g) frame c
      held_still d goes held = record {
        frame = frame_on t g c.caller (entry_by c.direct d) frame (caller_apart d) held.frame;
        point = held.point;
        serves = held.serves;
        asked = asked_other c.caller (entry_by c.direct d) g (caller_apart d) ∙ held.asked;
        waits = ended_other c.caller c.direct (entry_by c.direct d) g (caller_apart d) (and_right (is_of c.direct (entry_by c.direct d)) (is_end d) goes) ∙ held.waits;
      }

      -- its start
      pub serve_stands : (n : ℕ) (point : Option ℕ) (value : Value) (new : Standing) → TaskStands p t g events frame inner (Calls c) → Stands t c.direct (deed.Start n point value) [] new
          → TaskStands p t (entry_by c.direct (deed.Start n point value) ∷ g) events frame new (Serves c)
      serve_stands n point value new stands begun = record {
        one = λ j mine. by_test j mine (same_key j c.direct) refl;
        doing = (held_still (deed.Start n point value) refl stands.doing, record { frame = frame_begun t g c.direct n point value new begun; alone = asked_mine c.direct (deed.Start n point value) g });
      }
        where
          by_test : (j : ActKey) → is_key_of p events j ≡ true → (b : Bool) → same_key j c.direct ≡ b → runs j (entry_by c.direct (deed.Start n point value) ∷ g) ≡ (same_key j c.caller || b)
          by_test j mine true is = runs_now ∙ sym (or_right (same_key j c.caller) true refl)
            where
              runs_now : runs j (entry_by c.direct (deed.Start n point value) ∷ g) ≡ true
              runs_now = rw is refl
          by_test j mine false is = runs_other j (entry_by c.direct (deed.Start n point value)) g is ∙ stands.one j mine ∙ sym (none_more (same_key j c.caller))
            where
              none_more : (b : Bool) → (b || false) ≡ b
              none_more true = refl
              none_more false = refl

      -- an answer to it
      pub inside_stands : (d : Deed) (new : Standing) → begins d ≡ false → is_over d ≡ false → is_end d ≡ false → accepted_point d ≡ None → Fed t d inner new → TaskStands p t g events frame inner (Serves c)
          → TaskStands p t (entry_by c.direct d ∷ g) events frame new (Serves c)
      inside_stands d new other goes on alone fed stands = record {
        one = λ j mine. by_test j mine (same_key j c.direct) refl;
        doing = (held_still d on stands.doing.0, record { frame = frame_fed t g c.direct d inner new other fed stands.doing.1.frame; alone = asked_mine c.direct d g ∙ alone });
      }
        where
          by_test : (j : ActKey) → is_key_of p events j ≡ true → (b : Bool) → same_key j c.direct ≡ b → runs j (entry_by c.direct d ∷ g) ≡ (same_key j c.caller || same_key j c.direct)
          by_test j mine true is = runs_now ∙ sym (or_right (same_key j c.caller) (same_key j c.direct) is)
            where
              runs_now : runs j (entry_by c.direct d ∷ g) ≡ true
              runs_now = rw (is, goes) refl
          by_test j mine false is = runs_other j (entry_by c.direct d) g is ∙ stands.one j mine

      -- its end
      pub return_stands : (new : Standing) → TaskStands p t g events frame inner (Serves c) → TaskStands p t (entry_by c.direct deed.End ∷ g) events frame new (Runs c.caller)
      return_stands new stands = record {
        one = λ j mine. by_test j mine (same_key j c.direct) refl;
        doing = record {
          frame = frame_on t g c.caller (entry_by c.direct deed.End) frame (caller_apart deed.End) stands.doing.0.frame;
          free = freed_now p (entry_by c.direct deed.End ∷ g) c.caller c.direct stands.doing.0.point (asked_other c.caller (entry_by c.direct deed.End) g (caller_apart deed.End) ∙ stands.doing.0.asked) stands.doing.0.serves
              (ended_now c.caller c.direct g (caller_apart deed.End));
        };
      }
        where
          other_caller : (j : ActKey) → same_key j c.direct ≡ true → (b : Bool) → same_key j c.caller ≡ b → b ≡ false
          other_caller j is false apart = refl
          other_caller j is true same =
              let direct = key_same j c.direct is in
              let caller = key_same j c.caller same in
              absurd (false≢true (sym (direct_apart p t events frame c r called) ∙ same_keys c.caller c.direct (sym caller ∙ direct)))

          by_test : (j : ActKey) → is_key_of p events j ≡ true → (b : Bool) → same_key j c.direct ≡ b → runs j (entry_by c.direct deed.End ∷ g) ≡ same_key j c.caller
          by_test j mine true is = runs_no_more ∙ sym (other_caller j is (same_key j c.caller) refl)
            where
              runs_no_more : runs j (entry_by c.direct deed.End ∷ g) ≡ false
              runs_no_more = rw is refl
          by_test j mine false is = runs_other j (entry_by c.direct deed.End) g is ∙ stands.one j mine ∙ or_from_right (same_key j c.caller) (same_key j c.direct) is
            where
              or_from_right : (a b : Bool) → b ≡ false → (a || b) ≡ a
              or_from_right true b none = refl
              or_from_right false b none = none
