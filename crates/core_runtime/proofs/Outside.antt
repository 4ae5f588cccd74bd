-- The entry of a wish of the environment keeps a node lawful.
use Rattle.std.proofs.Common.{◌≡◌, ◌≢◌, ◌<◌, ◌+◌, ℕ, suc, Bool, true, false, if◌then◌else◌, refl, sym, ◌∙◌, ap, subst, arith, List, ◌∷◌, length, set, get_or, Option, Some, None}
use Rattle.std.specs.Prelude.{◌==◌, IfSome, unwrap_or}
use Rattle.bus_semantics.specs.Common.{slice_get, unsigned_Decides, and_parts, false≢true, length-set, same_number, Plan, Wanted, History, Noted, is_environment, needs_event, started_before}
use Rattle.bus_semantics.specs.Common.{note, noted, clock, object_of, touched_by, touches, entries_of, touched, IsObject, wish_fits, follows_program, Answers, MayFollow, IsLegal, IsSound}
use Rattle.bus_semantics.specs.Common.{Follows, event_of, noted_for, MayCome}
use Rattle.bus_semantics.specs.declared.entries.Actor.{Actor}
use Rattle.bus_semantics.specs.declared.entries.Actor.TheVariants.{Env}
use Rattle.bus_semantics.specs.declared.entries.Entry.{Entry}
use Rattle.bus_semantics.specs.declared.entries.Deed.{Deed}
use Rattle.bus_semantics.specs.declared.script.Mapping.{Mapping}
use Rattle.port_objects.specs.declared.object.Object.{Object}
use Rattle.port_objects.specs.Common.{kept_of, IsOfPlan, Stands, MayAsk, IsTheOne, IsMade, lead, Frees}
use Rattle.task_machine.specs.declared.instr.TaskSet.{TaskSet}
use Rattle.core_turn.specs.Cores.{CoreState}
use Rattle.core_turn.specs.Lawful.{IsLawful}
use Rattle.core_turn.specs.Standing.{CoreStands}
use Rattle.core_runtime.specs.Common.{IsNode, Touches}
use Rattle.core_lanes.proofs.Calls.{no_event, eventless, no_need, touches_none, free_fits, AnswersLaw}
use Rattle.latches.proofs.Places.{Placed, here, there, placed, found_at}
use Rattle.core_runtime.proofs.Turned.{made_touches}

-- ---- what an entry touches

-- one object at most
touches_no_other : (o : Option ℕ) (object i : ℕ) → object ≢ i → same_number o (Some object) ≡ true → same_number o (Some i) ≡ false
touches_no_other None object i other touching = absurd (false≢true touching)
touches_no_other (Some n) object i other touching = of_test (n == i) refl
  where
    of_test : (b : Bool) → (n == i) ≡ b → b ≡ false
    of_test false is = refl
    of_test true is = absurd (other (sym ((unsigned_Decides n object).0 touching) ∙ (unsigned_Decides n i).0 is))

parted : (p : Plan) (h : History) (e : Entry) (i : ℕ) (b : Bool) → touches p i (note h e) ≡ b → entries_of p (e ∷ h) i ≡ (if b then note h e ∷ entries_of p h i else entries_of p h i)
parted p h e i b is = ap (λ v. if v then note h e ∷ entries_of p h i else entries_of p h i) is

-- ---- a node, and a wish that fits the environment

-- what the laws of objects say
abbrev pub TouchedLaw : Type 0
TouchedLaw = (p : Plan) (m : Mapping) (a : Actor) (w : Wanted) → IsSound p m → wish_fits p a w ≡ true → IfSome (object_of p a w) (IsObject p)

abbrev pub ComesLaw : Type 0
ComesLaw = (p : Plan) (m : Mapping) (h : History) (a : Actor) (w : Wanted) (n : Noted) → IsSound p m → IsLegal p h → needs_event n.entry.deed ≡ false → follows_program p h a n.entry.deed ≡ true
    → MayCome p a w (entries_of p h (touched p a w)) n → MayFollow p h n.entry

abbrev pub BesideLaw : Type 0
BesideLaw = (p : Plan) (t : TaskSet) (h : History) (c : CoreState) (e : Entry) → is_environment e.actor ≡ true → CoreStands p t h c → CoreStands p t (e ∷ h) c

module _ {p : Plan} {m : Mapping} {t : TaskSet} {cores : List CoreState} {objects : List Object} {object : ℕ} (w : Wanted)
    (node : IsNode p m t cores objects) (may_want : wish_fits p Env w ≡ true) (touching : Some object ≡ object_of p Env w) where
  at : touched p Env w ≡ object
  at = ap (λ o. unwrap_or o 0) (sym touching)

  pub touches_one : object_of p Env w ≡ Some (touched p Env w)
  touches_one = sym touching ∙ ap (λ n. Some n) (sym at)

  pub is_there : TouchedLaw → object < length objects
  is_there law =
      let below : object < p.objects = subst (λ o. IfSome o (IsObject p)) (sym touching) (law p m Env w node.sound may_want) in
      let counted : p.objects ≡ clock p + 1 = (unsigned_Decides p.objects (clock p + 1)).0 (and_parts (p.objects == clock p + 1) _ node.counted.counted).0 in
      let count : length objects ≡ suc (clock p) = node.planned.count in
      omega arith

  module _ (law : TouchedLaw) (old : Object) (value : old ≡ get_or objects object old) where
    found : slice_get objects object ≡ Some old
    found = found_at objects object old (is_there law) value

    pub is_planned : IsOfPlan p (touched p Env w) old
    is_planned = subst (λ n. IsOfPlan p n old) (sym at) (node.planned.each object old found)

    pub may_ask : (h : History) → IsLawful p m t cores objects h → MayAsk p m Env w (kept_of old) (entries_of p h object)
    may_ask h lawful = record {
      sound = node.sound;
      fits = may_want;
      own = refl;
      stands = subst (λ n. Stands p n (kept_of old) (entries_of p h object)) (sym at) (lawful.stand object old found);
    }

    -- what its entry does to the objects
    pub touches_then : (new : Object) (e : Entry) → IsMade p (touched p Env w) Env w old new e → Touches p objects (set objects object new) (record { entry = e; event = None })
    touches_then new e made = record {
      object = object;
      touching = subst (λ v. touched_by p (record { entry = e; event = v }) ≡ Some object) (no_event p w may_want) (made_touches p Env w object e made.actor made.wish (sym touching));
      old = old;
      new = new;
      found = found;
      leads = subst (λ v. lead p object (kept_of old) (record { entry = e; event = v }) ≡ Some (kept_of new)) (no_event p w may_want) (subst (λ n. lead p n (kept_of old) (noted_for w e) ≡ Some (kept_of new)) at made.leads);
      told = made.told;
      heard = made.heard;
      others = refl;
    }

    -- which is one of the plan's
    pub within_then : (new : Object) (e : Entry) → IsMade p (touched p Env w) Env w old new e → IfSome (touched_by p (record { entry = e; event = None })) (IsObject p)
    unfolding touches_then
    within_then new e made = subst (λ o. IfSome o (IsObject p)) (sym (touches_then new e made).touching) (subst (λ o. IfSome o (IsObject p)) (sym touching) (law p m Env w node.sound may_want))

    -- ---- its entry

    module _ (comes : ComesLaw) (beside : BesideLaw) (new : Object) (e : Entry)
        (done : (h : History) → MayAsk p m Env w (kept_of old) (entries_of p h object) → IsTheOne p Env w (kept_of new) (entries_of p h object) e) where
      module _ (h : History) (lawful : IsLawful p m t cores objects h) where
        one : IsTheOne p Env w (kept_of new) (entries_of p h object) e
        one = done h (may_ask h lawful)

        by_environment : e.actor ≡ Env
        by_environment = one.comes.actor

        without : (a : Actor) (b : Bool) → a ≡ Env → (if b then started_before a h else None) ≡ None
        without a true is = ap (λ x. started_before x h) is
        without a false is = refl

        same : noted_for w e ≡ note h e
        same = λ i. record { entry = e; event = (no_event p w may_want ∙ sym (without e.actor (needs_event e.deed) by_environment)) i }

        follows : Follows p object (entries_of p h object) (note h e)
        follows = subst (λ n. Follows p n (entries_of p h object) (note h e)) at (subst (Follows p (touched p Env w) (entries_of p h object)) same one.comes.follows)

        stands : Stands p object (kept_of new) (note h e ∷ entries_of p h object)
        stands = subst (λ n. Stands p n (kept_of new) (note h e ∷ entries_of p h object)) at (subst (λ n. Stands p (touched p Env w) (kept_of new) (n ∷ entries_of p h object)) same one.stands)

        may_follow : MayFollow p h e
        may_follow = comes p m h Env w (noted_for w e) node.sound lawful.legal (eventless p w e.deed (unwrap_or (event_of w) 0) may_want one.comes.wish) refl
            (subst (λ n. MayCome p Env w (entries_of p h n) (noted_for w e)) (sym at) one.comes)

        of_place : (i : ℕ) (o : Object) → Placed Object objects object new i o → Stands p i (kept_of o) (entries_of p (e ∷ h) i)
        of_place i o (here place is) =
            subst (λ n. Stands p n (kept_of o) (entries_of p (e ∷ h) n)) (sym place)
            (subst (Stands p object (kept_of o)) (sym (parted p h e object true follows.touching)) (subst (λ x. Stands p object (kept_of x) (note h e ∷ entries_of p h object)) (sym is) stands))
        of_place i o (there other is) =
            subst (Stands p i (kept_of o)) (sym (parted p h e i false (touches_no_other (touched_by p (note h e)) object i (λ eq. other (sym eq)) follows.touching))) (lawful.stand i o is)

        pub lawful_on : IsLawful p m t cores (set objects object new) (e ∷ h)
        lawful_on = record {
          legal = (lawful.legal, may_follow);
          objects_are = length-set objects object new ∙ lawful.objects_are;
          cores_are = lawful.cores_are;
          stand = λ i o is. of_place i o (placed objects object new i o is);
          number = lawful.number;
          ready = lawful.ready;
          stands = λ i c is. beside p t h c e (subst (λ a. is_environment a ≡ true) (sym by_environment) refl) (lawful.stands i c is);
        }

      pub node_then : IsOfPlan p (touched p Env w) new → IsNode p m t cores (set objects object new)
      node_then planned = record {
        sound = node.sound;
        bodies = node.bodies;
        counted = node.counted;
        planned = record { count = length-set objects object new ∙ node.planned.count; each = λ i o is. plan_at i o (placed objects object new i o is) };
        cores_are = node.cores_are;
        room = node.room;
        history = e ∷ node.history;
        lawful = lawful_on node.history node.lawful;
      }
        where
          plan_at : (i : ℕ) (o : Object) → Placed Object objects object new i o → IsOfPlan p i o
          plan_at i o (here place is) = subst (λ n. IsOfPlan p n o) (at ∙ sym place) (subst (IsOfPlan p (touched p Env w)) (sym is) planned)
          plan_at i o (there other is) = node.planned.each i o is

-- ---- a wish that touches no object

module _ {p : Plan} {m : Mapping} {t : TaskSet} {cores : List CoreState} {objects : List Object} (w : Wanted) (d : Deed)
    (node : IsNode p m t cores objects) (may_want : wish_fits p Env w ≡ true) (none : object_of p Env w ≡ None) (frees : Frees w (Some d)) (answers : AnswersLaw) (beside : BesideLaw) where
  abbrev pub e : Entry
  e = record { actor = Env; deed = d }

  alone : (h : History) → note h e ≡ record { entry = e; event = None }
  alone h = ap (λ b. record { entry = record { actor = Env; deed = d }; event = if b then None else None }) (no_need p m w d node.sound may_want none frees)

  untouched : (h : History) → touched_by p (note h e) ≡ None
  untouched h = ap (touched_by p) (alone h) ∙ touches_none p m w d node.sound may_want none frees

  pub lawful_beside : (h : History) → IsLawful p m t cores objects h → IsLawful p m t cores objects (e ∷ h)
  lawful_beside h lawful = record {
    legal = (
      lawful.legal,
      record {
        fit = free_fits p m w d node.sound may_want none frees;
        actor = refl;
        answers = subst (Answers p (noted h)) (sym (alone h)) (answers p m Env w d (noted h) node.sound may_want none frees.1 frees.0);
      },
    );
    objects_are = lawful.objects_are;
    cores_are = lawful.cores_are;
    stand = λ i o is. subst (Stands p i (kept_of o)) (sym (parted p h e i false (ap (λ v. same_number v (Some i)) (untouched h)))) (lawful.stand i o is);
    number = lawful.number;
    ready = lawful.ready;
    stands = λ i c is. beside p t h c e refl (lawful.stands i c is);
  }
