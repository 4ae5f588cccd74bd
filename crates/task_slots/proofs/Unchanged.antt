-- Looks of which nothing came and which are not counted: a bench tells the same after them, and no count of its work falls.
use Rattle.std.proofs.Common.{◌≡◌, ◌≢◌, ℕ, suc, ◌+◌, ◌<◌, ◌≤◌, Bool, true, refl, sym, ◌∙◌, ap, subst, arith, List, [], ◌∷◌, ◌++◌, length, take, drop, length-drop, length-take, Option, Some, None}
use Rattle.bus_semantics.specs.Common.{slice_get, false≢true, take-append-drop, get_or_from_slice_get, slice_get-get_or, slice_get_within, Plan, Try, gathered, start_try}
use Rattle.std.proofs.lemmas.List.{get_or-take, get_or-drop, take-take}
use mathlib.Core.Logic.{dite}
use native.Mathlib.Decide.{ℕ_discrete}
use Rattle.port_objects.specs.declared.object.Object.{Object}
use Rattle.port_objects.specs.Benches.{IsFurther, StampAfter, Told}
use Rattle.task_slots.specs.Common.{Nothing, AllHeld, ObjectsLooked, Looked, EventsHeld}
use Rattle.task_slots.specs.Waiting.{NoneAwake}
use Rattle.task_slots.proofs.Onward.{work_same, work_on, work_uncounted, next_same, next_still, all_on, looked_on, looked_as, gathered_on}

-- ---- where a bench tells its objects

-- the wishes of these tries may not come
abbrev pub TriesHeld : Plan → Option (List Object) → List Try → Type 0
TriesHeld p None ts = Unit {0}
TriesHeld p (Some objects) ts = AllHeld p objects ts

-- an event that may not start may fall asleep
pub held_more : (p : Plan) (o : Option (List Object)) (events : List ℕ) (awake later : ℕ → Bool) (at e : ℕ) → slice_get events at ≡ Some e → TriesHeld p o (start_try p e) → ((i : ℕ) → i ≢ at → later i ≡ awake i)
    → EventsHeld p o events awake → EventsHeld p o events later
held_more p None events awake later at e found held others before = tt
held_more p (Some objects) events awake later at e found held others before = λ j d event sleeps. dite (ℕ_discrete j at)
    (λ same.
    let one : Some d ≡ Some e = sym event ∙ ap (slice_get events) same ∙ found in
    let own : d ≡ e = cc in
    subst (λ x. AllHeld p objects (start_try p x)) (sym own) held)
    (λ other. before j d event (sym (others j other) ∙ sleeps))

-- where all are awake none sleeps
pub none_asleep : (p : Plan) (o : Option (List Object)) (events : List ℕ) → EventsHeld p o events (λ i. true)
none_asleep p None events = tt
none_asleep p (Some objects) events = λ j e found sleeps. absurd (false≢true (sym sleeps))

-- ---- a bench that made nothing

pub record Unchanged (a b : Told) : Type 0 where
  pub room : b.room ≡ a.room
  pub next : b.next ≡ a.next
  pub objects : b.objects ≡ a.objects
  pub work : IsFurther a.work b.work [] 0 0

pub unchanged_none : (a : Told) → Unchanged a a
unchanged_none a = record { room = refl; next = refl; objects = refl; work = work_same a.work }

pub unchanged_on : (a b c : Told) → Unchanged a b → Unchanged b c → Unchanged a c
unchanged_on a b c first last = record {
  room = last.room ∙ first.room;
  next = last.next ∙ first.next;
  objects = last.objects ∙ first.objects;
  work = work_on a.work b.work c.work [] [] 0 0 0 0 first.work last.work;
}

same_objects : (p : Plan) (ts : List Try) (a b : Option (List Object)) → ObjectsLooked p ts a b Nothing → b ≡ a
same_objects p ts None b looked = looked
same_objects p ts (Some objects) b looked = looked.1

pub unchanged_by : (p : Plan) (ts : List Try) (n : ℕ) (a b : Told) → Looked p ts n a b Nothing → Unchanged a b
unchanged_by p ts n a b looked = record {
  room = looked.room;
  next = next_same a.next b.next looked.next;
  objects = same_objects p ts a.objects b.objects looked.objects;
  work = work_uncounted n a.work b.work Nothing looked.work;
}

objects_held : (p : Plan) (ts : List Try) (a b : Option (List Object)) → ObjectsLooked p ts a b Nothing → TriesHeld p a ts
objects_held p ts None b looked = tt
objects_held p ts (Some objects) b looked = looked.0

-- what was looked at is held, by the objects before too
pub held_by : (p : Plan) (ts : List Try) (n : ℕ) (a b c : Told) → Unchanged a b → Looked p ts n b c Nothing → TriesHeld p a.objects ts
held_by p ts n a b c same looked = subst (λ o. TriesHeld p o ts) same.objects (objects_held p ts b.objects c.objects looked.objects)

objects_looked : (p : Plan) (ts : List Try) (a b : Option (List Object)) → b ≡ a → TriesHeld p a ts → ObjectsLooked p ts a b Nothing
objects_looked p ts None b same held = same
objects_looked p ts (Some objects) b same held = (held, same)

-- tries that are held are as if they were looked at, except that no look is counted
pub looked_at : (p : Plan) (ts : List Try) (a b : Told) → Unchanged a b → TriesHeld p a.objects ts → Looked p ts 0 a b Nothing
looked_at p ts a b same held = record {
  room = same.room;
  next = subst (λ o. StampAfter a.next o None) (sym same.next) (next_still a.next);
  objects = objects_looked p ts a.objects b.objects same.objects held;
  work = same.work;
  lost = tt;
}

-- ---- tries of each item of a list

module _ (p : Plan) where
  all_gathered : {X : Type 0} (objects : List Object) (f : X → List Try) (xs : List X) → ((i : ℕ) (x : X) → slice_get xs i ≡ Some x → AllHeld p objects (f x)) → AllHeld p objects (gathered f xs)
  all_gathered objects f [] each = tt
  all_gathered objects f (x ∷ xs) each = all_on p objects (f x) (gathered f xs) (each 0 x refl) (all_gathered objects f xs (λ i y found. each (suc i) y found))

  pub gathered_held : {X : Type 0} (o : Option (List Object)) (f : X → List Try) (xs : List X) → ((i : ℕ) (x : X) → slice_get xs i ≡ Some x → TriesHeld p o (f x)) → TriesHeld p o (gathered f xs)
  gathered_held None f xs each = tt
  gathered_held (Some objects) f xs each = all_gathered objects f xs each

-- an item of the first few
pub taken : {X : Type 0} (xs : List X) (n i : ℕ) (x : X) → slice_get (take n xs) i ≡ Some x → (i < n) × (slice_get xs i ≡ Some x)
taken xs n i x found =
    let short : i < length (take n xs) = slice_get_within (take n xs) i x found in
    let within : i < n = omega (arith, length-take n xs) in
    let inside : i < length xs = omega (arith, length-take n xs) in
    (within, slice_get-get_or xs i x inside ∙ ap (λ y. Some y) (sym (get_or-take n xs i x within) ∙ get_or_from_slice_get (take n xs) i x x found))

pub dropped : {X : Type 0} (xs : List X) (n i : ℕ) (x : X) → slice_get (drop n xs) i ≡ Some x → slice_get xs (n + i) ≡ Some x
dropped xs n i x found =
    let short : i < length (drop n xs) = slice_get_within (drop n xs) i x found in
    let inside : n + i < length xs = omega (arith, length-drop n xs) in
    slice_get-get_or xs (n + i) x inside ∙ ap (λ y. Some y) (sym (get_or-drop n xs i x) ∙ get_or_from_slice_get (drop n xs) i x x found)

-- ---- events that are passed

-- events of which none is awake
asleep_between : (p : Plan) (o : Option (List Object)) (xs : List ℕ) (awake : ℕ → Bool) (from at : ℕ) → EventsHeld p o xs awake → NoneAwake awake from at → TriesHeld p o (gathered (start_try p) (drop from (take at xs)))
asleep_between p None xs awake from at held none = tt
asleep_between p (Some objects) xs awake from at held none = gathered_held p (Some objects) (start_try p) (drop from (take at xs)) (λ i e found.
    let there = taken xs at (from + i) e (dropped (take at xs) from i e found) in
    let behind : from ≤ from + i = omega arith in
    held (from + i) e there.1 (none (from + i) behind there.0))

-- they need no look
pub passed_by : (p : Plan) (xs : List ℕ) (awake : ℕ → Bool) (from at n : ℕ) (a b : Told) → from ≤ at → EventsHeld p a.objects xs awake → NoneAwake awake from at → Looked p (gathered (start_try p) (take from xs)) n a b Nothing
    → Looked p (gathered (start_try p) (take at xs)) n a b Nothing
passed_by p xs awake from at n a b le held none before =
    let same = unchanged_by p _ _ a b before in
    let asleep = subst (λ o. TriesHeld p o (gathered (start_try p) (drop from (take at xs)))) (sym same.objects) (asleep_between p a.objects xs awake from at held none) in
    let parts : take from xs ++ drop from (take at xs) ≡ take at xs = ap (λ x. x ++ drop from (take at xs)) (sym (take-take from at xs le)) ∙ take-append-drop from (take at xs) in
    let tries : gathered (start_try p) (take from xs) ++ gathered (start_try p) (drop from (take at xs)) ≡ gathered (start_try p) (take at xs) =
    sym (gathered_on (start_try p) (take from xs) (drop from (take at xs))) ∙ ap (gathered (start_try p)) parts in
    let counted : n + 0 ≡ n = omega arith in
    looked_as p _ _ _ _ a b Nothing tries counted (looked_on p _ _ n 0 a b b Nothing before (looked_at p _ b b (unchanged_none b) asleep))
