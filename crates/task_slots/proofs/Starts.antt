-- The start of a free task: each of its events may be tried, and looks at them one after the other.
use Rattle.std.proofs.Common.{◌≡◌, ℕ, ◌+◌, ◌<◌, take, drop, get_or, true, false, ◌||◌, if◌then◌else◌, refl, sym, ◌∙◌, ap, subst, List, [], ◌∷◌, ◌++◌, length, map, Option, Some, None}
use Rattle.std.specs.Prelude.{is_some, IfSome}
use Rattle.bus_semantics.specs.Common.{take_more, take-append-drop, eq-eqb, same_Some, Plan, kind_of, runnable_of_event, Wanted, to_start, object_of_kind, object_of, IsObject, key_fits}
use Rattle.bus_semantics.specs.Common.{wish_fits, IsSound, plain_key, option_list, gathered, start_try}
use Rattle.bus_laws.specs.Common.{Actor, Act, Stamped, Mapping}
use Rattle.bus_laws.proofs.Thinning.{option_test}
use Rattle.port_objects.specs.Benches.{Told}
use Rattle.task_slots.specs.Common.{Look, Made, Nothing, Contended, waits, IsTried, IsFree, looks_at, EntryOf, StartBy, Looked, may_be_mapped}
use Rattle.task_slots.proofs.Onward.{looked_on, looked_as, made_more, lost_more, gathered_on, gathered_one}
use Rattle.task_slots.proofs.Facts.{event_known, started, key_is, start_fits}

free_start : (event : ℕ) (o : Option ℕ) → IsFree o (to_start event)
free_start event None = refl
free_start event (Some object) = tt

module _ (p : Plan) (m : Mapping) (sound : IsSound p m) (event n : ℕ) (mapped : may_be_mapped p event ≡ true) (starts : runnable_of_event p event ≡ Some n) where
  -- the key of a task's event fits
  pub key_of_event : key_fits p (plain_key n) ≡ true
  key_of_event =
      let s = started p m sound event (event_known p event n starts) in
      let inside : n < length p.runnables = subst (λ i. i < length p.runnables) (same_Some s.number n (sym s.starts ∙ starts)) s.inside in
      key_is p m sound event n mapped starts inside

  pub start_tried : ((a : Actor) (w : Wanted) → wish_fits p a w ≡ true → IfSome (object_of p a w) (IsObject p)) → IsTried p (Act (plain_key n)) (to_start event)
  start_tried objects =
      let fit : wish_fits p (Act (plain_key n)) (to_start event) ≡ true = start_fits p m sound event (plain_key n) key_of_event starts in
      record {
        fits = fit;
        own = option_test (runnable_of_event p event) (Some n) starts;
        there = objects (Act (plain_key n)) (to_start event) fit;
        free = free_start event (object_of_kind p (kind_of p event));
      }

module _ (p : Plan) (event n : ℕ) (starts : runnable_of_event p event ≡ Some n) where
  pub start_by : (l : Look) → EntryOf p (Act (plain_key n)) (to_start event) l → StartBy p (event ∷ []) l
  start_by (Made s) entry = record { event = event; mapped = ap (λ b. b || false) (eq-eqb event event refl); runnable = n; starts = starts; entry = entry }
  start_by Nothing entry = tt
  start_by (Contended object) entry = tt

  looked_once : (o : Option ℕ) → looks_at o (to_start event) ≡ (if is_some o then 1 else 0)
  looked_once None = refl
  looked_once (Some object) = refl

  pub start_looked : (old new : Told) (l : Look) → Looked p ((Act (plain_key n), to_start event) ∷ []) (looks_at (object_of_kind p (kind_of p event)) (to_start event)) old new l
      → Looked p (start_try p event) (if waits p event then 1 else 0) old new l
  start_looked old new l looked =
      let tries : start_try p event ≡ (Act (plain_key n), to_start event) ∷ [] = ap (λ o. map (λ r. (Act (plain_key r), to_start event)) (option_list o)) starts in
      looked_as p _ _ _ _ old new l (sym tries) (looked_once (object_of_kind p (kind_of p event))) looked

-- ---- one event after the other

module _ (p : Plan) (xs : List ℕ) (i : ℕ) (within : i < length xs) where
  pub event_tried : (m n k : ℕ) (a b c : Told) (l : Look) → m + n ≡ k → Looked p (gathered (start_try p) (take i xs)) m a b Nothing → Looked p (start_try p (get_or xs i 0)) n b c l
      → Looked p (gathered (start_try p) (take (i + 1) xs)) k a c l
  event_tried m n k a b c l counted before now =
      let tries : gathered (start_try p) (take i xs) ++ start_try p (get_or xs i 0) ≡ gathered (start_try p) (take (i + 1) xs) =
      sym (ap (gathered (start_try p)) (take_more xs i 0 within) ∙ gathered_one (start_try p) (take i xs) (get_or xs i 0)) in
      looked_as p _ _ _ _ a c l tries counted (looked_on p _ _ m n a b c l before now)

  whole : gathered (start_try p) (take (i + 1) xs) ++ gathered (start_try p) (drop (i + 1) xs) ≡ gathered (start_try p) xs
  whole = sym (gathered_on (start_try p) (take (i + 1) xs) (drop (i + 1) xs)) ∙ ap (gathered (start_try p)) (take-append-drop (i + 1) xs)

  -- where an entry was made, or another core holds the object, it does not matter how many looks are counted
  pub event_made : (m n k : ℕ) (a b c : Told) (s : Stamped) → Looked p (gathered (start_try p) (take i xs)) m a b Nothing → Looked p (start_try p (get_or xs i 0)) n b c (Made s)
      → Looked p (gathered (start_try p) xs) k a c (Made s)
  event_made m n k a b c s before now = looked_as p _ _ k _ a c (Made s) whole refl (made_more p _ _ _ _ a c s (event_tried m n _ a b c (Made s) refl before now))

  pub event_lost : (m n k : ℕ) (a b c : Told) (object : ℕ) → Looked p (gathered (start_try p) (take i xs)) m a b Nothing → Looked p (start_try p (get_or xs i 0)) n b c (Contended object)
      → Looked p (gathered (start_try p) xs) k a c (Contended object)
  event_lost m n k a b c object before now = looked_as p _ _ k _ a c (Contended object) whole refl (lost_more p _ _ _ _ a c object (event_tried m n _ a b c (Contended object) refl before now))
