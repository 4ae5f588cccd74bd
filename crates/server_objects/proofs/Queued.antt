-- A queued server: what each entry makes of the requests that wait and of the one that is served.
use Rattle.std.proofs.Common.{◌≡◌, ◌<◌, ◌≤◌, ℕ, ℤ, zero, Bool, true, false, ◌==◌, refl, sym, ◌∙◌, ap, subst, arith, List, [], ◌∷◌, ◌++◌, length, map, get_or, set, Option, Some, None, is_some}
use Rattle.std.specs.Prelude.{option_map, nat_lt}
use Rattle.bus_semantics.specs.Common.{list_any, slice_get, eq-eqb, false≢true, ltb-true, or_parts, nat_tests, length-set, map-append, get_or-set_same, same_Some, slice_get-get_or, ActKey}
use Rattle.bus_semantics.specs.Common.{Value, words_of, same_number, Plan, kind_of, Noted, Past, made_by, is_open, serves_any}
use Rattle.std.proofs.lemmas.List.{get_or_past}
use Rattle.bus_semantics.specs.declared.plan.EventKind.TheVariants.{Invoked}
use Rattle.bus_semantics.specs.declared.entries.Actor.{Actor}
use Rattle.bus_semantics.specs.declared.entries.Deed.TheVariants as deed
use Rattle.client_server.specs.declared.point.Point.{Point}
use Rattle.client_server.specs.declared.point.Stage.TheVariants.{Asked, Started, Returned}
use Rattle.client_server.specs.Asked.{AreAsked}
use Rattle.client_server.specs.Kept as calls
use Rattle.client_server.specs.Points.{is_idle, is_started, new_point, value_asked}
use Rattle.client_server.proofs.Asked.{idle_not_asked, not_again, not_waiting, one_more, one_less}
use Rattle.object_kinds.specs.Rising.{is_rising}
use Rattle.object_kinds.proofs.Options.{clash}
use Rattle.object_kinds.proofs.Proper.{noting}
use Rattle.server_objects.specs.Layout.{runnable_in, is_joined_to}
use Rattle.server_objects.specs.Standing.{number_at, words_of_asked, request_at, RequestsStand, QueueStands}
use Rattle.server_objects.proofs.Facts.{apart_numbers, number_there, one_place, set_point}
use Rattle.server_objects.proofs.Points.{idle_is, started_is}
use Rattle.server_objects.proofs.Requests as requests

-- ---- lists

-- what two functions give alike of all but one number, they give alike of a list without it
pub others_alike : {X : Type 0} (f g : ℕ → X) (i : ℕ) (xs : List ℕ) → list_any (λ j. i == j) xs ≡ false → ((j : ℕ) → (j ≡ i → ⊥) → f j ≡ g j) → map f xs ≡ map g xs
others_alike f g i [] none each = refl
others_alike f g i (x ∷ xs) none each =
    let parts = or_parts (i == x) (list_any (λ j. i == j) xs) none in
    λ t. each x (apart parts.0) t ∷ others_alike f g i xs parts.1 each t
  where
    apart : (i == x) ≡ false → x ≡ i → ⊥
    apart off same = clash (i == x) (eq-eqb i x (sym same)) off

pub started_within : (ts : List Point) (i : ℕ) → is_started (get_or ts i new_point).stage ≡ true → i < length ts
started_within ts i started = by_test (nat_lt i (length ts)) refl
  where
    by_test : (b : Bool) → nat_lt i (length ts) ≡ b → i < length ts
    by_test true less = ltb-true i (length ts) less
    by_test false less =
        let past : length ts ≤ i = grind (arith, nat_tests) in
        absurd (false≢true (sym (ap (λ (t : Point). is_started t.stage) (get_or_past ts i new_point past)) ∙ started))

module _ (ts : List Point) (i : ℕ) (x : Point) (within : i < length ts) where
  -- a change that keeps what was asked for
  pub same_asked : value_asked x.stage ≡ value_asked (get_or ts i new_point).stage → (j : ℕ) → value_asked (get_or (set ts i x) j new_point).stage ≡ value_asked (get_or ts j new_point).stage
  same_asked same j = set_point (λ t. value_asked t.stage ≡ value_asked (get_or ts j new_point).stage) ts i j x within
      (λ is. same ∙ ap (λ n. value_asked (get_or ts n new_point).stage) (sym is)) (λ apart. refl)

  pub still_asked : value_asked x.stage ≡ value_asked (get_or ts i new_point).stage → (waiting : List ℕ) → AreAsked ts waiting → AreAsked (set ts i x) waiting
  still_asked same waiting all = record {
    distinct = all.distinct;
    asked = λ j found.
        let was = all.asked j found in
        record { within = omega (arith, was.within, length-set ts i x); asked = ap is_some (same_asked same j) ∙ was.asked };
  }

-- ---- the entries

module _ (p : Plan) (s : ℕ) (points : List ℕ) (k : calls.Kept) (l : Past) (stands : QueueStands p s points k l) where
  abbrev key : ActKey
  key = record { runnable = runnable_in p s; point = None }

  abbrev counts : ℕ → Bool
  counts = is_joined_to p s

  abbrev unstarted : List (ℕ × List ℤ)
  unstarted = map (request_at points k) k.waiting

  abbrev served : Option ℕ
  served = option_map (number_at points) k.serving

  abbrev with_points : List Point → (waiting : List ℕ) → (serving : Option ℕ) → calls.Kept
  with_points ts waiting serving = record { queue = k.queue; waiting = waiting; serving = serving; points = ts }

  -- an entry that changes nothing
  pub same_queue : (n : Noted) → RequestsStand counts key unstarted served (n ∷ l) → is_open (serves_any p) (n ∷ l) ≡ is_open (serves_any p) l → QueueStands p s points k (n ∷ l)
  same_queue n now same = record { asked = stands.asked; requests = now; opened = same ∙ stands.opened; started = stands.started }

  -- one that changes a point, but not what is asked for or whether it is started
  pub changed_queue : (n : Noted) (i : ℕ) (x : Point) → i < length k.points → value_asked x.stage ≡ value_asked (calls.point_at i k).stage → is_started x.stage ≡ is_started (calls.point_at i k).stage
      → RequestsStand counts key unstarted served (n ∷ l) → is_open (serves_any p) (n ∷ l) ≡ is_open (serves_any p) l → QueueStands p s points (with_points (set k.points i x) k.waiting k.serving) (n ∷ l)
  changed_queue n i x within asked started now same = record {
    asked = still_asked k.points i x within asked k.waiting stands.asked;
    requests = subst (λ us. RequestsStand counts key us served (n ∷ l)) (sym (λ t. map (λ j. each j t) k.waiting)) now;
    opened = same ∙ stands.opened;
    started = λ j. set_point (λ y. is_started y.stage ≡ same_number k.serving (Some j)) k.points i j x within
        (λ is. started ∙ stands.started i ∙ ap (λ m. same_number k.serving (Some m)) (sym is)) (λ apart. stands.started j);
  }
    where
      each : (j : ℕ) → request_at points (with_points (set k.points i x) k.waiting k.serving) j ≡ request_at points k j
      each j = ap (λ o. (number_at points j, words_of_asked o)) (same_asked k.points i x within asked j)

  module _ (i q : ℕ) (there : slice_get points i ≡ Some q) (within : i < length k.points) where
    number : number_at points i ≡ q
    number = number_there points i q there

    -- ---- a request

    -- an idle point is not served
    pub not_served : is_rising points ≡ true → length k.points ≡ length points → is_idle (calls.point_at i k).stage ≡ true → served ≡ Some q → ⊥
    not_served up many idle is = by_serving k.serving refl is
      where
        by_serving : (o : Option ℕ) → k.serving ≡ o → option_map (number_at points) o ≡ Some q → ⊥
        by_serving None at is = absurd (cc is)
        by_serving (Some j) at is =
            let on : is_started (calls.point_at j k).stage ≡ true = stands.started j ∙ ap (λ o. same_number o (Some j)) at ∙ eq-eqb j j refl in
            let inside : j < length k.points = started_within k.points j on in
            let found : slice_get points j ≡ Some (number_at points j) = slice_get-get_or points j 0 (omega arith) in
            let same : j ≡ i = one_place points j i (number_at points j) q up found there (same_Some (number_at points j) q is) in
            let off : is_started (calls.point_at i k).stage ≡ false = ap is_started (idle_is (calls.point_at i k).stage idle) in
            clash (is_started (calls.point_at i k).stage) (ap (λ m. is_started (calls.point_at m k).stage) (sym same) ∙ on) off

    pub request_queue : (a : Actor) (event : Option ℕ) (value : Value) → counts q ≡ true → is_idle (calls.point_at i k).stage ≡ true → (served ≡ Some q → ⊥)
        → QueueStands p s points (with_points (calls.staged i (Asked value) k) (k.waiting ++ i ∷ []) k.serving) (noting a (deed.Ask q value zero) event ∷ l)
    request_queue a event value joined idle free =
        let x : Point = record { stage = Asked value; due = (calls.point_at i k).due } in
        let none : is_some (value_asked (calls.point_at i k).stage) ≡ false = idle_not_asked (calls.point_at i k).stage idle in
        let absent : list_any (λ j. i == j) k.waiting ≡ false = not_waiting k.points i x k.waiting none stands.asked in
        let off : is_started (calls.point_at i k).stage ≡ false = ap is_started (idle_is (calls.point_at i k).stage idle) in
        let before : map (request_at points after) k.waiting ≡ unstarted = others_alike (request_at points after) (request_at points k) i k.waiting absent others in
        let last : request_at points after i ≡ (q, words_of value) =
        (λ t. (number t, words_of_asked (value_asked (get_or-set_same k.points i x new_point within t).stage))) in
        record {
          asked = one_more k.points i x k.waiting within none refl stands.asked;
          requests = subst (λ us. RequestsStand counts key us served (noting a (deed.Ask q value zero) event ∷ l))
              (sym (map-append (request_at points after) k.waiting (i ∷ []) ∙ (λ t. before t ++ last t ∷ [])))
              (requests.after_request counts key unstarted served l stands.requests a event q value joined free);
          opened = stands.opened;
          started = λ j. set_point (λ y. is_started y.stage ≡ same_number k.serving (Some j)) k.points i j x within
              (λ is. sym off ∙ stands.started i ∙ ap (λ m. same_number k.serving (Some m)) (sym is)) (λ apart. stands.started j);
        }
      where
        after : calls.Kept
        after = with_points (calls.staged i (Asked value) k) (k.waiting ++ i ∷ []) k.serving

        others : (j : ℕ) → (j ≡ i → ⊥) → request_at points after j ≡ request_at points k j
        others j apart = set_point (λ y. (number_at points j, words_of_asked (value_asked y.stage)) ≡ request_at points k j) k.points i j (record { stage = Asked value; due = (calls.point_at i k).due }) within
            (λ is. absurd (apart is)) (λ other. refl)

    -- ---- a start

    pub start_queue : (a : Actor) (event : Option ℕ) (e : ℕ) (value : Value) (more : List ℕ) → k.waiting ≡ i ∷ more → k.serving ≡ None → counts q ≡ true → made_by key a ≡ true → kind_of p e ≡ Invoked s
        → QueueStands p s points (with_points (calls.staged i Started k) more (Some i)) (noting a (deed.Start e (Some q) value) event ∷ l)
    start_queue a event e value more first idle joined own kind =
        let x : Point = record { stage = Started; due = (calls.point_at i k).due } in
        let all : AreAsked k.points (i ∷ more) = subst (AreAsked k.points) first stands.asked in
        let absent : list_any (λ j. i == j) more ≡ false = not_again k.points i x more all.distinct in
        let same : map (request_at points after) more ≡ map (request_at points k) more = others_alike (request_at points after) (request_at points k) i more absent others in
        let stood = requests.after_start counts key unstarted served l stands.requests a event e q value (request_at points k i) (map (request_at points k) more) (ap (map (request_at points k)) first) joined own in
        record {
          asked = one_less k.points i x more all;
          requests = subst (λ us. RequestsStand counts key us (Some (number_at points i)) (noting a (deed.Start e (Some q) value) event ∷ l)) (sym same)
              (subst (λ n. RequestsStand counts key (map (request_at points k) more) (Some n) (noting a (deed.Start e (Some q) value) event ∷ l)) (sym number) stood);
          opened = rw kind refl;
          started = λ j. set_point (λ y. is_started y.stage ≡ same_number (Some i) (Some j)) k.points i j x within
              (λ is. sym (eq-eqb i j (sym is)))
              (λ apart. stands.started j ∙ ap (λ o. same_number o (Some j)) idle ∙ sym (apart_numbers i j (λ is. apart (sym is))));
        }
      where
        after : calls.Kept
        after = with_points (calls.staged i Started k) more (Some i)

        others : (j : ℕ) → (j ≡ i → ⊥) → request_at points after j ≡ request_at points k j
        others j apart = set_point (λ y. (number_at points j, words_of_asked (value_asked y.stage)) ≡ request_at points k j) k.points i j (record { stage = Started; due = (calls.point_at i k).due }) within
            (λ is. absurd (apart is)) (λ other. refl)

    -- ---- a Return

    pub return_queue : (a : Actor) (event : Option ℕ) (code : ℕ) (value : Value) → k.serving ≡ Some i → made_by key a ≡ true
        → QueueStands p s points (with_points (set k.points i (record { stage = Returned (record { code = code; value = value }); due = true })) k.waiting None) (noting a (deed.Return code value) event ∷ l)
    return_queue a event code value serving own =
        let x : Point = record { stage = Returned (record { code = code; value = value }); due = true } in
        let on : is_started (calls.point_at i k).stage ≡ true = stands.started i ∙ ap (λ o. same_number o (Some i)) serving ∙ eq-eqb i i refl in
        let asked : value_asked x.stage ≡ value_asked (calls.point_at i k).stage = sym (ap value_asked (started_is (calls.point_at i k).stage on)) in
        record {
          asked = still_asked k.points i x within asked k.waiting stands.asked;
          requests = subst (λ us. RequestsStand counts key us None (noting a (deed.Return code value) event ∷ l))
              (sym (λ t. map (λ j. ap (λ o. (number_at points j, words_of_asked o)) (same_asked k.points i x within asked j) t) k.waiting))
              (requests.after_return counts key unstarted served l stands.requests a event code value own);
          opened = refl;
          started = λ j. set_point (λ y. is_started y.stage ≡ same_number None (Some j)) k.points i j x within (λ is. refl)
              (λ apart. stands.started j ∙ ap (λ o. same_number o (Some j)) serving ∙ apart_numbers i j (λ is. apart (sym is)));
        }
