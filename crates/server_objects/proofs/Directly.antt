-- A direct server: what each entry makes of the requests of each point.
use Rattle.std.proofs.Common.{◌≡◌, ◌<◌, ℕ, ℤ, zero, suc, Bool, true, false, ◌==◌, refl, sym, ◌∙◌, ap, subst, List, [], ◌∷◌, length, get_or, set, Option, Some, None}
use Rattle.bus_semantics.specs.Common.{slice_get, eq-eqb, same_Some, ActKey, Value, words_of, Plan, Noted, Past}
use Rattle.bus_semantics.specs.declared.entries.Actor.{Actor}
use Rattle.bus_semantics.specs.declared.entries.Actor.TheVariants.{Act}
use Rattle.bus_semantics.specs.declared.entries.Deed.TheVariants as deed
use Rattle.client_server.specs.declared.point.Point.{Point}
use Rattle.client_server.specs.declared.point.Stage.TheVariants.{Asked, Started, Returned}
use Rattle.client_server.specs.Kept as calls
use Rattle.client_server.specs.Points.{is_idle, is_started, new_point, value_asked}
use Rattle.object_kinds.proofs.Proper.{noting}
use Rattle.server_objects.specs.Layout.{runnable_in}
use Rattle.server_objects.specs.Standing.{unstarted_at, served_at, RequestsStand, DirectStands}
use Rattle.server_objects.proofs.Facts.{apart_numbers, other_point, other_runnable, own_key, one_place, set_point}
use Rattle.server_objects.proofs.Points.{asked_is, idle_is, started_is}
use Rattle.server_objects.proofs.Requests as requests
use Rattle.object_kinds.specs.Rising.{is_rising}

module _ (p : Plan) (s : ℕ) (points : List ℕ) (k : calls.Kept) (l : Past) (stands : (i q : ℕ) → slice_get points i ≡ Some q → DirectStands p s q (calls.point_at i k) l) where
  abbrev key_of : (point : ℕ) → ActKey
  key_of q = record { runnable = runnable_in p s; point = Some q }

  abbrev All : List Point → Noted → Type 0
  All ts n = (i q : ℕ) → slice_get points i ≡ Some q → DirectStands p s q (get_or ts i new_point) (n ∷ l)

  abbrev Kept : Noted → Type 0
  Kept n = (i q : ℕ) → slice_get points i ≡ Some q → (unstarted : List (ℕ × List ℤ)) (served : Option ℕ) → RequestsStand (λ r. q == r) (key_of q) unstarted served l → RequestsStand (λ r. q == r) (key_of q) unstarted served (n ∷ l)

  -- an entry that changes nothing
  pub same_directly : (n : Noted) → Kept n → All k.points n
  same_directly n kept i q there = kept i q there _ _ (stands i q there)

  -- one that changes a point, but not what is asked for or whether it is started
  pub changed_directly : (n : Noted) (i : ℕ) (x : Point) → i < length k.points → value_asked x.stage ≡ value_asked (calls.point_at i k).stage → is_started x.stage ≡ is_started (calls.point_at i k).stage → Kept n → All (set k.points i x) n
  changed_directly n i x within asked started kept j r there =
      set_point (λ t. DirectStands p s r t (n ∷ l)) k.points i j x within
      (λ is.
      let found = subst (λ m. slice_get points m ≡ Some r) is there in
      subst (λ o. RequestsStand (λ y. r == y) (key_of r) (unstarted_at r o) (served_at r (is_started x.stage)) (n ∷ l)) (sym asked)
      (subst (λ b. RequestsStand (λ y. r == y) (key_of r) (unstarted_at r (value_asked (calls.point_at i k).stage)) (served_at r b) (n ∷ l)) (sym started) (same_directly n kept i r found)))
      (λ apart. same_directly n kept j r there)

  -- an idle, an asked and a started point
  idle_stands : (i q : ℕ) → slice_get points i ≡ Some q → is_idle (calls.point_at i k).stage ≡ true → RequestsStand (λ r. q == r) (key_of q) [] None l
  idle_stands i q there idle = subst (λ t. RequestsStand (λ r. q == r) (key_of q) (unstarted_at q (value_asked t)) (served_at q (is_started t)) l) (idle_is (calls.point_at i k).stage idle) (stands i q there)

  pub asked_stands : (i q : ℕ) (v : Value) → slice_get points i ≡ Some q → value_asked (calls.point_at i k).stage ≡ Some v → RequestsStand (λ r. q == r) (key_of q) ((q, words_of v) ∷ []) None l
  asked_stands i q v there asked = subst (λ t. RequestsStand (λ r. q == r) (key_of q) (unstarted_at q (value_asked t)) (served_at q (is_started t)) l) (asked_is (calls.point_at i k).stage v asked) (stands i q there)

  pub started_stands : (i q : ℕ) → slice_get points i ≡ Some q → is_started (calls.point_at i k).stage ≡ true → RequestsStand (λ r. q == r) (key_of q) [] (Some q) l
  started_stands i q there started = subst (λ t. RequestsStand (λ r. q == r) (key_of q) (unstarted_at q (value_asked t)) (served_at q (is_started t)) l) (started_is (calls.point_at i k).stage started) (stands i q there)

  served_own : (r q : ℕ) (b : Bool) → (r ≡ q → ⊥) → served_at r b ≡ Some q → ⊥
  served_own r q true apart is = apart (same_Some r q is)
  served_own r q false apart is = absurd (cc is)

  module _ (up : is_rising points ≡ true) (i q : ℕ) (there : slice_get points i ≡ Some q) (within : i < length k.points) where
    other_number : (j r : ℕ) → slice_get points j ≡ Some r → (j ≡ i → ⊥) → r ≡ q → ⊥
    other_number j r at apart same = apart (one_place points j i r q up at there same)

    number_is : (j r : ℕ) → slice_get points j ≡ Some r → j ≡ i → r ≡ q
    number_is j r at is = same_Some r q (sym at ∙ ap (slice_get points) is ∙ there)

    pub request_directly : (a : Actor) (event : Option ℕ) (value : Value) → is_idle (calls.point_at i k).stage ≡ true → All (calls.staged i (Asked value) k) (noting a (deed.Ask q value zero) event)
    request_directly a event value idle j r at =
        set_point (λ t. DirectStands p s r t (noting a (deed.Ask q value zero) event ∷ l)) k.points i j (record { stage = Asked value; due = (calls.point_at i k).due }) within
        (λ is. subst (λ m. DirectStands p s m (record { stage = Asked value; due = (calls.point_at i k).due }) (noting a (deed.Ask q value zero) event ∷ l)) (sym (number_is j r at is))
        (requests.after_request (λ y. q == y) (key_of q) [] None l (idle_stands i q there idle) a event q value (eq-eqb q q refl) (λ no. absurd (cc no))))
        (λ apart. requests.after_other_request (λ y. r == y) (key_of r) _ _ l (stands j r at) a event q value (apart_numbers r q (other_number j r at apart))
        (served_own r q (is_started (calls.point_at j k).stage) (other_number j r at apart)))

    pub start_directly : (event : Option ℕ) (e : ℕ) (v value : Value) → value_asked (calls.point_at i k).stage ≡ Some v → All (calls.staged i Started k) (noting (Act (key_of q)) (deed.Start e (Some q) value) event)
    start_directly event e v value asked j r at =
        set_point (λ t. DirectStands p s r t (noting (Act (key_of q)) (deed.Start e (Some q) value) event ∷ l)) k.points i j (record { stage = Started; due = (calls.point_at i k).due }) within
        (λ is. subst (λ m. DirectStands p s m (record { stage = Started; due = (calls.point_at i k).due }) (noting (Act (key_of q)) (deed.Start e (Some q) value) event ∷ l)) (sym (number_is j r at is))
        (requests.after_start (λ y. q == y) (key_of q) ((q, words_of v) ∷ []) None l (asked_stands i q v there asked) (Act (key_of q)) event e q value (q, words_of v) [] refl (eq-eqb q q refl) (own_key (key_of q))))
        (λ apart. requests.after_other_start (λ y. r == y) (key_of r) _ _ l (stands j r at) (Act (key_of q)) event e (Some q) value (apart_numbers r q (other_number j r at apart))
        (other_point (key_of r) (key_of q) (λ same. other_number j r at apart (same_Some r q same))))

    pub return_directly : (event : Option ℕ) (code : ℕ) (value : Value) → is_started (calls.point_at i k).stage ≡ true
        → All (set k.points i (record { stage = Returned (record { code = code; value = value }); due = true })) (noting (Act (key_of q)) (deed.Return code value) event)
    return_directly event code value started j r at =
        set_point (λ t. DirectStands p s r t (noting (Act (key_of q)) (deed.Return code value) event ∷ l)) k.points i j (record { stage = Returned (record { code = code; value = value }); due = true }) within
        (λ is. subst (λ m. DirectStands p s m (record { stage = Returned (record { code = code; value = value }); due = true }) (noting (Act (key_of q)) (deed.Return code value) event ∷ l)) (sym (number_is j r at is))
        (requests.after_return (λ y. q == y) (key_of q) [] (Some q) l (started_stands i q there started) (Act (key_of q)) event code value (own_key (key_of q))))
        (λ apart. requests.after_other_return (λ y. r == y) (key_of r) _ _ l (stands j r at) (Act (key_of q)) event code value
        (other_point (key_of r) (key_of q) (λ same. other_number j r at apart (same_Some r q same))))

  -- ---- entries that are nobody's request

  pub answer_keeps : (a : Actor) (event : Option ℕ) (q code : ℕ) (value : Value) → Kept (noting a (deed.Answer q code value) event)
  answer_keeps a event q code value i r there unstarted served before = requests.after_answer (λ y. r == y) (key_of r) unstarted served l before a event q code value

  pub result_keeps : (a : Actor) (event : Option ℕ) (q code : ℕ) (value : Value) → Kept (noting a (deed.TakeResult q code value) event)
  result_keeps a event q code value i r there unstarted served before = requests.after_result (λ y. r == y) (key_of r) unstarted served l before a event q code value

  pub refusal_keeps : (a : Actor) (event : Option ℕ) (q code : ℕ) (value : Value) → Kept (noting a (deed.Ask q value (suc code)) event)
  refusal_keeps a event q code value i r there unstarted served before = requests.after_refusal (λ y. r == y) (key_of r) unstarted served l before a event q code value

  pub return_start_keeps : (key : ActKey) (event : Option ℕ) (e : ℕ) (value : Value) → (runnable_in p s ≡ key.runnable → ⊥) → Kept (noting (Act key) (deed.Start e None value) event)
  return_start_keeps key event e value apart i r there unstarted served before =
      requests.after_other_start (λ y. r == y) (key_of r) unstarted served l before (Act key) event e None value refl (other_runnable (key_of r) key apart)
