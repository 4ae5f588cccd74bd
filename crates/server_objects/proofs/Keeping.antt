-- What a server keeps after each of its entries is what the definitions give from its past and the entry.
use Rattle.std.proofs.Common.{◌≡◌, ◌<◌, ℕ, zero, suc, Bool, true, false, ◌&&◌, ◌==◌, if◌then◌else◌, refl, sym, ◌∙◌, ap, subst, arith, List, [], ◌∷◌, ◌++◌, length, get_or, set, Option, Some}
use Rattle.std.proofs.Common.{None, is_some}
use Rattle.std.specs.Prelude.{nat_lt}
use Rattle.bus_semantics.specs.Common.{slice_get, and_parts, eq-eqb, eqb-true, length-set, same_Some, slice_get_within, ActKey, Value, words_of, same_number, Plan, server_of, kind_of, Noted}
use Rattle.bus_semantics.specs.Common.{Past, made_by, serves, is_start_by_return_of}
use Rattle.bus_semantics.specs.declared.plan.EventKind.TheVariants.{Invoked, Returns}
use Rattle.bus_semantics.specs.declared.entries.Actor.{Actor}
use Rattle.bus_semantics.specs.declared.entries.Actor.TheVariants.{Act}
use Rattle.bus_semantics.specs.declared.entries.Deed.TheVariants as deed
use Rattle.client_server.specs.declared.point.Outcome.{Outcome}
use Rattle.client_server.specs.declared.point.Point.{Point}
use Rattle.client_server.specs.declared.point.Stage.TheVariants.{Idle, Asked, Started, Returned}
use Rattle.client_server.specs.Kept as calls
use Rattle.client_server.specs.Points.{is_idle, is_started, new_point, outcome_in, value_asked}
use Rattle.object_kinds.specs.Rising.{is_rising}
use Rattle.object_kinds.proofs.Proper.{noting}
use Rattle.server_objects.specs.Kept.{Kept}
use Rattle.server_objects.specs.Layout.{server_in, runnable_in, is_joined_to}
use Rattle.server_objects.specs.Leading.{with_served}
use Rattle.server_objects.specs.Standing.{is_returnable, PointStands, QueueStands, DirectStands, CallsStand, Keeps}
use Rattle.server_objects.proofs.Facts.{apart_numbers, one_place, other_runnable, own_key, points_joined, points_rise, set_point}
use Rattle.server_objects.proofs.Points as point
use Rattle.server_objects.proofs.Queued as queued
use Rattle.server_objects.proofs.Directly as directly
use Rattle.server_objects.proofs.Requests as requests

no_test : (b : Bool) → (b && false) ≡ false
no_test true = refl
no_test false = refl

module _ (p : Plan) (object : ℕ) (k : Kept) (l : Past) (keeps : Keeps p object k l) where
  abbrev s : ℕ
  s = server_in p object

  abbrev At : calls.Kept → Past → Type 0
  At c h = Keeps p object (with_served k c) h

  abbrev with_points : List Point → (waiting : List ℕ) → (serving : Option ℕ) → calls.Kept
  with_points ts waiting serving = record { queue = k.served.queue; waiting = waiting; serving = serving; points = ts }

  pub rise : is_rising k.points ≡ true
  rise = points_rise p s k.points keeps.points

  pub within : (i q : ℕ) → slice_get k.points i ≡ Some q → i < length k.served.points
  within i q there = let inside : i < length k.points = slice_get_within k.points i q there in omega (arith, keeps.many)

  pub joined : (i q : ℕ) → slice_get k.points i ≡ Some q → server_of p q ≡ Some s
  joined i q there = points_joined p s k.points i q keeps.points there

  pub counted : (i q : ℕ) → slice_get k.points i ≡ Some q → is_joined_to p s q ≡ true
  counted i q there = ap (λ o. same_number o (Some s)) (joined i q there) ∙ eq-eqb s s refl

  abbrev Each : List Point → Past → Type 0
  Each ts h = (j r : ℕ) → slice_get k.points j ≡ Some r → PointStands p r (get_or ts j new_point) h

  -- what is kept after an entry, by its parts
  with_calls : (c : calls.Kept) (n : Noted) → c.queue ≡ k.served.queue → length c.points ≡ length k.served.points → Each c.points (n ∷ l) → CallsStand k.served.queue p s k.points c (n ∷ l) → At c (n ∷ l)
  with_calls c n queue many each stands = record {
    is_server = keeps.is_server;
    points = keeps.points;
    event = keeps.event;
    returns = keeps.returns;
    awaited = keeps.awaited;
    queue = queue ∙ keeps.queue;
    many = many ∙ keeps.many;
    each = each;
    calls_stand = subst (λ o. CallsStand o p s k.points c (n ∷ l)) (sym queue) stands;
  }

  -- the two kinds of servers
  by_kind : (c : calls.Kept) (h : Past) → ((most : ℕ) → k.served.queue ≡ Some most → QueueStands p s k.points k.served l → QueueStands p s k.points c h)
      → (k.served.queue ≡ None → ((i q : ℕ) → slice_get k.points i ≡ Some q → DirectStands p s q (calls.point_at i k.served) l) → (i q : ℕ) → slice_get k.points i ≡ Some q → DirectStands p s q (calls.point_at i c) h)
      → CallsStand k.served.queue p s k.points c h
  by_kind c h by_queue direct = by_option k.served.queue refl
    where
      by_option : (o : Option ℕ) → k.served.queue ≡ o → CallsStand o p s k.points c h
      by_option None is = direct is (subst (λ o. CallsStand o p s k.points k.served l) is keeps.calls_stand)
      by_option (Some most) is = by_queue most is (subst (λ o. CallsStand o p s k.points k.served l) is keeps.calls_stand)

  -- one point is changed, and the others go on
  one_changed : (n : Noted) (i q : ℕ) (x : Point) → slice_get k.points i ≡ Some q → PointStands p q x (n ∷ l) → ((j r : ℕ) → slice_get k.points j ≡ Some r → (r ≡ q → ⊥) → PointStands p r (calls.point_at j k.served) (n ∷ l))
      → Each (set k.served.points i x) (n ∷ l)
  one_changed n i q x there own others j r at = set_point (λ t. PointStands p r t (n ∷ l)) k.served.points i j x (within i q there)
      (λ is. subst (λ m. PointStands p m x (n ∷ l)) (same_Some q r (sym there ∙ ap (slice_get k.points) (sym is) ∙ at)) own)
      (λ apart. others j r at (λ same. apart (one_place k.points j i r q rise at there same)))

  -- ---- an Ask

  module _ (a : Actor) (event : Option ℕ) where
    request_keeps : (i q : ℕ) (value : Value) → slice_get k.points i ≡ Some q → is_idle (calls.point_at i k.served).stage ≡ true → At (calls.with_request i value k.served) (noting a (deed.Ask q value zero) event ∷ l)
    request_keeps i q value there idle =
        let n = noting a (deed.Ask q value zero) event in
        let x : Point = record { stage = Asked value; due = (calls.point_at i k.served).due } in
        with_calls (calls.with_request i value k.served) n refl (length-set k.served.points i x)
        (one_changed n i q x there (point.requested p q (calls.point_at i k.served) l (keeps.each i q there) a event value)
        (λ j r at apart. let off = apart_numbers r q apart in
        point.unmoved p r (calls.point_at j k.served) l (keeps.each j r at) n off refl (λ t. if off t then Some (words_of value) else None) (point.returns_none r a (deed.Ask q value zero) l refl) refl))
        (by_kind (calls.with_request i value k.served) (n ∷ l)
        (λ most is stands.
        subst (λ o. QueueStands p s k.points (record { queue = k.served.queue; waiting = if is_some o then k.served.waiting ++ i ∷ [] else k.served.waiting; serving = k.served.serving; points = calls.staged i (Asked value) k.served }) (n ∷ l)) (sym is)
        (queued.request_queue p s k.points k.served l stands i q there (within i q there) a event value (counted i q there) idle
        (queued.not_served p s k.points k.served l stands i q there (within i q there) rise keeps.many idle)))
        (λ is stands. directly.request_directly p s k.points k.served l stands rise i q there (within i q there) a event value idle))

    refusal_keeps : (q code : ℕ) (value : Value) → At k.served (noting a (deed.Ask q value (suc code)) event ∷ l)
    refusal_keeps q code value =
        let n = noting a (deed.Ask q value (suc code)) event in
        with_calls k.served n refl refl
        (λ j r at. point.unmoved p r (calls.point_at j k.served) l (keeps.each j r at) n refl refl refl (point.returns_none r a (deed.Ask q value (suc code)) l refl) refl)
        (by_kind k.served (n ∷ l)
        (λ most is stands. queued.same_queue p s k.points k.served l stands n (requests.after_refusal _ _ _ _ l stands.requests a event q code value) refl)
        (λ is stands. directly.same_directly p s k.points k.served l stands n (directly.refusal_keeps p s k.points k.served l stands a event q code value)))

    pub ask_keeps : (i q code : ℕ) (value : Value) → slice_get k.points i ≡ Some q → (code == calls.answer_to_ask i k.served) ≡ true → At (calls.after_ask i value k.served) (noting a (deed.Ask q value code) event ∷ l)
    ask_keeps i q code value there answer = by_test (calls.accepts i k.served) refl
      where
        by_test : (b : Bool) → calls.accepts i k.served ≡ b → At (calls.after_ask i value k.served) (noting a (deed.Ask q value code) event ∷ l)
        by_test true is =
            let none : code ≡ 0 = eqb-true code (calls.answer_to_ask i k.served) answer ∙ (λ t. if is t then 0 else 130) in
            subst (λ c. At c (noting a (deed.Ask q value code) event ∷ l)) (sym (λ t. if is t then calls.with_request i value k.served else k.served))
            (subst (λ z. At (calls.with_request i value k.served) (noting a (deed.Ask q value z) event ∷ l)) (sym none)
            (request_keeps i q value there (and_parts (is_idle (calls.point_at i k.served).stage) (calls.has_place k.served) is).0))
        by_test false is =
            let limit : code ≡ 130 = eqb-true code (calls.answer_to_ask i k.served) answer ∙ (λ t. if is t then 0 else 130) in
            subst (λ c. At c (noting a (deed.Ask q value code) event ∷ l)) (sym (λ t. if is t then calls.with_request i value k.served else k.served))
            (subst (λ z. At k.served (noting a (deed.Ask q value z) event ∷ l)) (sym limit) (refusal_keeps q 129 value))

    -- ---- an Answer or a result

    -- an entry by which the outcome of a point is taken
    taken_keeps : (n : Noted) (i q : ℕ) (o : Outcome) → slice_get k.points i ≡ Some q → outcome_in (calls.point_at i k.served).stage ≡ Some o
        → PointStands p q (record { stage = Idle; due = (calls.point_at i k.served).due }) (n ∷ l)
        → ((j r : ℕ) → slice_get k.points j ≡ Some r → (r ≡ q → ⊥) → PointStands p r (calls.point_at j k.served) (n ∷ l))
        → (QueueStands p s k.points k.served l → QueueStands p s k.points (with_points (calls.staged i Idle k.served) k.served.waiting k.served.serving) (n ∷ l))
        → (((j r : ℕ) → slice_get k.points j ≡ Some r → DirectStands p s r (calls.point_at j k.served) l) → (j r : ℕ) → slice_get k.points j ≡ Some r → DirectStands p s r (get_or (calls.staged i Idle k.served) j new_point) (n ∷ l))
        → At (with_points (calls.staged i Idle k.served) k.served.waiting k.served.serving) (n ∷ l)
    taken_keeps n i q o there outcome own others by_queue direct =
        let c = with_points (calls.staged i Idle k.served) k.served.waiting k.served.serving in
        with_calls c n refl (length-set k.served.points i (record { stage = Idle; due = (calls.point_at i k.served).due }))
        (one_changed n i q (record { stage = Idle; due = (calls.point_at i k.served).due }) there own others)
        (by_kind c (n ∷ l) (λ most is stands. by_queue stands) (λ is stands. direct stands))

    pub hear_keeps : (i q code : ℕ) (value : Value) (o : Outcome) → slice_get k.points i ≡ Some q → outcome_in (calls.point_at i k.served).stage ≡ Some o
        → At (with_points (calls.staged i Idle k.served) k.served.waiting k.served.serving) (noting a (deed.Answer q code value) event ∷ l)
    hear_keeps i q code value o there outcome =
        let n = noting a (deed.Answer q code value) event in
        let back = point.returned_is (calls.point_at i k.served).stage o outcome in
        let x : Point = record { stage = Idle; due = (calls.point_at i k.served).due } in
        taken_keeps n i q o there outcome
        (point.answered p q (calls.point_at i k.served) l (keeps.each i q there) n refl (eq-eqb q q refl) refl refl)
        (λ j r at apart. point.unmoved p r (calls.point_at j k.served) l (keeps.each j r at) n refl (apart_numbers r q apart) refl (point.returns_none r a (deed.Answer q code value) l refl) refl)
        (λ stands. queued.changed_queue p s k.points k.served l stands n i x (within i q there) (sym (ap value_asked back)) (sym (ap is_started back)) (requests.after_answer _ _ _ _ l stands.requests a event q code value) refl)
        (λ stands. directly.changed_directly p s k.points k.served l stands n i x (within i q there) (sym (ap value_asked back)) (sym (ap is_started back)) (directly.answer_keeps p s k.points k.served l stands a event q code value))

    pub result_keeps : (i q code : ℕ) (value : Value) (o : Outcome) → slice_get k.points i ≡ Some q → outcome_in (calls.point_at i k.served).stage ≡ Some o → code ≡ o.code
        → At (with_points (calls.staged i Idle k.served) k.served.waiting k.served.serving) (noting a (deed.TakeResult q code value) event ∷ l)
    result_keeps i q code value o there outcome same =
        let n = noting a (deed.TakeResult q code value) event in
        let stood = keeps.each i q there in
        let back = point.returned_is (calls.point_at i k.served).stage o outcome in
        let few : nat_lt o.code 64 ≡ true = few_is o outcome stood.code in
        let x : Point = record { stage = Idle; due = (calls.point_at i k.served).due } in
        taken_keeps n i q o there outcome
        (point.answered p q (calls.point_at i k.served) l stood n refl (λ t. eq-eqb q q refl t && (ap (λ c. nat_lt c 64) same ∙ few) t) refl refl)
        (λ j r at apart. point.unmoved p r (calls.point_at j k.served) l (keeps.each j r at) n refl (ap (λ b. b && nat_lt code 64) (apart_numbers r q apart)) refl (point.returns_none r a (deed.TakeResult q code value) l refl) refl)
        (λ stands. queued.changed_queue p s k.points k.served l stands n i x (within i q there) (sym (ap value_asked back)) (sym (ap is_started back)) (requests.after_result _ _ _ _ l stands.requests a event q code value) refl)
        (λ stands. directly.changed_directly p s k.points k.served l stands n i x (within i q there) (sym (ap value_asked back)) (sym (ap is_started back)) (directly.result_keeps p s k.points k.served l stands a event q code value))
      where
        few_is : (o : Outcome) → outcome_in (calls.point_at i k.served).stage ≡ Some o → is_returnable (outcome_in (calls.point_at i k.served).stage) ≡ true → nat_lt o.code 64 ≡ true
        few_is o is few = subst (λ (x : Option Outcome). is_returnable x ≡ true) is few

    pub no_result_keeps : (q code : ℕ) (value : Value) → code ≡ 131 → At k.served (noting a (deed.TakeResult q code value) event ∷ l)
    no_result_keeps q code value same =
        let n = noting a (deed.TakeResult q code value) event in
        with_calls k.served n refl refl
        (λ j r at. point.unmoved p r (calls.point_at j k.served) l (keeps.each j r at) n refl (ap (λ c. (r == q) && nat_lt c 64) same ∙ no_test (r == q)) refl (point.returns_none r a (deed.TakeResult q code value) l refl) refl)
        (by_kind k.served (n ∷ l)
        (λ most is stands. queued.same_queue p s k.points k.served l stands n (requests.after_result _ _ _ _ l stands.requests a event q code value) refl)
        (λ is stands. directly.same_directly p s k.points k.served l stands n (directly.result_keeps p s k.points k.served l stands a event q code value)))

  -- ---- a start of the server

  module _ (key : ActKey) (event : Option ℕ) where
    -- a start by the server's event is by none of the return events
    not_by_return : (e : ℕ) (point : Option ℕ) (value : Value) → kind_of p e ≡ Invoked s → (r : ℕ) → is_start_by_return_of p r (noting (Act key) (deed.Start e point value) event) ≡ false
    not_by_return e point value kind r = rw kind refl

    starts_each : (e i q : ℕ) (v value : Value) → kind_of p e ≡ Invoked s → slice_get k.points i ≡ Some q → value_asked (calls.point_at i k.served).stage ≡ Some v
        → Each (calls.staged i Started k.served) (noting (Act key) (deed.Start e (Some q) value) event ∷ l)
    starts_each e i q v value kind there asked =
        let n = noting (Act key) (deed.Start e (Some q) value) event in
        let is = point.asked_is (calls.point_at i k.served).stage v asked in
        let x : Point = record { stage = Started; due = (calls.point_at i k.served).due } in
        one_changed n i q x there
        (point.unmoved p q x l (point.restaged p q (calls.point_at i k.served) l (keeps.each i q there) Started (sym (ap is_idle is)) refl (sym (ap outcome_in is))) n refl refl refl refl (not_by_return e (Some q) value kind q))
        (λ j r at apart. point.unmoved p r (calls.point_at j k.served) l (keeps.each j r at) n refl refl refl refl (not_by_return e (Some q) value kind r))

    pub next_keeps : (most e i q : ℕ) (v value : Value) (more : List ℕ) → k.served.queue ≡ Some most → kind_of p e ≡ Invoked s → slice_get k.points i ≡ Some q → value_asked (calls.point_at i k.served).stage ≡ Some v
        → k.served.waiting ≡ i ∷ more → k.served.serving ≡ None → key ≡ record { runnable = runnable_in p s; point = None }
        → At (with_points (calls.staged i Started k.served) more (Some i)) (noting (Act key) (deed.Start e (Some q) value) event ∷ l)
    next_keeps most e i q v value more queue kind there asked first idle own =
        let n = noting (Act key) (deed.Start e (Some q) value) event in
        let c = with_points (calls.staged i Started k.served) more (Some i) in
        with_calls c n refl (length-set k.served.points i (record { stage = Started; due = (calls.point_at i k.served).due }))
        (starts_each e i q v value kind there asked)
        (by_kind c (n ∷ l)
        (λ most is stands. queued.start_queue p s k.points k.served l stands i q there (within i q there) (Act key) event e value more first idle (counted i q there)
        (subst (λ z. made_by (record { runnable = runnable_in p s; point = None }) (Act z) ≡ true) (sym own) (own_key (record { runnable = runnable_in p s; point = None }))) kind)
        (λ is. absurd (cc (sym is ∙ queue))))

    pub direct_keeps : (e i q : ℕ) (v value : Value) → k.served.queue ≡ None → kind_of p e ≡ Invoked s → slice_get k.points i ≡ Some q → value_asked (calls.point_at i k.served).stage ≡ Some v
        → key ≡ record { runnable = runnable_in p s; point = Some q }
        → At (with_points (calls.staged i Started k.served) k.served.waiting k.served.serving) (noting (Act key) (deed.Start e (Some q) value) event ∷ l)
    direct_keeps e i q v value queue kind there asked own =
        let n = noting (Act key) (deed.Start e (Some q) value) event in
        let c = with_points (calls.staged i Started k.served) k.served.waiting k.served.serving in
        with_calls c n refl (length-set k.served.points i (record { stage = Started; due = (calls.point_at i k.served).due }))
        (starts_each e i q v value kind there asked)
        (by_kind c (n ∷ l)
        (λ most is. absurd (cc (sym is ∙ queue)))
        (λ is stands. subst (λ z. (j r : ℕ) → slice_get k.points j ≡ Some r → DirectStands p s r (get_or (calls.staged i Started k.served) j new_point) (noting (Act z) (deed.Start e (Some q) value) event ∷ l)) (sym own)
        (directly.start_directly p s k.points k.served l stands rise i q there (within i q there) event e v value asked)))

    -- ---- a Return

    -- the activation serves the point that the request of is started
    pub record Serves (i q : ℕ) : Type 0 where
      pub there : slice_get k.points i ≡ Some q
      pub started : is_started (calls.point_at i k.served).stage ≡ true
      pub own : (r : ℕ) → serves r key l ≡ (q == r)

    returns_each : (i q code : ℕ) (value : Value) → Serves i q → nat_lt code 64 ≡ true
        → Each (set k.served.points i (record { stage = Returned (record { code = code; value = value }); due = true })) (noting (Act key) (deed.Return code value) event ∷ l)
    returns_each i q code value of few =
        let n = noting (Act key) (deed.Return code value) event in
        one_changed n i q (record { stage = Returned (record { code = code; value = value }); due = true }) of.there
        (point.returned p q (calls.point_at i k.served) l (keeps.each i q of.there) key event code value of.started (of.own q ∙ eq-eqb q q refl) few)
        (λ j r at apart.
        let other : serves r key l ≡ false = of.own r ∙ apart_numbers q r (λ same. apart (sym same)) in
        point.unmoved p r (calls.point_at j k.served) l (keeps.each j r at) n refl refl refl (λ t. if other t then Some (code, words_of value) else None) refl)

    pub next_return_keeps : (most i q code : ℕ) (value : Value) → k.served.queue ≡ Some most → k.served.serving ≡ Some i → Serves i q → nat_lt code 64 ≡ true → key ≡ record { runnable = runnable_in p s; point = None }
        → At (with_points (set k.served.points i (record { stage = Returned (record { code = code; value = value }); due = true })) k.served.waiting None) (noting (Act key) (deed.Return code value) event ∷ l)
    next_return_keeps most i q code value queue serving of few own =
        let n = noting (Act key) (deed.Return code value) event in
        let x : Point = record { stage = Returned (record { code = code; value = value }); due = true } in
        let c = with_points (set k.served.points i x) k.served.waiting None in
        with_calls c n refl (length-set k.served.points i x) (returns_each i q code value of few)
        (by_kind c (n ∷ l)
        (λ most is stands. queued.return_queue p s k.points k.served l stands i q of.there (within i q of.there) (Act key) event code value serving
        (subst (λ z. made_by (record { runnable = runnable_in p s; point = None }) (Act z) ≡ true) (sym own) (own_key (record { runnable = runnable_in p s; point = None }))))
        (λ is. absurd (cc (sym is ∙ queue))))

    pub direct_return_keeps : (i q code : ℕ) (value : Value) (serving : Option ℕ) → k.served.queue ≡ None → Serves i q → nat_lt code 64 ≡ true → key ≡ record { runnable = runnable_in p s; point = Some q }
        → At (with_points (set k.served.points i (record { stage = Returned (record { code = code; value = value }); due = true })) k.served.waiting serving) (noting (Act key) (deed.Return code value) event ∷ l)
    direct_return_keeps i q code value serving queue of few own =
        let n = noting (Act key) (deed.Return code value) event in
        let x : Point = record { stage = Returned (record { code = code; value = value }); due = true } in
        let c = with_points (set k.served.points i x) k.served.waiting serving in
        with_calls c n refl (length-set k.served.points i x) (returns_each i q code value of few)
        (by_kind c (n ∷ l)
        (λ most is. absurd (cc (sym is ∙ queue)))
        (λ is stands. subst (λ z. (j r : ℕ) → slice_get k.points j ≡ Some r → DirectStands p s r (get_or (set k.served.points i x) j new_point) (noting (Act z) (deed.Return code value) event ∷ l)) (sym own)
        (directly.return_directly p s k.points k.served l stands rise i q of.there (within i q of.there) event code value of.started)))

    -- ---- a start by a return event

    pub return_start_keeps : (e i q : ℕ) (value : Value) → kind_of p e ≡ Returns q → slice_get k.points i ≡ Some q → (runnable_in p s ≡ key.runnable → ⊥) → At (calls.after_return_start i k.served) (noting (Act key) (deed.Start e None value) event ∷ l)
    return_start_keeps e i q value kind there apart =
        let n = noting (Act key) (deed.Start e None value) event in
        let x : Point = record { stage = (calls.point_at i k.served).stage; due = false } in
        let by : (r : ℕ) → is_start_by_return_of p r n ≡ (r == q) = λ r. rw kind refl in
        with_calls (calls.after_return_start i k.served) n refl (length-set k.served.points i x)
        (one_changed n i q x there (point.return_started p q (calls.point_at i k.served) l (keeps.each i q there) (Act key) event e None value (by q ∙ eq-eqb q q refl))
        (λ j r at other. point.unmoved p r (calls.point_at j k.served) l (keeps.each j r at) n refl refl refl refl (by r ∙ apart_numbers r q other)))
        (by_kind (calls.after_return_start i k.served) (n ∷ l)
        (λ most is stands. queued.changed_queue p s k.points k.served l stands n i x (within i q there) refl refl
        (requests.after_other_start _ _ _ _ l stands.requests (Act key) event e None value refl (other_runnable (record { runnable = runnable_in p s; point = None }) key apart)) (rw kind refl))
        (λ is stands. directly.changed_directly p s k.points k.served l stands n i x (within i q there) refl refl (directly.return_start_keeps p s k.points k.served l stands key event e value apart)))
