-- A start goes by its flag, and only an Ask or a Return sets one.
use Rattle.std.proofs.Common.{◌≡◌, ℕ, zero, suc, Bool, true, false, ◌&&◌, ◌==◌, if◌then◌else◌, refl, sym, ◌∙◌, ap, subst, List, [], ◌∷◌, get_or, set, Option, Some, None, is_some}
use Rattle.std.specs.Prelude.{option_map, option_and_then, unwrap_or}
use Rattle.bus_semantics.specs.Common.{slice_get, false≢true, Value, words_of, same_words, same_number, plain_key, to_start, wanted_by}
use Rattle.bus_semantics.specs.declared.entries.Actor.{Actor}
use Rattle.bus_semantics.specs.declared.entries.Actor.TheVariants.{Env, Machine, Act}
use Rattle.bus_semantics.specs.declared.entries.Deed.{Deed}
use Rattle.bus_semantics.specs.declared.entries.Deed.TheVariants as deed
use Rattle.client_server.specs.declared.point.Point.{Point}
use Rattle.client_server.specs.declared.point.Request.{Request}
use Rattle.client_server.specs.declared.point.Stage.{Stage}
use Rattle.client_server.specs.declared.point.Stage.TheVariants.{Idle, Started}
use Rattle.client_server.specs.Kept as calls
use Rattle.client_server.specs.Points.{new_point, outcome_in, value_asked}
use Rattle.object_kinds.specs.Common.{StartsByFlag, OthersWakeNothing, given, place}
use Rattle.object_kinds.proofs.Options.{given_some, given_none, then_some, mapped_some}
use Rattle.server_objects.specs.Kept.{Kept, awaited_at, is_due_at, is_returned_at, has_next, may_start}
use Rattle.server_objects.specs.Leading.{is_outcome, is_result, own_place, started_server, started_return, lead_of_start, lead_of_server, with_served, lead, wakes}
use Rattle.server_objects.proofs.Next.{next_start}

-- ---- a start that is not pending

pub no_start : (k : calls.Kept) → is_some (calls.next_point k) ≡ false → calls.starting k ≡ None
no_start k none = by_point (calls.next_point k) refl none
  where
    by_point : (o : Option ℕ) → calls.next_point k ≡ o → is_some o ≡ false → calls.starting k ≡ None
    by_point None is e = rw is refl
    by_point (Some i) is e = absurd (false≢true (sym e))

not_returned : (k : calls.Kept) (at : Option ℕ) → is_due_at k at ≡ false → started_return k at ≡ None
not_returned k None off = refl
not_returned k (Some i) off = given_none (calls.point_at i k).due (calls.after_return_start i k) off

server_off : (k : Kept) (point : Option ℕ) (value : Value) (o : Option ℕ) → k.served.queue ≡ o → has_next k.served ≡ false → started_server o k None point value ≡ None
server_off k point value None is off = refl
server_off k point value (Some most) is off =
    let none : is_some (calls.next_point k.served) ≡ false = sym (ap (λ o. is_some o && is_some (calls.next_point k.served)) is) ∙ off in
    ap (option_and_then (λ (r : Request). given (same_number point (slice_get k.points r.point) && same_words (words_of value) (words_of r.value)) (calls.after_start k.served))) (no_start k.served none)

pub plain_off : (k : Kept) (event : ℕ) (point : Option ℕ) (value : Value) → may_start k event ≡ false → lead_of_start k None event point value ≡ None
plain_off k event point value off = by_event (event == k.event) off
  where
    by_event : (b : Bool) → (if b then has_next k.served else is_due_at k.served (awaited_at k event)) ≡ false → (if b then started_server k.served.queue k None point value else started_return k.served (awaited_at k event)) ≡ None
    by_event true off = server_off k point value k.served.queue refl off
    by_event false off = not_returned k.served (awaited_at k event) off

plain_deed : (k : Kept) (d : Deed) (runnable by event : ℕ) → may_start k event ≡ false → wanted_by by d ≡ to_start event → lead_of_server k d (Act (plain_key runnable)) ≡ None
plain_deed k (deed.Start e point value) runnable by event off same = let is : e ≡ event = cc in plain_off k e point value (ap (may_start k) is ∙ off)
plain_deed k d runnable by event off same = absurd (cc same)

pub by_flags : StartsByFlag may_start lead
by_flags k event n off start =
    ap (option_map (with_served k)) (ap (lead_of_server k n.entry.deed) start.actor ∙ plain_deed k n.entry.deed start.runnable (unwrap_or n.event 0) event off start.wish)

-- ---- the flags of points

pub same_due : (ts : List Point) (i j : ℕ) (s : Stage) → (get_or (set ts i (record { stage = s; due = (get_or ts i new_point).due })) j new_point).due ≡ (get_or ts j new_point).due
same_due [] i j s = refl
same_due (t ∷ ts) zero zero s = refl
same_due (t ∷ ts) zero (suc j) s = refl
same_due (t ∷ ts) (suc i) zero s = refl
same_due (t ∷ ts) (suc i) (suc j) s = same_due ts i j s

pub cleared_due : (ts : List Point) (i j : ℕ) (s : Stage) → (get_or ts j new_point).due ≡ false → (get_or (set ts i (record { stage = s; due = false })) j new_point).due ≡ false
cleared_due [] i j s off = off
cleared_due (t ∷ ts) zero zero s off = refl
cleared_due (t ∷ ts) zero (suc j) s off = off
cleared_due (t ∷ ts) (suc i) zero s off = off
cleared_due (t ∷ ts) (suc i) (suc j) s off = cleared_due ts i j s off

-- ---- what may be heard

kept_stage : (ts : List Point) (i j : ℕ) (due : Bool) → (get_or (set ts i (record { stage = (get_or ts i new_point).stage; due = due })) j new_point).stage ≡ (get_or ts j new_point).stage
kept_stage [] i j due = refl
kept_stage (t ∷ ts) zero zero due = refl
kept_stage (t ∷ ts) zero (suc j) due = refl
kept_stage (t ∷ ts) (suc i) zero due = refl
kept_stage (t ∷ ts) (suc i) (suc j) due = kept_stage ts i j due

none_set : (ts : List Point) (i j : ℕ) (x : Point) → is_some (outcome_in x.stage) ≡ false → is_some (outcome_in (get_or ts j new_point).stage) ≡ false → is_some (outcome_in (get_or (set ts i x) j new_point).stage) ≡ false
none_set [] i j x none off = off
none_set (t ∷ ts) zero zero x none off = none
none_set (t ∷ ts) zero (suc j) x none off = off
none_set (t ∷ ts) (suc i) zero x none off = off
none_set (t ∷ ts) (suc i) (suc j) x none off = none_set ts i j x none off

-- a point comes to a stage in which nothing was returned
pub hushed : (k c : calls.Kept) (i : ℕ) (s : Stage) → c.points ≡ calls.staged i s k → is_some (outcome_in s) ≡ false → (at : Option ℕ) → is_returned_at k at ≡ false → is_returned_at c at ≡ false
hushed k c i s points none None off = refl
hushed k c i s points none (Some j) off = ap (λ (ts : List Point). is_some (outcome_in (get_or ts j new_point).stage)) points ∙ none_set k.points i j (record { stage = s; due = (calls.point_at i k).due }) none off

-- ---- what other entries leave

pub record Leaves (k c : calls.Kept) : Type 0 where
  pub next : has_next k ≡ false → has_next c ≡ false
  pub due : (at : Option ℕ) → is_due_at k at ≡ false → is_due_at c at ≡ false
  pub hush : (at : Option ℕ) → is_returned_at k at ≡ false → is_returned_at c at ≡ false

due_staged : (k : calls.Kept) (i : ℕ) (s : Stage) (queue : Option ℕ) (waiting : List ℕ) (serving : Option ℕ) (at : Option ℕ) → is_due_at k at ≡ false → is_due_at (record { queue = queue; waiting = waiting; serving = serving; points = calls.staged i s k }) at ≡ false
due_staged k i s queue waiting serving None off = refl
due_staged k i s queue waiting serving (Some j) off = same_due k.points i j s ∙ off

answer_leaves : (k : calls.Kept) (i : ℕ) → Leaves k (calls.after_answer i k)
answer_leaves k i = by_outcome (is_some (outcome_in (calls.point_at i k).stage)) refl
  where
    by_outcome : (b : Bool) → is_some (outcome_in (calls.point_at i k).stage) ≡ b → Leaves k (calls.after_answer i k)
    by_outcome true is = subst (Leaves k) (sym (taken is)) (record { next = λ off. off; due = due_staged k i Idle k.queue k.waiting k.serving; hush = hushed k (record { queue = k.queue; waiting = k.waiting; serving = k.serving; points = calls.staged i Idle k }) i Idle refl refl })
      where
        taken : is_some (outcome_in (calls.point_at i k).stage) ≡ true → calls.after_answer i k ≡ record { queue = k.queue; waiting = k.waiting; serving = k.serving; points = calls.staged i Idle k }
        taken is = rw is refl
    by_outcome false is = subst (Leaves k) (sym (left is)) (record { next = λ off. off; due = λ at off. off; hush = λ at off. off })
      where
        left : is_some (outcome_in (calls.point_at i k).stage) ≡ false → calls.after_answer i k ≡ k
        left is = rw is refl

start_leaves : (k : calls.Kept) (r : Request) → calls.starting k ≡ Some r → Leaves k (calls.after_start k)
start_leaves k r starts =
    let next = next_start k r starts in
    subst (Leaves k) (sym next.after) (record { next = λ off. none k.queue; due = due_staged k r.point Started k.queue next.more (Some r.point); hush = hushed k (record { queue = k.queue; waiting = next.more; serving = Some r.point; points = calls.staged r.point Started k }) r.point Started refl refl })
  where
    none : (o : Option ℕ) → (is_some o && false) ≡ false
    none None = refl
    none (Some n) = refl

direct_leaves : (k : calls.Kept) (i : ℕ) (v : Value) → k.queue ≡ None → value_asked (calls.point_at i k).stage ≡ Some v → Leaves k (calls.after_direct_start i k)
direct_leaves k i v queue is =
    let started : calls.after_direct_start i k ≡ record { queue = k.queue; waiting = k.waiting; serving = k.serving; points = calls.staged i Started k } = rw is refl in
    subst (Leaves k) (sym started) (record { next = λ off. off; due = due_staged k i Started k.queue k.waiting k.serving; hush = hushed k (record { queue = k.queue; waiting = k.waiting; serving = k.serving; points = calls.staged i Started k }) i Started refl refl })

return_start_leaves : (k : calls.Kept) (i : ℕ) → Leaves k (calls.after_return_start i k)
return_start_leaves k i = record { next = λ off. off; due = due; hush = hush }
  where
    hush : (at : Option ℕ) → is_returned_at k at ≡ false → is_returned_at (calls.after_return_start i k) at ≡ false
    hush None off = refl
    hush (Some j) off = ap (λ s. is_some (outcome_in s)) (kept_stage k.points i j false) ∙ off

    due : (at : Option ℕ) → is_due_at k at ≡ false → is_due_at (calls.after_return_start i k) at ≡ false
    due None off = refl
    due (Some j) off = cleared_due k.points i j (calls.point_at i k).stage off

server_leaves : (k : Kept) (own point : Option ℕ) (value : Value) (c : calls.Kept) (o : Option ℕ) → k.served.queue ≡ o → started_server o k own point value ≡ Some c → Leaves k.served c
server_leaves k own point value c None queue leads =
    let at = then_some {X = ℕ} (λ i. option_and_then (λ w. given (same_number point own && same_words (words_of value) (words_of w)) (calls.after_direct_start i k.served)) (value_asked (calls.point_at i k.served).stage)) (own_place k own) c leads in
    let of = then_some (λ w. given (same_number point own && same_words (words_of value) (words_of w)) (calls.after_direct_start at.item k.served)) (value_asked (calls.point_at at.item k.served).stage) c at.gives in
    let gives = given_some (same_number point own && same_words (words_of value) (words_of of.item)) (calls.after_direct_start at.item k.served) c of.gives in
    subst (Leaves k.served) gives.same (direct_leaves k.served at.item of.item queue of.is)
server_leaves k None point value c (Some most) queue leads =
    let of = then_some (λ (r : Request). given (same_number point (slice_get k.points r.point) && same_words (words_of value) (words_of r.value)) (calls.after_start k.served)) (calls.starting k.served) c leads in
    let gives = given_some (same_number point (slice_get k.points of.item.point) && same_words (words_of value) (words_of of.item.value)) (calls.after_start k.served) c of.gives in
    subst (Leaves k.served) gives.same (start_leaves k.served of.item of.is)
server_leaves k (Some q) point value c (Some most) queue leads = absurd (cc leads)

started_leaves : (k : Kept) (own : Option ℕ) (event : ℕ) (point : Option ℕ) (value : Value) (c : calls.Kept) → lead_of_start k own event point value ≡ Some c → Leaves k.served c
started_leaves k own event point value c leads = by_event (event == k.event) leads
  where
    by_event : (b : Bool) → (if b then started_server k.served.queue k own point value else started_return k.served (awaited_at k event)) ≡ Some c → Leaves k.served c
    by_event true gave = server_leaves k own point value c k.served.queue refl gave
    by_event false gave =
        let at = then_some (λ i. given (calls.point_at i k.served).due (calls.after_return_start i k.served)) (awaited_at k event) c gave in
        let gives = given_some (calls.point_at at.item k.served).due (calls.after_return_start at.item k.served) c at.gives in
        subst (Leaves k.served) gives.same (return_start_leaves k.served at.item)

pub server_quiet : (k : Kept) (d : Deed) (a : Actor) (c : calls.Kept) → lead_of_server k d a ≡ Some c → wakes d ≡ false → Leaves k.served c
server_quiet k (deed.Ask q value code) a c leads other = absurd (false≢true (sym other))
server_quiet k (deed.Return code value) a c leads other = absurd (false≢true (sym other))
server_quiet k (deed.Answer q code value) a c leads other =
    let at = then_some (λ i. given (is_outcome code value (outcome_in (calls.point_at i k.served).stage)) (calls.after_answer i k.served)) (place q k.points) c leads in
    let gives = given_some (is_outcome code value (outcome_in (calls.point_at at.item k.served).stage)) (calls.after_answer at.item k.served) c at.gives in
    subst (Leaves k.served) gives.same (answer_leaves k.served at.item)
server_quiet k (deed.TakeResult q code value) a c leads other =
    let at = then_some (λ i. given (is_result code value (outcome_in (calls.point_at i k.served).stage)) (calls.after_answer i k.served)) (place q k.points) c leads in
    let gives = given_some (is_result code value (outcome_in (calls.point_at at.item k.served).stage)) (calls.after_answer at.item k.served) c at.gives in
    subst (Leaves k.served) gives.same (answer_leaves k.served at.item)
server_quiet k (deed.Start event point value) (Act key) c leads other = started_leaves k key.point event point value c leads
server_quiet k (deed.Start event point value) Env c leads other = absurd (cc leads)
server_quiet k (deed.Start event point value) (Machine n) c leads other = absurd (cc leads)
server_quiet k d a c leads other = absurd (cc leads)

pub flags_left : (k : Kept) (d : Deed) (a : Actor) (c : calls.Kept) → lead_of_server k d a ≡ Some c → wakes d ≡ false → (event : ℕ) → may_start k event ≡ false → may_start (with_served k c) event ≡ false
flags_left k d a c leads other event off = by_event (event == k.event) off
  where
    left : Leaves k.served c
    left = server_quiet k d a c leads other

    by_event : (b : Bool) → (if b then has_next k.served else is_due_at k.served (awaited_at k event)) ≡ false → (if b then has_next c else is_due_at c (awaited_at k event)) ≡ false
    by_event true off = left.next off
    by_event false off = left.due (awaited_at k event) off

pub wakes_nothing : OthersWakeNothing wakes may_start lead
wakes_nothing before after n leads other event off =
    let of = mapped_some (with_served before) (lead_of_server before n.entry.deed n.entry.actor) after leads in
    subst (λ z. may_start z event ≡ false) of.gives (flags_left before n.entry.deed n.entry.actor of.item of.is other event off)
