-- What a group keeps after each of its entries is what the definitions give from its past and the entry.
use Rattle.std.proofs.Common.{◌≡◌, ℕ, ℤ, Bool, true, false, ◌&&◌, ◌||◌, not, if◌then◌else◌, refl, sym, ◌∙◌, ap, subst, List, [], ◌∷◌, length, map, Option, Some, None, is_some}
use Rattle.std.specs.Prelude.{replicate, set, unwrap_or, option_map}
use Rattle.bus_semantics.specs.Common.{list_all, slice_get, option_or, option_map_or, eq-eqb, false≢true, Value, words_of, same_words, empty_value, Plan, kind_of, Noted, Past, newest}
use Rattle.bus_semantics.specs.Common.{start_fits, is_in_group, stored_in, last_stored, value_at, validity, is_invalid, elem_read_code, read_code, update, is_updated, sent_in}
use Rattle.bus_semantics.specs.Common.{starts_request, is_start_by, follows_last, brings_data, is_due_kind, same_bool, is_distinct}
use Rattle.bus_semantics.specs.declared.plan.ElemPlan.{ElemPlan}
use Rattle.bus_semantics.specs.declared.plan.ElemKind.{ElemKind}
use Rattle.bus_semantics.specs.declared.plan.ElemKind.TheVariants.{Unqueued, Queued, Variable}
use Rattle.bus_semantics.specs.declared.plan.EventKind.{EventKind}
use Rattle.bus_semantics.specs.declared.plan.EventKind.TheVariants.{DataReceived}
use Rattle.bus_semantics.specs.declared.entries.Actor.{Actor}
use Rattle.bus_semantics.specs.declared.entries.Actor.TheVariants.{Env}
use Rattle.bus_semantics.specs.declared.entries.Deed.{Deed}
use Rattle.bus_semantics.specs.declared.entries.Deed.TheVariants as deed
use Rattle.data_objects.specs.KeptValues as data_kept
use Rattle.data_objects.specs.KeptValues.{after_write, after_invalidation, after_read, after_start}
use Rattle.object_kinds.specs.Layout.{members_of, events_of, waits_for_data, place}
use Rattle.object_kinds.proofs.Events.{waiting_for, events_all, events_once}
use Rattle.object_kinds.proofs.Lists.{map_all, filled_all, mapped_at, all_at}
use Rattle.object_kinds.proofs.Members.{member_of, members_all, members_once}
use Rattle.object_kinds.proofs.Placing.{place_at, set_all, other_way}
use Rattle.object_kinds.proofs.Proper.{noting}
use Rattle.data_objects.specs.Kept.{Kept}
use Rattle.data_objects.specs.Layout.{initial_of}
use Rattle.data_objects.specs.Standing.{due_after, GroupKeeps}
use Rattle.data_objects.specs.Leading.{read_code_by, read_code_in, has_value, has_flag}

-- the events that wait stay
abbrev pub leading : Kept → data_kept.Kept → Kept
leading k d = record { events = k.events; unqueued = d }

-- ---- update flags after an entry

updated_now : (p : Plan) (g x : ℕ) (n : Noted) (l : Past) (b : Bool) → is_in_group p g x ≡ true → ((v : ElemPlan) → v.group ≡ g → update p x v.group n.entry.deed ≡ Some b) → is_updated p x (n ∷ l) ≡ b
updated_now p g x n l b inside gives = let m = member_of p g x inside in let found = m.found in let now = gives m.elem m.group in rw (found, now) refl

updated_same : (p : Plan) (g x : ℕ) (n : Noted) (l : Past) → is_in_group p g x ≡ true → ((v : ElemPlan) → v.group ≡ g → update p x v.group n.entry.deed ≡ None) → is_updated p x (n ∷ l) ≡ is_updated p x l
updated_same p g x n l inside gives = let m = member_of p g x inside in let found = m.found in let now = gives m.elem m.group in rw (found, now) refl

-- ---- due events after an entry

pub due_kind : (p : Plan) (e x : ℕ) (l : Past) → kind_of p e ≡ DataReceived x → due_after p l e ≡ follows_last (is_start_by e) (brings_data p x) l
due_kind p e x l kind = ap (λ k. is_due_kind p Env e k l) kind

-- new data makes the events of its group due
due_now : (p : Plan) (g e : ℕ) (n : Noted) (l : Past) → waits_for_data p g (kind_of p e) ≡ true → is_start_by e n ≡ false → ((v : ElemPlan) → v.group ≡ g → is_some (stored_in p v.group n.entry.deed) ≡ true) → due_after p (n ∷ l) e ≡ true
due_now p g e n l waits other stores =
    let w = waiting_for p g (kind_of p e) waits in
    let m = member_of p g w.element w.inside in
    let found = m.found in
    let now = stores m.elem m.group in
    due_kind p e w.element (n ∷ l) w.kind ∙ rw (other, found, now) refl

-- the deed neither stores nor sends a value in the group
abbrev BringsNone : Plan → (group : ℕ) → Deed → Type 0
BringsNone p g d = (stored_in p g d ≡ None) × (sent_in p g d ≡ None)

due_same : (p : Plan) (g e : ℕ) (n : Noted) (l : Past) → waits_for_data p g (kind_of p e) ≡ true → is_start_by e n ≡ false
    → ((h : ℕ) → h ≡ g → BringsNone p h n.entry.deed) → due_after p (n ∷ l) e ≡ due_after p l e
due_same p g e n l waits other quiet =
    let w = waiting_for p g (kind_of p e) waits in
    let m = member_of p g w.element w.inside in
    let found = m.found in
    let none = quiet m.elem.group m.group in
    let stored = none.0 in
    let sent = none.1 in
    let brings : brings_data p w.element n l ≡ false = rw (found, stored, sent) refl in
    due_kind p e w.element (n ∷ l) w.kind
    ∙ (λ i. not (other i) && (brings i || follows_last (is_start_by e) (brings_data p w.element) l))
    ∙ sym (due_kind p e w.element l w.kind)

due_started : (p : Plan) (g e : ℕ) (n : Noted) (l : Past) → waits_for_data p g (kind_of p e) ≡ true → is_start_by e n ≡ true → due_after p (n ∷ l) e ≡ false
due_started p g e n l waits it = let w = waiting_for p g (kind_of p e) waits in
    due_kind p e w.element (n ∷ l) w.kind ∙ ap (λ b. not b && (brings_data p w.element n l || follows_last (is_start_by e) (brings_data p w.element) l)) it

-- ---- what is read

module _ (p : Plan) (g : ℕ) (k : Kept) (l : Past) (keeps : GroupKeeps p g k l) where
  initial : (x r : ℕ) (v : ElemPlan) → slice_get p.elements x ≡ Some v → place x (members_of p g) ≡ Some r → slice_get k.unqueued.inits r ≡ Some v.init
  initial x r v found there = ap (λ is. slice_get is r) keeps.inits
      ∙ mapped_at (initial_of p) (members_of p g) r x (place_at x (members_of p g) r there)
      ∙ ap (λ (o : Option ElemPlan). Some (option_map_or (λ (e : ElemPlan). e.init) o empty_value)) found

  value_is : (x : ℕ) (v : ElemPlan) → slice_get p.elements x ≡ Some v → v.group ≡ g → (s : Option (List ℤ)) → last_stored p g l ≡ s → value_at p x l ≡ unwrap_or s (words_of v.init)
  value_is x v found group s is = ap (λ (o : Option ElemPlan). option_map_or (λ (e : ElemPlan). unwrap_or (last_stored p e.group l) (words_of e.init)) o []) found
      ∙ ap (λ i. unwrap_or (last_stored p i l) (words_of v.init)) group ∙ ap (λ o. unwrap_or o (words_of v.init)) is

  -- a receiver's value is that of the definitions
  pub record Found (x r : ℕ) : Type 0 where
    pub value : Value
    pub is : data_kept.value_for r k.unqueued ≡ Some value
    pub words : words_of value ≡ value_at p x l

  pub value_found : (x r : ℕ) (v : ElemPlan) → slice_get p.elements x ≡ Some v → v.group ≡ g → place x (members_of p g) ≡ Some r → Found x r
  value_found x r v found group there = by_stored k.unqueued.stored refl
    where
      by_stored : (o : Option Value) → k.unqueued.stored ≡ o → Found x r
      by_stored None is =
          let none : last_stored p g l ≡ None = sym keeps.stored ∙ ap (option_map words_of) is in
          record { value = v.init; is = ap (λ o. option_or o (slice_get k.unqueued.inits r)) is ∙ initial x r v found there; words = sym (value_is x v found group None none) }
      by_stored (Some w) is =
          let stored : last_stored p g l ≡ Some (words_of w) = sym keeps.stored ∙ ap (option_map words_of) is in
          record { value = w; is = ap (λ o. option_or o (slice_get k.unqueued.inits r)) is; words = sym (value_is x v found group (Some (words_of w)) stored) }

  pub value_same : (x r : ℕ) (v : ElemPlan) → slice_get p.elements x ≡ Some v → v.group ≡ g → place x (members_of p g) ≡ Some r → (value : Value) → has_value value r k.unqueued ≡ same_words (words_of value) (value_at p x l)
  value_same x r v found group there value =
      let at = value_found x r v found group there in
      let is = at.is in
      let same : has_value value r k.unqueued ≡ same_words (words_of value) (words_of at.value) = rw is refl in
      same ∙ ap (same_words (words_of value)) at.words

  pub value_in : (x r : ℕ) (v : ElemPlan) → slice_get p.elements x ≡ Some v → v.group ≡ g → place x (members_of p g) ≡ Some r → (value : Value) → has_value value r k.unqueued ≡ true → same_words (words_of value) (value_at p x l) ≡ true
  value_in x r v found group there value has = sym (value_same x r v found group there value) ∙ has

  seen_in : is_some k.unqueued.stored ≡ is_some (last_stored p g l)
  seen_in = by_stored k.unqueued.stored ∙ ap is_some keeps.stored
    where
      by_stored : (o : Option Value) → is_some o ≡ is_some (option_map words_of o)
      by_stored None = refl
      by_stored (Some w) = refl

  code_by : (v : ElemPlan) (kind : ElemKind) → v.kind ≡ kind → v.group ≡ g → read_code_by v k.unqueued.invalid (is_some k.unqueued.stored) ≡ elem_read_code p v l
  code_by v Variable is group = rw is refl
  code_by v Unqueued is group = rw (is, group) (λ i. if not v.joined then 134 else if keeps.invalid i then 1 else if v.never_received && not (seen_in i) then 133 else 0)
  code_by v Queued is group = rw (is, group) (λ i. if not v.joined then 134 else if keeps.invalid i then 1 else if v.never_received && not (seen_in i) then 133 else 0)

  pub code_in : (x : ℕ) (v : ElemPlan) → slice_get p.elements x ≡ Some v → v.group ≡ g → read_code_in p x k.unqueued ≡ read_code p x l
  code_in x v found group = rw found (code_by v v.kind refl group)

-- ---- starts

-- a start for data names no point
pub unnamed : (p : Plan) (a : Actor) (k : EventKind) (x : ℕ) (point : Option ℕ) (ws : List ℤ) (l : Past) → k ≡ DataReceived x → start_fits p k point ws ≡ true → starts_request p a point ws l ≡ true
unnamed p a k x None ws l is fit = refl
unnamed p a k x (Some q) ws l is fit = let no = rw is at fit in absurd (false≢true no)

pub has_flag_is : (flags : List Bool) (i : ℕ) (b c : Bool) → slice_get flags i ≡ Some c → has_flag b flags i ≡ true → same_bool b c ≡ true
has_flag_is flags i b c there e = rw there at e

-- ---- each entry

module _ (p : Plan) (g : ℕ) (k : Kept) (l : Past) (keeps : GroupKeeps p g k l) (a : Actor) (event : Option ℕ) where
  -- new data
  module _ (d : Deed) (value : Value) (stores : (h : ℕ) → h ≡ g → stored_in p h d ≡ Some (words_of value))
      (valid : is_invalid p g (noting a d event ∷ l) ≡ false)
      (updates : (x h : ℕ) → h ≡ g → update p x h d ≡ Some true) (starts_none : (e : ℕ) → is_start_by e (noting a d event) ≡ false) where
    pub written : GroupKeeps p g (leading k (after_write value k.unqueued)) (noting a d event ∷ l)
    written = record {
      is_group = keeps.is_group;
      waiting = keeps.waiting;
      inits = keeps.inits;
      receivers = keeps.receivers;
      stored = ap (λ (s : Option (List ℤ)). option_or s (last_stored p g l)) (sym (stores g refl));
      invalid = sym valid;
      updated = ap (λ fs. replicate (length fs) true) keeps.updated
          ∙ filled_all (is_in_group p g) (λ x. is_updated p x l) (λ x. is_updated p x (noting a d event ∷ l)) true (members_of p g) (members_all p g)
          (λ x inside. updated_now p g x (noting a d event) l true inside (λ v group. updates x v.group group));
      due = ap (λ fs. replicate (length fs) true) keeps.due
          ∙ subst (λ es. replicate (length (map (due_after p l) es)) true ≡ map (due_after p (noting a d event ∷ l)) es) (sym keeps.waiting)
          (filled_all (λ e. waits_for_data p g (kind_of p e)) (due_after p l) (due_after p (noting a d event ∷ l)) true (events_of p (waits_for_data p g)) (events_all p (waits_for_data p g))
          (λ e waits. due_now p g e (noting a d event) l waits (starts_none e) (λ v group. ap is_some (stores v.group group))));
    }

  -- an entry that brings no data and starts nothing
  pub due_kept : (d : Deed) → ((e : ℕ) → waits_for_data p g (kind_of p e) ≡ true → is_start_by e (noting a d event) ≡ false) → ((h : ℕ) → h ≡ g → BringsNone p h d)
      → k.unqueued.due ≡ map (due_after p (noting a d event ∷ l)) k.events
  due_kept d starts_none quiet = keeps.due
      ∙ subst (λ es. map (due_after p l) es ≡ map (due_after p (noting a d event ∷ l)) es) (sym keeps.waiting)
      (map_all (λ e. waits_for_data p g (kind_of p e)) (due_after p l) (due_after p (noting a d event ∷ l)) (events_of p (waits_for_data p g)) (events_all p (waits_for_data p g))
      (λ e waits. sym (due_same p g e (noting a d event) l waits (starts_none e waits) quiet)))

  pub updated_kept : (d : Deed) → ((x h : ℕ) → is_in_group p g x ≡ true → h ≡ g → update p x h d ≡ None) → k.unqueued.updated ≡ map (λ x. is_updated p x (noting a d event ∷ l)) (members_of p g)
  updated_kept d updates = keeps.updated
      ∙ map_all (is_in_group p g) (λ x. is_updated p x l) (λ x. is_updated p x (noting a d event ∷ l)) (members_of p g) (members_all p g)
      (λ x inside. sym (updated_same p g x (noting a d event) l inside (λ v group. updates x v.group inside group)))

  pub write_keeps : (x : ℕ) (value : Value) → is_in_group p g x ≡ true → GroupKeeps p g (leading k (after_write value k.unqueued)) (noting a (deed.Write x value) event ∷ l)
  write_keeps x value inside = written (deed.Write x value) value
      (λ h same. rw same (ap (λ b. if b then Some (words_of value) else None) inside))
      (ap (λ b. not (unwrap_or (option_or (if b then Some true else None) (newest (λ (m : Noted). validity p g m.entry.deed) l)) true)) inside)
      (λ y h same. rw same (ap (λ b. if b then Some true else None) inside)) (λ e. refl)

  pub publish_keeps : (x : ℕ) (value : Value) → is_in_group p g x ≡ true → GroupKeeps p g (leading k (after_write value k.unqueued)) (noting a (deed.Publish x value) event ∷ l)
  publish_keeps x value inside = written (deed.Publish x value) value
      (λ h same. rw same (ap (λ b. if b then Some (words_of value) else None) inside))
      (ap (λ b. not (unwrap_or (option_or (if b then Some true else None) (newest (λ (m : Noted). validity p g m.entry.deed) l)) true)) inside)
      (λ y h same. rw same (ap (λ b. if b then Some true else None) inside)) (λ e. refl)

  pub invalidate_keeps : (x : ℕ) → is_in_group p g x ≡ true → GroupKeeps p g (leading k (after_invalidation k.unqueued)) (noting a (deed.Invalidate x) event ∷ l)
  invalidate_keeps x inside = record {
    is_group = keeps.is_group;
    waiting = keeps.waiting;
    inits = keeps.inits;
    receivers = keeps.receivers;
    stored = keeps.stored;
    invalid = sym (ap (λ b. not (unwrap_or (option_or (if b then Some false else None) (newest (λ (m : Noted). validity p g m.entry.deed) l)) true)) inside);
    updated = updated_kept (deed.Invalidate x) (λ y h inside same. refl);
    due = due_kept (deed.Invalidate x) (λ e waits. refl) (λ h group. (refl, refl));
  }

  pub fetch_keeps : (x : ℕ) (value : Value) → GroupKeeps p g (leading k k.unqueued) (noting a (deed.Fetch x value) event ∷ l)
  fetch_keeps x value = record {
    is_group = keeps.is_group;
    waiting = keeps.waiting;
    inits = keeps.inits;
    receivers = keeps.receivers;
    stored = keeps.stored;
    invalid = keeps.invalid;
    updated = updated_kept (deed.Fetch x value) (λ y h inside same. refl);
    due = due_kept (deed.Fetch x value) (λ e waits. refl) (λ h group. (refl, refl));
  }

  pub see_keeps : (x : ℕ) (b : Bool) → GroupKeeps p g (leading k k.unqueued) (noting a (deed.IsUpdated x b) event ∷ l)
  see_keeps x b = record {
    is_group = keeps.is_group;
    waiting = keeps.waiting;
    inits = keeps.inits;
    receivers = keeps.receivers;
    stored = keeps.stored;
    invalid = keeps.invalid;
    updated = updated_kept (deed.IsUpdated x b) (λ y h inside same. refl);
    due = due_kept (deed.IsUpdated x b) (λ e waits. refl) (λ h group. (refl, refl));
  }

  pub read_keeps : (x r : ℕ) (code : ℕ) (value : Value) → is_in_group p g x ≡ true → place x (members_of p g) ≡ Some r → GroupKeeps p g (leading k (after_read r k.unqueued)) (noting a (deed.Read x code value) event ∷ l)
  read_keeps x r code value inside there = record {
    is_group = keeps.is_group;
    waiting = keeps.waiting;
    inits = keeps.inits;
    receivers = keeps.receivers;
    stored = keeps.stored;
    invalid = keeps.invalid;
    updated = ap (λ fs. set fs r false) keeps.updated
        ∙ set_all (is_in_group p g) (λ y. is_updated p y l) (λ y. is_updated p y (noting a (deed.Read x code value) event ∷ l)) false x (members_of p g) r (members_all p g) (members_once p g) there
        (updated_now p g x (noting a (deed.Read x code value) event) l false inside (λ v group. ap (λ b. if b then Some false else None) (eq-eqb x x refl)))
        (λ y within other. sym (updated_same p g y (noting a (deed.Read x code value) event) l within (λ v group. ap (λ b. if b then Some false else None) other)));
    due = due_kept (deed.Read x code value) (λ e waits. refl) (λ h group. (refl, refl));
  }

  pub start_keeps : (e i : ℕ) (point : Option ℕ) (value : Value) → place e k.events ≡ Some i → GroupKeeps p g (leading k (after_start i k.unqueued)) (noting a (deed.Start e point value) event ∷ l)
  start_keeps e i point value there = record {
    is_group = keeps.is_group;
    waiting = keeps.waiting;
    inits = keeps.inits;
    receivers = keeps.receivers;
    stored = keeps.stored;
    invalid = keeps.invalid;
    updated = updated_kept (deed.Start e point value) (λ y h inside same. refl);
    due = ap (λ fs. set fs i false) keeps.due ∙ set_all (λ f. waits_for_data p g (kind_of p f)) (due_after p l) (due_after p (noting a (deed.Start e point value) event ∷ l)) false e k.events i
        (subst (λ es. list_all (λ f. waits_for_data p g (kind_of p f)) es ≡ true) (sym keeps.waiting) (events_all p (waits_for_data p g)))
        (subst (λ es. is_distinct es ≡ true) (sym keeps.waiting) (events_once p (waits_for_data p g))) there
        (due_started p g e (noting a (deed.Start e point value) event) l waits (eq-eqb e e refl))
        (λ f wait other. sym (due_same p g f (noting a (deed.Start e point value) event) l wait (other_way e f other) (λ h group. (refl, refl))));
  }
    where
      waits : waits_for_data p g (kind_of p e) ≡ true
      waits = all_at (λ f. waits_for_data p g (kind_of p f)) k.events i e
          (subst (λ es. list_all (λ f. waits_for_data p g (kind_of p f)) es ≡ true) (sym keeps.waiting) (events_all p (waits_for_data p g))) (place_at e k.events i there)
