-- What `follows_last` computes is that something happened after the last start; for a timing event, a tick.
use Rattle.std.proofs.Common.{◌≡◌, ◌↔◌, ℕ, suc, ◌%◌, [], ◌∷◌, ◌++◌, Bool, true, false, not, ◌&&◌, ◌||◌, ◌==◌, refl, sym, ◌∙◌, ap, subst}
use Rattle.bus_semantics.specs.Common.{list_any, false≢true, eqb-true, or_from, or_parts, Plan, kind_of, Noted, Past, is_start_by, follows_last, is_due, is_due_kind, ticks_period, ticks}
use Rattle.bus_semantics.specs.Common.{is_tick}
use Rattle.std.specs.Cmp.{first_so, second_so}
use Rattle.bus_laws.specs.Common.{Actor, Deed, EventKind, Timing, HappenedSince, TickedSince}
use Rattle.bus_semantics.specs.declared.entries.Deed.TheVariants as deed

-- one more entry, by whether it is a start and whether it did it
one_more : (starts : Noted → Bool) (happened : Noted → Past → Bool) (n : Noted) (h : Past) (s g : Bool) → starts n ≡ s → happened n h ≡ g
    → (follows_last starts happened h ≡ true → HappenedSince starts happened h) → (not s && (g || follows_last starts happened h)) ≡ true
    → HappenedSince starts happened (n ∷ h)
one_more starts happened n h true g es eg rest e = absurd (false≢true e)
one_more starts happened n h false true es eg rest e = record {
  later = [];
  cause = n;
  before = h;
  whole = refl;
  no_start = ap (λ b. b || false) es;
  did = eg;
}
one_more starts happened n h false false es eg rest e = let r = rest e in record {
  later = n ∷ r.later;
  cause = r.cause;
  before = r.before;
  whole = ap (λ (l : Past). n ∷ l) r.whole;
  no_start = ap (λ b. b || list_any starts (r.later ++ r.cause ∷ [])) es ∙ r.no_start;
  did = r.did;
}

pub follows_where_computed : (starts : Noted → Bool) (happened : Noted → Past → Bool) (h : Past) → follows_last starts happened h ≡ true → HappenedSince starts happened h
follows_where_computed starts happened [] e = absurd (false≢true e)
follows_where_computed starts happened (n ∷ h) e =
    one_more starts happened n h (starts n) (happened n h) refl refl (follows_where_computed starts happened h) e

did_now : (s g f : Bool) → s ≡ false → g ≡ true → (not s && (g || f)) ≡ true
did_now true g f e t = absurd (false≢true (sym e))
did_now false true f e t = refl
did_now false false f e t = absurd (false≢true t)

did_before : (s g f : Bool) → s ≡ false → f ≡ true → (not s && (g || f)) ≡ true
did_before true g f e t = absurd (false≢true (sym e))
did_before false true f e t = refl
did_before false false f e t = t

-- after the cause, with no start since
since : (starts : Noted → Bool) (happened : Noted → Past → Bool) (later : Past) (cause : Noted) (before : Past)
    → list_any starts (later ++ cause ∷ []) ≡ false → happened cause before ≡ true → follows_last starts happened (later ++ cause ∷ before) ≡ true
since starts happened [] cause before none did =
    did_now (starts cause) (happened cause before) (follows_last starts happened before) (or_parts (starts cause) false none).0 did
since starts happened (n ∷ later) cause before none did = let e = or_parts (starts n) (list_any starts (later ++ cause ∷ [])) none in
    did_before (starts n) (happened n (later ++ cause ∷ before)) (follows_last starts happened (later ++ cause ∷ before)) e.0
    (since starts happened later cause before e.1 did)

pub computed_where_follows : (starts : Noted → Bool) (happened : Noted → Past → Bool) (h : Past) → HappenedSince starts happened h → follows_last starts happened h ≡ true
computed_where_follows starts happened h r =
    subst (λ (l : Past). follows_last starts happened l ≡ true) (sym r.whole) (since starts happened r.later r.cause r.before r.no_start r.did)

-- ---- ticks

deed_is_tick : (d : Deed) → is_tick d ≡ true → d ≡ deed.Tick
deed_is_tick deed.Tick e = refl
deed_is_tick _ e = absurd (false≢true e)

any-end : (starts : Noted → Bool) (later : Past) (n : Noted) → list_any starts (later ++ n ∷ []) ≡ false → (list_any starts later ≡ false) × (starts n ≡ false)
any-end starts [] n e = (refl, (or_parts (starts n) false e).0)
any-end starts (m ∷ later) n e = let first = or_parts (starts m) (list_any starts (later ++ n ∷ [])) e in
    let rest = any-end starts later n first.1 in (or_from (starts m) (list_any starts later) first.0 rest.0, rest.1)

any-and_end : (starts : Noted → Bool) (later : Past) (n : Noted) → list_any starts later ≡ false → starts n ≡ false → list_any starts (later ++ n ∷ []) ≡ false
any-and_end starts [] n e f = or_from (starts n) false f refl
any-and_end starts (m ∷ later) n e f = let first = or_parts (starts m) (list_any starts later) e in
    or_from (starts m) (list_any starts (later ++ n ∷ [])) first.0 (any-and_end starts later n first.1 f)

tick_follows : (event period : ℕ) (h : Past) → HappenedSince (is_start_by event) (ticks_period period) h → TickedSince event period h
tick_follows event period h r = record {
  later = r.later;
  tick = r.cause;
  before = r.before;
  whole = r.whole;
  no_start = (any-end (is_start_by event) r.later r.cause r.no_start).0;
  is_tick = deed_is_tick r.cause.entry.deed (first_so (is_tick r.cause.entry.deed) (suc (ticks r.before) % period == 0) r.did);
  multiple = eqb-true (suc (ticks r.before) % period) 0 (second_so (is_tick r.cause.entry.deed) (suc (ticks r.before) % period == 0) r.did);
}

not_started : (event : ℕ) (n : Noted) → n.entry.deed ≡ deed.Tick → is_start_by event n ≡ false
not_started event n e = of_deed n.entry.deed e
  where
    of_deed : (d : Deed) → d ≡ deed.Tick → is_start_by event (record { entry = record { actor = n.entry.actor; deed = d }; event = n.event }) ≡ false
    of_deed d e = rw e refl

ticked : (period : ℕ) (n : Noted) (h : Past) → n.entry.deed ≡ deed.Tick → suc (ticks h) % period ≡ 0 → ticks_period period n h ≡ true
ticked period n h e m = rw (e, m) refl

follows_tick : (event period : ℕ) (h : Past) → TickedSince event period h → HappenedSince (is_start_by event) (ticks_period period) h
follows_tick event period h r = record {
  later = r.later;
  cause = r.tick;
  before = r.before;
  whole = r.whole;
  no_start = any-and_end (is_start_by event) r.later r.tick r.no_start (not_started event r.tick r.is_tick);
  did = ticked period r.tick r.before r.is_tick r.multiple;
}

pub timing_due : (p : Plan) (a : Actor) (event period : ℕ) (h : Past) → kind_of p event ≡ Timing period → (is_due p a event h ≡ true) ↔ TickedSince event period h
timing_due p a event period h e = subst (λ (k : EventKind). (is_due_kind p a event k h ≡ true) ↔ TickedSince event period h) (sym e) (
  λ c. tick_follows event period h (follows_where_computed (is_start_by event) (ticks_period period) h c),
  λ r. computed_where_follows (is_start_by event) (ticks_period period) h (follows_tick event period h r),
)
