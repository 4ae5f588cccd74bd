-- What a wish makes of a seat.
use Rattle.std.proofs.Common.{◌≡◌, ◌<◌, ◌≤◌, ◌-◌, ℕ, suc, Bool, true, false, ◌&&◌, if◌then◌else◌}
use Rattle.std.proofs.Common.{List, [], ◌∷◌, ◌++◌, length, length-append, get_or, refl, sym, ◌∙◌, ap, subst, arith, eqb-true, Option, Some, None}
use Rattle.std.proofs.Math.Seq.{get_or-append_seam, set-append_seam}
use Rattle.std.specs.Prelude.{set}
use Rattle.bus_semantics.specs.Common.{vec_capacity, same_number, Plan, Wanted, event_of, Noted, noted_for, touches, touched_by, is_proper}
use Rattle.atomic_table.specs.Seated.{TableId}
use Rattle.atomic_table.specs.Table.{rest}
use Rattle.bus_semantics.specs.declared.entries.Actor.{Actor}
use Rattle.bus_semantics.specs.declared.entries.Entry.{Entry}
use Rattle.bus_semantics.specs.declared.entries.Stamped.{Stamped}
use Rattle.object_kinds.specs.declared.acted.Filled.TheVariants as filled
use Rattle.object_kinds.specs.declared.acted.Shown.{Shown}
use Rattle.port_objects.specs.declared.object.Object.{Object}
use Rattle.port_objects.specs.Common.{Kept, lead, lead_by_kind, kept_of, IsOfPlan, IsStampedFor}
use Rattle.cross_core_table.specs.Common.{Opening, Held, View, CoreSeat, Sat, making, as_stamped, held_after, held_of, plan_in, view_of}
use Rattle.cross_core_table.specs.Places.{IsHolding, IsTakenBy, IsToKeep, HasFilled, HasMade, HasLooked}
use Rattle.cross_core_table.specs.Plays.{holding, letting_go, having_looked}
use Rattle.cross_core_table.specs.Seats.{IsSeatAt}
use Rattle.cross_core_table.proofs.Logs.{kept_next}

-- what leads on touches the object
pub leads_touch : (p : Plan) (o : ℕ) (before after : Kept) (n : Noted) → lead p o before n ≡ Some after → touched_by p n ≡ Some o
unfolding lead
leads_touch p o before after n leads = is_number (touched_by p n) o (by_test (touches p o n) refl leads)
  where
    by_test : (b : Bool) → touches p o n ≡ b → (if b && is_proper p n then lead_by_kind p o before n else None) ≡ Some after → touches p o n ≡ true
    by_test true is e = is
    by_test false is e = absurd (cc e)

    is_number : (x : Option ℕ) (y : ℕ) → same_number x (Some y) ≡ true → x ≡ Some y
    is_number None y e = absurd (cc e)
    is_number (Some x) y e = ap (λ (z : ℕ). Some z) (eqb-true x y e)

-- once the entry is stamped, the object keeps what the lead gives along the entries and it
pub is_kept : (k : Opening) (m n : Sat) (o : ℕ) (e : Entry) (event : Option ℕ) (stamp : ℕ) → m.0.opening ≡ Some k → (t : IsToKeep k m o e event)
    → n ≡ (record (making m.0 (as_stamped stamp e event)) { held = held_after m.0.held (as_stamped stamp e event) }, m.1) → IsHolding k n o
is_kept k m n o e event stamp live t is =
    let x : Stamped = as_stamped stamp e event in
    record {
      opening = ap (λ (y : Sat). y.0.opening) is ∙ live;
      object = t.object;
      slots = ap (λ (y : Sat). y.1) is ∙ t.slots;
      entries = x ∷ t.entries;
      held = ap (λ (y : Sat). y.0.held) is ∙ ap (λ (h : Option Held). held_after h x) t.held;
      kept = kept_next k o t.entries x t.before t.kept ∙ t.leads;
      planned = t.planned;
    }

-- ---- a wish on the object that the seat has taken

-- the object that is out with the seat
pub in_hand : (o : ℕ) (x object : Object) (l : List (ℕ × Object)) → l ≡ (o, x) ∷ rest l → l ≡ (o, object) ∷ [] → x ≡ object
in_hand o x object l out is = ap (λ (ys : List (ℕ × Object)). (get_or ys 0 (o, x)).1) (sym out ∙ is)

module _ (k : Opening) (v : View) (o : ℕ) (object : Object) (p : Plan) (a : Actor) (w : Wanted) (s n : CoreSeat) (same : p ≡ plan_in k) (took : IsTakenBy k v s.place.me o object) (view : view_of n ≡ view_of s) where
  holds_on : view_of n ≡ holding v (held_of o took.entries)
  holds_on = view ∙ ap (λ (x : Sat). x.0) took.seat

  -- an entry that was filled in is one to keep
  pub to_keep : (f : HasFilled p o a w object s n filled.Done) → IsToKeep k n.place.me o f.entry (event_of w)
  to_keep f = record {
    object = f.object;
    slots = f.slots;
    entries = took.entries;
    held = ap (λ (x : View). x.held) holds_on;
    before = kept_of object;
    kept = took.kept;
    leads = ap (λ q. lead q o (kept_of object) (noted_for w f.entry)) (sym same) ∙ f.answer.leads;
    planned = subst (λ q. IsOfPlan q o f.object) same f.planned;
  }

  -- and stamped, it is the last that the seat made
  pub has_made : (f : HasFilled p o a w object s n filled.Done) (m : Sat) (stamp : ℕ) → v.held ≡ None → m ≡ (making (letting_go n.place.me.0) (as_stamped stamp f.entry (event_of w)), []) → HasMade (plan_in k) a w v m.0 (as_stamped stamp f.entry (event_of w))
  has_made f m stamp none kept = record {
    view = ap (λ (x : Sat). x.0) kept ∙ ap (λ (x : View). making (letting_go x) (as_stamped stamp f.entry (event_of w))) holds_on
        ∙ ap (λ h. making (record v { held = h }) (as_stamped stamp f.entry (event_of w))) (sym none);
    entry = subst (λ q. IsStampedFor q a w (as_stamped stamp f.entry (event_of w))) same (record { actor = f.answer.actor; wish = f.answer.wish; answer = f.answer.answer; event = refl });
  }

  -- where none was filled in, the object is in hand as it was taken
  pub holds_still : (shown : Shown) → HasFilled p o a w object s n (filled.NotYet shown) → v.opening ≡ Some k → IsHolding k n.place.me o
  holds_still shown f live = record {
    opening = ap (λ (x : View). x.opening) holds_on ∙ live;
    object = f.object;
    slots = f.slots;
    entries = took.entries;
    held = ap (λ (x : View). x.held) holds_on;
    kept = took.kept ∙ ap (λ x. Some (kept_of x)) (sym f.answer.same);
    planned = subst (λ q. IsOfPlan q o f.object) same f.planned;
  }

  -- and the look shows why
  pub has_looked : (shown : Shown) (m : Sat) → HasFilled p o a w object s n (filled.NotYet shown) → v.held ≡ None → m ≡ (having_looked n.place.me.0, []) → HasLooked k o a w v m.0 shown
  has_looked shown m f none looked = record {
    entries = took.entries;
    view = ap (λ (x : Sat). x.0) looked ∙ ap having_looked holds_on ∙ ap (λ h. record v { held = h; look = Some (held_of o took.entries); looks = suc v.looks }) (sym none);
    held = record {
      kept = kept_of object;
      leads = took.kept;
      none = λ x who wish. ap (λ q. lead q o (kept_of object) x) (sym same) ∙ f.answer.none x who wish;
      why = f.answer.why;
    };
  }

-- ---- the seat stays one of the round

seat_after : (t : TableId) (k : Opening) (core : ℕ) (s n : CoreSeat) (w : View) → IsSeatAt t k core s
    → n.place.table_id ≡ s.place.table_id → n.core ≡ s.core → view_of n ≡ w → n.place.me.1 ≡ [] → w.made ≡ n.made.items → length n.made.items ≤ k.room → vec_capacity n.made ≡ vec_capacity s.made
    → w.opening ≡ (view_of s).opening → w.core ≡ (view_of s).core → w.held ≡ None → IsSeatAt t k core n
seat_after t k core s n w is table number view slots made within space opening number' none = record {
  table = table ∙ is.table;
  idle = record {
    opening = ap (λ (y : View). y.opening) view ∙ (opening ∙ is.idle.opening);
    number = ap (λ (y : View). y.core) view ∙ (number' ∙ is.idle.number);
    held = ap (λ (y : View). y.held) view ∙ none;
    slots = slots;
  };
  number = number ∙ is.number;
  made = ap (λ (y : View). y.made) view ∙ made;
  within = within;
  space = subst (λ c. k.room ≤ c) (sym space) is.space;
}

pub same_seat : (t : TableId) (k : Opening) (core : ℕ) (s n : CoreSeat) (w : View) → IsSeatAt t k core s
    → n.place.table_id ≡ s.place.table_id → n.core ≡ s.core → n.place.me ≡ (w, []) → n.made ≡ s.made
    → w.opening ≡ s.place.me.0.opening → w.core ≡ s.place.me.0.core → w.held ≡ None → w.made ≡ s.place.me.0.made → IsSeatAt t k core n
same_seat t k core s n w is table number me made opening number' none same =
    seat_after t k core s n w is table number (ap (λ (y : Sat). y.0) me) (ap (λ (y : Sat). y.1) me) (same ∙ (is.made ∙ ap (λ y. y.items) (sym made))) (subst (λ y. length y.items ≤ k.room) (sym made) is.within) (ap (λ y. vec_capacity y) made)
    opening number' none

-- with one entry more
pub seat_made : (t : TableId) (k : Opening) (core : ℕ) (s n : CoreSeat) (x : Stamped) → IsSeatAt t k core s → length (view_of s).made < k.room
    → n.place.table_id ≡ s.place.table_id → n.core ≡ s.core → view_of n ≡ making (view_of s) x → n.place.me.1 ≡ [] → n.made.items ≡ s.made.items ++ x ∷ [] → vec_capacity n.made ≡ vec_capacity s.made → IsSeatAt t k core n
seat_made t k core s n x is room table number view slots made space =
    let within : length n.made.items ≤ k.room = omega (arith, room, ap length is.made, ap length made ∙ length-append s.made.items (x ∷ [])) in
    seat_after t k core s n (making (view_of s) x) is table number view slots (ap (λ l. l ++ x ∷ []) is.made ∙ sym made) within space refl refl is.idle.held

-- and after a look
pub seat_looked : (t : TableId) (k : Opening) (core : ℕ) (s n : CoreSeat) (look : Option Held) (looks : ℕ) → IsSeatAt t k core s
    → n.place.table_id ≡ s.place.table_id → n.core ≡ s.core → view_of n ≡ record (view_of s) { look = look; looks = looks } → n.place.me.1 ≡ [] → n.made.items ≡ s.made.items → vec_capacity n.made ≡ vec_capacity s.made → IsSeatAt t k core n
seat_looked t k core s n look looks is table number view slots made space =
    seat_after t k core s n (record (view_of s) { look = look; looks = looks }) is table number view slots (is.made ∙ sym made) (subst (λ l. length l ≤ k.room) (sym made) is.within) space refl refl is.idle.held

-- ---- the entry that lies behind the others

pub is_last : (before items : List Stamped) (i : ℕ) (x s : Stamped) → i ≡ length before → items ≡ before ++ x ∷ [] → s ≡ get_or items i s → s ≡ x
is_last before items i x s last lies is = is ∙ ap (λ l. get_or l i s) lies ∙ ap (λ j. get_or (before ++ x ∷ []) j s) last ∙ get_or-append_seam before x [] s

pub last_set : (before items : List Stamped) (i : ℕ) (x y : Stamped) → i ≡ length before → items ≡ before ++ x ∷ [] → set items i y ≡ before ++ y ∷ []
last_set before items i x y last lies = ap (λ l. set l i y) lies ∙ ap (λ j. set (before ++ x ∷ []) j y) last ∙ set-append_seam before x [] y

pub last_at : (before items : List Stamped) (n : ℕ) (x : Stamped) → n ≡ length items → items ≡ before ++ x ∷ [] → n - 1 ≡ length before
last_at before items n x long lies = omega (arith, long, ap length lies ∙ length-append before (x ∷ []))
