-- Looks one after the other.
use Rattle.std.proofs.Common.{◌≡◌, ℕ, suc, ◌+◌, ◌≤◌, Bool, true, false, if◌then◌else◌, refl, sym, ◌∙◌, ap, subst, arith, append_assoc, List, [], ◌∷◌, ◌++◌, Option, Some, None}
use Rattle.bus_semantics.specs.Common.{or_left, or_right, append-nil, list_any-append, same_number, Plan, count, object_of, Try, gathered}
use Rattle.bus_semantics.specs.declared.entries.Stamped.{Stamped}
use Rattle.port_objects.specs.declared.object.Object.{Object}
use Rattle.port_objects.specs.Benches.{Work, Further, IsFurther, StampAfter, Told}
use Rattle.task_slots.specs.Look.{Look, Made, Nothing, Contended}
use Rattle.task_slots.specs.Looking.{AllHeld, FirstMade, ToldLooked, ObjectsLooked, RoomLooked, WorkLooked, made_in, is_touched, LostLooked, Looked}

-- ---- a bench's work

pub work_same : (w : Option Work) → IsFurther w w [] 0 0
work_same None = refl
work_same (Some w) = record { work = w; told = refl; made = sym (append-nil w.made); not_yet = omega arith; contended = omega arith }

pub work_on : (a b c : Option Work) (s t : List Stamped) (m n i j : ℕ) → IsFurther a b s m i → IsFurther b c t n j → IsFurther a c (s ++ t) (m + n) (i + j)
work_on None b c s t m n i j first last = subst (λ o. IsFurther o c t n j) first last
work_on (Some a) b c s t m n i j first last = further (subst (λ o. IsFurther o c t n j) first.told last)
  where
    further : Further first.work c t n j → Further a c (s ++ t) (m + n) (i + j)
    further more = record {
      work = more.work;
      told = more.told;
      made = more.made ∙ ap (λ x. x ++ t) first.made ∙ append_assoc a.made s t;
      not_yet = let x = first.not_yet in let y = more.not_yet in omega arith;
      contended = let x = first.contended in let y = more.contended in omega arith;
    }

-- fewer are counted
pub work_less : (a b : Option Work) (s : List Stamped) (m n i j : ℕ) → n ≤ m → j ≤ i → IsFurther a b s m i → IsFurther a b s n j
work_less None b s m n i j less fewer w = w
work_less (Some a) b s m n i j less fewer w = record {
  work = w.work;
  told = w.told;
  made = w.made;
  not_yet = let x = w.not_yet in omega arith;
  contended = let x = w.contended in omega arith;
}

-- looks that are not counted
pub work_uncounted : (n : ℕ) (a b : Option Work) (l : Look) → WorkLooked n a b l → WorkLooked 0 a b l
work_uncounted n a b (Made s) work = work
work_uncounted n a b Nothing work = work_less a b [] n 0 0 0 (omega arith) (omega arith) work
work_uncounted n a b (Contended object) work = work

work_looked : (m n : ℕ) (a b c : Option Work) (l : Look) → IsFurther a b [] m 0 → WorkLooked n b c l → WorkLooked (m + n) a c l
work_looked m n a b c (Made s) first last = work_less a c (s ∷ []) (m + 0) 0 (0 + 0) 0 (omega arith) (omega arith) (work_on a b c [] (s ∷ []) m 0 0 0 first last)
work_looked m n a b c Nothing first last = work_on a b c [] [] m n 0 0 first last
work_looked m n a b c (Contended object) first last = work_less a c [] (m + 0) 0 (0 + 1) 1 (omega arith) (omega arith) (work_on a b c [] [] m 0 0 1 first last)

-- ---- the room and the next stamp

room_on : (a b c : ℕ) (l : Look) → b ≡ a → RoomLooked b c l → RoomLooked a c l
room_on a b c (Made s) first last = sym first ∙ last
room_on a b c Nothing first last = last ∙ first
room_on a b c (Contended object) first last = last ∙ first

pub next_same : (a b : Option ℕ) → StampAfter a b None → b ≡ a
next_same None b e = e
next_same (Some n) b e = e

pub next_still : (a : Option ℕ) → StampAfter a a None
next_still None = refl
next_still (Some n) = refl

-- ---- the objects

module _ (p : Plan) where
  pub all_on : (objects : List Object) (ts us : List Try) → AllHeld p objects ts → AllHeld p objects us → AllHeld p objects (ts ++ us)
  all_on objects [] us first last = last
  all_on objects (t ∷ ts) us first last = (first.0, all_on objects ts us first.1 last)

  told_on : (ts us : List Try) (objects : List Object) (c : Option (List Object)) (l : Look) → AllHeld p objects ts → ToldLooked p us objects c l → ToldLooked p (ts ++ us) objects c l
  told_on ts us objects c (Made s) held last = record {
    before = ts ++ last.before;
    tried = last.tried;
    after = last.after;
    whole = ap (λ x. ts ++ x) last.whole ∙ sym (append_assoc ts last.before (last.tried ∷ last.after));
    held = all_on objects ts last.before held last.held;
    entry = last.entry;
    made = last.made;
  }
  told_on ts us objects c Nothing held last = (all_on objects ts us held last.0, last.1)
  told_on ts us objects c (Contended object) held last = last

  objects_on : (ts us : List Try) (a b c : Option (List Object)) (l : Look) → ObjectsLooked p ts a b Nothing → ObjectsLooked p us b c l → ObjectsLooked p (ts ++ us) a c l
  objects_on ts us None b c l first last = subst (λ o. ObjectsLooked p us o c l) first last
  objects_on ts us (Some objects) b c l first last = told_on ts us objects c l first.0 (subst (λ o. ObjectsLooked p us o c l) first.1 last)

  -- the object that another core holds

  abbrev touches_it : (object : ℕ) → Try → Bool
  touches_it object t = same_number (object_of p t.0 t.1) (Some object)

  pub touched_first : (ts us : List Try) (object : ℕ) → is_touched p ts object ≡ true → is_touched p (ts ++ us) object ≡ true
  touched_first ts us object touched = list_any-append (touches_it object) ts us ∙ or_left (is_touched p ts object) (is_touched p us object) touched

  pub touched_last : (ts us : List Try) (object : ℕ) → is_touched p us object ≡ true → is_touched p (ts ++ us) object ≡ true
  touched_last ts us object touched = list_any-append (touches_it object) ts us ∙ or_right (is_touched p ts object) (is_touched p us object) touched

  lost_on : (ts us : List Try) (l : Look) → LostLooked p us l → LostLooked p (ts ++ us) l
  lost_on ts us (Made s) lost = tt
  lost_on ts us Nothing lost = tt
  lost_on ts us (Contended object) lost = touched_last ts us object lost

  pub looked_on : (ts us : List Try) (m n : ℕ) (a b c : Told) (l : Look) → Looked p ts m a b Nothing → Looked p us n b c l → Looked p (ts ++ us) (m + n) a c l
  looked_on ts us m n a b c l first last = record {
    room = room_on a.room b.room c.room l first.room last.room;
    next = subst (λ o. StampAfter o c.next (made_in l)) (next_same a.next b.next first.next) last.next;
    objects = objects_on ts us a.objects b.objects c.objects l first.objects last.objects;
    work = work_looked m n a.work b.work c.work l first.work last.work;
    lost = lost_on ts us l last.lost;
  }

  still : (o : Option (List Object)) → ObjectsLooked p [] o o Nothing
  still None = refl
  still (Some objects) = (tt, refl)

  pub looked_none : (a : Told) → Looked p [] 0 a a Nothing
  looked_none a = record { room = refl; next = next_still a.next; objects = still a.objects; work = work_same a.work; lost = tt }

  pub looked_as : (ts us : List Try) (m n : ℕ) (a b : Told) (l : Look) → ts ≡ us → m ≡ n → Looked p ts m a b l → Looked p us n a b l
  looked_as ts us m n a b l same count looked = subst (λ k. Looked p us k a b l) count (subst (λ x. Looked p x m a b l) same looked)

  -- looks that are not counted
  pub looked_uncounted : (ts : List Try) (n : ℕ) (a b : Told) (l : Look) → Looked p ts n a b l → Looked p ts 0 a b l
  looked_uncounted ts n a b l looked = record { room = looked.room; next = looked.next; objects = looked.objects; work = work_uncounted n a.work b.work l looked.work; lost = looked.lost }

  -- tries after the entry do not matter
  told_more : (ts us : List Try) (objects : List Object) (c : Option (List Object)) (s : Stamped) → FirstMade p ts objects c s → FirstMade p (ts ++ us) objects c s
  told_more ts us objects c s first = record {
    before = first.before;
    tried = first.tried;
    after = first.after ++ us;
    whole = ap (λ x. x ++ us) first.whole ∙ append_assoc first.before (first.tried ∷ first.after) us;
    held = first.held;
    entry = first.entry;
    made = first.made;
  }

  objects_more : (ts us : List Try) (a c : Option (List Object)) (s : Stamped) → ObjectsLooked p ts a c (Made s) → ObjectsLooked p (ts ++ us) a c (Made s)
  objects_more ts us None c s first = first
  objects_more ts us (Some objects) c s first = told_more ts us objects c s first

  pub made_more : (ts us : List Try) (m n : ℕ) (a b : Told) (s : Stamped) → Looked p ts m a b (Made s) → Looked p (ts ++ us) n a b (Made s)
  made_more ts us m n a b s looked = record { room = looked.room; next = looked.next; objects = objects_more ts us a.objects b.objects s looked.objects; work = looked.work; lost = tt }

  objects_lost : (ts us : List Try) (a c : Option (List Object)) (object : ℕ) → ObjectsLooked p ts a c (Contended object) → ObjectsLooked p us a c (Contended object)
  objects_lost ts us None c object first = first
  objects_lost ts us (Some objects) c object first = absurd first

  pub lost_more : (ts us : List Try) (m n : ℕ) (a b : Told) (object : ℕ) → Looked p ts m a b (Contended object) → Looked p (ts ++ us) n a b (Contended object)
  lost_more ts us m n a b object looked = record {
    room = looked.room;
    next = looked.next;
    objects = objects_lost ts (ts ++ us) a.objects b.objects object looked.objects;
    work = looked.work;
    lost = touched_first ts us object looked.lost;
  }

-- ---- lists

pub gathered_on : {X Y : Type 0} (f : X → List Y) (xs ys : List X) → gathered f (xs ++ ys) ≡ gathered f xs ++ gathered f ys
gathered_on f [] ys = refl
gathered_on f (x ∷ xs) ys = ap (λ z. f x ++ z) (gathered_on f xs ys) ∙ sym (append_assoc (f x) (gathered f xs) (gathered f ys))

pub gathered_one : {X Y : Type 0} (f : X → List Y) (xs : List X) (x : X) → gathered f (xs ++ x ∷ []) ≡ gathered f xs ++ f x
gathered_one f xs x = gathered_on f xs (x ∷ []) ∙ ap (λ z. gathered f xs ++ z) (append-nil (f x))

pub count_on : {X : Type 0} (test : X → Bool) (xs ys : List X) → count test (xs ++ ys) ≡ count test xs + count test ys
count_on test [] ys = omega arith
count_on test (x ∷ xs) ys = by_test (test x) (count_on test xs ys)
  where
    by_test : (b : Bool) → count test (xs ++ ys) ≡ count test xs + count test ys → (if b then suc (count test (xs ++ ys)) else count test (xs ++ ys)) ≡ (if b then suc (count test xs) else count test xs) + count test ys
    by_test true before = omega (arith, before)
    by_test false before = before
