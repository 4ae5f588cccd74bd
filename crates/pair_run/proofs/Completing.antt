-- What was begun may go on to its end: a session of a script, what crosses, and a joint session.
use Rattle.std.proofs.Common.{◌≡◌, ◌<◌, ℕ, zero, suc, ◌+◌, Bool, true, false, pos, List, [], ◌∷◌, ◌++◌, length, get_or, take, drop, replicate, inl, refl, sym, ap, ◌∙◌, subst, append_assoc}
use Rattle.std.proofs.Common.{append-nil, drop-cons, arith}
use Rattle.bus_semantics.specs.Common.{All, AllByRecursion, false≢true, take_more, take-append-drop, All-head, All-tail, Value, wish_fits, Plan, Session, made, run_begins, run_closes, idle}
use Rattle.bus_semantics.specs.Common.{Ordered, a_run, a_call, orders_of, orders_of_script, is_inside, is_placed, IsSessionOf, IsBeginningOf, Wanted, to_tick, wanted_by, wanted_of}
use Rattle.bus_laws.specs.Common.{Env, Deed, Entry, Wish, Line}
use Rattle.bus_semantics.specs.declared.entries.Deed.TheVariants as deed
use Rattle.bus_semantics.specs.declared.entries.Wish.TheVariants as wish
use Rattle.bus_semantics.specs.declared.script.Line.TheVariants as line
use Rattle.script_reading.specs.Carried.{IsCarriable}
use Rattle.signal_link.specs.declared.link_elem.LinkElem.{LinkElem}
use Rattle.pair_run.specs.Common.{Then, InOrder, Sends, FindsNone, Drains, Crosses, Did, Makes, Follows, Joint, Side, one, two, all_on}
use Rattle.pair_run.proofs.Joints.{then_both}

-- ---- orders

-- some deed of the environment does the order
abbrev pub CanDo : Ordered → Type 0
CanDo a_run = Unit {0}
CanDo (a_call w) = (d : Deed) × (wanted_by 0 d ≡ w)

abbrev pub CanDoAll : List Ordered → Type 0
CanDoAll os = AllByRecursion CanDo os

all_right : (a b : List Ordered) → CanDoAll (a ++ b) → CanDoAll b
all_right [] b h = h
all_right (o ∷ a) b h = all_right a b h.1

-- items with which a session did these orders too
record Done (os : List Ordered) (s : Session) : Type 0 where
  items : Session
  did : orders_of (items ++ s) ≡ orders_of s ++ os
  placed : is_placed (items ++ s) ≡ true
  closed : is_inside (items ++ s) ≡ false

-- where a run line is open it closes first
closed_up : (s : Session) → is_placed s ≡ true → (inside : Bool) → is_inside s ≡ inside → Done [] s
closed_up s placed true is = record { items = run_closes idle ∷ []; did = sym (append-nil (orders_of s)); placed = rw (placed, is) refl; closed = refl }
closed_up s placed false is = record { items = []; did = sym (append-nil (orders_of s)); placed = placed; closed = is }

done_behind : (os more : List Ordered) (s t items : Session) → t ≡ items ++ s → orders_of t ≡ orders_of s ++ os → Done more t → Done (os ++ more) s
done_behind os more s t items is did d =
    let all : d.items ++ t ≡ (d.items ++ items) ++ s = ap (λ (u : Session). d.items ++ u) is ∙ sym (append_assoc d.items items s) in
    record {
      items = d.items ++ items;
      did = ap orders_of (sym all) ∙ d.did ∙ ap (λ (xs : List Ordered). xs ++ more) did ∙ append_assoc (orders_of s) os more;
      placed = subst (λ (u : Session). is_placed u ≡ true) all d.placed;
      closed = subst (λ (u : Session). is_inside u ≡ false) all d.closed;
    }

does : (os : List Ordered) → CanDoAll os → (s : Session) → is_placed s ≡ true → is_inside s ≡ false → Done os s
does [] can s placed out = record { items = []; did = sym (append-nil (orders_of s)); placed = placed; closed = out }
does (a_run ∷ os) can s placed out =
    let t : Session = run_closes idle ∷ run_begins ∷ s in
    done_behind (a_run ∷ []) os s t (run_closes idle ∷ run_begins ∷ []) refl refl
    (does os can.1 t (rw (placed, out) refl) refl)
does (a_call w ∷ os) can s placed out =
    let e : Entry = record { actor = Env; deed = can.0.0 } in
    let t : Session = made e ∷ s in
    done_behind (a_call w ∷ []) os s t (made e ∷ []) refl (ap (λ (v : Wanted). orders_of s ++ a_call v ∷ []) can.0.1)
    (does os can.1 t (rw (placed, out) refl) out)

-- a beginning of a session of a script goes on to a whole one
pub completes : (script : List Line) (s : Session) → CanDoAll (orders_of_script script) → IsBeginningOf script s → (later : Session) × IsSessionOf script (later ++ s)
completes script s can begun =
    let up = closed_up s begun.placed (is_inside s) refl in
    let left = all_right (orders_of s) begun.left (subst CanDoAll (sym begun.orders) can) in
    let all = done_behind [] begun.left s (up.items ++ s) up.items refl up.did (does begun.left left (up.items ++ s) up.placed up.closed) in
    (all.items, record { orders = all.did ∙ begun.orders; placed = all.placed; closed = all.closed })

-- ---- lines

ticks_can : (n : ℕ) → CanDoAll (replicate n (a_call to_tick) ++ [])
ticks_can zero = tt
ticks_can (suc n) = ((deed.Tick, refl), ticks_can n)

pub tick_can : (n : ℕ) → CanDoAll (orders_of_script (line.Tick n ∷ []))
tick_can n = ticks_can n

pub run_can : CanDoAll (orders_of_script (line.Run ∷ []))
run_can = (tt, tt)

-- the value of no words
no_value : Value
no_value = record { words = replicate 16 (pos 0); len = 0; short = omega arith; padded = refl }

pub call_can : (p : Plan) (w : Wish) → wish_fits p Env (wanted_of w) ≡ true → (d : Deed) × (wanted_by 0 d ≡ wanted_of w)
call_can p wish.Tick fits = (deed.Tick, refl)
call_can p (wish.Write elem value) fits = (deed.Write elem value, refl)
call_can p (wish.Read elem) fits = (deed.Read elem 0 no_value, refl)
call_can p (wish.Send elem value) fits = (deed.Send elem value 0, refl)
call_can p (wish.Receive elem) fits = (deed.Receive elem 0 no_value, refl)
call_can p (wish.Ask point value) fits = (deed.Ask point value 0, refl)
call_can p (wish.TakeResult point) fits = (deed.TakeResult point 0 no_value, refl)
call_can p (wish.Switch machine mode) fits = (deed.Switch machine mode 0, refl)
call_can p (wish.Mode port) fits = (deed.Mode port 0, refl)
call_can p w fits = absurd (false≢true fits)

pub line_can : (p : Plan) (l : Line) → IsCarriable p l → CanDoAll (orders_of_script (l ∷ []))
line_can p (line.Tick n) fits = tick_can n
line_can p line.Run fits = run_can
line_can p (line.Call w) fits = (call_can p w fits, tt)

-- ---- what may come

-- some items are of this kind
abbrev pub MayCome : (Joint → Type 0) → Type 0
MayCome A = (j : Joint) × A j

pub then_may : {A B : Joint → Type 0} → MayCome A → MayCome B → MayCome (Then A B)
then_may {A} {B} a b = (b.0 ++ a.0, then_both A B a.0 b.0 a.1 b.1)

pub did_may : (k : Side) (l : Line) → CanDoAll (orders_of_script (l ∷ [])) → MayCome (Did k l)
did_may k l can =
    let s = completes (l ∷ []) [] can (record { left = orders_of_script (l ∷ []); orders = refl; placed = refl }) in
    (all_on k (s.0 ++ []), record { session = s.0 ++ []; is = refl; of_line = s.1 })

pub sends_may : (l : LinkElem) (value : Value) → MayCome (Sends l value)
sends_may l value =
    let e : Entry = record { actor = Env; deed = deed.Send l.in_elem value 0 } in
    ((two, made e) ∷ [], record { entry = e; answer = 0; is = refl; by_two = refl; sent = refl })

pub none_may : (l : LinkElem) → MayCome (FindsNone l)
none_may l =
    let e : Entry = record { actor = Env; deed = deed.Receive l.out_elem 131 no_value } in
    ((one, made e) ∷ [], record { entry = e; code = 131; value = no_value; is = refl; by_one = refl; received = refl; none = inl refl })

pub drains_may : (l : LinkElem) → MayCome (Drains l)
drains_may l = let n = none_may l in (n.0 ++ [], (0, record { first = []; rest = n.0; is = refl; before = refl; after = n.1 }))

pub crosses_may : (ls : List LinkElem) → MayCome (Crosses ls)
crosses_may [] = ([], refl)
crosses_may (l ∷ ls) = then_may (drains_may l) (crosses_may ls)

-- ---- one of a list behind those before it

-- what comes of some, and then of others
in_order_both : {X : Type 0} → (kind : X → Joint → Type 0) (a b : List X) (j : Joint) → Then (InOrder kind a) (InOrder kind b) j → InOrder kind (a ++ b) j
in_order_both kind [] b j t = subst (InOrder kind b) (sym (t.is ∙ ap (λ (f : Joint). t.rest ++ f) t.before ∙ append-nil t.rest)) t.after
in_order_both kind (x ∷ a) b j t =
    let inner = t.before in
    let rest = then_both (InOrder kind a) (InOrder kind b) inner.rest t.rest inner.after t.after in
    record {
      first = inner.first;
      rest = t.rest ++ inner.rest;
      is = t.is ∙ ap (λ (f : Joint). t.rest ++ f) inner.is ∙ sym (append_assoc t.rest inner.rest inner.first);
      before = inner.before;
      after = in_order_both kind a b (t.rest ++ inner.rest) rest;
    }

pub one_in_order : {X : Type 0} → (kind : X → Joint → Type 0) (x : X) (j : Joint) → kind x j → InOrder kind (x ∷ []) j
one_in_order kind x j h = record { first = j; rest = []; is = refl; before = h; after = refl }

-- those so far, and one more
pub in_order_next : {X : Type 0} → (kind : X → Joint → Type 0) (xs : List X) (i : ℕ) (x : X) → i < length xs → x ≡ get_or xs i x
    → (j : Joint) → Then (InOrder kind (take i xs)) (kind x) j → InOrder kind (take (i + 1) xs) j
in_order_next {X} kind xs i x h is j t =
    let more : take i xs ++ x ∷ [] ≡ take (i + 1) xs = ap (λ (y : X). take i xs ++ y ∷ []) is ∙ sym (take_more xs i x h) in
    subst (λ (ys : List X). InOrder kind ys j) more
    (in_order_both kind (take i xs) (x ∷ []) j (record { first = t.first; rest = t.rest; is = t.is; before = t.before; after = one_in_order kind x t.rest t.after }))

-- those so far, one more, and the rest
pub in_order_whole : {X : Type 0} → (kind : X → Joint → Type 0) (xs : List X) (i : ℕ) (x : X) → i < length xs → x ≡ get_or xs i x
    → (j : Joint) → Then (InOrder kind (take i xs)) (Then (kind x) (InOrder kind (drop (suc i) xs))) j → InOrder kind xs j
in_order_whole {X} kind xs i x h is j t =
    let rest : drop i xs ≡ x ∷ drop (suc i) xs = drop-cons xs i x h ∙ ap (λ (y : X). y ∷ drop (suc i) xs) (sym is) in
    let all : take i xs ++ (x ∷ drop (suc i) xs) ≡ xs = ap (λ (ys : List X). take i xs ++ ys) (sym rest) ∙ take-append-drop i xs in
    subst (λ (ys : List X). InOrder kind ys j) all (in_order_both kind (take i xs) (x ∷ drop (suc i) xs) j t)

pub makes_may : (links : List LinkElem) (l : Line) → CanDoAll (orders_of_script (l ∷ [])) → MayCome (Makes links l)
makes_may links (line.Tick n) can = then_may (did_may one (line.Tick n) can) (did_may two (line.Tick n) can)
makes_may links line.Run can = then_may (did_may one line.Run can) (then_may (crosses_may links) (did_may two line.Run can))
makes_may links (line.Call w) can = did_may one (line.Call w) can

pub follows_may : (links : List LinkElem) (p : Plan) (ls : List Line) → All (IsCarriable p) ls → MayCome (Follows links ls)
follows_may links p [] fit = ([], refl)
follows_may links p (l ∷ ls) fit =
    then_may (makes_may links l (line_can p l (All-head (IsCarriable p) l ls fit))) (follows_may links p ls (All-tail (IsCarriable p) l ls fit))
