-- What each side does of a script.
use Rattle.std.proofs.Common.{◌≡◌, ℕ, zero, suc, Bool, true, false, not, ◌&&◌, ◌==◌, cond, List, [], ◌∷◌, ◌++◌, get_or, filter, replicate, Some, None, refl, sym, ap, ◌∙◌, append_assoc, append-nil}
use Rattle.bus_semantics.specs.Common.{All, AllByRecursion, flat_map, list_any, slice_get, eq-eqb, not-true, or_left, or_right, All-head, All-tail, filter-append, same_Some}
use Rattle.bus_semantics.specs.Common.{slice_get_within, wish_fits, is_environment, is_queued, Plan, Session, made, run_begins, run_closes, Ordered, a_run, a_call, orders_of}
use Rattle.bus_semantics.specs.Common.{orders_of_entry, orders_of_line, orders_of_script, Wanted, to_tick, to_receive, to_send, wanted_by, wanted_of, Value, same_number, words_of}
use Rattle.bus_laws.specs.Common.{Env, Entry, ElemPlan, Line}
use Rattle.bus_semantics.specs.declared.entries.Deed.TheVariants as deed
use Rattle.bus_semantics.specs.declared.script.Line.TheVariants as line
use Rattle.bus_laws.proofs.Thinning.{found_where}
use Rattle.script_reading.specs.Meaning as asked
use Rattle.script_reading.specs.Reserved.{keeps_off}
use Rattle.signal_link.specs.declared.link_elem.LinkElem.{LinkElem}
use Rattle.pair_run.specs.Common.{Then, InOrder, Takes, Sends, FindsNone, Passes, Passed, Drains, Crosses, Did, Makes, Follows, Joint, Side, one, two, side_of, linked_in, is_link_receive}
use Rattle.pair_run.specs.Common.{IsPairLine}
use Rattle.pair_run.specs.Parts.{is_link_send, is_of_both}
use Rattle.pair_run.proofs.Joints.{side-append, one-of_one, one-of_two, two-of_one, two-of_two}
use Rattle.pair_run.proofs.Marking.{linked_at}

-- ---- what is read of a joint session piece by piece

pub record IsRead {X : Type 0} (h : Joint → List X) : Type 0 where
  pub none : h [] ≡ []
  pub both : (newer older : Joint) → h (newer ++ older) ≡ h older ++ h newer

abbrev pub Gives : {X : Type 0} → (Joint → List X) → (Joint → Type 0) → List X → Type 0
Gives h A xs = (j : Joint) → A j → h j ≡ xs

module _ {X : Type 0} (h : Joint → List X) (r : IsRead h) where
  pub then_gives : (A B : Joint → Type 0) (xs ys : List X) → Gives h A xs → Gives h B ys → Gives h (Then A B) (xs ++ ys)
  then_gives A B xs ys f g j t =
      ap h t.is ∙ r.both t.rest t.first ∙ ap (λ (zs : List X). zs ++ h t.rest) (f t.first t.before) ∙ ap (λ (zs : List X). xs ++ zs) (g t.rest t.after)

  pub order_gives : {Y : Type 0} → (kind : Y → Joint → Type 0) (out : Y → List X) (ys : List Y) → AllByRecursion (λ (y : Y). Gives h (kind y) (out y)) ys → Gives h (InOrder kind ys) (flat_map out ys)
  order_gives kind out [] all = λ j is. ap h is ∙ r.none
  order_gives kind out (y ∷ ys) all = then_gives (kind y) (InOrder kind ys) (out y) (flat_map out ys) all.0 (order_gives kind out ys all.1)

  -- where nothing is read of a pass, nothing is read of what drains
  passed_gives : (l : LinkElem) → Gives h (Passes l) [] → (n : ℕ) → Gives h (Passed l n) []
  passed_gives l pass zero = λ j is. ap h is ∙ r.none
  passed_gives l pass (suc n) = then_gives (Passed l n) (Passes l) [] [] (passed_gives l pass n) pass

  pub drains_gives : (l : LinkElem) → ((v : Value) → Gives h (Takes l v) []) → ((v : Value) → Gives h (Sends l v) []) → Gives h (FindsNone l) [] → Gives h (Drains l) []
  drains_gives l takes sends none j d =
      then_gives (Passed l d.0) (FindsNone l) [] []
      (passed_gives l (λ k pass. then_gives (Takes l pass.0) (Sends l pass.0) [] [] (takes pass.0) (sends pass.0) k pass.1) d.0) none j d.1

-- of each of a list
pub of_each : (P : LinkElem → Type 0) (links : List LinkElem) → ((k : ℕ) (l : LinkElem) → slice_get links k ≡ Some l → P l) → AllByRecursion P links
of_each P [] f = tt
of_each P (l ∷ links) f = (f 0 l refl, of_each P links (λ k m at. f (suc k) m at))

pub any_of : {X : Type 0} → (test : X → Bool) (xs : List X) (k : ℕ) (x : X) → slice_get xs k ≡ Some x → test x ≡ true → list_any test xs ≡ true
any_of test [] k x at h = absurd (cc at)
any_of test (y ∷ xs) zero x at h = or_left (test y) (list_any test xs) (ap test (same_Some y x at) ∙ h)
any_of test (y ∷ xs) (suc k) x at h = or_right (test y) (list_any test xs) (any_of test xs k x at h)

nothing_of : {X Y : Type 0} → (ys : List Y) → flat_map (λ (y : Y). let none : List X = [] in none) ys ≡ []
nothing_of [] = refl
nothing_of (y ∷ ys) = nothing_of ys

-- ---- orders

-- those of one session behind another
orders-onto : (items s : Session) → orders_of (items ++ s) ≡ orders_of s ++ orders_of items
orders-onto [] s = sym (append-nil (orders_of s))
orders-onto (made e ∷ items) s = ap (λ (os : List Ordered). os ++ orders_of_entry e) (orders-onto items s) ∙ append_assoc (orders_of s) (orders_of items) (orders_of_entry e)
orders-onto (run_begins ∷ items) s = ap (λ (os : List Ordered). os ++ a_run ∷ []) (orders-onto items s) ∙ append_assoc (orders_of s) (orders_of items) (a_run ∷ [])
orders-onto (run_closes word ∷ items) s = orders-onto items s

abbrev pub orders_on : (k : Side) → (Ordered → Bool) → Joint → List Ordered
orders_on k f j = filter f (orders_of (side_of k j))

pub orders_read : (k : Side) (f : Ordered → Bool) → IsRead (orders_on k f)
orders_read k f = record {
  none = refl;
  both = λ newer older.
      ap (λ (s : Session). filter f (orders_of s)) (side-append k newer older)
      ∙ ap (filter f) (orders-onto (side_of k newer) (side_of k older))
      ∙ filter-append f (orders_of (side_of k older)) (orders_of (side_of k newer));
}

entry_orders : (e : Entry) (c : Wanted) → e.actor ≡ Env → wanted_by 0 e.deed ≡ c → orders_of_entry e ≡ a_call c ∷ []
entry_orders e c by wanted =
    ap (λ (b : Bool). cond b (a_call (wanted_by 0 e.deed) ∷ []) []) (ap is_environment by) ∙ ap (λ (w : Wanted). a_call w ∷ []) wanted

left_out : (f : Ordered → Bool) (o : Ordered) → f o ≡ false → filter f (o ∷ []) ≡ []
left_out f o h = ap (λ (b : Bool). cond b (o ∷ []) []) h

kept_in : (f : Ordered → Bool) (o : Ordered) → f o ≡ true → filter f (o ∷ []) ≡ o ∷ []
kept_in f o h = ap (λ (b : Bool). cond b (o ∷ []) []) h

ticks_kept : (f : Ordered → Bool) → f (a_call to_tick) ≡ true → (n : ℕ) → filter f (replicate n (a_call to_tick)) ≡ replicate n (a_call to_tick)
ticks_kept f h zero = refl
ticks_kept f h (suc n) =
    ap (λ (b : Bool). cond b (a_call to_tick ∷ filter f (replicate n (a_call to_tick))) (filter f (replicate n (a_call to_tick)))) h
    ∙ ap (λ (os : List Ordered). a_call to_tick ∷ os) (ticks_kept f h n)

session_of_line : (l : Line) (s : Session) → orders_of s ≡ orders_of_script (l ∷ []) → orders_of s ≡ orders_of_line l
session_of_line l s is = is ∙ append-nil (orders_of_line l)

one_did : (f : Ordered → Bool) (l : Line) → filter f (orders_of_line l) ≡ orders_of_line l → Gives (orders_on one f) (Did one l) (orders_of_line l)
one_did f l kept j d = ap (orders_on one f) d.is ∙ ap (λ (s : Session). filter f (orders_of s)) (one-of_one d.session) ∙ ap (filter f) (session_of_line l d.session d.of_line.orders) ∙ kept

two_did : (f : Ordered → Bool) (l : Line) → filter f (orders_of_line l) ≡ orders_of_line l → Gives (orders_on two f) (Did two l) (orders_of_line l)
two_did f l kept j d = ap (orders_on two f) d.is ∙ ap (λ (s : Session). filter f (orders_of s)) (two-of_two d.session) ∙ ap (filter f) (session_of_line l d.session d.of_line.orders) ∙ kept

one_beside : (f : Ordered → Bool) (l : Line) → Gives (orders_on one f) (Did two l) []
one_beside f l j d = ap (orders_on one f) d.is ∙ ap (λ (s : Session). filter f (orders_of s)) (one-of_two d.session)

two_beside : (f : Ordered → Bool) (l : Line) → Gives (orders_on two f) (Did one l) []
two_beside f l j d = ap (orders_on two f) d.is ∙ ap (λ (s : Session). filter f (orders_of s)) (two-of_one d.session)

-- ---- on one

module _ (p : Plan) (links : List LinkElem) where
  abbrev off : Ordered → Bool
  off o = not (is_link_receive links o)

  received_out : (l : LinkElem) (k : ℕ) → slice_get links k ≡ Some l → off (a_call (to_receive l.out_elem)) ≡ false
  received_out l k at = ap not (any_of (λ (m : LinkElem). m.out_elem == l.out_elem) links k l at (eq-eqb l.out_elem l.out_elem refl))

  one_drains : (k : ℕ) (l : LinkElem) → slice_get links k ≡ Some l → Gives (orders_on one off) (Drains l) []
  one_drains k l at = drains_gives (orders_on one off) (orders_read one off) l takes sends none
    where
      taken : (e : Entry) (code : ℕ) (value : Value) → e.actor ≡ Env → e.deed ≡ deed.Receive l.out_elem code value → orders_on one off ((one, made e) ∷ []) ≡ []
      taken e code value by is =
          ap (filter off) (entry_orders e (to_receive l.out_elem) by (ap (wanted_by 0) is)) ∙ left_out off (a_call (to_receive l.out_elem)) (received_out l k at)

      takes : (v : Value) → Gives (orders_on one off) (Takes l v) []
      takes v j t = ap (orders_on one off) t.is ∙ taken t.entry t.code v t.by_one t.received

      sends : (v : Value) → Gives (orders_on one off) (Sends l v) []
      sends v j t = ap (orders_on one off) t.is

      none : Gives (orders_on one off) (FindsNone l) []
      none j t = ap (orders_on one off) t.is ∙ taken t.entry t.code t.value t.by_one t.received

  one_crosses : Gives (orders_on one off) (Crosses links) []
  one_crosses j c =
      order_gives (orders_on one off) (orders_read one off) Drains (λ (l : LinkElem). []) links (of_each (λ (l : LinkElem). Gives (orders_on one off) (Drains l) []) links one_drains) j c
      ∙ nothing_of links

  -- a line of the script keeps off
  pub call_off : (c : Wanted) → wish_fits p Env c ≡ true → keeps_off (linked_in p links) (asked.a_call c) ≡ true → is_link_receive links (a_call c) ≡ false
  call_off (to_receive x) fits kept =
      let at = found_where p.elements x (λ (e : ElemPlan). same_number e.instance None && (is_queued e && not e.provided)) fits in
      sym (linked_at p links x (slice_get_within p.elements x at.item at.found)) ∙ not-true (get_or (linked_in p links) x false) kept
  call_off c fits kept = refl

  one_line : (l : Line) → IsPairLine p links l → Gives (orders_on one off) (Makes links l) (orders_of_line l)
  one_line (line.Tick n) is j t =
      then_gives (orders_on one off) (orders_read one off) (Did one (line.Tick n)) (Did two (line.Tick n)) (orders_of_line (line.Tick n)) []
      (one_did off (line.Tick n) (ticks_kept off refl n)) (one_beside off (line.Tick n)) j t
      ∙ append-nil (orders_of_line (line.Tick n))
  one_line line.Run is j t =
      then_gives (orders_on one off) (orders_read one off) (Did one line.Run) (Then (Crosses links) (Did two line.Run)) (orders_of_line line.Run) [] (one_did off line.Run refl)
      (then_gives (orders_on one off) (orders_read one off) (Crosses links) (Did two line.Run) [] [] one_crosses (one_beside off line.Run)) j t
  one_line (line.Call w) is j t =
      one_did off (line.Call w) (kept_in off (a_call (wanted_of w)) (ap not (call_off (wanted_of w) is.carriable is.off))) j t

  each_line : (script : List Line) → All (IsPairLine p links) script → AllByRecursion (λ (l : Line). Gives (orders_on one off) (Makes links l) (orders_of_line l)) script
  each_line [] all = tt
  each_line (l ∷ script) all = (one_line l (All-head (IsPairLine p links) l script all), each_line script (All-tail (IsPairLine p links) l script all))

  all_lines : (script : List Line) → flat_map orders_of_line script ≡ orders_of_script script
  all_lines [] = refl
  all_lines (l ∷ script) = ap (λ (os : List Ordered). orders_of_line l ++ os) (all_lines script)

  pub one_does : (script : List Line) (j : Joint) → All (IsPairLine p links) script → Follows links script j → orders_on one off j ≡ orders_of_script script
  one_does script j all follows = order_gives (orders_on one off) (orders_read one off) (Makes links) orders_of_line script (each_line script all) j follows ∙ all_lines script

  -- ---- on two

  abbrev apart : Ordered → Bool
  apart o = not (is_link_send links o)

  two_drains : (k : ℕ) (l : LinkElem) → slice_get links k ≡ Some l → Gives (orders_on two apart) (Drains l) []
  two_drains k l at = drains_gives (orders_on two apart) (orders_read two apart) l takes sends none
    where
      takes : (v : Value) → Gives (orders_on two apart) (Takes l v) []
      takes v j t = ap (orders_on two apart) t.is

      sends : (v : Value) → Gives (orders_on two apart) (Sends l v) []
      sends v j t =
          ap (orders_on two apart) t.is
          ∙ ap (filter apart) (entry_orders t.entry (to_send l.in_elem (words_of v)) t.by_two (ap (wanted_by 0) t.sent))
          ∙ left_out apart (a_call (to_send l.in_elem (words_of v))) (ap not (any_of (λ (m : LinkElem). m.in_elem == l.in_elem) links k l at (eq-eqb l.in_elem l.in_elem refl)))

      none : Gives (orders_on two apart) (FindsNone l) []
      none j t = ap (orders_on two apart) t.is

  two_crosses : Gives (orders_on two apart) (Crosses links) []
  two_crosses j c =
      order_gives (orders_on two apart) (orders_read two apart) Drains (λ (l : LinkElem). []) links (of_each (λ (l : LinkElem). Gives (orders_on two apart) (Drains l) []) links two_drains) j c
      ∙ nothing_of links

  abbrev on_two : Line → List Ordered
  on_two l = cond (is_of_both l) (orders_of_line l) []

  two_line : (l : Line) → Gives (orders_on two apart) (Makes links l) (on_two l)
  two_line (line.Tick n) =
      then_gives (orders_on two apart) (orders_read two apart) (Did one (line.Tick n)) (Did two (line.Tick n)) [] (orders_of_line (line.Tick n))
      (two_beside apart (line.Tick n)) (two_did apart (line.Tick n) (ticks_kept apart refl n))
  two_line line.Run =
      then_gives (orders_on two apart) (orders_read two apart) (Did one line.Run) (Then (Crosses links) (Did two line.Run)) [] (orders_of_line line.Run) (two_beside apart line.Run)
      (then_gives (orders_on two apart) (orders_read two apart) (Crosses links) (Did two line.Run) [] (orders_of_line line.Run) two_crosses (two_did apart line.Run refl))
  two_line (line.Call w) = two_beside apart (line.Call w)

  each_on_two : (script : List Line) → AllByRecursion (λ (l : Line). Gives (orders_on two apart) (Makes links l) (on_two l)) script
  each_on_two [] = tt
  each_on_two (l ∷ script) = (two_line l, each_on_two script)

  all_on_two : (script : List Line) → flat_map on_two script ≡ orders_of_script (filter is_of_both script)
  all_on_two [] = refl
  all_on_two (line.Tick n ∷ script) = ap (λ (os : List Ordered). orders_of_line (line.Tick n) ++ os) (all_on_two script)
  all_on_two (line.Run ∷ script) = ap (λ (os : List Ordered). orders_of_line line.Run ++ os) (all_on_two script)
  all_on_two (line.Call w ∷ script) = all_on_two script

  pub two_does : (script : List Line) (j : Joint) → Follows links script j → orders_on two apart j ≡ orders_of_script (filter is_of_both script)
  two_does script j follows = order_gives (orders_on two apart) (orders_read two apart) (Makes links) on_two script (each_on_two script) j follows ∙ all_on_two script
