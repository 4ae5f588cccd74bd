-- The request that a server's start takes: the next one that counts for the activation, and it was made by an ask.
use Rattle.std.proofs.Common.{◌≡◌, ℕ, zero, suc, ℤ, Bool, true, false, not, ◌==◌, if◌then◌else◌, refl, sym, ◌∙◌, ap, subst, List, [], ◌∷◌, ◌++◌, length, Option, Some, None}
use Rattle.bus_semantics.specs.Common.{and_parts, ltb-true, false≢true, slice_get, ActKey, Value, words_of, same_number, Plan, server_of, queue_of, kind_of, runnable_of_event, Past}
use Rattle.bus_semantics.specs.Common.{served_by, serves_directly, key_fits, counts_with, requests_of, starts_of, has_unstarted, counts_for, IsSound}
use Rattle.std.specs.Prelude.{nat_lt, is_none}
use Rattle.bus_laws.specs.Common.{Invoked, Mapping, Actor, Act, Deed}
use Rattle.bus_semantics.specs.declared.entries.Deed.TheVariants as deed
use Rattle.bus_laws.proofs.Thinning.{noting, option_same, there_is}
use Rattle.bus_laws.proofs.OneEvent.{invoked_serves}
use Rattle.history_laws.proofs.Lists.{AtEnd, earlier, last, at_end}

-- ---- a request

-- it is one of a point that counts, and its words are a value's
pub record Made (counts : ℕ → Bool) (x : ℕ × List ℤ) : Type 0 where
  pub passes : counts x.0 ≡ true
  pub value : Value
  pub words : words_of value ≡ x.1

pub request_made : (counts : ℕ → Bool) (l : Past) (i : ℕ) (x : ℕ × List ℤ) → slice_get (requests_of counts l) i ≡ Some x → Made counts x
request_made counts [] i x e = absurd (cc e)
request_made counts (n ∷ l) i x e = by_deed n.entry.deed n.entry.actor n.event (request_made counts l i x) e
  where
    by_deed : (d : Deed) (a : Actor) (event : Option ℕ) → (slice_get (requests_of counts l) i ≡ Some x → Made counts x) → slice_get (requests_of counts (noting a d event ∷ l)) i ≡ Some x → Made counts x
    by_deed (deed.Ask q value zero) a event before e = by_test (counts q) refl e
      where
        by_place : counts q ≡ true → AtEnd (requests_of counts l) (q, words_of value) i x → Made counts x
        by_place is (earlier there) = before there
        by_place is (last there) = record { passes = ap (λ (y : ℕ × List ℤ). counts y.0) (sym there) ∙ is; value = value; words = ap (λ (y : ℕ × List ℤ). y.1) there }

        by_test : (b : Bool) → counts q ≡ b → slice_get (if b then requests_of counts l ++ (q, words_of value) ∷ [] else requests_of counts l) i ≡ Some x → Made counts x
        by_test false is e = before e
        by_test true is e = by_place is (at_end (requests_of counts l) (q, words_of value) i x e)
    by_deed (deed.Ask q value (suc code)) a event before e = before e
    by_deed d a event before e = before e

-- the first request that was not started
pub record Unstarted (counts : ℕ → Bool) (l : Past) : Type 0 where
  pub request : ℕ × List ℤ
  pub is : slice_get (requests_of counts l) (starts_of counts l) ≡ Some request

pub unstarted : (counts : ℕ → Bool) (l : Past) → has_unstarted counts l ≡ true → Unstarted counts l
unstarted counts l less =
    let x = there_is (requests_of counts l) (starts_of counts l) (ltb-true (starts_of counts l) (length (requests_of counts l)) less) in
    record { request = x.0; is = x.1 }

-- ---- the activation that an event of a server starts

-- of a server with a queue, which has no point of its own; or of a direct one, for its point
pub data Serving (p : Plan) (s : ℕ) (own : Option ℕ) : Type 0 where
  by_queue : (most : ℕ) → own ≡ None → queue_of p s ≡ Some most → Serving p s own
  directly : (q : ℕ) → own ≡ Some q → queue_of p s ≡ None → server_of p q ≡ Some s → Serving p s own

module _ (p : Plan) (m : Mapping) (sound : IsSound p m) (k : ActKey) (e s : ℕ) (kind : kind_of p e ≡ Invoked s) (runs : runnable_of_event p e ≡ Some k.runnable) (fit : key_fits p k ≡ true) where
  served : served_by p (Act k) ≡ Some s
  served = invoked_serves p m sound e s k.runnable kind runs

  direct_is : serves_directly p k ≡ is_none (queue_of p s)
  direct_is = rw served refl

  pub serving : Serving p s k.point
  serving = by_point k.point refl (queue_of p s) refl
    where
      point_part : (o : Option ℕ) → k.point ≡ o → key_fits p (record { runnable = k.runnable; point = o }) ≡ true
      point_part o is = subst (λ (x : Option ℕ). key_fits p (record { runnable = k.runnable; point = x }) ≡ true) is fit

      by_point : (o : Option ℕ) → k.point ≡ o → (t : Option ℕ) → queue_of p s ≡ t → Serving p s k.point
      by_point None is (Some most) queue = by_queue most is queue
      by_point None is None queue =
          let free : not (serves_directly p k) ≡ true = (and_parts (nat_lt k.runnable (length p.runnables)) (not (serves_directly p k)) (point_part None is)).1 in
          absurd (false≢true (sym (ap not (direct_is ∙ ap is_none queue)) ∙ free))
      by_point (Some q) is t queue =
          let parts = and_parts (serves_directly p k) (same_number (server_of p q) (served_by p (Act k))) (and_parts (nat_lt k.runnable (length p.runnables)) _ (point_part (Some q) is)).1 in
          let joined : server_of p q ≡ Some s = option_same (server_of p q) (served_by p (Act k)) parts.1 ∙ served in
          of_queue t queue (sym direct_is ∙ parts.0) joined
        where
          of_queue : (t : Option ℕ) → queue_of p s ≡ t → is_none (queue_of p s) ≡ true → server_of p q ≡ Some s → Serving p s k.point
          of_queue None queue none joined = directly q is queue joined
          of_queue (Some most) queue none joined = absurd (false≢true (sym (ap is_none queue) ∙ none))

-- ---- the requests that count

-- those that count with a point of the activation are those that count for it
pub counts_same : (p : Plan) (s q : ℕ) (own : Option ℕ) → Serving p s own → server_of p q ≡ Some s → ((r : ℕ) → own ≡ Some r → r ≡ q) → counts_with p q ≡ counts_for p s own
counts_same p s q own (by_queue most none queue) joined mine = (λ i. λ r. each r i) ∙ ap (counts_for p s) (sym none)
  where
    each : (r : ℕ) → counts_with p q r ≡ counts_for p s None r
    each r = rw (joined, queue) refl
counts_same p s q own (directly x some queue at) joined mine = (λ i. λ r. each r i) ∙ ap (counts_for p s) (sym some)
  where
    each : (r : ℕ) → counts_with p q r ≡ counts_for p s (Some x) r
    each r = rw (joined, queue) (ap (λ y. y == r) (sym (mine x some)))
