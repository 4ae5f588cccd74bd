-- The walks after an entry of a key stand for the history with it: the key's own walk goes on, who waits for its end is freed, and no other
-- walk changes.
use Rattle.std.proofs.Common.{◌≡◌, ℕ, ◌<◌, Bool, true, false, ◌&&◌, ◌==◌, refl, sym, ◌∙◌, ap, subst, arith, List, ◌∷◌, length, Option, Some, None}
use Rattle.std.specs.Prelude.{nat_lt, option_and_then}
use Rattle.bus_semantics.specs.Common.{slice_get, and_parts, eqb-true, eq-eqb, ltb-true, false≢true, same_Some, slice_get_within, ActKey, same_key, same_key-Decides, Plan, caller_of}
use Rattle.bus_semantics.specs.Common.{History, is_of, made_by, is_end, runs, key_fits, direct_key, asked_last, is_held_back, starts_or_goes_on, IsLegal, plain_key, IsSound}
use Rattle.bus_laws.specs.Common.{Mapping, Actor, Env, Machine, Act, Deed, Entry}
use Rattle.bus_semantics.specs.declared.entries.Deed.TheVariants as deed
use Rattle.history_laws.specs.Callers.{CallerWaits}
use Rattle.history_laws.proofs.Lists.{there_is}
use Rattle.history_laws.proofs.Keys.{alive, fit_key, itself, IsTo, others, starts, goes_on, is_to}
use Rattle.history_laws.proofs.Directs.{running_waits}
use Rattle.no_stall.proofs.Keys.{Shape, plain, direct, shape, direct_is, key_direct}
use Rattle.task_machine.specs.declared.instr.TaskSet.{TaskSet}
use Rattle.trace_walks.specs.declared.walk.Walk.{Walk}
use Rattle.trace_walks.specs.declared.walks.Walks.{Walks}
use Rattle.trace_walks.specs.Walking.{WalkStands, entry_of}
use Rattle.trace_walks.specs.Standing.{WalksStand, NotedAt, KeyNoted, FreedAt, CallerFreed, Freed, IsNoted}
use Rattle.trace_walks.proofs.Going.{passed}
use Rattle.trace_walks.proofs.Freeing.{freed_now}
use Rattle.trace_walks.proofs.Noting.{still, nobody}
use Rattle.trace_walks.proofs.Askers.{asker}

-- ---- keys and places

pub apart_keys : (j k : ActKey) → (j ≡ k → ⊥) → same_key j k ≡ false
apart_keys j k other = by_test (same_key j k) refl
  where
    by_test : (b : Bool) → same_key j k ≡ b → b ≡ false
    by_test false is = refl
    by_test true is = absurd (other ((same_key-Decides j k).0 is))

no_place : (xs ys : List Walk) (i : ℕ) → length ys ≡ length xs → slice_get xs i ≡ None → slice_get ys i ≡ None
no_place xs ys i whole none = by_place (slice_get ys i) refl
  where
    by_place : (o : Option Walk) → slice_get ys i ≡ o → o ≡ None
    by_place None is = refl
    by_place (Some w) is =
        let within : i < length ys = slice_get_within ys i w is in
        let before = there_is xs i (subst (λ n. i < n) whole within) in
        absurd (cc (sym none ∙ before.1))

same_place : (xs ys : List Walk) → ys ≡ xs → (i : ℕ) (w : Walk) → slice_get ys i ≡ Some w → slice_get xs i ≡ Some w
same_place xs ys same i w is = ap (λ zs. slice_get zs i) (sym same) ∙ is

-- the key of a point of a direct server
pub key_at : (p : Plan) (m : Mapping) (sound : IsSound p m) (j : ActKey) (q : ℕ) → key_fits p j ≡ true → j.point ≡ Some q → direct_key p q ≡ Some j
key_at p m sound j q fit at = by_shape (shape p m sound j fit)
  where
    by_shape : Shape p m sound j → direct_key p q ≡ Some j
    by_shape (plain is other) = absurd (cc (ap (λ (k : ActKey). k.point) is ∙ at))
    by_shape (direct r of) =
        let point : r ≡ q = same_Some r q (ap (λ (k : ActKey). k.point) of.is ∙ at) in
        ap (direct_key p) (sym point) ∙ key_direct p m sound r of.server of.plan of.joined of.found of.queue ∙ ap (λ k. Some k) of.is

-- ---- the walk of the key goes on

-- what stands at a place in between: the key's own walk, or another's, as it was
data Passed (t : TaskSet) (p : Plan) (h : History) (e : Entry) (j : ActKey) (w : Walk) : Type 0 where
  made : is_of j e ≡ true → WalkStands t p j (e ∷ h) w → Passed t p h e j w
  left : is_of j e ≡ false → WalkStands t p j h w → Passed t p h e j w

module _ (t : TaskSet) (p : Plan) (h : History) (k : ActKey) (d : Deed) (follows : starts_or_goes_on p h k d ≡ true) where
  place_passed : (at : ℕ) (xs ys : List Walk) → NotedAt t p k d at xs ys → (i : ℕ) (j : ActKey) (w : Walk) → (i ≡ at → j ≡ k) → ((i ≡ at → ⊥) → is_of j (entry_of k d) ≡ false)
      → ((b : Walk) → slice_get xs i ≡ Some b → WalkStands t p j h b) → slice_get ys i ≡ Some w → Passed t p h (entry_of k d) j w
  place_passed at xs ys noted i j w same apart stood is = by_place (i == at) refl
    where
      by_place : (b : Bool) → (i == at) ≡ b → Passed t p h (entry_of k d) j w
      by_place true eq =
          let here : i ≡ at = eqb-true i at eq in
          let key : j ≡ k = same here in
          let within : i < length ys = slice_get_within ys i w is in
          let before = there_is xs i (subst (λ n. i < n) noted.whole within) in
          let was : WalkStands t p k h before.0 = subst (λ x. WalkStands t p x h before.0) key (stood before.0 before.1) in
          let now : WalkStands t p k (entry_of k d ∷ h) w = noted.here h follows before.0 w (ap (slice_get xs) (sym here) ∙ before.1) (ap (slice_get ys) (sym here) ∙ is) was in
          made (ap (λ x. same_key x k) key ∙ itself k) (subst (λ x. WalkStands t p x (entry_of k d ∷ h) w) (sym key) now)
      by_place false eq =
          let other : i ≡ at → ⊥ = λ same. absurd (false≢true (sym eq ∙ eq-eqb i at same)) in
          left (apart other) (stood w (sym (noted.others i other) ∙ is))

module _ (t : TaskSet) (p : Plan) (m : Mapping) (sound : IsSound p m) (h : History) (k : ActKey) (d : Deed) (old : Walks) (legal : IsLegal p (entry_of k d ∷ h)) (stands : WalksStand t p h old) where
  abbrev e : Entry
  e = entry_of k d

  fit : key_fits p k ≡ true
  fit = fit_key p k d legal.1.fit

  follows : starts_or_goes_on p h k d ≡ true
  follows = let both = and_parts (starts_or_goes_on p h k d) _ legal.1.actor in both.0

  record Gone (ws : Walks) : Type 0 where
    runnables : length ws.plain.items ≡ length old.plain.items
    points : length ws.direct.items ≡ length old.direct.items
    plain : (r : ℕ) (w : Walk) → slice_get ws.plain.items r ≡ Some w → Passed t p h e (plain_key r) w
    direct : (j : ActKey) (q : ℕ) (w : Walk) → j.point ≡ Some q → key_fits p j ≡ true → slice_get ws.direct.items q ≡ Some w → Passed t p h e j w
    idle : (q : ℕ) (w : Walk) → direct_key p q ≡ None → slice_get ws.direct.items q ≡ Some w → w.running ≡ None

  gone : (ws : Walks) → KeyNoted t p k d old ws → Gone ws
  gone ws noted = by_point k.point refl
    where
      by_point : (o : Option ℕ) → k.point ≡ o → Gone ws
      by_point None at =
          let itself_is : record { runnable = k.runnable; point = None } ≡ k = λ i. record { runnable = k.runnable; point = sym at i } in
          let both : NotedAt t p k d k.runnable old.plain.items ws.plain.items × (ws.direct.items ≡ old.direct.items) =
          subst (λ x. NotedAt t p x d k.runnable old.plain.items ws.plain.items × (ws.direct.items ≡ old.direct.items)) itself_is (rw at at noted) in
          let same = same_place old.direct.items ws.direct.items both.1 in
          record {
            runnables = both.0.whole;
            points = ap length both.1;
            plain = λ r w is. place_passed t p h k d follows k.runnable old.plain.items ws.plain.items both.0 r (plain_key r) w
                (λ here i. record { runnable = here i; point = sym at i }) (λ other. apart_keys (plain_key r) k (λ key. other (ap (λ (x : ActKey). x.runnable) key))) (stands.plain r) is;
            direct = λ j q w point fits is. left (apart_keys j k (λ key. absurd (cc (sym point ∙ ap (λ (x : ActKey). x.point) key ∙ at)))) (stands.direct j q w point fits (same q w is));
            idle = λ q w none is. stands.idle q w none (same q w is);
          }
      by_point (Some s) at =
          let itself_is : record { runnable = k.runnable; point = Some s } ≡ k = λ i. record { runnable = k.runnable; point = sym at i } in
          let both : NotedAt t p k d s old.direct.items ws.direct.items × (ws.plain.items ≡ old.plain.items) =
          subst (λ x. NotedAt t p x d s old.direct.items ws.direct.items × (ws.plain.items ≡ old.plain.items)) itself_is (rw at at noted) in
          let same = same_place old.plain.items ws.plain.items both.1 in
          let key : direct_key p s ≡ Some k = key_at p m sound k s fit at in
          record {
            runnables = ap length both.1;
            points = both.0.whole;
            plain = λ r w is. left (apart_keys (plain_key r) k (λ key. absurd (cc (ap (λ (x : ActKey). x.point) key ∙ at)))) (stands.plain r w (same r w is));
            direct = λ j q w point fits is. place_passed t p h k d follows s old.direct.items ws.direct.items both.0 q j w
                (λ here. same_Some j k (sym (key_at p m sound j q fits point) ∙ ap (direct_key p) here ∙ key))
                (λ other. apart_keys j k (λ key. other (same_Some q s (sym point ∙ ap (λ (x : ActKey). x.point) key ∙ at)))) (λ b there. stands.direct j q b point fits there) is;
            idle = λ q w none is. stands.idle q w none (sym (both.0.others q (λ here. absurd (cc (sym none ∙ ap (direct_key p) here ∙ key)))) ∙ is);
          }

  -- ---- the others

  asked_outside : (r : ℕ) → slice_get old.plain.items r ≡ None → asked_last (plain_key r) (e ∷ h) ≡ None
  asked_outside r none = let still : asked_last (plain_key r) (e ∷ h) ≡ asked_last (plain_key r) h = rw apart refl in still ∙ stands.outside r none
    where
      not_here : plain_key r ≡ k → ⊥
      not_here key =
          let inside : k.runnable < length p.runnables = ltb-true k.runnable (length p.runnables) (and_parts (nat_lt k.runnable (length p.runnables)) _ fit).0 in
          let runnable : r ≡ k.runnable = ap (λ (x : ActKey). x.runnable) key in
          let long = stands.runnables in
          let there = there_is old.plain.items r (omega (arith, inside, runnable, long)) in
          cc (sym none ∙ there.1)

      apart : same_key (plain_key r) k ≡ false
      apart = apart_keys (plain_key r) k not_here

  -- the entry ends no direct activation that the key called
  abbrev IsNotFreed : ActKey → Type 0
  IsNotFreed j = (i : ActKey) → option_and_then (direct_key p) (asked_last j h) ≡ Some i → (is_of i e && is_end d) ≡ false

  passed_still : (j : ActKey) (w : Walk) → IsNotFreed j → Passed t p h e j w → WalkStands t p j (e ∷ h) w
  passed_still j w free (made own stood) = stood
  passed_still j w free (left other stood) = still t p h e j w other free stood

  none_freed : (ws : Walks) → Gone ws → ((j : ActKey) → IsNotFreed j) → WalksStand t p (e ∷ h) ws
  none_freed ws of free = record {
    runnables = of.runnables ∙ stands.runnables;
    points = of.points ∙ stands.points;
    plain = λ r w is. passed_still (plain_key r) w (free (plain_key r)) (of.plain r w is);
    direct = λ j q w point fits is. passed_still j w (free j) (of.direct j q w point fits is);
    idle = of.idle;
    outside = λ r none. asked_outside r (no_place ws.plain.items old.plain.items r (sym of.runnables) none);
  }

  -- ---- the end of a direct activation

  module _ (s : ℕ) (at : k.point ≡ Some s) (ends : d ≡ deed.End) where
    key : direct_key p s ≡ Some k
    key = key_at p m sound k s fit at

    running : runs k h ≡ true
    running = by_kind (is_to p k h e legal.1 (alive p k h legal.0))
      where
        by_kind : IsTo p k h e → runs k h ≡ true
        by_kind (others other) = absurd (false≢true (sym other ∙ itself k))
        by_kind (starts event point value is own idle runnable asked) = absurd (cc (sym ends ∙ ap (λ (x : Entry). x.deed) is))
        by_kind (goes_on is own other going a next) = going

    waits : CallerWaits p s k h
    waits = running_waits p m sound s k key h legal.0 running

    -- nobody else waits for it
    not_freed : (j : ActKey) → (j ≡ plain_key waits.caller → ⊥) → IsNotFreed j
    not_freed j other i calls = by_asked (asked_last j h) refl
      where
        by_asked : (o : Option ℕ) → asked_last j h ≡ o → (is_of i e && is_end d) ≡ false
        by_asked None asked = absurd (cc (rw asked at calls))
        by_asked (Some q) asked = let apart : same_key i k ≡ false = apart_keys i k not_here in ap (λ b. b && is_end d) apart
          where
            not_here : i ≡ k → ⊥
            not_here same =
                let there : direct_key p q ≡ Some i = rw asked at calls in
                let of = direct_is p m sound q i there in
                let point : q ≡ s = same_Some q s (ap (λ (x : ActKey). x.point) (of.is ∙ same) ∙ at) in
                let asks = asker p m sound j q h legal.0 asked in
                let runnable : j.runnable ≡ waits.caller = same_Some j.runnable waits.caller (sym asks.calls ∙ ap (caller_of p) point ∙ waits.calls) in
                other (λ z. record { runnable = runnable z; point = asks.plain z })

    caller_freed : (r : ℕ) (before after : Walk) → r ≡ waits.caller → after ≡ record { running = before.running; asked = before.asked; held = false } → Passed t p h e (plain_key r) before
        → WalkStands t p (plain_key r) (e ∷ h) after
    caller_freed r before after same is (made own stood) = absurd (false≢true (sym (apart_keys (plain_key r) k (λ key. absurd (cc (ap (λ (x : ActKey). x.point) key ∙ at)))) ∙ own))
    caller_freed r before after same is (left other stood) =
        let asks : asked_last (plain_key r) h ≡ Some s = ap (λ n. asked_last (plain_key n) h) same ∙ waits.asked in
        let free : is_held_back p (e ∷ h) (plain_key r) ≡ false = ap (λ x. is_held_back p (entry_of k x ∷ h) (plain_key r)) ends ∙ freed_now p h (plain_key r) k s other asks key in
        subst (WalkStands t p (plain_key r) (e ∷ h)) (sym is) (passed t p (plain_key r) h e other before false (sym free) stood)

    place_freed : (between new : Walks) → Gone between → FreedAt waits.caller between.plain.items new.plain.items → (r : ℕ) (w : Walk) → slice_get new.plain.items r ≡ Some w
        → WalkStands t p (plain_key r) (e ∷ h) w
    place_freed between new of freed r w is = by_place (r == waits.caller) refl
      where
        by_place : (b : Bool) → (r == waits.caller) ≡ b → WalkStands t p (plain_key r) (e ∷ h) w
        by_place true eq =
            let here : r ≡ waits.caller = eqb-true r waits.caller eq in
            let within : r < length new.plain.items = slice_get_within new.plain.items r w is in
            let before = there_is between.plain.items r (subst (λ n. r < n) freed.whole within) in
            caller_freed r before.0 w here (freed.here before.0 w (ap (slice_get between.plain.items) (sym here) ∙ before.1) (ap (slice_get new.plain.items) (sym here) ∙ is)) (of.plain r before.0 before.1)
        by_place false eq =
            let other : r ≡ waits.caller → ⊥ = λ same. absurd (false≢true (sym eq ∙ eq-eqb r waits.caller same)) in
            passed_still (plain_key r) w (not_freed (plain_key r) (λ same. other (ap (λ (x : ActKey). x.runnable) same))) (of.plain r w (sym (freed.others r other) ∙ is))

    ended : (between new : Walks) → Gone between → CallerFreed p s between new → WalksStand t p (e ∷ h) new
    ended between new of freed =
        let calls = waits.calls in
        let both : FreedAt waits.caller between.plain.items new.plain.items × (new.direct.items ≡ between.direct.items) = rw calls at freed in
        let same = same_place between.direct.items new.direct.items both.1 in
        let long : length new.plain.items ≡ length old.plain.items = both.0.whole ∙ of.runnables in
        record {
          runnables = long ∙ stands.runnables;
          points = ap length both.1 ∙ of.points ∙ stands.points;
          plain = place_freed between new of both.0;
          direct = λ j q w point fits is. passed_still j w (not_freed j (λ same. absurd (cc (sym point ∙ ap (λ (x : ActKey). x.point) same)))) (of.direct j q w point fits (same q w is));
          idle = λ q w none is. of.idle q w none (same q w is);
          outside = λ r none. asked_outside r (no_place new.plain.items old.plain.items r (sym long) none);
        }

  -- ---- an entry of the key

  key_noted : (new : Walks) → IsNoted t p k d old new → WalksStand t p (e ∷ h) new
  key_noted new of = by_deed d refl of.freed
    where
      between_stand : is_end d ≡ false → WalksStand t p (e ∷ h) of.between
      between_stand other = none_freed of.between (gone of.between of.gone) (λ j i calls. both (is_of i e) other)
        where
          both : (a : Bool) → is_end d ≡ false → (a && is_end d) ≡ false
          both true ends = ends
          both false ends = refl

      by_point : d ≡ deed.End → (o : Option ℕ) → k.point ≡ o → Freed p k deed.End of.between new → WalksStand t p (e ∷ h) new
      by_point ends None at freed =
          let same : new ≡ of.between = rw at at freed in
          subst (WalksStand t p (e ∷ h)) (sym same) (none_freed of.between (gone of.between of.gone) (λ j i calls. ap (λ b. b && is_end d) (apart_keys i k (λ key. pointless j i calls (ap (λ (x : ActKey). x.point) key ∙ at)))))
        where
          -- a direct activation has a point
          pointless : (j i : ActKey) → option_and_then (direct_key p) (asked_last j h) ≡ Some i → i.point ≡ None → ⊥
          pointless j i calls none = by_asked (asked_last j h) refl
            where
              by_asked : (o : Option ℕ) → asked_last j h ≡ o → ⊥
              by_asked None asked = cc (rw asked at calls)
              by_asked (Some q) asked = let of = direct_is p m sound q i (rw asked at calls) in cc (ap (λ (x : ActKey). x.point) of.is ∙ none)
      by_point ends (Some s) at freed = ended s at ends of.between new (gone of.between of.gone) (rw at at freed)

      by_deed : (x : Deed) → d ≡ x → Freed p k x of.between new → WalksStand t p (e ∷ h) new
      by_deed deed.End is freed = by_point is k.point refl freed
      by_deed x is freed = subst (WalksStand t p (e ∷ h)) (sym freed) (between_stand (ap is_end is))

-- ---- an entry of anyone

pub noted_stands : (t : TaskSet) (p : Plan) (m : Mapping) (h : History) (e : Entry) (k : ActKey) (old new : Walks) → e.actor ≡ Act k → IsSound p m → IsLegal p (e ∷ h) → WalksStand t p h old → IsNoted t p k e.deed old new
    → WalksStand t p (e ∷ h) new
noted_stands t p m h e k old new is sound legal stands of =
    let entry : e ≡ entry_of k e.deed = λ i. record { actor = is i; deed = e.deed } in
    subst (λ x. WalksStand t p (x ∷ h) new) (sym entry) (key_noted t p m sound h k e.deed old (subst (λ x. IsLegal p (x ∷ h)) entry legal) stands new of)

pub others_stand : (t : TaskSet) (p : Plan) (h : History) (e : Entry) (ws : Walks) → ((k : ActKey) → e.actor ≡ Act k → ⊥) → WalksStand t p h ws → WalksStand t p (e ∷ h) ws
others_stand t p h e ws nobody_acts stands = nobody t p h e (λ k. by_actor k e.actor refl) ws stands
  where
    by_actor : (k : ActKey) (a : Actor) → e.actor ≡ a → made_by k a ≡ false
    by_actor k Env is = refl
    by_actor k (Machine n) is = refl
    by_actor k (Act j) is = absurd (nobody_acts j is)
