-- A request that stays open: nothing was returned, so the activation that serves it goes on.
use Rattle.std.proofs.Common.{◌≡◌, ℕ, zero, suc, ◌≤◌, ℤ, Bool, true, false, ◌&&◌, ◌||◌, not, if◌then◌else◌, refl, sym, ◌∙◌, ap, subst, arith, List, [], ◌∷◌, ◌++◌, length, Option, Some, None}
use Rattle.bus_semantics.specs.Common.{false≢true, option_or, slice_get, ActKey, words_of, same_key, Plan, History, Noted, Past, noted, note, newest, runs, served_by, is_request_at}
use Rattle.bus_semantics.specs.Common.{takes_reply_at, is_outstanding, serves, returned_by, returned_to, requests_of, is_open, serves_by, MayFollow, IsLegal, IsSound}
use Rattle.std.specs.Prelude.{unwrap_or}
use Rattle.bus_laws.specs.Common.{Mapping, Actor, Act, Deed, Entry}
use Rattle.bus_semantics.specs.declared.entries.Deed.TheVariants as deed
use Rattle.bus_laws.proofs.Thinning.{noting, clash, if_same}
use Rattle.bus_laws.proofs.LocalReturns.{newer_returned}
use Rattle.history_laws.specs.Serving.{IsOpen, IsServedBy}
use Rattle.history_laws.proofs.Keys.{mine, itself, begins, alive, IsTo, others, starts, goes_on, is_to}
use Rattle.history_laws.proofs.ServedOnce.{serves_open, over_closed}

-- ---- what was open before

pub record OpenBefore (q : ℕ) (h : History) (x : Entry) : Type 0 where
  pub open_before : IsOpen q h
  pub unreturned : returned_by q x.actor x.deed (noted h) ≡ None

pub still_open : (q : ℕ) (h : History) (x : Entry) → is_request_at q x.deed ≡ false → IsOpen q (x ∷ h) → OpenBefore q h x
still_open q h x new is =
    let outstanding : is_outstanding q (noted h) ≡ true = before (is_request_at q x.deed) (takes_reply_at q x.deed) (is_outstanding q (noted h)) new is.outstanding in
    let none : option_or (returned_by q x.actor x.deed (noted h)) (returned_to q (noted h)) ≡ None =
    (λ i. if sym new i then None else option_or (returned_by q x.actor x.deed (noted h)) (returned_to q (noted h)))
    ∙ sym (newer_returned q (note h x) (noted h) (returned_by q x.actor x.deed (noted h)) refl) ∙ is.unreturned in
    let parts = both_none (returned_by q x.actor x.deed (noted h)) (returned_to q (noted h)) none in
    record { open_before = record { outstanding = outstanding; unreturned = parts.1 }; unreturned = parts.0 }
  where
    before : (a b c : Bool) → a ≡ false → (a || (not b && c)) ≡ true → c ≡ true
    before true b c other e = absurd (false≢true (sym other))
    before false true c other e = absurd (false≢true e)
    before false false c other e = e

    both_none : (a b : Option (ℕ × List ℤ)) → option_or a b ≡ None → (a ≡ None) × (b ≡ None)
    both_none None b e = (refl, e)
    both_none (Some r) b e = absurd (cc e)

-- ---- who serves goes on

module _ (p : Plan) (m : Mapping) (sound : IsSound p m) (k : ActKey) (s : ℕ) (home : served_by p (Act k) ≡ Some s) (q : ℕ) where
  pub served_more : (h : History) (x : Entry) → IsLegal p h → MayFollow p h x → is_request_at q x.deed ≡ false → returned_by q x.actor x.deed (noted h) ≡ None → IsServedBy q k h → IsServedBy q k (x ∷ h)
  served_more h x legal may new none before = by_kind (is_to p k h x may (alive p k h legal))
    where
      -- it serves, and its last start has no return
      Kept : Entry → Type 0
      Kept y = (serves q k (noted (y ∷ h)) ≡ true) × (is_open (serves_by (Act k)) (noted (y ∷ h)) ≡ true)

      whole : Kept x → IsServedBy q k (x ∷ h)
      whole kept = record { running = by_running (runs k (x ∷ h)) refl; serving = kept.0; unreturned = kept.1 }
        where
          by_running : (b : Bool) → runs k (x ∷ h) ≡ b → b ≡ true
          by_running true is = refl
          by_running false is = clash (is_open (serves_by (Act k)) (noted (x ∷ h))) kept.1 (serves_open p k (x ∷ h) (legal, may) ∙ over_closed p k m sound s home (x ∷ h) (legal, may) is)

      own_deed : (d : Deed) → begins d ≡ false → is_request_at q d ≡ false → returned_by q (Act k) d (noted h) ≡ None → Kept (mine k d)
      own_deed (deed.Start event point value) other new none = absurd (false≢true (sym other))
      own_deed (deed.Return code value) other new none = absurd (cc (sym (ap (λ b. if b then Some (code, words_of value) else None) before.serving) ∙ none))
      own_deed d other new none =
          let nothing : Option Bool = None in
          let silent : serves_by (Act k) (note h (mine k d)) ≡ None = if_same (same_key k k) nothing in (
            (λ i. if new i then false else if itself k i then serves q k (noted h) else serves q k (noted h)) ∙ before.serving,
            ap (λ o. unwrap_or (option_or o (newest (serves_by (Act k)) (noted h))) false) silent ∙ before.unreturned,
          )

      by_kind : IsTo p k h x → IsServedBy q k (x ∷ h)
      by_kind (others other) = whole (
        rw (new, other) before.serving,
        rw other before.unreturned,
      )
      by_kind (starts event point value is own idle runnable asked) = clash (runs k h) before.running idle
      by_kind (goes_on is own other running a next) =
          whole (subst Kept (sym is) (own_deed x.deed other new (subst (λ (y : Entry). returned_by q y.actor x.deed (noted h) ≡ None) is none)))

-- ---- requests, one entry further

pub kept_at : {X : Type 0} (xs ys : List X) (i : ℕ) (x : X) → slice_get xs i ≡ Some x → slice_get (xs ++ ys) i ≡ Some x
kept_at [] ys i x e = absurd (cc e)
kept_at (y ∷ xs) ys zero x e = e
kept_at (y ∷ xs) ys (suc i) x e = kept_at xs ys i x e

pub requests_kept : (counts : ℕ → Bool) (n : Noted) (l : Past) (i : ℕ) (x : ℕ × List ℤ) → slice_get (requests_of counts l) i ≡ Some x → slice_get (requests_of counts (n ∷ l)) i ≡ Some x
requests_kept counts n l i x there = by_deed n.entry.deed n.entry.actor n.event
  where
    by_deed : (d : Deed) (a : Actor) (event : Option ℕ) → slice_get (requests_of counts (noting a d event ∷ l)) i ≡ Some x
    by_deed (deed.Ask q value zero) a event = by_test (counts q)
      where
        by_test : (b : Bool) → slice_get (if b then requests_of counts l ++ (q, words_of value) ∷ [] else requests_of counts l) i ≡ Some x
        by_test true = kept_at (requests_of counts l) ((q, words_of value) ∷ []) i x there
        by_test false = there
    by_deed (deed.Ask q value (suc code)) a event = there
    by_deed d a event = there

pub length_more : {X : Type 0} (xs : List X) (y : X) → length (xs ++ y ∷ []) ≡ suc (length xs)
length_more [] y = refl
length_more (x ∷ xs) y = ap suc (length_more xs y)

pub requests_grow : (counts : ℕ → Bool) (n : Noted) (l : Past) → length (requests_of counts l) ≤ length (requests_of counts (n ∷ l))
requests_grow counts n l = by_deed n.entry.deed n.entry.actor n.event
  where
    by_deed : (d : Deed) (a : Actor) (event : Option ℕ) → length (requests_of counts l) ≤ length (requests_of counts (noting a d event ∷ l))
    by_deed (deed.Ask q value zero) a event = by_test (counts q)
      where
        by_test : (b : Bool) → length (requests_of counts l) ≤ length (if b then requests_of counts l ++ (q, words_of value) ∷ [] else requests_of counts l)
        by_test true = let more = length_more (requests_of counts l) (q, words_of value) in omega arith
        by_test false = omega arith
    by_deed (deed.Ask q value (suc code)) a event = omega arith
    by_deed d a event = omega arith
