-- The keys that run, before a trace and after an entry.
use Rattle.std.proofs.Common.{◌≡◌, ℕ, zero, suc, ◌<◌, Bool, true, false, ◌==◌, not, refl, sym, ◌∙◌, ap, subst, List, [], ◌∷◌, length, get_or, set, replicate, Option, Some, None}
use Rattle.std.specs.Prelude.{nat_lt}
use Rattle.bus_semantics.specs.Common.{option_map_or, and_parts, eqb-true, eq-eqb, ltb-true, false≢true, get_or-set_other, get_or-set_same, length-set, same_Some, ActKey, Plan, History}
use Rattle.bus_semantics.specs.Common.{is_of, is_over, made_by, runs, key_fits, fits, direct_key, plain_key, IsSound}
use Rattle.bus_laws.specs.Common.{Mapping, Actor, Env, Machine, Act, Deed, Entry}
use Rattle.history_laws.proofs.Keys.{fit_key, mine, runs_mine, runs_other}
use Rattle.no_stall.proofs.Keys.{direct_is, joined_point}
use Rattle.trace_walks.specs.declared.runners.Runners.{Runners}
use Rattle.trace_walks.specs.Runners.{CanNote, HasPlace, RunnersStand, point_runs, with_key}
use Rattle.trace_walks.proofs.Noted.{apart_keys, key_at}

-- ---- before a trace

pub none_set : (n i : ℕ) → get_or (replicate n false) i false ≡ false
none_set zero i = refl
none_set (suc n) zero = refl
none_set (suc n) (suc i) = none_set n i

pub none_at_first : (p : Plan) (q : ℕ) → point_runs p [] q ≡ false
none_at_first p q = by_key (direct_key p q)
  where
    by_key : (o : Option ActKey) → option_map_or (λ k. runs k []) o false ≡ false
    by_key None = refl
    by_key (Some k) = refl

-- ---- the flag of a key

-- a flag that is put at a place, and what it says there and elsewhere
put_flag : (flags : List Bool) (at i : ℕ) (now : Bool) (truth : Bool) → at < length flags → (i ≡ at → now ≡ truth) → ((i ≡ at → ⊥) → get_or flags i false ≡ truth) → get_or (set flags at now) i false ≡ truth
put_flag flags at i now truth within here others = by_place (i == at) refl
  where
    by_place : (b : Bool) → (i == at) ≡ b → get_or (set flags at now) i false ≡ truth
    by_place true eq = let same : i ≡ at = eqb-true i at eq in
        ap (λ n. get_or (set flags at now) n false) same ∙ get_or-set_same flags at now false within ∙ here same
    by_place false eq = let other : i ≡ at → ⊥ = λ same. absurd (false≢true (sym eq ∙ eq-eqb i at same)) in
        get_or-set_other flags at i now false other ∙ others other

-- another's entry
others_run : (p : Plan) (h : History) (e : Entry) (q : ℕ) → ((k : ActKey) → direct_key p q ≡ Some k → is_of k e ≡ false) → point_runs p h q ≡ point_runs p (e ∷ h) q
others_run p h e q others = by_key (direct_key p q) refl
  where
    by_key : (o : Option ActKey) → direct_key p q ≡ o → option_map_or (λ k. runs k h) o false ≡ option_map_or (λ k. runs k (e ∷ h)) o false
    by_key None key = refl
    by_key (Some k) key = sym (runs_other k e h (others k key))

module _ (p : Plan) (m : Mapping) (sound : IsSound p m) (h : History) (k : ActKey) (d : Deed) (fit : key_fits p k ≡ true) (rs : Runners) (stands : RunnersStand p h rs) where
  abbrev e : Entry
  e = mine k d

  abbrev now : Bool
  now = not (is_over d)

  apart : (j : ActKey) → (j ≡ k → ⊥) → is_of j e ≡ false
  apart j other = apart_keys j k other

  plain_noted : k.point ≡ None → RunnersStand p (e ∷ h) (record { plain = set rs.plain k.runnable now; direct = rs.direct })
  plain_noted none = record {
    runnables = length-set rs.plain k.runnable now ∙ stands.runnables;
    points = stands.points;
    plain = λ r less. put_flag rs.plain k.runnable r now (runs (plain_key r) (e ∷ h)) within (here r) (elsewhere r less);
    direct = λ q. stands.direct q ∙ others_run p h e q (λ j key. apart j (λ same. pointless q j key same));
  }
    where
      within : k.runnable < length rs.plain
      within = subst (λ n. k.runnable < n) (sym stands.runnables) (ltb-true k.runnable (length p.runnables) (and_parts (nat_lt k.runnable (length p.runnables)) _ fit).0)

      here : (r : ℕ) → r ≡ k.runnable → now ≡ runs (plain_key r) (e ∷ h)
      here r same = let key : plain_key r ≡ k = λ i. record { runnable = same i; point = sym none i } in
          sym (ap (λ j. runs j (e ∷ h)) key ∙ runs_mine k d h)

      elsewhere : (r : ℕ) → r < length p.runnables → (r ≡ k.runnable → ⊥) → get_or rs.plain r false ≡ runs (plain_key r) (e ∷ h)
      elsewhere r less other = stands.plain r less ∙ sym (runs_other (plain_key r) e h (apart (plain_key r) (λ same. other (ap (λ (x : ActKey). x.runnable) same))))

      pointless : (q : ℕ) (j : ActKey) → direct_key p q ≡ Some j → j ≡ k → ⊥
      pointless q j key same = let of = direct_is p m sound q j key in cc (ap (λ (x : ActKey). x.point) (of.is ∙ same) ∙ none)

  direct_noted : (q : ℕ) → k.point ≡ Some q → RunnersStand p (e ∷ h) (record { plain = rs.plain; direct = set rs.direct q now })
  direct_noted q at = record {
    runnables = stands.runnables;
    points = length-set rs.direct q now ∙ stands.points;
    plain = λ r less. stands.plain r less ∙ sym (runs_other (plain_key r) e h (apart (plain_key r) (λ same. absurd (cc (ap (λ (x : ActKey). x.point) same ∙ at)))));
    direct = λ n. put_flag rs.direct q n now (point_runs p (e ∷ h) n) within (here n) (elsewhere n);
  }
    where
      key : direct_key p q ≡ Some k
      key = key_at p m sound k q fit at

      within : q < length rs.direct
      within = let of = direct_is p m sound q k key in subst (λ n. q < n) (sym stands.points) (joined_point p m sound q of.server of.joined)

      here : (n : ℕ) → n ≡ q → now ≡ point_runs p (e ∷ h) n
      here n same = let there : direct_key p n ≡ Some k = ap (direct_key p) same ∙ key in
          sym (ap (λ (o : Option ActKey). option_map_or (λ j. runs j (e ∷ h)) o false) there ∙ runs_mine k d h)

      elsewhere : (n : ℕ) → (n ≡ q → ⊥) → get_or rs.direct n false ≡ point_runs p (e ∷ h) n
      elsewhere n other = stands.direct n ∙ others_run p h e n (λ j there. apart j (λ same.
          let of = direct_is p m sound n j there in
          other (same_Some n q (ap (λ (x : ActKey). x.point) (of.is ∙ same) ∙ at))))

  key_noted : RunnersStand p (e ∷ h) (with_key k now rs)
  key_noted = by_point k.point refl
    where
      by_point : (o : Option ℕ) → k.point ≡ o → RunnersStand p (e ∷ h) (with_key k now rs)
      by_point None at = subst (RunnersStand p (e ∷ h)) (rw at refl) (plain_noted at)
      by_point (Some q) at = subst (RunnersStand p (e ∷ h)) (rw at refl) (direct_noted q at)

-- ---- an entry

pub entry_noted : (p : Plan) (m : Mapping) (h : History) (e : Entry) (k : ActKey) (rs : Runners) → e.actor ≡ Act k → IsSound p m → fits p e ≡ true → RunnersStand p h rs
    → RunnersStand p (e ∷ h) (with_key k (not (is_over e.deed)) rs)
entry_noted p m h e k rs is sound fit stands =
    let entry : e ≡ mine k e.deed = λ i. record { actor = is i; deed = e.deed } in
    let fit_mine : fits p (mine k e.deed) ≡ true = subst (λ x. fits p x ≡ true) entry fit in
    subst (λ x. RunnersStand p (x ∷ h) (with_key k (not (is_over e.deed)) rs)) (sym entry) (key_noted p m sound h k e.deed (fit_key p k e.deed fit_mine) rs stands)

pub others_noted : (p : Plan) (h : History) (e : Entry) (rs : Runners) → ((k : ActKey) → e.actor ≡ Act k → ⊥) → RunnersStand p h rs → RunnersStand p (e ∷ h) rs
others_noted p h e rs nobody_acts stands = record {
  runnables = stands.runnables;
  points = stands.points;
  plain = λ r less. stands.plain r less ∙ sym (runs_other (plain_key r) e h (nobody (plain_key r) e.actor refl));
  direct = λ q. stands.direct q ∙ others_run p h e q (λ k key. nobody k e.actor refl);
}
  where
    nobody : (k : ActKey) (a : Actor) → e.actor ≡ a → made_by k a ≡ false
    nobody k Env is = refl
    nobody k (Machine n) is = refl
    nobody k (Act j) is = absurd (nobody_acts j is)

-- the key of an entry that fits has a flag
pub has_place : (e : Entry) (k : ActKey) (rs : Runners) → e.actor ≡ Act k → CanNote rs e → HasPlace rs k
has_place e k rs is can = by_point k.point refl
  where
    p : Plan
    p = can.plan

    fit : key_fits p k ≡ true
    fit = let entry : e ≡ mine k e.deed = λ i. record { actor = is i; deed = e.deed } in fit_key p k e.deed (subst (λ x. fits p x ≡ true) entry can.fits)

    by_point : (o : Option ℕ) → k.point ≡ o → HasPlace rs k
    by_point None at = rw at (subst (λ n. k.runnable < n) (sym can.stands.runnables) (ltb-true k.runnable (length p.runnables) (and_parts (nat_lt k.runnable (length p.runnables)) _ fit).0))
    by_point (Some q) at = let of = direct_is p can.mapping can.sound q k (key_at p can.mapping can.sound k q fit at) in
        rw at (subst (λ n. q < n) (sym can.stands.points) (joined_point p can.mapping can.sound q of.server of.joined))
