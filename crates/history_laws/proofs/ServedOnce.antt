-- An activation serves from its start to its return. The entries of a queued server tell it of the server's one key.
use Rattle.std.proofs.Common.{◌≡◌, ℕ, suc, ◌+◌, Bool, true, false, not, ◌==◌, if◌then◌else◌, refl, sym, ◌∙◌, ap, subst, arith, List, [], ◌∷◌, ◌++◌, Option, Some, None, is_some}
use Rattle.bus_semantics.specs.Common.{false≢true, nat_tests, option_or, option_map_or, list_all, ActKey, Value, same_key, Plan, Runnable, kind_of, disabling_of, wanted_by, History, Past}
use Rattle.bus_semantics.specs.Common.{noted, note, newest, count, is_over, runs, first_server, server_object, served_by, touches, next_of_activity, Activation, activation_of, with_deed}
use Rattle.bus_semantics.specs.Common.{is_proper, is_open, serves_by, MayFollow, IsLegal, may_be_disabled, IsSound}
use Rattle.std.specs.Prelude.{filter, unwrap_or}
use Rattle.bus_laws.specs.Common.{Invoked, Mapping, Actor, Env, Machine, Act, Deed, Entry}
use Rattle.bus_semantics.specs.declared.entries.Deed.TheVariants as deed
use Rattle.history_laws.specs.Wishes.{is_return}
use Rattle.history_laws.specs.LookUps.{looked}
use Rattle.history_laws.proofs.Asking.{not_returned, returned, admission_disabled}
use Rattle.bus_laws.proofs.Thinning.{noting, clash, if_same, option_test, newest_thin}
use Rattle.bus_laws.proofs.OneEvent.{serves_invoked}
use Rattle.bus_laws.proofs.LocalServers.{by_invoked, start_owned}
use Rattle.history_laws.proofs.Keys.{mine, itself, key_is, begins, grown, alive, IsTo, others, starts, goes_on, is_to, runs_mine, runs_other, activation_mine, activation_other}
use Rattle.history_laws.proofs.GoingOn.{acting}
use Rattle.history_laws.proofs.EventFacts.{undisabled}

count_more : {X : Type 0} (f : X → Bool) (xs : List X) (x : X) → count f (xs ++ x ∷ []) ≡ (if f x then suc (count f xs) else count f xs)
count_more f [] x = refl
count_more f (y ∷ xs) x = (λ i. if f y then suc (count_more f xs x i) else count_more f xs x i) ∙ swapped (f x) (f y)
  where
    swapped : (b c : Bool) → (if c then suc (if b then suc (count f xs) else count f xs) else (if b then suc (count f xs) else count f xs))
        ≡ (if b then suc (if c then suc (count f xs) else count f xs) else (if c then suc (count f xs) else count f xs))
    swapped true true = refl
    swapped true false = refl
    swapped false true = refl
    swapped false false = refl

not_none : (n : ℕ) → (suc n == 0) ≡ false
not_none n = grind (arith, nat_tests)

-- nothing was returned by the activation
abbrev pub opens : Option Activation → Bool
opens o = option_map_or (λ (a : Activation). count is_return a.deeds == 0) o false

module _ (p : Plan) (k : ActKey) where
  served_by_own : (h : History) (d : Deed) → begins d ≡ false → serves_by (Act k) (note h (mine k d)) ≡ (if is_return d then Some false else None)
  served_by_own h (deed.Start event point value) other = absurd (false≢true (sym other))
  served_by_own h (deed.Return code value) other = rw (itself k) refl
  served_by_own h d other = let nothing : Option Bool = None in if_same (same_key k k) nothing

  pub serves_open : (h : History) → IsLegal p h → is_open (serves_by (Act k)) (noted h) ≡ opens (activation_of k h)
  serves_open [] legal = refl
  serves_open (e ∷ h) legal = by_kind (serves_open h legal.0) (is_to p k h e legal.1 (alive p k h legal.0))
    where
      by_kind : is_open (serves_by (Act k)) (noted h) ≡ opens (activation_of k h) → IsTo p k h e → is_open (serves_by (Act k)) (noted (e ∷ h)) ≡ opens (activation_of k (e ∷ h))
      by_kind before (others other) = rw other before
      by_kind before (starts event point value is own idle runnable asked) = ap (λ x. is_open (serves_by (Act k)) (noted (x ∷ h))) is ∙ here ∙ sym (ap (λ x. opens (activation_of k (x ∷ h))) is)
        where
          here : is_open (serves_by (Act k)) (noted (mine k (deed.Start event point value) ∷ h)) ≡ opens (activation_of k (mine k (deed.Start event point value) ∷ h))
          here = rw (itself k) refl
      by_kind before (goes_on is own other running a next) = ap (λ x. is_open (serves_by (Act k)) (noted (x ∷ h))) is ∙ by_return (is_return e.deed) refl ∙ sym (ap (λ x. opens (activation_of k (x ∷ h))) is ∙ after)
        where
          counted : ℕ
          counted = count is_return a.activation.deeds

          after : opens (activation_of k (mine k e.deed ∷ h)) ≡ ((if is_return e.deed then suc (count is_return a.activation.deeds) else count is_return a.activation.deeds) == 0)
          after = ap opens (activation_mine k e.deed h ∙ ap (with_deed e.deed) a.is ∙ grown e.deed a.activation other) ∙ ap (λ n. n == 0) (count_more is_return a.activation.deeds e.deed)

          by_return : (b : Bool) → is_return e.deed ≡ b → is_open (serves_by (Act k)) (noted (mine k e.deed ∷ h)) ≡ ((if is_return e.deed then suc (count is_return a.activation.deeds) else count is_return a.activation.deeds) == 0)
          by_return true is = ap (λ o. unwrap_or (option_or o (newest (serves_by (Act k)) (noted h))) false) (served_by_own h e.deed other) ∙ rw is (sym (not_none (count is_return a.activation.deeds)))
          by_return false is = ap (λ o. unwrap_or (option_or o (newest (serves_by (Act k)) (noted h))) false) (served_by_own h e.deed other) ∙ rw is (before ∙ ap opens a.is)

  -- ---- of a server's key

  module _ (m : Mapping) (sound : IsSound p m) (s : ℕ) (home : served_by p (Act k) ≡ Some s) where
    -- an activation that is over has returned
    pub over_closed : (h : History) → IsLegal p h → runs k h ≡ false → opens (activation_of k h) ≡ false
    over_closed [] legal idle = refl
    over_closed (e ∷ h) legal idle = by_kind (over_closed h legal.0) (is_to p k h e legal.1 (alive p k h legal.0))
      where
        by_kind : (runs k h ≡ false → opens (activation_of k h) ≡ false) → IsTo p k h e → opens (activation_of k (e ∷ h)) ≡ false
        by_kind before (others other) = ap opens (activation_other k e h other) ∙ before (sym (runs_other k e h other) ∙ idle)
        by_kind before (starts event point value is own idle_before runnable asked) =
            clash (runs k (e ∷ h)) (ap (λ x. runs k (x ∷ h)) is ∙ runs_mine k (deed.Start event point value) h) idle
        by_kind before (goes_on is own other running a next) = ap (λ x. opens (activation_of k (x ∷ h))) is ∙ by_deed e.deed next other (sym (ap (λ x. runs k (x ∷ h)) is ∙ runs_mine k e.deed h) ∙ idle)
          where
            event : ℕ
            event = a.activation.event

            kind : kind_of p a.activation.event ≡ Invoked s
            kind = serves_invoked p m sound a.activation.event s k.runnable a.own home

            server : a.runnable.server ≡ Some s
            server = sym (looked p.runnables k.runnable a.runnable (λ (r : Runnable). r.server) None a.found) ∙ home

            by_deed : (d : Deed) → next_of_activity p a.runnable a.activation.event a.activation.start a.activation.deeds ≡ Some (wanted_by a.activation.event d) → begins d ≡ false → not (is_over d) ≡ false → opens (activation_of k (mine k d ∷ h)) ≡ false
            by_deed deed.End next other over =
                let once : count is_return a.activation.deeds ≡ 1 =
                returned p m k a.runnable a.activation.event (acting p m k h sound a) a.activation.start a.activation.deeds a.followed a.activation.event next ∙ ap (λ o. if is_some o then 1 else 0) server in
                ap opens (activation_mine k deed.End h ∙ ap (with_deed deed.End) a.is) ∙ ap (λ n. n == 0) (count_more is_return a.activation.deeds deed.End ∙ once)
            by_deed (deed.Admit false) next other over =
                let some = admission_disabled p m k a.runnable a.activation.event (acting p m k h sound a) a.activation.start a.activation.deeds a.activation.event next in
                clash (is_some (disabling_of p a.activation.event)) some (ap is_some (undisabled p m sound a.activation.event (ap may_be_disabled kind)))
            by_deed (deed.Admit true) next other over = absurd (false≢true (sym over))
            by_deed d next other over = absurd (false≢true (sym over))

    -- what it returns it serves
    pub return_open : (h : History) (code : ℕ) (value : Value) → IsLegal p h → MayFollow p h (mine k (deed.Return code value)) → opens (activation_of k h) ≡ true
    return_open h code value legal may = by_kind (is_to p k h (mine k (deed.Return code value)) may (alive p k h legal))
      where
        by_kind : IsTo p k h (mine k (deed.Return code value)) → opens (activation_of k h) ≡ true
        by_kind (others other) = absurd (false≢true (sym other ∙ itself k))
        by_kind (starts event point held is own idle runnable asked) = absurd (cc (ap (λ (z : Entry). z.deed) is))
        by_kind (goes_on is own other running a next) =
            ap opens a.is ∙ ap (λ n. n == 0) (not_returned p m k a.runnable a.activation.event (acting p m k h sound a) a.activation.start a.activation.deeds a.followed (wanted_by a.activation.event (deed.Return code value)) next refl)

    -- ---- the entries of the server

    abbrev object : ℕ
    object = first_server p + s

    quiet : (a : Actor) (d : Deed) (event : Option ℕ) → is_proper p (noting a d event) ≡ true → touches p object (noting a d event) ≡ false → serves_by (Act k) (noting a d event) ≡ None
    quiet Env d event proper off = refl
    quiet (Machine n) d event proper off = refl
    quiet (Act j) d event proper off = by_own (same_key k j) refl
      where
        by_deed : (d : Deed) → is_proper p (noting (Act k) d event) ≡ true → touches p object (noting (Act k) d event) ≡ false → serves_by (Act k) (noting (Act k) d event) ≡ None
        by_deed (deed.Start e point value) proper off = clash (touches p object (noting (Act k) (deed.Start e point value) event))
            (by_invoked p s e (serves_invoked p m sound e s k.runnable (start_owned p k e point value event proper) home)) off
        by_deed (deed.Return code value) proper off = clash (touches p object (noting (Act k) (deed.Return code value) event))
            (option_test (server_object p (served_by p (Act k))) (Some object) (ap (server_object p) home)) off
        by_deed d proper off = let nothing : Option Bool = None in if_same (same_key k k) nothing

        by_own : (b : Bool) → same_key k j ≡ b → serves_by (Act k) (noting (Act j) d event) ≡ None
        by_own true own = let same = key_is k j own in
            subst (λ z. serves_by (Act k) (noting (Act z) d event) ≡ None) (sym same)
            (by_deed d (subst (λ z. is_proper p (noting (Act z) d event) ≡ true) same proper) (subst (λ z. touches p object (noting (Act z) d event) ≡ false) same off))
        by_own false other = rw other refl

    pub serves_thin : (l : Past) → list_all (is_proper p) l ≡ true → newest (serves_by (Act k)) (filter (touches p object) l) ≡ newest (serves_by (Act k)) l
    serves_thin = newest_thin (touches p object) (is_proper p) (serves_by (Act k)) (λ n proper off. quiet n.entry.actor n.entry.deed n.event proper off)
