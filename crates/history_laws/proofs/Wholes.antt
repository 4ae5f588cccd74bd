-- A whole activation of a sound plan asks what it may, whatever is answered, and last its end.
use Rattle.std.proofs.Common.{◌≡◌, ℕ, suc, ◌-◌, ◌≤◌, ℤ, pos, Bool, true, false, ◌&&◌, if◌then◌else◌, refl, sym, ◌∙◌, ap, subst, arith, List, [], ◌∷◌, ◌++◌, length, replicate, get_or, Option}
use Rattle.std.proofs.Common.{Some, None, is_some, length-append}
use Rattle.std.specs.Prelude.{not, ◌==◌, filter, flat_map, option_to_list}
use Rattle.bus_semantics.specs.Common.{list_any, slice_get, and_parts, false≢true, AccessKind, AccessSig, Plan, Runnable, look, disabling_of, Wanted, to_admit, to_fetch, to_publish}
use Rattle.bus_semantics.specs.Common.{to_fetch_all, to_publish_all, to_return, to_end, elems_of, marked, marks_fit, mask_of, split, elem_fits, is_readable, is_unqueued, State, found_under}
use Rattle.bus_semantics.specs.Common.{words_under, keep_fetched, keep_each, words_in, Go, Running, both, nothing, calling, takes_nothing, run_program, is_read_early, is_written_late}
use Rattle.bus_semantics.specs.Common.{arguments_at_start, arguments_of, state_at_start, admitting, Implicit, one, all_of, list_with, met_now, in_order, each, fetches_of, fetching_it}
use Rattle.bus_semantics.specs.Common.{fetching, publications_of, publishing_one, is_written, publishing_all, publishing_it, publishing, declared_code, results, returning, ending, activity}
use Rattle.bus_semantics.specs.Common.{is_variable, argument_limits, access_sound, each_access, IsSound}
use Rattle.runnable_lang.specs.declared.program.AccessKind.TheVariants as kind
use Rattle.bus_laws.specs.Common.{ArgPlan, ServerPlan, Disabling, Deed, Mapping}
use Rattle.history_laws.specs.Given.{are_within, elems_take}
use Rattle.history_laws.specs.LookUps.{looked}
use Rattle.history_laws.proofs.SoundServers.{server_is, server_fits}
use Rattle.history_laws.proofs.Served.{sound_of_kind}
use Rattle.history_laws.proofs.Words.{results_within, code_fits}
use Rattle.history_laws.proofs.Trails.{Trail, open_of, returns_of}
use Rattle.history_laws.proofs.Runs.{AtEnd, Obeys, over, same_run, in_turn, called}
use Rattle.history_laws.proofs.Asked.{MayAsk, IsKept, IsListed, returns_wanted}
use Rattle.history_laws.proofs.Accesses.{accesses_sound, readable, variable_readable}
use Rattle.history_laws.proofs.ActivationLists.{listed_early, listed_late}
use Rattle.history_laws.proofs.Marks.{marks_those, mask_fits, take_more}
use Rattle.history_laws.proofs.Statements.{Between, program}

-- ---- the parts of an activation, by what the plan has

admits_none : (p : Plan) (event : ℕ) (s : State) (ds : List Deed) → disabling_of p event ≡ None → admitting p event s ds ≡ Go s ds
admits_none p event s ds none = rw none refl

pub admits_some : (p : Plan) (event : ℕ) (d : Disabling) (s : State) (ds : List Deed) → disabling_of p event ≡ Some d → admitting p event s ds ≡ calling (to_admit event) takes_nothing s ds
admits_some p event d s ds some = rw some refl

publishes_none : (x : ℕ) (s : State) (ds : List Deed) → found_under x s.written ≡ None → publishing_one x s ds ≡ Go s ds
publishes_none x s ds none = rw none refl

publishes_some : (x : ℕ) (ws : List ℤ) (s : State) (ds : List Deed) → found_under x s.written ≡ Some ws → publishing_one x s ds ≡ calling (to_publish x ws) takes_nothing s ds
publishes_some x ws s ds some = rw some refl

returns_none : (p : Plan) (r : Runnable) (s : State) (ds : List Deed) → r.server ≡ None → returning p r s ds ≡ Go s ds
returns_none p r s ds none = rw none refl

returns_some : (p : Plan) (r : Runnable) (n : ℕ) (s : State) (ds : List Deed) → r.server ≡ Some n
    → returning p r s ds ≡ look p.servers n (λ (v : ServerPlan). calling (to_return (declared_code v.errors (get_or s.vars (length v.arguments) (pos 0))) (results v.arguments s.vars)) takes_nothing) nothing s ds
returns_some p r n s ds some = rw some refl

arguments_count : (args : List ArgPlan) (ws : List ℤ) → length (arguments_at_start args ws) ≡ length args
arguments_count [] ws = refl
arguments_count (a ∷ args) [] = let less = arguments_count args [] in omega arith
arguments_count (a ∷ args) (w ∷ ws) = by_out a.out (arguments_count args (w ∷ ws)) (arguments_count args ws)
  where
    by_out : (out : Bool) → length (arguments_at_start args (w ∷ ws)) ≡ length args → length (arguments_at_start args ws) ≡ length args
        → length (if out then pos 0 ∷ arguments_at_start args (w ∷ ws) else w ∷ arguments_at_start args ws) ≡ length (a ∷ args)
    by_out true kept taken = omega arith
    by_out false kept taken = omega arith

pub kept_at_start : (p : Plan) (r : Runnable) (ws : List ℤ) → IsKept p r (state_at_start p r ws)
kept_at_start p r ws = record {
  vars = enough (arguments_at_start (arguments_of p r) ws) (arguments_count (arguments_of p r) ws);
  written = λ x vs e. absurd (cc e);
}
  where
    enough : (begun : List ℤ) → length begun ≡ length (arguments_of p r) → length (arguments_of p r) ≤ length (begun ++ replicate (r.program.vars - length begun) (pos 0))
    enough begun count = simp length-append (omega arith)

-- ---- what is fetched or published

abbrev Each : (Implicit → Type 0) → List Implicit → Type 0
Each Good [] = Unit {0}
Each Good (it ∷ its) = Good it × Each Good its

each_more : (Good : Implicit → Type 0) (its more : List Implicit) → Each Good its → Each Good more → Each Good (its ++ more)
each_more Good [] more first second = second
each_more Good (it ∷ its) more first second = (first.0, each_more Good its more first.1 second)

each_kept : (p : Plan) (r : Runnable) (pairs : List (ℕ × List ℤ)) (s : State) → IsKept p r s → IsKept p r (keep_each pairs s)
each_kept p r [] s kept = kept
each_kept p r (pair ∷ pairs) s kept = each_kept p r pairs (keep_fetched pair.0 pair.1 s) (record { vars = kept.vars; written = kept.written })

-- ---- the whole

module _ (p : Plan) (m : Mapping) (sound : IsSound p m) (i : ℕ) (r : Runnable) (there : slice_get p.runnables i ≡ Some r) (event : ℕ) where
  abbrev May : Trail → Wanted → Type 0
  May = MayAsk p i r event

  abbrev Kept : AtEnd
  Kept = Between p m sound i r there event

  admits : (s : State) → IsKept p r s → Obeys May Kept [] (admitting p event s)
  admits s kept = by_disabling (disabling_of p event) refl
    where
      by_disabling : (o : Option Disabling) → disabling_of p event ≡ o → Obeys May Kept [] (admitting p event s)
      by_disabling None is = same_run May Kept [] (admitting p event s) (λ ds. Go s ds) (λ ds. admits_none p event s ds is) (over s ((refl, refl), kept) (λ ds. refl))
      by_disabling (Some d) is =
          same_run May Kept [] (admitting p event s) (calling (to_admit event) takes_nothing s) (λ ds. admits_some p event d s ds is)
          (called May Kept (to_admit event) takes_nothing [] s (refl, refl, refl, ap is_some is) (λ x. ((refl, refl), kept)))

  -- ---- what is fetched or published, one after the other

  each_obeys : (Good : Implicit → Type 0) (f : Implicit → Running) → ((it : Implicit) → Good it → (t : Trail) (s : State) → Kept t s → Obeys May Kept t (f it s))
      → (its : List Implicit) → Each Good its → (t : Trail) (s : State) → Kept t s → Obeys May Kept t (each f its s)
  each_obeys Good f once [] good t s q = over s q (λ ds. refl)
  each_obeys Good f once (it ∷ its) good t s q = in_turn May Kept Kept (f it) (each f its) t s (once it good.0 t s q) (λ u v w. each_obeys Good f once its good.1 u v w)

  -- what holds of each access that passes, and of the list of each, holds of what is asked in order
  module _ (Good : Implicit → Type 0) (test : AccessKind → Bool)
      (single : (a : AccessSig) (x : ℕ) → access_sound p i (Some r.instance) a x ≡ true → test a.kind ≡ true → Good (one x))
      (together : (a : AccessSig) (x l : ℕ) → access_sound p i (Some r.instance) a x ≡ true → test a.kind ≡ true → list_with p r.lists x ≡ Some l → Good (all_of l)) where
    met_good : (met : List ℕ) (a : AccessSig) (x : ℕ) → access_sound p i (Some r.instance) a x ≡ true → test a.kind ≡ true → (o : Option ℕ) → list_with p r.lists x ≡ o → Each Good (met_now met x o)
    met_good met a x fine passes None is = (single a x fine passes, tt)
    met_good met a x fine passes (Some l) is = by_met (list_any (λ n. n == l) met)
      where
        by_met : (b : Bool) → Each Good (if b then [] else all_of l ∷ [])
        by_met true = tt
        by_met false = (together a x l fine passes is, tt)

    ordered : (met : List ℕ) (sigs : List AccessSig) (xs : List ℕ) → each_access (access_sound p i (Some r.instance)) sigs xs ≡ true → Each Good (in_order p r.lists test met sigs xs)
    ordered met [] xs ok = tt
    ordered met (a ∷ sigs) [] ok = tt
    ordered met (a ∷ sigs) (x ∷ xs) ok =
        let parts = and_parts (access_sound p i (Some r.instance) a x) (each_access (access_sound p i (Some r.instance)) sigs xs) ok in
        by_test (test a.kind) refl parts.0 (λ more. ordered more sigs xs parts.1)
      where
        by_test : (b : Bool) → test a.kind ≡ b → access_sound p i (Some r.instance) a x ≡ true → ((more : List ℕ) → Each Good (in_order p r.lists test more sigs xs))
            → Each Good (if b then met_now met x (list_with p r.lists x) ++ in_order p r.lists test (option_to_list (list_with p r.lists x) ++ met) sigs xs else in_order p r.lists test met sigs xs)
        by_test false is fine rest = rest met
        by_test true is fine rest = each_more Good (met_now met x (list_with p r.lists x)) (in_order p r.lists test (option_to_list (list_with p r.lists x) ++ met) sigs xs)
            (met_good met a x fine is (list_with p r.lists x) refl) (rest (option_to_list (list_with p r.lists x) ++ met))

  -- ---- fetches

  fetch_may : (a : AccessSig) (x : ℕ) (k : AccessKind) → a.kind ≡ k → is_read_early k ≡ true → access_sound p i (Some r.instance) a x ≡ true → elem_fits p (Some r.instance) is_readable x ≡ true
  fetch_may a x kind.IRead is early ok = readable p (Some r.instance) x (and_parts (elem_fits p (Some r.instance) (λ e. is_unqueued e && not e.provided) x) _ (sound_of_kind p i (Some r.instance) a kind.IRead x is ok)).0
  fetch_may a x kind.IrvIRead is early ok = variable_readable p (Some r.instance) x (and_parts (elem_fits p (Some r.instance) is_variable x) _ (sound_of_kind p i (Some r.instance) a kind.IrvIRead x is ok)).0
  fetch_may a x k is early ok = absurd (false≢true early)

  abbrev MayFetch : Implicit → Type 0
  MayFetch (one x) = elem_fits p (Some r.instance) is_readable x ≡ true
  MayFetch (all_of l) = IsListed p i r true l

  fetches_it : (it : Implicit) → MayFetch it → (t : Trail) (s : State) → Kept t s → Obeys May Kept t (fetching_it p it s)
  fetches_it (one x) may t s q =
      called May Kept (to_fetch x) (λ d. keep_fetched x (words_in d)) t s (q.0.1, may) (λ d. (q.0, record { vars = q.1.vars; written = q.1.written }))
  fetches_it (all_of l) may t s q =
      called May Kept (to_fetch_all l) (λ d. keep_each (split p (elems_of p l) (words_in d))) t s (q.0.1, may) (λ d. (q.0, each_kept p r (split p (elems_of p l) (words_in d)) s q.1))

  fetches : (t : Trail) (s : State) → Kept t s → Obeys May Kept t (fetching p r s)
  fetches t s q = each_obeys MayFetch (fetching_it p) fetches_it (fetches_of p r)
      (ordered MayFetch is_read_early (λ a x ok early. fetch_may a x a.kind refl early ok) (listed_early p m sound i r there) [] r.accesses r.targets (accesses_sound p m sound i r there)) t s q

  -- ---- publications

  publishes_one : (x : ℕ) (t : Trail) (s : State) → Kept t s → Obeys May Kept t (publishing_one x s)
  publishes_one x t s q = by_last (found_under x s.written) refl
    where
      by_last : (o : Option (List ℤ)) → found_under x s.written ≡ o → Obeys May Kept t (publishing_one x s)
      by_last None is = same_run May Kept t (publishing_one x s) (λ ds. Go s ds) (λ ds. publishes_none x s ds is) (over s q (λ ds. refl))
      by_last (Some ws) is =
          let may = q.1.written x ws is in
          same_run May Kept t (publishing_one x s) (calling (to_publish x ws) takes_nothing s) (λ ds. publishes_some x ws s ds is)
          (called May Kept (to_publish x ws) takes_nothing t s (q.0.1, q.0.0, may) (λ d. q))

  -- the last words of each element that was written, one after the other
  words_taken : (s : State) → IsKept p r s → (xs : List ℕ) → elems_take p (filter (is_written s) xs) (flat_map (λ x. words_under x s.written) xs) ≡ true
  words_taken s kept [] = refl
  words_taken s kept (x ∷ xs) = by_last (words_taken s kept xs) (found_under x s.written) refl
    where
      by_last : elems_take p (filter (is_written s) xs) (flat_map (λ y. words_under y s.written) xs) ≡ true → (o : Option (List ℤ)) → found_under x s.written ≡ o
          → elems_take p (filter (is_written s) (x ∷ xs)) (flat_map (λ y. words_under y s.written) (x ∷ xs)) ≡ true
      by_last rest None is = rw is rest
      by_last rest (Some ws) is = rw is (take_more p x (filter (is_written s) xs) ws (flat_map (λ y. words_under y s.written) xs) (kept.written x ws is).1 rest)

  publishes_all : (l : ℕ) → IsListed p i r false l → (t : Trail) (s : State) → Kept t s → Obeys May Kept t (publishing_all l (elems_of p l) s)
  publishes_all l may t s q =
      let xs = elems_of p l in
      let words = flat_map (λ x. words_under x s.written) xs in
      let takes : elems_take p (marked (mask_of (is_written s) xs) xs) words ≡ true =
      subst (λ ys. elems_take p ys words ≡ true) (sym (marks_those (is_written s) xs)) (words_taken s q.1 xs) in
      by_any (mask_of (is_written s) xs) words (mask_fits (is_written s) xs) takes (list_any (is_written s) xs)
    where
      by_any : (marks : ℕ) (words : List ℤ) → marks_fit marks (elems_of p l) ≡ true → elems_take p (marked marks (elems_of p l)) words ≡ true → (b : Bool)
          → Obeys May Kept t (λ ds. if b then calling (to_publish_all l marks words) takes_nothing s ds else nothing s ds)
      by_any marks words fit takes false = over s q (λ ds. refl)
      by_any marks words fit takes true = called May Kept (to_publish_all l marks words) takes_nothing t s (q.0.1, q.0.0, may, fit, takes) (λ d. q)

  abbrev MayPublish : Implicit → Type 0
  MayPublish (one x) = Unit {0}
  MayPublish (all_of l) = IsListed p i r false l

  publishes_it : (it : Implicit) → MayPublish it → (t : Trail) (s : State) → Kept t s → Obeys May Kept t (publishing_it p it s)
  publishes_it (one x) may t s q = publishes_one x t s q
  publishes_it (all_of l) may t s q = publishes_all l may t s q

  publishes : (t : Trail) (s : State) → Kept t s → Obeys May Kept t (publishing p r s)
  publishes t s q = each_obeys MayPublish (publishing_it p) publishes_it (publications_of p r)
      (ordered MayPublish is_written_late (λ a x ok late. tt) (listed_late p m sound i r there) [] r.accesses r.targets (accesses_sound p m sound i r there)) t s q

  -- ---- the return and the end

  abbrev Returned : AtEnd
  Returned t s = (open_of t ≡ []) × (returns_of t ≡ returns_wanted r)

  returns : (t : Trail) (s : State) → Kept t s → Obeys May Returned t (returning p r s)
  returns t s q = by_server r.server refl
    where
      one_wanted : is_some r.server ≡ true → 1 ≡ returns_wanted r
      one_wanted some = rw some refl

      none_wanted : r.server ≡ None → 0 ≡ returns_wanted r
      none_wanted none = rw none refl

      by_server : (o : Option ℕ) → r.server ≡ o → Obeys May Returned t (returning p r s)
      by_server None is = same_run May Returned t (returning p r s) (λ ds. Go s ds) (λ ds. returns_none p r s ds is) (over s (q.0.0, q.0.1 ∙ none_wanted is) (λ ds. refl))
      by_server (Some n) is =
          let of = server_is p m sound i r there n is in
          let v = of.server in
          let fit = server_fits v of.sound in
          let code = declared_code v.errors (get_or s.vars (length v.arguments) (pos 0)) in
          let words = results v.arguments s.vars in
          let enough : length v.arguments ≤ length s.vars = subst (λ (args : List ArgPlan). length args ≤ length s.vars) of.arguments q.1.vars in
          let within : are_within (argument_limits true (arguments_of p r)) words ≡ true =
          subst (λ (args : List ArgPlan). are_within (argument_limits true args) words ≡ true) (sym of.arguments) (results_within v.arguments s.vars enough fit.limits) in
          let some : is_some r.server ≡ true = ap is_some is in
          same_run May Returned t (returning p r s) (calling (to_return code words) takes_nothing s)
          (λ ds. returns_some p r n s ds is ∙ ap (λ (f : Running). f s ds) (looked p.servers n v (λ (w : ServerPlan). calling (to_return (declared_code w.errors (get_or s.vars (length w.arguments) (pos 0))) (results w.arguments s.vars)) takes_nothing) nothing of.there))
          (called May Returned (to_return code words) takes_nothing t s (q.0.1, q.0.0, some, code_fits v.errors (get_or s.vars (length v.arguments) (pos 0)) fit.codes, within)
          (λ d. (q.0.0, ap suc q.0.1 ∙ one_wanted some)))

  -- the last that was asked is the end
  abbrev pub Ended : AtEnd
  Ended [] s = ⊥
  Ended (x ∷ t) s = x.0 ≡ to_end event

  pub activity_obeys : (s : State) → IsKept p r s → Obeys (MayAsk p i r event) Ended [] (activity p r event s)
  activity_obeys s kept =
      in_turn May Kept Ended (admitting p event) (both (fetching p r) (both (run_program r r.program.body) (both (publishing p r) (both (returning p r) (ending event))))) [] s (admits s kept)
      (λ t1 s1 q1. in_turn May Kept Ended (fetching p r) (both (run_program r r.program.body) (both (publishing p r) (both (returning p r) (ending event)))) t1 s1 (fetches t1 s1 q1)
      (λ t2 s2 q2. in_turn May Kept Ended (run_program r r.program.body) (both (publishing p r) (both (returning p r) (ending event))) t2 s2 (program p m sound i r there event t2 s2 q2)
      (λ t3 s3 q3. in_turn May Kept Ended (publishing p r) (both (returning p r) (ending event)) t3 s3 (publishes t3 s3 q3)
      (λ t4 s4 q4. in_turn May Returned Ended (returning p r) (ending event) t4 s4 (returns t4 s4 q4)
      (λ t5 s5 q5. called May Ended (to_end event) takes_nothing t5 s5 (q5.1, q5.0, refl) (λ d. refl))))))
