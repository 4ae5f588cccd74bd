-- A publication of a list that is cut at 16 words: an activation of a sound plan never has more.
use Rattle.std.proofs.Common.{◌≡◌, ℕ, ◌≤◌, ℤ, Bool, true, false, if◌then◌else◌, refl, ap, arith, List, [], ◌∷◌, take, length, Some}
use Rattle.std.specs.Prelude.{flat_map}
use Rattle.bus_semantics.specs.Common.{list_any, slice_get, leb-true, Plan, Runnable, Wanted, to_publish_all, elems_of, mask_of, marked, words_of_all, State, words_under, Outcome, Stop, Go}
use Rattle.bus_semantics.specs.Common.{Running, goes_on, both, nothing, calling, takes_nothing, run_program, Implicit, one, all_of, publications_of, each, publishing_one, is_written}
use Rattle.bus_semantics.specs.Common.{publishing_it, publishing, admitting, fetching, returning, ending, activity, state_at_start, wanted_next, list_sound, IsSound}
use Rattle.bus_semantics.specs.declared.entries.Deed.{Deed}
use Rattle.bus_semantics.specs.declared.script.Mapping.{Mapping}
use Rattle.history_laws.specs.Given.{limits_at, elems_take}
use Rattle.history_laws.proofs.Trails.{Trail}
use Rattle.history_laws.proofs.Runs.{reached}
use Rattle.history_laws.proofs.Asked.{MayAsk}
use Rattle.history_laws.proofs.Marks.{limits_count, marked_fewer}
use Rattle.history_laws.proofs.ActivationLists.{list_short}
use Rattle.history_laws.proofs.Words.{as_many}
use Rattle.history_laws.proofs.Wholes.{kept_at_start, activity_obeys, Ended}
use Rattle.task_generator.proofs.Together.{take_whole}

-- ---- publications that are cut

abbrev pub cutting_all : (list : ℕ) → (elems : List ℕ) → Running
cutting_all l xs s answers = if list_any (is_written s) xs
    then calling (to_publish_all l (mask_of (is_written s) xs) (take 16 (flat_map (λ x. words_under x s.written) xs))) takes_nothing s answers
    else nothing s answers

abbrev pub cutting_it : Plan → Implicit → Running
cutting_it p (one x) = publishing_one x
cutting_it p (all_of l) = cutting_all l (elems_of p l)

abbrev pub cutting : Plan → Runnable → Running
cutting p r = each (cutting_it p) (publications_of p r)

-- an activity whose publications are cut
abbrev pub cut_activity : Plan → Runnable → (event : ℕ) → Running
cut_activity p r event = both (admitting p event) (both (fetching p r) (both (run_program r r.program.body) (both (cutting p r) (both (returning p r) (ending event)))))

-- ---- what is asked next is the same, where what is asked is short

-- what is asked may be asked
module _ (May : Wanted → Type 0) where
  abbrev Allowed : Outcome → Type 0
  Allowed o = (w : Wanted) → o ≡ Stop w → May w

  same_next : (o : Outcome) (n m : Running) → ((t : State) (es : List Deed) → Allowed (n t es) → wanted_next (m t es) ≡ wanted_next (n t es)) → Allowed (goes_on n o) → wanted_next (goes_on m o) ≡ wanted_next (goes_on n o)
  same_next (Stop w) n m same may = refl
  same_next (Go t es) n m same may = same t es may

  module _ (p : Plan) (rest : Running) (short : (l marks : ℕ) (ws : List ℤ) → May (to_publish_all l marks ws) → length ws ≤ 16) where
    -- the same from any state on, behind what comes first
    abbrev Same : List Implicit → Type 0
    Same its = (t : State) (es : List Deed) → Allowed (both (each (publishing_it p) its) rest t es)
        → wanted_next (both (each (cutting_it p) its) rest t es) ≡ wanted_next (both (each (publishing_it p) its) rest t es)

    after_one : (its : List Implicit) → Same its → (o : Outcome) → Allowed (goes_on rest (goes_on (each (publishing_it p) its) o))
        → wanted_next (goes_on rest (goes_on (each (cutting_it p) its) o)) ≡ wanted_next (goes_on rest (goes_on (each (publishing_it p) its) o))
    after_one its same (Stop w) may = refl
    after_one its same (Go u fs) may = same u fs may

    after_all : (its : List Implicit) → Same its → (l marks : ℕ) (ws : List ℤ) (t : State) (es : List Deed) (b : Bool)
        → Allowed (goes_on rest (goes_on (each (publishing_it p) its) (if b then calling (to_publish_all l marks ws) takes_nothing t es else nothing t es)))
        → wanted_next (goes_on rest (goes_on (each (cutting_it p) its) (if b then calling (to_publish_all l marks (take 16 ws)) takes_nothing t es else nothing t es)))
        ≡ wanted_next (goes_on rest (goes_on (each (publishing_it p) its) (if b then calling (to_publish_all l marks ws) takes_nothing t es else nothing t es)))
    after_all its same l marks ws t es false may = same t es may
    after_all its same l marks ws t [] true may = ap (λ vs. Some (to_publish_all l marks vs)) (take_whole 16 ws (short l marks ws (may (to_publish_all l marks ws) refl)))
    after_all its same l marks ws t (d ∷ es) true may = same t es may

    same_each : (its : List Implicit) → Same its
    same_each [] t es may = refl
    same_each (one x ∷ its) t es may = after_one its (same_each its) (publishing_one x t es) may
    same_each (all_of l ∷ its) t es may =
        after_all its (same_each its) l (mask_of (is_written t) (elems_of p l)) (flat_map (λ x. words_under x t.written) (elems_of p l)) t es (list_any (is_written t) (elems_of p l)) may

-- ---- a list that may be published is short

module _ (p : Plan) (m : Mapping) (sound : IsSound p m) (i : ℕ) (r : Runnable) (there : slice_get p.runnables i ≡ Some r) (event : ℕ) where
  -- it may be asked after some trail
  abbrev MayBe : Wanted → Type 0
  MayBe w = (u : Trail) × MayAsk p i r event u w

  listed_short : (l marks : ℕ) (ws : List ℤ) → list_sound p i r l ≡ true → elems_take p (marked marks (elems_of p l)) ws ≡ true → length ws ≤ 16
  listed_short l marks ws ok takes =
      let few : words_of_all p (elems_of p l) ≤ 16 = leb-true (words_of_all p (elems_of p l)) 16 (list_short p m sound i r there l ok) in
      omega (
        arith,
        few,
        as_many (flat_map (limits_at p) (marked marks (elems_of p l))) ws takes,
        limits_count p (marked marks (elems_of p l)),
        marked_fewer p marks (elems_of p l),
      )

  short : (l marks : ℕ) (ws : List ℤ) → MayBe (to_publish_all l marks ws) → length ws ≤ 16
  short l marks ws may = listed_short l marks ws may.1.2.1 may.1.4

  pub nothing_is_cut : (ws : List ℤ) (ds : List Deed) → wanted_next (cut_activity p r event (state_at_start p r ws) ds) ≡ wanted_next (activity p r event (state_at_start p r ws) ds)
  nothing_is_cut ws ds =
      let s = state_at_start p r ws in
      let rest = both (returning p r) (ending event) in
      let behind_program = both (publishing p r) rest in
      let behind_program' = both (cutting p r) rest in
      let behind_fetches = both (run_program r r.program.body) behind_program in
      let behind_fetches' = both (run_program r r.program.body) behind_program' in
      same_next MayBe (admitting p event s ds) (both (fetching p r) behind_fetches) (both (fetching p r) behind_fetches')
      (λ t es may. same_next MayBe (fetching p r t es) behind_fetches behind_fetches'
      (λ u fs more. same_next MayBe (run_program r r.program.body u fs) behind_program behind_program'
      (λ v gs last. same_each MayBe p rest short (publications_of p r) v gs last) more) may)
      (λ w is. reached (MayAsk p i r event) (Ended p m sound i r there event) [] (activity p r event s) (activity_obeys p m sound i r there event s (kept_at_start p r ws)) ds w is)
