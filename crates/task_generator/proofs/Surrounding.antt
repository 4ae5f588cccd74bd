-- What stands around a program does what the activity does there: the fetches, the publications, the return and the end.
use Rattle.std.proofs.Common.{◌≡◌, ℕ, suc, ◌+◌, ◌-◌, ◌*◌, ◌<◌, ℤ, pos, List, [], ◌∷◌, take, length, get_or, Bool, true, false, if◌then◌else◌, Option, Some, None, refl, sym, ap, ◌∙◌, subst, arith}
use Rattle.std.specs.Prelude.{slice_get, is_none, flat_map}
use Rattle.bus_semantics.specs.Common.{list_any, option_map_or, Plan, Runnable, to_fetch, to_publish, to_fetch_all, to_publish_all, to_return, to_end, elems_of, mask_of, split, State}
use Rattle.bus_semantics.specs.Common.{found_under, words_under, keep_fetched, keep_each, words_in, Outcome, Go, Running, nothing, calling, takes_nothing, Implicit, one, all_of, each}
use Rattle.bus_semantics.specs.Common.{fetching_it, publishing_one, is_written, declared_code, results, returning, ending}
use Rattle.bus_semantics.specs.declared.plan.ServerPlan.{ServerPlan}
use Rattle.bus_semantics.specs.declared.entries.Deed.{Deed}
use Rattle.task_machine.specs.declared.instr.Taken.TheVariants as taken
use Rattle.task_machine.specs.Store.{words_or_none, written_in}
use Rattle.task_machine.specs.Listed.{any_written, marks_of, words_written}
use Rattle.task_machine.specs.Machine.{settled}
use Rattle.task_machine.specs.Instructions.{Instruction, unwritten, none_written, change_of}
use Rattle.task_generator.specs.Common.{slot_of, served, slots_among, parts_of, fetching_code, publishing_code, returning_code, ending_code}
use Rattle.task_generator.proofs.Together.{fetch_together, any_of_them, marks_are, words_are}
use Rattle.task_generator.proofs.Listed.{Slotted, AreSlotted}
use Rattle.task_generator.proofs.Cutting.{cutting_all, cutting_it}
use Rattle.task_generator.proofs.Agreeing.{Slots, store_in, after_fetch, fetch_agrees}
use Rattle.task_generator.proofs.Arguments.{serving}
use Rattle.task_generator.proofs.Following.{Fit, Follows, nothing_runs, with_more, ends_at, joined, one_on, silent, call_changes, call_runs}
use Rattle.task_generator.proofs.Simulation.{HasAt}

-- ---- the return, by the operation served

abbrev pub return_of : Option ServerPlan → Running
return_of None s = nothing s
return_of (Some v) s = calling (to_return (declared_code v.errors (get_or s.vars (length v.arguments) (pos 0))) (results v.arguments s.vars)) takes_nothing s

looked : (o : Option ServerPlan) (s : State) → option_map_or (λ (v : ServerPlan). calling (to_return (declared_code v.errors (get_or s.vars (length v.arguments) (pos 0))) (results v.arguments s.vars)) takes_nothing) o nothing s ≡ return_of o s
looked None s = refl
looked (Some v) s = refl

returns_by : (p : Plan) (r : Runnable) (server : Option ℕ) (s : State) (ds : List Deed) → returning p (serving r server) s ds ≡ return_of (served p.servers server) s ds
returns_by p r None s ds = refl
returns_by p r (Some n) s ds = ap (λ (f : List Deed → Outcome). f ds) (looked (slice_get p.servers n) s)

pub returning_is : (p : Plan) (r : Runnable) (s : State) (ds : List Deed) → returning p r s ds ≡ return_of (served p.servers r.server) s ds
returning_is p r s ds = returns_by p r r.server s ds

-- ---- what is published of one element

publishes_nothing : (x : ℕ) (s : State) (ds : List Deed) → found_under x s.written ≡ None → publishing_one x s ds ≡ Go s ds
publishes_nothing x s ds none = rw none refl

publishes_words : (x : ℕ) (s : State) (ds : List Deed) (ws : List ℤ) → found_under x s.written ≡ Some ws → publishing_one x s ds ≡ calling (to_publish x ws) takes_nothing s ds
publishes_words x s ds ws some = rw some refl

module _ (p : Plan) (code : List Instruction) (event : ℕ) (fetches publishes : List ℕ) (P : List ℕ → Type 0) where
  -- one fetch: of an element, or of a list
  fetch_runs : (it : Implicit) (a : ℕ) (s : State) (c : Slots) (cs : List ℕ) (ds : List Deed) → Slotted p fetches it → HasAt code a (fetching_code p fetches (it ∷ [])) → Fit code event fetches publishes s c → P cs
      → Follows code event fetches publishes P 1 a (a + 1) (store_in s c) cs ds (fetching_it p it s ds)
  fetch_runs (one x) a s c cs ds have has fit keeps =
      call_changes code event fetches publishes P a s c cs ds (λ event m. to_fetch x) (change_of (taken.Slot (slot_of x fetches))) (λ d. keep_fetched x (words_in d))
      (λ d. after_fetch fetches publishes s.fetched s.written c fit x (words_in d)) (λ d. refl) (λ d. fetch_agrees fetches publishes s.fetched s.written c fit x (words_in d) have) has.0 keeps
  fetch_runs (all_of l) a s c cs ds have has fit keeps =
      let xs = elems_of p l in
      let after = λ (d : Deed). fetch_together p fetches publishes xs (words_in d) s c have.0 fit in
      call_changes code event fetches publishes P a s c cs ds (λ event m. to_fetch_all l) (change_of (taken.Slots (parts_of p fetches xs))) (λ d. keep_each (split p xs (words_in d)))
      (λ d. (after d).slots) (λ d. (after d).is) (λ d. (after d).fits) has.0 keeps

  -- of which one stands before others
  fetch_front : (it : Implicit) (its : List Implicit) (a : ℕ) → HasAt code a (fetching_code p fetches (it ∷ its)) → HasAt code a (fetching_code p fetches (it ∷ [])) × HasAt code (a + 1) (fetching_code p fetches its)
  fetch_front (one x) its a has = ((has.0, tt), has.1)
  fetch_front (all_of l) its a has = ((has.0, tt), has.1)

  pub fetching_long : (its : List Implicit) → length (fetching_code p fetches its) ≡ length its
  fetching_long [] = refl
  fetching_long (one x ∷ its) = ap (λ n. suc n) (fetching_long its)
  fetching_long (all_of l ∷ its) = ap (λ n. suc n) (fetching_long its)

  pub fetching_runs : (its : List Implicit) (a : ℕ) (s : State) (c : Slots) (cs : List ℕ) (ds : List Deed) → AreSlotted p fetches its → HasAt code a (fetching_code p fetches its) → Fit code event fetches publishes s c → P cs
      → Follows code event fetches publishes P (length its) a (a + length its) (store_in s c) cs ds (each (fetching_it p) its s ds)
  fetching_runs [] a s c cs ds have has fit keeps =
      let end : a ≡ a + 0 = omega arith in
      ends_at code event fetches publishes P 0 a a (a + 0) (store_in s c) cs ds (Go s ds) end (nothing_runs code event fetches publishes P a s c cs ds fit keeps)
  fetching_runs (it ∷ its) a s c cs ds have has fit keeps =
      let end : a + 1 + length its ≡ a + length (it ∷ its) = omega arith in
      let stand = fetch_front it its a has in
      ends_at code event fetches publishes P (length (it ∷ its)) a (a + 1 + length its) (a + length (it ∷ its)) (store_in s c) cs ds (each (fetching_it p) (it ∷ its) s ds) end
      (with_more code event fetches publishes P (1 + length its) (length (it ∷ its)) a (a + 1 + length its) (store_in s c) cs ds (each (fetching_it p) (it ∷ its) s ds) (omega arith)
      (joined code event fetches publishes P P 1 (length its) a (a + 1) (a + 1 + length its) (store_in s c) cs ds (fetching_it p it s ds) (each (fetching_it p) its)
      (fetch_runs it a s c cs ds have.0 stand.0 fit keeps)
      (λ t e es us fits kept. fetching_runs its (a + 1) t e us es have.1 stand.1 fits kept)))

  -- one publication
  publication_runs : (x a : ℕ) (s : State) (c : Slots) (cs : List ℕ) (ds : List Deed) (o : Option (List ℤ)) → found_under x s.written ≡ o → slot_of x publishes < length publishes
      → HasAt code a (publishing_code p publishes (one x ∷ [])) → Fit code event fetches publishes s c → P cs
      → Follows code event fetches publishes P 2 a (a + 1 + 1) (store_in s c) cs ds (publishing_one x s ds)
  publication_runs x a s c cs ds None is below has fit keeps =
      let m = store_in s c in
      let empty : written_in (slot_of x publishes) m ≡ None = fit.has_written x below ∙ is in
      subst (Follows code event fetches publishes P 2 a (a + 1 + 1) m cs ds) (sym (publishes_nothing x s ds is))
      (with_more code event fetches publishes P 1 2 a (a + 1 + 1) m cs ds (Go s ds) (omega arith)
      (one_on code event fetches publishes P 0 a (a + 1 + 1) (a + 1 + 1) m m cs cs ds ds (Go s ds)
      (λ k some. silent code event fetches publishes k a (a + 1 + 1) m m cs cs ds (unwritten (slot_of x publishes) 1) some has.0
      (ap (λ o. settled code (k - 1) (if is_none o then a + 1 + 1 else a + 1) m cs) empty))
      (nothing_runs code event fetches publishes P (a + 1 + 1) s c cs ds fit keeps)))
  publication_runs x a s c cs ds (Some ws) is below has fit keeps =
      let m = store_in s c in
      let there : written_in (slot_of x publishes) m ≡ Some ws = fit.has_written x below ∙ is in
      let wants = ap (λ o. calling (to_publish x (words_or_none o)) takes_nothing s ds) there ∙ sym (publishes_words x s ds ws is) in
      subst (Follows code event fetches publishes P 2 a (a + 1 + 1) m cs ds) wants
      (one_on code event fetches publishes P 1 a (a + 1) (a + 1 + 1) m m cs cs ds ds (calling (to_publish x (words_or_none (written_in (slot_of x publishes) m))) takes_nothing s ds)
      (λ k some. silent code event fetches publishes k a (a + 1) m m cs cs ds (unwritten (slot_of x publishes) 1) some has.0
      (ap (λ o. settled code (k - 1) (if is_none o then a + 1 + 1 else a + 1) m cs) there))
      (call_runs code event fetches publishes P (a + 1) s c cs ds (λ event m. to_publish x (words_or_none (written_in (slot_of x publishes) m))) (change_of taken.Nothing) takes_nothing (λ d. refl) (λ d. fit) has.1.0 keeps))

  -- one publication of a list
  list_runs : (l a : ℕ) (s : State) (c : Slots) (cs : List ℕ) (ds : List Deed) (b : Bool) → list_any (is_written s) (elems_of p l) ≡ b → Slotted p publishes (all_of l)
      → HasAt code a (publishing_code p publishes (all_of l ∷ [])) → Fit code event fetches publishes s c → P cs
      → Follows code event fetches publishes P 2 a (a + 1 + 1) (store_in s c) cs ds (cutting_all l (elems_of p l) s ds)
  list_runs l a s c cs ds false is have has fit keeps =
      let m = store_in s c in
      let xs = elems_of p l in
      let slots = slots_among publishes xs in
      let marks = mask_of (is_written s) xs in
      let words = take 16 (flat_map (λ x. words_under x s.written) xs) in
      let empty : any_written slots m ≡ false = any_of_them p fetches publishes s c fit xs have.0 ∙ is in
      subst (Follows code event fetches publishes P 2 a (a + 1 + 1) m cs ds) (ap (λ b. if b then calling (to_publish_all l marks words) takes_nothing s ds else nothing s ds) (sym is))
      (with_more code event fetches publishes P 1 2 a (a + 1 + 1) m cs ds (Go s ds) (omega arith)
      (one_on code event fetches publishes P 0 a (a + 1 + 1) (a + 1 + 1) m m cs cs ds ds (Go s ds)
      (λ k some. silent code event fetches publishes k a (a + 1 + 1) m m cs cs ds (none_written slots 1) some has.0
      (ap (λ b. settled code (k - 1) (if b then a + 1 else a + 1 + 1) m cs) empty))
      (nothing_runs code event fetches publishes P (a + 1 + 1) s c cs ds fit keeps)))
  list_runs l a s c cs ds true is have has fit keeps =
      let m = store_in s c in
      let xs = elems_of p l in
      let slots = slots_among publishes xs in
      let marks = mask_of (is_written s) xs in
      let words = take 16 (flat_map (λ x. words_under x s.written) xs) in
      let some_there : any_written slots m ≡ true = any_of_them p fetches publishes s c fit xs have.0 ∙ is in
      let wants : calling (to_publish_all l (marks_of slots m) (words_written slots m)) takes_nothing s ds ≡ cutting_all l xs s ds =
      (λ i. calling (to_publish_all l (marks_are p fetches publishes s c fit xs have.1 have.0 i) (words_are p fetches publishes s c fit xs have.0 i)) takes_nothing s ds)
      ∙ ap (λ b. if b then calling (to_publish_all l marks words) takes_nothing s ds else nothing s ds) (sym is) in
      subst (Follows code event fetches publishes P 2 a (a + 1 + 1) m cs ds) wants
      (one_on code event fetches publishes P 1 a (a + 1) (a + 1 + 1) m m cs cs ds ds (calling (to_publish_all l (marks_of slots m) (words_written slots m)) takes_nothing s ds)
      (λ k some. silent code event fetches publishes k a (a + 1) m m cs cs ds (none_written slots 1) some has.0
      (ap (λ b. settled code (k - 1) (if b then a + 1 else a + 1 + 1) m cs) some_there))
      (call_runs code event fetches publishes P (a + 1) s c cs ds (λ event m. to_publish_all l (marks_of slots m) (words_written slots m)) (change_of taken.Nothing) takes_nothing (λ d. refl) (λ d. fit) has.1.0 keeps))

  -- one publication: of an element, or of a list
  it_runs : (it : Implicit) (a : ℕ) (s : State) (c : Slots) (cs : List ℕ) (ds : List Deed) → Slotted p publishes it → HasAt code a (publishing_code p publishes (it ∷ [])) → Fit code event fetches publishes s c → P cs
      → Follows code event fetches publishes P 2 a (a + 1 + 1) (store_in s c) cs ds (cutting_it p it s ds)
  it_runs (one x) a s c cs ds have has fit keeps = publication_runs x a s c cs ds (found_under x s.written) refl have has fit keeps
  it_runs (all_of l) a s c cs ds have has fit keeps = list_runs l a s c cs ds (list_any (is_written s) (elems_of p l)) refl have has fit keeps

  publication_front : (it : Implicit) (its : List Implicit) (a : ℕ) → HasAt code a (publishing_code p publishes (it ∷ its)) → HasAt code a (publishing_code p publishes (it ∷ [])) × HasAt code (a + 1 + 1) (publishing_code p publishes its)
  publication_front (one x) its a has = ((has.0, (has.1.0, tt)), has.1.1)
  publication_front (all_of l) its a has = ((has.0, (has.1.0, tt)), has.1.1)

  pub publishing_long : (its : List Implicit) → length (publishing_code p publishes its) ≡ 2 * length its
  publishing_long [] = refl
  publishing_long (one x ∷ its) = let rest = publishing_long its in omega (arith, rest)
  publishing_long (all_of l ∷ its) = let rest = publishing_long its in omega (arith, rest)

  pub publishing_runs : (its : List Implicit) (a : ℕ) (s : State) (c : Slots) (cs : List ℕ) (ds : List Deed) → AreSlotted p publishes its → HasAt code a (publishing_code p publishes its) → Fit code event fetches publishes s c → P cs
      → Follows code event fetches publishes P (2 * length its) a (a + 2 * length its) (store_in s c) cs ds (each (cutting_it p) its s ds)
  publishing_runs [] a s c cs ds have has fit keeps =
      let end : a ≡ a + 2 * 0 = omega arith in
      ends_at code event fetches publishes P 0 a a (a + 2 * 0) (store_in s c) cs ds (Go s ds) end (nothing_runs code event fetches publishes P a s c cs ds fit keeps)
  publishing_runs (it ∷ its) a s c cs ds have has fit keeps =
      let end : a + 1 + 1 + 2 * length its ≡ a + 2 * length (it ∷ its) = omega arith in
      let stand = publication_front it its a has in
      ends_at code event fetches publishes P (2 * length (it ∷ its)) a (a + 1 + 1 + 2 * length its) (a + 2 * length (it ∷ its)) (store_in s c) cs ds (each (cutting_it p) (it ∷ its) s ds) end
      (with_more code event fetches publishes P (2 + 2 * length its) (2 * length (it ∷ its)) a (a + 1 + 1 + 2 * length its) (store_in s c) cs ds (each (cutting_it p) (it ∷ its) s ds) (omega arith)
      (joined code event fetches publishes P P 2 (2 * length its) a (a + 1 + 1) (a + 1 + 1 + 2 * length its) (store_in s c) cs ds (cutting_it p it s ds) (each (cutting_it p) its)
      (it_runs it a s c cs ds have.0 stand.0 fit keeps)
      (λ t e es us fits kept. publishing_runs its (a + 1 + 1) t e us es have.1 stand.1 fits kept)))

  pub returning_runs : (o : Option ServerPlan) (a : ℕ) (s : State) (c : Slots) (cs : List ℕ) (ds : List Deed) → HasAt code a (returning_code o) → Fit code event fetches publishes s c → P cs
      → Follows code event fetches publishes P (length (returning_code o)) a (a + length (returning_code o)) (store_in s c) cs ds (return_of o s ds)
  returning_runs None a s c cs ds has fit keeps =
      let end : a ≡ a + 0 = omega arith in
      ends_at code event fetches publishes P 0 a a (a + 0) (store_in s c) cs ds (Go s ds) end (nothing_runs code event fetches publishes P a s c cs ds fit keeps)
  returning_runs (Some v) a s c cs ds has fit keeps =
      call_runs code event fetches publishes P a s c cs ds (λ event m. to_return (declared_code v.errors (get_or m.vars (length v.arguments) (pos 0))) (results v.arguments m.vars)) (change_of taken.Nothing) takes_nothing (λ d. refl) (λ d. fit) has.0 keeps

  pub ending_runs : (a : ℕ) (s : State) (c : Slots) (cs : List ℕ) (ds : List Deed) → HasAt code a ending_code → Fit code event fetches publishes s c → P cs
      → Follows code event fetches publishes P 1 a (a + 1) (store_in s c) cs ds (ending event s ds)
  ending_runs a s c cs ds has fit keeps = call_runs code event fetches publishes P a s c cs ds (λ event m. to_end event) (change_of taken.Nothing) takes_nothing (λ d. refl) (λ d. fit) has.0 keeps
