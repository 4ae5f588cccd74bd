-- A whole activation does what the activity does.
use Rattle.std.proofs.Common.{◌≡◌, ℕ, zero, suc, ◌+◌, ◌*◌, ◌<◌, ◌≤◌, List, [], ◌∷◌, ◌++◌, length, Bool, true, false, if◌then◌else◌, Option, Some, None, refl, sym, ap, ◌∙◌, subst, arith}
use Rattle.std.proofs.Common.{append_assoc, length-append}
use Rattle.std.specs.Prelude.{slice_get, ◌==◌, is_some}
use Rattle.std.proofs.Math.Seq.{get_or-append_seam}
use Rattle.bus_semantics.specs.Common.{slice_get-get_or, slice_get_past, Plan, Runnable, disabling_of, to_admit, State, Outcome, Stop, Go, Running, goes_on, both, calling, takes_nothing}
use Rattle.bus_semantics.specs.Common.{run_program, fetches_of, publications_of, admitting, fetching, returning, ending, wanted_next}
use Rattle.bus_semantics.specs.declared.entries.Deed.{Deed}
use Rattle.bus_semantics.specs.declared.plan.Disabling.{Disabling}
use Rattle.implicit_buffers.specs.Buffers.{fetched_by, published_by}
use Rattle.task_machine.specs.declared.instr.Taken.TheVariants as taken
use Rattle.task_machine.specs.Store.{Store}
use Rattle.task_machine.specs.Instructions.{Instruction, change_of}
use Rattle.task_machine.specs.Machine.{Spot, silently, settled, wanted_by, wanted_at, heard_by}
use Rattle.task_generator.specs.Common.{served, code_of_body, fetching_code, publishing_code, returning_code, ending_code, activity_code, steps_of_body, loops_of_body, budget_of}
use Rattle.task_generator.proofs.Listed.{AreSlotted}
use Rattle.task_generator.proofs.Cutting.{cutting, cut_activity}
use Rattle.task_generator.proofs.Agreeing.{Slots, store_in}
use Rattle.task_generator.proofs.Following.{Keeps, Keeps-itself, Keeps-further, Fit, Follows, asked_from, after_hearing, with_more, ends_at, keeping, joined, call_runs}
use Rattle.task_generator.proofs.Simulation.{HasAt, has_front, has_back, body_runs}
use Rattle.task_generator.proofs.Surrounding.{returning_is, fetching_long, fetching_runs, publishing_long, publishing_runs, returning_runs, ending_runs}

-- all instructions stand at their places
has_all : (is pre : List Instruction) → HasAt (pre ++ is) (length pre) is
has_all [] pre = tt
has_all (i ∷ is) pre =
    let within : length pre < length (pre ++ i ∷ is) = omega (arith, length-append pre (i ∷ is)) in
    let here = slice_get-get_or (pre ++ i ∷ is) (length pre) i within ∙ ap Some (get_or-append_seam pre i is i) in
    let n : length (pre ++ i ∷ []) ≡ length pre + 1 = omega (arith, length-append pre (i ∷ [])) in
    let rest = has_all is (pre ++ i ∷ []) in
    let rest' = subst (λ l. HasAt l (length (pre ++ i ∷ [])) is) (append_assoc pre (i ∷ []) is) rest in
    (here, subst (λ m. HasAt (pre ++ i ∷ is) m is) n rest')

-- ---- the end

same_either : {X : Type 0} → (b : Bool) (x : X) → (if b then x else x) ≡ x
same_either true x = refl
same_either false x = refl

module _ (code : List Instruction) (event : ℕ) where
  settled_end : (k e : ℕ) (m : Store) (cs : List ℕ) → slice_get code e ≡ None → settled code k e m cs ≡ record { left = k; place = e; store = m; counters = cs }
  settled_end zero e m cs none = refl
  settled_end (suc n) e m cs none = ap (λ o. silently o (settled code n) e m cs (record { left = suc n; place = e; store = m; counters = cs })) none

  stays : (k e : ℕ) (m : Store) (cs : List ℕ) (ds : List Deed) → slice_get code e ≡ None → after_hearing code ds (record { left = k; place = e; store = m; counters = cs }) ≡ record { left = k; place = e; store = m; counters = cs }
  stays k e m cs [] none = refl
  stays k e m cs (d ∷ ds) none =
      let here : Spot = record { left = k; place = e; store = m; counters = cs } in
      ap (after_hearing code ds) (ap (λ o. if k == 0 then here else heard_by code o d here) none ∙ same_either (k == 0) here)
      ∙ stays k e m cs ds none

  over : (k e : ℕ) (m : Store) (cs : List ℕ) (ds : List Deed) → slice_get code e ≡ None → asked_from code event k e m cs ds ≡ None
  over k e m cs ds none =
      ap (λ x. wanted_at code event (after_hearing code ds x)) (settled_end k e m cs none)
      ∙ ap (wanted_at code event) (stays k e m cs ds none)
      ∙ ap (λ o. if k == 0 then None else wanted_by o event m) none
      ∙ same_either (k == 0) None

  -- a stretch to the end asks what its outcome wants
  asks_outcome : (fs ps : List ℕ) (P : List ℕ → Type 0) (n a e : ℕ) (m : Store) (cs : List ℕ) (ds : List Deed) (o : Outcome) → slice_get code e ≡ None
      → Follows code event fs ps P n a e m cs ds o → asked_from code event n a m cs ds ≡ wanted_next o
  asks_outcome fs ps P n a e m cs ds (Stop w) none f = f n (omega arith)
  asks_outcome fs ps P n a e m cs ds (Go t es) none f = let x = f n 0 (omega arith) in x.is ∙ over x.left e (store_in t x.slots) x.counters es none

-- ---- an activity whose publications are cut

module _ (p : Plan) (r : Runnable) (event : ℕ) where
  abbrev pub behind : Running
  behind = both (run_program r r.program.body) (both (cutting p r) (both (returning p r) (ending event)))

  abbrev pub begun : Running
  begun = both (fetching p r) behind

  admits_all : (s : State) (ds : List Deed) → disabling_of p event ≡ None → cut_activity p r event s ds ≡ begun s ds
  admits_all s ds enabled = ap (goes_on begun) (no_admission enabled)
    where
      no_admission : disabling_of p event ≡ None → admitting p event s ds ≡ Go s ds
      no_admission enabled = rw enabled refl

  asks_admission : (s : State) (ds : List Deed) (d : Disabling) → disabling_of p event ≡ Some d → cut_activity p r event s ds ≡ goes_on begun (calling (to_admit event) takes_nothing s ds)
  asks_admission s ds d disabled = ap (goes_on begun) (admission disabled)
    where
      admission : disabling_of p event ≡ Some d → admitting p event s ds ≡ calling (to_admit event) takes_nothing s ds
      admission disabled = rw disabled refl

  -- ---- the parts at their places

  abbrev pub code : List Instruction
  code = activity_code p r

  abbrev pub fs : List ℕ
  fs = fetched_by r

  abbrev pub ps : List ℕ
  ps = published_by r

  abbrev pub fetch_code : List Instruction
  fetch_code = fetching_code p fs (fetches_of p r)

  abbrev pub program : List Instruction
  program = code_of_body r 0 r.program.body

  abbrev pub publish_code : List Instruction
  publish_code = publishing_code p ps (publications_of p r)

  abbrev pub return : List Instruction
  return = returning_code (served p.servers r.server)

  all : HasAt code 0 code
  all = has_all code []

  from_program : HasAt code (0 + 1 + length fetch_code) (program ++ (publish_code ++ (return ++ ending_code)))
  from_program = has_back code (0 + 1) fetch_code (program ++ (publish_code ++ (return ++ ending_code))) all.1

  from_publishing : HasAt code (0 + 1 + length fetch_code + length program) (publish_code ++ (return ++ ending_code))
  from_publishing = has_back code (0 + 1 + length fetch_code) program (publish_code ++ (return ++ ending_code)) from_program

  from_return : HasAt code (0 + 1 + length fetch_code + length program + length publish_code) (return ++ ending_code)
  from_return = has_back code (0 + 1 + length fetch_code + length program) publish_code (return ++ ending_code) from_publishing

  abbrev pub end : ℕ
  end = 0 + 1 + length fetch_code + length program + length publish_code + length return

  from_end : HasAt code end ending_code
  from_end = has_back code (0 + 1 + length fetch_code + length program + length publish_code) return ending_code from_return

  nothing_behind : slice_get code (end + 1) ≡ None
  nothing_behind = slice_get_past code (end + 1) (omega (
    arith,
    length-append fetch_code (program ++ (publish_code ++ (return ++ ending_code))),
    length-append program (publish_code ++ (return ++ ending_code)),
    length-append publish_code (return ++ ending_code),
    length-append return ending_code,
  ))

  -- ---- from the last part to the first

  module _ (fetches : AreSlotted p fs (fetches_of p r)) (publications : AreSlotted p ps (publications_of p r)) (cs : List ℕ) (room : loops_of_body r.program.body ≤ length cs) where
    abbrev pub Same : List ℕ → Type 0
    Same = Keeps 0 cs

    return_on : (s : State) (c : Slots) (us : List ℕ) (ds : List Deed) → Fit code event fs ps s c → Same us
        → Follows code event fs ps Same (length return + 1) (0 + 1 + length fetch_code + length program + length publish_code) (end + 1) (store_in s c) us ds (both (returning p r) (ending event) s ds)
    return_on s c us ds fit keeps =
        joined code event fs ps Same Same (length return) 1 (0 + 1 + length fetch_code + length program + length publish_code) end (end + 1) (store_in s c) us ds (returning p r s ds) (ending event)
        (subst (Follows code event fs ps Same (length return) (0 + 1 + length fetch_code + length program + length publish_code) end (store_in s c) us ds) (sym (returning_is p r s ds))
        (returning_runs p code event fs ps Same (served p.servers r.server) (0 + 1 + length fetch_code + length program + length publish_code) s c us ds
        (has_front code (0 + 1 + length fetch_code + length program + length publish_code) return ending_code from_return) fit keeps))
        (λ t e es ws fits kept. ending_runs p code event fs ps Same end t e ws es from_end fits kept)

    publish_on : (s : State) (c : Slots) (us : List ℕ) (ds : List Deed) → Fit code event fs ps s c → Same us
        → Follows code event fs ps Same (length publish_code + (length return + 1)) (0 + 1 + length fetch_code + length program) (end + 1) (store_in s c) us ds (both (cutting p r) (both (returning p r) (ending event)) s ds)
    publish_on s c us ds fit keeps =
        let here = 0 + 1 + length fetch_code + length program in
        let its = publications_of p r in
        let there : here + 2 * length its ≡ here + length publish_code = omega (arith, publishing_long p code event fs ps Same its) in
        joined code event fs ps Same Same (length publish_code) (length return + 1) here (here + length publish_code) (end + 1) (store_in s c) us ds (cutting p r s ds) (both (returning p r) (ending event))
        (with_more code event fs ps Same (2 * length its) (length publish_code) here (here + length publish_code) (store_in s c) us ds (cutting p r s ds) (omega (arith, publishing_long p code event fs ps Same its))
        (ends_at code event fs ps Same (2 * length its) here (here + 2 * length its) (here + length publish_code) (store_in s c) us ds (cutting p r s ds) there
        (publishing_runs p code event fs ps Same its here s c us ds publications (has_front code here publish_code (return ++ ending_code) from_publishing) fit keeps)))
        (λ t e es ws fits kept. return_on t e ws es fits kept)

    program_on : (s : State) (c : Slots) (us : List ℕ) (ds : List Deed) → Fit code event fs ps s c → Same us
        → Follows code event fs ps Same (steps_of_body r.program.body + (length publish_code + (length return + 1))) (0 + 1 + length fetch_code) (end + 1) (store_in s c) us ds (behind s ds)
    program_on s c us ds fit keeps =
        let here = 0 + 1 + length fetch_code in
        let long = keeps.long in
        joined code event fs ps Same Same (steps_of_body r.program.body) (length publish_code + (length return + 1)) here (here + length program) (end + 1) (store_in s c) us ds (run_program r r.program.body s ds)
        (both (cutting p r) (both (returning p r) (ending event)))
        (keeping code event fs ps (Keeps 0 us) Same (steps_of_body r.program.body) here (here + length program) (store_in s c) us ds (run_program r r.program.body s ds)
        (λ ws more. Keeps-further 0 0 cs us ws (omega arith) keeps more)
        (body_runs code event r r.program.body 0 here s c us ds fit (has_front code here program (publish_code ++ (return ++ ending_code)) from_program) (omega arith)))
        (λ t e es ws fits kept. publish_on t e ws es fits kept)

    fetch_on : (s : State) (c : Slots) (us : List ℕ) (ds : List Deed) → Fit code event fs ps s c → Same us
        → Follows code event fs ps Same (length fetch_code + (steps_of_body r.program.body + (length publish_code + (length return + 1)))) (0 + 1) (end + 1) (store_in s c) us ds (begun s ds)
    fetch_on s c us ds fit keeps =
        let its = fetches_of p r in
        let there : 0 + 1 + length its ≡ 0 + 1 + length fetch_code = omega (arith, fetching_long p code event fs ps Same its) in
        joined code event fs ps Same Same (length fetch_code) (steps_of_body r.program.body + (length publish_code + (length return + 1))) (0 + 1) (0 + 1 + length fetch_code) (end + 1) (store_in s c) us ds (fetching p r s ds) behind
        (with_more code event fs ps Same (length its) (length fetch_code) (0 + 1) (0 + 1 + length fetch_code) (store_in s c) us ds (fetching p r s ds) (omega (arith, fetching_long p code event fs ps Same its))
        (ends_at code event fs ps Same (length its) (0 + 1) (0 + 1 + length its) (0 + 1 + length fetch_code) (store_in s c) us ds (fetching p r s ds) there
        (fetching_runs p code event fs ps Same its (0 + 1) s c us ds fetches (has_front code (0 + 1) fetch_code (program ++ (publish_code ++ (return ++ ending_code))) all.1) fit keeps)))
        (λ t e es ws fits kept. program_on t e ws es fits kept)

    admit_on : (s : State) (c : Slots) (ds : List Deed) (o : Option Disabling) → disabling_of p event ≡ o → Fit code event fs ps s c
        → Follows code event fs ps Same (budget_of p r) (if is_some o then 0 else 1) (end + 1) (store_in s c) cs ds (cut_activity p r event s ds)
    admit_on s c ds None enabled fit =
        subst (Follows code event fs ps Same (budget_of p r) 1 (end + 1) (store_in s c) cs ds) (sym (admits_all s ds enabled))
        (with_more code event fs ps Same (length fetch_code + (steps_of_body r.program.body + (length publish_code + (length return + 1)))) (budget_of p r) 1 (end + 1) (store_in s c) cs ds (begun s ds) (omega arith)
        (fetch_on s c cs ds fit (Keeps-itself 0 cs)))
    admit_on s c ds (Some d) disabled fit =
        subst (Follows code event fs ps Same (budget_of p r) 0 (end + 1) (store_in s c) cs ds) (sym (asks_admission s ds d disabled))
        (joined code event fs ps Same Same 1 (length fetch_code + (steps_of_body r.program.body + (length publish_code + (length return + 1)))) 0 (0 + 1) (end + 1) (store_in s c) cs ds (calling (to_admit event) takes_nothing s ds) begun
        (call_runs code event fs ps Same 0 s c cs ds (λ event m. to_admit event) (change_of taken.Nothing) takes_nothing (λ d. refl) (λ d. fit) all.0 (Keeps-itself 0 cs))
        (λ t e es us fits kept. fetch_on t e us es fits kept))

    -- the whole body
    pub whole : (s : State) (c : Slots) (ds : List Deed) (o : Option Disabling) → disabling_of p event ≡ o → Fit code event fs ps s c
        → asked_from code event (budget_of p r) (if is_some o then 0 else 1) (store_in s c) cs ds ≡ wanted_next (cut_activity p r event s ds)
    whole s c ds o is fit =
        asks_outcome code event fs ps Same (budget_of p r) (if is_some o then 0 else 1) (end + 1) (store_in s c) cs ds (cut_activity p r event s ds) nothing_behind (admit_on s c ds o is fit)
