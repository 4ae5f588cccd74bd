-- How the machine goes on from a place in a body, and how stretches of instructions are joined. A stretch does what an outcome of the
-- program says where the slots agree with what the program's state has under their elements.
use Rattle.std.proofs.Common.{◌≡◌, ◌≢◌, ℕ, zero, suc, ◌+◌, ◌-◌, ◌*◌, ◌<◌, ◌≤◌, ℤ, pos, List, [], ◌∷◌, length, set, get_or, Bool, true, false, if◌then◌else◌, Option, Some, None, refl, ap}
use Rattle.std.proofs.Common.{◌∙◌, subst, arith}
use Rattle.std.specs.Prelude.{slice_get, ◌==◌}
use Rattle.bus_semantics.specs.Common.{int_eq, eqb-true, false_from_ne_true, get_or-set_same, get_or-set_other, length-set, ExprTree, worth, Wanted, to_ask, to_hear, State, put, put_all}
use Rattle.bus_semantics.specs.Common.{keep_written, words_under, code_in, Outcome, Stop, Go, Running, goes_on, nothing, calling, times, hears, asking_and_hearing, takes_words}
use Rattle.bus_semantics.specs.declared.entries.Deed.{Deed}
use Rattle.task_machine.specs.declared.instr.Taken.TheVariants as taken
use Rattle.task_machine.specs.Store.{Store}
use Rattle.task_machine.specs.Instructions.{Instruction, assign, load, keep, unless, skip, begin_loop, end_loop, call, refused, change_of, passes_of, passes_nothing}
use Rattle.task_machine.specs.Machine.{Spot, turned, silently, settled, wanted_by, wanted_at, heard_by, heard}
use Rattle.task_generator.specs.Slots.{slot_of}
use Rattle.task_generator.proofs.Agreeing.{Slots, store_in, Agrees, after_keep, keep_agrees}

-- counters that stay as they were outside of a loop
pub record Keeps (depth : ℕ) (old new : List ℕ) : Type 0 where
  pub long : length new ≡ length old
  pub same : (i : ℕ) → i < depth → get_or new i 0 ≡ get_or old i 0

pub Keeps-itself : (d : ℕ) (cs : List ℕ) → Keeps d cs cs
Keeps-itself d cs = record { long = refl; same = λ i below. refl }

pub Keeps-further : (d e : ℕ) (cs us ws : List ℕ) → d ≤ e → Keeps d cs us → Keeps e us ws → Keeps d cs ws
Keeps-further d e cs us ws le a b = record { long = b.long ∙ a.long; same = λ i below. b.same i (omega arith) ∙ a.same i below }

pub Keeps-set : (d e x : ℕ) (cs us : List ℕ) → d ≤ e → Keeps d cs us → Keeps d cs (set us e x)
Keeps-set d e x cs us le a = record {
  long = length-set us e x ∙ a.long;
  same = λ i below. let other : i ≢ e = omega arith in get_or-set_other us e i x 0 other ∙ a.same i below;
}

-- after the answers, none of which is the last
abbrev pub after_hearing : List Instruction → List Deed → Spot → Spot
after_hearing code [] at = at
after_hearing code (d ∷ answers) at = after_hearing code answers (heard code d at)

-- what is asked after the answers, with so much budget, from a place on
abbrev pub asked_from : List Instruction → (event : ℕ) → (budget place : ℕ) → Store → List ℕ → List Deed → Option Wanted
asked_from code event n p m cs ds = wanted_at code event (after_hearing code ds (settled code n p m cs))

module _ (code : List Instruction) (event : ℕ) (fetches publishes : List ℕ) where
  -- the slots agree with a state
  abbrev pub Fit : State → Slots → Type 0
  Fit s b = Agrees fetches publishes s.fetched s.written b

  -- the machine comes to another place, with budget left
  pub record Arrives (P : List ℕ → Type 0) (k more a e : ℕ) (m : Store) (cs : List ℕ) (ds : List Deed) (t : State) (es : List Deed) : Type 0 where
    pub left : ℕ
    pub slots : Slots
    pub counters : List ℕ
    pub enough : more ≤ left
    pub agrees : Fit t slots
    pub keeps : P counters
    pub is : asked_from code event k a m cs ds ≡ asked_from code event left e (store_in t slots) counters es

  -- what a stretch of instructions does that executes at most n of them: what the outcome says
  abbrev pub Follows : (P : List ℕ → Type 0) → (n a e : ℕ) → Store → List ℕ → List Deed → Outcome → Type 0
  Follows P n a e m cs ds (Stop w) = (k : ℕ) → n ≤ k → asked_from code event k a m cs ds ≡ Some w
  Follows P n a e m cs ds (Go t es) = (k more : ℕ) → n + more ≤ k → Arrives P k more a e m cs ds t es

  -- ---- joining

  pub nothing_runs : (P : List ℕ → Type 0) (a : ℕ) (s : State) (b : Slots) (cs : List ℕ) (ds : List Deed) → Fit s b → P cs → Follows P 0 a a (store_in s b) cs ds (Go s ds)
  nothing_runs P a s b cs ds fit keeps = λ k more le. record { left = k; slots = b; counters = cs; enough = omega arith; agrees = fit; keeps = keeps; is = refl }

  pub with_more : (P : List ℕ → Type 0) (n n' a e : ℕ) (m : Store) (cs : List ℕ) (ds : List Deed) (o : Outcome) → n ≤ n' → Follows P n a e m cs ds o → Follows P n' a e m cs ds o
  with_more P n n' a e m cs ds (Stop w) le f = λ k more. f k (omega arith)
  with_more P n n' a e m cs ds (Go t es) le f = λ k x more. f k x (omega arith)

  pub ends_at : (P : List ℕ → Type 0) (n a e e' : ℕ) (m : Store) (cs : List ℕ) (ds : List Deed) (o : Outcome) → e ≡ e' → Follows P n a e m cs ds o → Follows P n a e' m cs ds o
  ends_at P n a e e' m cs ds o same f = subst (λ x. Follows P n a x m cs ds o) same f

  pub keeping : (P Q : List ℕ → Type 0) (n a e : ℕ) (m : Store) (cs : List ℕ) (ds : List Deed) (o : Outcome) → ((us : List ℕ) → P us → Q us) → Follows P n a e m cs ds o → Follows Q n a e m cs ds o
  keeping P Q n a e m cs ds (Stop w) g f = f
  keeping P Q n a e m cs ds (Go t es) g f = λ k more le. let x = f k more le in record { left = x.left; slots = x.slots; counters = x.counters; enough = x.enough; agrees = x.agrees; keeps = g x.counters x.keeps; is = x.is }

  chained : (P Q : List ℕ → Type 0) (n n' a b e : ℕ) (m : Store) (t : State) (cs : List ℕ) (ds es : List Deed) (o : Outcome)
      → Follows P n a b m cs ds (Go t es)
      → ((c : Slots) (us : List ℕ) → Fit t c → P us → Follows Q n' b e (store_in t c) us es o)
      → Follows Q (n + n') a e m cs ds o
  chained P Q n n' a b e m t cs ds es (Stop w) f g = λ k le. let x = f k n' le in x.is ∙ g x.slots x.counters x.agrees x.keeps x.left x.enough
  chained P Q n n' a b e m t cs ds es (Go u fs) f g = λ k more le.
      let x = f k (n' + more) (omega arith) in
      let y = g x.slots x.counters x.agrees x.keeps x.left more x.enough in
      record { left = y.left; slots = y.slots; counters = y.counters; enough = y.enough; agrees = y.agrees; keeps = y.keeps; is = x.is ∙ y.is }

  pub joined : (P Q : List ℕ → Type 0) (n n' a b e : ℕ) (m : Store) (cs : List ℕ) (ds : List Deed) (o : Outcome) (r : Running)
      → Follows P n a b m cs ds o
      → ((t : State) (c : Slots) (es : List Deed) (us : List ℕ) → Fit t c → P us → Follows Q n' b e (store_in t c) us es (r t es))
      → Follows Q (n + n') a e m cs ds (goes_on r o)
  joined P Q n n' a b e m cs ds (Stop w) r f g = λ k le. f k (omega arith)
  joined P Q n n' a b e m cs ds (Go t es) r f g = chained P Q n n' a b e m t cs ds es (r t es) f (λ c us fit keeps. g t c es us fit keeps)

  -- one instruction, and then a stretch
  pub one_on : (P : List ℕ → Type 0) (n a b e : ℕ) (m m' : Store) (cs us : List ℕ) (ds es : List Deed) (o : Outcome)
      → ((k : ℕ) → 1 ≤ k → asked_from code event k a m cs ds ≡ asked_from code event (k - 1) b m' us es)
      → Follows P n b e m' us es o → Follows P (1 + n) a e m cs ds o
  one_on P n a b e m m' cs us ds es (Stop w) step f = λ k le. step k (omega arith) ∙ f (k - 1) (omega arith)
  one_on P n a b e m m' cs us ds es (Go u fs) step f = λ k more le.
      let x = f (k - 1) more (omega arith) in
      record { left = x.left; slots = x.slots; counters = x.counters; enough = x.enough; agrees = x.agrees; keeps = x.keeps; is = step k (omega arith) ∙ x.is }

  -- a stretch, and then one instruction
  pub then_one : (P Q : List ℕ → Type 0) (change : List ℕ → List ℕ) (n a b e : ℕ) (m : Store) (cs : List ℕ) (ds : List Deed) (o : Outcome)
      → ((k : ℕ) (t : Store) (us : List ℕ) (es : List Deed) → 1 ≤ k → P us → asked_from code event k b t us es ≡ asked_from code event (k - 1) e t (change us) es)
      → ((us : List ℕ) → P us → Q (change us))
      → Follows P n a b m cs ds o → Follows Q (n + 1) a e m cs ds o
  then_one P Q change n a b e m cs ds (Stop w) step keeps f = λ k le. f k (omega arith)
  then_one P Q change n a b e m cs ds (Go t es) step keeps f = λ k more le.
      let x = f k (1 + more) (omega arith) in
      let enough : 1 ≤ x.left = omega (arith, x.enough) in
      record { left = x.left - 1; slots = x.slots; counters = change x.counters; enough = omega (arith, x.enough); agrees = x.agrees; keeps = keeps x.counters x.keeps; is = x.is ∙ step x.left (store_in t x.slots) x.counters es enough x.keeps }

  -- ---- one instruction

  -- with budget, the instruction decides
  decided : (k a : ℕ) (m : Store) (cs : List ℕ) (i : Instruction) → 1 ≤ k → slice_get code a ≡ Some i
      → settled code k a m cs ≡ silently (Some i) (settled code (k - 1)) a m cs (record { left = k; place = a; store = m; counters = cs })
  decided zero a m cs i some at = absurd (omega arith)
  decided (suc n) a m cs i some at =
      let less : suc n - 1 ≡ n = omega arith in
      rw less (ap (λ o. silently o (settled code n) a m cs (record { left = suc n; place = a; store = m; counters = cs })) at)

  -- an instruction that asks nothing
  pub silent : (k a b : ℕ) (m m' : Store) (cs us : List ℕ) (ds : List Deed) (i : Instruction) → 1 ≤ k → slice_get code a ≡ Some i
      → silently (Some i) (settled code (k - 1)) a m cs (record { left = k; place = a; store = m; counters = cs }) ≡ settled code (k - 1) b m' us
      → asked_from code event k a m cs ds ≡ asked_from code event (k - 1) b m' us ds
  silent k a b m m' cs us ds i some at is = ap (λ x. wanted_at code event (after_hearing code ds x)) (decided k a m cs i some at ∙ is)

  positive : (k : ℕ) → 1 ≤ k → (k == 0) ≡ false
  positive k some = false_from_ne_true (k == 0) (λ e. let zero : k ≡ 0 = eqb-true k 0 e in absurd (omega arith))

  -- a call that waits for its answer
  pub waits : (k a : ℕ) (m : Store) (cs : List ℕ) (w : ℕ → Store → Wanted) (change : Deed → Store → Store) (passes : Deed → ℕ) → 1 ≤ k → slice_get code a ≡ Some (call w change passes)
      → asked_from code event k a m cs [] ≡ Some (w event m)
  waits k a m cs w change passes some at =
      ap (wanted_at code event) (decided k a m cs (call w change passes) some at)
      ∙ ap (λ b. if b then None else wanted_by (slice_get code a) event m) (positive k some)
      ∙ ap (λ o. wanted_by o event m) at

  -- a call that has its answer
  pub hears_answer : (k a : ℕ) (m : Store) (cs : List ℕ) (d : Deed) (ds : List Deed) (w : ℕ → Store → Wanted) (change : Deed → Store → Store) (passes : Deed → ℕ) → 1 ≤ k → slice_get code a ≡ Some (call w change passes)
      → asked_from code event k a m cs (d ∷ ds) ≡ asked_from code event (k - 1) (a + 1 + passes d) (change d m) cs ds
  hears_answer k a m cs d ds w change passes some at =
      let here : Spot = record { left = k; place = a; store = m; counters = cs } in
      ap (λ x. wanted_at code event (after_hearing code ds (heard code d x))) (decided k a m cs (call w change passes) some at)
      ∙ ap (λ b. wanted_at code event (after_hearing code ds (if b then here else heard_by code (slice_get code a) d here))) (positive k some)
      ∙ ap (λ o. wanted_at code event (after_hearing code ds (heard_by code o d here))) at

  -- ---- statements

  pub assign_runs : (P : List ℕ → Type 0) (a : ℕ) (s : State) (b : Slots) (cs : List ℕ) (ds : List Deed) (v : ℕ) (e : ExprTree) → slice_get code a ≡ Some (assign v e) → Fit s b → P cs
      → Follows P 1 a (a + 1) (store_in s b) cs ds (Go (put v (worth s.vars e) s) ds)
  assign_runs P a s b cs ds v e at fit keeps =
      let t = put v (worth s.vars e) s in
      one_on P 0 a (a + 1) (a + 1) (store_in s b) (store_in t b) cs cs ds ds (Go t ds)
      (λ k some. silent k a (a + 1) (store_in s b) (store_in t b) cs cs ds (assign v e) some at refl)
      (nothing_runs P (a + 1) t b cs ds fit keeps)

  -- the words of a slot are those that stand under its element
  pub load_runs : (P : List ℕ → Type 0) (a : ℕ) (s : State) (b : Slots) (cs : List ℕ) (ds : List Deed) (vs : List ℕ) (x : ℕ) → slice_get code a ≡ Some (load vs (slot_of x fetches)) → Fit s b → P cs
      → Follows P 1 a (a + 1) (store_in s b) cs ds (Go (put_all vs (words_under x s.fetched) s) ds)
  load_runs P a s b cs ds vs x at fit keeps =
      let t = put_all vs (words_under x s.fetched) s in
      one_on P 0 a (a + 1) (a + 1) (store_in s b) (store_in t b) cs cs ds ds (Go t ds)
      (λ k some. silent k a (a + 1) (store_in s b) (store_in t b) cs cs ds (load vs (slot_of x fetches)) some at
      (ap (λ ws. settled code (k - 1) (a + 1) (store_in (put_all vs ws s) b) cs) (fit.has_fetched x)))
      (nothing_runs P (a + 1) t b cs ds fit keeps)

  pub keep_runs : (P : List ℕ → Type 0) (a : ℕ) (s : State) (b : Slots) (cs : List ℕ) (ds : List Deed) (x : ℕ) (words : Store → List ℤ) → slice_get code a ≡ Some (keep (slot_of x publishes) words) → Fit s b → P cs
      → Follows P 1 a (a + 1) (store_in s b) cs ds (Go (keep_written x (words (store_in s b)) s) ds)
  keep_runs P a s b cs ds x words at fit keeps =
      let ws = words (store_in s b) in
      let t = keep_written x ws s in
      let c = after_keep fetches publishes s.fetched s.written b fit x ws in
      one_on P 0 a (a + 1) (a + 1) (store_in s b) (store_in t c) cs cs ds ds (Go t ds)
      (λ k some. silent k a (a + 1) (store_in s b) (store_in t c) cs cs ds (keep (slot_of x publishes) words) some at refl)
      (nothing_runs P (a + 1) t c cs ds (keep_agrees fetches publishes s.fetched s.written b fit x ws) keeps)

  -- a call whose answer may change slots
  pub call_changes : (P : List ℕ → Type 0) (a : ℕ) (s : State) (b : Slots) (cs : List ℕ) (ds : List Deed) (w : ℕ → Store → Wanted) (change : Deed → Store → Store) (changes : Deed → State → State) (slots : Deed → Slots)
      → ((d : Deed) → change d (store_in s b) ≡ store_in (changes d s) (slots d)) → ((d : Deed) → Fit (changes d s) (slots d))
      → slice_get code a ≡ Some (call w change passes_nothing) → P cs
      → Follows P 1 a (a + 1) (store_in s b) cs ds (calling (w event (store_in s b)) changes s ds)
  call_changes P a s b cs [] w change changes slots same fit at keeps = λ k some. waits k a (store_in s b) cs w change passes_nothing some at
  call_changes P a s b cs (d ∷ ds) w change changes slots same fit at keeps =
      let place : a + 1 + 0 ≡ a + 1 = omega arith in
      one_on P 0 a (a + 1) (a + 1) (store_in s b) (store_in (changes d s) (slots d)) cs cs (d ∷ ds) ds (Go (changes d s) ds)
      (λ k some.
      hears_answer k a (store_in s b) cs d ds w change passes_nothing some at
      ∙ ap (λ p. asked_from code event (k - 1) p (change d (store_in s b)) cs ds) place
      ∙ ap (λ m. asked_from code event (k - 1) (a + 1) m cs ds) (same d))
      (nothing_runs P (a + 1) (changes d s) (slots d) cs ds (fit d) keeps)

  -- a call whose answer changes variables alone
  pub call_runs : (P : List ℕ → Type 0) (a : ℕ) (s : State) (b : Slots) (cs : List ℕ) (ds : List Deed) (w : ℕ → Store → Wanted) (change : Deed → Store → Store) (changes : Deed → State → State)
      → ((d : Deed) → change d (store_in s b) ≡ store_in (changes d s) b) → ((d : Deed) → Fit (changes d s) b)
      → slice_get code a ≡ Some (call w change passes_nothing) → P cs
      → Follows P 1 a (a + 1) (store_in s b) cs ds (calling (w event (store_in s b)) changes s ds)
  call_runs P a s b cs ds w change changes same fit at keeps = call_changes P a s b cs ds w change changes (λ d. b) same fit at keeps

  after_ask : (P : List ℕ → Type 0) (a : ℕ) (s : State) (b : Slots) (cs : List ℕ) (d : Deed) (ds : List Deed) (q : ℕ) (ws : Store → List ℤ) (vs : List ℕ) (status : ℕ) (c : ℕ) → code_in d ≡ c
      → slice_get code a ≡ Some (call (λ event m. to_ask q (ws m)) (change_of (taken.Refusal status)) (passes_of (taken.Refusal status)))
      → slice_get code (a + 1) ≡ Some (call (λ event m. to_hear q) (change_of (taken.Words vs status)) passes_nothing) → Fit s b → P cs
      → Follows P 2 a (a + 2) (store_in s b) cs (d ∷ ds) (hears q vs status c s ds)
  after_ask P a s b cs d ds q ws vs status zero is ask hear fit keeps =
      let m = store_in s b in
      let place : a + 1 + 0 ≡ a + 1 = omega arith in
      let end : a + 1 + 1 ≡ a + 2 = omega arith in
      ends_at P 2 a (a + 1 + 1) (a + 2) m cs (d ∷ ds) (hears q vs status zero s ds) end
      (one_on P 1 a (a + 1) (a + 1 + 1) m m cs cs (d ∷ ds) ds (hears q vs status zero s ds)
      (λ k some.
      hears_answer k a m cs d ds (λ event m. to_ask q (ws m)) (change_of (taken.Refusal status)) (passes_of (taken.Refusal status)) some ask
      ∙ ap (λ c. asked_from code event (k - 1) (a + 1 + (if c == 0 then 0 else 1)) (refused status c m) cs ds) is
      ∙ ap (λ p. asked_from code event (k - 1) p m cs ds) place)
      (call_runs P (a + 1) s b cs ds (λ event m. to_hear q) (change_of (taken.Words vs status)) (takes_words vs status) (λ d. refl) (λ d. fit) hear keeps))
  after_ask P a s b cs d ds q ws vs status (suc c) is ask hear fit keeps =
      let m = store_in s b in
      let place : a + 1 + 1 ≡ a + 2 = omega arith in
      let t = put status (pos (suc c)) s in
      with_more P 1 2 a (a + 2) m cs (d ∷ ds) (Go t ds) (omega arith)
      (one_on P 0 a (a + 2) (a + 2) m (store_in t b) cs cs (d ∷ ds) ds (Go t ds)
      (λ k some.
      hears_answer k a m cs d ds (λ event m. to_ask q (ws m)) (change_of (taken.Refusal status)) (passes_of (taken.Refusal status)) some ask
      ∙ ap (λ c. asked_from code event (k - 1) (a + 1 + (if c == 0 then 0 else 1)) (refused status c m) cs ds) is
      ∙ ap (λ b'. asked_from code event (k - 1) (a + 1 + (if b' then 0 else 1)) (store_in t b) cs ds) (positive (suc c) (omega arith))
      ∙ ap (λ p. asked_from code event (k - 1) p (store_in t b) cs ds) place)
      (nothing_runs P (a + 2) t b cs ds fit keeps))

  pub ask_runs : (P : List ℕ → Type 0) (a : ℕ) (s : State) (b : Slots) (cs : List ℕ) (ds : List Deed) (q : ℕ) (ws : Store → List ℤ) (vs : List ℕ) (status : ℕ)
      → slice_get code a ≡ Some (call (λ event m. to_ask q (ws m)) (change_of (taken.Refusal status)) (passes_of (taken.Refusal status)))
      → slice_get code (a + 1) ≡ Some (call (λ event m. to_hear q) (change_of (taken.Words vs status)) passes_nothing) → Fit s b → P cs
      → Follows P 2 a (a + 2) (store_in s b) cs ds (asking_and_hearing q (ws (store_in s b)) vs status s ds)
  ask_runs P a s b cs [] q ws vs status ask hear fit keeps = λ k some. waits k a (store_in s b) cs (λ event m. to_ask q (ws m)) (change_of (taken.Refusal status)) (passes_of (taken.Refusal status)) (omega arith) ask
  ask_runs P a s b cs (d ∷ ds) q ws vs status ask hear fit keeps = after_ask P a s b cs d ds q ws vs status (code_in d) refl ask hear fit keeps

  -- a choice: the test, the first side with a jump past the second, and the second side
  pub choice_runs : (P : List ℕ → Type 0) (n n' a la lb : ℕ) (m : Store) (cs : List ℕ) (ds : List Deed) (c : ExprTree) (b : Bool) (first second : List Deed → Outcome)
      → int_eq (worth m.vars c) (pos 0) ≡ b
      → slice_get code a ≡ Some (unless c (la + 1)) → slice_get code (a + 1 + la) ≡ Some (skip lb)
      → Follows P n (a + 1) (a + 1 + la) m cs ds (first ds)
      → Follows P n' (a + 1 + la + 1) (a + 1 + la + 1 + lb) m cs ds (second ds)
      → Follows P (2 + (n + n')) a (a + 1 + la + 1 + lb) m cs ds ((if b then second else first) ds)
  choice_runs P n n' a la lb m cs ds c true first second test jump over f g =
      let place : a + 1 + (la + 1) ≡ a + 1 + la + 1 = omega arith in
      with_more P (1 + n') (2 + (n + n')) a (a + 1 + la + 1 + lb) m cs ds (second ds) (omega arith)
      (one_on P n' a (a + 1 + la + 1) (a + 1 + la + 1 + lb) m m cs cs ds ds (second ds)
      (λ k some. silent k a (a + 1 + la + 1) m m cs cs ds (unless c (la + 1)) some jump
      (ap (λ b. settled code (k - 1) (if b then a + 1 + (la + 1) else a + 1) m cs) test ∙ ap (λ p. settled code (k - 1) p m cs) place))
      g)
  choice_runs P n n' a la lb m cs ds c false first second test jump over f g =
      with_more P (1 + (n + 1)) (2 + (n + n')) a (a + 1 + la + 1 + lb) m cs ds (first ds) (omega arith)
      (one_on P (n + 1) a (a + 1) (a + 1 + la + 1 + lb) m m cs cs ds ds (first ds)
      (λ k some. silent k a (a + 1) m m cs cs ds (unless c (la + 1)) some jump
      (ap (λ b. settled code (k - 1) (if b then a + 1 + (la + 1) else a + 1) m cs) test))
      (then_one P P (λ us. us) n (a + 1) (a + 1 + la) (a + 1 + la + 1 + lb) m cs ds (first ds)
      (λ k t us es some keeps. silent k (a + 1 + la) (a + 1 + la + 1 + lb) t t us us es (skip lb) some over refl)
      (λ us keeps. keeps) f))

  -- ---- loops

  -- the counter, of a loop within so many others, and that nothing outside of the loop was changed
  record Counts (d : ℕ) (cs : List ℕ) (turns : ℕ) (us : List ℕ) : Type 0 where
    kept : Keeps d cs us
    counted : get_or us d 0 ≡ turns

  -- turns of a loop, from the first instruction of the body on
  pub turns_run : (d inner nb b lb : ℕ) (r : Running)
      → ((s : State) (c : Slots) (cs : List ℕ) (ds : List Deed) → Fit s c → d + 1 + inner ≤ length cs → Follows (Keeps (d + 1) cs) nb b (b + lb) (store_in s c) cs ds (r s ds))
      → slice_get code (b + lb) ≡ Some (end_loop d lb)
      → (turns : ℕ) (s : State) (c : Slots) (cs : List ℕ) (ds : List Deed) → Fit s c → d + 1 + inner ≤ length cs → get_or cs d 0 ≡ suc turns
      → Follows (Keeps d cs) (suc turns * (nb + 1)) b (b + lb + 1) (store_in s c) cs ds (times (suc turns) r s ds)
  turns_run d inner nb b lb r body at zero s c cs ds fit room counted =
      let m = store_in s c in
      let once : Follows (Keeps d cs) (nb + 1) b (b + lb + 1) m cs ds (r s ds) =
      then_one (Keeps (d + 1) cs) (Keeps d cs) (λ us. us) nb b (b + lb) (b + lb + 1) m cs ds (r s ds)
      (λ k t us es some keeps. silent k (b + lb) (b + lb + 1) t t us us es (end_loop d lb) some at
      (ap (λ x. turned x (settled code (k - 1)) (b + lb) t us d lb) (keeps.same d (omega arith) ∙ counted)))
      (λ us keeps. Keeps-further d (d + 1) cs cs us (omega arith) (Keeps-itself d cs) keeps)
      (body s c cs ds fit room) in
      with_more (Keeps d cs) (nb + 1 + 0) (1 * (nb + 1)) b (b + lb + 1) m cs ds (times 1 r s ds) (omega arith)
      (joined (Keeps d cs) (Keeps d cs) (nb + 1) 0 b (b + lb + 1) (b + lb + 1) m cs ds (r s ds) nothing once
      (λ t e es us fits keeps. nothing_runs (Keeps d cs) (b + lb + 1) t e us es fits keeps))
  turns_run d inner nb b lb r body at (suc turns) s c cs ds fit room counted =
      let m = store_in s c in
      let back : b + lb - lb ≡ b = omega arith in
      let once : Follows (Counts d cs (suc turns)) (nb + 1) b b m cs ds (r s ds) =
      then_one (Keeps (d + 1) cs) (Counts d cs (suc turns)) (λ us. set us d (suc turns)) nb b (b + lb) b m cs ds (r s ds)
      (λ k t us es some keeps. silent k (b + lb) b t t us (set us d (suc turns)) es (end_loop d lb) some at
      (ap (λ x. turned x (settled code (k - 1)) (b + lb) t us d lb) (keeps.same d (omega arith) ∙ counted)
      ∙ ap (λ p. settled code (k - 1) p t (set us d (suc turns))) back))
      (λ us keeps.
      let long = keeps.long in
      let within : d < length us = omega arith in
      record {
        kept = Keeps-set d d (suc turns) cs us (omega arith) (Keeps-further d (d + 1) cs cs us (omega arith) (Keeps-itself d cs) keeps);
        counted = get_or-set_same us d (suc turns) 0 within;
      })
      (body s c cs ds fit room) in
      with_more (Keeps d cs) (nb + 1 + suc turns * (nb + 1)) (suc (suc turns) * (nb + 1)) b (b + lb + 1) m cs ds (times (suc (suc turns)) r s ds) (omega arith)
      (joined (Counts d cs (suc turns)) (Keeps d cs) (nb + 1) (suc turns * (nb + 1)) b b (b + lb + 1) m cs ds (r s ds) (times (suc turns) r) once
      (λ t e es us fits counts.
      let long = counts.kept.long in
      keeping (Keeps d us) (Keeps d cs) (suc turns * (nb + 1)) b (b + lb + 1) (store_in t e) us es (times (suc turns) r t es)
      (λ ws more. Keeps-further d d cs us ws (omega arith) counts.kept more)
      (turns_run d inner nb b lb r body at turns t e us es fits (omega arith) counts.counted)))

  pub loop_runs : (d inner nb a lb turns : ℕ) (r : Running) (s : State) (c : Slots) (cs : List ℕ) (ds : List Deed)
      → ((s : State) (c : Slots) (cs : List ℕ) (ds : List Deed) → Fit s c → d + 1 + inner ≤ length cs → Follows (Keeps (d + 1) cs) nb (a + 1) (a + 1 + lb) (store_in s c) cs ds (r s ds))
      → slice_get code a ≡ Some (begin_loop d turns (lb + 1)) → slice_get code (a + 1 + lb) ≡ Some (end_loop d lb)
      → Fit s c → d + 1 + inner ≤ length cs
      → Follows (Keeps d cs) (1 + turns * (nb + 1)) a (a + 1 + lb + 1) (store_in s c) cs ds (times turns r s ds)
  loop_runs d inner nb a lb zero r s c cs ds body begins ends fit room =
      let m = store_in s c in
      let place : a + 1 + (lb + 1) ≡ a + 1 + lb + 1 = omega arith in
      with_more (Keeps d cs) (1 + 0) (1 + 0 * (nb + 1)) a (a + 1 + lb + 1) m cs ds (Go s ds) (omega arith)
      (one_on (Keeps d cs) 0 a (a + 1 + lb + 1) (a + 1 + lb + 1) m m cs cs ds ds (Go s ds)
      (λ k some. silent k a (a + 1 + lb + 1) m m cs cs ds (begin_loop d zero (lb + 1)) some begins (ap (λ p. settled code (k - 1) p m cs) place))
      (nothing_runs (Keeps d cs) (a + 1 + lb + 1) s c cs ds fit (Keeps-itself d cs)))
  loop_runs d inner nb a lb (suc turns) r s c cs ds body begins ends fit room =
      let m = store_in s c in
      let us = set cs d (suc turns) in
      let within : d < length cs = omega arith in
      let long : length us ≡ length cs = length-set cs d (suc turns) in
      one_on (Keeps d cs) (suc turns * (nb + 1)) a (a + 1) (a + 1 + lb + 1) m m cs us ds ds (times (suc turns) r s ds)
      (λ k some. silent k a (a + 1) m m cs us ds (begin_loop d (suc turns) (lb + 1)) some begins refl)
      (keeping (Keeps d us) (Keeps d cs) (suc turns * (nb + 1)) (a + 1) (a + 1 + lb + 1) m us ds (times (suc turns) r s ds)
      (λ ws more. Keeps-further d d cs us ws (omega arith) (Keeps-set d d (suc turns) cs cs (omega arith) (Keeps-itself d cs)) more)
      (turns_run d inner nb (a + 1) lb r body ends turns s c us ds fit (omega arith) (get_or-set_same cs d (suc turns) 0 within)))
