-- The next call of an activation, as its frame has it; and the keys of what runs in a task.
use Rattle.std.proofs.Common.{◌≡◌, ℕ, Bool, true, false, refl, sym, ◌∙◌, ap, subst, List, [], ◌∷◌, map, Some}
use Rattle.bus_semantics.specs.Common.{ActKey, same_key, Plan, Wanted, Try, option_list}
use Rattle.bus_laws.specs.Common.{Act, Deed}
use Rattle.bus_semantics.specs.declared.entries.Deed.TheVariants as deed
use Rattle.port_objects.specs.Benches.{Told}
use Rattle.task_machine.specs.declared.instr.TaskSet.{TaskSet}
use Rattle.task_machine.specs.Standing.{Standing}
use Rattle.task_machine.specs.Frames.{asks, Stands, code_of}
use Rattle.task_machine.specs.Machine.{wanted_at}
use Rattle.task_generator.specs.Promise.{AsksAsPlanned}
use Rattle.task_slots.specs.Common.{Look, Call, is_key_of, IsBegun, IsRunning, IsCalled, Looked}
use Rattle.task_slots.specs.Slots.{home_by, starts_at, asked_by, next_tries}
use Rattle.task_slots.proofs.Basics.{key_same}
use Rattle.task_slots.proofs.Facts.{direct_at, call_is}

-- what a frame asks is what its activation asks
pub asked_asks : (t : TaskSet) (k : ActKey) (start : Deed) (answers : List Deed) (f : Standing) → Stands t k start answers f → asked_by t f ≡ asks t k start answers
asked_asks t k start answers f stands = λ i. wanted_at (code_of t (stands.key i).runnable) (stands.event i) (stands.at i)

module _ (p : Plan) (t : TaskSet) (bodies : AsksAsPlanned p t) (f : Standing) (k : ActKey) (b : IsBegun p t f k) where
  pub asked_is : asked_by t f ≡ Some b.wish
  asked_is =
      asked_asks t k (deed.Start b.event b.point b.value) b.answers f b.stands
      ∙ bodies k b.runnable b.event b.point b.value b.answers b.asks.there
      ∙ b.asks.next

  pub asks_is : asks t k (deed.Start b.event b.point b.value) b.answers ≡ Some b.wish
  asks_is = sym (asked_asks t k (deed.Start b.event b.point b.value) b.answers f b.stands) ∙ asked_is

-- looks at the next call are looks at all that the frame tries
pub looked_next : (p : Plan) (t : TaskSet) (ts : List Try) (count : ℕ) (f : Standing) (k : ActKey) (w : Wanted) (n : ℕ) (old new : Told) (l : Look) → ts ≡ next_tries t k f → count ≡ 1 → asked_by t f ≡ Some w → n ≡ 1
    → Looked p ((Act k, w) ∷ []) n old new l → Looked p ts count old new l
looked_next p t ts count f k w n old new l tries one asked once looked =
    let all : ts ≡ (Act k, w) ∷ [] = tries ∙ ap (λ o. map (λ w. (Act k, w)) (option_list o)) asked in
    subst (λ n. Looked p ts n old new l) (once ∙ sym one) (subst (λ us. Looked p us n old new l) (sym all) looked)

-- ---- keys

-- the direct activation is one of its caller's task
pub direct_own : (p : Plan) (t : TaskSet) (events : List ℕ) (f : Standing) (c : Call) → IsRunning p t events f c.caller → IsCalled p c → is_key_of p events c.direct ≡ true
direct_own p t events f c r called =
    let at = direct_at p called.point c.direct (call_is p c.caller called.point c called.is).key in
    ap (λ o. starts_at p (home_by p c.direct.runnable o) events) at.point
    ∙ ap (λ h. starts_at p h events) called.calls
    ∙ sym (ap (λ o. starts_at p (home_by p c.caller.runnable o) events) r.plain) ∙ r.own

-- and not the caller's
pub direct_apart : (p : Plan) (t : TaskSet) (events : List ℕ) (f : Standing) (c : Call) → IsRunning p t events f c.caller → IsCalled p c → same_key c.caller c.direct ≡ false
direct_apart p t events f c r called = by_test (same_key c.caller c.direct) refl
  where
    by_test : (b : Bool) → same_key c.caller c.direct ≡ b → b ≡ false
    by_test false is = refl
    by_test true is =
        let at = direct_at p called.point c.direct (call_is p c.caller called.point c called.is).key in
        let same = key_same c.caller c.direct is in
        absurd (cc (sym r.plain ∙ ap (λ (k : ActKey). k.point) same ∙ at.point))
