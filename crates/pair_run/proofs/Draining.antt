-- A link is drained: values pass until none is held.
use Rattle.std.proofs.Common.{◌≡◌, ◌≢◌, ◌<◌, ℕ, suc, ◌+◌, true, List, ◌++◌, Option, Some, None, sym, ap, ◌∙◌, subst, arith}
use Rattle.bus_semantics.specs.Common.{slice_get, same_Some, Value, words_of, Plan, plan_of, to_receive, to_send}
use Rattle.rte_text.specs.declared.sink.Put.{Put}
use Rattle.rte_text.specs.declared.sink.Put.TheVariants as putting
use Rattle.bus_semantics.specs.declared.entries.Entry.{Entry}
use Rattle.pair_run.specs.Common.{takes, PairRun, Finished, Failed, Then, Takes, Sends, Passes, Passed, FindsNone, Drains, held_in, one, two, side_of, CarryBoth, Stand, Writes}
use Rattle.core_runtime.specs.Nodes.{NodeState}
use Rattle.script_run.specs.declared.writing.Writing.{Writing}
use Rattle.script_run.specs.Standing.{Calls, outside}
use Rattle.signal_link.specs.declared.link_elem.LinkElem.{LinkElem}
use Rattle.signal_link.specs.declared.carrying.Arrived.{Arrived}
use Rattle.signal_link.specs.Carrying.{IsCarried}
use Rattle.signal_link.specs.Unframing.{Kept}
use Rattle.pair_run.proofs.Carrying.{legal_now, then_cut, then_goes, widened}
use Rattle.pair_run.proofs.Completing.{none_may}
use Rattle.pair_run.proofs.Receiving.{drains_more, drains_on, few_pass, none_carries, receive_cut, send_carries, send_cut, take_carries, taken_is_within}

module _ (w : Writing) (is : Writes one w) (l : LinkElem) (i : ℕ) (a b c x y : NodeState) (before between now : Option (List ℕ)) (e : Entry)
    (so_far : CarryBoth (Passed l i) Finished a b x y before between) where
  behind : (answer : PairRun) (d z : NodeState) (later : Option (List ℕ)) → CarryBoth (Drains l) answer b d y z between later → CarryBoth (Drains l) answer a d x z before later
  behind answer d z later f =
      widened (Then (Passed l i) (Drains l)) (Drains l) answer a d x z before later (drains_on l i) (then_goes (Passed l i) (Drains l) answer a b d x y z before between later so_far f)

  module _ (put : Put) (calls : Calls w put (to_receive l.out_elem) e b c between now) where
    done : put ≡ putting.Done → Calls w putting.Done (to_receive l.out_elem) e b c between now
    done same = subst (λ (r : Put). Calls w r (to_receive l.out_elem) e b c between now) same calls

    -- the line of a Receive was not put
    pub receive_failed : put ≡ putting.Failed → CarryBoth (Drains l) Failed a c x y before now
    receive_failed same = behind Failed c y now (receive_cut w is l e b c y between now (subst (λ (r : Put). Calls w r (to_receive l.out_elem) e b c between now) same calls))

    -- none was held
    pub none_was_held : put ≡ putting.Done → held_in e.deed ≡ None → CarryBoth (Drains l) Finished a c x y before now
    none_was_held same held = behind Finished c y now (none_carries w is l e b c y between now (done same) held)

    module _ (same : put ≡ putting.Done) (v : Value) (held : held_in e.deed ≡ Some v) (z : NodeState) (later : Option (List ℕ)) where
      passes_on : (answer : PairRun) → CarryBoth (Sends l v) answer c c y z now later → CarryBoth (Passes l) answer b c y z between later
      passes_on answer f =
          widened (Then (Takes l v) (Sends l v)) (Passes l) answer b c y z between later (λ j t. (v, t))
          (then_goes (Takes l v) (Sends l v) answer b c c y y z between now later (take_carries w is l e b c y between now v (done same) held) f)

      -- the value passed
      pub one_passed : CarryBoth (Sends l v) Finished c c y z now later → CarryBoth (Passed l (i + 1)) Finished a c x z before later
      one_passed f =
          let next : suc i ≡ i + 1 = omega arith in
          subst (λ (n : ℕ). CarryBoth (Passed l n) Finished a c x z before later) next
          (then_goes (Passed l i) (Passes l) Finished a b c x y z before between later so_far (passes_on Finished f))

      -- it was cut off on its way
      pub pass_stopped : (answer : PairRun) → answer ≢ Finished → CarryBoth (Sends l v) answer c c y z now later → CarryBoth (Drains l) answer a c x z before later
      pass_stopped answer cut f =
          behind answer c z later
          (widened (Then (Passes l) (FindsNone l)) (Drains l) answer b c y z between later (drains_more l)
          (then_cut (Passes l) (FindsNone l) answer b c c y z z between later cut (none_may l) (passes_on answer f)))

-- the value that was taken is one of the element
pub value_taken : (w : Writing) → Writes one w → (l : LinkElem) (b c y : NodeState) (between now : Option (List ℕ)) (e : Entry) (put : Put) (v : Value) → Stand b y
    → Calls w put (to_receive l.out_elem) e b c between now → held_in e.deed ≡ Some v → takes (plan_of b.plan) l.out_elem (words_of v) ≡ true
value_taken w is l b c y between now e put v s calls held =
    subst (λ (p : Plan). takes p l.out_elem (words_of v) ≡ true) (sym s.stand.on_one.1.plan)
    (taken_is_within w is l e b c y between now s.p s.m s.q s.n s.joint put v calls s.stand held)

-- a queue does not give so many values
pub too_many : (l : LinkElem) (k : ℕ) (a b x y : NodeState) (before now : Option (List ℕ)) → 1024 < k → CarryBoth (Passed l k) Finished a b x y before now → CarryBoth (Drains l) Finished a b x y before now
too_many l k a b x y before now many f p m q n j stands =
    let d = f p m q n j stands in
    let legal = legal_now p m d.stand.on_one.0 outside b (side_of one (d.items ++ j)) d.stand.on_one.1 in
    let few = few_pass p l j m k d.items stands.sound_one d.is legal in
    absurd (omega (arith, few, many))

-- ---- a value is sent

module _ (w : Writing) (is : Writes two w) (number : ℕ) (v : Value) (a b other : NodeState) (before now : Option (List ℕ)) (e : Entry) (put : Put) (old new : Kept) (arrived : Arrived) (way : List ℕ)
    (carried : IsCarried number (words_of v) arrived way old new) (k : LinkElem) (found : slice_get new.links arrived.link ≡ Some k) where
  pub link_is : slice_get old.links number ≡ Some k
  link_is =
      sym (ap (λ (u : Kept). slice_get u.links number) carried.kept) ∙ sym (ap (slice_get new.links) carried.link) ∙ found

  pub sent_whole : (l : LinkElem) → slice_get old.links number ≡ Some l → Calls w put (to_send k.in_elem (words_of arrived.value)) e a b before now → put ≡ putting.Done
      → CarryBoth (Sends l v) Finished other other a b before now
  sent_whole l at calls done =
      subst (λ (m : LinkElem). CarryBoth (Sends m v) Finished other other a b before now) (same_Some k l (sym link_is ∙ at))
      (send_carries w is k v (words_of arrived.value) carried.words e a b other before now (subst (λ (r : Put). Calls w r (to_send k.in_elem (words_of arrived.value)) e a b before now) done calls))

  pub sent_cut : (l : LinkElem) → slice_get old.links number ≡ Some l → Calls w put (to_send k.in_elem (words_of arrived.value)) e a b before now → put ≡ putting.Failed
      → CarryBoth (Sends l v) Failed other other a b before now
  sent_cut l at calls failed =
      subst (λ (m : LinkElem). CarryBoth (Sends m v) Failed other other a b before now) (same_Some k l (sym link_is ∙ at))
      (send_cut w is k v (words_of arrived.value) carried.words e a b other before now (subst (λ (r : Put). Calls w r (to_send k.in_elem (words_of arrived.value)) e a b before now) failed calls))
