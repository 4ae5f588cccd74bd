use Rattle.std.proofs.Common.{◌≡◌, ◌<◌, ◌≤◌, ◌+◌, ℕ, suc, refl, sym, ◌∙◌, ap, subst, length, get_or, map, set, true, false, inl, arith, Vec}
use Rattle.std.specs.Global.{Global}
use Rattle.std.specs.List.{count_by, slice_get}
use Rattle.std.specs.Option.{option_map, unwrap_or}
use Rattle.std.specs.Vec.{vec_capacity}
use Rattle.std.proofs.lemmas.List.Sums.{count_by-le-length}
use Rattle.std.proofs.lemmas.Option.{slice_get-get_or}
use Rattle.latches.specs.Latches.{Latch, after_set, clear_in, is_clear, set_in}
use Rattle.latches.proofs.Newly.{newly_next, stays_next}
use Rattle.latches.proofs.Told.{Stays}
use Rattle.queued_ports.specs.declared.queues.Queues.TheInside.{Inside}
use Rattle.queued_ports.specs.Kept.{Kept, after_arrival, after_send, empty_queue, has_room, takes}
use Rattle.queued_ports.proofs.Arriving.{takes_as}
use Rattle.queued_ports.proofs.Sending.{IsOnly, Tells, after_some, all_got, all_lit, all_told, answer_lost, answer_so_far, answer_taken, lit_by, next_as, next_got, next_lit, next_stays}
use Rattle.queued_ports.proofs.Sending.{none_lit, only_told, same_events, shown, tells_next}
use Rattle.queued_ports.proofs.queues.Queues.send.Goals as goal
use Rattle.queued_ports.proofs.queues.Queues.send.Goals.{then-arrive, else-arrive}

pub loop-receiver-init : goal.loop-receiver-init
loop-receiver-init c = record {
  words = refl;
  queues = refl;
  lit = none_lit c.self.inside.lanes.queues c.self.inside.due;
  code = refl;
  tells = λ at name l is clear named. inl is;
  stays = λ at l is clear. is;
  only = λ name among. inl among;
  room = omega (arith, ap length c.clear.ensures.items, count_by-le-length is_clear c.self.inside.due);
  capacity = refl;
}

pub loop-receiver-preserved : goal.loop-receiver-preserved
loop-receiver-preserved c =
    let v = c.args.value.now in
    let queues = c.self.inside.lanes.queues in
    let due = c.self.inside.due in
    let at = c.loop-receiver.receiver in
    let before = c.loop-receiver.invariant in
    let next : suc at ≡ at + 1 = omega arith in
    let within : at < length queues = omega (arith, c.loop-receiver-test.true, c.len-receiver-end.ensures) in
    let q = get_or queues at (empty_queue 0) in
    let found = slice_get-get_or queues at (empty_queue 0) within in
    let as_before = ap (λ qs. slice_get qs at) before.queues ∙ next_as at v queues in
    let answer = sym (ap (λ o. unwrap_or (option_map has_room o) false) as_before) ∙ sym c.arrive.ensures.answer in
    let arrived = c.arrive.ensures.queues q (as_before ∙ found) ∙ ap (λ qs. set qs at (after_arrival v q)) before.queues ∙ next_got at v queues q found ∙ ap (λ n. after_some n v queues) next in
    let words = c.arrive.ensures.words ∙ before.words in
    elim c.if-arrive.branch [
      | then-arrive w ↦
          let took : takes queues at ≡ true = answer ∙ w.if-arrive.true in
          let told = w.set_and_tell in
          let tells = tells_next c.args.names.now due c.loop-receiver.self-inside.due told.new.self c.loop-receiver.woken.items told.new.told.items at told.ensures.set told.ensures.told told.ensures.kept before.tells in
          record {
            words = ap (λ (s : Inside). s.lanes.words) w.self-inside-is ∙ words;
            queues = ap (λ (s : Inside). s.lanes.queues) w.self-inside-is ∙ arrived;
            lit = ap (λ (s : Inside). s.due) w.self-inside-is ∙ told.ensures.set ∙ ap (map (after_set at)) before.lit ∙ next_lit queues at took due ∙ ap (λ n. map (lit_by queues n) due) next;
            code = w.code-is ∙ before.code ∙ answer_taken queues at q found (sym (takes_as queues at q found) ∙ took) ∙ ap (λ n. answer_so_far n queues) next;
            tells = subst (λ (s : Inside). Tells c.args.names.now due s.due c.if-arrive.woken.items) (sym w.self-inside-is) (subst (λ (t : Vec ℕ Global). Tells c.args.names.now due told.new.self t.items) (sym w.woken-is) tells);
            stays = subst (λ (s : Inside). Stays due s.due) (sym w.self-inside-is) (stays_next due c.loop-receiver.self-inside.due told.new.self at told.ensures.set before.stays);
            only = subst (λ (s : Inside). IsOnly c.args.names.now due s.due c.clear.new.self.items c.if-arrive.woken.items) (sym w.self-inside-is)
                (subst (λ (t : Vec ℕ Global). IsOnly c.args.names.now due told.new.self c.clear.new.self.items t.items) (sym w.woken-is)
                (newly_next due c.loop-receiver.self-inside.due told.new.self at told.ensures.set c.args.names.now c.clear.new.self.items c.loop-receiver.woken.items told.new.told.items before.stays before.only told.ensures.only));
            room = omega (arith, told.ensures.room, before.room, ap (λ (t : Vec ℕ Global). length t.items) w.woken-is, ap (λ (s : Inside). count_by is_clear s.due) w.self-inside-is);
            capacity = ap (λ (t : Vec ℕ Global). vec_capacity t) w.woken-is ∙ told.ensures.capacity ∙ before.capacity;
          }
      | else-arrive w ↦
          let refused : takes queues at ≡ false = answer ∙ w.if-arrive.false in
          record {
            words = ap (λ (s : Inside). s.lanes.words) w.self-inside-is ∙ words;
            queues = ap (λ (s : Inside). s.lanes.queues) w.self-inside-is ∙ arrived;
            lit = ap (λ (s : Inside). s.due) w.self-inside-is ∙ before.lit ∙ next_stays queues at refused due ∙ ap (λ n. map (lit_by queues n) due) next;
            code = w.code-is ∙ answer_lost queues at q found (sym (takes_as queues at q found) ∙ refused) ∙ ap (λ n. answer_so_far n queues) next;
            tells = subst (λ (s : Inside). Tells c.args.names.now due s.due c.if-arrive.woken.items) (sym w.self-inside-is) (subst (λ (t : Vec ℕ Global). Tells c.args.names.now due c.loop-receiver.self-inside.due t.items) (sym w.woken-is) before.tells);
            stays = subst (λ (s : Inside). Stays due s.due) (sym w.self-inside-is) before.stays;
            only = subst (λ (s : Inside). IsOnly c.args.names.now due s.due c.clear.new.self.items c.if-arrive.woken.items) (sym w.self-inside-is)
                (subst (λ (t : Vec ℕ Global). IsOnly c.args.names.now due c.loop-receiver.self-inside.due c.clear.new.self.items t.items) (sym w.woken-is) before.only);
            room = omega (arith, before.room, ap (λ (t : Vec ℕ Global). length t.items) w.woken-is, ap (λ (s : Inside). count_by is_clear s.due) w.self-inside-is);
            capacity = ap (λ (t : Vec ℕ Global). vec_capacity t) w.woken-is ∙ before.capacity;
          }
    ]

pub returns-clause-kept : goal.returns-clause-kept
returns-clause-kept c =
    let v = c.args.value.now in
    let queues = c.self.inside.lanes.queues in
    let due = c.self.inside.due in
    let at = c.loop-receiver.receiver in
    let before = c.loop-receiver.invariant in
    let lanes = c.self.inside.lanes in
    let past : length queues ≤ at = omega (arith, c.loop-receiver-test.false, c.len-receiver-end.ensures) in
    let all_queues = before.queues ∙ all_got at v queues past in
    let events = ap (map (λ (l : Latch). l.group)) before.lit ∙ same_events queues at due in
    let flags = ap (map (λ (l : Latch). l.is_set)) before.lit ∙ all_lit queues at due past in
    let now = c.loop-receiver.self-inside in
    let made : record { words = now.lanes.words; queues = now.lanes.queues; events = map (λ (l : Latch). l.group) now.due; due = map (λ (l : Latch). l.is_set) now.due }
    ≡ after_send v (record { words = lanes.words; queues = queues; events = map (λ (l : Latch). l.group) due; due = map (λ (l : Latch). l.is_set) due })
    = λ i. record { words = before.words i; queues = all_queues i; events = events i; due = flags i } in
    made ∙ ap (after_send v) c.self.view_is

pub returns-clause-woken : goal.returns-clause-woken
returns-clause-woken c = λ event name was now named.
    all_told c.args.names.now c.self.inside.due c.loop-receiver.self-inside.due c.loop-receiver.woken.items c.loop-receiver.invariant.tells event name
    (ap (λ (k : Kept). slice_get k.due event) c.self.view_is ∙ was) now named

pub returns-clause-only : goal.returns-clause-only
returns-clause-only c = λ name among.
    let now = only_told c.args.names.now c.self.inside.due c.loop-receiver.self-inside.due c.clear.new.self.items c.loop-receiver.woken.items c.clear.ensures.items c.loop-receiver.invariant.only name among in
    record { event = now.at; named = now.named; was = ap (λ (k : Kept). slice_get k.due now.at) (sym c.self.view_is) ∙ shown c.self.inside.due now.at (clear_in now.group) now.was; is = shown c.loop-receiver.self-inside.due now.at (set_in now.group) now.is }
