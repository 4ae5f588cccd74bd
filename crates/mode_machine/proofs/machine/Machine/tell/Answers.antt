use Rattle.std.proofs.Common.{◌<◌, ◌∙◌, inl, inr, ap, sym, arith, length, false}
use Rattle.std.specs.List.{slice_index_or}
use Rattle.std.proofs.lemmas.Option.{slice_get_within}
use Rattle.mode_machine.specs.Kept.{Kept}
use Rattle.mode_machine.proofs.Told.{acknowledged, is_startable, none_acknowledged, startable}
use Rattle.mode_machine.proofs.machine.Machine.tell.Goals as goal

pub returns-then-acknowledges-clause-owed : goal.returns-then-acknowledges-clause-owed
returns-then-acknowledges-clause-owed c = λ event name was is named.
    let k = c.args.self.now in
    let owed_is = ap (λ (k : Kept). k.owed) c.self.view_is in
    let settled_is = ap (λ (k : Kept). k.settled) c.self.view_is in
    let there = slice_get_within c.args.names.now event name named in
    let within : event < length k.owed = omega (arith, there, c.requires.named) in
    c.tell_acks.ensures.kept name (c.tell.ensures.told event name (is_startable k c.args.step c.self.inside.owed.events c.self.inside.settled c.next_after-next.result owed_is settled_is c.next_after-next.ensures event within was is) named)

pub returns-then-acknowledges-clause-acks : goal.returns-then-acknowledges-clause-acks
returns-then-acknowledges-clause-acks c = λ event name was is named.
    let acks_is = c.deref.ensures.value ∙ ap (λ (k : Kept). k.acks) c.self.view_is in
    c.tell_acks.ensures.told event name (ap (λ xs. slice_index_or xs event false) acks_is ∙ was) named

pub returns-then-acknowledges-clause-only : goal.returns-then-acknowledges-clause-only
returns-then-acknowledges-clause-only c = λ name among.
    let k = c.args.self.now in
    let owed_is = ap (λ (k : Kept). k.owed) c.self.view_is in
    let settled_is = ap (λ (k : Kept). k.settled) c.self.view_is in
    let acks_is = c.deref.ensures.value ∙ ap (λ (k : Kept). k.acks) c.self.view_is in
    let on = sym c.acknowledges.ensures ∙ c.if-acknowledges.true in
    elim (c.tell_acks.ensures.only name among) [
      | inl earlier ↦ elim (c.tell.ensures.only name earlier) [
        | inl first ↦ inl first
        | inr named ↦ inr (inl (startable k c.args.step c.self.inside.owed.events c.self.inside.settled c.next_after-next.result owed_is settled_is c.next_after-next.ensures c.args.names.now name c.requires.named named))
      ]
      | inr named ↦ inr (inr (acknowledged k c.args.step on c.deref.result.now acks_is c.args.ack_names.now name c.requires.acks_named named))
    ]

pub returns-else-acknowledges-clause-owed : goal.returns-else-acknowledges-clause-owed
returns-else-acknowledges-clause-owed c = λ event name was is named.
    let k = c.args.self.now in
    let owed_is = ap (λ (k : Kept). k.owed) c.self.view_is in
    let settled_is = ap (λ (k : Kept). k.settled) c.self.view_is in
    let there = slice_get_within c.args.names.now event name named in
    let within : event < length k.owed = omega (arith, there, c.requires.named) in
    c.tell.ensures.told event name (is_startable k c.args.step c.self.inside.owed.events c.self.inside.settled c.next_after-next.result owed_is settled_is c.next_after-next.ensures event within was is) named

pub returns-else-acknowledges-clause-acks : goal.returns-else-acknowledges-clause-acks
returns-else-acknowledges-clause-acks c = λ event name was is named. none_acknowledged c.args.self.now c.args.step (sym c.acknowledges.ensures ∙ c.if-acknowledges.false) event was is

pub returns-else-acknowledges-clause-only : goal.returns-else-acknowledges-clause-only
returns-else-acknowledges-clause-only c = λ name among.
    let owed_is = ap (λ (k : Kept). k.owed) c.self.view_is in
    let settled_is = ap (λ (k : Kept). k.settled) c.self.view_is in
    elim (c.tell.ensures.only name among) [
      | inl first ↦ inl first
      | inr named ↦
          inr (inl (startable c.args.self.now c.args.step c.self.inside.owed.events c.self.inside.settled c.next_after-next.result owed_is settled_is c.next_after-next.ensures c.args.names.now name c.requires.named named))
    ]
