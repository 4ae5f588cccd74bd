use Rattle.std.proofs.Common.{ℕ, length, Some, None, arith, subst}
use Rattle.place_set.specs.Bits.{IsFirstBit}
use Rattle.place_set.specs.Places.{IsNext}
use Rattle.place_set.proofs.Flags.{first_flag, no_flag}
use Rattle.place_set.proofs.set.PlaceSet.next.Goals.{in-Some, in_default-2, in_default}
use Rattle.place_set.proofs.set.PlaceSet.next.Goals as goal

pub returns-clause-next : goal.returns-clause-next
returns-clause-next c =
    let words = c.self.inside.words.items in
    let len : ℕ = c.self.inside.len in
    let from : ℕ = c.args.from in
    subst (λ flags. IsNext flags from (length flags) c.match-next_bit.result) c.self.view_is
    (elim c.match-next_bit.branch [
      | in-Some w ↦
          let first = subst (λ ws. IsFirstBit ws from (Some w.in-Some.at)) c.deref.ensures.value w.in-Some.ensures in
          rw w.result-is (first_flag words len from w.in-Some.at w.if-at-self.true first)
      | in_default-2 w ↦
          let past = w.if-at-self.false in
          let first = subst (λ ws. IsFirstBit ws from (Some w.in-Some.at)) c.deref.ensures.value w.in-Some.ensures in
          rw w.result-is (no_flag words len from (λ place after before. first.2 place after (omega arith)))
      | in_default w ↦
          let none = subst (λ ws. IsFirstBit ws from None) c.deref.ensures.value w.in_default.ensures in
          rw w.result-is (no_flag words len from (λ place after before. none place after))
    ])
