use Rattle.std.proofs.Common.{◌≡◌, ◌<◌, true, length, get_or, set, arith, ap, ◌∙◌}
use Rattle.place_set.specs.Bits.{bit_of, flags_of}
use Rattle.place_set.proofs.Words.{set_in}
use Rattle.place_set.proofs.Flags.{length_of, changed}
use Rattle.place_set.proofs.Refill.{refilled}
use Rattle.place_set.proofs.set.PlaceSet.insert.Goals as goal

pub set_bit-requires : goal.set_bit-requires
set_bit-requires c =
    let within : c.args.place < c.self.inside.len = omega (arith, c.requires, length_of c.self.inside.words.items c.self.inside.len, ap length c.self.view_is) in
    let count = c.self.invariant.count in
    omega (arith, ap length c.deref_mut.ensures.value)

pub set_bit-requires-2 : goal.set_bit-requires-2
set_bit-requires-2 c =
    let within : c.args.place < c.self.inside.len = omega (arith, c.requires, length_of c.self.inside.words.items c.self.inside.len, ap length c.self.view_is) in
    let count = c.self.invariant.count in
    let marks = c.self.invariant.marks in
    omega (arith, ap length c.deref_mut-2.ensures.value)

pub invariant_of-self : goal.invariant_of-self
invariant_of-self c =
    let old = c.self.inside.words.items in
    let summary = c.self.inside.summary.items in
    let is = c.deref_mut.ensures.value in
    let is2 = c.deref_mut-2.ensures.value in
    let count : length c.set_bit.new.words ≡ length old = c.set_bit.ensures.count ∙ ap length is in
    let marks : length c.set_bit-2.new.words ≡ length summary = c.set_bit-2.ensures.count ∙ ap length is2 in
    rw (refilled c.self.inside.words.len old c.set_bit.new.words (omega (arith, c.self.inside.words.ok.0)), refilled c.self.inside.summary.len summary c.set_bit-2.new.words (omega (arith, c.self.inside.summary.ok.0)))
    (set_in c.self.inside.len old c.set_bit.new.words summary c.set_bit-2.new.words c.args.place c.self.invariant count marks
    c.set_bit.ensures.set (λ word apart. c.set_bit.ensures.words word apart ∙ ap (λ ws. get_or ws word 0) is)
    c.set_bit-2.ensures.set (λ other apart. c.set_bit-2.ensures.bits other apart ∙ ap (λ ws. bit_of ws other) is2))

pub returns : goal.returns
returns c =
    let old = c.self.inside.words.items in
    let is = c.deref_mut.ensures.value in
    let within : c.args.place < c.self.inside.len = omega (arith, c.requires, length_of old c.self.inside.len, ap length c.self.view_is) in
    let count : length c.set_bit.new.words ≡ length old = c.set_bit.ensures.count ∙ ap length is in
    ap (λ ws. flags_of ws c.self.inside.len) (refilled c.self.inside.words.len old c.set_bit.new.words (omega (arith, c.self.inside.words.ok.0)))
    ∙ changed old c.set_bit.new.words c.self.inside.len c.args.place true within c.set_bit.ensures.set
    (λ other apart. c.set_bit.ensures.bits other apart ∙ ap (λ ws. bit_of ws other) is)
    ∙ ap (λ flags. set flags c.args.place true) c.self.view_is
