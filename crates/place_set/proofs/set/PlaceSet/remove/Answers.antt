use Rattle.std.proofs.Common.{◌≡◌, ◌<◌, ◌/◌, false, length, get_or, set, arith, ap, ◌∙◌, rules}
use Rattle.place_set.specs.Bits.{bit_of, flags_of}
use Rattle.place_set.proofs.Words.{cleared_in, left_in}
use Rattle.place_set.proofs.Flags.{length_of, changed}
use Rattle.place_set.proofs.Refill.{refilled}
use Rattle.place_set.proofs.set.PlaceSet.remove.Goals as goal

pub clear_bit-requires : goal.clear_bit-requires
clear_bit-requires c =
    let within : c.args.place < c.self.inside.len = omega (arith, c.requires, length_of c.self.inside.words.items c.self.inside.len, ap length c.self.view_is) in
    let count = c.self.invariant.count in
    omega (arith, ap length c.deref_mut.ensures.value)

pub clear_bit-requires-then-clear_bit : goal.clear_bit-requires-then-clear_bit
clear_bit-requires-then-clear_bit c =
    let within : c.args.place < c.self.inside.len = omega (arith, c.requires, length_of c.self.inside.words.items c.self.inside.len, ap length c.self.view_is) in
    let count = c.self.invariant.count in
    let marks = c.self.invariant.marks in
    omega (arith, ap length c.deref_mut-then-clear_bit.ensures.value)

pub invariant_of-self : goal.invariant_of-self
invariant_of-self c =
    let old = c.self.inside.words.items in
    let new = c.clear_bit.new.words in
    let summary = c.self.inside.summary.items in
    let marked = c.clear_bit-then-clear_bit.new.words in
    let is = c.deref_mut.ensures.value in
    let is2 = c.deref_mut-then-clear_bit.ensures.value in
    let count : length new ≡ length old = c.clear_bit.ensures.count ∙ ap length is in
    let marks : length marked ≡ length summary = c.clear_bit-then-clear_bit.ensures.count ∙ ap length is2 in
    let empty : get_or new (c.args.place / 64) 0 ≡ 0 = search rules in
    rw (refilled c.self.inside.words.len old new (omega (arith, c.self.inside.words.ok.0)), refilled c.self.inside.summary.len summary marked (omega (arith, c.self.inside.summary.ok.0)))
    (cleared_in c.self.inside.len old new summary marked c.args.place c.self.invariant count marks
    empty (λ word apart. c.clear_bit.ensures.words word apart ∙ ap (λ ws. get_or ws word 0) is)
    c.clear_bit-then-clear_bit.ensures.clear (λ other apart. c.clear_bit-then-clear_bit.ensures.bits other apart ∙ ap (λ ws. bit_of ws other) is2))

pub invariant_of-self-else-clear_bit : goal.invariant_of-self-else-clear_bit
invariant_of-self-else-clear_bit c =
    let old = c.self.inside.words.items in
    let new = c.clear_bit.new.words in
    let is = c.deref_mut.ensures.value in
    let count : length new ≡ length old = c.clear_bit.ensures.count ∙ ap length is in
    let some : 0 < get_or new (c.args.place / 64) 0 = search rules in
    rw (refilled c.self.inside.words.len old new (omega (arith, c.self.inside.words.ok.0)))
    (left_in c.self.inside.len old new c.self.inside.summary.items c.args.place c.self.invariant count some
    (omega (arith, c.clear_bit.ensures.less, ap (λ ws. get_or ws (c.args.place / 64) 0) is))
    (λ word apart. c.clear_bit.ensures.words word apart ∙ ap (λ ws. get_or ws word 0) is))

pub returns-then-clear_bit : goal.returns-then-clear_bit
returns-then-clear_bit c =
    let old = c.self.inside.words.items in
    let new = c.clear_bit.new.words in
    let is = c.deref_mut.ensures.value in
    let within : c.args.place < c.self.inside.len = omega (arith, c.requires, length_of old c.self.inside.len, ap length c.self.view_is) in
    let count : length new ≡ length old = c.clear_bit.ensures.count ∙ ap length is in
    ap (λ ws. flags_of ws c.self.inside.len) (refilled c.self.inside.words.len old new (omega (arith, c.self.inside.words.ok.0)))
    ∙ changed old new c.self.inside.len c.args.place false within c.clear_bit.ensures.clear
    (λ other apart. c.clear_bit.ensures.bits other apart ∙ ap (λ ws. bit_of ws other) is)
    ∙ ap (λ flags. set flags c.args.place false) c.self.view_is

pub returns-else-clear_bit : goal.returns-else-clear_bit
returns-else-clear_bit c =
    let old = c.self.inside.words.items in
    let new = c.clear_bit.new.words in
    let is = c.deref_mut.ensures.value in
    let within : c.args.place < c.self.inside.len = omega (arith, c.requires, length_of old c.self.inside.len, ap length c.self.view_is) in
    let count : length new ≡ length old = c.clear_bit.ensures.count ∙ ap length is in
    ap (λ ws. flags_of ws c.self.inside.len) (refilled c.self.inside.words.len old new (omega (arith, c.self.inside.words.ok.0)))
    ∙ changed old new c.self.inside.len c.args.place false within c.clear_bit.ensures.clear
    (λ other apart. c.clear_bit.ensures.bits other apart ∙ ap (λ ws. bit_of ws other) is)
    ∙ ap (λ flags. set flags c.args.place false) c.self.view_is
