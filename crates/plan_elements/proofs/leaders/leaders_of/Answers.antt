use Rattle.std.proofs.Common.{◌≡◌, arith, length, ap, ◌∙◌}
use Rattle.plan_elements.specs.Spreads.{number_at, spread_numbers}
use Rattle.plan_elements.proofs.Few.{few_elements}
use Rattle.plan_elements.proofs.Leading.{they_lead}
use Rattle.plan_elements.proofs.leaders.leaders_of.Goals as goal

pub returns : goal.returns
returns c =
    let source = c.args.source.now in
    let long : c.len.result ≡ length source.lists.elements.items = omega (arith, c.len.ensures, source.lists.elements.ok.0) in
    they_lead source.d.now source.f.now c.in_ok-own.own.items c.in_ok-near.near.items c.in_ok-least.least.items c.args.pairs.now c.len.result
    c.requires
    (long ∙ ap length source.listed.elements)
    c.in_ok-own.ensures
    (c.in_ok-near.ensures.length ∙ ap length c.as_slice.ensures.value)
    (λ n. c.in_ok-near.ensures.numbers n ∙ (λ j. spread_numbers c.args.pairs.now (number_at (c.as_slice.ensures.value j)) n))
    (c.in_ok-least.ensures.length ∙ ap length c.as_slice-2.ensures.value)
    (λ n. c.in_ok-least.ensures.numbers n ∙ (λ j. spread_numbers c.args.pairs.now (number_at (c.as_slice-2.ensures.value j)) n))

pub numbers_below-requires : goal.numbers_below-requires
numbers_below-requires c =
    let source = c.args.source.now in
    let long : c.len.result ≡ length source.lists.elements.items = omega (arith, c.len.ensures, source.lists.elements.ok.0) in
    few_elements source.d.now source.f.now source.lists.elements.items c.len.result long source.listed.elements source.few
