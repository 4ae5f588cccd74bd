use Rattle.std.proofs.Common.{◌≡◌, ◌<◌, ◌≤◌, ◌+◌, ◌++◌, true, length, get_or, drop, List, Option, sym, ap, ◌∙◌, subst, arith}
use Rattle.bus_semantics.specs.Common.{list_all, plan_of}
use Rattle.std.specs.Option.{option_to_list}
use Rattle.bus_laws.specs.Common.{BusPlan, ElemPlan}
use Rattle.script_reading.proofs.Numbered.{numbered}
use Rattle.signal_link.specs.declared.link_elem.LinkElem.{LinkElem}
use Rattle.signal_link.specs.Links.{AreOfWords, is_link}
use Rattle.pair_run.specs.Linked.{link_of, links_from, links_of}
use Rattle.pair_run.proofs.Linking.{links_are_links, links_are_of_words, links_done, links_next}
use Rattle.pair_run.proofs.links.make_links.Goals as goal

pub of-requires : goal.of-requires
of-requires c = numbered (plan_of c.args.b.now) c.requires.sound_two.0 c.requires.sound_two.1 c.requires.few_two

pub loop-number-preserved : goal.loop-number-preserved
loop-number-preserved c =
    let q = plan_of c.args.b.now in
    let es = (plan_of c.args.a.now).elements in
    let i = c.loop-number.number in
    let e = c.elem-item.result in
    let so_far = c.loop-number.links.items in
    let many : length c.items-elem-items.result.now ≡ length es = ap length c.items-elem-items.ensures in
    let within : i < length es = omega (arith, many, c.loop-number-test.true) in
    let is : e ≡ get_or es i e = subst (λ (xs : List ElemPlan). e ≡ get_or xs i e) c.items-elem-items.ensures c.elem-item.is in
    let made : c.link_of.result ≡ link_of q i e = subst (λ (b : BusPlan). c.link_of.result ≡ link_of (plan_of b) i e) c.in_ok-into.ensures c.link_of.ensures in
    let pushed : c.push_link.new.links.items ≡ so_far ++ option_to_list (link_of q i e) = c.in_ok-push_link.ensures ∙ ap (λ (o : Option LinkElem). so_far ++ option_to_list o) made in
    ap (λ (ls : List LinkElem). ls ++ links_from q (i + 1) (drop (i + 1) es)) pushed
    ∙ links_next q es i e so_far (links_of (plan_of c.args.a.now) q) within is c.loop-number.invariant

pub returns-clause-links : goal.returns-clause-links
returns-clause-links c =
    let es = (plan_of c.args.a.now).elements in
    let many : length c.items-elem-items.result.now ≡ length es = ap length c.items-elem-items.ensures in
    let past : length es ≤ c.loop-number.number = omega (arith, many, c.loop-number-test.false) in
    links_done (plan_of c.args.b.now) es c.loop-number.number c.loop-number.links.items (links_of (plan_of c.args.a.now) (plan_of c.args.b.now)) past c.loop-number.invariant

pub returns-clause-fit : goal.returns-clause-fit
returns-clause-fit c =
    let es = (plan_of c.args.a.now).elements in
    let many : length c.items-elem-items.result.now ≡ length es = ap length c.items-elem-items.ensures in
    let past : length es ≤ c.loop-number.number = omega (arith, many, c.loop-number-test.false) in
    subst (λ (ls : List LinkElem). list_all is_link ls ≡ true)
    (sym (links_done (plan_of c.args.b.now) es c.loop-number.number c.loop-number.links.items (links_of (plan_of c.args.a.now) (plan_of c.args.b.now)) past c.loop-number.invariant))
    (links_are_links (plan_of c.args.a.now) (plan_of c.args.b.now) c.requires.sound_one.0 c.requires.sound_one.1)

pub returns-clause-of_words : goal.returns-clause-of_words
returns-clause-of_words c =
    let es = (plan_of c.args.a.now).elements in
    let many : length c.items-elem-items.result.now ≡ length es = ap length c.items-elem-items.ensures in
    let past : length es ≤ c.loop-number.number = omega (arith, many, c.loop-number-test.false) in
    subst AreOfWords
    (sym (links_done (plan_of c.args.b.now) es c.loop-number.number c.loop-number.links.items (links_of (plan_of c.args.a.now) (plan_of c.args.b.now)) past c.loop-number.invariant))
    (links_are_of_words (plan_of c.args.a.now) (plan_of c.args.b.now) c.requires.sound_one.0 c.requires.sound_one.1)
