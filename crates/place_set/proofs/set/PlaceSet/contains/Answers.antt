use Rattle.std.proofs.Common.{◌≤◌, false, get_or, sym, ap, ◌∙◌, rules, le-ltb}
use Rattle.place_set.specs.Bits.{bit_of}
use Rattle.place_set.proofs.Flags.{flag_at, flag_past}
use Rattle.place_set.proofs.set.PlaceSet.contains.Goals as goal

pub returns-then-place-self : goal.returns-then-place-self
returns-then-place-self c =
    c.has_bit.ensures ∙ ap (λ words. bit_of words c.args.place) c.deref.ensures.value
    ∙ sym (flag_at c.self.inside.words.items c.self.inside.len c.args.place (search rules)) ∙ ap (λ flags. get_or flags c.args.place false) c.self.view_is

pub returns-else-place-self : goal.returns-else-place-self
returns-else-place-self c =
    let past : c.self.inside.len ≤ c.args.place = c.if-place-self.false in
    le-ltb c.args.place c.self.inside.len past ∙ sym (flag_past c.self.inside.words.items c.self.inside.len c.args.place past) ∙ ap (λ flags. get_or flags c.args.place false) c.self.view_is
