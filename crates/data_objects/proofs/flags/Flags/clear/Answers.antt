use Rattle.std.proofs.Common.{◌≡◌, ◌<◌, ◌∙◌, ap, sym, subst, length, get_or, set, false, arith}
use Rattle.bus_semantics.specs.Common.{length-map, map-set, slice_get-get_or}
use Rattle.std.proofs.lemmas.List.Elements.{All-set, All-get_or}
use Rattle.latches.specs.Latches.{Latch, clear_in}
use Rattle.data_objects.specs.Flags.{are_set, AreOneGroup}
use Rattle.data_objects.proofs.flags.Flags.clear.Goals as goal

pub invariant_of-self : goal.invariant_of-self
invariant_of-self c =
    let ls = c.self.inside.latches in
    let at = c.args.at in
    let d = clear_in 0 in
    let within : at < length ls = omega (arith, c.requires, ap length c.self.view_is, length-map ls (λ (l : Latch). l.is_set)) in
    let now = c.clear.ensures (get_or ls at d) (slice_get-get_or ls at d within) in
    let InOne = λ (l : Latch). l.group ≡ 0 in
    subst AreOneGroup (sym now) (All-set InOne ls at (clear_in (get_or ls at d).group) (All-get_or InOne ls at d within c.self.invariant) c.self.invariant)

pub returns : goal.returns
returns c =
    let ls = c.self.inside.latches in
    let at = c.args.at in
    let d = clear_in 0 in
    let within : at < length ls = omega (arith, c.requires, ap length c.self.view_is, length-map ls (λ (l : Latch). l.is_set)) in
    let now = c.clear.ensures (get_or ls at d) (slice_get-get_or ls at d within) in
    ap are_set now ∙ map-set (λ (l : Latch). l.is_set) ls at (clear_in (get_or ls at d).group) ∙ ap (λ bs. set bs at false) c.self.view_is
