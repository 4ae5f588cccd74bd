use Rattle.std.proofs.Common.{◌≡◌, ◌∙◌, ap, sym, subst, length, replicate, true}
use Rattle.std.proofs.lemmas.List.Elements.{All-map}
use Rattle.latches.specs.Latches.{Latch, after_set}
use Rattle.data_objects.specs.Flags.{are_set, AreOneGroup}
use Rattle.data_objects.proofs.OneGroup.{all_set}
use Rattle.data_objects.proofs.flags.Flags.set_all.Goals as goal

pub invariant_of-self : goal.invariant_of-self
invariant_of-self c = subst AreOneGroup (sym c.set_group.ensures) (All-map (λ (l : Latch). l.group ≡ 0) (after_set 0) c.self.inside.latches c.self.invariant)

pub returns : goal.returns
returns c = ap are_set c.set_group.ensures ∙ all_set c.self.inside.latches c.self.invariant ∙ ap (λ bs. replicate (length bs) true) c.self.view_is
