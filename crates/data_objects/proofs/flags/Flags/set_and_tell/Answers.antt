use Rattle.std.proofs.Common.{◌≡◌, ◌∙◌, ap, sym, subst, length, replicate, true, false, ℕ, ◌⊎◌, inl, inr, arith, refl}
use Rattle.bus_semantics.specs.Common.{slice_get, Contains, slice_get_within, get_or_from_slice_get}
use Rattle.std.proofs.lemmas.List.Elements.{All-map, All-get_or}
use Rattle.latches.specs.Latches.{Latch, after_set, IsNamedIn}
use Rattle.data_objects.specs.Flags.{are_set, AreOneGroup, IsOfClear}
use Rattle.data_objects.proofs.OneGroup.{all_set, behind, told_of, clear_counted}
use Rattle.data_objects.proofs.flags.Flags.set_and_tell.Goals as goal

pub invariant_of-self : goal.invariant_of-self
invariant_of-self c = subst AreOneGroup (sym c.set_and_tell.ensures.set) (All-map (λ (l : Latch). l.group ≡ 0) (after_set 0) c.self.inside.latches c.self.invariant)

pub returns-clause-set : goal.returns-clause-set
returns-clause-set c = ap are_set c.set_and_tell.ensures.set ∙ all_set c.self.inside.latches c.self.invariant ∙ ap (λ bs. replicate (length bs) true) c.self.view_is

pub returns-clause-told : goal.returns-clause-told
returns-clause-told c = λ at name clear named.
    let ls = c.self.inside.latches in
    let flag = behind ls at false (ap (λ bs. slice_get bs at) c.self.view_is ∙ clear) in
    let one = All-get_or (λ (l : Latch). l.group ≡ 0) ls at flag.latch (slice_get_within ls at flag.latch flag.is) c.self.invariant in
    c.set_and_tell.ensures.told at name flag.latch flag.is (ap (λ (l : Latch). l.group) (sym (get_or_from_slice_get ls at flag.latch flag.latch flag.is)) ∙ one) flag.shown named

pub set_and_tell-requires-clause-room : goal.set_and_tell-requires-clause-room
set_and_tell-requires-clause-room c = omega (arith, c.requires.room, clear_counted c.self.inside.latches c.args.self.now c.self.view_is)

pub returns-clause-room : goal.returns-clause-room
returns-clause-room c =
    omega (arith, c.set_and_tell.ensures.room, clear_counted c.self.inside.latches c.args.self.now c.self.view_is, clear_counted c.set_and_tell.new.self (are_set c.set_and_tell.new.self) refl)

pub returns-clause-only : goal.returns-clause-only
returns-clause-only c = λ name among. by_case name (c.set_and_tell.ensures.only name among)
  where
    by_case : (name : ℕ) → Contains c.args.told.now.items name ⊎ IsNamedIn 0 c.self.inside.latches c.args.names.now name → Contains c.args.told.now.items name ⊎ IsOfClear c.args.self.now c.args.names.now name
    by_case name (inl before) = inl before
    by_case name (inr of) = inr (told_of c.self.inside.latches c.args.self.now 0 c.args.names.now name c.self.view_is of)
