use Rattle.std.proofs.Common.{◌≡◌, ℕ, Bool, List, [], ◌∷◌, ◌⊎◌, inl, inr, refl, ◌∙◌}
use Rattle.bus_semantics.specs.Common.{either_empty_from_Zip, AccessSig, is_to, found}
use Rattle.bus_semantics.proofs.accesses.find_access.Goals as goal

-- nothing is left of the accesses or of their numbers
at_end : (test : AccessSig → Bool) (accesses : List AccessSig) (targets : List ℕ) → (accesses ≡ []) ⊎ (targets ≡ []) → record { target = 0; ins = [] } ≡ found test accesses targets
at_end test [] targets none = refl
at_end test (a ∷ accesses) [] none = refl
at_end test (a ∷ accesses) (t ∷ targets) (inl none) = cc
at_end test (a ∷ accesses) (t ∷ targets) (inr none) = cc

pub returns : goal.returns
returns c =
    at_end (is_to c.args.kind c.args.port c.args.item) c.loop-access.access-iterator.a.rest.now c.loop-access.access-iterator.b.rest.now
    (either_empty_from_Zip c.loop-access.access-iterator c.next.new.self c.next.result c.in-None.is c.next.ensures.steps) ∙ c.loop-access.invariant
