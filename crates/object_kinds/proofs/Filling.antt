-- What came of a wish, with the entry that was filled in.
use Rattle.std.proofs.Common.{◌≡◌, refl, ap}
use Rattle.bus_laws.specs.Common.{Entry}
use Rattle.object_kinds.specs.declared.acted.Acted.TheVariants.{Done, NotYet}
use Rattle.object_kinds.specs.declared.acted.Filled.{Filled}
use Rattle.object_kinds.specs.declared.acted.Filled.TheVariants as filled
use Rattle.object_kinds.specs.declared.acted.Shown.{Shown}
use Rattle.object_kinds.specs.Kinds.{acted}

pub not_filled : (r : Filled) (out : Entry) (shown : Shown) → acted r out ≡ NotYet shown → r ≡ filled.NotYet shown
not_filled filled.Done out shown is = absurd (cc is)
not_filled (filled.NotYet other) out shown is = let same : other ≡ shown = cc is in ap (λ s. filled.NotYet s) same
