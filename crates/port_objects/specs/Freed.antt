-- What is answered to a wish that touches no object.
use Rattle.std.specs.Prelude.{◌≡◌, [], true, false, Bool, Option, Some, None, unwrap_or}
use Rattle.bus_semantics.specs.Common.{words_of, Wanted, to_ask, to_take_result, to_end, wanted_by, event_of}
use Rattle.bus_semantics.specs.declared.entries.Deed.{Deed}
use Rattle.bus_semantics.specs.declared.entries.Deed.TheVariants as deed

-- an end, and an ask or the taking of a result at a point that is not joined
abbrev pub is_free : Wanted → Bool
is_free (to_end event) = true
is_free (to_ask q ws) = true
is_free (to_take_result q) = true
is_free _ = false

-- the codes at a point that is not joined: 134 RTE_E_UNCONNECTED, and no result
abbrev pub IsUnconnected : Deed → Type 0
IsUnconnected (deed.Ask q value code) = code ≡ 134
IsUnconnected (deed.TakeResult q code value) = (code ≡ 134) × (words_of value ≡ [])
IsUnconnected d = Unit {0}

-- the deed is of the wish, with these codes
pub record IsFree (w : Wanted) (d : Deed) : Type 0 where
  pub wish : wanted_by (unwrap_or (event_of w) 0) d ≡ w
  pub codes : IsUnconnected d

abbrev pub Frees : Wanted → Option Deed → Type 0
Frees w None = is_free w ≡ false
Frees w (Some d) = (is_free w ≡ true) × IsFree w d
