-- One value over a link.
use Rattle.std.specs.Prelude.{◌≡◌, ℕ, ℤ, List, [], Bool, false, Option, Some, None}
use Rattle.rte_text.specs.Counts.{Rose}
use Rattle.rte_value.specs.Values.{words_of}
use Rattle.signal_link.specs.declared.carrying.Arrived.{Arrived}
use Rattle.signal_link.specs.Unframing.{Kept}

-- the value arrived for the link, nothing is on the way, and the unframer keeps what it kept before
pub record IsCarried (k : ℕ) (ws : List ℤ) (arrived : Arrived) (way : List ℕ) (before after : Kept) : Type 0 where
  pub link : arrived.link ≡ k
  pub words : words_of arrived.value ≡ ws
  pub empty : way ≡ []
  pub kept : after ≡ before

abbrev pub CarriedAs : Option Arrived → (k : ℕ) → (ws : List ℤ) → (way : List ℕ) → (before after : Kept) → Type 0
CarriedAs None k ws way before after = Unit {0}
CarriedAs (Some arrived) k ws way before after = IsCarried k ws arrived way before after

-- it fails only if the link's count rose, and only if the link may fail
abbrev pub CarryFaults : Option Arrived → (before after : ℕ) → Type 0
CarryFaults None before after = Rose before after
CarryFaults (Some arrived) before after = after ≡ before

abbrev pub MayFailToCarry : Option Arrived → (never : Bool) → Type 0
MayFailToCarry None never = never ≡ false
MayFailToCarry (Some arrived) never = Unit {0}
