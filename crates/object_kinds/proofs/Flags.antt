-- Flags by place.
use Rattle.std.proofs.Common.{◌≡◌, ℕ, zero, suc, Bool, true, false, refl, List, [], ◌∷◌, set, Option, Some, None}
use Rattle.std.specs.List.{slice_get}
use Rattle.object_kinds.specs.Flags.{is_set, is_pending}

pub flag_set : (flags : List Bool) (i : ℕ) (b : Bool) → slice_get flags i ≡ Some b → is_set flags i ≡ true → b ≡ true
flag_set flags i b there e = rw there at e

pub flag_there : (flags : List Bool) (i : ℕ) (b : Bool) → slice_get flags i ≡ Some b → b ≡ true → is_set flags i ≡ true
flag_there flags i b there on = rw (there, on) refl

pub flag_is : (flags : List Bool) (i : ℕ) (b : Bool) → slice_get flags i ≡ Some b → is_set flags i ≡ b
flag_is flags i true there = rw there refl
flag_is flags i false there = rw there refl

-- ---- clearing a flag sets none

pub flag_cleared : (flags : List Bool) (i j : ℕ) → is_set flags j ≡ false → is_set (set flags i false) j ≡ false
flag_cleared [] i j off = off
flag_cleared (b ∷ flags) zero zero off = refl
flag_cleared (b ∷ flags) zero (suc j) off = off
flag_cleared (b ∷ flags) (suc i) zero off = off
flag_cleared (b ∷ flags) (suc i) (suc j) off = flag_cleared flags i j off

pub pending_cleared : (flags : List Bool) (i : ℕ) (at : Option ℕ) → is_pending flags at ≡ false → is_pending (set flags i false) at ≡ false
pending_cleared flags i None off = refl
pending_cleared flags i (Some j) off = flag_cleared flags i j off
