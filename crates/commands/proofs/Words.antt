-- Words of another number give no command.
use Rattle.std.proofs.Common.{◌≡◌, ◌<◌, ◌≤◌, List, [], ◌∷◌, length, map, None, refl, arith}
use Rattle.commands.specs.Commands.{Bytes, command_of}

pub none_short : {X : Type 0} → (text : X → Bytes) (ws : List X) → length ws < 2 → command_of (map text ws) ≡ None
none_short text [] n = refl
none_short text (x ∷ []) n = refl
none_short text (x ∷ y ∷ ws) n = absurd (omega (arith, n))

pub none_long : {X : Type 0} → (text : X → Bytes) (ws : List X) → 5 ≤ length ws → command_of (map text ws) ≡ None
none_long text [] n = refl
none_long text (x ∷ []) n = refl
none_long text (x ∷ y ∷ []) n = absurd (omega (arith, n))
none_long text (x ∷ y ∷ z ∷ []) n = absurd (omega (arith, n))
none_long text (x ∷ y ∷ z ∷ w ∷ []) n = absurd (omega (arith, n))
none_long text (x ∷ y ∷ z ∷ w ∷ v ∷ ws) n = refl
