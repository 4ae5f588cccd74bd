-- How the seats of a round are taken in by the first.
use Rattle.std.specs.Prelude.{◌≡◌, ℕ, List, [], ◌∷◌, map, Option, Some, None}
use Rattle.atomic_table.specs.Seated.{TableId}
use Rattle.cross_core_table.specs.declared.views.Opening.{Opening}
use Rattle.cross_core_table.specs.declared.seats.CoreSeat.{CoreSeat}
use Rattle.cross_core_table.specs.OpenRounds.{OpenRound}
use Rattle.cross_core_table.specs.Plays.{part_of_view}
use Rattle.cross_core_table.specs.Places.{Place}
use Rattle.cross_core_table.specs.Seats.{view_of, made_of}

abbrev pub round_at : TableId → Opening → ℕ → OpenRound
round_at t k n = record { table = t; opening = k; cores = n }

-- the first seat has taken in these, in their order
pub record HasTaken (r : OpenRound) (first : CoreSeat) (others : List CoreSeat) (p : Place) : Type 0 where
  pub table : p.table_id ≡ r.table
  pub slots : p.me.1 ≡ []
  pub opening : p.me.0.opening ≡ Some r.opening
  pub held : p.me.0.held ≡ None
  pub given : p.me.0.given ≡ r.cores
  pub made : p.me.0.made ≡ made_of first
  pub joined : p.me.0.joined ≡ map (λ s. part_of_view (view_of s)) others

-- of these seats the first, if there is one, has taken in the others
abbrev pub TakenIn : OpenRound → List CoreSeat → Option Place → Type 0
TakenIn r [] None = Unit {0}
TakenIn r [] (Some p) = ⊥
TakenIn r (s ∷ more) None = ⊥
TakenIn r (s ∷ more) (Some p) = HasTaken r s more p
