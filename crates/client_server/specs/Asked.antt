-- The points that wait.
use Rattle.std.specs.Prelude.{◌≡◌, ℕ, ◌==◌, ◌<◌, List, true, length, nat_eq, is_some, slice_index_or}
use Rattle.std.specs.List.{list_any, IsDistinct}
use Rattle.client_server.specs.Points.{new_point, value_asked}
use Rattle.client_server.specs.declared.point.Point.{Point}

-- a request of the point was accepted and has not started
pub record IsAsked (points : List Point) (point : ℕ) : Type 0 where
  pub within : point < length points
  pub asked : is_some (value_asked (slice_index_or points point new_point).stage) ≡ true

-- each point that waits does so once, with a request that has not started
pub record AreAsked (points : List Point) (waiting : List ℕ) : Type 0 where
  pub distinct : IsDistinct nat_eq waiting
  pub asked : (point : ℕ) → list_any (λ p. point == p) waiting ≡ true → IsAsked points point
