-- Elements that are worked on at their places.
use Rattle.std.specs.Prelude.{◌≡◌, ◌+◌, ◌<◌, ◌^◌, ℕ, List, length, slice_index_or}

-- there are some, their places have 64 bits, and P holds of each at its place
pub record AreAccepted {X : Type 0} (P : ℕ → X → Type 0) (from : ℕ) (xs : List X) : Type 0 where
  pub some : 0 < length xs
  pub room : from + length xs < 2 ^ 64
  pub each : (k : ℕ) (d : X) → k < length xs → P (from + k) (slice_index_or xs k d)

-- R holds of each before and after, at its place
pub record AreChanged {X : Type 0} (R : ℕ → X → X → Type 0) (from : ℕ) (xs ys : List X) : Type 0 where
  pub count : length ys ≡ length xs
  pub each : (k : ℕ) (d : X) → k < length xs → R (from + k) (slice_index_or xs k d) (slice_index_or ys k d)
