-- The memory of a stay.
use Rattle.std.specs.Prelude.{◌≡◌, ◌≤◌, ◌<◌, ◌+◌, ℕ, [], length}
use Rattle.std.specs.Vec.{vec_capacity}
use Rattle.live_lanes.specs.declared.places.Places.{Places}

-- a place to park for each of so many cores, and room for them, the pump and four feeders; for cores, and for one seat more
pub record HasPlaces (count : ℕ) (x : Places) : Type 0 where
  pub parkers : length x.parkers.items ≡ count
  pub workers : (x.workers.items ≡ []) × (count + 5 ≤ vec_capacity x.workers)
  pub cores : (x.cores.items ≡ []) × (count ≤ vec_capacity x.cores)
  pub seats : (x.seats.items ≡ []) × (count < vec_capacity x.seats)
