-- What became of a request that nothing was returned for yet (SWS_RTE: Rte_Call). Histories stand the newest first.
use Rattle.std.specs.Prelude.{◌≡◌, ℕ, true, false, ◌==◌, Some, None}
use Rattle.bus_semantics.specs.Common.{ActKey, same_number, Plan, server_of, History, runs, noted, caller_has_asked, serves, has_unstarted, is_outstanding, returned_to, is_open, serves_by}
use Rattle.bus_semantics.specs.declared.entries.Actor.TheVariants.{Act}

-- the point's last request is neither taken nor returned
pub record IsOpen (point : ℕ) (h : History) : Type 0 where
  pub outstanding : is_outstanding point (noted h) ≡ true
  pub unreturned : returned_to point (noted h) ≡ None

-- an activation of the server runs, was started with the point's request, and has not returned
pub record IsServedBy (point : ℕ) (k : ActKey) (h : History) : Type 0 where
  pub running : runs k h ≡ true
  pub serving : serves point k (noted h) ≡ true
  pub unreturned : is_open (serves_by (Act k)) (noted h) ≡ true

-- of a queued server: a request at one of its points has not started, or this one is served
pub data IsQueuedOrServed (p : Plan) (server : ℕ) (point : ℕ) (k : ActKey) (h : History) : Type 0 where
  queued : has_unstarted (λ q. same_number (server_of p q) (Some server)) (noted h) ≡ true → IsQueuedOrServed p server point k h
  served : IsServedBy point k h → IsQueuedOrServed p server point k h

-- of a direct server: its activation has still to start, right after the caller's ask, or it serves the point
pub data IsBegunOrServed (p : Plan) (point : ℕ) (k : ActKey) (h : History) : Type 0 where
  begins : has_unstarted (λ q. point == q) (noted h) ≡ true → caller_has_asked p h k ≡ true → runs k h ≡ false → IsBegunOrServed p point k h
  served : IsServedBy point k h → IsBegunOrServed p point k h
