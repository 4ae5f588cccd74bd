-- The keys that run along a trace, and the history for which they are noted (SWS_RTE: runnable activation). Histories stand the newest first.
use Rattle.std.specs.Prelude.{◌≡◌, ℕ, ◌<◌, length, slice_index_or, slice_set, Bool, true, false, Option, Some, None}
use Rattle.bus_semantics.specs.Common.{option_map_or, ActKey, Plan, History, runs, direct_key, fits, plain_key, IsSound}
use Rattle.bus_laws.specs.Common.{Entry, Mapping}
use Rattle.trace_walks.specs.declared.runners.Runners.{Runners}

-- whether an activation runs of the key that serves the point directly; none does if no key serves it so
abbrev pub point_runs : Plan → History → ℕ → Bool
point_runs p h q = option_map_or (λ k. runs k h) (direct_key p q) false

-- a flag for each runnable, and one for each point
pub record RunnersStand (p : Plan) (h : History) (rs : Runners) : Type 0 where
  pub runnables : length rs.plain ≡ length p.runnables
  pub points : length rs.direct ≡ length p.points
  pub plain : (r : ℕ) → r < length p.runnables → slice_index_or rs.plain r false ≡ runs (plain_key r) h
  pub direct : (q : ℕ) → slice_index_or rs.direct q false ≡ point_runs p h q

-- for some history after which the entry fits the plan
pub record CanNote (rs : Runners) (e : Entry) : Type 0 where
  pub plan : Plan
  pub mapping : Mapping
  pub history : History
  pub sound : IsSound plan mapping
  pub fits : fits plan e ≡ true
  pub stands : RunnersStand plan history rs

-- there is a flag for the key
abbrev pub HasPlace : Runners → ActKey → Type 0
HasPlace rs k = at_point k.point
  where
    at_point : Option ℕ → Type 0
    at_point None = k.runnable < length rs.plain
    at_point (Some q) = q < length rs.direct

-- the flag of the key says from now on whether an activation of it runs
abbrev pub with_key : ActKey → Bool → Runners → Runners
with_key k running rs = at_point k.point
  where
    at_point : Option ℕ → Runners
    at_point None = record { plain = slice_set rs.plain k.runnable running; direct = rs.direct }
    at_point (Some q) = record { plain = rs.plain; direct = slice_set rs.direct q running }
