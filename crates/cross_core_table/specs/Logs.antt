-- The log of a round: its entries with their cores, the newest first. The word is this project's own; in order of stamps the log is the interleaving of
-- what the cores made.
use Rattle.std.specs.Prelude.{◌≡◌, ◌<◌, ◌==◌, ℕ, List, [], ◌∷◌, ◌++◌, length, map, if◌then◌else◌, slice_get, Option, option_and_then}
use Rattle.bus_semantics.specs.declared.entries.Stamped.{Stamped}
use Rattle.bus_semantics.specs.Common.{Plan, plan_of, Noted, touches, Logged}
use Rattle.port_objects.specs.declared.object.Object.{Object}
use Rattle.port_objects.specs.Common.{Kept, leads, kept_of}
use Rattle.cross_core_table.specs.declared.views.Opening.{Opening}

-- an entry with the event of its activation, as the lead takes it
abbrev pub noted_as : Stamped → Noted
noted_as s = record { entry = s.entry; event = s.event }

-- the entries that touch an object, the newest first
abbrev pub on_object : Plan → (object : ℕ) → List Logged → List Stamped
on_object p o [] = []
on_object p o (l ∷ log) = if touches p o (noted_as l.stamped) then l.stamped ∷ on_object p o log else on_object p o log

-- what a core made, the oldest first
abbrev pub made_by : (core : ℕ) → List Logged → List Stamped
made_by c [] = []
made_by c (l ∷ log) = if l.core == c then made_by c log ++ l.stamped ∷ [] else made_by c log

-- the stamp of each entry counts the older ones, so that stamps are 0, 1, 2 and so on
abbrev pub AreCounted : List Logged → Type 0
AreCounted [] = Unit {0}
AreCounted (l ∷ log) = (l.stamped.stamp ≡ length log) × AreCounted log

-- the core of each entry is below a number
abbrev pub AreOf : (cores : ℕ) → List Logged → Type 0
AreOf n [] = Unit {0}
AreOf n (l ∷ log) = (l.core < n) × AreOf n log

-- the plan that a round was opened with
abbrev pub plan_in : Opening → Plan
plan_in k = plan_of k.plan.value

-- what an object keeps after these entries of the round, the newest first: what the lead gives along them from what it kept at the opening
unfoldable pub kept_after : Opening → (object : ℕ) → List Stamped → Option Kept
kept_after k o l = option_and_then (λ (x : Object). leads (plan_in k) o (kept_of x) (map noted_as l)) (slice_get k.objects.value.items o)
