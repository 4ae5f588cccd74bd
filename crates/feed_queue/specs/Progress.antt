-- How far stimuli have been read.
use Rattle.std.specs.Prelude.{◌≡◌, ℕ, ◌+◌, ◌||◌, Option, Some, None, MatchResult, Result}
use Rattle.feed_queue.specs.declared.progress.Progress.{Progress}
use Rattle.feed_queue.specs.Stimuli.{Stimulus}
use Rattle.feed_queue.specs.Reading.{are_too_many, how_many, is_stop, least_cause}

-- with one more line
abbrev pub IsWith : Progress → Stimulus → Progress → Type 0
IsWith c s more = (more.lines ≡ c.lines + 1) × (more.wishes ≡ c.wishes + how_many s) × (more.stopped ≡ (c.stopped || is_stop s))

-- the least cause of a line that says so
abbrev pub cause_after : Progress → Stimulus → Option ℕ
cause_after c s = least_cause c.stopped (are_too_many (c.lines + 1) (c.wishes + how_many s)) s

-- with one more line that is good, or the least cause of one that is bad
abbrev pub IsJudged : Progress → Stimulus → Result Progress ℕ → Type 0
IsJudged c s r = MatchResult r (λ more. (cause_after c s ≡ None) × IsWith c s more) (λ cause. cause_after c s ≡ Some cause)
