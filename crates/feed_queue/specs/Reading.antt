-- What stimuli are read as: four lists of wishes, or the first bad line with its least cause.
use Rattle.std.specs.Prelude.{◌≡◌, ◌<◌, ℕ, ◌+◌, List, [], ◌∷◌, ◌++◌, length, map, flat_map, Bool, true, false, ◌||◌, ◌==◌, nat_lt, if◌then◌else◌, Option, Some, None}
use Rattle.bus_semantics.specs.Common.{list_any, Plan, Letters, Wanted, wanted_of}
use Rattle.line_fields.specs.Texts.{lines_of}
use Rattle.script_reading.specs.Meaning.{no_form}
use Rattle.script_reading.specs.Reading.{bad_or, too_many}
use Rattle.feed_queue.specs.declared.feeds.Feeds.{Feeds}
use Rattle.feed_queue.specs.declared.feeds_read.FeedsRead.{FeedsRead}
use Rattle.feed_queue.specs.declared.feeds_read.FeedsRead.TheVariants as answer
use Rattle.feed_queue.specs.Gifts.{wishes_at}
use Rattle.feed_queue.specs.Stimuli.{Stimulus, silent, stops, gives, unfit, stimulus}

-- ---- what lines give

abbrev pub is_stop : Stimulus → Bool
is_stop stops = true
is_stop _ = false

abbrev pub has_stopped : Plan → List Letters → Bool
has_stopped p ts = list_any (λ t. is_stop (stimulus p t)) ts

-- the wishes that a line gives to a feed, and how many it gives to any
abbrev pub given_to : (feed : ℕ) → Stimulus → List Wanted
given_to f (gives g wishes) = if g == f then wishes else []
given_to f _ = []

abbrev pub how_many : Stimulus → ℕ
how_many (gives g wishes) = length wishes
how_many _ = 0

-- the wishes that lines give to a feed, in order, and how many they give to all
abbrev pub wishes_for : Plan → (feed : ℕ) → List Letters → List Wanted
wishes_for p f ts = flat_map (λ t. given_to f (stimulus p t)) ts

abbrev pub wishes_in : Plan → List Letters → ℕ
wishes_in p [] = 0
wishes_in p (t ∷ ts) = how_many (stimulus p t) + wishes_in p ts

-- ---- causes

-- more lines than a script may have, or more wishes in all than 65,536; so no more ticks than a script may have
abbrev pub are_too_many : (lines : ℕ) → (wishes : ℕ) → Bool
are_too_many n w = nat_lt 100000 n || nat_lt 65536 w

-- the least cause of a line that says this, and none if it is good: behind a stop each line has none of the forms
abbrev pub least_cause : (stopped : Bool) → (past : Bool) → Stimulus → Option ℕ
least_cause true past s = Some no_form
least_cause false past (unfit cause) = Some cause
least_cause false past silent = if past then Some too_many else None
least_cause false past stops = if past then Some too_many else None
least_cause false past (gives f wishes) = if past then Some too_many else None

abbrev pub cause_of : Plan → (before : List Letters) → Letters → Option ℕ
cause_of p before t = least_cause (has_stopped p before) (are_too_many (length before + 1) (wishes_in p before + how_many (stimulus p t))) (stimulus p t)

-- the number of the first bad line after those before, counted from 1, with its cause. If no line stops, the one that is missing is bad
abbrev pub first_bad : Plan → (before : List Letters) → List Letters → Option (ℕ × ℕ)
first_bad p before [] = if has_stopped p before then None else Some (length before + 1, no_form)
first_bad p before (t ∷ ts) = bad_or (length before + 1) (cause_of p before t) (first_bad p (before ++ t ∷ []) ts)

-- ---- feeds

-- the bytes are stimuli, and give these wishes to the four feeds
pub record AreFeeds (p : Plan) (bytes : Letters) (feeds : Feeds) : Type 0 where
  pub good : first_bad p [] (lines_of bytes) ≡ None
  pub four : length feeds.wishes.items ≡ 4
  pub given : (f : ℕ) → f < 4 → map wanted_of (wishes_at feeds.wishes.items f) ≡ wishes_for p f (lines_of bytes)

-- ---- what reading answers

-- if stimuli were read, this holds of the feeds
abbrev pub IfRead : FeedsRead → (Feeds → Type 0) → Type 0
IfRead (answer.Read feeds) P = P feeds
IfRead (answer.BadLine line cause) P = Unit {0}
IfRead answer.Memory P = Unit {0}

-- if a line is bad, this holds of its number and the cause
abbrev pub IfBadLine : FeedsRead → (ℕ → ℕ → Type 0) → Type 0
IfBadLine (answer.Read feeds) P = Unit {0}
IfBadLine (answer.BadLine line cause) P = P line cause
IfBadLine answer.Memory P = Unit {0}
