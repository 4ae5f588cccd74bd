-- Counting lines.
use Rattle.std.specs.Prelude.{ℕ, ◌+◌, ◌-◌, ◌^◌, min}
use Rattle.trace_counts.specs.declared.numbers.Mark.{Mark}
use Rattle.trace_counts.specs.declared.numbers.Mark.TheVariants.{Run, Idle, Sent, SentAtLimit, Taken, Asked, AskedAtLimit, Answered, Other}
use Rattle.trace_counts.specs.declared.numbers.Numbers.{Numbers}

-- a count as far as it goes
abbrev pub most : ℕ
most = 2 ^ 32 - 1

abbrev pub next : ℕ → ℕ
next count = min (count + 1) most

abbrev pub no_numbers : Numbers
no_numbers = record { runs = 0; idle = 0; sends = 0; taken = 0; limits = 0; asks = 0; answers = 0 }

-- one line more
abbrev pub counted : Mark → Numbers → Numbers
counted Run n = record { runs = next n.runs; idle = n.idle; sends = n.sends; taken = n.taken; limits = n.limits; asks = n.asks; answers = n.answers }
counted Idle n = record { runs = n.runs; idle = next n.idle; sends = n.sends; taken = n.taken; limits = n.limits; asks = n.asks; answers = n.answers }
counted Sent n = record { runs = n.runs; idle = n.idle; sends = next n.sends; taken = n.taken; limits = n.limits; asks = n.asks; answers = n.answers }
counted SentAtLimit n = record { runs = n.runs; idle = n.idle; sends = next n.sends; taken = n.taken; limits = next n.limits; asks = n.asks; answers = n.answers }
counted Taken n = record { runs = n.runs; idle = n.idle; sends = n.sends; taken = next n.taken; limits = n.limits; asks = n.asks; answers = n.answers }
counted Asked n = record { runs = n.runs; idle = n.idle; sends = n.sends; taken = n.taken; limits = n.limits; asks = next n.asks; answers = n.answers }
counted AskedAtLimit n = record { runs = n.runs; idle = n.idle; sends = n.sends; taken = n.taken; limits = next n.limits; asks = n.asks; answers = n.answers }
counted Answered n = record { runs = n.runs; idle = n.idle; sends = n.sends; taken = n.taken; limits = n.limits; asks = n.asks; answers = next n.answers }
counted Other n = n
