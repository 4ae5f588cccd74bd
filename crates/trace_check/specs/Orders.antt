-- What of a script is left, in order, and what taking an order of it answers. Orders are this project's own.
use Rattle.std.specs.Prelude.{◌≡◌, ◌==◌, ℕ, List, [], ◌∷◌, ◌++◌, replicate, Bool, true, false}
use Rattle.bus_semantics.specs.declared.script.Line.{Line}
use Rattle.bus_semantics.specs.declared.script.Line.TheVariants as line
use Rattle.bus_semantics.specs.Common.{to_tick, Ordered, a_call, orders_of_script}

-- so many ticks, and then these lines
abbrev pub left_of : (ticks : ℕ) → List Line → List Ordered
left_of ticks lines = replicate ticks (a_call to_tick) ++ orders_of_script lines

-- true: the order was the next one, and those behind it are left. False: it is not, and all is left as it was
abbrev pub Takes : Ordered → (old new : List Ordered) → Bool → Type 0
Takes o old new true = old ≡ o ∷ new
Takes o old new false = (new ≡ old) × ((more : List Ordered) → old ≡ o ∷ more → ⊥)

-- whether a line of ticks stands first
abbrev pub begins_with_ticks : List Line → Bool
begins_with_ticks [] = false
begins_with_ticks (line.Tick n ∷ lines) = true
begins_with_ticks (l ∷ lines) = false

-- ticks are left of a line that was begun, or no line of ticks stands first
abbrev pub IsBegun : (ticks : ℕ) → List Line → Type 0
IsBegun ticks lines = ticks ≡ 0 → begins_with_ticks lines ≡ false

-- whether a call stands first
abbrev pub begins_with_a_call : List Line → Bool
begins_with_a_call (line.Call w ∷ lines) = true
begins_with_a_call lines = false

-- a line of no ticks asks for nothing
abbrev pub is_nothing : Line → Bool
is_nothing (line.Tick n) = n == 0
is_nothing l = false
