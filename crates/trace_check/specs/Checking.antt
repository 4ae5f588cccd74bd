-- What the check keeps along a trace, what it stands for after a session, and what it answers to an item. Sessions stand the newest first.
use Rattle.std.specs.Prelude.{◌≡◌, ℕ, min, ◌∷◌, true}
use Rattle.bus_semantics.specs.Common.{Plan, item_fits, Item, Session, IsLegalRun, history_of, idle, is_inside, made, made_in_line, run_begins, run_closes, unsettled}
use Rattle.trace_reading.specs.Refusals.{IsRefused}
use Rattle.trace_reading.specs.declared.reading.LineRead.{LineRead}
use Rattle.trace_reading.specs.declared.reading.LineRead.TheVariants as read
use Rattle.trace_check.specs.declared.rules.Rules.{Rules}
use Rattle.trace_check.specs.declared.check.Check.{Check}
use Rattle.trace_check.specs.declared.check.Judged.{Judged}
use Rattle.trace_check.specs.declared.check.Judged.TheVariants.{Accepted, Bad, Refused}
use Rattle.trace_check.specs.Along.{StateStands, plan_in}
use Rattle.trace_check.specs.Order.{Leaves}

-- so many entries of a run line are counted
abbrev pub most_made : ℕ
most_made = 100000

-- the session is a begun legal run of the script, and the check has of it what it needs
pub record Stands (r : Rules) (s : Session) (c : Check) : Type 0 where
  pub legal : IsLegalRun (plan_in r) r.mapping.now s
  pub state : StateStands r.tasks.now (plan_in r) (history_of s) c.state
  pub leaves : Leaves r.script.now.lines s c.orders
  pub inside : c.inside ≡ is_inside s
  pub made : c.made ≡ min (made_in_line s) most_made

-- for some session
abbrev pub CanJudge : Rules → Check → Type 0
CanJudge r c = (s : Session) × Stands r s c

-- accepted: the check stands for the session and the item. Refused: the item may not come next, for this clause
abbrev pub Judges : Rules → Session → Item → (new : Check) → Judged → Type 0
Judges r s i new Accepted = Stands r (i ∷ s) new
Judges r s i new Bad = ⊥
Judges r s i new (Refused clause) = IsRefused (plan_in r) r.mapping.now r.script.now.lines s i clause

-- the same of what a line is read as; a line of no item is bad
abbrev pub JudgesRead : Rules → Session → LineRead → (new : Check) → Judged → Type 0
JudgesRead r s (read.Entry e) new judged = Judges r s (made e) new judged
JudgesRead r s read.Run new judged = Judges r s run_begins new judged
JudgesRead r s read.Idle new judged = Judges r s (run_closes idle) new judged
JudgesRead r s read.Unsettled new judged = Judges r s (run_closes unsettled) new judged
JudgesRead r s read.BadLine new judged = judged ≡ Bad

-- what a line is read as fits the plan
abbrev pub ReadFits : Plan → LineRead → Type 0
ReadFits p (read.Entry e) = item_fits p (made e) ≡ true
ReadFits p other = Unit {0}
