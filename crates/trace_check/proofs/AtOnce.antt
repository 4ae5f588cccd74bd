-- How far the check of a legal trace has come, line by line.
use Rattle.std.proofs.Common.{◌≡◌, ℕ, ◌+◌, ◌<◌, ◌++◌, length, codes, refl, ap, ◌∙◌, length-append, arith}
use Rattle.bus_semantics.specs.Common.{Session, made, run_begins, run_closes, idle, unsettled, Letters, item_text}
use Rattle.trace_reading.specs.Reads.{ItemsHaveOneLine, Reads}
use Rattle.trace_reading.specs.declared.reading.LineRead.{LineRead}
use Rattle.trace_reading.specs.declared.reading.LineRead.TheVariants as read
use Rattle.trace_check.specs.declared.rules.Rules.{Rules}
use Rattle.trace_check.specs.declared.check.Check.{Check}
use Rattle.trace_check.specs.declared.check.Judged.TheVariants.{Accepted}
use Rattle.trace_check.specs.Along.{plan_in}
use Rattle.trace_check.specs.Checking.{JudgesRead}
use Rattle.trace_check.specs.Lines.{Reaches}
use Rattle.trace_check.specs.Taking.{TakesLine}
use Rattle.trace_check.proofs.Reaching.{goes_on_more}

pub read_accepted : (r : Rules) (s : Session) (left first more : Letters) (l : LineRead) (new : Check) → left ≡ first ++ more → Reads r.version (plan_in r) first l → JudgesRead r s l new Accepted → TakesLine r s left more new
read_accepted r s left first more (read.Entry e) new whole reads judges = record { item = made e; fit = reads.fit; whole = whole ∙ ap (λ t. t ++ more) reads.text; stands = judges }
read_accepted r s left first more read.Run new whole reads judges = record { item = run_begins; fit = reads.fit; whole = whole ∙ ap (λ t. t ++ more) reads.text; stands = judges }
read_accepted r s left first more read.Idle new whole reads judges = record { item = run_closes idle; fit = reads.fit; whole = whole ∙ ap (λ t. t ++ more) reads.text; stands = judges }
read_accepted r s left first more read.Unsettled new whole reads judges = record { item = run_closes unsettled; fit = reads.fit; whole = whole ∙ ap (λ t. t ++ more) reads.text; stands = judges }
read_accepted r s left first more read.BadLine new whole reads judges = absurd (cc judges)

-- somewhere in the trace, whatever the number of the line
pub record IsAt (r : Rules) (trace : Letters) (c : Check) (left : Letters) : Type 0 where
  pub line : ℕ
  pub reached : Reaches r.version r trace c left line

pub next_at : (r : Rules) (trace : Letters) (old : Check) (left more : Letters) (at : IsAt r trace old left) (new : Check) → TakesLine r at.reached.session left more new → IsAt r trace new more
next_at r trace old left more at new takes = record {
  line = at.line + 1;
  reached = goes_on_more r.version r trace old left at.line at.reached (item_text r.version (plan_in r) takes.item) more takes.whole takes.item new (record { fit = takes.fit; text = refl }) takes.stands;
}

pub less_left : (r : Rules) (s : Session) (left more : Letters) (new : Check) → ItemsHaveOneLine (plan_in r) → TakesLine r s left more new → length more < length left
less_left r s left more new one_line takes =
    let line = one_line r.version takes.item takes.fit in
    let text = item_text r.version (plan_in r) takes.item in
    let long : length text ≡ length line.line + 1 = ap length line.whole ∙ length-append line.line (codes "\n") in
    let total : length left ≡ length text + length more = ap length takes.whole ∙ length-append text more in
    omega arith
