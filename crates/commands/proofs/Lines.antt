-- The number of a line that a verdict names is a short one.
use Rattle.std.proofs.Common.{◌≡◌, ◌+◌, ◌≤◌, List, [], ◌∷◌, ◌++◌, length, length-append, arith, ◌∙◌, ap, inl, inr, true}
use Rattle.std.specs.Prelude.{codes}
use Rattle.bus_semantics.specs.Common.{list_all, and_parts, Plan, plan_of, item_fits, Session, IsSound, Letters, item_text, spelling_of}
use Rattle.bus_semantics.specs.declared.script.Line.{Line}
use Rattle.bus_semantics.specs.declared.script.Mapping.{Mapping}
use Rattle.bus_semantics.specs.declared.version.Version.{Version}
use Rattle.trace_reading.specs.declared.checked.Checked.{Checked}
use Rattle.trace_reading.specs.declared.checked.Checked.TheVariants.{Legal, BadLine, Illegal}
use Rattle.trace_reading.specs.Verdicts.{IsVerdict, GoesOn}
use Rattle.trace_reading.specs.Reads.{ItemsHaveOneLine}
use Rattle.commands.specs.declared.stop.Finding.{Finding}
use Rattle.commands.specs.declared.stop.Finding.TheVariants as finding
use Rattle.commands.specs.declared.stop.Stop.{Stop}
use Rattle.commands.specs.CheckCommand.{IsCheckFinding}
use Rattle.commands.specs.Commands.{Bytes}
use Rattle.commands.specs.Judging.{IsNotLegal}
use Rattle.commands.specs.Texts.{IsShort, IsShortFinding, IsShortVerdict}
use Rattle.commands.proofs.Judging.{found_short, short_by}

module _ (v : Version) (p : Plan) (one_line : ItemsHaveOneLine p) where
  spelling_fits : (s : Session) → list_all (item_fits p) s ≡ true → length s ≤ length (spelling_of v p s)
  spelling_fits [] fit = omega arith
  spelling_fits (i ∷ s) fit =
      let both = and_parts (item_fits p i) (list_all (item_fits p) s) fit in
      let line = one_line v i both.0 in
      let whole : length (item_text v p i) ≡ length line.line + 1 = ap length line.whole ∙ length-append line.line (codes "\n") in
      let some : 1 ≤ length (item_text v p i) = omega (arith, whole) in
      let rest = spelling_fits s both.1 in
      omega (arith, some, rest, length-append (spelling_of v p s) (item_text v p i))

goes_short : (v : Version) (p : Plan) (m : Mapping) (script : List Line) (trace left : Letters) (s : Session) → ItemsHaveOneLine p → GoesOn v p m script trace s left → length s ≤ length trace
goes_short v p m script trace left s one_line on =
    let fits = spelling_fits v p one_line s on.fit in
    let whole = ap length on.text in
    omega (arith, fits, whole, length-append (spelling_of v p s) left)

pub verdict_short : (p : Plan) (m : Mapping) (script : List Line) (trace : Letters) → ItemsHaveOneLine p → length trace ≤ 8388608 → (verdict : Checked) → IsVerdict p m script trace verdict → IsShortVerdict verdict
verdict_short p m script trace one_line few Legal is = tt
verdict_short p m script trace one_line few (BadLine line) (inl x) = omega (arith, x.line_is)
verdict_short p m script trace one_line few (BadLine line) (inr x) = omega (arith, x.line_is, few, goes_short x.version p m script trace x.left x.session one_line x.so_far)
verdict_short p m script trace one_line few (Illegal line clause) (inl (inl x)) = omega (arith, x.line_is)
verdict_short p m script trace one_line few (Illegal line clause) (inl (inr x)) = omega (arith, x.line_is, few, goes_short x.version p m script trace [] x.session one_line x.so_far)
verdict_short p m script trace one_line few (Illegal line clause) (inr x) =
    omega (arith, x.line_is, few, goes_short x.version p m script trace (item_text x.version p x.item ++ x.more) x.session one_line x.so_far)

pub check_short : ((p : Plan) (m : Mapping) → IsSound p m → ItemsHaveOneLine p) → (d t s : Bytes) → length t ≤ 8388608 → length s ≤ 8388608 → (why : Stop) → IsNotLegal d t s why → IsShort why
check_short one_line d t s trace_fits script_fits why is = short_by (IsCheckFinding d t s) by why is
  where
    by : (found : Finding) → IsCheckFinding d t s found → IsShortFinding found
    by (finding.Refused refusal) is = tt
    by (finding.Script line cause) is = found_short d s script_fits (finding.Script line cause) is
    by finding.NoComponent is = absurd is
    by (finding.Clash name) is = absurd is
    by (finding.RefusedOf refusal which) is = absurd is
    by finding.NoLink is = absurd is
    by finding.TooManyCores is = absurd is
    by (finding.Trace checked) is = let read = is.1 in
        verdict_short (plan_of read.found.plan) read.found.mapping read.lines t (one_line (plan_of read.found.plan) read.found.mapping read.inputs.described.is_sound) trace_fits checked read.verdict
