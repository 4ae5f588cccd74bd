-- Over any plan the bytes of the script are the script, and no other.
use Rattle.std.proofs.Common.{◌≡◌, ℕ, zero, suc, List, [], ◌∷◌, map, refl, sym, ap, ◌∙◌, subst}
use Rattle.bus_semantics.specs.declared.script.Line.{Line}
use Rattle.bus_semantics.specs.declared.script.Line.TheVariants.{Tick, Run, Call}
use Rattle.bus_semantics.specs.Common.{Plan, Letters}
use Rattle.script_reading.specs.Common.{asked_of, ticks, a_run, IsScript}
use Rattle.soak_maker.specs.Script.{round_lines, rounds, soak_lines}

soak_script : (p : Plan) → IsScript p (rounds 20) soak_lines
soak_script p = record { good = refl; lines_are = refl }

pub is_script : (bytes : Letters) → bytes ≡ rounds 20 → (p : Plan) → IsScript p bytes soak_lines
is_script bytes same p = subst (λ b. IsScript p b soak_lines) (sym same) (soak_script p)

-- ---- no other

a_tick : (l : Line) → asked_of l ≡ ticks 10 → l ≡ Tick 10
a_tick (Tick n) e = let same : n ≡ 10 = cc in ap (λ m. Tick m) same
a_tick Run e = absurd (cc)
a_tick (Call w) e = absurd (cc)

a_run_line : (l : Line) → asked_of l ≡ a_run → l ≡ Run
a_run_line (Tick n) e = absurd (cc)
a_run_line Run e = refl
a_run_line (Call w) e = absurd (cc)

rounds_back : (n : ℕ) (lines : List Line) → map asked_of lines ≡ map asked_of (round_lines n) → lines ≡ round_lines n
rounds_back zero [] e = refl
rounds_back zero (l ∷ ls) e = absurd (cc)
rounds_back (suc n) [] e = absurd (cc)
rounds_back (suc n) (l ∷ []) e = absurd (cc)
rounds_back (suc n) (l ∷ m ∷ ls) e =
    let first : l ≡ Tick 10 = a_tick l (cc) in
    let second : m ≡ Run = a_run_line m (cc) in
    let rest : ls ≡ round_lines n = rounds_back n ls (cc) in
    rw (first, second, rest) refl

pub is_only_script : (bytes : Letters) → bytes ≡ rounds 20 → (p : Plan) (lines : List Line) → IsScript p bytes lines → lines ≡ soak_lines
is_only_script bytes same p lines k = rounds_back 20 lines (k.lines_are ∙ sym (is_script bytes same p).lines_are)
