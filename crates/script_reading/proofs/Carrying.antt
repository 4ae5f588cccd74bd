-- What a line of a script asks for is what the environment may carry out.
use Rattle.std.proofs.Common.{◌≡◌, suc, true, List, [], ◌∷◌, map, refl, sym, subst, arith}
use Rattle.bus_semantics.specs.Common.{All, and_parts, All-nil, wish_fits, Plan, Letters, Wanted, to_tick, to_write, to_send, to_ask}
use Rattle.std.proofs.lemmas.List.Elements.{All-append, All-cons}
use Rattle.bus_semantics.specs.declared.entries.Actor.TheVariants.{Env}
use Rattle.bus_semantics.specs.declared.script.Line.{Line}
use Rattle.bus_semantics.specs.declared.script.Line.TheVariants as line
use Rattle.script_reading.specs.Common.{Write, Send, Ask, Asked, ticks, a_run, a_call, asked_of, Saying, nothing, asks, is_bad, saying, takes, IsScript, asked_by, asked_in, may_ask}
use Rattle.script_reading.specs.Common.{may_call}
use Rattle.script_reading.specs.Carried.{IsCarriable}
use Rattle.line_fields.specs.Texts.{lines_of}
use Rattle.script_reading.proofs.Asking.{saying_asks}

-- the environment may carry out what is asked for
abbrev IsFit : Plan → Asked → Type 0
IsFit p (ticks n) = Unit {0}
IsFit p a_run = Unit {0}
IsFit p (a_call w) = wish_fits p Env w ≡ true

pub call_fits : (p : Plan) (w : Wanted) → may_call p w ≡ true → wish_fits p Env w ≡ true
call_fits p to_tick may = absurd (cc)
call_fits p (to_write x ws) may = (and_parts (wish_fits p Env (to_write x ws)) (takes Write p x ws) may).0
call_fits p (to_send x ws) may = (and_parts (wish_fits p Env (to_send x ws)) (takes Send p x ws) may).0
call_fits p (to_ask q ws) may = (and_parts (wish_fits p Env (to_ask q ws)) (takes Ask p q ws) may).0
call_fits p w may = may

asked_fit : (p : Plan) (a : Asked) → may_ask p a ≡ true → IsFit p a
asked_fit p (ticks n) may = tt
asked_fit p a_run may = tt
asked_fit p (a_call w) may = call_fits p w may

line_fits : (p : Plan) (t : Letters) (s : Saying) → saying p t ≡ s → All (IsFit p) (asked_by s)
line_fits p t nothing is = All-nil (IsFit p)
line_fits p t (asks a) is = All-cons (IsFit p) a [] (asked_fit p a (saying_asks p t a is).spelling.may) (All-nil (IsFit p))
line_fits p t (is_bad cause) is = All-nil (IsFit p)

all_fit : (p : Plan) (ts : List Letters) → All (IsFit p) (asked_in (saying p) ts)
all_fit p [] = All-nil (IsFit p)
all_fit p (t ∷ ts) = All-append (IsFit p) (asked_by (saying p t)) (asked_in (saying p) ts) (line_fits p t (saying p t) refl) (all_fit p ts)

line_is_carriable : (p : Plan) (l : Line) → IsFit p (asked_of l) → IsCarriable p l
line_is_carriable p (line.Tick n) fit = tt
line_is_carriable p line.Run fit = tt
line_is_carriable p (line.Call w) fit = fit

are_carriable : (p : Plan) (lines : List Line) → All (IsFit p) (map asked_of lines) → All (IsCarriable p) lines
are_carriable p [] fit = All-nil (IsCarriable p)
are_carriable p (l ∷ lines) fit =
    All-cons (IsCarriable p) l lines (line_is_carriable p l (fit 0 (asked_of l) (omega arith)))
    (are_carriable p lines (λ k d h. fit (suc k) d (omega arith)))

pub script_is_carriable : (p : Plan) (bytes : Letters) (lines : List Line) → IsScript p bytes lines → All (IsCarriable p) lines
script_is_carriable p bytes lines s = are_carriable p lines (subst (All (IsFit p)) (sym s.lines_are) (all_fit p (lines_of bytes)))
