-- What the lines of a script of two nodes are.
use Rattle.std.proofs.Common.{◌≡◌, true, List, [], ◌∷◌, map, refl, ap, ◌∙◌}
use Rattle.bus_semantics.specs.Common.{All, list_all, and_from, and_parts, All-head, All-nil, All-tail, list_all-append, wish_fits, Plan, Letters, to_send}
use Rattle.std.proofs.lemmas.List.Elements.{All-cons}
use Rattle.bus_laws.specs.Common.{Env, Line}
use Rattle.line_fields.specs.Numbers.{are_held}
use Rattle.line_fields.specs.Texts.{lines_of}
use Rattle.script_reading.specs.declared.forms.Form.TheVariants.{Send}
use Rattle.script_reading.specs.Carried.{IsCarriable}
use Rattle.script_reading.specs.Common.{Asked, a_call, asked_of, Saying, nothing, asks, is_bad, saying, takes, IsScriptBy, asked_by, asked_in, saying_around, may_ask}
use Rattle.script_reading.specs.Reserved.{keeps_off}
use Rattle.script_reading.proofs.Asking.{saying_asks}
use Rattle.script_reading.proofs.Carrying.{script_is_carriable}
use Rattle.script_reading.proofs.Reserving.{is_around}
use Rattle.signal_link.specs.declared.link_elem.LinkElem.{LinkElem}
use Rattle.pair_run.specs.Linked.{linked_in}
use Rattle.pair_run.specs.Running.{IsPairLine, keeps_limits}

asked_keeps : (p : Plan) (a : Asked) → may_ask p a ≡ true → keeps_limits p a ≡ true
asked_keeps p (a_call (to_send x ws)) may = (and_parts (are_held ws) _ (and_parts (wish_fits p Env (to_send x ws)) (takes Send p x ws) may).1).1
asked_keeps p a may = refl

line_keeps : (p : Plan) (t : Letters) (s : Saying) → saying p t ≡ s → list_all (keeps_limits p) (asked_by s) ≡ true
line_keeps p t nothing is = refl
line_keeps p t (asks a) is = and_from (keeps_limits p a) true (asked_keeps p a (saying_asks p t a is).spelling.may) refl
line_keeps p t (is_bad cause) is = refl

all_keep : (p : Plan) (ts : List Letters) → list_all (keeps_limits p) (asked_in (saying p) ts) ≡ true
all_keep p [] = refl
all_keep p (t ∷ ts) =
    list_all-append (keeps_limits p) (asked_by (saying p t)) (asked_in (saying p) ts)
    ∙ and_from (list_all (keeps_limits p) (asked_by (saying p t))) _ (line_keeps p t (saying p t) refl) (all_keep p ts)

are_pair_lines : (p : Plan) (links : List LinkElem) (lines : List Line) → All (IsCarriable p) lines → list_all (keeps_off (linked_in p links)) (map asked_of lines) ≡ true
    → list_all (keeps_limits p) (map asked_of lines) ≡ true → All (IsPairLine p links) lines
are_pair_lines p links [] fit off keep = All-nil (IsPairLine p links)
are_pair_lines p links (l ∷ lines) fit off keep =
    let offs = and_parts (keeps_off (linked_in p links) (asked_of l)) _ off in
    let keeps = and_parts (keeps_limits p (asked_of l)) _ keep in
    All-cons (IsPairLine p links) l lines (record { carriable = All-head (IsCarriable p) l lines fit; off = offs.0; limits = keeps.0 })
    (are_pair_lines p links lines (All-tail (IsCarriable p) l lines fit) offs.1 keeps.1)

pub pair_lines : (p : Plan) (links : List LinkElem) (bytes : Letters) (lines : List Line) → IsScriptBy (saying_around p (linked_in p links)) bytes lines → All (IsPairLine p links) lines
pair_lines p links bytes lines s =
    let both = (is_around p (linked_in p links) bytes lines).0 s in
    are_pair_lines p links lines (script_is_carriable p bytes lines both.0) both.1
    (ap (list_all (keeps_limits p)) both.0.lines_are ∙ all_keep p (lines_of bytes))
