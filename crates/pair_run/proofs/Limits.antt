-- What the environment does by orders that keep the limits of a plan keeps them too.
use Rattle.std.proofs.Common.{◌≡◌, ℕ, zero, suc, Bool, true, List, [], ◌∷◌, ◌++◌, replicate, refl, sym, ap, ◌∙◌}
use Rattle.bus_semantics.specs.Common.{list_all, and_from, and_parts, list_all-append, History, Plan, Session, made, run_begins, run_closes, history_of, Ordered, a_run, a_call, orders_of}
use Rattle.bus_semantics.specs.Common.{orders_of_entry, orders_of_script, to_tick}
use Rattle.bus_laws.specs.Common.{Actor, Env, Deed, Entry}
use Rattle.bus_semantics.specs.declared.entries.Deed.TheVariants as deed
use Rattle.bus_semantics.specs.declared.script.Line.TheVariants as line
use Rattle.script_reading.specs.Meaning as asked
use Rattle.pair_run.specs.Sent.{EnvironmentKeepsLimits, keeps_limits}
use Rattle.pair_run.specs.Running as pair

-- an order that keeps the limits
abbrev pub order_keeps : Plan → Ordered → Bool
order_keeps p a_run = true
order_keeps p (a_call w) = pair.keeps_limits p (asked.a_call w)

abbrev pub orders_keep : Plan → List Ordered → Bool
orders_keep p os = list_all (order_keeps p) os

entry_keeps : (p : Plan) (a : Actor) (d : Deed) → orders_keep p (orders_of_entry (record { actor = a; deed = d })) ≡ true → keeps_limits p a d ≡ true
entry_keeps p Env (deed.Send x value code) h = (and_parts _ true h).0
entry_keeps p a d h = refl

pub session_keeps : (p : Plan) (s : Session) → orders_keep p (orders_of s) ≡ true → EnvironmentKeepsLimits p (history_of s)
session_keeps p [] h = refl
session_keeps p (made e ∷ s) h =
    let two = and_parts (orders_keep p (orders_of s)) (orders_keep p (orders_of_entry e)) (sym (list_all-append (order_keeps p) (orders_of s) (orders_of_entry e)) ∙ h) in
    and_from (keeps_limits p e.actor e.deed) _ (entry_keeps p e.actor e.deed two.1) (session_keeps p s two.0)
session_keeps p (run_begins ∷ s) h =
    session_keeps p s (and_parts (orders_keep p (orders_of s)) true (sym (list_all-append (order_keeps p) (orders_of s) (a_run ∷ [])) ∙ h)).0
session_keeps p (run_closes word ∷ s) h = session_keeps p s h

pub history-append : (a b : Session) → history_of (a ++ b) ≡ history_of a ++ history_of b
history-append [] b = refl
history-append (made e ∷ a) b = ap (λ (h : History). e ∷ h) (history-append a b)
history-append (run_begins ∷ a) b = history-append a b
history-append (run_closes word ∷ a) b = history-append a b

pub keeps_onto : (p : Plan) (a b : Session) → EnvironmentKeepsLimits p (history_of a) → EnvironmentKeepsLimits p (history_of b) → EnvironmentKeepsLimits p (history_of (a ++ b))
keeps_onto p a b x y =
    ap (list_all (λ (e : Entry). keeps_limits p e.actor e.deed)) (history-append a b)
    ∙ list_all-append (λ (e : Entry). keeps_limits p e.actor e.deed) (history_of a) (history_of b)
    ∙ and_from (list_all (λ (e : Entry). keeps_limits p e.actor e.deed) (history_of a)) _ x y

-- ---- lines of a script

ticks_keep : (p : Plan) (n : ℕ) → orders_keep p (replicate n (a_call to_tick)) ≡ true
ticks_keep p zero = refl
ticks_keep p (suc n) = ticks_keep p n

pub tick_keeps : (p : Plan) (n : ℕ) → orders_keep p (orders_of_script (line.Tick n ∷ [])) ≡ true
tick_keeps p n =
    list_all-append (order_keeps p) (replicate n (a_call to_tick)) []
    ∙ and_from (orders_keep p (replicate n (a_call to_tick))) true (ticks_keep p n) refl
