-- The fields of an entry, in which its line is written.
use Rattle.std.proofs.Common.{◌≡◌, ℕ, true, false, cond, List, [], ◌∷◌, ◌++◌, codes, decimal, Option, Some, None, refl, ap, ◌∙◌, append_assoc}
use Rattle.bus_semantics.specs.Common.{append-nil, Step, Value, elems_of, machine_itself, Plan, machine_of_port, Letters, actor_text, area_name, deed_text, elem_name, entry_text, event_name}
use Rattle.bus_semantics.specs.Common.{machine_name, mask_text, mode_port_name, mode_text, point_name, point_text, position_of, value_text}
use Rattle.rte_value.specs.declared.kinds.Step.TheVariants as step
use Rattle.bus_laws.specs.Common.{Actor, Deed, Entry, Version}
use Rattle.bus_semantics.specs.declared.entries.Deed.TheVariants as deed
use Rattle.trace_reading.proofs.Cutting.{line_of}

-- the word of a deed
abbrev pub word_of : Deed → Letters
word_of deed.Tick = codes "tick"
word_of (deed.Start event point value) = codes "start"
word_of (deed.Admit admitted) = codes "admit"
word_of (deed.Fetch x value) = codes "fetch"
word_of (deed.Write x value) = codes "write"
word_of (deed.Read x code value) = codes "read"
word_of (deed.Invalidate x) = codes "invalidate"
word_of (deed.IsUpdated x updated) = codes "isUpdated"
word_of (deed.Send x value code) = codes "send"
word_of (deed.Receive x code value) = codes "receive"
word_of (deed.Ask q value code) = codes "ask"
word_of (deed.Answer q code value) = codes "answer"
word_of (deed.TakeResult q code value) = codes "result"
word_of (deed.Return code value) = codes "return"
word_of (deed.Enter x) = codes "enter"
word_of (deed.Leave x) = codes "exit"
word_of (deed.Switch m mode code) = codes "switch"
word_of (deed.Mode port mode) = codes "mode"
word_of (deed.Phase s) = codes "phase"
word_of (deed.Publish x value) = codes "publish"
word_of (deed.FetchAll l value) = codes "fetchAll"
word_of (deed.PublishAll l written value) = codes "publishAll"
word_of deed.End = codes "end"

abbrev pub start_fields : Plan → (event : ℕ) → Option ℕ → Value → List Letters
start_fields p e None value = event_name p e ∷ []
start_fields p e (Some q) value = event_name p e ∷ codes "from" ∷ point_text p q ∷ value_text value ∷ []

abbrev pub step_fields : Version → Plan → Actor → Step → List Letters
step_fields v p a (step.Close mode) = codes "close" ∷ mode_text v p (machine_itself a) mode ∷ []
step_fields v p a step.Exit = codes "exit" ∷ []
step_fields v p a step.Transition = codes "transition" ∷ []
step_fields v p a step.Entry = codes "entry" ∷ []
step_fields v p a step.Stable = codes "stable" ∷ []

-- the fields behind it
abbrev pub fields_of : Version → Plan → Actor → Deed → List Letters
fields_of v p a deed.Tick = []
fields_of v p a (deed.Start event point value) = start_fields p event point value
fields_of v p a (deed.Admit admitted) = cond admitted (codes "yes") (codes "no") ∷ []
fields_of v p a (deed.Fetch x value) = elem_name p x ∷ value_text value ∷ []
fields_of v p a (deed.Write x value) = elem_name p x ∷ value_text value ∷ codes "0" ∷ []
fields_of v p a (deed.Read x code value) = elem_name p x ∷ decimal code ∷ value_text value ∷ []
fields_of v p a (deed.Invalidate x) = elem_name p x ∷ codes "0" ∷ []
fields_of v p a (deed.IsUpdated x updated) = elem_name p x ∷ cond updated (codes "1") (codes "0") ∷ []
fields_of v p a (deed.Send x value code) = elem_name p x ∷ value_text value ∷ decimal code ∷ []
fields_of v p a (deed.Receive x code value) = elem_name p x ∷ decimal code ∷ value_text value ∷ []
fields_of v p a (deed.Ask q value code) = point_name p q ∷ value_text value ∷ decimal code ∷ []
fields_of v p a (deed.Answer q code value) = point_name p q ∷ decimal code ∷ value_text value ∷ []
fields_of v p a (deed.TakeResult q code value) = point_name p q ∷ decimal code ∷ value_text value ∷ []
fields_of v p a (deed.Return code value) = decimal code ∷ value_text value ∷ []
fields_of v p a (deed.Enter x) = area_name p x ∷ []
fields_of v p a (deed.Leave x) = area_name p x ∷ []
fields_of v p a (deed.Switch m mode code) = machine_name p m ∷ mode_text v p (Some m) mode ∷ decimal code ∷ []
fields_of v p a (deed.Mode port mode) = mode_port_name p port ∷ mode_text v p (machine_of_port p port) mode ∷ []
fields_of v p a (deed.Phase s) = step_fields v p a s
fields_of v p a (deed.Publish x value) = elem_name p x ∷ value_text value ∷ []
fields_of v p a (deed.FetchAll l value) = decimal (position_of p l) ∷ value_text value ∷ []
fields_of v p a (deed.PublishAll l written value) = decimal (position_of p l) ∷ mask_text written (elems_of p l) ∷ value_text value ∷ []
fields_of v p a deed.End = []

three_fields : (word a b c : Letters) → word ++ a ++ 32 ∷ b ++ 32 ∷ c ≡ word ++ (a ++ 32 ∷ (b ++ 32 ∷ c))
three_fields word a b c = append_assoc (word ++ a) (32 ∷ b) (32 ∷ c) ∙ append_assoc word a (32 ∷ (b ++ 32 ∷ c))

deed-line : (v : Version) (p : Plan) (a : Actor) (d : Deed) → deed_text v p a d ≡ line_of (word_of d) (fields_of v p a d)
deed-line v p a deed.Tick = refl
deed-line v p a (deed.Start event None value) = ap (λ t. codes "start " ++ t) (append-nil (event_name p event))
deed-line v p a (deed.Start event (Some q) value) = refl
deed-line v p a (deed.Admit true) = refl
deed-line v p a (deed.Admit false) = refl
deed-line v p a (deed.Fetch x value) = refl
deed-line v p a (deed.Write x value) = three_fields (codes "write ") (elem_name p x) (value_text value) (codes "0")
deed-line v p a (deed.Read x code value) = three_fields (codes "read ") (elem_name p x) (decimal code) (value_text value)
deed-line v p a (deed.Invalidate x) = refl
deed-line v p a (deed.IsUpdated x true) = refl
deed-line v p a (deed.IsUpdated x false) = refl
deed-line v p a (deed.Send x value code) = three_fields (codes "send ") (elem_name p x) (value_text value) (decimal code)
deed-line v p a (deed.Receive x code value) = three_fields (codes "receive ") (elem_name p x) (decimal code) (value_text value)
deed-line v p a (deed.Ask q value code) = three_fields (codes "ask ") (point_name p q) (value_text value) (decimal code)
deed-line v p a (deed.Answer q code value) = three_fields (codes "answer ") (point_name p q) (decimal code) (value_text value)
deed-line v p a (deed.TakeResult q code value) = three_fields (codes "result ") (point_name p q) (decimal code) (value_text value)
deed-line v p a (deed.Return code value) = refl
deed-line v p a (deed.Enter x) = refl
deed-line v p a (deed.Leave x) = refl
deed-line v p a (deed.Switch m mode code) = three_fields (codes "switch ") (machine_name p m) (mode_text v p (Some m) mode) (decimal code)
deed-line v p a (deed.Mode port mode) = refl
deed-line v p a (deed.Phase (step.Close mode)) = refl
deed-line v p a (deed.Phase step.Exit) = refl
deed-line v p a (deed.Phase step.Transition) = refl
deed-line v p a (deed.Phase step.Entry) = refl
deed-line v p a (deed.Phase step.Stable) = refl
deed-line v p a (deed.Publish x value) = refl
deed-line v p a (deed.FetchAll l value) = refl
deed-line v p a (deed.PublishAll l written value) = three_fields (codes "publishAll ") (decimal (position_of p l)) (mask_text written (elems_of p l)) (value_text value)
deed-line v p a deed.End = refl

-- the line without its newline
abbrev pub text_of : Version → Plan → Entry → Letters
text_of v p e = line_of (actor_text p e.actor) (word_of e.deed ∷ fields_of v p e.actor e.deed)

pub entry-line : (v : Version) (p : Plan) (e : Entry) → entry_text v p e ≡ text_of v p e ++ codes "\n"
entry-line v p e = ap (λ t. actor_text p e.actor ++ 32 ∷ t ++ codes "\n") (deed-line v p e.actor e.deed)
