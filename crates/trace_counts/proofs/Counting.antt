-- What is counted of the line of an item.
use Rattle.std.proofs.Common.{◌≡◌, ℕ, zero, suc, ◌<◌, length, take, get_or, true, false, cond, ◌==◌, ◌||◌, List, [], ◌∷◌, ◌++◌, bytes_eq, decimal, codes, Some, None, refl, ap, ◌∙◌, arith}
use Rattle.bus_semantics.specs.Common.{list_all, and_parts, eqb-true, false_from_ne_true, Plan, Item, made, run_begins, run_closes, idle, unsettled, Letters, actor_text, item_text}
use Rattle.rte_value.specs.declared.kinds.Step.TheVariants as step
use Rattle.bus_semantics.specs.declared.entries.Actor.{Actor}
use Rattle.bus_semantics.specs.declared.entries.Deed.{Deed}
use Rattle.bus_semantics.specs.declared.entries.Deed.TheVariants as deed
use Rattle.bus_semantics.specs.declared.version.Version.{Version}
use Rattle.trace_counts.specs.declared.numbers.Mark.{Mark}
use Rattle.trace_counts.specs.declared.numbers.Mark.TheVariants.{Run, Idle, Sent, SentAtLimit, Taken, Asked, AskedAtLimit, Answered, Other}
use Rattle.trace_counts.specs.declared.numbers.Numbers.{Numbers}
use Rattle.trace_counts.specs.declared.tally.Tally.{Tally}
use Rattle.trace_counts.specs.Lines.{Begun, closed, mark_of, nothing_begun, with_byte}
use Rattle.trace_counts.specs.Numbers.{counted}
use Rattle.trace_counts.specs.Tallies.{after, stepped}
use Rattle.trace_counts.proofs.Codes.{code_0, code_64, code_130, grown}
use Rattle.trace_reading.proofs.Cutting.{are_visible, is_visible, line_of}
use Rattle.trace_reading.proofs.Visible.{actor_visible, deed_visible}
use Rattle.trace_reading.proofs.Lines.{entry-line, fields_of, word_of}
use Rattle.trace_reading.proofs.Naming.{IsNamed}

abbrev pub stands : Begun → Numbers → Tally
stands l n = record { line = l; numbers = n }

-- ---- a text with no space and no newline

seen : (s c : ℕ) → is_visible s ≡ false → is_visible c ≡ true → (c == s) ≡ false
seen s c none h = false_from_ne_true (c == s) (λ e. let same : is_visible c ≡ is_visible s = ap is_visible (eqb-true c s e) in absurd (cc))

step_told : (c : ℕ) → is_visible c ≡ true → (l : Begun) (n : Numbers) → stepped (stands l n) c ≡ stands (with_byte l c) n
step_told c h l n =
    ap (λ b. cond b (stands nothing_begun (counted (mark_of l) n)) (cond (c == 32) (stands (closed l) n) (stands (with_byte l c) n))) (seen 10 c refl h)
    ∙ ap (λ b. cond b (stands (closed l) n) (stands (with_byte l c) n)) (seen 32 c refl h)

abbrev pub with_text : Begun → Letters → Begun
with_text l t = record { place = l.place; field = grown l.field t; first = l.first; word = l.word; third = l.third; fourth = l.fourth }

text_told : (t : Letters) → are_visible t ≡ true → (l : Begun) (n : Numbers) → after (stands l n) t ≡ stands (with_text l t) n
text_told [] h l n = refl
text_told (c ∷ cs) h l n =
    let two = and_parts (is_visible c) (are_visible cs) h in
    ap (λ (t : Tally). after t cs) (step_told c two.0 l n) ∙ text_told cs two.1 (with_byte l c) n

-- one byte more
pub after_more : (t : Tally) (xs : List ℕ) (i : ℕ) → i < length xs → after t (take (suc i) xs) ≡ stepped (after t (take i xs)) (get_or xs i 0)
after_more t [] i h = absurd (omega arith)
after_more t (x ∷ xs) zero h = refl
after_more t (x ∷ xs) (suc i) h = after_more (stepped t x) xs i (omega (arith, h))

-- ---- fields

pub after-append : (t : Tally) (a b : Letters) → after t (a ++ b) ≡ after (after t a) b
after-append t [] b = refl
after-append t (c ∷ cs) b = after-append (stepped t c) cs b

abbrev pub with_fields : Begun → Letters → List Letters → Begun
with_fields l t [] = with_text l t
with_fields l t (u ∷ us) = with_fields (closed (with_text l t)) u us

line_told : (t : Letters) (ts : List Letters) → are_visible t ≡ true → list_all are_visible ts ≡ true → (l : Begun) (n : Numbers)
    → after (stands l n) (line_of t ts) ≡ stands (with_fields l t ts) n
line_told t [] h k l n = text_told t h l n
line_told t (u ∷ us) h k l n =
    let two = and_parts (are_visible u) (list_all are_visible us) k in
    after-append (stands l n) t (32 ∷ line_of u us)
    ∙ ap (λ (x : Tally). after x (32 ∷ line_of u us)) (text_told t h l n)
    ∙ line_told u us two.0 two.1 (closed (with_text l t)) n

line_ended : (t : Letters) (ts : List Letters) → are_visible t ≡ true → list_all are_visible ts ≡ true → (n : Numbers)
    → after (stands nothing_begun n) (line_of t ts ++ codes "\n") ≡ stands nothing_begun (counted (mark_of (with_fields nothing_begun t ts)) n)
line_ended t ts h k n =
    after-append (stands nothing_begun n) (line_of t ts) (codes "\n")
    ∙ ap (λ (x : Tally). after x (codes "\n")) (line_told t ts h k nothing_begun n)

-- ---- what an item counts as

abbrev pub mark_of_deed : Deed → Mark
mark_of_deed (deed.Send x value code) = cond (code == 130) SentAtLimit Sent
mark_of_deed (deed.Receive x code value) = cond ((code == 0) || (code == 64)) Taken Other
mark_of_deed (deed.Ask q value code) = cond (code == 130) AskedAtLimit (cond (code == 0) Asked Other)
mark_of_deed (deed.Answer q code value) = cond (code == 0) Answered Other
mark_of_deed _ = Other

abbrev pub mark_of_item : Item → Mark
mark_of_item (made e) = mark_of_deed e.deed
mark_of_item run_begins = Run
mark_of_item (run_closes idle) = Idle
mark_of_item (run_closes unsettled) = Other

deed_mark : (v : Version) (p : Plan) (a : Actor) (d : Deed) (who : Letters) → mark_of (with_fields nothing_begun who (word_of d ∷ fields_of v p a d)) ≡ mark_of_deed d
deed_mark v p a deed.Tick who = refl
deed_mark v p a (deed.Start event None value) who = refl
deed_mark v p a (deed.Start event (Some q) value) who = refl
deed_mark v p a (deed.Admit admitted) who = refl
deed_mark v p a (deed.Fetch x value) who = refl
deed_mark v p a (deed.Write x value) who = refl
deed_mark v p a (deed.Read x code value) who = refl
deed_mark v p a (deed.Invalidate x) who = refl
deed_mark v p a (deed.IsUpdated x updated) who = refl
deed_mark v p a (deed.Send x value code) who = ap (λ b. cond b SentAtLimit Sent) (code_130 code)
deed_mark v p a (deed.Receive x code value) who =
    ap (λ b. cond (b || bytes_eq (grown [] (decimal code)) (codes "64")) Taken Other) (code_0 code) ∙ ap (λ b. cond ((code == 0) || b) Taken Other) (code_64 code)
deed_mark v p a (deed.Ask q value code) who =
    ap (λ b. cond b AskedAtLimit (cond (bytes_eq (grown [] (decimal code)) (codes "0")) Asked Other)) (code_130 code) ∙ ap (λ b. cond (code == 130) AskedAtLimit (cond b Asked Other)) (code_0 code)
deed_mark v p a (deed.Answer q code value) who = ap (λ b. cond b Answered Other) (code_0 code)
deed_mark v p a (deed.TakeResult q code value) who = refl
deed_mark v p a (deed.Return code value) who = refl
deed_mark v p a (deed.Enter x) who = refl
deed_mark v p a (deed.Leave x) who = refl
deed_mark v p a (deed.Switch m mode code) who = refl
deed_mark v p a (deed.Mode port mode) who = refl
deed_mark v p a (deed.Phase (step.Close mode)) who = refl
deed_mark v p a (deed.Phase step.Exit) who = refl
deed_mark v p a (deed.Phase step.Transition) who = refl
deed_mark v p a (deed.Phase step.Entry) who = refl
deed_mark v p a (deed.Phase step.Stable) who = refl
deed_mark v p a (deed.Publish x value) who = refl
deed_mark v p a (deed.FetchAll l value) who = refl
deed_mark v p a (deed.PublishAll l written value) who = refl
deed_mark v p a deed.End who = refl

pub item_told : (v : Version) (p : Plan) → IsNamed p → (i : Item) (n : Numbers) → after (stands nothing_begun n) (item_text v p i) ≡ stands nothing_begun (counted (mark_of_item i) n)
item_told v p r (made e) n =
    ap (λ t. after (stands nothing_begun n) t) (entry-line v p e)
    ∙ line_ended (actor_text p e.actor) (word_of e.deed ∷ fields_of v p e.actor e.deed) (actor_visible p r e.actor) (deed_visible p r v e.actor e.deed) n
    ∙ ap (λ m. stands nothing_begun (counted m n)) (deed_mark v p e.actor e.deed (actor_text p e.actor))
item_told v p r run_begins n = refl
item_told v p r (run_closes idle) n = refl
item_told v p r (run_closes unsettled) n = refl
