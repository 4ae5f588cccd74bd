-- What is counted of the text of a session is what the session did.
use Rattle.std.proofs.Common.{◌≡◌, ℕ, suc, min, Bool, true, false, cond, ◌==◌, ◌||◌, [], ◌∷◌, length, filter, refl, ap, ◌∙◌, arith}
use Rattle.bus_semantics.specs.Common.{eqb-true, Plan, Item, made, run_begins, run_closes, idle, unsettled, Session, IsSound, item_text, spelling_of}
use Rattle.bus_semantics.specs.declared.entries.Actor.{Actor}
use Rattle.bus_semantics.specs.declared.entries.Deed.{Deed}
use Rattle.bus_semantics.specs.declared.entries.Deed.TheVariants as deed
use Rattle.bus_semantics.specs.declared.script.Mapping.{Mapping}
use Rattle.bus_semantics.specs.declared.version.Version.{Version}
use Rattle.bus_semantics.specs.declared.version.Version.TheVariants.{One, Two}
use Rattle.trace_counts.specs.declared.numbers.Mark.TheVariants.{Sent, SentAtLimit, Taken, Asked, AskedAtLimit, Answered, Other}
use Rattle.trace_counts.specs.declared.tally.Tally.{Tally}
use Rattle.trace_counts.specs.Lines.{nothing_begun}
use Rattle.trace_counts.specs.Numbers.{counted, most, next}
use Rattle.trace_counts.specs.Sessions.{count, did, is_accepted_ask, is_at_limit, is_good_answer, is_idle, is_run, is_send, is_taking, numbers_of}
use Rattle.trace_counts.specs.Tallies.{after, nothing_told, numbers_in, tally_of}
use Rattle.trace_counts.proofs.Counting.{after-append, item_told, mark_of_deed, mark_of_item, stands}
use Rattle.trace_reading.proofs.Naming.{IsNamed, named, readable}

one_more : (n : ℕ) → next (min n most) ≡ min (suc n) most
one_more n = omega arith

-- ---- one item more

-- whether a test that the item may pass is passed
abbrev with_item : Bool → Item → Session → Session
with_item b i found = cond b (i ∷ found) found

sends_more : (b : Bool) (i : Item) (s : Session) → counted (cond b SentAtLimit Sent) (numbers_of s) ≡ record {
  runs = count is_run s;
  idle = count is_idle s;
  sends = min (suc (length (filter (did is_send) s))) most;
  taken = count (did is_taking) s;
  limits = min (length (with_item b i (filter (did is_at_limit) s))) most;
  asks = count (did is_accepted_ask) s;
  answers = count (did is_good_answer) s;
}
sends_more true i s = λ k. record {
  runs = count is_run s;
  idle = count is_idle s;
  sends = one_more (length (filter (did is_send) s)) k;
  taken = count (did is_taking) s;
  limits = one_more (length (filter (did is_at_limit) s)) k;
  asks = count (did is_accepted_ask) s;
  answers = count (did is_good_answer) s;
}
sends_more false i s = λ k. record {
  runs = count is_run s;
  idle = count is_idle s;
  sends = one_more (length (filter (did is_send) s)) k;
  taken = count (did is_taking) s;
  limits = count (did is_at_limit) s;
  asks = count (did is_accepted_ask) s;
  answers = count (did is_good_answer) s;
}

takes_more : (b : Bool) (i : Item) (s : Session) → counted (cond b Taken Other) (numbers_of s) ≡ record {
  runs = count is_run s;
  idle = count is_idle s;
  sends = count (did is_send) s;
  taken = min (length (with_item b i (filter (did is_taking) s))) most;
  limits = count (did is_at_limit) s;
  asks = count (did is_accepted_ask) s;
  answers = count (did is_good_answer) s;
}
takes_more true i s = λ k. record {
  runs = count is_run s;
  idle = count is_idle s;
  sends = count (did is_send) s;
  taken = one_more (length (filter (did is_taking) s)) k;
  limits = count (did is_at_limit) s;
  asks = count (did is_accepted_ask) s;
  answers = count (did is_good_answer) s;
}
takes_more false i s = refl

answers_more : (b : Bool) (i : Item) (s : Session) → counted (cond b Answered Other) (numbers_of s) ≡ record {
  runs = count is_run s;
  idle = count is_idle s;
  sends = count (did is_send) s;
  taken = count (did is_taking) s;
  limits = count (did is_at_limit) s;
  asks = count (did is_accepted_ask) s;
  answers = min (length (with_item b i (filter (did is_good_answer) s))) most;
}
answers_more true i s = λ k. record {
  runs = count is_run s;
  idle = count is_idle s;
  sends = count (did is_send) s;
  taken = count (did is_taking) s;
  limits = count (did is_at_limit) s;
  asks = count (did is_accepted_ask) s;
  answers = one_more (length (filter (did is_good_answer) s)) k;
}
answers_more false i s = refl

-- a code is not both 130 and 0
asks_more : (code : ℕ) (a b : Bool) → (code == 130) ≡ a → (code == 0) ≡ b → (i : Item) (s : Session) → counted (cond a AskedAtLimit (cond b Asked Other)) (numbers_of s) ≡ record {
  runs = count is_run s;
  idle = count is_idle s;
  sends = count (did is_send) s;
  taken = count (did is_taking) s;
  limits = min (length (with_item a i (filter (did is_at_limit) s))) most;
  asks = min (length (with_item b i (filter (did is_accepted_ask) s))) most;
  answers = count (did is_good_answer) s;
}
asks_more code true true at zero i s = let n : code ≡ 130 = eqb-true code 130 at in let z : code ≡ 0 = eqb-true code 0 zero in absurd (omega (arith, n, z))
asks_more code true false at zero i s = λ k. record {
  runs = count is_run s;
  idle = count is_idle s;
  sends = count (did is_send) s;
  taken = count (did is_taking) s;
  limits = one_more (length (filter (did is_at_limit) s)) k;
  asks = count (did is_accepted_ask) s;
  answers = count (did is_good_answer) s;
}
asks_more code false true at zero i s = λ k. record {
  runs = count is_run s;
  idle = count is_idle s;
  sends = count (did is_send) s;
  taken = count (did is_taking) s;
  limits = count (did is_at_limit) s;
  asks = one_more (length (filter (did is_accepted_ask) s)) k;
  answers = count (did is_good_answer) s;
}
asks_more code false false at zero i s = refl

entry_more : (a : Actor) (d : Deed) (s : Session) → counted (mark_of_deed d) (numbers_of s) ≡ numbers_of (made (record { actor = a; deed = d }) ∷ s)
entry_more a (deed.Send x value code) s = sends_more (code == 130) (made (record { actor = a; deed = deed.Send x value code })) s
entry_more a (deed.Receive x code value) s = takes_more ((code == 0) || (code == 64)) (made (record { actor = a; deed = deed.Receive x code value })) s
entry_more a (deed.Ask q value code) s = asks_more code (code == 130) (code == 0) refl refl (made (record { actor = a; deed = deed.Ask q value code })) s
entry_more a (deed.Answer q code value) s = answers_more (code == 0) (made (record { actor = a; deed = deed.Answer q code value })) s
entry_more a deed.Tick s = refl
entry_more a (deed.Start event point value) s = refl
entry_more a (deed.Admit admitted) s = refl
entry_more a (deed.Fetch x value) s = refl
entry_more a (deed.Write x value) s = refl
entry_more a (deed.Read x code value) s = refl
entry_more a (deed.Invalidate x) s = refl
entry_more a (deed.IsUpdated x updated) s = refl
entry_more a (deed.TakeResult q code value) s = refl
entry_more a (deed.Return code value) s = refl
entry_more a (deed.Enter x) s = refl
entry_more a (deed.Leave x) s = refl
entry_more a (deed.Switch m mode code) s = refl
entry_more a (deed.Mode port mode) s = refl
entry_more a (deed.Phase p) s = refl
entry_more a (deed.Publish x value) s = refl
entry_more a (deed.FetchAll l value) s = refl
entry_more a (deed.PublishAll l written value) s = refl
entry_more a deed.End s = refl

item_more : (i : Item) (s : Session) → counted (mark_of_item i) (numbers_of s) ≡ numbers_of (i ∷ s)
item_more (made e) s = entry_more e.actor e.deed s
item_more run_begins s = λ k. record {
  runs = one_more (length (filter is_run s)) k;
  idle = count is_idle s;
  sends = count (did is_send) s;
  taken = count (did is_taking) s;
  limits = count (did is_at_limit) s;
  asks = count (did is_accepted_ask) s;
  answers = count (did is_good_answer) s;
}
item_more (run_closes idle) s = λ k. record {
  runs = count is_run s;
  idle = one_more (length (filter is_idle s)) k;
  sends = count (did is_send) s;
  taken = count (did is_taking) s;
  limits = count (did is_at_limit) s;
  asks = count (did is_accepted_ask) s;
  answers = count (did is_good_answer) s;
}
item_more (run_closes unsettled) s = refl

-- ---- all of it

session_told : (v : Version) (p : Plan) → IsNamed p → (s : Session) → tally_of (spelling_of v p s) ≡ stands nothing_begun (numbers_of s)
session_told One p r [] = refl
session_told Two p r [] = refl
session_told v p r (i ∷ s) =
    after-append nothing_told (spelling_of v p s) (item_text v p i)
    ∙ ap (λ (t : Tally). after t (item_text v p i)) (session_told v p r s)
    ∙ item_told v p r i (numbers_of s)
    ∙ ap (λ n. stands nothing_begun n) (item_more i s)

pub session_numbers : (v : Version) (p : Plan) (m : Mapping) (s : Session) → IsSound p m → numbers_in (spelling_of v p s) ≡ numbers_of s
session_numbers v p m s sound = ap (λ (t : Tally). t.numbers) (session_told v p (named p (readable p m sound)) s)
