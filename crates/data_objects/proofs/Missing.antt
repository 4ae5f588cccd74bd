-- A group of a sound plan misses no entry that may follow its past.
use Rattle.std.proofs.Common.{◌≡◌, ℕ, Bool, true, not, ◌&&◌, ◌==◌, refl, sym, ◌∙◌, ap, List, Option, Some, is_some}
use Rattle.bus_semantics.specs.Common.{slice_get, and_parts, Value, words_of, same_words, Plan, kind_of, Noted, Past, is_in_group, value_at, read_code, is_updated, is_due, is_due_kind}
use Rattle.bus_semantics.specs.Common.{same_bool, Answers, is_proper, IsSound}
use Rattle.bus_semantics.specs.declared.script.Mapping.{Mapping}
use Rattle.bus_semantics.specs.declared.entries.Actor.{Actor}
use Rattle.bus_semantics.specs.declared.entries.Actor.TheVariants.{Env}
use Rattle.bus_semantics.specs.declared.entries.Deed.{Deed}
use Rattle.bus_semantics.specs.declared.entries.Deed.TheVariants as deed
use Rattle.data_objects.specs.KeptValues as data_kept
use Rattle.object_kinds.specs.Common.{MissesNothing, group_at, members_of, waits_for_data, place, given, is_set}
use Rattle.object_kinds.proofs.Events.{waiting_for, waiting_placed}
use Rattle.object_kinds.proofs.Flags.{flag_there}
use Rattle.object_kinds.proofs.Lists.{mapped_at, all_at}
use Rattle.object_kinds.proofs.Members.{member_of, member_placed}
use Rattle.object_kinds.proofs.Options.{clash, given_where, then_where, mapped_where}
use Rattle.object_kinds.proofs.Placing.{place_at}
use Rattle.object_kinds.proofs.Proper.{noting}
use Rattle.object_kinds.proofs.Touching.{OnGroup, touches_group, send_queued, receive_queued}
use Rattle.data_objects.specs.Kept.{Kept}
use Rattle.data_objects.specs.Layout.{is_queued_at}
use Rattle.data_objects.specs.Standing.{due_after, GroupKeeps, Keeps}
use Rattle.data_objects.specs.Leading.{read_code_in, has_value, has_flag, lead_of_group, group_lead, lead}
use Rattle.data_objects.proofs.Keeping.{leading, value_same, code_in}

has_flag_here : (flags : List Bool) (i : ℕ) (b c : Bool) → slice_get flags i ≡ Some c → same_bool b c ≡ true → has_flag b flags i ≡ true
has_flag_here flags i b c there same = rw there same

module _ (p : Plan) (g : ℕ) (k : Kept) (l : Past) (keeps : GroupKeeps p g k l) (a : Actor) (event : Option ℕ) where
  start_comes : (e : ℕ) (point : Option ℕ) (value : Value) → waits_for_data p g (kind_of p e) ≡ true → is_due p a e l ≡ true → is_some (lead_of_group p g k.events k.unqueued (deed.Start e point value)) ≡ true
  start_comes e point value waits due =
      let w = waiting_for p g (kind_of p e) waits in
      let there = waiting_placed p g e w.element w.kind w.inside in
      let here : place e k.events ≡ Some there.at = ap (place e) keeps.waiting ∙ there.is in
      let flag : slice_get k.unqueued.due there.at ≡ Some (due_after p l e) = ap (λ fs. slice_get fs there.at) keeps.due ∙ mapped_at (due_after p l) k.events there.at e (place_at e k.events there.at here) in
      let on : due_after p l e ≡ true = ap (λ c. is_due_kind p Env e c l) w.kind ∙ sym (ap (λ c. is_due_kind p a e c l) w.kind) ∙ due in
      then_where (λ i. given (is_set k.unqueued.due i) (data_kept.after_start i k.unqueued)) (place e k.events) there.at here
      (given_where (is_set k.unqueued.due there.at) (data_kept.after_start there.at k.unqueued) (flag_there k.unqueued.due there.at (due_after p l e) flag on))

  read_comes : (x code : ℕ) (value : Value) → is_in_group p g x ≡ true → ((code == read_code p x l) && same_words (words_of value) (value_at p x l)) ≡ true → is_some (lead_of_group p g k.events k.unqueued (deed.Read x code value)) ≡ true
  read_comes x code value inside answer =
      let at = member_of p g x inside in
      let there = member_placed p g x inside in
      let parts = and_parts (code == read_code p x l) (same_words (words_of value) (value_at p x l)) answer in
      let code_is : (code == read_code_in p x k.unqueued) ≡ true = ap (λ c. code == c) (code_in p g k l keeps x at.elem at.found at.group) ∙ parts.0 in
      let value_is : has_value value there.at k.unqueued ≡ true = value_same p g k l keeps x there.at at.elem at.found at.group there.is value ∙ parts.1 in
      then_where (λ r. given ((code == read_code_in p x k.unqueued) && has_value value r k.unqueued) (data_kept.after_read r k.unqueued)) (place x (members_of p g)) there.at there.is
      (given_where ((code == read_code_in p x k.unqueued) && has_value value there.at k.unqueued) (data_kept.after_read there.at k.unqueued) (λ i. code_is i && value_is i))

  fetch_comes : (x : ℕ) (value : Value) → is_in_group p g x ≡ true → same_words (words_of value) (value_at p x l) ≡ true → is_some (lead_of_group p g k.events k.unqueued (deed.Fetch x value)) ≡ true
  fetch_comes x value inside answer =
      let at = member_of p g x inside in
      let there = member_placed p g x inside in
      then_where (λ r. given (has_value value r k.unqueued) k.unqueued) (place x (members_of p g)) there.at there.is
      (given_where (has_value value there.at k.unqueued) k.unqueued (value_same p g k l keeps x there.at at.elem at.found at.group there.is value ∙ answer))

  see_comes : (x : ℕ) (b : Bool) → is_in_group p g x ≡ true → same_bool b (is_updated p x l) ≡ true → is_some (lead_of_group p g k.events k.unqueued (deed.IsUpdated x b)) ≡ true
  see_comes x b inside answer =
      let there = member_placed p g x inside in
      let flag : slice_get k.unqueued.updated there.at ≡ Some (is_updated p x l) =
      ap (λ fs. slice_get fs there.at) keeps.updated ∙ mapped_at (λ y. is_updated p y l) (members_of p g) there.at x (place_at x (members_of p g) there.at there.is) in
      then_where (λ r. given (has_flag b k.unqueued.updated r) k.unqueued) (place x (members_of p g)) there.at there.is
      (given_where (has_flag b k.unqueued.updated there.at) k.unqueued (has_flag_here k.unqueued.updated there.at b (is_updated p x l) flag answer))

  -- no element of the group is queued
  none_queued : {X : Type 0} (x : ℕ) → is_in_group p g x ≡ true → is_queued_at p x ≡ true → X
  none_queued x inside queued =
      let there = member_placed p g x inside in
      clash (not (is_queued_at p x)) (all_at (λ y. not (is_queued_at p y)) (members_of p g) there.at x keeps.is_group.unqueued (place_at x (members_of p g) there.at there.is)) (ap not queued)

  group_comes : (d : Deed) → OnGroup p g d → is_proper p (noting a d event) ≡ true → Answers p l (noting a d event) → is_some (lead_of_group p g k.events k.unqueued d) ≡ true
  group_comes (deed.Start e point value) on proper answers = start_comes e point value on answers.due
  group_comes (deed.Fetch x value) on proper answers = fetch_comes x value on answers.unqueued
  group_comes (deed.Write x value) on proper answers = refl
  group_comes (deed.Read x code value) on proper answers = read_comes x code value on answers.unqueued
  group_comes (deed.Invalidate x) on proper answers = refl
  group_comes (deed.IsUpdated x b) on proper answers = see_comes x b on answers.unqueued
  group_comes (deed.Publish x value) on proper answers = refl
  group_comes (deed.Send x value code) on proper answers = none_queued x on (send_queued p a event x value code proper)
  group_comes (deed.Receive x code value) on proper answers = none_queued x on (receive_queued p a event x code value proper)
  group_comes d on proper answers = absurd on

pub group_misses_nothing : (p : Plan) (g : ℕ) (k : Kept) (l : Past) (n : Noted) → GroupKeeps p g k l → OnGroup p g n.entry.deed → is_proper p n ≡ true → Answers p l n → is_some (group_lead p g k n) ≡ true
group_misses_nothing p g k l n keeps on proper answers =
    mapped_where (λ d. leading k d) (lead_of_group p g k.events k.unqueued n.entry.deed) (group_comes p g k l keeps n.entry.actor n.event n.entry.deed on proper answers)

pub misses_nothing : (p : Plan) (m : Mapping) (object : ℕ) → IsSound p m → MissesNothing p object (Keeps p object) (lead p object)
misses_nothing p m object sound k l n stands follows =
    group_misses_nothing p (group_at p object) k l n stands.kept.group
    (touches_group p m object n.entry.actor n.event n.entry.deed sound stands.kept.alone follows.touching follows.proper) follows.proper follows.answers
