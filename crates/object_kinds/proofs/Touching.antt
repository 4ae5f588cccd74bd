-- What touches a group: a deed with an element of it, or a start by a DataReceivedEvent of one. And which deeds are of queued elements.
use Rattle.std.proofs.Common.{◌≡◌, ℕ, Bool, true, false, ◌&&◌, not, refl, sym, ◌∙◌, ap, Option, Some}
use Rattle.bus_semantics.specs.Common.{option_map_or, and_parts, false≢true, Value, words_of, same_number, Plan, look, group_of, kind_of, to_fetch, to_write, to_read, to_invalidate}
use Rattle.bus_semantics.specs.Common.{to_see_updated, to_send, to_receive, to_publish, home_of, bundle_of, touches, elem_fits, is_writable, is_readable, is_unqueued, is_queued, holds}
use Rattle.bus_semantics.specs.Common.{is_in_group, elems_of, is_proper, IsSound}
use Rattle.bus_laws.specs.Common.{ElemPlan, ElemKind, Unqueued, Queued, Variable, EventKind, DataReceived, Mapping, Actor, Deed}
use Rattle.bus_semantics.specs.declared.entries.Deed.TheVariants as deed
use Rattle.bus_laws.proofs.OneBundle.{has}
use Rattle.bus_laws.proofs.ObjectLists.{listed_unqueued}
use Rattle.object_kinds.specs.Layout.{group_at, IsAlone, waits_for_data}
use Rattle.object_kinds.proofs.Classes.{StartsOn, On, touching_on}
use Rattle.object_kinds.proofs.Numbers.{a_bundle}
use Rattle.object_kinds.proofs.Options.{number_is, is_number, then_some}
use Rattle.object_kinds.proofs.Proper.{noting, wish_part, by_actor}
use Rattle.object_kinds.proofs.Ranges.{sought, home_within}

-- ---- what touches a group

abbrev pub OnGroup : Plan → (group : ℕ) → Deed → Type 0
OnGroup p g (deed.Start e point value) = waits_for_data p g (kind_of p e) ≡ true
OnGroup p g (deed.Fetch x value) = is_in_group p g x ≡ true
OnGroup p g (deed.Write x value) = is_in_group p g x ≡ true
OnGroup p g (deed.Read x code value) = is_in_group p g x ≡ true
OnGroup p g (deed.Invalidate x) = is_in_group p g x ≡ true
OnGroup p g (deed.IsUpdated x updated) = is_in_group p g x ≡ true
OnGroup p g (deed.Send x value code) = is_in_group p g x ≡ true
OnGroup p g (deed.Receive x code value) = is_in_group p g x ≡ true
OnGroup p g (deed.Publish x value) = is_in_group p g x ≡ true
OnGroup p g _ = ⊥

-- an element of a bundle that is a group is in the group
pub group_itself : (p : Plan) (b x : ℕ) → IsAlone p b → bundle_of p x ≡ Some b → group_of p x ≡ Some (group_at p b)
group_itself p b x alone is =
    let at = then_some (home_of p) (group_of p x) b is in
    at.is ∙ ap (λ h. Some h) (alone.alone at.item at.gives)

pub bundled_inside : (p : Plan) (b x : ℕ) → IsAlone p b → bundle_of p x ≡ Some b → is_in_group p (group_at p b) x ≡ true
bundled_inside p b x alone is = is_number (group_of p x) (group_at p b) (group_itself p b x alone is)

pub touched_inside : (p : Plan) (b x : ℕ) → IsAlone p b → same_number (bundle_of p x) (Some b) ≡ true → is_in_group p (group_at p b) x ≡ true
touched_inside p b x alone touching = bundled_inside p b x alone (number_is (bundle_of p x) b touching)

module _ (p : Plan) (b : ℕ) (alone : IsAlone p b) where
  start_on : (k : EventKind) → StartsOn p (a_bundle b) k → waits_for_data p (group_at p b) k ≡ true
  start_on (DataReceived x) on = bundled_inside p b x alone on
  start_on k on = absurd on

  on_group : (a : Actor) (event : Option ℕ) (d : Deed) → On p (a_bundle b) a event d → OnGroup p (group_at p b) d
  on_group a event (deed.Start e point value) on = start_on (kind_of p e) on
  on_group a event (deed.Fetch x value) on = bundled_inside p b x alone on
  on_group a event (deed.Write x value) on = bundled_inside p b x alone on
  on_group a event (deed.Read x code value) on = bundled_inside p b x alone on
  on_group a event (deed.Invalidate x) on = bundled_inside p b x alone on
  on_group a event (deed.IsUpdated x updated) on = bundled_inside p b x alone on
  on_group a event (deed.Send x value code) on = bundled_inside p b x alone on
  on_group a event (deed.Receive x code value) on = bundled_inside p b x alone on
  on_group a event (deed.Publish x value) on = bundled_inside p b x alone on
  on_group a event (deed.FetchAll l value) on = absurd (alone.unlisted l on)
  on_group a event (deed.PublishAll l written value) on = absurd (alone.unlisted l on)
  on_group a event d on = absurd on

pub touches_group : (p : Plan) (m : Mapping) (b : ℕ) (a : Actor) (event : Option ℕ) (d : Deed) → IsSound p m → IsAlone p b
    → touches p b (noting a d event) ≡ true → is_proper p (noting a d event) ≡ true → OnGroup p (group_at p b) d
touches_group p m b a event d sound alone touching proper =
    on_group p b alone a event d (touching_on p m sound (a_bundle b) (home_within p m sound (group_at p b) b alone.home) a event d touching proper)

-- ---- a Send or a Receive is of a queued element, and the other deeds of an element are of one that is not

-- whether an element of the plan is queued is said by what an actor may want of it
kind_by : (p : Plan) (home : Option ℕ) (test : ElemPlan → Bool) (x : ℕ) (b : Bool) → ((e : ElemPlan) → test e ≡ true → is_queued e ≡ b) → elem_fits p home test x ≡ true → look p.elements x is_queued false ≡ b
kind_by p home test x b said fit =
    let at = sought p.elements x (λ (e : ElemPlan). same_number e.instance home && test e) fit in
    ap (λ o. option_map_or is_queued o false) at.found ∙ said at.item (and_parts (same_number at.item.instance home) (test at.item) at.holds).1

writable : (e : ElemPlan) (k : ElemKind) → e.kind ≡ k → is_writable e ≡ true → is_queued e ≡ false
writable e Unqueued is w = rw is refl
writable e Variable is w = rw is refl
writable e Queued is w = let no : is_writable e ≡ false = rw is refl in absurd (false≢true (sym no ∙ w))

readable : (e : ElemPlan) (k : ElemKind) → e.kind ≡ k → is_readable e ≡ true → is_queued e ≡ false
readable e Unqueued is w = rw is refl
readable e Variable is w = rw is refl
readable e Queued is w = let no : is_readable e ≡ false = rw is refl in absurd (false≢true (sym no ∙ w))

unqueued : (e : ElemPlan) (k : ElemKind) → e.kind ≡ k → is_unqueued e ≡ true → is_queued e ≡ false
unqueued e Unqueued is w = rw is refl
unqueued e Variable is w = rw is refl
unqueued e Queued is w = let no : is_unqueued e ≡ false = rw is refl in absurd (false≢true (sym no ∙ w))

module _ (p : Plan) (a : Actor) (event : Option ℕ) where
  pub fetch_unqueued : (x : ℕ) (value : Value) → is_proper p (noting a (deed.Fetch x value) event) ≡ true → look p.elements x is_queued false ≡ false
  fetch_unqueued x value proper = by_actor p a (to_fetch x) (wish_part p a (deed.Fetch x value) event refl proper)
      (λ fit. absurd (false≢true fit)) (λ k fit. kind_by p _ is_readable x false (λ e is. readable e e.kind refl is) fit) (λ n less fit. absurd (false≢true fit))

  pub write_unqueued : (x : ℕ) (value : Value) → is_proper p (noting a (deed.Write x value) event) ≡ true → look p.elements x is_queued false ≡ false
  write_unqueued x value proper =
      let ws = words_of value in
      by_actor p a (to_write x ws) (wish_part p a (deed.Write x value) event refl proper)
      (λ fit. kind_by p _ (λ e. (is_unqueued e && e.provided) && holds ws e) x false (λ e is. unqueued e e.kind refl (and_parts (is_unqueued e) e.provided (and_parts (is_unqueued e && e.provided) (holds ws e) is).0).0) fit)
      (λ k fit. kind_by p _ (λ e. is_writable e && holds ws e) x false (λ e is. writable e e.kind refl (and_parts (is_writable e) (holds ws e) is).0) fit)
      (λ n less fit. absurd (false≢true fit))

  pub publish_unqueued : (x : ℕ) (value : Value) → is_proper p (noting a (deed.Publish x value) event) ≡ true → look p.elements x is_queued false ≡ false
  publish_unqueued x value proper =
      let ws = words_of value in
      by_actor p a (to_publish x ws) (wish_part p a (deed.Publish x value) event refl proper) (λ fit. absurd (false≢true fit))
      (λ k fit. kind_by p _ (λ e. is_writable e && holds ws e) x false (λ e is. writable e e.kind refl (and_parts (is_writable e) (holds ws e) is).0) fit)
      (λ n less fit. absurd (false≢true fit))

  pub read_unqueued : (x code : ℕ) (value : Value) → is_proper p (noting a (deed.Read x code value) event) ≡ true → look p.elements x is_queued false ≡ false
  read_unqueued x code value proper = by_actor p a (to_read x) (wish_part p a (deed.Read x code value) event refl proper)
      (λ fit. kind_by p _ (λ e. is_unqueued e && not e.provided) x false (λ e is. unqueued e e.kind refl (and_parts (is_unqueued e) (not e.provided) is).0) fit)
      (λ k fit. kind_by p _ is_readable x false (λ e is. readable e e.kind refl is) fit)
      (λ n less fit. absurd (false≢true fit))

  pub invalidate_unqueued : (x : ℕ) → is_proper p (noting a (deed.Invalidate x) event) ≡ true → look p.elements x is_queued false ≡ false
  invalidate_unqueued x proper = by_actor p a (to_invalidate x) (wish_part p a (deed.Invalidate x) event refl proper) (λ fit. absurd (false≢true fit))
      (λ k fit. kind_by p _ (λ e. is_unqueued e && e.provided) x false (λ e is. unqueued e e.kind refl (and_parts (is_unqueued e) e.provided is).0) fit)
      (λ n less fit. absurd (false≢true fit))

  pub see_unqueued : (x : ℕ) (updated : Bool) → is_proper p (noting a (deed.IsUpdated x updated) event) ≡ true → look p.elements x is_queued false ≡ false
  see_unqueued x updated proper = by_actor p a (to_see_updated x) (wish_part p a (deed.IsUpdated x updated) event refl proper) (λ fit. absurd (false≢true fit))
      (λ k fit. kind_by p _ (λ e. is_unqueued e && not e.provided) x false (λ e is. unqueued e e.kind refl (and_parts (is_unqueued e) (not e.provided) is).0) fit)
      (λ n less fit. absurd (false≢true fit))

  pub send_queued : (x : ℕ) (value : Value) (code : ℕ) → is_proper p (noting a (deed.Send x value code) event) ≡ true → look p.elements x is_queued false ≡ true
  send_queued x value code proper =
      let ws = words_of value in
      let queued : (e : ElemPlan) → ((is_queued e && e.provided) && holds ws e) ≡ true → is_queued e ≡ true =
      λ e is. (and_parts (is_queued e) e.provided (and_parts (is_queued e && e.provided) (holds ws e) is).0).0 in
      by_actor p a (to_send x ws) (wish_part p a (deed.Send x value code) event refl proper)
      (λ fit. kind_by p _ (λ e. (is_queued e && e.provided) && holds ws e) x true queued fit)
      (λ k fit. kind_by p _ (λ e. (is_queued e && e.provided) && holds ws e) x true queued fit)
      (λ n less fit. absurd (false≢true fit))

  pub receive_queued : (x code : ℕ) (value : Value) → is_proper p (noting a (deed.Receive x code value) event) ≡ true → look p.elements x is_queued false ≡ true
  receive_queued x code value proper =
      let queued : (e : ElemPlan) → (is_queued e && not e.provided) ≡ true → is_queued e ≡ true = λ e is. (and_parts (is_queued e) (not e.provided) is).0 in
      by_actor p a (to_receive x) (wish_part p a (deed.Receive x code value) event refl proper)
      (λ fit. kind_by p _ (λ e. is_queued e && not e.provided) x true queued fit) (λ k fit. kind_by p _ (λ e. is_queued e && not e.provided) x true queued fit) (λ n less fit. absurd (false≢true fit))

-- an element that a coherent list names is not queued
pub listed_not_queued : (p : Plan) (m : Mapping) → IsSound p m → (l x : ℕ) → has (elems_of p l) x ≡ true → look p.elements x is_queued false ≡ false
listed_not_queued p m sound l x there =
    let at = sought p.elements x is_unqueued (listed_unqueued p m sound l x there) in
    ap (λ o. option_map_or is_queued o false) at.found ∙ unqueued at.item at.item.kind refl at.holds
