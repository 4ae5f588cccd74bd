-- The rows of the dispatch, one for each kind: the words of all objects are at what a kind keeps the words of the kind. And what follows of
-- all objects from a law of a kind.
use Rattle.std.proofs.Common.{◌≡◌, ◌∷◌, ℕ, Bool, true, false, refl, sym, ◌∙◌, ap, subst, Option, Some, None, is_some}
use Rattle.std.specs.Prelude.{option_map}
use Rattle.bus_semantics.specs.declared.entries.Deed.{Deed}
use Rattle.bus_semantics.specs.Common.{Plan, Wanted, Noted, Past, Follows}
use Rattle.object_kinds.specs.declared.acted.Shown.{Shown}
use Rattle.object_kinds.specs.Kinds.{StandsFor, LeadsFollow, LeadsKeep, MissesNothing, IsPlainStart, StartsByFlag, OthersWakeNothing}
use Rattle.data_objects.specs.Kept as group
use Rattle.data_objects.specs.Leading as group_leading
use Rattle.data_objects.specs.Standing as group_standing
use Rattle.bundle_objects.specs.Kept as bundle
use Rattle.queue_objects.specs.Kept as queue
use Rattle.bundle_objects.specs.Leading as bundle_leading
use Rattle.queue_objects.specs.Leading as queue_leading
use Rattle.bundle_objects.specs.Standing as bundle_standing
use Rattle.queue_objects.specs.Standing as queue_standing
use Rattle.server_objects.specs.Kept as server
use Rattle.area_objects.specs.Kept as area
use Rattle.machine_objects.specs.Kept as machine
use Rattle.server_objects.specs.Leading as server_leading
use Rattle.area_objects.specs.Leading as area_leading
use Rattle.machine_objects.specs.Leading as machine_leading
use Rattle.server_objects.specs.Standing as server_standing
use Rattle.area_objects.specs.Standing as area_standing
use Rattle.machine_objects.specs.Standing as machine_standing
use Rattle.clock_objects.specs.Kept as clock
use Rattle.clock_objects.specs.Leading as clock_leading
use Rattle.clock_objects.specs.Standing as clock_standing
use Rattle.port_objects.specs.Common.{Kept, of_group, of_bundle, of_queues, of_server, of_area, of_machine, of_clock, lead_by_kind, lead, Keeps, Stands, may_start_in, why_held}
use Rattle.port_objects.proofs.Gate.{passed, opens, stays_shut}

pub record Row {K : Type 0} (p : Plan) (object : ℕ) (of : K → Kept) (keeps : K → Past → Type 0) (kind_leads : K → Noted → Option K) (flag : K → ℕ → Bool) (why : K → Wanted → Shown) : Type 0 where
  pub leads : (k : K) (n : Noted) → lead_by_kind p object (of k) n ≡ option_map of (kind_leads k n)
  pub flags : (k : K) (event : ℕ) → may_start_in (of k) event ≡ flag k event
  pub shows : (k : K) (w : Wanted) → why_held (of k) w ≡ why k w
  pub gives : (k : K) (l : Past) → keeps k l → Keeps p object (of k) l
  pub takes : (k : K) (l : Past) → Keeps p object (of k) l → keeps k l

pub group_row : (p : Plan) (object : ℕ) → Row p object of_group (group_standing.Keeps p object) (group_leading.lead p object) group.may_start group_leading.why_held
group_row p object = record { leads = λ k n. refl; flags = λ k event. refl; shows = λ k w. refl; gives = λ k l keeps. keeps; takes = λ k l keeps. keeps }

pub bundle_row : (p : Plan) (object : ℕ) → Row p object of_bundle (bundle_standing.Keeps p object) (bundle_leading.lead p) bundle.may_start bundle_leading.why_held
bundle_row p object = record { leads = λ k n. refl; flags = λ k event. refl; shows = λ k w. refl; gives = λ k l keeps. keeps; takes = λ k l keeps. keeps }

pub queue_row : (p : Plan) (object : ℕ) → Row p object of_queues (queue_standing.Keeps p object) (queue_leading.lead p) queue.may_start queue_leading.why_held
queue_row p object = record { leads = λ k n. refl; flags = λ k event. refl; shows = λ k w. refl; gives = λ k l keeps. keeps; takes = λ k l keeps. keeps }

pub server_row : (p : Plan) (object : ℕ) → Row p object of_server (server_standing.Keeps p object) server_leading.lead server.may_start server_leading.why_held
server_row p object = record { leads = λ k n. refl; flags = λ k event. refl; shows = λ k w. refl; gives = λ k l keeps. keeps; takes = λ k l keeps. keeps }

pub area_row : (p : Plan) (object : ℕ) → Row p object of_area (area_standing.Keeps p object) area_leading.lead area.may_start area_leading.why_held
area_row p object = record { leads = λ k n. refl; flags = λ k event. refl; shows = λ k w. refl; gives = λ k l keeps. keeps; takes = λ k l keeps. keeps }

pub machine_row : (p : Plan) (object : ℕ) → Row p object of_machine (machine_standing.Keeps p object) machine_leading.lead machine.may_start machine_leading.why_held
machine_row p object = record { leads = λ k n. refl; flags = λ k event. refl; shows = λ k w. refl; gives = λ k l keeps. keeps; takes = λ k l keeps. keeps }

pub clock_row : (p : Plan) (object : ℕ) → Row p object of_clock (clock_standing.Keeps p object) clock_leading.lead clock.may_start clock_leading.why_held
clock_row p object = record { leads = λ k n. refl; flags = λ k event. refl; shows = λ k w. refl; gives = λ k l keeps. keeps; takes = λ k l keeps. keeps }

-- ---- the laws of a kind, at its row

record Led {K : Type 0} (of : K → Kept) (o : Option K) (after : Kept) : Type 0 where
  item : K
  is : o ≡ Some item
  gives : of item ≡ after

led_by : {K : Type 0} (of : K → Kept) (o : Option K) (after : Kept) → option_map of o ≡ Some after → Led of o after
led_by of None after e = absurd (cc e)
led_by of (Some k) after e = record { item = k; is = refl; gives = cc }

module _ {K : Type 0} (p : Plan) (object : ℕ) (of : K → Kept) (keeps : K → Past → Type 0) (kind_leads : K → Noted → Option K) (flag : K → ℕ → Bool) (why : K → Wanted → Shown)
    (row : Row p object of keeps kind_leads flag why) where
  stands_for : (k : K) (l : Past) → Stands p object (of k) l → StandsFor p object keeps k l
  stands_for k l stands = record { past = stands.past; kept = row.takes k l stands.keeps }

  pub follows_by : LeadsFollow p object keeps kind_leads → (k : K) (after : Kept) (l : Past) (n : Noted) → Stands p object (of k) l → lead p object (of k) n ≡ Some after → Follows p object l n
  follows_by law k after l n stands leads =
      let through = passed p object (of k) after n leads in
      let by = led_by of (kind_leads k n) after (sym (row.leads k n) ∙ through.leads) in
      law k by.item l n (stands_for k l stands) through.touching through.proper by.is

  pub stands_by : LeadsFollow p object keeps kind_leads → LeadsKeep p object keeps kind_leads → (k : K) (after : Kept) (l : Past) (n : Noted) → Stands p object (of k) l → lead p object (of k) n ≡ Some after
      → Stands p object after (n ∷ l)
  stands_by follow keep k after l n stands leads =
      let through = passed p object (of k) after n leads in
      let by = led_by of (kind_leads k n) after (sym (row.leads k n) ∙ through.leads) in
      let kept : keeps by.item (n ∷ l) = keep k by.item l n (stands_for k l stands) through.touching through.proper by.is in
      record {
        past = (stands.past, follows_by follow k after l n stands leads);
        keeps = subst (λ z. Keeps p object z (n ∷ l)) by.gives (row.gives by.item (n ∷ l) kept);
      }

  pub misses_nothing_by : MissesNothing p object keeps kind_leads → (k : K) (l : Past) (n : Noted) → Stands p object (of k) l → Follows p object l n → is_some (lead p object (of k) n) ≡ true
  misses_nothing_by law k l n stands follows =
      ap is_some (opens p object (of k) n follows.touching follows.proper ∙ row.leads k n) ∙ mapped (kind_leads k n) (law k l n (stands_for k l stands) follows)
    where
      mapped : (o : Option K) → is_some o ≡ true → is_some (option_map of o) ≡ true
      mapped None some = some
      mapped (Some j) some = refl

  pub held_by : StartsByFlag flag kind_leads → (k : K) (event : ℕ) (n : Noted) → may_start_in (of k) event ≡ false → IsPlainStart event n → lead p object (of k) n ≡ None
  held_by law k event n off start = stays_shut p object (of k) n (row.leads k n ∙ ap (option_map of) (law k event n (sym (row.flags k event) ∙ off) start))

  pub wakes_nothing_by : (wakes : Deed → Bool) → OthersWakeNothing wakes flag kind_leads → (k : K) (after : Kept) (n : Noted) → lead p object (of k) n ≡ Some after → wakes n.entry.deed ≡ false
      → (event : ℕ) → may_start_in (of k) event ≡ false → may_start_in after event ≡ false
  wakes_nothing_by wakes law k after n leads other event off =
      let through = passed p object (of k) after n leads in
      let by = led_by of (kind_leads k n) after (sym (row.leads k n) ∙ through.leads) in
      ap (λ z. may_start_in z event) (sym by.gives) ∙ row.flags by.item event ∙ law k by.item n by.is other event (sym (row.flags k event) ∙ off)
