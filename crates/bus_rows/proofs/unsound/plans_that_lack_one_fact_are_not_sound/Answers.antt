use Rattle.std.specs.Prelude.{◌≡◌, ℕ, ◌<◌, List, [], ◌∷◌, codes, true, ◌&&◌, ◌==◌, Some, None, refl}
use Rattle.std.proofs.Common.{arith}
use Rattle.bus_semantics.specs.Common.{or-false, and_parts, eqb-true, false≢true, Plan, WaitOrder}
use Rattle.std.proofs.Math.Bool.{and-false}
use Rattle.bus_semantics.specs.declared.script.Mapping.{Mapping}
use Rattle.bus_rows.specs.SoundFacts.{broken_facts, LacksOrder}
use Rattle.bus_rows.specs.AreaHeld.{two_cores}
use Rattle.bus_rows.specs.OneWriter.{one_task}
use Rattle.bus_rows.specs.Queues.{one_event}
use Rattle.bus_rows.specs.WaitingSwitch.{user_and_boss_tasks}
use Rattle.bus_rows.specs.UnsoundPlans.{nested_areas, two_points, switch_of_item, three_elements, no_task, in_one_bundle, writer_lists, servers_that_call, a_task_each, in_one_task}
use Rattle.bus_rows.proofs.RowSound.{sound_of, lacks, unordered}
use Rattle.bus_rows.proofs.unsound.plans_that_lack_one_fact_are_not_sound.Goals as goal

lacks_order : (p : Plan) (m : Mapping) → broken_facts p m ≡ [] → (WaitOrder p m → ⊥) → LacksOrder p m
lacks_order p m e none = record { unsound = λ s. none s.order; broken = e; unordered = none }

-- ---- plans in which no task waits

pub returns-clause-nested : goal.returns-clause-nested
returns-clause-nested c = sound_of (nested_areas 0 1) two_cores refl (unordered (nested_areas 0 1) two_cores (λ a n w. absurd (false≢true w)))

pub returns-clause-again : goal.returns-clause-again
returns-clause-again c = lacks _ (nested_areas 0 0) two_cores refl (unordered (nested_areas 0 0) two_cores (λ a n w. absurd (false≢true w)))

pub returns-clause-crossed : goal.returns-clause-crossed
returns-clause-crossed c = lacks _ (nested_areas 1 0) two_cores refl (unordered (nested_areas 1 0) two_cores (λ a n w. absurd (false≢true w)))

-- no point of these plans has a server
unjoined : (name : List ℕ) (n : ℕ) → WaitOrder (two_points name n) one_event
unjoined name n = record { rank = λ t. t; later = λ a c w. absurd (false≢true (simp (or-false, and-false) at w)) }

pub returns-clause-two_names : goal.returns-clause-two_names
returns-clause-two_names c = sound_of (two_points (codes "d.op") 1) one_event refl (unjoined (codes "d.op") 1)

pub returns-clause-one_name : goal.returns-clause-one_name
returns-clause-one_name c = lacks _ (two_points (codes "c.op") 1) one_event refl (unjoined (codes "c.op") 1)

pub returns-clause-sixteen : goal.returns-clause-sixteen
returns-clause-sixteen c = sound_of (two_points (codes "d.op") 16) one_event refl (unjoined (codes "d.op") 16)

pub returns-clause-seventeen : goal.returns-clause-seventeen
returns-clause-seventeen c = lacks _ (two_points (codes "d.op") 17) one_event refl (unjoined (codes "d.op") 17)

pub returns-clause-no_item : goal.returns-clause-no_item
returns-clause-no_item c = sound_of (switch_of_item 0) user_and_boss_tasks refl (unordered (switch_of_item 0) user_and_boss_tasks (λ a n w. absurd (false≢true w)))

pub returns-clause-item : goal.returns-clause-item
returns-clause-item c = lacks _ (switch_of_item 1) user_and_boss_tasks refl (unordered (switch_of_item 1) user_and_boss_tasks (λ a n w. absurd (false≢true w)))

pub returns-clause-together : goal.returns-clause-together
returns-clause-together c = sound_of (three_elements (codes "p.w")) no_task refl (unordered (three_elements (codes "p.w")) no_task (λ a n w. absurd (false≢true w)))

pub returns-clause-apart : goal.returns-clause-apart
returns-clause-apart c = lacks _ (three_elements (codes "o.w")) no_task refl (unordered (three_elements (codes "o.w")) no_task (λ a n w. absurd (false≢true w)))

pub returns-clause-bundled : goal.returns-clause-bundled
returns-clause-bundled c = lacks _ in_one_bundle no_task refl (unordered in_one_bundle no_task (λ a n w. absurd (false≢true w)))

pub returns-clause-unlisted : goal.returns-clause-unlisted
returns-clause-unlisted c = sound_of (writer_lists []) one_task refl (unordered (writer_lists []) one_task (λ a n w. absurd (false≢true w)))

pub returns-clause-listed : goal.returns-clause-listed
returns-clause-listed c = lacks _ (writer_lists (0 ∷ [])) one_task refl (unordered (writer_lists (0 ∷ [])) one_task (λ a n w. absurd (false≢true w)))

-- ---- plans in which tasks wait

-- the first server's task is the first one, and the second's the second
after : (a c : ℕ) → ((0 == a) && (1 == c)) ≡ true → a < c
after a c w =
    let b = and_parts (0 == a) (1 == c) w in
    let first = eqb-true 0 a b.0 in
    let second = eqb-true 1 c b.1 in
    omega arith

pub returns-clause-chain : goal.returns-clause-chain
returns-clause-chain c = sound_of (servers_that_call None) a_task_each refl (record { rank = λ t. t; later = λ a n w. after a n (simp (or-false, and-false) at w) })

circle : WaitOrder (servers_that_call (Some 0)) a_task_each → ⊥
circle o =
    let there = o.later 0 1 refl in
    let back = o.later 1 0 refl in
    omega arith

pub returns-clause-circle : goal.returns-clause-circle
returns-clause-circle c = lacks_order (servers_that_call (Some 0)) a_task_each refl circle

itself : WaitOrder (servers_that_call None) in_one_task → ⊥
itself o = let back = o.later 0 0 refl in omega arith

pub returns-clause-itself : goal.returns-clause-itself
returns-clause-itself c = lacks_order (servers_that_call None) in_one_task refl itself
