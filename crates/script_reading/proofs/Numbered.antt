-- 32 bits number what a sound plan has.
use Rattle.std.proofs.Common.{◌≡◌, ◌≤◌, ◌+◌, List, [], ◌∷◌, length, true, nat_le, ◌==◌, ◌&&◌, refl, arith}
use Rattle.bus_semantics.specs.Common.{list_all, and_from, and_parts, leb-true, le-leb, clock, Plan, IsSound, machine_sound, is_in, things}
use Rattle.bus_semantics.specs.declared.plan.MachinePlan.{MachinePlan}
use Rattle.bus_semantics.specs.declared.script.Mapping.{Mapping}
use Rattle.script_reading.specs.Index.{has_few_modes}
use Rattle.script_reading.specs.Numbers.{HasFewNumbers, IsNumbered}

few_modes : (n : MachinePlan) → machine_sound n ≡ true → has_few_modes n ≡ true
few_modes n sound =
    let modes = (and_parts (is_in 1 32 (length n.modes)) _ sound).0 in
    let most : length n.modes ≤ 32 = leb-true (length n.modes) 32 (and_parts (nat_le 1 (length n.modes)) (nat_le (length n.modes) 32) modes).1 in
    le-leb (length n.modes) 4294967295 (omega (arith, most))

all_few_modes : (machines : List MachinePlan) → list_all machine_sound machines ≡ true → list_all has_few_modes machines ≡ true
all_few_modes [] sound = refl
all_few_modes (n ∷ machines) sound =
    let parts = and_parts (machine_sound n) (list_all machine_sound machines) sound in
    and_from (has_few_modes n) (list_all has_few_modes machines) (few_modes n parts.0) (all_few_modes machines parts.1)

pub numbered : (p : Plan) (m : Mapping) → IsSound p m → HasFewNumbers p → IsNumbered p
numbered p m sound few =
    let points = leb-true (length p.points) 262144 sound.few_points in
    let counted = and_parts (p.objects == clock p + 1) (nat_le p.objects 16384 && nat_le (things p) 16384) sound.objects in
    let most = leb-true (things p) 16384 (and_parts (nat_le p.objects 16384) (nat_le (things p) 16384) counted.1).1 in
    record {
      elements = few.elements;
      points = omega (arith, points);
      machines = omega (arith, most);
      mode_ports = few.mode_ports;
      modes = all_few_modes p.machines sound.machines;
    }
