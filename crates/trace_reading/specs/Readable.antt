-- What reading needs of a plan; every sound plan has it.
use Rattle.std.specs.Prelude.{◌≡◌, length, true, nat_lt}
use Rattle.bus_semantics.specs.Common.{list_all, Plan, every_from, IsSound, points_arranged, points_fit, lists_sound, names_distinct, names_fit, none_is_env, instances_exist, runnable_sound}
use Rattle.bus_laws.specs.Common.{ModePortPlan, Mapping}

-- names are short, each once and none `env`; what others name is there; points are those of the runnables that call at them; and
-- coherent lists are sound
pub record IsReadable (p : Plan) : Type 0 where
  pub names : names_fit p ≡ true
  pub distinct : names_distinct p ≡ true
  pub no_env : none_is_env p ≡ true
  pub instances : instances_exist p ≡ true
  pub mode_ports : list_all (λ (t : ModePortPlan). nat_lt t.machine (length p.machines)) p.mode_ports ≡ true
  pub points : points_arranged p ≡ true
  pub operations : points_fit p ≡ true
  pub runnables : every_from 0 (runnable_sound p) p.runnables ≡ true
  pub lists : lists_sound p ≡ true

-- ---- law

abbrev pub SoundPlansAreReadable : Type 0
SoundPlansAreReadable = (p : Plan) (m : Mapping) → IsSound p m → IsReadable p
