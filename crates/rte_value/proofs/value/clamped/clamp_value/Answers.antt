use Rattle.std.proofs.Common.{◌≡◌, map, take, subst, sym, arith}
use Rattle.std.proofs.lemmas.Grind.{common_steps}
use Rattle.std.proofs.lemmas.Int.{to_z-of_z}
use Rattle.std.specs.List.{All}
use Rattle.rte_value.specs.Arithmetic.{clamped, IsWithin}
use Rattle.rte_value.specs.Values.{words_of}
use Rattle.rte_value.proofs.Clamped.{All-clamped}
use Rattle.rte_value.proofs.Padded.{set-padded, take-padded}
use Rattle.rte_value.proofs.value.clamped.clamp_value.Goals as goal

pub loop-i-preserved : goal.loop-i-preserved
loop-i-preserved c = grind (arith, common_steps, set-padded, to_z-of_z)

pub returns-clause-within : goal.returns-clause-within
returns-clause-within c =
    let words : take c.args.value.now.len c.loop-i.words ≡ map (clamped c.args.limits.now) (words_of c.args.value.now) =
    grind (arith, common_steps, take-padded)
    in subst (All (IsWithin c.args.limits.now)) (sym words) (All-clamped c.args.limits.now (words_of c.args.value.now) c.requires)
