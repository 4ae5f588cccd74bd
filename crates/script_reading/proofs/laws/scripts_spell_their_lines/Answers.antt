use Rattle.script_reading.proofs.Scripts.{script_is_spelt, spelt_is_script}
use Rattle.script_reading.proofs.laws.scripts_spell_their_lines.Goals as goal

pub returns : goal.returns
returns c = λ p m bytes lines s. (script_is_spelt p bytes lines, spelt_is_script p m bytes lines s)
