use Rattle.commands.proofs.Numbered.{numbered, sound}
use Rattle.commands.proofs.preparing.script_over.Goals as goal

pub read_script-requires : goal.read_script-requires
read_script-requires c = record {
  sound = sound c.requires.0 c.args.found.now c.requires.1;
  few = numbered c.requires.0 c.args.found.now c.requires.1;
}
