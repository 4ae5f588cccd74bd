use Rattle.line_fields.proofs.Found as by
use Rattle.line_fields.proofs.laws.names_find_what_they_name.Goals as goal

pub returns : goal.returns
returns c = record {
  instances = λ p m s. by.finds_instances p (by.names_of_sound p m s);
  elements = λ p m s. by.finds_elems p (by.names_of_sound p m s);
  points = λ p m s. by.finds_points p (by.names_of_sound p m s);
  areas = λ p m s. by.finds_areas p (by.names_of_sound p m s);
  machines = λ p m s. by.finds_machines p (by.names_of_sound p m s);
  modes = λ p m s. by.finds_modes p (by.names_of_sound p m s);
  mode_ports = λ p m s. by.finds_mode_ports p (by.names_of_sound p m s);
  events = λ p m s. by.finds_events p (by.names_of_sound p m s);
  runnables = λ p m s. by.finds_runnables p (by.names_of_sound p m s);
}
