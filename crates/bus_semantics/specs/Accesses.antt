-- What the code's look-up of an access stands for.
use Rattle.bus_semantics.specs.declared.accesses.Access as declared_access
use Rattle.bus_semantics.specs.State.{Access}

abbrev pub access_of : declared_access.Access → Access
access_of a = record { target = a.target; ins = a.ins.now }
