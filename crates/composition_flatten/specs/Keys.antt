-- Connectors as keys.
use Rattle.description_types.specs.declared.description.Connector.{Connector}
use Rattle.description_types.specs.declared.description.Connector.TheVariants as connector
use Rattle.composition_flatten.specs.declared.wiring.Key.{Key}
use Rattle.composition_flatten.specs.declared.wiring.Key.TheVariants as key

abbrev pub key_of : Connector → Key
key_of (connector.Assembly provider requester) = key.Assembly provider.prototype provider.port requester.prototype requester.port
key_of (connector.Delegation inner outer) = key.Delegation inner.prototype inner.port outer
