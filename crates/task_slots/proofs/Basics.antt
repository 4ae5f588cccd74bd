-- Tests of keys.
use Rattle.std.proofs.Common.{◌≡◌, true}
use Rattle.bus_semantics.specs.Common.{ActKey, same_key, same_key-Decides}

pub key_same : (k j : ActKey) → same_key k j ≡ true → k ≡ j
key_same k j = (same_key-Decides k j).0

pub same_keys : (k j : ActKey) → k ≡ j → same_key k j ≡ true
same_keys k j = (same_key-Decides k j).1
