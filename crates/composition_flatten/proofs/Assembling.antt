-- The links that assemblies make.
use Rattle.std.proofs.Common.{◌≡◌, ℕ, List, Bool, true, sym, subst}
use Rattle.description_types.specs.declared.description.Connector.{Connector}
use Rattle.description_types.specs.declared.description.Connector.TheVariants.{Assembly}
use Rattle.description_types.specs.declared.description.Description.{Description}
use Rattle.description_types.specs.declared.description.InnerPort.{InnerPort}
use Rattle.composition_tables.specs.declared.links.Link.{Link}
use Rattle.composition_tables.specs.declared.tree.Owner.TheVariants.{Instance}
use Rattle.description_types.specs.Connectors.{lets_join}
use Rattle.composition_tables.specs.Ends.{ends, inner_ends}
use Rattle.end_crossing.specs.PortLinks.{IsCrossLink}
use Rattle.composition_flatten.specs.Links.{IsAssemblyLink}
use Rattle.description_types.specs.Growing.{Grown}
use Rattle.composition_tables.proofs.Growth.{grown_same}

pub assembly_same : (d : Description) (n c : ℕ) (x : Connector) (p r : InnerPort) (before after : List Link) (is_full : Bool) → x ≡ Assembly p r → lets_join d c (Assembly p r) ≡ true
    → Grown (IsCrossLink d (inner_ends d n (ends d n) c 0 p) (inner_ends d n (ends d n) c 0 r)) before after is_full → Grown (IsAssemblyLink d n c x) before after is_full
assembly_same d n c x p r before after is_full is lets g = subst (λ y. Grown (IsAssemblyLink d n c y) before after is_full) (sym is)
    (grown_same (IsCrossLink d (inner_ends d n (ends d n) c 0 p) (inner_ends d n (ends d n) c 0 r)) (IsAssemblyLink d n c (Assembly p r)) before after is_full
    (λ y a. (lets, a)) (λ y a. a.1) g)

-- a link past the end of a list
abbrev pub no_link : Link
no_link = record { provided = record { owner = Instance 0; port = 0; element = 0 }; required = record { owner = Instance 0; port = 0; element = 0 } }
