-- The sites of servers, machines and required mode elements.
use Rattle.std.proofs.Common.{◌≡◌, Bool, true, false, Some, ⊎_elim, sym, ap, ◌∙◌}
use Rattle.std.specs.Option.{unwrap_or}
use Rattle.plan_definitions.specs.Common.{Description, Flat, Among, is_machine, is_mode_port, is_server, of_kind, sites, item_text, has_machine, machines_of, mode_ports_of, servers_of}
use Rattle.plan_definitions.specs.Common.{machine_at, mode_port_at, server_of}
use Rattle.plan_definitions.specs.declared.site.Site.{Site}
use Rattle.sound_plans.proofs.Lists.{filtered}
use Rattle.sound_plans.proofs.SiteKinds.{IsModes, IsServer, machine_is, mode_port_is, server_is}
use Rattle.sound_plans.proofs.Sites.{ItemAt, VariableAt, site_is}

module _ (d : Description) (f : Flat) where
  pub record ServerSite (s : Site) : Type 0 where
    pub item : ItemAt d f s
    pub is : IsServer s.owner item.here.port.kind item.here.interface.kind s.item

  pub record ModeSite (provides : Bool) (s : Site) : Type 0 where
    pub item : ItemAt d f s
    pub is : IsModes provides s.owner item.here.port.kind item.here.interface.kind s.item

  pub server_site : (s : Site) → Among s (servers_of d f) → ServerSite s
  server_site s h =
      let r = filtered (λ (s : Site). is_server s.kind) s (sites d f) h in
      ⊎_elim
      (λ (item : ItemAt d f s). record { item = item; is = server_is s.owner item.here.port.kind item.here.interface.kind s.item (ap is_server (sym item.is_kind) ∙ r.1) item.below })
      (λ (v : VariableAt d f s). let other : false ≡ true = ap is_server (sym v.is_kind) ∙ r.1 in cc)
      (site_is d f s r.0)

  pub machine_site : (s : Site) → Among s (machines_of d f) → ModeSite true s
  machine_site s h =
      let r = filtered (λ (s : Site). is_machine s.kind) s (sites d f) h in
      ⊎_elim
      (λ (item : ItemAt d f s). record { item = item; is = machine_is s.owner item.here.port.kind item.here.interface.kind s.item (ap is_machine (sym item.is_kind) ∙ r.1) item.below })
      (λ (v : VariableAt d f s). let other : false ≡ true = ap is_machine (sym v.is_kind) ∙ r.1 in cc)
      (site_is d f s r.0)

  pub mode_port_site : (s : Site) → Among s (mode_ports_of d f) → ModeSite false s
  mode_port_site s h =
      let m = filtered (has_machine f.joins) s (of_kind is_mode_port d f) h in
      let r = filtered (λ (s : Site). is_mode_port s.kind) s (sites d f) m.0 in
      ⊎_elim
      (λ (item : ItemAt d f s). record { item = item; is = mode_port_is s.owner item.here.port.kind item.here.interface.kind s.item (ap is_mode_port (sym item.is_kind) ∙ r.1) item.below })
      (λ (v : VariableAt d f s). let other : false ≡ true = ap is_mode_port (sym v.is_kind) ∙ r.1 in cc)
      (site_is d f s r.0)

  -- their names are those of their items
  pub server_name : (s : Site) (x : ServerSite s) → (server_of d f s).name ≡ item_text d f s.owner x.item.k s.item
  server_name s x =
      let owner : Some (unwrap_or s.owner 0) ≡ s.owner = ap (λ o. Some (unwrap_or o 0)) x.is.owner ∙ sym x.is.owner in
      (λ j. item_text d f (owner j) (unwrap_or (x.item.is_port j) 0) s.item)

  pub server_owner : (s : Site) (x : ServerSite s) → Some (server_of d f s).instance ≡ s.owner
  server_owner s x = ap (λ o. Some (unwrap_or o 0)) x.is.owner ∙ sym x.is.owner

  pub machine_name : (s : Site) (x : ModeSite true s) → (machine_at d f s.owner (unwrap_or s.port 0)).name ≡ item_text d f s.owner x.item.k s.item
  machine_name s x = (λ j. item_text d f s.owner (unwrap_or (x.item.is_port j) 0) (sym x.is.first j))

  pub mode_port_name : (s : Site) (x : ModeSite false s) → (mode_port_at d f s.owner (unwrap_or s.port 0)).name ≡ item_text d f s.owner x.item.k s.item
  mode_port_name s x = (λ j. item_text d f s.owner (unwrap_or (x.item.is_port j) 0) (sym x.is.first j))
