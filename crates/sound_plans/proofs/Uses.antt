-- Accesses are sound: what each names is there, of the runnable's instance, and takes its words.
use Rattle.std.proofs.Common.{◌≡◌, ℕ, Bool, true, false, cond, ◌&&◌, ◌||◌, not, ◌==◌, refl, sym, ◌∙◌, ap, arith, List, [], map, length, Option, Some, None, option_map, option_and_then}
use Rattle.bus_semantics.specs.Common.{and_from, and_parts, eq-eqb, eqb-true, leb-true, lt-ltb, ltb-true, slice_get, list_all, option_map_or, Limits, same_number, AccessKind, is_queued}
use Rattle.bus_semantics.specs.Common.{is_unqueued, modes_of, elem_fits, result_point, switch_fits, mode_port_fits, point_takes, mode_count, access_sound, same_limits, is_in, is_variable}
use Rattle.std.specs.Prelude.{nat_lt, nat_le, replicate}
use Rattle.runnable_lang.specs.declared.program.AccessKind.TheVariants as kind
use Rattle.plan_definitions.specs.Common.{DataType, DataElement, Direction, In, Out, Interface, ModeGroup, SwImplPolicy, Standard, Queued, Access, Component, Port, PortKind, Provided}
use Rattle.plan_definitions.specs.Common.{Required, Variable, Description, Flat, item_at, arguments_of, words_of_item, words_of_variable, access_sig, area_of, areas, elem_seen, elements}
use Rattle.plan_definitions.specs.Common.{policy_kind, pair_number, areas_of, runnables_of, provides_at, site, element_number, machine_for, machine_number, mode_port_number, target_of}
use Rattle.plan_definitions.specs.Common.{owner_of, is_calling, leaves, point_number, machine_at, machines, mode_port_at, mode_ports, point_of, point_words, points, IsWhole}
use Rattle.description_types.specs.declared.interface.Operation as declared_operation
use Rattle.description_types.specs.declared.component.Runnable as declared_runnable
use Rattle.bus_laws.specs.Common.{AreaPlan, BusPlan, ElemKind, ElemPlan, MachinePlan, ModePortPlan, PointPlan, Mapping}
use Rattle.bus_semantics.specs.declared.plan.ElemKind.TheVariants as elem
use Rattle.bus_semantics.specs.SoundAccesses.{takes_words}
use Rattle.plan_definitions.specs.declared.item.Item.{Item}
use Rattle.plan_definitions.specs.declared.item.Item.TheVariants.{Data, Operation, Modes}
use Rattle.plan_definitions.specs.Accesses as reaches
use Rattle.plan_definitions.specs.Signatures.{words_of, words_at}
use Rattle.plan_definitions.specs.Signatures as signatures
use Rattle.plan_definitions.specs.Elements as seen
use Rattle.plan_definitions.specs.declared.site.Site.{Site}
use Rattle.plan_definitions.specs.declared.site.SiteKind.TheVariants as site_kind
use Rattle.plan_definitions.specs.declared.calling.Calling.{Calling}
use Rattle.plan_definitions.specs.WellFormed as formed
use Rattle.plan_definitions.proofs.Lists.{there as there_at}
use Rattle.bus_laws.proofs.Thinning.{option_test}
use Rattle.sound_plans.proofs.Places.{looked, all_at}
use Rattle.sound_plans.proofs.Parts.{Home, area_there}
use Rattle.sound_plans.proofs.Rules.{planned, access_kept, call_kept, runnable_formed}
use Rattle.sound_plans.proofs.SiteNumbers.{ports_at_home}
use Rattle.sound_plans.proofs.Items.{ItemAt, item_there, operation_item, modes_item}
use Rattle.sound_plans.proofs.ElemNumbers.{ElemAt, data_in, data_elem, variable_elem}
use Rattle.sound_plans.proofs.Providers.{interface_is, machine_there, machine_modes, required_machine, required_modes, mode_port_there}
use Rattle.sound_plans.proofs.Points.{Calls, waits, goes_on, call, call_there, left_by_access}
use Rattle.sound_plans.proofs.Callers.{point_is, point_there, result_at, result_there}
use Rattle.sound_plans.proofs.Operations.{limits_same, OperationAt, words_are}
use Rattle.sound_plans.proofs.Fits.{Finds, finds}
use Rattle.sound_plans.proofs.Elems.{queued, unqueued}

-- the words of a type
type_words : (o : Option DataType) → option_map_or (λ (t : DataType). replicate t.words t.limits) o [] ≡ replicate (seen.words_of o) (seen.limits_of o)
type_words None = refl
type_words (Some t) = refl

module _ (d : Description) (f : Flat) (p : BusPlan) (m : Mapping) (w : IsWhole d f p m) (es : List ElemPlan) (seen_as : map elem_seen es ≡ elements d f) where
  module _ (i : ℕ) (c : Component) (home : Home d f i c) where
    -- ---- data

    elem_here : (n : ℕ) (s : Site) (k : ElemKind) (b : Bool) (o : Option DataType) (y : ElemAt d f es seen_as n s k b o) → s.owner ≡ Some i → (test : ElemPlan → Bool) → test y.elem ≡ true → elem_fits (planned d f es) (Some i) test n ≡ true
    elem_here n s k b o y owner test passes =
        looked es n y.elem (λ (e : ElemPlan). same_number e.instance (Some i) && test e) false y.there
        ∙ and_from (same_number y.elem.instance (Some i)) (test y.elem) (option_test y.elem.instance (Some i) (y.owner ∙ owner)) passes

    words_here : (n : ℕ) (s : Site) (k : ElemKind) (b : Bool) (o : Option DataType) (y : ElemAt d f es seen_as n s k b o) (limits : List Limits) → limits ≡ option_map_or (λ (t : DataType). replicate t.words t.limits) o [] → takes_words (planned d f es) n limits ≡ true
    words_here n s k b o y limits is =
        looked es n y.elem (λ (e : ElemPlan). same_limits limits (replicate e.words e.limits)) false y.there
        ∙ limits_same limits (replicate y.elem.words y.elem.limits) (is ∙ type_words o ∙ sym (λ j. replicate (y.words j) (y.limits j)))

    kind_here : (k n : ℕ) (side : PortKind) (item : Item) (x : ItemAt d.types c.ports k n side item) → signatures.kind_at d.types c k ≡ Some x.interface.kind
    kind_here k n side item x = ap (λ o. option_map (λ (z : Interface). z.kind) (option_and_then (λ (q : Port). slice_get d.types.interfaces q.interface) o)) x.there ∙ ap (option_map (λ (z : Interface). z.kind)) x.has

    module _ (k n : ℕ) (side : PortKind) (policy : SwImplPolicy) (x : ItemAt d.types c.ports k n side (Data policy)) where
      the_elem : ElemAt d f es seen_as (element_number d f i (Some k) n) (site (Some i) (Some k) n (site_kind.Element (provides_at (Some i) side))) (policy_kind policy) (provides_at (Some i) side) (slice_get d.types.data_types (data_in d f es seen_as i c home k n side policy x).element.of_type)
      the_elem = data_elem d f es seen_as i c home k n side policy x

      data_words : (way : Direction) → takes_words (planned d f es) (element_number d f i (Some k) n) (words_at d.types way c k n) ≡ true
      data_words way =
          let z = data_in d f es seen_as i c home k n side policy x in
          words_here (element_number d f i (Some k) n) (site (Some i) (Some k) n (site_kind.Element (provides_at (Some i) side))) (policy_kind policy) (provides_at (Some i) side) (slice_get d.types.data_types z.element.of_type) the_elem (words_at d.types way c k n)
          (ap (λ o. option_map_or (λ kind. words_of_item d.types way kind n) o []) (kind_here k n side (Data policy) x) ∙ ap (λ kind. words_of_item d.types way kind n) z.is
          ∙ ap (λ o. option_map_or (λ (e : DataElement). words_of d.types.data_types e.of_type) o []) z.there)

    data_fits : (k n : ℕ) (side : PortKind) (policy : SwImplPolicy) (x : ItemAt d.types c.ports k n side (Data policy)) (test : ElemKind → Bool → Bool) → test (policy_kind policy) (provides_at (Some i) side) ≡ true
        → elem_fits (planned d f es) (Some i) (λ e. test e.kind e.provided) (element_number d f i (Some k) n) ≡ true
    data_fits k n side policy x test passes =
        let y = the_elem k n side policy x in
        elem_here (element_number d f i (Some k) n) (site (Some i) (Some k) n (site_kind.Element (provides_at (Some i) side))) (policy_kind policy) (provides_at (Some i) side) (slice_get d.types.data_types (data_in d f es seen_as i c home k n side policy x).element.of_type) y refl
        (λ e. test e.kind e.provided) ((λ j. test (y.kept j) (y.side j)) ∙ passes)

    variable_fits : (n : ℕ) → nat_lt n (length c.behavior.variables) ≡ true → (elem_fits (planned d f es) (Some i) is_variable (element_number d f i None n) && takes_words (planned d f es) (element_number d f i None n) (words_of_variable d.types c n)) ≡ true
    variable_fits n less =
        let v = there_at c.behavior.variables n (ltb-true n (length c.behavior.variables) less) in
        let y = variable_elem d f es seen_as i c home n v.0 v.1 in
        and_from (elem_fits (planned d f es) (Some i) is_variable (element_number d f i None n)) (takes_words (planned d f es) (element_number d f i None n) (words_of_variable d.types c n))
        (elem_here (element_number d f i None n) (site (Some i) None n site_kind.Variable) elem.Variable false (slice_get d.types.data_types v.0.of_type) y refl is_variable (ap (λ k. not (queued k || unqueued k)) y.kept))
        (words_here (element_number d f i None n) (site (Some i) None n site_kind.Variable) elem.Variable false (slice_get d.types.data_types v.0.of_type) y (words_of_variable d.types c n)
        (ap (λ o. option_map_or (λ (v : Variable). words_of d.types.data_types v.of_type) o []) v.1))

    -- ---- operations

    record OperationWords (k n : ℕ) : Type 0 where
      operation : OperationAt d f p m w (Some i) k n
      words : (way : Direction) → words_at d.types way c k n ≡ arguments_of d.types.data_types way operation.operation.arguments

    operation_words : (k n : ℕ) → item_at d.types c.ports k n ≡ Some (Required, Operation) → OperationWords k n
    operation_words k n e =
        let x = item_there d.types c.ports k n Required Operation e in
        let y = operation_item d.types x.interface.kind n x.is in
        record {
          operation = record { all = y.all; is = interface_is d f p m w (Some i) k x.port (ap (λ ps. slice_get ps k) (ports_at_home d f i c home) ∙ x.there) ∙ ap (option_map (λ (z : Interface). z.kind)) x.has ∙ ap (λ z. Some z) y.is; operation = y.operation; there = y.there };
          words = λ way. ap (λ o. option_map_or (λ kind. words_of_item d.types way kind n) o []) (kind_here k n Required Operation x) ∙ ap (λ kind. words_of_item d.types way kind n) y.is
              ∙ ap (λ o. option_map_or (λ (z : declared_operation.Operation). arguments_of d.types.data_types way z.arguments) o []) y.there;
        }

    -- the point of a call
    point_here : (r : ℕ) (rr : declared_runnable.Runnable) → slice_get c.behavior.runnables r ≡ Some rr → (j : ℕ) (a : Access) → slice_get rr.accesses j ≡ Some a → (b : Bool) → Calls a.kind b
        → slice_get (points d f) (point_number d f (is_calling (i, r) a.port a.item)) ≡ Some (point_of d f (call i r a b))
    point_here r rr there j a here b calls =
        ap (slice_get (points d f)) (point_is d f p m w i c home r rr there j a here b calls) ∙ point_there d f p m w es _ (call i r a b) (call_there d f i c home r rr there j a here b calls)

    words_point : (way : Direction) (k n : ℕ) (x : OperationWords k n) (y : Calling) → owner_of y ≡ Some i → y.port ≡ k → y.item ≡ n → words_at d.types way c k n ≡ point_words d f way y
    words_point way k n x y owner port item =
        x.words way ∙ sym (words_are d f p m w way (record { caller = Some (i, 0); port = k; item = n; asynchronous = true }) x.operation)
        ∙ sym (λ j. point_words_at (owner j) (port j) (item j))
      where
        point_words_at : Option ℕ → ℕ → ℕ → List Limits
        point_words_at o k n = option_map_or (λ (z : declared_operation.Operation). arguments_of d.types.data_types way z.arguments) (Rattle.plan_definitions.specs.Services.operation_at d f o k n) []

    -- ---- each access, by its kind

    module _ (r : ℕ) (rr : declared_runnable.Runnable) (there : slice_get c.behavior.runnables r ≡ Some rr) where
      mine : ℕ
      mine = pair_number (runnables_of d f) (i, r)

      abbrev of_kind : AccessKind → ℕ → ℕ → Access
      of_kind k port n = record { kind = k; port = port; item = n }

      module _ (j : ℕ) (port n : ℕ) where
        found : (k : AccessKind) → slice_get rr.accesses j ≡ Some (of_kind k port n) → reaches.names_port k ≡ true → Finds d.types c.ports k port n
        found k at named = finds d.types c.ports (of_kind k port n) (access_kept d f p m w home.instance.component c home.has r rr j (of_kind k port n) there at) named

        fit : (k : AccessKind) → slice_get rr.accesses j ≡ Some (of_kind k port n) → formed.access_fits d.types c (of_kind k port n) ≡ true
        fit k at = all_at (formed.access_fits d.types c) rr.accesses j (of_kind k port n) (and_parts (list_all (formed.access_fits d.types c) rr.accesses) _ (runnable_formed d f p m w home.instance.component c home.has r rr there)).0 at

        item_of_side : (x : Option (PortKind × Item)) (side side2 : PortKind) (item item2 : Item) → x ≡ Some (side, item) → side ≡ side2 → item ≡ item2 → x ≡ Some (side2, item2)
        item_of_side x side side2 item item2 e s t = e ∙ (λ q. Some (s q, t q))

        writes_data : (k : AccessKind) (x : Finds d.types c.ports k port n) (policy : SwImplPolicy) (side : PortKind) → x.side ≡ side → x.found ≡ Data policy → ItemAt d.types c.ports port n side (Data policy)
        writes_data k x policy side s t = item_there d.types c.ports port n side (Data policy) (item_of_side (item_at d.types c.ports port n) x.side side x.found (Data policy) x.there s t)

        operation_found : (k : AccessKind) (x : Finds d.types c.ports k port n) → x.side ≡ Required → x.found ≡ Operation → OperationWords port n
        operation_found k x s t = operation_words port n (item_of_side (item_at d.types c.ports port n) x.side Required x.found Operation x.there s t)

        call_sound : (b : Bool) (k : AccessKind) → Calls k b → slice_get rr.accesses j ≡ Some (of_kind k port n) → OperationWords port n
            → point_takes (planned d f es) mine b (words_at d.types In c port n) (words_at d.types Out c port n) (point_number d f (is_calling (i, r) port n)) ≡ true
        unfolding mine
        call_sound b k calls at x =
            looked (points d f) (point_number d f (is_calling (i, r) port n)) (point_of d f (call i r (of_kind k port n) b))
            (λ (t : PointPlan). (same_number t.runnable (Some (pair_number (runnables_of d f) (i, r))) && (cond b t.asynchronous (not t.asynchronous))) && (same_limits (words_at d.types In c port n) t.ins && (b || same_limits (words_at d.types Out c port n) t.outs))) false
            (point_here r rr there j (of_kind k port n) at b calls)
            ∙ and_from (same_number (Some (pair_number (runnables_of d f) (i, r))) (Some (pair_number (runnables_of d f) (i, r))) && (cond b b (not b))) _
            (and_from (same_number (Some (pair_number (runnables_of d f) (i, r))) (Some (pair_number (runnables_of d f) (i, r)))) (cond b b (not b)) (option_test (Some (pair_number (runnables_of d f) (i, r))) (Some (pair_number (runnables_of d f) (i, r))) refl) (either b))
            (and_from (same_limits (words_at d.types In c port n) (point_words d f In (call i r (of_kind k port n) b))) (b || same_limits (words_at d.types Out c port n) (point_words d f Out (call i r (of_kind k port n) b)))
            (limits_same (words_at d.types In c port n) (point_words d f In (call i r (of_kind k port n) b)) (words_point In port n x (call i r (of_kind k port n) b) refl refl refl))
            (Rattle.std.proofs.lemmas.Bool.or_right b (same_limits (words_at d.types Out c port n) (point_words d f Out (call i r (of_kind k port n) b)))
            (limits_same (words_at d.types Out c port n) (point_words d f Out (call i r (of_kind k port n) b)) (words_point Out port n x (call i r (of_kind k port n) b) refl refl refl))))
          where
            either : (b : Bool) → cond b b (not b) ≡ true
            either true = refl
            either false = refl

        count_found : (k : AccessKind) (x : Finds d.types c.ports k port n) (count : ℕ) → x.found ≡ Modes count → option_map_or (λ (z : PortKind × Item). signatures.mode_count z.1) (item_at d.types c.ports port n) 0 ≡ count
        count_found k x count t = ap (λ o. option_map_or (λ (z : PortKind × Item). signatures.mode_count z.1) o 0) x.there ∙ ap signatures.mode_count t

        use_here : (k : AccessKind) → slice_get rr.accesses j ≡ Some (of_kind k port n) → access_sound (planned d f es) mine (Some i) (access_sig d.types c (of_kind k port n)) (target_of d f i r (of_kind k port n)) ≡ true
        unfolding mine
        use_here kind.Write at =
            let x = found kind.Write at refl in
            let y = writes_data kind.Write x Standard Provided x.needed.0 x.needed.1 in
            and_from (elem_fits (planned d f es) (Some i) (λ e. is_unqueued e && e.provided) (element_number d f i (Some port) n)) _ (data_fits port n Provided Standard y (λ k b. unqueued k && b) refl) (data_words port n Provided Standard y In)
        use_here kind.Read at =
            let x = found kind.Read at refl in
            let y = writes_data kind.Read x Standard Required x.needed.0 x.needed.1 in
            and_from (elem_fits (planned d f es) (Some i) (λ e. is_unqueued e && not e.provided) (element_number d f i (Some port) n)) _ (data_fits port n Required Standard y (λ k b. unqueued k && not b) refl) (data_words port n Required Standard y Out)
        use_here kind.Invalidate at =
            let x = found kind.Invalidate at refl in
            data_fits port n Provided Standard (writes_data kind.Invalidate x Standard Provided x.needed.0 x.needed.1) (λ k b. unqueued k && b) refl
        use_here kind.IsUpdated at =
            let x = found kind.IsUpdated at refl in
            data_fits port n Required Standard (writes_data kind.IsUpdated x Standard Required x.needed.0 x.needed.1) (λ k b. unqueued k && not b) refl
        use_here kind.Send at =
            let x = found kind.Send at refl in
            let y = writes_data kind.Send x Queued Provided x.needed.0 x.needed.1 in
            and_from (elem_fits (planned d f es) (Some i) (λ e. is_queued e && e.provided) (element_number d f i (Some port) n)) _ (data_fits port n Provided Queued y (λ k b. queued k && b) refl) (data_words port n Provided Queued y In)
        use_here kind.Receive at =
            let x = found kind.Receive at refl in
            let y = writes_data kind.Receive x Queued Required x.needed.0 x.needed.1 in
            and_from (elem_fits (planned d f es) (Some i) (λ e. is_queued e && not e.provided) (element_number d f i (Some port) n)) _ (data_fits port n Required Queued y (λ k b. queued k && not b) refl) (data_words port n Required Queued y Out)
        use_here kind.IWrite at =
            let x = found kind.IWrite at refl in
            let y = writes_data kind.IWrite x Standard Provided x.needed.0 x.needed.1 in
            and_from (elem_fits (planned d f es) (Some i) (λ e. is_unqueued e && e.provided) (element_number d f i (Some port) n)) _ (data_fits port n Provided Standard y (λ k b. unqueued k && b) refl) (data_words port n Provided Standard y In)
        use_here kind.IRead at =
            let x = found kind.IRead at refl in
            let y = writes_data kind.IRead x Standard Required x.needed.0 x.needed.1 in
            and_from (elem_fits (planned d f es) (Some i) (λ e. is_unqueued e && not e.provided) (element_number d f i (Some port) n)) _ (data_fits port n Required Standard y (λ k b. unqueued k && not b) refl) (data_words port n Required Standard y Out)
        use_here kind.IrvWrite at = variable_fits n (fit kind.IrvWrite at)
        use_here kind.IrvRead at = variable_fits n (fit kind.IrvRead at)
        use_here kind.IrvIWrite at = variable_fits n (fit kind.IrvIWrite at)
        use_here kind.IrvIRead at = variable_fits n (fit kind.IrvIRead at)
        use_here kind.Call at = let x = found kind.Call at refl in call_sound false kind.Call waits at (operation_found kind.Call x x.needed.0 x.needed.1)
        use_here kind.ACall at = let x = found kind.ACall at refl in call_sound true kind.ACall goes_on at (operation_found kind.ACall x x.needed.0 x.needed.1)
        use_here kind.TakeResult at =
            let x = found kind.TakeResult at refl in
            let o = operation_found kind.TakeResult x x.needed.0 x.needed.1 in
            let l = left_by_access d f p m w home.instance.component c home.has port n (call_kept d f p m w home.instance.component c home.has r rr j (of_kind kind.TakeResult port n) there at) in
            let z = result_at d f p m w es i c home port n l in
            let owner : owner_of z.calling ≡ Some i = ap owner_of z.call.is.is ∙ ap (λ k. Some k) z.instance in
            and_from (result_point (planned d f es) (Some i) (point_number d f (leaves i port n))) _ (result_there d f p m w es i c home port n l)
            (looked (points d f) (point_number d f (leaves i port n)) (point_of d f z.calling) (λ (q : PointPlan). same_limits (words_at d.types Out c port n) q.outs) false
            (ap (slice_get (points d f)) z.number ∙ point_there d f p m w es z.place z.calling z.there)
            ∙ limits_same (words_at d.types Out c port n) (point_words d f Out z.calling) (words_point Out port n o z.calling owner z.port z.item))
        use_here kind.Switch at =
            let x = found kind.Switch at refl in
            let item = item_there d.types c.ports port n Provided (Modes x.needed.0) (item_of_side (item_at d.types c.ports port n) x.side Provided x.found (Modes x.needed.0) x.there x.needed.1 x.needed.2) in
            let z = modes_item d.types item.interface.kind n x.needed.0 item.is in
            let here = ap (λ ps. slice_get ps port) (ports_at_home d f i c home) ∙ item.there in
            let is = ap (option_map (λ (i : Interface). i.kind)) item.has ∙ ap (λ k. Some k) z.is in
            let machine = machine_there d f p m w (Some i) port item.port z.element here (ap (λ s. provides_at (Some i) s) item.kind) is in
            let modes : (machine_at d f (Some i) port).modes ≡ z.group.modes = machine_modes d f p m w (Some i) port z.element z.group.modes (interface_is d f p m w (Some i) port item.port here ∙ is) (ap (option_map (λ (g : ModeGroup). g.modes)) z.there) in
            let group : formed.group_fits z.group ≡ true = all_at formed.group_fits d.types.mode_groups z.element.of_type z.group
            (and_parts (list_all formed.group_fits d.types.mode_groups) _ (and_parts (list_all formed.type_fits d.types.data_types) _ w.well_formed.types).1).0 z.there in
            let many : nat_lt 0 (length z.group.modes) ≡ true = some_modes (length z.group.modes) (and_parts (is_in 1 32 (length z.group.modes)) _ group).0 in
            let count : modes_of (planned d f es) (machine_number d f (Some i, Some port, 0)) ≡ x.needed.0 =
            looked (machines d f) (machine_number d f (Some i, Some port, 0)) (machine_at d f (Some i) port) (λ (n : MachinePlan). length n.modes) 0 machine ∙ ap length modes ∙ z.counted in
            and_from (switch_fits (planned d f es) (Some i) (machine_number d f (Some i, Some port, 0)) 0) _
            (looked (machines d f) (machine_number d f (Some i, Some port, 0)) (machine_at d f (Some i) port) (λ (n : MachinePlan). same_number n.instance (Some i) && nat_lt 0 (length n.modes)) false machine
            ∙ and_from (same_number (Some i) (Some i)) (nat_lt 0 (length (machine_at d f (Some i) port).modes)) (option_test (Some i) (Some i) refl) (ap (λ ms. nat_lt 0 (length ms)) modes ∙ many))
            (and_from (option_map_or (λ (z : PortKind × Item). signatures.mode_count z.1) (item_at d.types c.ports port n) 0 == modes_of (planned d f es) (machine_number d f (Some i, Some port, 0))) (n == 0)
            (eq-eqb (option_map_or (λ (z : PortKind × Item). signatures.mode_count z.1) (item_at d.types c.ports port n) 0) (modes_of (planned d f es) (machine_number d f (Some i, Some port, 0)))
            (count_found kind.Switch x x.needed.0 x.needed.2 ∙ sym count))
            (and_parts (nat_lt port (length c.ports)) (n == 0) (fit kind.Switch at)).1)
          where
            some_modes : (n : ℕ) → is_in 1 32 n ≡ true → nat_lt 0 n ≡ true
            some_modes n e = let l = leb-true 1 n (and_parts (nat_le 1 n) (nat_le n 32) e).0 in lt-ltb 0 n (omega arith)
        use_here kind.Mode at =
            let x = found kind.Mode at refl in
            let zero_item : n ≡ 0 = eqb-true n 0 (and_parts (nat_lt port (length c.ports)) (n == 0) (fit kind.Mode at)).1 in
            let item = item_there d.types c.ports port 0 Required (Modes x.needed.0)
            (ap (item_at d.types c.ports port) (sym zero_item) ∙ item_of_side (item_at d.types c.ports port n) x.side Required x.found (Modes x.needed.0) x.there x.needed.1 x.needed.2) in
            let y = required_machine d f p m w i c home port x.needed.0 item in
            let there_port = mode_port_there d f p m w i c home port x.needed.0 item in
            let count : mode_count (planned d f es) (mode_port_number d f i port) ≡ x.needed.0 =
            looked (mode_ports d f) (mode_port_number d f i port) (mode_port_at d f (Some i) port) (λ (t : ModePortPlan). modes_of (planned d f es) t.machine) 0 there_port
            ∙ looked (machines d f) (machine_for d f (Some i) port) y.machine (λ (n : MachinePlan). length n.modes) 0 y.there ∙ required_modes d f p m w i c home port x.needed.0 item in
            and_from (mode_port_fits (planned d f es) (Some i) (mode_port_number d f i port)) _
            (looked (mode_ports d f) (mode_port_number d f i port) (mode_port_at d f (Some i) port) (λ (t : ModePortPlan). same_number t.instance (Some i)) false there_port ∙ option_test (Some i) (Some i) refl)
            (eq-eqb (option_map_or (λ (z : PortKind × Item). signatures.mode_count z.1) (item_at d.types c.ports port n) 0) (mode_count (planned d f es) (mode_port_number d f i port))
            (count_found kind.Mode x x.needed.0 x.needed.2 ∙ sym count))
        use_here kind.Enter at =
            let a = there_at c.behavior.exclusive_areas n (ltb-true n (length c.behavior.exclusive_areas) (fit kind.Enter at)) in
            looked (areas d f) (pair_number (areas_of d f) (i, n)) (area_of i a.0) (λ (x : AreaPlan). same_number (Some x.instance) (Some i)) false (area_there d f i c home n a.0 a.1)
            ∙ option_test (Some i) (Some i) refl

      -- an access of the runnable
      pub use_sound : (j : ℕ) (a : Access) → slice_get rr.accesses j ≡ Some a → access_sound (planned d f es) (pair_number (runnables_of d f) (i, r)) (Some i) (access_sig d.types c a) (target_of d f i r a) ≡ true
      unfolding mine
      use_sound j a at = use_here j a.port a.item a.kind at
