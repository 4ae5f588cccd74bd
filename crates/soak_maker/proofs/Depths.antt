-- How deep the values of the description nest: less than what is read back.
use Rattle.std.proofs.Common.{◌≡◌, ◌≤◌, ◌+◌, ◌%◌, ℕ, zero, suc, true, false, List, [], ◌∷◌, ◌++◌, nat_le, Option, Some, None, unwrap_or, codes, Ordering, Less, Equal, Greater, refl, arith}
use Rattle.bus_semantics.specs.Common.{option_map_or, leb-true}
use Rattle.std.specs.Cmp.Lexicographic.{slice_cmp}
use Rattle.std.specs.Ordering.{match_ordering, nat_cmp}
use Rattle.serde_json.specs.Data.{Data, Members, depth, items_depth, member, members_depth, no_members, null, number, put, string, unsigned}
use Rattle.serde_json.specs.Read.{max_depth, read}
use Rattle.serde_json.specs.View.{items_of}
use Rattle.serde_json.proofs.OnLiterals.{serde_json_on_literals}
use Rattle.soak_maker.specs.declared.parts.Numbered.{Numbered}
use Rattle.soak_maker.specs.declared.parts.Numbered.TheVariants.{Producer, Consumer, Queue, Service, ProducerTask, ConsumerTask, Producing, Consuming}
use Rattle.soak_maker.specs.Components.{consumer_text, data_types_text, interfaces_text, producer_text, server_text}
use Rattle.soak_maker.specs.Json.{each, fields, is_shallow, list, with_fields, written}
use Rattle.soak_maker.specs.Parts.{assembly, in_task, name, part, prototype, task}
use Rattle.soak_maker.specs.Soak.{components, compositions, connectors, events, mapping, prototypes, soak_value, tasks}

-- ---- objects

put_below : (m : ℕ) (k : List ℕ) (d : Data) (ms : Members) → depth d ≤ m → members_depth ms ≤ m → members_depth (put k d ms) ≤ m
put_below m k d no_members h j = omega (arith, h)
put_below m k d (member l e ms) h j = step (slice_cmp nat_cmp k l) (put_below m k d ms h (omega (arith, j)))
  where
    step : (o : Ordering) → members_depth (put k d ms) ≤ m → members_depth (match_ordering o (member k d (member l e ms)) (member l d ms) (member l e (put k d ms))) ≤ m
    step Less rest = omega (arith, h, j)
    step Equal rest = omega (arith, h, j)
    step Greater rest = omega (arith, j, rest)

abbrev AreFieldsBelow : ℕ → List (List ℕ × Data) → Type 0
AreFieldsBelow m [] = Unit {0}
AreFieldsBelow m (f ∷ fs) = (depth f.1 ≤ m) × AreFieldsBelow m fs

with_fields_below : (m : ℕ) (fs : List (List ℕ × Data)) (found : Members) → AreFieldsBelow m fs → members_depth found ≤ m → members_depth (with_fields fs found) ≤ m
with_fields_below m [] found h j = j
with_fields_below m (f ∷ fs) found h j = with_fields_below m fs (put f.0 f.1 found) h.1 (put_below m f.0 f.1 found h.0 j)

fields_below : (m : ℕ) (fs : List (List ℕ × Data)) → AreFieldsBelow m fs → depth (fields fs) ≤ suc m
fields_below m fs h = let less = with_fields_below m fs no_members h (omega arith) in omega (arith, less)

-- ---- lists

abbrev AreBelow : ℕ → List Data → Type 0
AreBelow m [] = Unit {0}
AreBelow m (d ∷ ds) = (depth d ≤ m) × AreBelow m ds

list_below : (m : ℕ) (ds : List Data) → AreBelow m ds → depth (list ds) ≤ suc m
list_below m ds h = let less = items_below ds h in omega (arith, less)
  where
    items_below : (es : List Data) → AreBelow m es → items_depth (items_of es) ≤ m
    items_below [] k = omega arith
    items_below (e ∷ es) k = let rest = items_below es k.1 in let one = k.0 in omega (arith, rest, one)

both_below : (m : ℕ) (ds es : List Data) → AreBelow m ds → AreBelow m es → AreBelow m (ds ++ es)
both_below m [] es h k = k
both_below m (d ∷ ds) es h k = (h.0, both_below m ds es h.1 k)

each_below : (m n : ℕ) (f : ℕ → Data) → ((i : ℕ) → depth (f i) ≤ m) → AreBelow m (each n f)
each_below m zero f h = tt
each_below m (suc n) f h = both_below m (each n f) (f n ∷ []) (each_below m n f h) (h n, tt)

-- ---- the parts

texts_below : (fs : List (List ℕ × Data)) → AreFieldsBelow 1 fs → depth (fields fs) ≤ 2
texts_below fs h = fields_below 1 fs h

flat : (t : List ℕ) → depth (string t) ≤ 1
flat t = omega arith

whole : (n : ℕ) → depth (number (unsigned n)) ≤ 1
whole n = omega arith

pair : (a b : List ℕ) → depth (list (string a ∷ string b ∷ [])) ≤ 1
pair a b = list_below 0 (string a ∷ string b ∷ []) (omega arith, (omega arith, tt))

abbrev Fields : Type 0
Fields = List (List ℕ × Data)

prototype_below : (a b : List ℕ) → depth (prototype a b) ≤ 2
prototype_below a b =
    let fs : Fields = (codes "shortName", string a) ∷ (codes "type", string b) ∷ [] in
    let h : AreFieldsBelow 1 fs = (flat a, (flat b, tt)) in
    texts_below fs h

assembly_below : (a b port : List ℕ) → depth (assembly a b port) ≤ 2
assembly_below a b port =
    let fs : Fields = (codes "kind", string (codes "AssemblySwConnector")) ∷ (codes "provider", list (string a ∷ string port ∷ [])) ∷ (codes "requester", list (string b ∷ string port ∷ [])) ∷ [] in
    let h : AreFieldsBelow 1 fs = (flat (codes "AssemblySwConnector"), (pair a port, (pair b port, tt))) in
    texts_below fs h

task_below : (a : List ℕ) (n : ℕ) → depth (task a n) ≤ 2
task_below a n =
    let fs : Fields = (codes "shortName", string a) ∷ (codes "core", number (unsigned n)) ∷ [] in
    let h : AreFieldsBelow 1 fs = (flat a, (whole n, tt)) in
    texts_below fs h

in_task_below : (a b : List ℕ) (n : ℕ) → depth (in_task a b n) ≤ 2
in_task_below a b n =
    let fs : Fields = (codes "instance", string a) ∷ (codes "event", string (codes "Ev")) ∷ (codes "task", string b) ∷ (codes "position", number (unsigned n)) ∷ [] in
    let h : AreFieldsBelow 1 fs = (flat a, (flat (codes "Ev"), (flat b, (whole n, tt)))) in
    texts_below fs h

part_below : (kind : Numbered) (i : ℕ) → depth (part kind i) ≤ 2
part_below Producer i = prototype_below (name (codes "p") i) (codes "Prod")
part_below Consumer i = prototype_below (name (codes "c") i) (codes "Cons")
part_below Queue i = assembly_below (name (codes "p") i) (name (codes "c") i) (codes "q")
part_below Service i = assembly_below (codes "acc") (name (codes "p") i) (codes "s")
part_below ProducerTask i = task_below (name (codes "P") i) i
part_below ConsumerTask i = task_below (name (codes "C") i) i
part_below Producing i = in_task_below (name (codes "p") i) (name (codes "P") (i % 4)) i
part_below Consuming i = in_task_below (name (codes "c") i) (name (codes "C") ((i % 4 + 1) % 4)) i

parts_below : (a b : Numbered) (n : ℕ) → AreBelow 2 (each n (part a) ++ each n (part b))
parts_below a b n = both_below 2 (each n (part a)) (each n (part b)) (each_below 2 n (part a) (part_below a)) (each_below 2 n (part b) (part_below b))

-- ---- what is read of texts

shallow : (t : List ℕ) → is_shallow t ≡ true → depth (written t) ≤ 100
shallow t h = step (read t) h
  where
    step : (o : Option Data) → option_map_or (λ d. nat_le (depth d) 100) o false ≡ true → depth (unwrap_or o null) ≤ 100
    step None k = absurd (cc)
    step (Some d) k = leb-true (depth d) 100 k

pub data_types_shallow : is_shallow data_types_text ≡ true
unfolding serde_json_on_literals
data_types_shallow = refl

pub interfaces_shallow : is_shallow interfaces_text ≡ true
unfolding serde_json_on_literals
interfaces_shallow = refl

pub producer_shallow : is_shallow producer_text ≡ true
unfolding serde_json_on_literals
producer_shallow = refl

pub consumer_shallow : is_shallow consumer_text ≡ true
unfolding serde_json_on_literals
consumer_shallow = refl

pub server_shallow : is_shallow server_text ≡ true
unfolding serde_json_on_literals
server_shallow = refl

-- ---- the description

with_one : (a b : Numbered) (n : ℕ) (d : Data) → depth d ≤ 2 → depth (list ((each n (part a) ++ each n (part b)) ++ d ∷ [])) ≤ 3
with_one a b n d h =
    let all = each n (part a) ++ each n (part b) in
    let one : AreBelow 2 (d ∷ []) = (h, tt) in
    list_below 2 (all ++ d ∷ []) (both_below 2 all (d ∷ []) (parts_below a b n) one)

prototypes_below : (n : ℕ) → depth (prototypes n) ≤ 3
prototypes_below n = with_one Producer Consumer n (prototype (codes "acc") (codes "Acc")) (prototype_below (codes "acc") (codes "Acc"))

connectors_below : (n : ℕ) → depth (connectors n) ≤ 3
connectors_below n = list_below 2 (each n (part Queue) ++ each n (part Service)) (parts_below Queue Service n)

tasks_below : depth tasks ≤ 3
tasks_below = with_one ProducerTask ConsumerTask 4 (task (codes "A") 0) (task_below (codes "A") 0)

events_below : (n : ℕ) → depth (events n) ≤ 3
events_below n = with_one Producing Consuming n (in_task (codes "acc") (codes "A") 0) (in_task_below (codes "acc") (codes "A") 0)

compositions_below : (n : ℕ) → depth (compositions n) ≤ 5
compositions_below n =
    let fs : Fields = (codes "shortName", string (codes "Top")) ∷ (codes "prototypes", prototypes n) ∷ (codes "connectors", connectors n) ∷ [] in
    let h : AreFieldsBelow 3 fs = (omega arith, (prototypes_below n, (connectors_below n, tt))) in
    let one : AreBelow 4 (fields fs ∷ []) = (fields_below 3 fs h, tt) in
    list_below 4 (fields fs ∷ []) one

mapping_below : (n : ℕ) → depth (mapping n) ≤ 4
mapping_below n =
    let fs : Fields = (codes "cores", number (unsigned 4)) ∷ (codes "tasks", tasks) ∷ (codes "events", events n) ∷ [] in
    let h : AreFieldsBelow 3 fs = (omega arith, (tasks_below, (events_below n, tt))) in
    fields_below 3 fs h

components_below : depth components ≤ 101
components_below =
    let ds : List Data = written producer_text ∷ written consumer_text ∷ written server_text ∷ [] in
    let h : AreBelow 100 ds = (shallow producer_text producer_shallow, (shallow consumer_text consumer_shallow, (shallow server_text server_shallow, tt))) in
    list_below 100 ds h

higher : (d : Data) (m : ℕ) → depth d ≤ m → m ≤ 101 → depth d ≤ 101
higher d m h more = omega (arith, h, more)

pub description_below : (n : ℕ) → depth (soak_value n) ≤ max_depth
description_below n =
    let fs : Fields = (codes "dataTypes", written data_types_text) ∷ (codes "interfaces", written interfaces_text) ∷ (codes "components", components)
    ∷ (codes "compositions", compositions n) ∷ (codes "root", string (codes "Top")) ∷ (codes "mapping", mapping n) ∷ [] in
    let h : AreFieldsBelow 101 fs = (
      higher (written data_types_text) 100 (shallow data_types_text data_types_shallow) (omega arith),
      (
        higher (written interfaces_text) 100 (shallow interfaces_text interfaces_shallow) (omega arith),
        (
          components_below,
          (
            higher (compositions n) 5 (compositions_below n) (omega arith),
            (
              omega arith,
              (higher (mapping n) 4 (mapping_below n) (omega arith), tt),
            ),
          ),
        ),
      ),
    ) in
    let all : depth (soak_value n) ≤ 102 = fields_below 101 fs h in
    omega (arith, all)
