-- The description with which a node is soaked has few values.
use Rattle.std.proofs.Common.{◌≡◌, ◌≤◌, ◌+◌, ◌*◌, ◌%◌, ℕ, zero, suc, true, List, [], ◌∷◌, ◌++◌, nat_le, length, Option, Some, None, unwrap_or, codes, refl, sym, ap, subst, arith}
use Rattle.std.proofs.lemmas.Bool.{leb-true}
use Rattle.serde_json.specs.Data.{Data, Members, no_members, null, number, put, string, unsigned}
use Rattle.serde_json.specs.Read.{read}
use Rattle.serde_json.specs.View.{items_of}
use Rattle.description_places.specs.Rules.{Reads}
use Rattle.soak_maker.specs.Components.{consumer_text, data_types_text, interfaces_text, producer_text, server_text}
use Rattle.soak_maker.specs.Json.{each, fields, list, with_fields, written}
use Rattle.soak_maker.specs.Parts.{assembly, in_task, name, prototype, task}
use Rattle.soak_maker.specs.Soak.{components, compositions, connectors, events, mapping, prototypes, soak_value, tasks}
use Rattle.declared_names.specs.Sizes.{size, items_size, members_size, sizes, IsSmall, AreFew}
use Rattle.declared_names.proofs.Reading.{put_small, size_read}

-- ---- objects and lists

abbrev fields_size : List (List ℕ × Data) → ℕ
fields_size [] = 0
fields_size (f ∷ fs) = size f.1 + fields_size fs

with_size : (fs : List (List ℕ × Data)) (found : Members) → members_size (with_fields fs found) ≤ fields_size fs + members_size found
with_size [] found = omega arith
with_size (f ∷ fs) found = omega (arith, with_size fs (put f.0 f.1 found), put_small f.0 f.1 found)

fields_least : (fs : List (List ℕ × Data)) (n : ℕ) → fields_size fs ≤ n → size (fields fs) ≤ 1 + n
fields_least fs n h = omega (arith, h, with_size fs no_members)

items_size_of : (ds : List Data) → items_size (items_of ds) ≡ sizes ds
items_size_of [] = refl
items_size_of (d ∷ ds) = ap (λ n. size d + n) (items_size_of ds)

list_size : (ds : List Data) (n : ℕ) → sizes ds ≤ n → size (list ds) ≤ 1 + n
list_size ds n h = omega (arith, h, items_size_of ds)

both_size : (ds es : List Data) (m n : ℕ) → sizes ds ≤ m → sizes es ≤ n → sizes (ds ++ es) ≤ m + n
both_size [] es m n h k = omega (arith, h, k)
both_size (d ∷ ds) es m n h k = omega (arith, h, k, both_size ds es (sizes ds) n (omega arith) k)

each_size : (n : ℕ) (f : ℕ → Data) → ((i : ℕ) → size (f i) ≤ 10) → sizes (each n f) ≤ n * 10
each_size zero f h = omega arith
each_size (suc n) f h = omega (arith, both_size (each n f) (f n ∷ []) (n * 10) 10 (each_size n f h) (omega (arith, h n)))

-- ---- the parts

prototype_size : (a b : List ℕ) → size (prototype a b) ≤ 10
prototype_size a b = fields_least ((codes "shortName", string a) ∷ (codes "type", string b) ∷ []) 9 (omega arith)

assembly_size : (a b c : List ℕ) → size (assembly a b c) ≤ 10
assembly_size a b c =
    fields_least ((codes "kind", string (codes "AssemblySwConnector")) ∷ (codes "provider", list (string a ∷ string c ∷ [])) ∷ (codes "requester", list (string b ∷ string c ∷ [])) ∷ []) 9 (omega arith)

task_size : (a : List ℕ) (n : ℕ) → size (task a n) ≤ 10
task_size a n = fields_least ((codes "shortName", string a) ∷ (codes "core", number (unsigned n)) ∷ []) 9 (omega arith)

in_task_size : (a b : List ℕ) (n : ℕ) → size (in_task a b n) ≤ 10
in_task_size a b n =
    fields_least ((codes "instance", string a) ∷ (codes "event", string (codes "Ev")) ∷ (codes "task", string b) ∷ (codes "position", number (unsigned n)) ∷ []) 9 (omega arith)

-- two of each number below this one
pairs_size : (n : ℕ) (f g : ℕ → Data) → n ≤ 64 → ((i : ℕ) → size (f i) ≤ 10) → ((i : ℕ) → size (g i) ≤ 10) → sizes (each n f ++ each n g) ≤ 1280
pairs_size n f g h each_f each_g = both_size (each n f) (each n g) 640 640 (omega (arith, h, each_size n f each_f)) (omega (arith, h, each_size n g each_g))

-- and one more
more_size : (n : ℕ) (f g : ℕ → Data) (d : Data) → n ≤ 64 → ((i : ℕ) → size (f i) ≤ 10) → ((i : ℕ) → size (g i) ≤ 10) → size d ≤ 10 → size (list ((each n f ++ each n g) ++ d ∷ [])) ≤ 1291
more_size n f g d h each_f each_g one = list_size ((each n f ++ each n g) ++ d ∷ []) 1290 (both_size (each n f ++ each n g) (d ∷ []) 1280 10 (pairs_size n f g h each_f each_g) (omega (arith, one)))

prototypes_size : (n : ℕ) → n ≤ 64 → size (prototypes n) ≤ 1291
prototypes_size n h =
    more_size n _ _ _ h (λ i. prototype_size (name (codes "p") i) (codes "Prod")) (λ i. prototype_size (name (codes "c") i) (codes "Cons")) (prototype_size (codes "acc") (codes "Acc"))

connectors_size : (n : ℕ) → n ≤ 64 → size (connectors n) ≤ 1281
connectors_size n h =
    list_size _ 1280 (pairs_size n _ _ h (λ i. assembly_size (name (codes "p") i) (name (codes "c") i) (codes "q")) (λ i. assembly_size (codes "acc") (name (codes "p") i) (codes "s")))

tasks_size : size tasks ≤ 1291
tasks_size =
    more_size 4 (λ i. task (name (codes "P") i) i) (λ i. task (name (codes "C") i) i) (task (codes "A") 0) (omega arith)
    (λ i. task_size (name (codes "P") i) i) (λ i. task_size (name (codes "C") i) i) (task_size (codes "A") 0)

events_size : (n : ℕ) → n ≤ 64 → size (events n) ≤ 1291
events_size n h =
    more_size n _ _ _ h (λ i. in_task_size (name (codes "p") i) (name (codes "P") (i % 4)) i) (λ i. in_task_size (name (codes "c") i) (name (codes "C") ((i % 4 + 1) % 4)) i)
    (in_task_size (codes "acc") (codes "A") 0)

-- ---- the whole

compositions_size : (n : ℕ) (a b : Data) → size a ≤ 1291 → size b ≤ 1291 → size (list (fields ((codes "shortName", string (codes "Top")) ∷ (codes "prototypes", a) ∷ (codes "connectors", b) ∷ []) ∷ [])) ≤ 3000
compositions_size n a b p q =
    let inner = fields_least ((codes "shortName", string (codes "Top")) ∷ (codes "prototypes", a) ∷ (codes "connectors", b) ∷ []) 2900 (omega (arith, p, q)) in
    list_size (fields ((codes "shortName", string (codes "Top")) ∷ (codes "prototypes", a) ∷ (codes "connectors", b) ∷ []) ∷ []) 2999 (omega (arith, inner))

mapping_size : (a b : Data) → size a ≤ 1291 → size b ≤ 1291 → size (fields ((codes "cores", number (unsigned 4)) ∷ (codes "tasks", a) ∷ (codes "events", b) ∷ [])) ≤ 3000
mapping_size a b p q = fields_least ((codes "cores", number (unsigned 4)) ∷ (codes "tasks", a) ∷ (codes "events", b) ∷ []) 2999 (omega (arith, p, q))

components_size : (a b c : Data) → size a ≤ 10001 → size b ≤ 10001 → size c ≤ 10001 → size (list (a ∷ b ∷ c ∷ [])) ≤ 40000
components_size a b c p q r = list_size (a ∷ b ∷ c ∷ []) 39999 (omega (arith, p, q, r))

whole_size : (a b c d e : Data) → size a ≤ 10001 → size b ≤ 10001 → size c ≤ 40000 → size d ≤ 3000 → size e ≤ 3000
    → size (fields ((codes "dataTypes", a) ∷ (codes "interfaces", b) ∷ (codes "components", c) ∷ (codes "compositions", d) ∷ (codes "root", string (codes "Top")) ∷ (codes "mapping", e) ∷ [])) ≤ 100000
whole_size a b c d e p q r s t =
    fields_least ((codes "dataTypes", a) ∷ (codes "interfaces", b) ∷ (codes "components", c) ∷ (codes "compositions", d) ∷ (codes "root", string (codes "Top")) ∷ (codes "mapping", e) ∷ []) 99999 (omega (arith, p, q, r, s, t))

written_size : (t : List ℕ) → nat_le (length t) 10000 ≡ true → size (written t) ≤ 10001
written_size t h = by (read t) refl
  where
    short : length t ≤ 10000
    short = leb-true (length t) 10000 h

    by : (o : Option Data) → read t ≡ o → size (unwrap_or (read t) null) ≤ 10001
    by None none = subst (λ o. size (unwrap_or o null) ≤ 10001) (sym none) (omega arith)
    by (Some d) some = subst (λ o. size (unwrap_or o null) ≤ 10001) (sym some) (omega (arith, short, size_read t d some))

soak_size : (n : ℕ) → n ≤ 64 → size (soak_value n) ≤ 100000
soak_size n h =
    whole_size (written data_types_text) (written interfaces_text) components (compositions n) (mapping n)
    (written_size data_types_text refl) (written_size interfaces_text refl)
    (components_size (written producer_text) (written consumer_text) (written server_text) (written_size producer_text refl) (written_size consumer_text refl) (written_size server_text refl))
    (compositions_size n (prototypes n) (connectors n) (prototypes_size n h) (omega (arith, connectors_size n h)))
    (mapping_size tasks (events n) tasks_size (events_size n h))

-- bytes that are read as it are read as few values
pub soak_few : (n : ℕ) (bytes : List ℕ) → n ≤ 64 → Reads bytes (soak_value n) → AreFew bytes
soak_few n bytes h reads = record { small = λ d is. by (soak_value n) d (soak_size n h) (reads.1) is }
  where
    by : (e d : Data) → size e ≤ 100000 → read bytes ≡ Some e → read bytes ≡ Some d → IsSmall d
    by e d few value is = let same : e ≡ d = cc in record { few = omega (arith, subst (λ x. size x ≤ 100000) same few) }
