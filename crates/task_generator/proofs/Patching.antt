-- Instructions that are written after those that they pass over.
use Rattle.std.proofs.Common.{◌≡◌, ℕ, ◌+◌, ◌-◌, List, [], ◌∷◌, ◌++◌, length, map, set, sym, ap, ◌∙◌, arith, append_assoc, length-append}
use Rattle.std.proofs.Math.Seq.{set-append_seam}
use Rattle.bus_semantics.specs.Common.{map-set, length-map, ExprTree}
use Rattle.task_machine.specs.declared.instr.Instr.{Instr}
use Rattle.task_machine.specs.Instructions.{Shared, instruction_of, unless, skip, begin_loop, end_loop}
use Rattle.task_generator.specs.Shared.{fixed, choosing_shared, looping_shared}

pub map_replaced : (code : List Instr) (at : ℕ) (i : Instr) → map instruction_of (set code at i) ≡ set (map instruction_of code) at (instruction_of i)
map_replaced code at i = map-set instruction_of code at i

-- one and one more
pub two_more : (a b c : List Shared) (x y : Shared) → b ≡ a ++ x ∷ [] → c ≡ b ++ y ∷ [] → c ≡ a ++ (x ∷ y ∷ [])
two_more a b c x y first second = second ∙ ap (λ is. is ++ y ∷ []) first ∙ append_assoc a (x ∷ []) (y ∷ [])

-- one before and one behind
pub around_more : (a b c d body : List Shared) (x y : Shared) → b ≡ a ++ x ∷ [] → c ≡ b ++ body → d ≡ c ++ y ∷ [] → d ≡ a ++ (x ∷ (body ++ y ∷ []))
around_more a b c d body x y first second third =
    let all : d ≡ ((a ++ x ∷ []) ++ body) ++ y ∷ [] = cc in
    let flat : ((a ++ x ∷ []) ++ body) ++ y ∷ [] ≡ a ++ (x ∷ (body ++ y ∷ [])) = simp append_assoc in
    all ∙ flat

two_writes : (a b c : List Shared) (x y i j : Shared) → set (set (a ++ x ∷ (b ++ y ∷ c)) (length a) i) (length (a ++ i ∷ b)) j ≡ a ++ i ∷ (b ++ j ∷ c)
two_writes a b c x y i j =
    ap (λ l. set l (length (a ++ i ∷ b)) j) (set-append_seam a x (b ++ y ∷ c) i ∙ sym (append_assoc a (i ∷ b) (y ∷ c)))
    ∙ set-append_seam (a ++ i ∷ b) y c j
    ∙ append_assoc a (i ∷ b) (j ∷ c)

-- the jumps of a choice
pub choice_patched : (whole base first second : List Shared) (x y : Shared) (e : ExprTree) (test jump far n : ℕ)
    → whole ≡ (((base ++ x ∷ []) ++ first) ++ y ∷ []) ++ second → test ≡ length base → jump ≡ length ((base ++ x ∷ []) ++ first) → far ≡ length first + 1 → n ≡ length whole - jump - 1
    → set (set whole test (fixed (unless e far))) jump (fixed (skip n)) ≡ base ++ choosing_shared e first second
choice_patched whole base first second x y e test jump far n is at_test at_jump is_far counted =
    let t = fixed (unless e far) in
    let flat : (((base ++ x ∷ []) ++ first) ++ y ∷ []) ++ second ≡ base ++ x ∷ (first ++ y ∷ second) = simp append_assoc in
    let long = ap length (is ∙ flat) ∙ length-append base (x ∷ (first ++ y ∷ second)) in
    let inner = length-append first (y ∷ second) in
    let front = length-append (base ++ x ∷ []) first in
    let one = length-append base (x ∷ []) in
    let other = length-append base (t ∷ first) in
    let place : jump ≡ length (base ++ t ∷ first) = omega arith in
    let left : n ≡ length second = omega arith in
    ap (λ l. set (set l test t) jump (fixed (skip n))) (is ∙ flat)
    ∙ ap (λ k. set (set (base ++ x ∷ (first ++ y ∷ second)) k t) jump (fixed (skip n))) at_test
    ∙ ap (λ k. set (set (base ++ x ∷ (first ++ y ∷ second)) (length base) t) k (fixed (skip n))) place
    ∙ two_writes base first second x y t (fixed (skip n))
    ∙ ap (λ k. base ++ t ∷ (first ++ fixed (skip k) ∷ second)) left
    ∙ ap (λ k. base ++ fixed (unless e k) ∷ (first ++ fixed (skip (length second)) ∷ second)) is_far

-- how far the test jumps
pub first_is : (base first : List Shared) (x : Shared) (test jump : ℕ) → test ≡ length base → jump ≡ length ((base ++ x ∷ []) ++ first) → jump - test ≡ length first + 1
first_is base first x test jump at_test at_jump =
    let front = length-append (base ++ x ∷ []) first in
    let one = length-append base (x ∷ []) in
    omega arith

-- the beginning of a loop
pub loop_patched : (whole base body : List Shared) (x : Shared) (begin counter times past back : ℕ)
    → whole ≡ (base ++ x ∷ []) ++ body → begin ≡ length base → past ≡ length whole - begin → back ≡ past - 1
    → set (whole ++ fixed (end_loop counter back) ∷ []) begin (fixed (begin_loop counter times past)) ≡ base ++ looping_shared counter times body
loop_patched whole base body x begin counter times past back is at_begin counted counted_back =
    let last = fixed (end_loop counter back) in
    let begins = fixed (begin_loop counter times past) in
    let flat : ((base ++ x ∷ []) ++ body) ++ last ∷ [] ≡ base ++ x ∷ (body ++ last ∷ []) = simp append_assoc in
    let long = ap length is ∙ length-append (base ++ x ∷ []) body in
    let one = length-append base (x ∷ []) in
    let lower : past ≡ length body + 1 = omega arith in
    let inner : back ≡ length body = omega arith in
    ap (λ l. set (l ++ last ∷ []) begin begins) is
    ∙ ap (λ l. set l begin begins) flat
    ∙ ap (λ k. set (base ++ x ∷ (body ++ last ∷ [])) k begins) at_begin
    ∙ set-append_seam base x (body ++ last ∷ []) begins
    ∙ ap (λ k. base ++ fixed (begin_loop counter times k) ∷ (body ++ last ∷ [])) lower
    ∙ ap (λ k. base ++ fixed (begin_loop counter times (length body + 1)) ∷ (body ++ fixed (end_loop counter k) ∷ [])) inner

-- from a held place to the end
pub far_of : (old mid new : List Instr) (x : Shared) (more : List Shared) (at : ℕ) → at ≡ length old → map instruction_of mid ≡ map instruction_of old ++ x ∷ [] → map instruction_of new ≡ map instruction_of mid ++ more
    → length new - at ≡ 1 + length more
far_of old mid new x more at is_at held is = omega (
  arith,
  is_at,
  length-map old instruction_of,
  length-map mid instruction_of,
  length-map new instruction_of,
  ap length held,
  ap length is,
  length-append (map instruction_of old) (x ∷ []),
  length-append (map instruction_of mid) more,
)

-- from a held place to the next one that is held
pub near_of : (old mid new : List Instr) (x : Shared) (more : List Shared) (at next : ℕ) → at ≡ length old → next ≡ length new → map instruction_of mid ≡ map instruction_of old ++ x ∷ []
    → map instruction_of new ≡ map instruction_of mid ++ more → next - at ≡ 1 + length more
near_of old mid new x more at next is_at is_next held is = ap (λ n. n - at) is_next ∙ far_of old mid new x more at is_at held is
