-- Shares, counted in parts of one size.
use Rattle.std.proofs.Common.{◌≡◌, ◌∙◌, ℕ, zero, suc, ◌+◌, ◌*◌, ◌-◌, ◌^◌, ◌<◌, ◌≤◌, max, suc-mul, refl, sym, ap, arith}
use Rattle.std.proofs.Math.Nat.{pow-succ', add-mul, mul-add, mul_assoc}
use Rattle.std.proofs.lemmas.Nat.{pow-add, pow_pos}
use Rattle.vrx_lock.specs.declared.known.Share.{Share}
use Rattle.vrx_lock.specs.Shares.{IsWhole, added, halved, parts_at}

double : (p j : ℕ) → p * 2 ^ suc j ≡ 2 * (p * 2 ^ j)
double p j =
    let two : 2 ^ suc j ≡ 2 ^ j + 2 ^ j = omega (arith, pow-succ' 2 j) in
    omega (arith, ap (λ x. p * x) two, mul-add p (2 ^ j) (2 ^ j))

smaller : (p a k d : ℕ) → a ≤ k → k ≤ d → p * 2 ^ (k - a) * 2 ^ (d - k) ≡ p * 2 ^ (d - a)
smaller p a k d le le' =
    let sum : (k - a) + (d - k) ≡ d - a = omega arith in
    mul_assoc p (2 ^ (k - a)) (2 ^ (d - k))
    ∙ ap (λ x. p * x) (sym (pow-add 2 (k - a) (d - k)) ∙ ap (λ x. 2 ^ x) sum)

none-of : (p j : ℕ) → p * 2 ^ j ≡ 0 → p ≡ 0
none-of zero j e = refl
none-of (suc p) j e = absurd (omega (arith, e, pow_pos j, suc-mul p (2 ^ j)))

some-of : (p j : ℕ) → 0 < p → 0 < p * 2 ^ j
some-of zero j lt = absurd (omega (arith, lt))
some-of (suc p) j lt = omega (arith, pow_pos j, suc-mul p (2 ^ j))

-- of a share whose parts are made smaller once more there are twice as many
pub parts-double : (d : ℕ) (s : Share) → s.depth ≤ d → parts_at (d + 1) s ≡ 2 * parts_at d s
parts-double d s le =
    let next : d + 1 - s.depth ≡ suc (d - s.depth) = omega arith in
    ap (λ x. s.parts * 2 ^ x) next ∙ double s.parts (d - s.depth)

pub parts-halved : (d : ℕ) (s : Share) → parts_at (d + 1) (halved s) ≡ parts_at d s
parts-halved d s =
    let same : d + 1 - (s.depth + 1) ≡ d - s.depth = omega arith in
    ap (λ x. s.parts * 2 ^ x) same

pub parts-added : (d : ℕ) (s t : Share) → s.depth ≤ d → t.depth ≤ d
    → parts_at d (added s t) ≡ parts_at d s + parts_at d t
parts-added d s t le le' =
    let k : ℕ = max s.depth t.depth in
    add-mul (parts_at k s) (parts_at k t) (2 ^ (d - k))
    ∙ ap (λ x. x + parts_at k t * 2 ^ (d - k)) (smaller s.parts s.depth k d (omega arith) (omega arith))
    ∙ ap (λ x. parts_at d s + x) (smaller t.parts t.depth k d (omega arith) (omega arith))

pub parts-whole : (d : ℕ) (s : Share) → s.depth ≤ d → IsWhole s → parts_at d s ≡ 2 ^ d
parts-whole d s le w =
    let sum : s.depth + (d - s.depth) ≡ d = omega arith in
    ap (λ x. x * 2 ^ (d - s.depth)) w ∙ sym (pow-add 2 s.depth (d - s.depth)) ∙ ap (λ x. 2 ^ x) sum

pub parts-none : (d : ℕ) (s : Share) → parts_at d s ≡ 0 → s.parts ≡ 0
parts-none d s none = none-of s.parts (d - s.depth) none

pub added-live : (s t : Share) → 0 < s.parts → 0 < (added s t).parts
added-live s t lt = omega (arith, some-of s.parts (max s.depth t.depth - s.depth) lt)

-- the depth of two shares together is within any that both are within
pub added-deep : (d : ℕ) (s t : Share) → s.depth ≤ d → t.depth ≤ d → (added s t).depth ≤ d
added-deep d s t le le' = omega arith

pub pow-next : (d : ℕ) → 2 ^ (d + 1) ≡ 2 * 2 ^ d
pow-next d = let next : d + 1 ≡ suc d = omega arith in ap (λ x. 2 ^ x) next ∙ pow-succ' 2 d
