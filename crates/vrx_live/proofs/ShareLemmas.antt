-- A whole share, split three times and joined again.
use Rattle.std.proofs.Common.{◌≡◌, ◌∙◌, ℕ, suc, ◌+◌, ◌*◌, ◌-◌, ◌^◌, max, sym, ap, subst, arith}
use Rattle.std.proofs.Math.Nat.{pow-succ'}
use Rattle.vrx_lock.specs.declared.known.Share.{Share}
use Rattle.vrx_lock.specs.Shares.{IsWhole, added, halved}

share : ℕ → ℕ → Share
share parts depth = record { parts = parts; depth = depth }

step : (p q a b k i : ℕ) → max a b ≡ k → k - a ≡ 0 → k - b ≡ i
    → added (record { parts = p; depth = a }) (record { parts = q; depth = b })
    ≡ record { parts = p + q * 2 ^ i; depth = k }
step p q a b k i m e e' =
    let one : max a b - a ≡ 0 = ap (λ x. x - a) m ∙ e in
    let two : max a b - b ≡ i = ap (λ x. x - b) m ∙ e' in
    let left : p * 2 ^ (max a b - a) ≡ p = ap (λ x. p * 2 ^ x) one ∙ omega arith in
    let right : q * 2 ^ (max a b - b) ≡ q * 2 ^ i = ap (λ x. q * 2 ^ x) two in
    let parts : p * 2 ^ (max a b - a) + q * 2 ^ (max a b - b) ≡ p + q * 2 ^ i = omega (arith, left, right) in
    λ t. record { parts = parts t; depth = m t }

twice : (d : ℕ) → 2 ^ (d + 1) ≡ 2 * 2 ^ d
twice d = let next : d + 1 ≡ suc d = omega arith in ap (λ x. 2 ^ x) next ∙ pow-succ' 2 d

pub whole-again : (s : Share) → IsWhole s
    → IsWhole (added (added (added (halved (halved (halved s))) (halved s)) (halved (halved s))) (halved (halved (halved s))))
whole-again s w =
    let p : ℕ = s.parts in
    let d : ℕ = s.depth in
    let third : Share = halved (halved (halved s)) in
    let one = step p p (d + 1 + 1 + 1) (d + 1) (d + 1 + 1 + 1) 2 (omega arith) (omega arith) (omega arith) in
    let two = step (p + p * 4) p (d + 1 + 1 + 1) (d + 1 + 1) (d + 1 + 1 + 1) 1 (omega arith) (omega arith) (omega arith) in
    let three = step (p + p * 4 + p * 2) p (d + 1 + 1 + 1) (d + 1 + 1 + 1) (d + 1 + 1 + 1) 0 (omega arith) (omega arith) (omega arith) in
    let all = ap (λ (x : Share). added (added x (halved (halved s))) third) one
    ∙ ap (λ (x : Share). added x third) two ∙ three in
    subst IsWhole (sym all) (omega (arith, w, twice d, twice (d + 1), twice (d + 1 + 1)))
