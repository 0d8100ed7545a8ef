-- The calls of an actor.
use Rattle.std.proofs.Common.{◌≡◌, ◌∙◌, ℕ, suc, ◌+◌, List, [], ◌∷◌, ◌++◌, length, refl, ap, arith}
use Rattle.vrx_core.specs.declared.event.Event.{Event}
use Rattle.vrx_lock.specs.Journal.{entry}
use Rattle.vrx_live.specs.Calls.{calls_from}

pub calls-length : (actor turn : ℕ) (lines : List (ℕ × Event)) → length (calls_from actor turn lines) ≡ length lines
calls-length actor turn [] = refl
calls-length actor turn (line ∷ lines) = ap suc (calls-length actor (turn + 1) lines)

pub calls-last : (actor turn : ℕ) (lines : List (ℕ × Event)) (k : ℕ) (event : Event)
    → calls_from actor turn (lines ++ (k, event) ∷ [])
    ≡ calls_from actor turn lines ++ (k, entry actor (turn + length lines) event) ∷ []
calls-last actor turn [] k event =
    let same : turn ≡ turn + 0 = omega arith in
    ap (λ t. (k, entry actor t event) ∷ []) same
calls-last actor turn (line ∷ lines) k event =
    let same : turn + 1 + length lines ≡ turn + suc (length lines) = omega arith in
    ap (λ calls. (line.0, entry actor turn line.1) ∷ calls)
    (calls-last actor (turn + 1) lines k event
    ∙ ap (λ t. calls_from actor (turn + 1) lines ++ (k, entry actor t event) ∷ []) same)
