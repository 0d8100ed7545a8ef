-- Lemmas on what lies ahead of a reader.
use Rattle.std.proofs.Common.{◌≡◌, ℕ, List, [], ◌∷◌, ◌++◌, take, refl, sym, ap, Option, Some, None, is_some, append_assoc}
use Rattle.std.proofs.lemmas.List.{take-append-drop}
use Rattle.vrx_io.specs.Source.{Gives, IsSpent}
use Rattle.vrx_capture.specs.Ahead.{ahead}

-- the bytes that a read gave lie ahead of what is left after it
pub ahead-gives : (before after : Option (List ℕ)) (n : ℕ) (buf : List ℕ) → Gives before after n buf →
    is_some after ≡ is_some before → before ≡ ahead (take n buf) after
unfolding ahead
ahead-gives None None n buf gives tells = refl
ahead-gives None (Some rest) n buf gives tells = cc
ahead-gives (Some bytes) after n buf gives tells =
    rw (gives.rest, gives.given) (ap Some (sym (take-append-drop n bytes)))

-- octets ahead of octets ahead
pub ahead-ahead : (kept piece : List ℕ) (left : Option (List ℕ)) →
    ahead kept (ahead piece left) ≡ ahead (kept ++ piece) left
unfolding ahead
ahead-ahead kept piece None = refl
ahead-ahead kept piece (Some rest) = ap Some (sym (append_assoc kept piece rest))

-- nothing ahead of what is left
pub ahead-none : (left : Option (List ℕ)) → left ≡ ahead [] left
unfolding ahead
ahead-none None = refl
ahead-none (Some rest) = refl

-- if nothing lies ahead, nothing is left
pub IsSpent-ahead : (piece : List ℕ) (left : Option (List ℕ)) → IsSpent (ahead piece left) → IsSpent left
unfolding ahead
IsSpent-ahead piece None spent = tt
IsSpent-ahead piece (Some rest) spent = right_none piece rest spent
  where
    right_none : (xs ys : List ℕ) → xs ++ ys ≡ [] → ys ≡ []
    right_none [] ys none = none
    right_none (x ∷ xs) ys none = cc none

-- a source that reports what it has left reports it after octets were read of it, and no other does
pub tells_still : (read : List ℕ) (before after : Option (List ℕ)) → before ≡ ahead read after →
    is_some after ≡ is_some before
unfolding ahead
tells_still read before None source = ap is_some (sym source)
tells_still read before (Some rest) source = ap is_some (sym source)
