-- Texts that keep what they held.
use Rattle.std.proofs.Common.{◌≡◌, ℕ, List, [], ◌++◌, length, take, drop, sym, ap, ◌∙◌, append_assoc}
use Rattle.std.proofs.Math.Seq.{take-append_seam}
use Rattle.std.proofs.lemmas.List.{append-nil, take-append-drop}
use Rattle.vrx_text.specs.Keeps.{Keeps}

-- nothing was put last
pub keeps_same : (front text : List ℕ) → text ≡ front → Keeps front text
keeps_same front text e = record { more = []; is = e ∙ sym (append-nil front) }

-- something was
pub keeps_more : (front text more : List ℕ) → text ≡ front ++ more → Keeps front text
keeps_more front text more e = record { more = more; is = e }

-- and then something else
pub keeps_on : (a b c : List ℕ) → Keeps a b → Keeps b c → Keeps a c
keeps_on a b c k l =
    record { more = k.more ++ l.more; is = l.is ∙ ap (λ x. x ++ l.more) k.is ∙ append_assoc a k.more l.more }

-- the front of a text stays
pub keeps_front : (front text : List ℕ) → take (length front) text ≡ front → Keeps front text
keeps_front front text e =
    record {
      more = drop (length front) text;
      is = sym (ap (λ x. x ++ drop (length front) text) (sym e) ∙ take-append-drop (length front) text);
    }

-- the front, taken of what keeps it
pub keeps_cut : (front text : List ℕ) → Keeps front text → take (length front) text ≡ front
keeps_cut front text k = ap (take (length front)) k.is ∙ take-append_seam front k.more
