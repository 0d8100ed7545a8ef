-- Lists that begin others.
use Rattle.std.proofs.Common.{◌≡◌, ◌∙◌, ◌+◌, ◌≤◌, Bool, true, false, List, [], ◌∷◌, ◌++◌, length, refl, sym, ap, append_assoc, length-append, cond, arith}
use Rattle.std.specs.Prelude.{nat_le}
use Rattle.std.proofs.lemmas.List.{append-nil}
use Rattle.std.proofs.lemmas.Bool.Decides.{nat_tests}
use Rattle.vrx_core.specs.declared.event.Event.{Event}
use Rattle.vrx_lock.specs.declared.entry.Entry.{Entry}
use Rattle.vrx_lock.specs.Lists.{BeginsWith}
use Rattle.vrx_lock.specs.Journal.{history, history_from}
use Rattle.vrx_lock.specs.Seats.{longer, shorter}
use Rattle.vrx_lock.specs.inside.Steps.{newest}

module _ {A : Type 0} where
  pub begins-itself : (xs : List A) → BeginsWith xs xs
  begins-itself xs = record { rest = []; is = sym (append-nil xs) }

  pub begins-nothing : (xs : List A) → BeginsWith xs []
  begins-nothing xs = record { rest = xs; is = refl }

  pub begins-more : (xs ys zs : List A) → BeginsWith xs ys → BeginsWith (xs ++ zs) ys
  begins-more xs ys zs b = record {
    rest = b.rest ++ zs;
    is = ap (λ ws. ws ++ zs) b.is ∙ append_assoc ys b.rest zs;
  }

  pub begins-length : (xs ys : List A) → BeginsWith xs ys → length ys ≤ length xs
  begins-length xs ys b = omega (arith, ap length b.is, length-append ys b.rest)

  both : (xs ys us vs : List A) → xs ++ us ≡ ys ++ vs → length ys ≤ length xs → BeginsWith xs ys
  both xs [] us vs e le = begins-nothing xs
  both [] (y ∷ ys) us vs e le = absurd (omega arith)
  both (x ∷ xs) (y ∷ ys) us vs e le =
      let head : x ≡ y = cc in
      let tail : xs ++ us ≡ ys ++ vs = cc in
      let rest = both xs ys us vs tail (omega arith) in
      record { rest = rest.rest; is = ap (λ zs. x ∷ zs) rest.is ∙ ap (λ z. z ∷ ys ++ rest.rest) head }

  -- of two lists that begin one, the longer begins with the shorter
  pub begins-both : (zs xs ys : List A) → BeginsWith zs xs → BeginsWith zs ys → length ys ≤ length xs → BeginsWith xs ys
  begins-both zs xs ys b b' le = both xs ys b.rest b'.rest (sym b.is ∙ b'.is) le

module _ (j a b : List Entry) (u : BeginsWith j a) (v : BeginsWith j b) where
  longer-of : (c : Bool) → BeginsWith j (cond c a b)
  longer-of true = u
  longer-of false = v

  shorter-of : (c : Bool) → BeginsWith j (cond c b a)
  shorter-of true = v
  shorter-of false = u

  pub begins-longer : BeginsWith j (longer a b)
  begins-longer = longer-of (nat_le (length b) (length a))

  pub begins-shorter : BeginsWith j (shorter a b)
  begins-shorter = shorter-of (nat_le (length b) (length a))

-- the longer of two lists is as long as each
pub longer-length : (a b : List Entry) → (length a ≤ length (longer a b)) × (length b ≤ length (longer a b))
longer-length a b = of (nat_le (length b) (length a)) refl
  where
    of : (c : Bool) → nat_le (length b) (length a) ≡ c → (length a ≤ length (cond c a b)) × (length b ≤ length (cond c a b))
    of true e = (omega arith, grind (arith, nat_tests, e))
    of false e = (grind (arith, nat_tests, e), omega arith)

pub shorter-length : (a b : List Entry) → length (shorter a b) ≤ length (longer a b)
shorter-length a b = of (nat_le (length b) (length a)) refl
  where
    of : (c : Bool) → nat_le (length b) (length a) ≡ c → length (cond c b a) ≤ length (cond c a b)
    of true e = grind (arith, nat_tests, e)
    of false e = grind (arith, nat_tests, e)

-- the history of a journal with one entry more
history_from-last : (h : List Event) (j : List Entry) (e : Entry) → history_from h (j ++ e ∷ []) ≡ e.event ∷ history_from h j
history_from-last h [] e = refl
history_from-last h (x ∷ xs) e = history_from-last (x.event ∷ h) xs e

pub history-last : (j : List Entry) (e : Entry) → history (j ++ e ∷ []) ≡ e.event ∷ history j
history-last j e = history_from-last [] j e

history_from-length : (h : List Event) (j : List Entry) → length (history_from h j) ≡ length h + length j
history_from-length h [] = omega arith
history_from-length h (x ∷ xs) = omega (arith, history_from-length (x.event ∷ h) xs)

pub history-length : (j : List Entry) → length (history j) ≡ length j
history-length j = omega (arith, history_from-length [] j)

pub newest-last : (j : List Entry) (e : Entry) → newest (j ++ e ∷ []) ≡ e
newest-last [] e = refl
newest-last (x ∷ []) e = refl
newest-last (x ∷ y ∷ ys) e = newest-last (y ∷ ys) e
