-- Lemmas on the octets that a buffer holds from a place on.
use Rattle.std.proofs.Common.{◌≡◌, ◌⊎◌, ℕ, true, false, not, ◌==◌, ◌+◌, ◌-◌, ◌≤◌, List, [], ◌++◌, length, take, drop, refl, sym, ap, subst, ◌∙◌, inl, inr, append_assoc, arith, Option}
use Rattle.std.proofs.Math.Seq.{drop-append_seam}
use Rattle.std.proofs.lemmas.List.{drop-take, drop-drop, drop_all, length-take-le, length-drop, take-append-drop, take-take, append-nil}
use Rattle.std.proofs.lemmas.List.Folds.{prefix_len-append}
use Rattle.vrx_capture.specs.Line.{feed_place, IsOpenLine}
use Rattle.vrx_io.specs.Reads.{ReadsSo}
use Rattle.vrx_io.specs.Source.{IsSpent}
use Rattle.vrx_capture.specs.Ahead.{ahead}
use Rattle.vrx_capture.specs.Holding.{Holding, ReadsOn}
use Rattle.vrx_capture.proofs.AheadLemmas.{ahead-ahead, ahead-none, IsSpent-ahead}
use Rattle.vrx_capture.proofs.ReadsLemmas.{reads_one}

passed_by : (buffer : List ℕ) (start n m : ℕ) →
    drop n (take (n + m) (drop start buffer)) ≡ take m (drop (start + n) buffer)
passed_by buffer start n m =
    drop-take n m (drop start buffer) ∙ ap (λ (octets : List ℕ). take m octets) (drop-drop n start buffer)

-- octets passed over
pub passed : (buffer : List ℕ) (start len n : ℕ) → n ≤ len →
    take (len - n) (drop (start + n) buffer) ≡ drop n (take len (drop start buffer))
passed buffer start len n within = let whole : n + (len - n) ≡ len = omega arith in
    sym (ap (λ (k : ℕ). drop n (take k (drop start buffer))) (sym whole) ∙ passed_by buffer start n (len - n))

-- how many octets are held
pub length_held : (buffer : List ℕ) (start len : ℕ) → start + len ≤ length buffer →
    length (take len (drop start buffer)) ≡ len
length_held buffer start len within = length-take-le len (drop start buffer) (omega (arith, length-drop start buffer))

take_add : (n m : ℕ) (xs : List ℕ) → take (n + m) xs ≡ take n xs ++ take m (drop n xs)
take_add n m xs =
    sym (take-append-drop n (take (n + m) xs)) ∙ rw (take-take n (n + m) xs (omega arith), drop-take n m xs) refl

-- the octets held stay, if the front of the buffer stays
pub same_held : (before after : List ℕ) (start len : ℕ) → take (start + len) after ≡ take (start + len) before →
    take len (drop start after) ≡ take len (drop start before)
same_held before after start len front =
    sym (drop-take start len after) ∙ ap (λ (octets : List ℕ). drop start octets) front ∙ drop-take start len before

-- octets that came after those held
pub grown : (before after : List ℕ) (start len n : ℕ) → take (start + len) after ≡ take (start + len) before →
    take (len + n) (drop start after) ≡ take len (drop start before) ++ take n (drop (start + len) after)
grown before after start len n front =
    take_add len n (drop start after) ∙ rw (same_held before after start len front, drop-drop len start after) refl

-- more octets after others bring no line feed among these
pub feed_le_append : (octets more : List ℕ) → feed_place octets ≤ feed_place (octets ++ more)
feed_le_append octets more = grind (arith, prefix_len-append (λ octet. not (octet == 10)) octets more)

pub feed_grown : (before after : List ℕ) (start len n : ℕ) → take (start + len) after ≡ take (start + len) before →
    feed_place (take len (drop start before)) ≤ feed_place (take (len + n) (drop start after))
feed_grown before after start len n front =
    rw (grown before after start len n front)
    (feed_le_append (take len (drop start before)) (take n (drop (start + len) after)))

-- nothing stands after the end
pub drop_beyond : (octets : List ℕ) (len : ℕ) → length octets ≤ len → drop len octets ≡ drop (len + 1) octets
drop_beyond octets len beyond = drop_all len octets beyond ∙ sym (drop_all (len + 1) octets (omega arith))

-- a read that failed left what was held
abbrev pub reads_none : (old new : Holding) (before after : Option (List ℕ)) → new ≡ old → after ≡ before →
    ReadsOn old new before after
reads_none old new before after same left = record {
  read = [];
  source = sym left ∙ ahead-none after;
  octets = rw (same, append-nil old.kept) refl;
  end = λ ended. inl (rw same at ended);
  stays = λ ended. (rw same ended, refl);
}

-- one read after another
abbrev pub reads_twice : (old mid new : Holding) (before between after : Option (List ℕ)) →
    ReadsOn old mid before between → ReadsOn mid new between after → ReadsOn old new before after
reads_twice old mid new before between after first second = record {
  read = first.read ++ second.read;
  source = first.source ∙ ap (λ (left : Option (List ℕ)). ahead first.read left) second.source
      ∙ ahead-ahead first.read second.read after;
  octets = second.octets ∙ ap (λ (octets : List ℕ). octets ++ second.read) first.octets
      ∙ append_assoc old.kept first.read second.read;
  end = λ ended. spent_by (second.end ended);
  stays = λ ended. let mid_stays = first.stays ended in let new_stays =
      second.stays mid_stays.0 in (new_stays.0, rw (mid_stays.1, new_stays.1) refl);
}
  where
    spent_by : (mid.ended ≡ true) ⊎ IsSpent after → (old.ended ≡ true) ⊎ IsSpent after
    spent_by (inl ended) = spent_before (first.end ended)
      where
        spent_before : (old.ended ≡ true) ⊎ IsSpent between → (old.ended ≡ true) ⊎ IsSpent after
        spent_before (inl was) = inl was
        spent_before (inr spent) = inr (IsSpent-ahead second.read after (rw second.source at spent))
    spent_by (inr spent) = inr spent

-- octets that stand after others, said twice
same_behind : (front xs ys : List ℕ) → front ++ xs ≡ front ++ ys → xs ≡ ys
same_behind front xs ys is = sym (drop-append_seam front xs) ∙ ap (λ (octets : List ℕ). drop (length front) octets) is
    ∙ drop-append_seam front ys

-- Reads for a line, and one more, made when a part of a line was held.
module _ {S : Type 0} (is_read : S → List ℕ → S → Type 0) (left : S → Option (List ℕ)) (old mid new : Holding)
    (start was now : S) where
  pub reads_more : (first : ReadsOn old mid (left start) (left was))
      × ReadsSo is_read IsOpenLine old.kept start was first.read → (second : ReadsOn mid new (left was) (left now)) →
      (octets : List ℕ) → is_read was octets now → new.kept ≡ mid.kept ++ octets → IsOpenLine mid.kept
      → (reads : ReadsOn old new (left start) (left now)) × ReadsSo is_read IsOpenLine old.kept start now reads.read
  reads_more first second octets one are part = (
    reads_twice old mid new (left start) (left was) (left now) first.0 second,
    subst (λ more. ReadsSo is_read IsOpenLine old.kept start now (first.0.read ++ more))
        (same_behind mid.kept octets second.read (sym are ∙ second.octets))
        (reads_one is_read IsOpenLine old.kept start was now first.0.read octets first.1
        (subst IsOpenLine first.0.octets part) one),
  )

-- a reader at its end isn't one that reads on
pub never_both : {A : Type 0} (old mid : Holding) → old.ended ≡ true → mid ≡ old → mid.ended ≡ false → A
never_both old mid ended same going = let no : false ≡ true =
    sym going ∙ ap (λ (h : Holding). h.ended) same ∙ ended in cc no
