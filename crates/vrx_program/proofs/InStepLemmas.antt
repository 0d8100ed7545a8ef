-- Lemmas on the reads of a source, one after the other.
use Rattle.std.proofs.Common.{◌≡◌, ℕ, List, [], ◌∷◌, ◌++◌, refl, sym, ap, subst, ◌∙◌, append_assoc}
use Rattle.std.proofs.lemmas.List.{append-nil}
use Rattle.vrx_io.specs.Reads.{all_read, AreReads, ReadsSo}

-- the octets of some reads and of more reads
all_read-append : {S : Type 0} → (reads more : List (List ℕ × S)) →
    all_read (reads ++ more) ≡ all_read reads ++ all_read more
unfolding all_read
all_read-append [] more = refl
all_read-append ((octets, source) ∷ reads) more = ap (λ (xs : List ℕ). octets ++ xs) (all_read-append reads more)
    ∙ sym (append_assoc octets (all_read reads) (all_read more))

module _ {S : Type 0} (is_read : S → List ℕ → S → Type 0) where
  -- some reads, and then more
  join : (allow : List ℕ → Type 0) (kept : List ℕ) (old mid new : S) (reads more : List (List ℕ × S)) →
      AreReads is_read allow kept old reads mid → AreReads is_read allow (kept ++ all_read reads) mid more new →
      AreReads is_read allow kept old (reads ++ more) new
  unfolding AreReads all_read
  join allow kept old mid new [] more first second =
      subst (λ s. AreReads is_read allow kept s more new) first
      (subst (λ k. AreReads is_read allow k mid more new) (append-nil kept) second)
  join allow kept old mid new ((octets, source) ∷ reads) more first second = (
    first.0,
    first.1,
    join allow (kept ++ octets) source mid new reads more first.2
        (subst (λ k. AreReads is_read allow k mid more new) (sym (append_assoc kept octets (all_read reads))) second),
  )

  -- reads seen with more octets before them, when these allow them too
  shift : (allow wide : List ℕ → Type 0) (front kept : List ℕ) (old new : S) (reads : List (List ℕ × S)) →
      ((octets : List ℕ) → allow octets → wide (front ++ octets)) → AreReads is_read allow kept old reads new →
      AreReads is_read wide (front ++ kept) old reads new
  unfolding AreReads
  shift allow wide front kept old new [] weaker were = were
  shift allow wide front kept old new ((octets, source) ∷ reads) weaker were = (
    weaker kept were.0,
    were.1,
    subst (λ k. AreReads is_read wide k source reads new) (sym (append_assoc front kept octets))
        (shift allow wide front (kept ++ octets) source new reads weaker were.2),
  )

  -- no read
  pub reads_nothing : (allow : List ℕ → Type 0) (kept : List ℕ) (source : S) →
      ReadsSo is_read allow kept source source []
  unfolding AreReads all_read
  reads_nothing allow kept source = record { reads = []; were = refl; octets = refl }

  -- the reads of a call, and then those of another, which kept less: it passed over the front
  pub reads_both : (allow wide : List ℕ → Type 0) (kept front later : List ℕ) (old mid new : S) (read more : List ℕ) →
      ReadsSo is_read wide kept old mid read → kept ++ read ≡ front ++ later →
      ((octets : List ℕ) → allow octets → wide (front ++ octets)) → ReadsSo is_read allow later mid new more →
      ReadsSo is_read wide kept old new (read ++ more)
  reads_both allow wide kept front later old mid new read more first are weaker second = record {
    reads = first.reads ++ second.reads;
    were = join wide kept old mid new first.reads second.reads first.were
        (subst (λ k. AreReads is_read wide k mid second.reads new)
        (sym are ∙ ap (λ (xs : List ℕ). kept ++ xs) (sym first.octets))
        (shift allow wide front later mid new second.reads weaker second.were));
    octets = all_read-append first.reads second.reads ∙ ap (λ (xs : List ℕ). xs ++ all_read second.reads) first.octets
        ∙ ap (λ (xs : List ℕ). read ++ xs) second.octets;
  }

  -- what allowed reads, allows them in other words
  pub reads_weaker : (allow wide : List ℕ → Type 0) (kept : List ℕ) (old new : S) (read : List ℕ) →
      ((octets : List ℕ) → allow octets → wide octets) → ReadsSo is_read allow kept old new read →
      ReadsSo is_read wide kept old new read
  reads_weaker allow wide kept old new read weaker reads =
      record {
        reads = reads.reads;
        were = shift allow wide [] kept old new reads.reads weaker reads.were;
        octets =
            reads.octets;
      }
