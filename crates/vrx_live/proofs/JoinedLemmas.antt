-- Three seats joined to one that had made no calls.
use Rattle.std.proofs.Common.{◌≡◌, ◌∙◌, Bool, true, false, cond, List, [], ◌++◌, length, sym, ap, subst, append-nil, append_assoc}
use Rattle.std.specs.Prelude.{nat_le}
use Rattle.vrx_lock.specs.declared.entry.Entry.{Entry}
use Rattle.vrx_lock.specs.declared.known.Known.{Known}
use Rattle.vrx_lock.specs.Lists.{BeginsWith, merged}
use Rattle.vrx_lock.specs.Shares.{added}
use Rattle.vrx_lock.specs.Seats.{Joined, longer}

begins-itself : (xs : List Entry) → BeginsWith xs xs
begins-itself xs = record { rest = []; is = sym (append-nil xs) }

begins-trans : (xs ys zs : List Entry) → BeginsWith xs ys → BeginsWith ys zs → BeginsWith xs zs
begins-trans xs ys zs b b' = record {
  rest = b'.rest ++ b.rest;
  is = b.is ∙ ap (λ ws. ws ++ b.rest) b'.is ∙ append_assoc zs b'.rest b.rest;
}

longer-both : (a b : List Entry) (c : Bool) → BeginsWith (cond c a b) (cond c b a)
    → BeginsWith (cond c a b) a × BeginsWith (cond c a b) b
longer-both a b true begins = (begins-itself a, begins)
longer-both a b false begins = (begins, begins-itself b)

module _ (old other new : Known) (j : Joined old other new) where
  seen-is : new.seen ≡ longer old.seen other.seen
  seen-is = ap (λ (k : Known). k.seen) j.known

  pub joined-places : new.places ≡ merged old.places other.places
  joined-places = ap (λ (k : Known). k.places) j.known

  pub joined-share : new.share ≡ added old.share other.share
  joined-share = ap (λ (k : Known). k.share) j.known

  pub joined-begins : BeginsWith new.seen old.seen × BeginsWith new.seen other.seen
  joined-begins = subst (λ js. BeginsWith js old.seen × BeginsWith js other.seen) (sym seen-is)
      (longer-both old.seen other.seen (nat_le (length other.seen) (length old.seen)) j.begins)

module _ (s w1 w2 w3 n1 n2 n3 : Known) (fresh : s.places ≡ []) (j1 : Joined s w1 n1) (j2 : Joined n1 w2 n2)
    (j3 : Joined n2 w3 n3) where
  places-one : n1.places ≡ w1.places
  places-one = joined-places s w1 n1 j1 ∙ ap (λ ps. merged ps w1.places) fresh

  pub places-two : n2.places ≡ merged w1.places w2.places
  places-two = joined-places n1 w2 n2 j2 ∙ ap (λ ps. merged ps w2.places) places-one

  pub places-three : n3.places ≡ merged (merged w1.places w2.places) w3.places
  places-three = joined-places n2 w3 n3 j3 ∙ ap (λ ps. merged ps w3.places) places-two

  pub share-three : n3.share ≡ added (added (added s.share w1.share) w2.share) w3.share
  share-three = joined-share n2 w3 n3 j3
      ∙ ap (λ x. added x w3.share) (joined-share n1 w2 n2 j2 ∙ ap (λ x. added x w2.share) (joined-share s w1 n1 j1))

  pub begins-one : BeginsWith n3.seen w1.seen
  begins-one = begins-trans n3.seen n1.seen w1.seen
      (begins-trans n3.seen n2.seen n1.seen (joined-begins n2 w3 n3 j3).0 (joined-begins n1 w2 n2 j2).0)
      (joined-begins s w1 n1 j1).1

  pub begins-two : BeginsWith n3.seen w2.seen
  begins-two = begins-trans n3.seen n2.seen w2.seen (joined-begins n2 w3 n3 j3).0 (joined-begins n1 w2 n2 j2).1

  pub begins-three : BeginsWith n3.seen w3.seen
  begins-three = (joined-begins n2 w3 n3 j3).1
