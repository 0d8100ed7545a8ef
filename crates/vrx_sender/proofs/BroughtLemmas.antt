-- What the network brings, packet after packet.
use Rattle.std.proofs.Common.{◌≡◌, ℕ, ◌+◌, ◌≤◌, Bool, true, false, List, [], ◌∷◌, ◌++◌, length, zip, drop, get_or, ◌<◌, refl, ap, sym, ◌∙◌, append_assoc, arith}
use Rattle.std.proofs.lemmas.List.{append-nil, drop_more, length-append}
use Rattle.vrx_rtp.specs.Packet.{Packet}
use Rattle.vrx_sender.specs.declared.brought.Brought.{Brought}
use Rattle.vrx_sender.specs.declared.draws.Fate.{Fate}
use Rattle.vrx_sender.specs.declared.draws.Fate.TheVariants.{InTime, Late, Lost, SentAgain}
use Rattle.vrx_sender.specs.Drill.{datagram, datagram_again, lost_of, numbered}
use Rattle.vrx_sender.specs.Made.{BroughtWith, datagrams}

-- a packet and others have the datagrams of that packet and those of the others
pub datagrams-cons : (has : Fate → Bool) (fate : Fate) (p : Packet) (ps : List (Fate × Packet)) →
    datagrams has ((fate, p) ∷ ps) ≡ datagrams has ((fate, p) ∷ []) ++ datagrams has ps
datagrams-cons has fate p ps = first (has fate) refl
  where
    first : (b : Bool) → has fate ≡ b → datagrams has ((fate, p) ∷ ps) ≡ datagrams has ((fate, p) ∷ []) ++ datagrams has ps
    first true is = rw is refl
    first false is = rw is refl

pub lost-cons : (fate : Fate) (p : Packet) (ps : List (Fate × Packet)) →
    lost_of ((fate, p) ∷ ps) ≡ lost_of ((fate, p) ∷ []) ++ lost_of ps
lost-cons InTime p ps = refl
lost-cons Late p ps = refl
lost-cons Lost p ps = refl
lost-cons SentAgain p ps = refl

pub numbered-append : (number : ℕ) (ps qs : List (Fate × Packet)) →
    numbered number (ps ++ qs) ≡ numbered number ps ++ numbered (number + length ps) qs
numbered-append number [] qs = ap (λ (k : ℕ). numbered k qs) (omega arith)
numbered-append number (p ∷ ps) qs = ap (λ (xs : List (List ℕ)). datagram_again number p.1 ∷ xs)
    (numbered-append (number + 1) ps qs
    ∙ ap (λ (k : ℕ). numbered (number + 1) ps ++ numbered k qs) (omega arith))

pub length-numbered : (number : ℕ) (ps : List (Fate × Packet)) → length (numbered number ps) ≡ length ps
length-numbered number [] = refl
length-numbered number (p ∷ ps) = omega (arith, length-numbered (number + 1) ps)

pub few-lost : (fate : Fate) (p : Packet) → length (lost_of ((fate, p) ∷ [])) ≤ 1
few-lost InTime p = omega arith
few-lost Late p = omega arith
few-lost Lost p = omega arith
few-lost SentAgain p = omega arith

module _ (number : ℕ) (old new : Brought) (fate : Fate) (p : Packet) (ps all : List (Fate × Packet))
    (brings : BroughtWith number old new ((fate, p) ∷ [])) where
  -- the packet was brought: what is left are the others
  pub datagrams-on : (has : Fate → Bool) (before after whole : List (List ℕ)) →
      after ≡ before ++ datagrams has ((fate, p) ∷ []) → before ++ datagrams has ((fate, p) ∷ ps) ≡ whole →
      after ++ datagrams has ps ≡ whole
  datagrams-on has before after whole with_it is =
      ap (λ (xs : List (List ℕ)). xs ++ datagrams has ps) with_it
      ∙ append_assoc before (datagrams has ((fate, p) ∷ [])) (datagrams has ps)
      ∙ ap (λ (xs : List (List ℕ)). before ++ xs) (sym (datagrams-cons has fate p ps)) ∙ is

  pub again-on : old.again.items ++ numbered (number + length old.again.items) (lost_of ((fate, p) ∷ ps)) ≡ numbered number (lost_of all) →
      new.again.items ++ numbered (number + length new.again.items) (lost_of ps) ≡ numbered number (lost_of all)
  again-on is =
      let from : ℕ = number + length old.again.items in
      let its : List (Fate × Packet) = lost_of ((fate, p) ∷ []) in
      let size : length new.again.items ≡ length old.again.items + length its =
      ap (λ (xs : List (List ℕ)). length xs) brings.again
      ∙ length-append old.again.items (numbered from its) ∙ ap (λ (k : ℕ). length old.again.items + k) (length-numbered from its) in
      ap (λ (k : ℕ). new.again.items ++ numbered (number + k) (lost_of ps)) size
      ∙ ap (λ (xs : List (List ℕ)). xs ++ numbered (number + (length old.again.items + length its)) (lost_of ps)) brings.again
      ∙ append_assoc old.again.items (numbered from its) _
      ∙ ap (λ (k : ℕ). old.again.items ++ (numbered from its ++ numbered k (lost_of ps))) (omega arith)
      ∙ ap (λ (xs : List (List ℕ)). old.again.items ++ xs) (sym (numbered-append from its (lost_of ps)))
      ∙ ap (λ (qs : List (Fate × Packet)). old.again.items ++ numbered from qs) (sym (lost-cons fate p ps)) ∙ is

  pub few-on : (k : ℕ) → length old.again.items ≤ k → length new.again.items ≤ k + 1
  few-on k is =
      let from : ℕ = number + length old.again.items in
      let its : List (Fate × Packet) = lost_of ((fate, p) ∷ []) in
      let size : length new.again.items ≡ length old.again.items + length its =
      ap (λ (xs : List (List ℕ)). length xs) brings.again
      ∙ length-append old.again.items (numbered from its) ∙ ap (λ (k : ℕ). length old.again.items + k) (length-numbered from its) in
      omega (arith, size, few-lost fate p)

-- what is left from one place on
pub zip-on : (fates : List Fate) (ps : List Packet) (k : ℕ) (fate : Fate) (p : Packet) → k < length ps →
    length fates ≡ length ps → fate ≡ get_or fates k fate → p ≡ get_or ps k p →
    zip (drop k fates) (drop k ps) ≡ (fate, p) ∷ zip (drop (k + 1) fates) (drop (k + 1) ps)
zip-on fates ps k fate p within same fate-is p-is =
    ap (λ (x : List Fate). zip x (drop k ps)) (drop_more fates k fate (omega arith))
    ∙ ap (λ (x : List Packet). zip (get_or fates k fate ∷ drop (k + 1) fates) x) (drop_more ps k p within)
    ∙ ap (λ (x : Fate × Packet). x ∷ zip (drop (k + 1) fates) (drop (k + 1) ps))
    (ap (λ (f : Fate). (f, get_or ps k p)) (sym fate-is) ∙ ap (λ (q : Packet). (fate, q)) (sym p-is))

-- a packet of each fate was brought
pub with-in_time : (number : ℕ) (old new : Brought) (p : Packet) (text : List ℕ) → text ≡ datagram p →
    new.in_time.items ≡ old.in_time.items ++ text ∷ [] → new.late ≡ old.late → new.again ≡ old.again →
    BroughtWith number old new ((InTime, p) ∷ [])
with-in_time number old new p text is in_time late again = record {
  in_time = in_time ∙ ap (λ (x : List ℕ). old.in_time.items ++ x ∷ []) is;
  late = rw late (sym (append-nil old.late.items));
  again = rw again (sym (append-nil old.again.items));
}

pub with-late : (number : ℕ) (old new : Brought) (p : Packet) (text : List ℕ) → text ≡ datagram p →
    new.in_time ≡ old.in_time → new.late.items ≡ old.late.items ++ text ∷ [] → new.again ≡ old.again →
    BroughtWith number old new ((Late, p) ∷ [])
with-late number old new p text is in_time late again = record {
  in_time = rw in_time (sym (append-nil old.in_time.items));
  late = late ∙ ap (λ (x : List ℕ). old.late.items ++ x ∷ []) is;
  again = rw again (sym (append-nil old.again.items));
}

pub with-again : (number : ℕ) (old new : Brought) (p : Packet) (text : List ℕ) →
    text ≡ datagram_again (number + length old.again.items) p →
    new.in_time ≡ old.in_time → new.late ≡ old.late → new.again.items ≡ old.again.items ++ text ∷ [] →
    BroughtWith number old new ((SentAgain, p) ∷ [])
with-again number old new p text is in_time late again = record {
  in_time = rw in_time (sym (append-nil old.in_time.items));
  late = rw late (sym (append-nil old.late.items));
  again = again ∙ ap (λ (x : List ℕ). old.again.items ++ x ∷ []) is;
}
