-- Maps of held packets by their contents, and what stays sound.
use Rattle.std.proofs.Common.{◌≡◌, ℕ, Bool, true, false, cond, List, [], ◌∷◌, refl, sym, ◌∙◌, ap, subst}
use Rattle.std.specs.Prelude.{◌==◌, Option, Some, None, is_some}
use Rattle.std.specs.Option.{option_map, unwrap_or}
use Rattle.std.specs.Ordering.{nat_cmp, eq_by_cmp}
use Rattle.std.specs.declared.cmp.Ordering.TheVariants.{Less, Equal, Greater}
use Rattle.std.specs.FinMap.Entries.{by_order, put, where_key}
use Rattle.std.proofs.lemmas.Option.{none-some}
use Rattle.vrx_codec.specs.Meaning.{Meaning}
use Rattle.vrx_window.specs.declared.held.Held.{Held}
use Rattle.vrx_window.specs.declared.placing.Placing.TheVariants.{TooOld, Dead, Repeat, Fresh}
use Rattle.vrx_window.specs.Content.{Content, content_of, contents, contents_of}
use Rattle.vrx_window.specs.Sound.{AreSound, IsSound}
use Rattle.vrx_window.specs.Window.{Contents, at, in_window, is_dead, is_too_old, entries_in, newest_with, after_placing, entries_with, would_of}
use Rattle.vrx_window.proofs.EntryLemmas.{find_put, find_where}

contents-where : (p : ℕ → Bool) (es : List (ℕ × Held)) →
    contents (where_key nat_cmp p es) ≡ where_key nat_cmp p (contents es)
contents-where p [] = refl
contents-where p (e ∷ es) =
    let rest = contents-where p es in
    elim (p e.0) as (λ b. contents (cond b (e ∷ where_key nat_cmp p es) (where_key nat_cmp p es))
    ≡ cond b ((e.0, content_of e.1) ∷ where_key nat_cmp p (contents es)) (where_key nat_cmp p (contents es))) [
      | true ↦ ap (λ others. (e.0, content_of e.1) ∷ others) rest
      | false ↦ rest
    ]

contents-put : (n : ℕ) (held : Held) (es : List (ℕ × Held))
    → contents (put nat_cmp n held es) ≡ put nat_cmp n (content_of held) (contents es)
contents-put n held [] = refl
contents-put n held (e ∷ es) =
    let rest = contents-put n held es in
    let first : ℕ × Content = (e.0, content_of e.1) in
    elim (nat_cmp n e.0) as (λ o.
    contents (by_order o ((n, held) ∷ e ∷ es) ((e.0, held) ∷ es) (e ∷ put nat_cmp n held es))
    ≡ by_order o ((n, content_of held) ∷ first ∷ contents es) ((e.0, content_of held) ∷ contents es)
    (first ∷ put nat_cmp n (content_of held) (contents es))) [
      | Less ↦ refl
      | Equal ↦ refl
      | Greater ↦ ap (λ others. first ∷ others) rest
    ]

-- what stands under a number is the content of what is held there
pub contents-at : (n : ℕ) (es : List (ℕ × Held)) → at n (contents es) ≡ option_map content_of (at n es)
contents-at n [] = refl
contents-at n (e ∷ es) =
    let rest = contents-at n es in
    elim (eq_by_cmp nat_cmp n e.0) as (λ b. cond b (Some (content_of e.1)) (at n (contents es))
    ≡ option_map content_of (cond b (Some e.1) (at n es))) [
      | true ↦ refl
      | false ↦ rest
    ]

pub contents-after_placing : (n : ℕ) (held : Held) (window : Contents Held)
    → contents_of (after_placing n held window) ≡ after_placing n (content_of held) (contents_of window)
contents-after_placing n held window = λ i. record {
  newest = Some (newest_with window.newest n);
  first = (after_placing n held window).first;
  packets = packets i;
  dead = (after_placing n held window).dead;
} where
  next : ℕ
  next = newest_with window.newest n

  packets : contents (entries_with next n held window.packets) ≡ entries_with next n (content_of held)
      (contents window.packets)
  packets = contents-put n held (entries_in next window.packets)
      ∙ ap (put nat_cmp n (content_of held)) (contents-where (in_window next) window.packets)

available : (o : Option Held) → is_some (option_map content_of o) ≡ is_some o
available None = refl
available (Some held) = refl

pub contents-would : (window : Contents Held) (n : ℕ) → would_of (contents_of window) n ≡ would_of window n
contents-would window n = ap (λ b. cond (is_too_old window.newest n) TooOld
    (cond (is_dead n window.dead) Dead (cond b Repeat Fresh)))
    (ap is_some (contents-at n window.packets) ∙ available (at n window.packets))

same_Some : (x y : Held) → Some x ≡ Some y → x ≡ y
same_Some x y e = ap (λ o. unwrap_or o x) e

-- a packet found once a sound one was put in is sound
sound_of : (codec : Meaning) (held : Held) → IsSound codec held → (a b : Bool) (o : Option Held)
    → ((h : Held) → o ≡ Some h → IsSound codec h)
    → (h : Held) → cond a (Some held) (cond b o None) ≡ Some h → IsSound codec h
sound_of codec held is true b o all h found = subst (IsSound codec) (same_Some held h found) is
sound_of codec held is false true o all h found = all h found
sound_of codec held is false false o all h found = absurd (none-some h found)

pub sound-after_placing : (codec : Meaning) (n : ℕ) (held : Held) (window : Contents Held)
    → AreSound codec window.packets → IsSound codec held → AreSound codec (after_placing n held window).packets
sound-after_placing codec n held window are is m h found =
    let next : ℕ = newest_with window.newest n in
    sound_of codec held is (m == n) (in_window next m) (at m window.packets) (are m) h
    (sym (find_put m n held (entries_in next window.packets)
    ∙ ap (cond (m == n) (Some held)) (find_where (in_window next) m window.packets)) ∙ found)
