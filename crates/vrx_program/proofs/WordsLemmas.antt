-- A list of one word.
use Rattle.std.proofs.Common.{◌≡◌, ℕ, ◌<◌, ◌≤◌, true, List, [], ◌∷◌, length, get_or, refl, sym, ◌∙◌, ap, arith, lit<}
use Rattle.std.specs.Prelude.{nat_eq}
use Rattle.std.proofs.lemmas.Cmp.{nat_list_eq_equiv}
use lib.Pointwise.{pointwise}
use Rattle.vrx_program.specs.Words.{word_text, IsWord}
use Rattle.vrx_program.specs.declared.word.Word.{Word}
use Rattle.vrx_program.specs.declared.word.Word.TheVariants.{Replay, Inspect}

-- a list of one item is that item
pub single : {A : Type 0} (xs : List A) (x : A) → 1 ≤ length xs → length xs < 2 → x ≡ get_or xs 0 x → xs ≡ x ∷ []
single [] x least most is = absurd (omega arith)
single (y ∷ []) x least most is = ap (λ z. z ∷ []) (sym is)
single (y ∷ z ∷ zs) x least most is = absurd (omega arith)

-- lists of one item are equal where the items are
pub head_same : (x y : List ℕ) → x ∷ [] ≡ y ∷ [] → x ≡ y
head_same x y same = cc

-- equal texts are alike octet by octet
pub texts_alike : (x y : List ℕ) → x ≡ y → pointwise nat_eq x y ≡ true
texts_alike x y same = ap (λ z. pointwise nat_eq z y) same ∙ nat_list_eq_equiv.refl y

-- the words are told apart by their lengths
other_length : (a b : List ℕ) → length a < length b → a ≡ b → ⊥
other_length a b less same = absurd (omega (arith, ap length same))

-- a list of texts is one word at most
pub same_word : (one other : Word) (words : List (List ℕ)) → IsWord one words → IsWord other words → one ≡ other
same_word Replay Replay words is also = refl
same_word Inspect Inspect words is also = refl
same_word Replay Inspect words is also =
    absurd (other_length (word_text Replay) (word_text Inspect) (lit< tt)
    (head_same (word_text Replay) (word_text Inspect) (sym is ∙ also)))
same_word Inspect Replay words is also =
    absurd (other_length (word_text Replay) (word_text Inspect) (lit< tt)
    (head_same (word_text Replay) (word_text Inspect) (sym also ∙ is)))
