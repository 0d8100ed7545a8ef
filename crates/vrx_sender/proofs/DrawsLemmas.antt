-- Fates, as they are drawn.
use Rattle.std.proofs.Common.{◌≡◌, ℕ, suc, List, [], ◌∷◌, ◌++◌, ap, sym, ◌∙◌, append_assoc}
use Rattle.rand_pcg.specs.Lcg.{Lcg}
use Rattle.vrx_sender.specs.declared.draws.Fate.{Fate}
use Rattle.vrx_sender.specs.Draws.{fate, fates}

-- one fate more was drawn
pub fates-on : (xs pushed : List Fate) (f : Fate) (g next : Lcg) (n m : ℕ) → pushed ≡ xs ++ f ∷ [] →
    (f, next) ≡ fate g → n ≡ suc m → pushed ++ (fates m next).0 ≡ xs ++ (fates n g).0
fates-on xs pushed f g next n m put drawn more =
    ap (λ (ys : List Fate). ys ++ (fates m next).0) put
    ∙ append_assoc xs (f ∷ []) (fates m next).0
    ∙ ap (λ (x : Fate × Lcg). xs ++ x.0 ∷ (fates m x.1).0) drawn
    ∙ ap (λ (k : ℕ). xs ++ (fates k g).0) (sym more)

pub draws-on : (f : Fate) (g next : Lcg) (n m : ℕ) → (f, next) ≡ fate g → n ≡ suc m →
    (fates m next).1 ≡ (fates n g).1
draws-on f g next n m drawn more =
    ap (λ (x : Fate × Lcg). (fates m x.1).1) drawn ∙ ap (λ (k : ℕ). (fates k g).1) (sym more)
