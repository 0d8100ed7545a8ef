-- What the definitions of the window come to.
use Rattle.std.proofs.Common.{◌≡◌, ℕ, Bool, ◌&&◌, ◌||◌, List, [], ◌∷◌, refl, ◌∙◌, arith}
use Rattle.std.specs.Prelude.{◌==◌}
use Rattle.std.specs.List.{filter}
use Rattle.std.specs.Ordering.{nat_cmp}
use Rattle.std.specs.FinMap.Entries.{where_key}
use Rattle.std.proofs.lemmas.Grind.{common_steps}
use Rattle.vrx_window.specs.Window.{Contents, after_giving_up, in_window, is_dead, newest_with, after_placing, with_number}
use Rattle.vrx_window.specs.WindowMeans.{GivenUpMeans, PlacedMeans}
use Rattle.vrx_window.proofs.EntryLemmas.{find_put, find_where}

-- a number among those that pass a test
is_dead-filter : (p : ℕ → Bool) (q : ℕ) (ks : List ℕ) → is_dead q (filter p ks) ≡ (p q && is_dead q ks)
is_dead-filter p q [] = grind (arith, common_steps)
is_dead-filter p q (k ∷ ks) = grind (arith, common_steps, is_dead-filter p q ks)

-- a number among others and one more
is_dead-with_number : (n q : ℕ) (ks : List ℕ) → is_dead q (with_number n ks) ≡ (q == n || is_dead q ks)
is_dead-with_number n q [] = refl
is_dead-with_number n q (k ∷ ks) = grind (arith, common_steps, is_dead-with_number n q ks)

module _ {X : Type 0} where
  pub placed_means : (n : ℕ) (held : X) (window : Contents X) →
      PlacedMeans n held window (after_placing n held window)
  placed_means n held window = record {
    here = find_put n n held kept ∙ grind (arith, common_steps);
    stays = λ m apart inside. record {
      packet = find_put m n held kept ∙ grind (arith, common_steps, find_where (in_window next) m window.packets);
      dead = grind (arith, common_steps, is_dead-filter (in_window next) m window.dead);
    };
    left = λ m apart outside. record {
      packet = find_put m n held kept ∙ grind (arith, common_steps, find_where (in_window next) m window.packets);
      dead = grind (arith, common_steps, is_dead-filter (in_window next) m window.dead);
    };
  } where
    next : ℕ
    next = newest_with window.newest n

    kept : List (ℕ × X)
    kept = where_key nat_cmp (in_window next) window.packets

  pub after_giving_up_means : (n : ℕ) (window : Contents X) → GivenUpMeans n window (after_giving_up n window)
  after_giving_up_means n window = record {
    here = grind (arith, common_steps, is_dead-with_number n n window.dead);
    packets = refl;
    stays = λ m apart. record {
      packet = refl;
      dead = grind (arith, common_steps, is_dead-with_number n m window.dead);
    };
  }
