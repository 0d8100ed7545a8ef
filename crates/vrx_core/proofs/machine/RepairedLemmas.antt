-- The window once its repairs were made: they fill its gaps, and change nothing else.
use Rattle.std.proofs.Common.{◌≡◌, ℕ, ◌⊎◌, true, Contains, Some, nat_cmp}
use Rattle.std.specs.FinMap.Entries.{is_sorted}
use Rattle.vrx_num.specs.declared.limits.TheConstants.{WINDOW}
use Rattle.vrx_window.specs.Content.{Content}
use Rattle.vrx_window.specs.Window.{Contents, at}
use Rattle.vrx_repair.specs.Plan.{repairs_in}
use Rattle.vrx_repair.specs.Source.{Source}
use Rattle.vrx_core.specs.machine.Machine.{with_repaired}
use Rattle.vrx_core.proofs.machine.RepairLemmas.{FillAll, Fills, fill-each, fill-from, fill-here, fill-rises, fill-stays, repairs-fill}

module _ (source : Source) (window : Contents Content) where
  -- the repairs fill gaps
  pub made-fill : FillAll source window.newest window.dead window.packets (repairs_in source window)
  unfolding repairs_in
  made-fill = repairs-fill source window.newest window.dead WINDOW window.packets

  -- what is available then was available, or is a repair
  pub made-from : (n : ℕ) (content : Content) →
      at n (with_repaired (repairs_in source window) window).packets ≡ Some content →
      (at n window.packets ≡ Some content) ⊎ Contains (repairs_in source window) (n, content)
  made-from n content there =
      fill-from source window.newest window.dead window.packets (repairs_in source window) made-fill n content there

  -- what was available is so still
  pub made-stays : (n : ℕ) (content : Content) → at n window.packets ≡ Some content →
      at n (with_repaired (repairs_in source window) window).packets ≡ Some content
  made-stays n content there =
      fill-stays source window.newest window.dead window.packets (repairs_in source window) made-fill n content there

  -- a repair is available
  pub made-here : (n : ℕ) (content : Content) → Contains (repairs_in source window) (n, content) →
      at n (with_repaired (repairs_in source window) window).packets ≡ Some content
  made-here n content among =
      fill-here source window.newest window.dead window.packets (repairs_in source window) made-fill (n, content) among

  -- each repair fills a gap
  pub made-each : (repair : ℕ × Content) → Contains (repairs_in source window) repair →
      Fills source window.newest window.dead window.packets repair
  made-each repair among =
      fill-each source window.newest window.dead window.packets (repairs_in source window) made-fill repair among

  -- the numbers rise
  pub made-rise : is_sorted nat_cmp window.packets ≡ true →
      is_sorted nat_cmp (with_repaired (repairs_in source window) window).packets ≡ true
  made-rise rises =
      fill-rises source window.newest window.dead (repairs_in source window) window.packets rises
