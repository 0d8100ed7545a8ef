-- What always holds of the missing numbers.
use Rattle.std.specs.Prelude.{◌≡◌, ◌<◌, Bool, true, ◌&&◌, nat_lt, nat_le, List, [], ◌∷◌, length}
use Rattle.std.specs.List.{list_all}
use Rattle.vrx_num.specs.declared.limits.TheConstants.{MOST_REQUESTS, WINDOW}
use Rattle.vrx_asks.specs.declared.ask.Ask.{Ask}
use Rattle.vrx_asks.specs.Asks.{is_near}

-- each number is below all that follow it
abbrev pub rises : List Ask → Bool
rises [] = true
rises (ask ∷ asks) = list_all (λ other. nat_lt ask.number other.number) asks && rises asks

-- it was asked for at least once, and not too often
abbrev pub is_counted : Ask → Bool
is_counted ask = nat_le 1 ask.times && nat_le ask.times MOST_REQUESTS

-- The numbers rise, so that none stands twice. Each was asked for once at least, and 10 times at most. Each is at
-- most 2,046 above the first, and so there are at most 2,047.
pub record IsAsks (asks : List Ask) : Type 0 where
  pub rise : rises asks ≡ true
  pub counted : list_all is_counted asks ≡ true
  pub near : list_all (λ ask. is_near ask.number asks) asks ≡ true
  pub few : length asks < WINDOW
