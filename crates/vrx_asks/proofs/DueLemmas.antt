-- What a tick leaves, and the numbers that it asks for and gives up.
use Rattle.std.proofs.Common.{◌≡◌, ◌∙◌, ℕ, ◌+◌, ◌<◌, ◌≤◌, Bool, true, false, List, [], ◌∷◌, ◌++◌, length, take, drop}
use Rattle.std.proofs.Common.{get_or, set, map, refl, sym, ap, arith, cond}
use Rattle.std.specs.Prelude.{not, if◌then◌else◌, Option, Some, None}
use Rattle.std.specs.List.{filter}
use Rattle.std.proofs.lemmas.Grind.{common_steps}
use Rattle.std.proofs.lemmas.List.{append-nil, drop_more, drop-set-lt, length-set, length-take, take_all, take_more}
use Rattle.std.proofs.lemmas.List.{take_more_set}
use Rattle.vrx_num.specs.declared.limits.TheConstants.{WINDOW}
use Rattle.vrx_asks.specs.declared.ask.Ask.{Ask}
use Rattle.vrx_asks.specs.Asks.{ask_after, asked_numbers, asks_left, given_up_numbers, is_asked, is_given_up, numbers}
use Rattle.vrx_asks.specs.IsAsks.{IsAsks, is_counted}
use Rattle.vrx_asks.proofs.SoundLemmas.{IsAsks-filter, IsAsks-map}

filter-append : (p : Ask → Bool) (xs ys : List Ask) → filter p (xs ++ ys) ≡ filter p xs ++ filter p ys
filter-append p [] ys = refl
filter-append p (x ∷ xs) ys = grind (arith, common_steps, filter-append p xs ys)

map-append : {Y : Type 0} (f : Ask → Y) (xs ys : List Ask) → map f (xs ++ ys) ≡ map f xs ++ map f ys
map-append f [] ys = refl
map-append f (x ∷ xs) ys = ap (λ zs. f x ∷ zs) (map-append f xs ys)

-- the numbers that pass a test are no more than the asks
numbers-few : (p : Ask → Bool) (asks : List Ask) → length (numbers (filter p asks)) ≤ length asks
numbers-few p [] = grind (arith, common_steps)
numbers-few p (x ∷ xs) = grind (arith, common_steps, numbers-few p xs)

-- what is left of one ask, if there is something, or nothing
left-by : (f : Ask → Ask) (gone : Bool) (x y : Ask) → Some y ≡ (if gone then None else Some (f x))
    → map f (cond (not gone) (x ∷ []) []) ≡ y ∷ []
left-by f true x y h = cc
left-by f false x y h = let same : y ≡ f x = cc in ap (λ z. z ∷ []) (sym same)

gone-by : (f : Ask → Ask) (gone : Bool) (x : Ask) → None ≡ (if gone then None else Some (f x))
    → map f (cond (not gone) (x ∷ []) []) ≡ []
gone-by f true x h = refl
gone-by f false x h = cc

-- a tick, by its moment and the interval
module _ (now interval : ℕ) where
  -- what is left of an ask, if it isn't given up
  abbrev left_of : Ask → Option Ask
  left_of ask = if is_given_up now interval ask then None else Some (ask_after now interval ask)

  -- an ask keeps its number, and isn't asked for too often
  number-after : (ask : Ask) → (ask_after now interval ask).number ≡ ask.number
  number-after ask = grind (arith, common_steps)

  is_counted-after : (ask : Ask) → is_counted ask ≡ true → is_counted (ask_after now interval ask) ≡ true
  is_counted-after ask h = grind (arith, common_steps)

  pub IsAsks-left : (asks : List Ask) → IsAsks asks → IsAsks (asks_left now interval asks)
  IsAsks-left asks h =
      let stays : Ask → Bool = λ ask. not (is_given_up now interval ask) in
      IsAsks-map (ask_after now interval) number-after is_counted-after (filter stays asks)
      (IsAsks-filter stays asks h)

  asks_left-append : (xs ys : List Ask)
      → asks_left now interval (xs ++ ys) ≡ asks_left now interval xs ++ asks_left now interval ys
  asks_left-append xs ys = rw filter-append (map-append (ask_after now interval) _ _)

  asked-append : (xs ys : List Ask)
      → asked_numbers now interval (xs ++ ys) ≡ asked_numbers now interval xs ++ asked_numbers now interval ys
  asked-append xs ys = rw filter-append (map-append (λ ask. ask.number) _ _)

  given_up-append : (xs ys : List Ask)
      → given_up_numbers now interval (xs ++ ys) ≡ given_up_numbers now interval xs
      ++ given_up_numbers now interval ys
  given_up-append xs ys = rw filter-append (map-append (λ ask. ask.number) _ _)

  -- Of old, the first i are settled: what is left of them stands in the first kept places, and their numbers are among
  -- those asked for and those given up. From i on all is as it was.
  pub record IsSettled (old asks : List Ask) (kept i : ℕ) (asked given_up : List ℕ) : Type 0 where
    pub front : take kept asks ≡ asks_left now interval (take i old)
    pub rest : drop i asks ≡ drop i old
    pub behind : kept ≤ i
    pub within : i ≤ length old
    pub long : length asks ≡ length old
    pub asked_are : asked ≡ asked_numbers now interval (take i old)
    pub given_up_are : given_up ≡ given_up_numbers now interval (take i old)

  module _ {old asks : List Ask} {kept i : ℕ} {asked given_up : List ℕ}
      (s : IsSettled old asks kept i asked given_up) where
    -- while there are more, there is room for one more number
    module _ (in_old : i < length old) (few : length old < WINDOW) where
      pub room-asked : length asked < WINDOW
      room-asked =
          rw s.asked_are (omega (arith, s.long, numbers-few (is_asked now interval) (take i old), length-take i old))

      pub room-given_up : length given_up < WINDOW
      room-given_up =
          rw s.given_up_are (omega
          (arith, s.long, numbers-few (is_given_up now interval) (take i old), length-take i old))

    -- once all are settled
    module _ (end : length old ≤ i) where
      pub front-all : take kept asks ≡ asks_left now interval old
      front-all = s.front ∙ ap (asks_left now interval) (take_all i old end)

      pub asked-all : asked ≡ asked_numbers now interval old
      asked-all = s.asked_are ∙ ap (asked_numbers now interval) (take_all i old end)

      pub given_up-all : given_up ≡ given_up_numbers now interval old
      given_up-all = s.given_up_are ∙ ap (given_up_numbers now interval) (take_all i old end)

    -- one more ask x, whose number goes where it belongs
    module _ (x : Ask) (in_old : i < length old) (is : x ≡ get_or asks i x) (asked' given_up' : List ℕ)
        (asked-is : asked' ≡ asked ++ asked_numbers now interval (x ∷ []))
        (given_up-is : given_up' ≡ given_up ++ given_up_numbers now interval (x ∷ [])) where
      in_range : i < length asks
      in_range = omega (arith, s.long)

      parts : get_or asks i x ∷ drop (i + 1) asks ≡ get_or old i x ∷ drop (i + 1) old
      parts = sym (drop_more asks i x in_range) ∙ s.rest ∙ drop_more old i x in_old

      next : take (i + 1) old ≡ take i old ++ x ∷ []
      next = let here : get_or old i x ≡ x = let whole = parts in cc in take_more old i x in_old ∙ rw here

      after : drop (i + 1) asks ≡ drop (i + 1) old
      after = let whole = parts in cc

      asked-next : asked' ≡ asked_numbers now interval (take (i + 1) old)
      asked-next =
          asked-is ∙ ap (λ ns. ns ++ asked_numbers now interval (x ∷ [])) s.asked_are
          ∙ sym (asked-append (take i old) (x ∷ [])) ∙ ap (asked_numbers now interval) (sym next)

      given_up-next : given_up' ≡ given_up_numbers now interval (take (i + 1) old)
      given_up-next =
          given_up-is ∙ ap (λ ns. ns ++ given_up_numbers now interval (x ∷ [])) s.given_up_are
          ∙ sym (given_up-append (take i old) (x ∷ [])) ∙ ap (given_up_numbers now interval) (sym next)

      asks_left-next : (ys : List Ask) → asks_left now interval (x ∷ []) ≡ ys
          → asks_left now interval (take i old) ++ ys ≡ asks_left now interval (take (i + 1) old)
      asks_left-next ys e =
          ap (λ zs. asks_left now interval (take i old) ++ zs) (sym e)
          ∙ sym (ap (asks_left now interval) next ∙ asks_left-append (take i old) (x ∷ []))

      -- something is left of it, and is written behind what is left of those before
      pub IsSettled-some : (y : Ask) → Some y ≡ left_of x
          → IsSettled old (set asks kept y) (kept + 1) (i + 1) asked' given_up'
      IsSettled-some y h =
          let low : kept < length asks = omega (arith, s.behind) in
          let back : kept < i + 1 = omega (arith, s.behind) in
          record {
            front = take_more_set asks kept y low ∙ ap (λ ys. ys ++ y ∷ []) s.front
                ∙ asks_left-next (y ∷ []) (left-by (ask_after now interval) (is_given_up now interval x) x y h);
            rest = drop-set-lt (i + 1) asks kept y back ∙ after;
            behind = omega (arith, s.behind);
            within = omega (arith, in_old);
            long = length-set asks kept y ∙ s.long;
            asked_are = asked-next;
            given_up_are = given_up-next;
          }

      -- nothing is left of it
      pub IsSettled-none : None ≡ left_of x → IsSettled old asks kept (i + 1) asked' given_up'
      IsSettled-none h = record {
        front = s.front ∙ sym (append-nil (asks_left now interval (take i old)))
            ∙ asks_left-next [] (gone-by (ask_after now interval) (is_given_up now interval x) x h);
        rest = after;
        behind = omega (arith, s.behind);
        within = omega (arith, in_old);
        long = s.long;
        asked_are = asked-next;
        given_up_are = given_up-next;
      }
