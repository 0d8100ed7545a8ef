-- One number more: its bit in the open item, or an item of its own.
use Rattle.std.proofs.Common.{◌≡◌, ℕ, ◌+◌, ◌-◌, ◌*◌, ◌%◌, ◌^◌, ◌<◌, ◌≤◌, [], ◌∷◌, ◌++◌, List, get_or, drop, sym, subst, ◌∙◌, arith}
use Rattle.std.proofs.lemmas.List.{drop_more, drop_all}
use Rattle.std.proofs.lemmas.Nat.{one_shl}
use Rattle.vrx_rtcp.specs.declared.types.TheConstants.{NACK_SPAN}
use Rattle.vrx_rtcp.specs.declared.writing.Item.{Item}
use Rattle.vrx_rtcp.specs.View.{item_of}
use Rattle.vrx_rtcp.proofs.FeedbackLemmas.{rises_to, Building, later_items, building-begins, building-near, bit_fits, building-beyond, building-ends, building-within, items-are}
use Rattle.vrx_rtcp.proofs.writing.items_of.Goals as goal
use Rattle.vrx_rtcp.proofs.writing.items_of.Goals.{then-n-item-le-BLP_BITS, else-n-item-le-BLP_BITS}

-- the pass over the numbers after the first, as it stands
abbrev Stands : ℕ → List ℕ → List Item → Item → List ℕ → Type 0
Stands first later items item rest =
    Building (first + NACK_SPAN) first (item_of later first ∷ later_items first later) items item.first item.blp rest

-- the bit, as it is shifted
shifted : (first n : ℕ) → first < n → n - first ≤ 16 → 2 ^ (n - first - 1) ≡ 1 * 2 ^ (n - first - 1) % 65536
shifted first n above near = sym (one_shl (n - first - 1) 16 (omega arith))

near_with : (first : ℕ) (later : List ℕ) (items : List Item) (item : Item) (n : ℕ) (rest : List ℕ) →
    n - item.first ≤ 16 → Stands first later items item (n ∷ rest) →
    Stands first later items
    (record { first = item.first; blp = item.blp + 1 * 2 ^ (n - item.first - 1) % 65536 }) rest
near_with first later items item n rest near b =
    subst (λ (k : ℕ). Stands first later items (record { first = item.first; blp = item.blp + k }) rest)
    (shifted item.first n b.rises.0 near) (building-near _ _ _ _ item.first item.blp n rest (omega arith) b)

fits_with : (first : ℕ) (later : List ℕ) (items : List Item) (item : Item) (n : ℕ) (rest : List ℕ) →
    n - item.first ≤ 16 → Stands first later items item (n ∷ rest) →
    item.blp + 1 * 2 ^ (n - item.first - 1) % 65536 < 65536
fits_with first later items item n rest near b =
    subst (λ (k : ℕ). item.blp + k < 65536) (shifted item.first n b.rises.0 near)
    (bit_fits _ _ _ _ item.first item.blp n rest (omega arith) b)

beyond_with : (first : ℕ) (later : List ℕ) (items : List Item) (item : Item) (n : ℕ) (rest : List ℕ) →
    16 < n - item.first → Stands first later items item (n ∷ rest) →
    Stands first later (items ++ item ∷ []) (record { first = n; blp = 0 }) rest
beyond_with first later items item n rest beyond b =
    building-beyond _ _ _ items item.first item.blp n rest (omega arith) b

pub loop-n-init : goal.loop-n-init
loop-n-init c =
    let later = c.args.later.now in
    let begins = building-begins (c.args.first + NACK_SPAN) c.args.first later
    (rises_to (c.args.first + NACK_SPAN) c.args.first later c.requires.rising c.requires.near) in
    subst (λ (x : List Item). Stands c.args.first later x (record { first = c.args.first; blp = 0 }) later)
    (sym c.new-items.ensures) begins

pub loop-n-preserved : goal.loop-n-preserved
loop-n-preserved c =
    let later = c.args.later.now in
    let n = get_or later c.loop-n.n-index 0 in
    let rest = drop (c.loop-n.n-index + 1) later in
    let here : Stands c.args.first later c.loop-n.items.items c.loop-n.item (n ∷ rest) =
    subst (λ (x : List ℕ). Stands c.args.first later c.loop-n.items.items c.loop-n.item x)
    (drop_more later c.loop-n.n-index 0 c.loop-n-test.true) c.loop-n.invariant in
    elim c.if-n-item-le-BLP_BITS.branch [
      | then-n-item-le-BLP_BITS w ↦ rw (w.items-is, w.item-is)
          (near_with c.args.first later c.loop-n.items.items c.loop-n.item n rest w.if-n-item-le-BLP_BITS.true here)
      | else-n-item-le-BLP_BITS w ↦ rw (w.items-is, w.item-is, w.push.ensures.items)
          (beyond_with c.args.first later c.loop-n.items.items c.loop-n.item n rest w.if-n-item-le-BLP_BITS.false
          here)
    ]

pub push-requires : goal.push-requires
push-requires c =
    let within = building-within _ _ _ _ _ _ _ c.loop-n.invariant in
    let few = c.loop-n.invariant.few in
    (omega arith, omega arith)

pub returns-clause-items : goal.returns-clause-items
returns-clause-items c =
    let later = c.args.later.now in
    let at_end : drop c.loop-n.n-index later ≡ [] = drop_all c.loop-n.n-index later c.loop-n-test.false in
    let ended : Stands c.args.first later c.loop-n.items.items c.loop-n.item [] =
    subst (λ (x : List ℕ). Stands c.args.first later c.loop-n.items.items c.loop-n.item x) at_end
    c.loop-n.invariant in
    c.push-2.ensures.items ∙ building-ends _ _ _ _ _ _ ended
    ∙ items-are (c.args.first + NACK_SPAN) c.args.first later
    (rises_to (c.args.first + NACK_SPAN) c.args.first later c.requires.rising c.requires.near)
