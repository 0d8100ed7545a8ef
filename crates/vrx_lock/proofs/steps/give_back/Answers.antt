use Rattle.std.proofs.Common.{◌≡◌, ◌∙◌, ap, sym, Some, None, arith}
use Rattle.atomic_table.specs.Seated.{TableId}
use Rattle.vrx_lock.specs.declared.known.Setup.{Setup}
use Rattle.vrx_lock.specs.inside.Steps.{Place}
use Rattle.vrx_lock.proofs.StepLemmas.{put-in, releases}
use Rattle.vrx_lock.proofs.steps.give_back.Goals as goal

pub store-requires : goal.store-requires
store-requires g c =
    let m : Place = c.args.place.now.me in
    let n : Place = c.exchange.new.seat.me in
    let is : n ≡ (m.0, _) = c.exchange.ensures.3 in
    let kept : Setup = c.args.kept.setup in
    let mine : Setup = m.0.known.setup in
    let now : Setup = n.0.known.setup in
    let same : kept ≡ mine = c.requires.holding.1 in
    let stays : mine ≡ now = ap (λ (z : Place). z.0.known.setup) (sym is) in
    let setup : kept ≡ now = same ∙ stays in
    let here : TableId = c.exchange.new.seat.table_id in
    let before : TableId = c.args.place.now.table_id in
    let there : TableId = c.args.desk.now.table_id in
    let same_table : here ≡ before = c.exchange.ensures.0 in
    let own : before ≡ there = c.requires.table.0 in
    let table : here ≡ there = same_table ∙ own in (
      table,
      omega (arith, c.requires.table.1.0),
      releases c.args.desk.now.key c.args.desk.now.table_id.slots c.exchange.new.seat.id n c.args.kept
          c.requires.table.1.1 (put-in m n c.args.kept.journal None (Some c.args.kept) c.requires.holding.0 is) setup,
    )
