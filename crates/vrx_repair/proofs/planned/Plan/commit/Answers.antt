use Rattle.std.proofs.Common.{◌≤◌, IfSome, List, length, sym, ◌∙◌, ap, subst}
use Rattle.vrx_num.specs.Pictures.{IsNewestPicture}
use Rattle.vrx_num.specs.declared.limits.TheConstants.{WINDOW}
use Rattle.vrx_window.specs.Content.{contents_of}
use Rattle.vrx_window.specs.Sound.{AreSound}
use Rattle.vrx_window.specs.Window.{Contents, after_placing}
use Rattle.vrx_window.specs.declared.held.Held.{Held}
use Rattle.vrx_repair.specs.Commit.{ArePlaceable, HasRoom, window_after}
use Rattle.vrx_repair.specs.Plan.{entries_of}
use Rattle.vrx_repair.specs.declared.repair.Repair.{Repair}
use Rattle.vrx_repair.proofs.CommitLemmas.{commit-begins, commit-repaired, great-of, sound-after}
use Rattle.vrx_repair.proofs.planned.Plan.commit.Goals as goal

pub place_repairs-requires-clause-placeable : goal.place_repairs-requires-clause-placeable
place_repairs-requires-clause-placeable c =
    let great = great-of c.args.pictures.now (subst (λ o. IfSome o IsNewestPicture) c.newest-picture.ensures.value
    c.newest-picture.ensures.range) in
    let begins = commit-begins c.args.n c.args.held c.args.window.now c.requires.planned.0 c.args.self
    c.requires.planned.1 c.newest-newest.ensures.sound c.repairs_are.ensures.repairs c.args.pictures.now great c.requires.newest in
    subst (λ (w : Contents Held). ArePlaceable (contents_of w) (entries_of c.self.inside.repairs.items))
    (sym c.place.ensures.placed)
    (subst (λ (p : List Repair). ArePlaceable (contents_of (after_placing c.args.n c.args.held c.args.window.now))
    (entries_of p)) (sym c.self.view_is) begins.placeable)

pub place_repairs-requires-clause-room : goal.place_repairs-requires-clause-room
place_repairs-requires-clause-room c =
    let great = great-of c.args.pictures.now (subst (λ o. IfSome o IsNewestPicture) c.newest-picture.ensures.value
    c.newest-picture.ensures.range) in
    let begins = commit-begins c.args.n c.args.held c.args.window.now c.requires.planned.0 c.args.self
    c.requires.planned.1 c.newest-newest.ensures.sound c.repairs_are.ensures.repairs c.args.pictures.now great c.requires.newest in
    subst (λ (p : List Repair). HasRoom c.args.pictures.now (length p)) (sym c.self.view_is) begins.room

pub place_repairs-requires-clause-few : goal.place_repairs-requires-clause-few
place_repairs-requires-clause-few c =
    let great = great-of c.args.pictures.now (subst (λ o. IfSome o IsNewestPicture) c.newest-picture.ensures.value
    c.newest-picture.ensures.range) in
    let begins = commit-begins c.args.n c.args.held c.args.window.now c.requires.planned.0 c.args.self
    c.requires.planned.1 c.newest-newest.ensures.sound c.repairs_are.ensures.repairs c.args.pictures.now great c.requires.newest in
    subst (λ (p : List Repair). length p ≤ WINDOW) (sym c.self.view_is) begins.few

pub returns-clause-repaired : goal.returns-clause-repaired
returns-clause-repaired c source is =
    let end_is = c.place_repairs.ensures.window
    ∙ ap (window_after c.self.inside.repairs.items c.args.pictures.now) c.place.ensures.placed
    ∙ ap (λ (p : List Repair). window_after p c.args.pictures.now (after_placing c.args.n c.args.held c.args.window.now))
    c.self.view_is in
    commit-repaired c.args.n c.args.held c.args.window.now source c.args.self is c.newest-newest.ensures.sound
    c.repairs_are.ensures.repairs c.contents_are.ensures.placed c.args.pictures.now c.place_repairs.new.window end_is

pub returns-clause-sound : goal.returns-clause-sound
returns-clause-sound c source is sound held_sound =
    let great = great-of c.args.pictures.now (subst (λ o. IfSome o IsNewestPicture) c.newest-picture.ensures.value
    c.newest-picture.ensures.range) in
    let end_is = c.place_repairs.ensures.window
    ∙ ap (window_after c.self.inside.repairs.items c.args.pictures.now) c.place.ensures.placed
    ∙ ap (λ (p : List Repair). window_after p c.args.pictures.now (after_placing c.args.n c.args.held c.args.window.now))
    c.self.view_is in
    subst (λ (w : Contents Held). AreSound source.codec w.packets) (sym end_is)
    (sound-after c.picture_is_near.ensures.given source.codec (c.sound_stays.ensures.placed source.codec) c.args.self
    c.args.pictures.now (after_placing c.args.n c.args.held c.args.window.now) great is.sound
    (c.sound_stays.ensures.placed source.codec c.args.n c.args.held c.args.window.now sound held_sound))
