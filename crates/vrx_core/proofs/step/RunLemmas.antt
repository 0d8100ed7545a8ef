-- The runs that stand, as the window's packets.
use Rattle.std.proofs.Common.{Contains, ◌≡◌, ℕ, zero, suc, ◌+◌, ◌-◌, ◌*◌, ◌^◌, ◌<◌, ◌≤◌, true, Bool, List, [], ◌∷◌, map, length, Option, Some, None, IfSome, is_some, Ok, refl, sym, subst, ap, ◌∙◌, arith, option_map}
use Rattle.std.specs.Option.{option_and_then}
use Rattle.std.specs.Result.{result_ok}
use Rattle.std.proofs.lemmas.Bool.{false≢true}
use Rattle.std.proofs.lemmas.Option.{none-some, same_Some}
use Rattle.vrx_num.specs.declared.limits.TheConstants.{HALF_SPACE, MOST_EVENTS, WINDOW}
use Rattle.vrx_codec.specs.Meaning.{Meaning}
use Rattle.vrx_codec.specs.declared.run.Place.{Place}
use Rattle.vrx_codec.specs.declared.run.Run.{Run as RunSummary}
use Rattle.vrx_window.specs.Content.{Media, content_of, contents}
use Rattle.vrx_window.specs.Sound.{place_at}
use Rattle.vrx_window.specs.Window.{at, is_inside}
use Rattle.vrx_window.specs.declared.held.Held.{Held}
use Rattle.vrx_window.specs.declared.held.Held.TheVariants as helds
use Rattle.vrx_frames.specs.IsRun.{ArePieces, IsPiece, IsRunBy, RunsAre}
use Rattle.vrx_frames.specs.Run.{Packets, Piece, Run, summary_of}
use Rattle.vrx_core.specs.machine.Machine.{frame_of}
use Rattle.vrx_core.specs.relation.StandsFor.{Assembly}
use Rattle.vrx_core.specs.inside.Step.{packets_of}
use Rattle.vrx_core.specs.inside.Fields.{IsFrameOf, IsWhole}
use Rattle.vrx_core.specs.inside.Joins.{IsJoinable, join_of}
use Rattle.vrx_frames.specs.Parts.{is_media, part_at, part_of, parts_from}
use Rattle.vrx_core.specs.declared.reply.Frame.{Frame}
use Rattle.vrx_core.proofs.relation.CallLemmas.{IsTold, frame-is}
use Rattle.vrx_core.proofs.relation.MapLemmas.{at_map}
use Rattle.vrx_core.proofs.relation.WindowLemmas.{window-order}
use Rattle.vrx_core.proofs.step.JoinLemmas.{part_of-text, parts-next}

-- the part of a piece
piece-part : (codec : Meaning) (packets : Packets) (n : ℕ) (piece : Piece) → IsPiece codec packets n piece →
    part_at codec packets n ≡ Some piece.part
piece-part codec packets n piece is = ap (option_and_then (part_of codec)) is.media
    ∙ part_of-text codec is.text piece.packet piece.part is.reads is.part_reads

-- the parts of a stretch are those of its pieces
parts-pieces : (codec : Meaning) (packets : Packets) (n : ℕ) (pieces : List Piece) →
    ArePieces codec packets n pieces → parts_from codec packets n (length pieces) ≡ map (λ piece. piece.part) pieces
parts-pieces codec packets n [] are = refl
parts-pieces codec packets n (piece ∷ pieces) are =
    parts-next codec packets n (suc (length pieces)) (length pieces) piece.part
    (piece-part codec packets n piece are.0) refl
    ∙ ap (λ ps. piece.part ∷ ps) (parts-pieces codec packets (n + 1) pieces are.1)

-- each number of a stretch is available media
media-at : (codec : Meaning) (packets : Packets) (n k : ℕ) (pieces : List Piece) → ArePieces codec packets n pieces →
    k < length pieces → (text : List ℕ) × (at (n + k) packets ≡ Some (Media text))
media-at codec packets n k [] are less = absurd (omega arith)
media-at codec packets n zero (piece ∷ pieces) are less =
    (are.0.text, subst (λ m. at m packets ≡ Some (Media are.0.text)) here are.0.media) where
      here : n ≡ n + 0
      here = omega arith
media-at codec packets n (suc k) (piece ∷ pieces) are less =
    let rest = media-at codec packets (n + 1) k pieces are.1 (omega arith) in
    let next : n + 1 + k ≡ n + suc k = omega arith in
    (rest.0, subst (λ m. at m packets ≡ Some (Media rest.0)) next rest.1)

-- what is held there is media
held-media : (o : Option Held) (text : List ℕ) → option_map content_of o ≡ Some (Media text) → is_media o ≡ true
held-media None text is = absurd (none-some (Media text) is)
held-media (Some (helds.Media t marker ts start key layers)) text is = refl
held-media (Some (helds.Empty marker)) text is = cc
held-media (Some (helds.Fec payload)) text is = cc

media-available : (o : Option Held) → is_media o ≡ true → is_some o ≡ true
media-available None is = absurd (false≢true is)
media-available (Some held) is = refl

module _ (codec : Meaning) (held : List (ℕ × Held)) (place : ℕ → Option Place) (starts : Piece → Bool) (run : Run)
    (is : IsRunBy codec place starts (contents held) run) where
  -- each number of a run is held media
  pub run-media : (n : ℕ) → run.first ≤ n → n ≤ run.last → is_media (at n held) ≡ true
  run-media n from to =
      let long : run.first + length is.pieces ≡ run.last + 1 = is.to_last in
      let there = media-at codec (contents held) run.first (n - run.first) is.pieces is.from_first (omega arith) in
      let same : run.first + (n - run.first) ≡ n = omega arith in
      held-media (at n held) there.0
      (sym (at_map content_of n held) ∙ subst (λ m. at m (contents held) ≡ Some (Media there.0)) same there.1)

  -- its packets join to its bytes
  pub run-joins : join_of codec (contents held) run.first run.last ≡ Ok run.bytes
  run-joins =
      let long : run.first + length is.pieces ≡ run.last + 1 = is.to_last in
      let count : run.last + 1 - run.first ≡ length is.pieces = omega arith in
      ap (λ k. codec.join (parts_from codec (contents held) run.first k)) count
      ∙ ap codec.join (parts-pieces codec (contents held) run.first is.pieces is.from_first) ∙ is.joins

-- a number inside, as a fact
inside-some : (o : Option ℕ) (n : ℕ) → is_inside o n ≡ true → (m : ℕ) × (o ≡ Some m) × (m < n + WINDOW) × (n ≤ m)
inside-some None n within = absurd (false≢true within)
inside-some (Some m) n within = let order = window-order m n within in (m, refl, order.0, order.1)

newest-low : (o : Option ℕ) (m events : ℕ) → o ≡ Some m → events ≤ MOST_EVENTS →
    IfSome o (λ newest. (65536 ≤ newest) × (newest ≤ 131072 + HALF_SPACE * events)) → m < 2 ^ 62
newest-low None m events is few reach = absurd (none-some m is)
newest-low (Some newest) m events is few reach =
    let same : newest ≡ m = same_Some newest m is in
    let most : newest ≤ 131072 + HALF_SPACE * events = reach.1 in
    omega arith

-- what tells of a run among the window's packets can be joined
pub joinable : (codec : Meaning) (parts : Assembly) (told : RunSummary) → IsWhole codec parts →
    IsTold codec parts told → IsJoinable codec parts.window.packets told
joinable codec parts told whole is = subst (λ t. IsJoinable codec parts.window.packets t) is.told_is (record {
  sound = whole.kept.sound;
  some = is.is_run.not_empty;
  few = few;
  low = low;
  media = media;
  octets = ap (λ r. option_map length (result_ok r)) (run-joins codec parts.window.packets (place_at parts.window.packets) _ is.run is.is_run);
}) where
  media : (n : ℕ) → is.run.first ≤ n → n ≤ is.run.last → is_media (at n parts.window.packets) ≡ true
  media = run-media codec parts.window.packets (place_at parts.window.packets) _ is.run is.is_run

  inside : (n : ℕ) → is.run.first ≤ n → n ≤ is.run.last →
      (m : ℕ) × (parts.window.newest ≡ Some m) × (m < n + WINDOW) × (n ≤ m)
  inside n from to = inside-some parts.window.newest n
      (whole.window.packets_inside n (media-available (at n parts.window.packets) (media n from to)))

  few : is.run.last < is.run.first + WINDOW
  few =
      let some : is.run.first ≤ is.run.last = is.is_run.not_empty in
      let a = inside is.run.first (omega arith) some in
      let b = inside is.run.last some (omega arith) in
      let same : a.0 ≡ b.0 = same_Some a.0 b.0 (sym a.1 ∙ b.1) in
      omega arith

  low : is.run.last < 2 ^ 62
  low =
      let some : is.run.first ≤ is.run.last = is.is_run.not_empty in
      let b = inside is.run.last some (omega arith) in
      let newest : b.0 < 2 ^ 62 =
      newest-low parts.window.newest b.0 parts.events b.1 whole.kept.few whole.kept.reach in
      omega arith

-- a run that stands can be joined
pub standing-joinable : (are : RunsAre) (codec : Meaning) (parts : Assembly) (told : RunSummary) → IsWhole codec parts →
    Contains parts.frames told → IsJoinable codec parts.window.packets told
standing-joinable are codec parts told whole there =
    joinable codec parts told whole (frame-is are codec parts told whole.kept there)

-- a frame of a run
same-frame : (told : RunSummary) (run : Run) (bytes : List ℕ) → summary_of run ≡ told → bytes ≡ run.bytes →
    ◌≡◌ {A = Frame} (record { first = told.first; last = told.last; ts = told.ts; key = told.key; bytes = bytes })
    (frame_of run)
same-frame told run bytes is same =
    sym (ap (λ (t : RunSummary). record { first = t.first; last = t.last; ts = t.ts; key = t.key; bytes = bytes }) is)
    ∙ ap (λ (b : List ℕ). record { first = run.first; last = run.last; ts = run.ts; key = run.key; bytes = b }) same

-- the frame that what a run joins to makes
pub frame-joined : (codec : Meaning) (parts : Assembly) (told : RunSummary) (bytes : List ℕ) →
    join_of codec (packets_of parts) told.first told.last ≡ Ok bytes
    → IsFrameOf codec parts told
    (record { first = told.first; last = told.last; ts = told.ts; key = told.key; bytes = bytes })
frame-joined codec parts told bytes joins run is told_is =
    let here : join_of codec (packets_of parts) run.first run.last ≡ Ok bytes =
    subst (λ (t : RunSummary). join_of codec (packets_of parts) t.first t.last ≡ Ok bytes) (sym told_is) joins in
    same-frame told run bytes told_is
    (same_Some bytes run.bytes (ap result_ok (sym here ∙ run-joins codec parts.window.packets (place_at parts.window.packets) _ run is)))
