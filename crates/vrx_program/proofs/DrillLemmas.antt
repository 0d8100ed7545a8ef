-- The counts of a drill, event after event, and its words.
use Rattle.std.proofs.Common.{◌≡◌, ◌⊎◌, inl, inr, ℕ, ◌+◌, ◌^◌, ◌<◌, ◌≤◌, ◌↔◌, Bool, true, false, List, [], ◌∷◌, length, get_or, Option, Result, Ok, Err, refl, ap, sym, ◌∙◌, arith}
use Rattle.std.specs.Prelude.{codes, nat_eq, not}
use Rattle.std.specs.Cmp.Lexicographic.{same_text}
use Rattle.std.proofs.lemmas.Bool.{false≢true}
use lib.Pointwise.{pointwise}
use Rattle.vrx_program.proofs.WordsLemmas.{texts_alike}
use Rattle.std.specs.Fmt.{decimal}
use Rattle.std.specs.Str.Parse.{digits_value}
use Rattle.std.proofs.lemmas.Fmt.{decimal_is_IsNumeral}
use Rattle.vrx_vp8.specs.Descriptor.{vp8}
use Rattle.vrx_core.specs.machine.Machine.{replies, reply}
use Rattle.vrx_core.specs.relation.StandsFor.{EngineParts, StandsFor}
use Rattle.vrx_core.specs.declared.event.Event.{Event}
use Rattle.vrx_core.specs.honest.HonestCall.{HonestCallHolds}
use Rattle.vrx_sender.specs.declared.laws.TheConstants.{MOST_HONEST_FRAMES}
use Rattle.vrx_sender.specs.Drill.{drill_events, drill_sender}
use Rattle.vrx_sender.specs.Laws.{NetworkIsHonest, SenderIsHonest}
use Rattle.vrx_sender.specs.Packets.{settings}
use Rattle.vrx_program.specs.Counting.{IsCounting, IsFew}
use Rattle.vrx_program.specs.HonestDrill.{HonestDrill}
use Rattle.vrx_program.specs.DrillText.{DrillEnds, IsDrill, nothing, plus, summary_of, tally}
use Rattle.vrx_io.specs.Faults.{Rose}
use Rattle.vrx_program.specs.Counts.{IsCounted}
use Rattle.vrx_program.specs.Words.{IsWord}
use Rattle.vrx_program.specs.declared.status.Status.{Status}
use Rattle.vrx_program.specs.declared.status.Status.TheVariants as statuses
use Rattle.vrx_program.specs.declared.summary.Summary.{Summary}
use Rattle.vrx_program.specs.declared.word.Word.{Word}

-- ---- counts

same : (a b c d e f g h i j k l m n : ℕ) → a ≡ h → b ≡ i → c ≡ j → d ≡ k → e ≡ l → f ≡ m → g ≡ n →
    (let s : Summary = record { datagrams = a; taken = b; repaired = c; nacks = d; plis = e; frames = f; octets = g } in s)
    ≡ record { datagrams = h; taken = i; repaired = j; nacks = k; plis = l; frames = m; octets = n }
same a b c d e f g h i j k l m n ah bi cj dk el fm gn =
    ap (λ (x : ℕ). let s : Summary = record { datagrams = x; taken = b; repaired = c; nacks = d; plis = e; frames = f; octets = g } in s) ah
    ∙ ap (λ (x : ℕ). let s : Summary = record { datagrams = h; taken = x; repaired = c; nacks = d; plis = e; frames = f; octets = g } in s) bi
    ∙ ap (λ (x : ℕ). let s : Summary = record { datagrams = h; taken = i; repaired = x; nacks = d; plis = e; frames = f; octets = g } in s) cj
    ∙ ap (λ (x : ℕ). let s : Summary = record { datagrams = h; taken = i; repaired = j; nacks = x; plis = e; frames = f; octets = g } in s) dk
    ∙ ap (λ (x : ℕ). let s : Summary = record { datagrams = h; taken = i; repaired = j; nacks = k; plis = x; frames = f; octets = g } in s) el
    ∙ ap (λ (x : ℕ). let s : Summary = record { datagrams = h; taken = i; repaired = j; nacks = k; plis = l; frames = x; octets = g } in s) fm
    ∙ ap (λ (x : ℕ). let s : Summary = record { datagrams = h; taken = i; repaired = j; nacks = k; plis = l; frames = m; octets = x } in s) gn

plus-assoc : (a b c : Summary) → plus (plus a b) c ≡ plus a (plus b c)
plus-assoc a b c = same _ _ _ _ _ _ _ _ _ _ _ _ _ _ (add a.datagrams b.datagrams c.datagrams) (add a.taken b.taken c.taken)
    (add a.repaired b.repaired c.repaired) (add a.nacks b.nacks c.nacks) (add a.plis b.plis c.plis)
    (add a.frames b.frames c.frames) (add a.octets b.octets c.octets)
  where
    add : (x y z : ℕ) → x + y + z ≡ x + (y + z)
    add x y z = omega arith

plus-before : (s : Summary) → plus nothing s ≡ s
plus-before s = same _ _ _ _ _ _ _ _ _ _ _ _ _ _ (add s.datagrams) (add s.taken) (add s.repaired) (add s.nacks) (add s.plis)
    (add s.frames) (add s.octets)
  where
    add : (x : ℕ) → 0 + x ≡ x
    add x = omega arith

plus-after : (s : Summary) → plus s nothing ≡ s
plus-after s = same _ _ _ _ _ _ _ _ _ _ _ _ _ _ (add s.datagrams) (add s.taken) (add s.repaired) (add s.nacks) (add s.plis)
    (add s.frames) (add s.octets)
  where
    add : (x : ℕ) → x + 0 ≡ x
    add x = omega arith

pub few-more : (n m : ℕ) (s : Summary) → n ≤ m → IsFew n s → IsFew m s
few-more n m s le few = record {
  datagrams = omega (arith, few.datagrams, le);
  taken = omega (arith, few.taken, le);
  repaired = omega (arith, few.repaired, le);
  nacks = omega (arith, few.nacks, le);
  plis = omega (arith, few.plis, le);
  frames = omega (arith, few.frames, le);
  octets = omega (arith, few.octets, le);
}

pub few-plus : (n m : ℕ) (s t : Summary) → m ≡ n + 1 → IsFew n s → IsFew 1 t → IsFew m (plus s t)
few-plus n m s t next few one = record {
  datagrams = omega (arith, next, few.datagrams, one.datagrams);
  taken = omega (arith, next, few.taken, one.taken);
  repaired = omega (arith, next, few.repaired, one.repaired);
  nacks = omega (arith, next, few.nacks, one.nacks);
  plis = omega (arith, next, few.plis, one.plis);
  frames = omega (arith, next, few.frames, one.frames);
  octets = omega (arith, next, few.octets, one.octets);
}

-- ---- a drill under way

pub counting-begins : (engine : EngineParts) (left all : List Event) → StandsFor vp8 engine [] → engine.settings ≡ settings →
    engine.events ≡ 0 → left ≡ all → IsCounting engine nothing left all
counting-begins engine left all stands settings-are none same-events = record {
  history = [];
  stands = stands;
  settings_are = settings-are;
  total = plus-before (summary_of (replies settings vp8 [] left))
      ∙ ap (λ (es : List Event). summary_of (replies settings vp8 [] es)) same-events;
  count = rw same-events (omega (arith, none));
  few = record {
    datagrams = omega arith;
    taken = omega arith;
    repaired = omega arith;
    nacks = omega arith;
    plis = omega arith;
    frames = omega arith;
    octets = omega arith;
  };
}

counted-on : (h : List Event) (e : Event) (es : List Event) (s : Summary) →
    plus (plus s (tally (reply settings vp8 h e))) (summary_of (replies settings vp8 (e ∷ h) es))
    ≡ plus s (summary_of (replies settings vp8 h (e ∷ es)))
unfolding replies summary_of
counted-on h e es s = plus-assoc s (tally (reply settings vp8 h e)) (summary_of (replies settings vp8 (e ∷ h) es))

pub counting-on : (engine after : EngineParts) (s t : Summary) (event : Event) (before left all : List Event)
    (is : IsCounting engine s before all) → before ≡ event ∷ left → StandsFor vp8 after (event ∷ is.history) →
    t ≡ plus s (tally (reply engine.settings vp8 is.history event)) → after.settings ≡ engine.settings →
    after.events ≡ engine.events + 1 → IsFew after.events t → IsCounting after t left all
counting-on engine after s t event before left all is step stands counts settings-are more few = record {
  history = event ∷ is.history;
  stands = stands;
  settings_are = settings-are ∙ is.settings_are;
  total = ap (λ (x : Summary). plus x (summary_of (replies settings vp8 (event ∷ is.history) left)))
      (counts ∙ ap (λ x. plus s (tally (reply x vp8 is.history event))) is.settings_are)
      ∙ counted-on is.history event left s
      ∙ ap (λ (es : List Event). plus s (summary_of (replies settings vp8 is.history es))) (sym step) ∙ is.total;
  count = omega (arith, more, ap length step, is.count);
  few = few;
}

-- all was counted
pub counting-ends : (engine : EngineParts) (s : Summary) (left all : List Event) → IsCounting engine s left all → left ≡ [] →
    s ≡ summary_of (replies settings vp8 [] all)
unfolding replies summary_of
counting-ends engine s left all is none =
    sym (plus-after s) ∙ ap (λ (es : List Event). plus s (summary_of (replies settings vp8 is.history es))) (sym none) ∙ is.total

-- ---- words

-- a number has one decimal text
pub decimal-one : (n m : ℕ) → n < 2 ^ 64 → m < 2 ^ 64 → decimal n ≡ decimal m → n ≡ m
decimal-one n m n-fits m-fits is =
    sym (decimal_is_IsNumeral n n-fits).1 ∙ ap (digits_value 10) is ∙ (decimal_is_IsNumeral m m-fits).1

-- the words of a drill are those of one only
pub drill-one : (seed frames other count : ℕ) (words : List (List ℕ)) → IsDrill seed frames words → IsDrill other count words →
    (seed ≡ other) × (frames ≡ count)
drill-one seed frames other count words is also =
    let both : codes "drill" ∷ decimal seed ∷ decimal frames ∷ [] ≡ codes "drill" ∷ decimal other ∷ decimal count ∷ [] =
    sym is.are ∙ also.are in
    let seeds : decimal seed ≡ decimal other = cc in
    let counts : decimal frames ≡ decimal count = cc in (
      decimal-one seed other is.seed_fits also.seed_fits seeds,
      decimal-one frames count (omega (arith, is.few)) (omega (arith, also.few)) counts,
    )

-- and no word over a capture
pub drill-no-word : (word : Word) (seed frames : ℕ) (words : List (List ℕ)) → IsWord word words → IsDrill seed frames words → ⊥
drill-no-word word seed frames words is drill = absurd (omega (arith, ap length (sym is ∙ drill.are)))

-- ---- what a word isn't

pub not-read : {E : Type 0} (n : ℕ) (r : Result ℕ E) (e : E) → r ≡ Ok n → r ≡ Err e → ⊥
not-read n r e is fails = absurd cc

-- a text that isn't what its number is written as is no decimal text
pub not-written : {E : Type 0} (m n : ℕ) (word written : List ℕ) (r : Result ℕ E) (same : Bool) → word ≡ decimal n →
    written ≡ decimal m → r ≡ Ok n → r ≡ Ok m → same ≡ pointwise nat_eq written word → same ≡ false → ⊥
not-written m n word written r same is format reads is-m compares differs =
    let one : m ≡ n = cc in
    let alike : written ≡ word = format ∙ ap decimal one ∙ sym is in
    false≢true (sym differs ∙ compares ∙ texts_alike written word alike)

pub not-count : (n m : ℕ) (word : List ℕ) (is_count : Bool) → n < 2 ^ 64 → word ≡ decimal n →
    (is_count ≡ true) ↔ ((1 ≤ n) × (n ≤ 10000)) → is_count ≡ false → 1 ≤ m → m ≤ 10000 → word ≡ decimal m → ⊥
not-count n m word is_count fits is counts isnt some few also =
    let one : n ≡ m = decimal-one n m fits (omega (arith, few)) (sym is ∙ also) in
    false≢true (sym isnt ∙ counts.1 (omega (arith, one, some), omega (arith, one, few)))

pub triple : {A : Type 0} (xs : List A) (x y z : A) → 3 ≤ length xs → length xs < 4 → x ≡ get_or xs 0 x → y ≡ get_or xs 1 y →
    z ≡ get_or xs 2 z → xs ≡ x ∷ y ∷ z ∷ []
triple [] x y z least most x-is y-is z-is = absurd (omega (arith, least))
triple (a ∷ []) x y z least most x-is y-is z-is = absurd (omega (arith, least))
triple (a ∷ b ∷ []) x y z least most x-is y-is z-is = absurd (omega (arith, least))
triple (a ∷ b ∷ d ∷ []) x y z least most x-is y-is z-is = cc
triple (a ∷ b ∷ d ∷ e ∷ xs) x y z least most x-is y-is z-is = absurd (omega (arith, most))

pub three-words : (x y z a b d : List ℕ) → x ≡ a → y ≡ b → z ≡ d → x ∷ y ∷ z ∷ [] ≡ a ∷ b ∷ d ∷ []
three-words x y z a b d xa yb zd = cc

-- texts that aren't told apart are the same
pub same-unless : (x y : List ℕ) (differ : Bool) → differ ≡ not (pointwise nat_eq x y) → differ ≡ false → x ≡ y
same-unless x y differ compares is = same_text x y (sym (alike (pointwise nat_eq x y) (sym compares ∙ is)))
  where
    alike : (b : Bool) → not b ≡ false → b ≡ true
    alike true isnt = refl
    alike false isnt = absurd (false≢true (sym isnt))

-- with no fault all is written, unless memory runs out
pub drill-complete : (status : Status) (text : List ℕ) (before after : Option (List ℕ)) (reads writes writes_now : ℕ) →
    DrillEnds status text before after → IsCounted status reads reads writes writes_now → ¬ Rose writes writes_now →
    (status ≡ statuses.Done) ⊎ (status ≡ statuses.NoMemory)
drill-complete statuses.Done text before after reads writes writes_now ends counted none = inl refl
drill-complete statuses.NoMemory text before after reads writes writes_now ends counted none = inr refl
drill-complete statuses.WriteFault text before after reads writes writes_now ends counted none = absurd (none counted.1)
drill-complete statuses.BadUsage text before after reads writes writes_now ends counted none = absurd ends
drill-complete statuses.BadCapture text before after reads writes writes_now ends counted none = absurd ends
drill-complete statuses.ReadFault text before after reads writes writes_now ends counted none = absurd ends

-- ---- a drill is an honest call

pub honest-drill : HonestCallHolds → SenderIsHonest → NetworkIsHonest → (seed frames : ℕ) → frames ≤ MOST_HONEST_FRAMES → HonestDrill seed frames
honest-drill call sender network seed frames few =
    let brought = network seed frames few in record {
      origins = brought.origins;
      sender = sender seed frames;
      network = brought.network;
      honest = call settings vp8 (drill_sender seed frames) (drill_events seed frames) brought.origins refl
          (sender seed frames) brought.network;
    }
