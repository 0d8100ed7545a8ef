-- What a content says: what is read of it is spelled so, and what is spelled so is read.
use Rattle.std.proofs.Common.{◌≡◌, ◌≢◌, ℕ, ◌+◌, ◌*◌, ◌^◌, ◌≤◌, List, ◌++◌, length, drop, refl, sym, ap, subst, ◌∙◌, arith, inl, inr}
use Rattle.std.specs.Int.{w32, w64, to_be_bytes}
use Rattle.std.proofs.lemmas.Bool.{cases_eq, ne_eqb}
use Rattle.std.proofs.lemmas.List.{take-append-drop, length-take, length-drop, length-append, take_at}
use Rattle.std.proofs.lemmas.Nat.{from_be_bytes-to_be_bytes_4, from_be_bytes-to_be_bytes_8}
use Rattle.vrx_rtcp.specs.declared.types.TheConstants.{SR, RR, BYE, RTPFB, PSFB, FMT_NACK, FMT_PLI}
use Rattle.vrx_rtcp.specs.Packet.{SenderFields, Message, Sender, Report, Bye, Nack, Pli, Other, IsSenderReport, IsReceiverReport, IsBye, IsFeedback, IsOther, Means}
use Rattle.vrx_rtcp.specs.Fault.{least}
use Rattle.vrx_rtcp.specs.Field.{u32_at, u64_at, message_of}
use Rattle.vrx_rtcp.proofs.NumberLemmas.{Octets, wide32, wide64, drop-number, number-below}

-- ---- what is read is spelled so

sender_is : (count : ℕ) (content : List ℕ) → Octets content → 24 + 24 * count ≤ length content →
    Means count SR content (message_of count SR content)
unfolding message_of
sender_is count content fit room =
    let rest = drop 24 content in
    let ssrc = drop-number w32 (2 ^ 32) wide32 0 content fit (omega arith) in
    let ntp = drop-number w64 (2 ^ 64) wide64 4 content fit (omega arith) in
    let rtp_time = drop-number w32 (2 ^ 32) wide32 12 content fit (omega arith) in
    let packets = drop-number w32 (2 ^ 32) wide32 16 content fit (omega arith) in
    let octets = drop-number w32 (2 ^ 32) wide32 20 content fit (omega arith) in (
      refl,
      record {
        extension = drop (24 * count) rest;
        spelled = ssrc
            ∙ ap (λ (x : List ℕ). to_be_bytes w32 (u32_at content 0) ++ x) (ntp
            ∙ ap (λ (x : List ℕ). to_be_bytes w64 (u64_at content 4) ++ x) (rtp_time
            ∙ ap (λ (x : List ℕ). to_be_bytes w32 (u32_at content 12) ++ x) (packets
            ∙ ap (λ (x : List ℕ). to_be_bytes w32 (u32_at content 16) ++ x) (octets
            ∙ ap (λ (x : List ℕ). to_be_bytes w32 (u32_at content 20) ++ x)
            (sym (take-append-drop (24 * count) rest))))));
        whole_blocks = omega (arith, length-take (24 * count) rest, length-drop 24 content);
        ssrc_fits = number-below w32 (2 ^ 32) wide32 0 content fit;
        ntp_fits = number-below w64 (2 ^ 64) wide64 4 content fit;
        rtp_time_fits = number-below w32 (2 ^ 32) wide32 12 content fit;
        packets_fits = number-below w32 (2 ^ 32) wide32 16 content fit;
        octets_fits = number-below w32 (2 ^ 32) wide32 20 content fit;
      },
    )

report_is : (count : ℕ) (content : List ℕ) → Octets content → 4 + 24 * count ≤ length content →
    Means count RR content (message_of count RR content)
unfolding message_of
report_is count content fit room =
    let rest = drop 4 content in
    let ssrc = drop-number w32 (2 ^ 32) wide32 0 content fit (omega arith) in (
      refl,
      record {
        extension = drop (24 * count) rest;
        spelled = ssrc ∙ ap (λ (x : List ℕ). to_be_bytes w32 (u32_at content 0) ++ x)
            (sym (take-append-drop (24 * count) rest));
        whole_blocks = omega (arith, length-take (24 * count) rest, length-drop 4 content);
        ssrc_fits = number-below w32 (2 ^ 32) wide32 0 content fit;
      },
    )

bye_is : (count : ℕ) (content : List ℕ) → 4 * count ≤ length content →
    Means count BYE content (message_of count BYE content)
unfolding message_of
bye_is count content room = (
  refl,
  record {
    reason = drop (4 * count) content;
    spelled = sym (take-append-drop (4 * count) content);
    whole_sources = omega (arith, length-take (4 * count) content);
  },
)

feedback_is : (content : List ℕ) → Octets content → 8 ≤ length content →
    IsFeedback content (u32_at content 0) (u32_at content 4) (drop 8 content)
feedback_is content fit room =
    let sender = drop-number w32 (2 ^ 32) wide32 0 content fit (omega arith) in
    let media = drop-number w32 (2 ^ 32) wide32 4 content fit (omega arith) in
    record {
      spelled = sender ∙ ap (λ (x : List ℕ). to_be_bytes w32 (u32_at content 0) ++ x) media;
      sender_fits = number-below w32 (2 ^ 32) wide32 0 content fit;
      media_fits = number-below w32 (2 ^ 32) wide32 4 content fit;
    }

nack_is : (count : ℕ) (content : List ℕ) → Octets content → 8 ≤ length content →
    Means count RTPFB content (message_of count RTPFB content)
unfolding message_of
nack_is count content fit room =
    elim (cases_eq count FMT_NACK) [
      | inl one ↦ subst (λ (n : ℕ). Means n RTPFB content (message_of n RTPFB content)) (sym one)
          (refl, refl, feedback_is content fit room)
      | inr other ↦ rw (ne_eqb count FMT_NACK other) (
        refl,
        record {
          no_report = (omega arith, omega arith);
          no_bye = omega arith;
          other_nack = λ _. (other, room);
          other_pli = λ is. absurd (omega (arith, is));
        },
      )
    ]

pli_is : (count : ℕ) (content : List ℕ) → Octets content → 8 ≤ length content →
    Means count PSFB content (message_of count PSFB content)
unfolding message_of
pli_is count content fit room =
    elim (cases_eq count FMT_PLI) [
      | inl one ↦ subst (λ (n : ℕ). Means n PSFB content (message_of n PSFB content)) (sym one)
          (refl, refl, drop 8 content, feedback_is content fit room)
      | inr other ↦ rw (ne_eqb count FMT_PLI other) (
        refl,
        record {
          no_report = (omega arith, omega arith);
          no_bye = omega arith;
          other_nack = λ is. absurd (omega (arith, is));
          other_pli = λ _. (other, room);
        },
      )
    ]

other_is : (count kind : ℕ) (content : List ℕ) → kind ≢ SR → kind ≢ RR → kind ≢ BYE → kind ≢ RTPFB → kind ≢ PSFB →
    Means count kind content (message_of count kind content)
unfolding message_of
other_is count kind content no_sr no_rr not_bye no_rtpfb no_psfb =
    rw (
      ne_eqb kind SR no_sr,
      ne_eqb kind RR no_rr,
      ne_eqb kind BYE not_bye,
      ne_eqb kind RTPFB no_rtpfb,
      ne_eqb kind PSFB no_psfb,
    ) (
      refl,
      record {
        no_report = (no_sr, no_rr);
        no_bye = not_bye;
        other_nack = λ is. absurd (no_rtpfb is);
        other_pli = λ is. absurd (no_psfb is);
      },
    )

-- what is read of a content that is long enough is what it says
pub message_of-means : (count kind : ℕ) (content : List ℕ) → Octets content → least kind count ≤ length content + 4 →
    Means count kind content (message_of count kind content)
message_of-means count kind content fit room =
    let Holds : ℕ → Type 0 =
    λ k. least k count ≤ length content + 4 → Means count k content (message_of count k content) in
    elim (cases_eq kind SR) [
      | inl is ↦ subst Holds (sym is) (λ r. sender_is count content fit (omega arith)) room
      | inr no_sr ↦ elim (cases_eq kind RR) [
        | inl is ↦ subst Holds (sym is) (λ r. report_is count content fit (omega arith)) room
        | inr no_rr ↦ elim (cases_eq kind BYE) [
          | inl is ↦ subst Holds (sym is) (λ r. bye_is count content (omega arith)) room
          | inr not_bye ↦ elim (cases_eq kind RTPFB) [
            | inl is ↦ subst Holds (sym is) (λ r. nack_is count content fit (omega arith)) room
            | inr no_rtpfb ↦ elim (cases_eq kind PSFB) [
              | inl is ↦ subst Holds (sym is) (λ r. pli_is count content fit (omega arith)) room
              | inr no_psfb ↦ other_is count kind content no_sr no_rr not_bye no_rtpfb no_psfb
            ]
          ]
        ]
      ]
    ]

-- ---- what is spelled so is read

-- the content has this message, and is long enough
pub record IsRead (count kind : ℕ) (content : List ℕ) (message : Message) : Type 0 where
  pub read : message_of count kind content ≡ message
  pub room : least kind count ≤ length content + 4

sender_read : (count : ℕ) (content : List ℕ) (s : SenderFields) → IsSenderReport count content s →
    IsRead count SR content (Sender s)
unfolding message_of
sender_read count content s is =
    let parts : List ℕ = to_be_bytes w32 s.ssrc ++ to_be_bytes w64 s.ntp ++ to_be_bytes w32 s.rtp_time
    ++ to_be_bytes w32 s.packets ++ to_be_bytes w32 s.octets ++ s.blocks ++ is.extension in
    let made : IsRead count SR parts (Sender s) = record {
      read = rw (
        from_be_bytes-to_be_bytes_4 s.ssrc is.ssrc_fits,
        from_be_bytes-to_be_bytes_8 s.ntp is.ntp_fits,
        from_be_bytes-to_be_bytes_4 s.rtp_time is.rtp_time_fits,
        from_be_bytes-to_be_bytes_4 s.packets is.packets_fits,
        from_be_bytes-to_be_bytes_4 s.octets is.octets_fits,
        take_at s.blocks is.extension (24 * count) is.whole_blocks,
      ) refl;
      room = omega (arith, length-append s.blocks is.extension, is.whole_blocks);
    } in
    subst (λ (x : List ℕ). IsRead count SR x (Sender s)) (sym is.spelled) made

report_read : (count : ℕ) (content : List ℕ) (ssrc : ℕ) (blocks : List ℕ) →
    IsReceiverReport count content ssrc blocks → IsRead count RR content (Report ssrc blocks)
unfolding message_of
report_read count content ssrc blocks is =
    let parts : List ℕ = to_be_bytes w32 ssrc ++ blocks ++ is.extension in
    let made : IsRead count RR parts (Report ssrc blocks) = record {
      read = rw (
        from_be_bytes-to_be_bytes_4 ssrc is.ssrc_fits,
        take_at blocks is.extension (24 * count) is.whole_blocks,
      ) refl;
      room = omega (arith, length-append blocks is.extension, is.whole_blocks);
    } in
    subst (λ (x : List ℕ). IsRead count RR x (Report ssrc blocks)) (sym is.spelled) made

bye_read : (count : ℕ) (content sources : List ℕ) → IsBye count content sources →
    IsRead count BYE content (Bye sources)
unfolding message_of
bye_read count content sources is =
    let made : IsRead count BYE (sources ++ is.reason) (Bye sources) = record {
      read = ap Bye (take_at sources is.reason (4 * count) is.whole_sources);
      room = omega (arith, length-append sources is.reason, is.whole_sources);
    } in
    subst (λ (x : List ℕ). IsRead count BYE x (Bye sources)) (sym is.spelled) made

nack_read : (content : List ℕ) (sender media : ℕ) (items : List ℕ) → IsFeedback content sender media items →
    IsRead FMT_NACK RTPFB content (Nack sender media items)
unfolding message_of
nack_read content sender media items is =
    let parts : List ℕ = to_be_bytes w32 sender ++ to_be_bytes w32 media ++ items in
    let made : IsRead FMT_NACK RTPFB parts (Nack sender media items) = record {
      read = rw (from_be_bytes-to_be_bytes_4 sender is.sender_fits, from_be_bytes-to_be_bytes_4 media is.media_fits)
          refl;
      room = omega arith;
    } in
    subst (λ (x : List ℕ). IsRead FMT_NACK RTPFB x (Nack sender media items)) (sym is.spelled) made

pli_read : (content : List ℕ) (sender media : ℕ) (control : List ℕ) → IsFeedback content sender media control →
    IsRead FMT_PLI PSFB content (Pli sender media)
unfolding message_of
pli_read content sender media control is =
    let parts : List ℕ = to_be_bytes w32 sender ++ to_be_bytes w32 media ++ control in
    let made : IsRead FMT_PLI PSFB parts (Pli sender media) = record {
      read = rw (from_be_bytes-to_be_bytes_4 sender is.sender_fits, from_be_bytes-to_be_bytes_4 media is.media_fits)
          refl;
      room = omega arith;
    } in
    subst (λ (x : List ℕ). IsRead FMT_PLI PSFB x (Pli sender media)) (sym is.spelled) made

other_read : (count kind : ℕ) (content : List ℕ) → IsOther count kind content → IsRead count kind content (Other kind)
unfolding message_of
other_read count kind content is =
    elim (cases_eq kind RTPFB) [
      | inl is_rtpfb ↦
          let form = is.other_nack is_rtpfb in
          subst (λ (k : ℕ). IsRead count k content (Other k)) (sym is_rtpfb)
          (record { read = rw (ne_eqb count FMT_NACK form.0) refl; room = omega (arith, form.1) })
      | inr no_rtpfb ↦ elim (cases_eq kind PSFB) [
        | inl is_psfb ↦
            let form = is.other_pli is_psfb in
            subst (λ (k : ℕ). IsRead count k content (Other k)) (sym is_psfb)
            (record { read = rw (ne_eqb count FMT_PLI form.0) refl; room = omega (arith, form.1) })
        | inr no_psfb ↦ record {
          read = rw (
            ne_eqb kind SR is.no_report.0,
            ne_eqb kind RR is.no_report.1,
            ne_eqb kind BYE is.no_bye,
            ne_eqb kind RTPFB no_rtpfb,
            ne_eqb kind PSFB no_psfb,
          ) refl;
          room = rw (
            ne_eqb kind SR is.no_report.0,
            ne_eqb kind RR is.no_report.1,
            ne_eqb kind BYE is.no_bye,
            ne_eqb kind RTPFB no_rtpfb,
            ne_eqb kind PSFB no_psfb,
          ) (omega arith);
        }
      ]
    ]

-- what a content says is read of it, and it is long enough
pub message_of-read : (count kind : ℕ) (content : List ℕ) (message : Message) → Means count kind content message →
    IsRead count kind content message
message_of-read count kind content (Sender s) is =
    subst (λ (k : ℕ). IsRead count k content (Sender s)) (sym is.0) (sender_read count content s is.1)
message_of-read count kind content (Report ssrc blocks) is =
    subst (λ (k : ℕ). IsRead count k content (Report ssrc blocks)) (sym is.0)
    (report_read count content ssrc blocks is.1)
message_of-read count kind content (Bye sources) is =
    subst (λ (k : ℕ). IsRead count k content (Bye sources)) (sym is.0) (bye_read count content sources is.1)
message_of-read count kind content (Nack sender media items) is =
    subst (λ (n : ℕ). IsRead n kind content (Nack sender media items)) (sym is.1)
    (subst (λ (k : ℕ). IsRead FMT_NACK k content (Nack sender media items)) (sym is.0)
    (nack_read content sender media items is.2))
message_of-read count kind content (Pli sender media) is =
    subst (λ (n : ℕ). IsRead n kind content (Pli sender media)) (sym is.1)
    (subst (λ (k : ℕ). IsRead FMT_PLI k content (Pli sender media)) (sym is.0)
    (pli_read content sender media is.2 is.3))
message_of-read count kind content (Other other) is =
    subst (λ (k : ℕ). IsRead count kind content (Other k)) is.0 (other_read count kind content is.1)
