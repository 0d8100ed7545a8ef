-- The payload descriptor on rows worked by hand.
use Rattle.std.specs.Prelude.{◌≡◌, true, false, [], ◌∷◌, refl, Some, None, Ok, Err}
use Rattle.vrx_codec.specs.declared.part.Start.TheVariants.{Yes}
use Rattle.vrx_vp8.specs.declared.faults.TheConstants.{SHORT, NO_BODY}
use Rattle.vrx_vp8.specs.Descriptor.{read_part}

-- 80: the descriptor runs past the end
pub descriptor_cut : read_part (128 ∷ []) ≡ Err (record { code = SHORT; at = 1 })
descriptor_cut = refl

-- 10: no body follows the descriptor
pub body_missing : read_part (16 ∷ []) ≡ Err (record { code = NO_BODY; at = 1 })
body_missing = refl

-- 90e08001050000aa: the start of a keyframe, with layers
pub part_with_layers : read_part (144 ∷ 224 ∷ 128 ∷ 1 ∷ 5 ∷ 0 ∷ 0 ∷ 170 ∷ [])
    ≡ Ok (record {
      start = Yes;
      key = true;
      layers = Some (record { picture = 1; tl0 = 5; tid = 0; sync = false });
      body = 0 ∷ 170 ∷ [];
    })
part_with_layers = refl

-- 1000aa: the start of a keyframe, without layers
pub part_alone : read_part (16 ∷ 0 ∷ 170 ∷ []) ≡ Ok
    (record { start = Yes; key = true; layers = None; body = 0 ∷ 170 ∷ [] })
part_alone = refl
