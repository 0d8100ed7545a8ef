-- What a PictureID of 15 bits means beside the newest picture. RFC 7741 4.2: it goes on from 32,767 to 0.
use Rattle.std.specs.Prelude.{◌≡◌, ◌↔◌, ℕ, ◌+◌, ◌-◌, ◌%◌, ◌^◌, ◌<◌, ◌≤◌, nat_lt, if◌then◌else◌, Option, None, Some}
use Rattle.vrx_num.specs.declared.limits.TheConstants.{PICTURES, HALF_PICTURES}

-- The picture that the wire means: equal modulo the space, and from half of it below the newest to just less than
-- half of it above. So a picture just half of the space away is the older one.
pub record IsPictureNear (newest wire picture : ℕ) : Type 0 where
  pub same : picture % PICTURES ≡ wire
  pub not_far_ahead : picture < newest + HALF_PICTURES
  pub not_far_behind : newest ≤ picture + HALF_PICTURES

-- how far the wire lies ahead of the newest picture, modulo the space
abbrev pub picture_ahead : ℕ → ℕ → ℕ
picture_ahead newest wire = (wire + (PICTURES - newest % PICTURES)) % PICTURES

-- Before the first picture, its wire value and the space, so that pictures before it have numbers too. After it,
-- ahead of the newest picture if that is less than half of the space, else behind it by what is left of the space.
abbrev pub extended_picture : Option ℕ → ℕ → ℕ
extended_picture None wire = wire + PICTURES
extended_picture (Some newest) wire =
    let ahead : ℕ = picture_ahead newest wire in
    if nat_lt ahead HALF_PICTURES then newest + ahead else newest - (PICTURES - ahead)

-- a picture that can be the newest: each that is near it can be taken, and none comes near 2 ^ 64
pub record IsNewestPicture (n : ℕ) : Type 0 where
  pub at_least : PICTURES ≤ n
  pub at_most : n ≤ 2 ^ 62

-- a wire value means one picture at most
abbrev pub MeansOnePicture : Type 0
MeansOnePicture = (newest wire n m : ℕ) → IsPictureNear newest wire n → IsPictureNear newest wire m → n ≡ m

-- beside a newest picture, extending a wire value gives just the picture that it means
abbrev pub GivesPicture : Type 0
GivesPicture = (newest wire n : ℕ) → HALF_PICTURES ≤ newest → wire < PICTURES →
    (extended_picture (Some newest) wire ≡ n) ↔ IsPictureNear newest wire n
