-- Lemmas on the fields of a settings line: what is read of a field is what is written, and the other way round.
use Rattle.std.proofs.Common.{◌≡◌, ℕ, ◌==◌, ◌&&◌, Bool, true, false, if◌then◌else◌, List, [], ◌∷◌, ◌++◌, length, take, drop, Option, Some, None, refl, sym, ap, subst, ◌∙◌, ◌⊎◌, inl, inr, append_assoc, arith}
use Rattle.std.specs.Prelude.{is_none}
use Rattle.std.specs.List.{position_or_len, list_any}
use Rattle.std.specs.Option.{option_map, unwrap_or, IfSome}
use Rattle.std.proofs.lemmas.Bool.{and_parts, eqb-true}
use Rattle.std.proofs.lemmas.List.{drop_at, take_at, take-append-drop}
use Rattle.vrx_capture.specs.Words.{after_prefix, until_space, from_space}
use Rattle.vrx_num.specs.OptionChain.{◌>>=◌}
use Rattle.vrx_capture.specs.SettingsLine.{field, group_if}

-- what a value after a step shows
pub bind_some : {A B : Type 0} (o : Option A) (f : A → Option B) (y : B) → (o >>= f) ≡ Some y →
    (x : A) × (o ≡ Some x) × (f x ≡ Some y)
bind_some None f y h = cc h
bind_some (Some x) f y h = (x, refl, h)

pub same_value : {A : Type 0} (x y : A) → Some x ≡ Some y → x ≡ y
same_value x y h = ap (λ o. unwrap_or o x) h

-- ---- what stands after a prefix

behind_chosen : (same : Bool) (o : Option (List ℕ)) (rest : List ℕ) → (if same then o else None) ≡ Some rest →
    (same ≡ true) × (o ≡ Some rest)
behind_chosen true o rest h = (refl, h)
behind_chosen false o rest h = cc h

pub after_prefix-read : (p text rest : List ℕ) → after_prefix p text ≡ Some rest → text ≡ p ++ rest
unfolding after_prefix
after_prefix-read [] text rest h = grind arith
after_prefix-read (c ∷ p) [] rest h = cc h
after_prefix-read (c ∷ p) (o ∷ text) rest h =
    let test = behind_chosen (o == c) (after_prefix p text) rest h in
    let same : o ≡ c = eqb-true o c test.0 in
    let more : text ≡ p ++ rest = after_prefix-read p text rest test.1 in
    rw (same, more) refl

pub after_prefix-write : (p rest : List ℕ) → after_prefix p (p ++ rest) ≡ Some rest
unfolding after_prefix
after_prefix-write [] rest = refl
after_prefix-write (c ∷ p) rest = let same : (c == c) ≡ true = grind arith in rw same (after_prefix-write p rest)

-- ---- words

-- nothing, or a text that begins with a space
abbrev pub is_apart : List ℕ → Bool
is_apart [] = true
is_apart (octet ∷ octets) = octet == 32

place-write : (w rest : List ℕ) → list_any (λ o. o == 32) w ≡ false → is_apart rest ≡ true →
    position_or_len (λ octet. octet == 32) (w ++ rest) ≡ length w
place-write [] [] plain apart = refl
place-write [] (o ∷ rest) plain apart = let space : (o == 32) ≡ true = apart in rw space refl
place-write (o ∷ w) rest plain apart =
    let more : position_or_len (λ octet. octet == 32) (w ++ rest) ≡ length w =
    place-write w rest (grind arith) apart in
    let no_space : (o == 32) ≡ false = grind arith in
    rw (no_space, more) (omega arith)

-- what holds no space, with nothing or a space after it, is the word
until_space-write : (w rest : List ℕ) → list_any (λ o. o == 32) w ≡ false → is_apart rest ≡ true →
    (until_space (w ++ rest) ≡ w) × (from_space (w ++ rest) ≡ rest)
unfolding until_space from_space
until_space-write w rest plain apart =
    let place : position_or_len (λ octet. octet == 32) (w ++ rest) ≡ length w = place-write w rest plain apart in (
      ap (λ (n : ℕ). take n (w ++ rest)) place
          ∙ take_at w rest (length w) refl,
      ap (λ (n : ℕ). drop n (w ++ rest)) place ∙ drop_at w rest (length w) refl,
    )

-- a text is its word, and what stands from the first space on
until_space-read : (text : List ℕ) → text ≡ until_space text ++ from_space text
unfolding until_space from_space
until_space-read text = sym (take-append-drop (position_or_len (λ octet. octet == 32) text) text)

-- ---- values, and texts that report values

-- a value is read of a word exactly if the word is its text, and it is within its bounds; its text has no space
pub record Spells {A : Type 0} (value_in : List ℕ → Option A) (text_of : A → List ℕ)
    (Fits : A → Type 0) : Type 0 where
  pub back : (w : List ℕ) (value : A) → value_in w ≡ Some value → (w ≡ text_of value) × Fits value
  pub forth : (value : A) → Fits value → value_in (text_of value) ≡ Some value
  pub plain : (value : A) → Fits value → list_any (λ o. o == 32) (text_of value) ≡ false

-- a value is read at the front of a text if its own text stands there, and what stands after it passes a test
pub record Reads {A : Type 0} (read : List ℕ → Option (A × List ℕ)) (text_of : A → List ℕ) (Fits : A → Type 0)
    (ends : List ℕ → Bool) : Type 0 where
  pub back : (text : List ℕ) (told : A × List ℕ) → read text ≡ Some told →
      (text ≡ text_of told.0 ++ told.1) × Fits told.0
  pub forth : (value : A) (rest : List ℕ) → Fits value → ends rest ≡ true →
      read (text_of value ++ rest) ≡ Some (value, rest)

field_back : {A : Type 0} (name : List ℕ) (value_in : List ℕ → Option A) (text_of : A → List ℕ) (Fits : A → Type 0)
    (spells : Spells value_in text_of Fits) (text : List ℕ) (told : A × List ℕ) →
    field name value_in text ≡ Some told → (text ≡ (name ++ text_of told.0) ++ told.1) × Fits told.0
unfolding field
field_back name value_in text_of Fits spells text told h =
    let rest = bind_some (after_prefix name text) _ told h in
    let value = bind_some (value_in (until_space rest.0)) _ told rest.2 in
    let same : (value.0, from_space rest.0) ≡ told = same_value (value.0, from_space rest.0) told value.2 in
    let is = spells.back (until_space rest.0) value.0 value.1 in
    let front : text ≡ name ++ rest.0 = after_prefix-read name text rest.0 rest.1 in
    let parts : rest.0 ≡ text_of value.0 ++ from_space rest.0 =
    until_space-read rest.0 ∙ ap (λ (w : List ℕ). w ++ from_space rest.0) is.0 in
    let whole : text ≡ (name ++ text_of value.0) ++ from_space rest.0 = front
    ∙ ap (λ (octets : List ℕ). name ++ octets) parts
    ∙ sym (append_assoc name (text_of value.0) (from_space rest.0)) in
    subst (λ t. (text ≡ (name ++ text_of t.0) ++ t.1) × Fits t.0) same (whole, is.1)

field_forth : {A : Type 0} (name : List ℕ) (value_in : List ℕ → Option A) (text_of : A → List ℕ) (Fits : A → Type 0)
    (spells : Spells value_in text_of Fits) (value : A) (rest : List ℕ) → Fits value → is_apart rest ≡ true →
    field name value_in ((name ++ text_of value) ++ rest) ≡ Some (value, rest)
unfolding field
field_forth name value_in text_of Fits spells value rest fits apart =
    let parts = until_space-write (text_of value) rest (spells.plain value fits) apart in
    rw (
      append_assoc name (text_of value) rest,
      after_prefix-write name (text_of value ++ rest),
      parts.0,
      spells.forth value fits,
      parts.1,
    ) refl

-- a field reads, if a word of its value is read
pub field_reads : {A : Type 0} (name : List ℕ) (value_in : List ℕ → Option A) (text_of : A → List ℕ)
    (Fits : A → Type 0) → Spells value_in text_of Fits →
    Reads (field name value_in) (λ value. name ++ text_of value) Fits is_apart
field_reads name value_in text_of Fits spells =
    record {
      back = field_back name value_in text_of Fits spells;
      forth = field_forth name value_in text_of Fits spells;
    }

-- ---- what may be absent

-- nothing that would be read as the part follows
abbrev pub ends_if : List ℕ → (List ℕ → Bool) → List ℕ → Bool
ends_if name ends rest = ends rest && is_none (after_prefix name rest)

absent_chosen : {A : Type 0} (absent : Bool) (text : List ℕ) (found : Option (A × List ℕ))
    (told : Option A × List ℕ) →
    (if absent then Some (None, text) else option_map (λ x. (Some x.0, x.1)) found) ≡ Some told →
    ((None, text) ≡ told) ⊎ ((x : A × List ℕ) × (found ≡ Some x) × ((Some x.0, x.1) ≡ told))
absent_chosen true text found told h = inl (same_value _ told h)
absent_chosen false text None told h = cc h
absent_chosen false text (Some x) told h = inr (x, refl, same_value _ told h)

-- a text that begins with a name has something after it
named : (name more rest : List ℕ) → is_none (after_prefix name ((name ++ more) ++ rest)) ≡ false
named name more rest = rw (append_assoc name more rest, after_prefix-write name (more ++ rest)) refl

part_back : {A : Type 0} (name : List ℕ) (read : List ℕ → Option (A × List ℕ)) (texts : Option A → List ℕ)
    (Fits : A → Type 0) (ends : List ℕ → Bool) → texts None ≡ [] →
    Reads read (λ value. texts (Some value)) Fits ends → (text : List ℕ) (told : Option A × List ℕ) →
    group_if name read text ≡ Some told → (text ≡ texts told.0 ++ told.1) × IfSome told.0 Fits
unfolding group_if
part_back {A = A} name read texts Fits ends none reads text told h =
    elim (absent_chosen (is_none (after_prefix name text)) text (read text) told h) [
      | inl absent ↦ subst (λ (t : Option A × List ℕ). (text ≡ texts t.0 ++ t.1) × IfSome t.0 Fits) absent
          (ap (λ (octets : List ℕ). octets ++ text) (sym none), tt)
      | inr found ↦ subst (λ (t : Option A × List ℕ). (text ≡ texts t.0 ++ t.1) × IfSome t.0 Fits) found.2
          (reads.back text found.0 found.1)
    ]

part_forth : {A : Type 0} (name : List ℕ) (read : List ℕ → Option (A × List ℕ)) (texts : Option A → List ℕ)
    (Fits : A → Type 0) (ends : List ℕ → Bool) → texts None ≡ [] →
    ((value : A) → (more : List ℕ) × (texts (Some value) ≡ name ++ more)) →
    Reads read (λ value. texts (Some value)) Fits ends → (value : Option A) (rest : List ℕ) → IfSome value Fits →
    ends_if name ends rest ≡ true → group_if name read (texts value ++ rest) ≡ Some (value, rest)
unfolding group_if
part_forth name read texts Fits ends none begins reads None rest fits apart =
    let parts = and_parts (ends rest) (is_none (after_prefix name rest)) apart in
    rw (none, parts.1) refl
part_forth name read texts Fits ends none begins reads (Some value) rest fits apart =
    let parts = and_parts (ends rest) (is_none (after_prefix name rest)) apart in
    let found : is_none (after_prefix name (texts (Some value) ++ rest)) ≡ false =
    rw (begins value).1 (named name (begins value).0 rest) in
    rw (found, reads.forth value rest fits parts.0) refl

-- a part that may be absent reads, if the part reads, its text begins with its name, and no text stands for none
pub part_reads : {A : Type 0} (name : List ℕ) (read : List ℕ → Option (A × List ℕ)) (texts : Option A → List ℕ)
    (Fits : A → Type 0) (ends : List ℕ → Bool) → texts None ≡ [] →
    ((value : A) → (more : List ℕ) × (texts (Some value) ≡ name ++ more)) →
    Reads read (λ value. texts (Some value)) Fits ends →
    Reads (group_if name read) texts (λ value. IfSome value Fits) (ends_if name ends)
part_reads name read texts Fits ends none begins reads = record {
  back = part_back name read texts Fits ends none reads;
  forth = part_forth name read texts Fits ends none begins reads;
}
