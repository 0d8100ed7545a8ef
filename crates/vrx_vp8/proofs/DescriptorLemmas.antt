-- The fields of a payload are read exactly if its octets spell them.
use Rattle.std.proofs.Common.{◌≡◌, ℕ, ◌||◌, ◌&&◌, if◌then◌else◌, Bool, true, false, List, [], ◌∷◌, ◌++◌, length, Option, None, Some, Err, refl, ap, sym, ◌∙◌, subst}
use Rattle.std.specs.Prelude.{◌↔◌, ◌%◌, ◌==◌, IsSome, Ok}
use Rattle.std.specs.Result.{result_ok}
use Rattle.std.proofs.lemmas.Bool.{true≢false, eqb-true, eq-eqb}
use Rattle.std.proofs.lemmas.Option.{none-some, same_Some}
use Rattle.vrx_codec.specs.Part.{Part}
use Rattle.vrx_codec.specs.declared.part.Start.{Start}
use Rattle.vrx_codec.specs.declared.part.Start.TheVariants.{Yes, No}
use Rattle.vrx_codec.specs.declared.part.Layers.{Layers}
use Rattle.vrx_codec.specs.Octet.{bit}
use Rattle.vrx_vp8.specs.declared.bits.TheConstants.{BIT_X, BIT_I, BIT_L, BIT_T, BIT_K, BIT_M}
use Rattle.vrx_vp8.specs.declared.faults.TheConstants.{NO_BODY}
use Rattle.vrx_vp8.specs.Descriptor.{octet_if, Fields, fields, part_with, part_of, read_part}
use Rattle.vrx_num.specs.OptionChain.{◌>>=◌}
use Rattle.vrx_vp8.specs.IsDescriptor.{Comes, octet_of, IsDescriptor, SaysLayers, SaysKey}

-- what comes is taken
octet_if-comes : (flag : Bool) (octets rest : List ℕ) → Comes flag octets →
    octet_if flag (octets ++ rest) ≡ Some (octet_of octets, rest)
octet_if-comes true octets rest comes = rw comes.1 refl
octet_if-comes false octets rest comes = rw comes refl

-- what was taken came, and the rest goes on
record Next (flag : Bool) (rest : List ℕ) (f : ℕ × List ℕ → Option Fields) (y : Fields) : Type 0 where
  octets : List ℕ
  behind : List ℕ
  comes : Comes flag octets
  whole : rest ≡ octets ++ behind
  goes_on : f (octet_of octets, behind) ≡ Some y

next_of : (flag : Bool) (rest : List ℕ) (f : ℕ × List ℕ → Option Fields) (y : Fields) →
    (octet_if flag rest >>= f) ≡ Some y → Next flag rest f y
next_of false rest f y is = record { octets = []; behind = rest; comes = refl; whole = refl; goes_on = is }
next_of true [] f y is = absurd (none-some y is)
next_of true (octet ∷ rest) f y is =
    record { octets = octet ∷ []; behind = rest; comes = (octet, refl); whole = refl; goes_on = is }

-- what is read is spelled
pub fields_spelled : (payload : List ℕ) (f : Fields) → fields payload ≡ Some f → IsDescriptor payload f
fields_spelled [] f is = absurd (none-some f is)
fields_spelled (head ∷ rest) f is =
    let flags = next_of (bit BIT_X head) rest _ f is in
    let picture = next_of (bit BIT_I (octet_of flags.octets)) flags.behind _ f flags.goes_on in
    let low = next_of (bit BIT_M (octet_of picture.octets)) picture.behind _ f picture.goes_on in
    let tl0 = next_of (bit BIT_L (octet_of flags.octets)) low.behind _ f low.goes_on in
    let tid =
    next_of (bit BIT_T (octet_of flags.octets) || bit BIT_K (octet_of flags.octets)) tl0.behind _ f tl0.goes_on in
    let same = same_Some _ f tid.goes_on in
    record {
      head = head;
      flags = flags.octets;
      picture = picture.octets;
      low = low.octets;
      tl0 = tl0.octets;
      tid = tid.octets;
      spelled = ap (λ (os : List ℕ). head ∷ os)
          (flags.whole ∙ ap (λ (os : List ℕ). flags.octets ++ os)
          (picture.whole ∙ ap (λ (os : List ℕ). picture.octets ++ os)
          (low.whole ∙ ap (λ (os : List ℕ). low.octets ++ os)
          (tl0.whole ∙ ap (λ (os : List ℕ). tl0.octets ++ os)
          (tid.whole ∙ ap (λ (g : Fields). tid.octets ++ g.body) same)))));
      x = flags.comes;
      i = picture.comes;
      m = low.comes;
      l = tl0.comes;
      t_or_k = tid.comes;
      start = ap (λ (g : Fields). g.start) (sym same);
      layers = ap (λ (g : Fields). g.layers) (sym same);
    }

-- the same fields, one by one
same_fields : (f : Fields) (start : Bool) (layers : Option Layers) → f.start ≡ start → f.layers ≡ layers →
    (let g : Fields = record { start = start; layers = layers; body = f.body } in g) ≡ f
same_fields f start layers is_start is_layers = rw (sym is_start) (rw (sym is_layers) refl)

-- what comes next, of a value that is there
bind-some : {A B : Type 0} (o : Option A) (x : A) (f : A → Option B) → o ≡ Some x → (o >>= f) ≡ f x
bind-some o x f is = ap (λ q. q >>= f) is

-- what is spelled is read
pub fields-spelled : (payload : List ℕ) (f : Fields) → IsDescriptor payload f → fields payload ≡ Some f
fields-spelled payload f is =
    ap fields is.spelled
    ∙ bind-some _ _ _ (octet_if-comes (bit BIT_X is.head) is.flags _ is.x)
    ∙ bind-some _ _ _ (octet_if-comes (bit BIT_I (octet_of is.flags)) is.picture _ is.i)
    ∙ bind-some _ _ _ (octet_if-comes (bit BIT_M (octet_of is.picture)) is.low _ is.m)
    ∙ bind-some _ _ _ (octet_if-comes (bit BIT_L (octet_of is.flags)) is.tl0 _ is.l)
    ∙ bind-some _ _ _ (octet_if-comes
    (bit BIT_T (octet_of is.flags) || bit BIT_K (octet_of is.flags)) is.tid f.body is.t_or_k)
    ∙ ap Some (same_fields f _ _ is.start is.layers)

-- if octets spell no fields, they are cut
pub cut : (payload : List ℕ) (o : Option Fields) → fields payload ≡ o → ((f : Fields) → IsDescriptor payload f → ⊥) →
    read_part payload ≡ part_of (length payload) None
cut payload None is none = ap (part_of (length payload)) is
cut payload (Some f) is none = absurd (none f (fields_spelled payload f is))

-- if a bit of the octet that came is 1, one came
came : (flag : Bool) (value : ℕ) (octets : List ℕ) → Comes flag octets → bit value 0 ≡ false →
    bit value (octet_of octets) ≡ true → flag ≡ true
came true value octets comes none is = refl
came false value octets comes none is = sym none ∙ ap (λ os. bit value (octet_of os)) (sym comes) ∙ is

-- three bits are 1
pub record All3 (a b c : Bool) : Type 0 where
  pub a_is : a ≡ true
  pub b_is : b ≡ true
  pub c_is : c ≡ true

-- there is a value exactly if three bits are 1
some_if : {A : Type 0} (a b c : Bool) (x : A) → IsSome (if a && b && c then Some x else None) → All3 a b c
some_if true true true x is = record { a_is = refl; b_is = refl; c_is = refl }
some_if true true false x is = absurd (true≢false (sym is))
some_if true false c x is = absurd (true≢false (sym is))
some_if false b c x is = absurd (true≢false (sym is))

if_some : {A : Type 0} (a b c : Bool) (x : A) → a ≡ true → b ≡ true → c ≡ true →
    IsSome (if a && b && c then Some x else None)
if_some a b c x is_a is_b is_c = rw is_a (rw is_b (rw is_c refl))

-- there are layers exactly if the octets say so
pub layers-said : (payload : List ℕ) (f : Fields) (d : IsDescriptor payload f) → IsSome f.layers →
    SaysLayers payload f d
layers-said payload f d some =
    let three = some_if (bit BIT_M (octet_of d.picture)) (bit BIT_L (octet_of d.flags))
    (bit BIT_T (octet_of d.flags)) _ (subst IsSome d.layers some) in
    record {
      x = came (bit BIT_X d.head) BIT_L d.flags d.x refl three.b_is;
      i = came (bit BIT_I (octet_of d.flags)) BIT_M d.picture d.i refl three.a_is;
      l = three.b_is;
      t = three.c_is;
      m = three.a_is;
    }

pub said-layers : (payload : List ℕ) (f : Fields) (d : IsDescriptor payload f) → SaysLayers payload f d →
    IsSome f.layers
said-layers payload f d says =
    subst IsSome (sym d.layers)
    (if_some (bit BIT_M (octet_of d.picture)) (bit BIT_L (octet_of d.flags))
    (bit BIT_T (octet_of d.flags)) _ says.m says.l says.t)

-- nothing follows the descriptor
pub bare : (payload : List ℕ) (f : Fields) → IsDescriptor payload f → f.body ≡ [] →
    read_part payload ≡ Err (record { code = NO_BODY; at = length payload })
bare payload f is empty =
    ap (part_of (length payload)) (fields-spelled payload f is) ∙ ap (part_with (length payload) f) empty

-- a start whose body begins with an even octet, as a test and as the types of the code
both_tests : (start : Bool) (octet : ℕ) →
    ((start && (octet % 2 == 0)) ≡ true) ↔ (◌≡◌ {A = Start} (if start then Yes else No) Yes × (octet % 2 ≡ 0))
both_tests true octet = (λ h. (refl, eqb-true (octet % 2) 0 h), λ h. eq-eqb (octet % 2) 0 h.1)
both_tests false octet = (λ h. absurd (true≢false (sym h)), λ h. absurd (cc))

-- a part says a keyframe exactly if it is such a start
keyed-with : (len : ℕ) (f : Fields) (body : List ℕ) (part : Part) → part_with len f body ≡ Ok part →
    (part.key ≡ true) ↔ SaysKey part
keyed-with len f [] part is = absurd (none-some part (ap result_ok is))
keyed-with len f (octet ∷ rest) part is =
    subst (λ (p : Part). (p.key ≡ true) ↔ SaysKey p) (same_Some _ part (ap result_ok is)) (both_tests f.start octet)

keyed-of : (len : ℕ) (f : Option Fields) (part : Part) → part_of len f ≡ Ok part → (part.key ≡ true) ↔ SaysKey part
keyed-of len None part is = absurd (none-some part (ap result_ok is))
keyed-of len (Some f) part is = keyed-with len f f.body part is

pub keyed : (payload : List ℕ) (part : Part) → read_part payload ≡ Ok part → (part.key ≡ true) ↔ SaysKey part
keyed payload part is = keyed-of (length payload) (fields payload) part is
