-- The bytes of an image, and the image of bytes.
use Rattle.checkpoint.proofs.Common.{◌≡◌, ℕ, ◌==◌, ◌&&◌, Bool, true, false, cond, List, [], ◌∷◌, ◌++◌, Option, Some, None, Result, Ok, Err, refl, sym, ap}
use Rattle.checkpoint.proofs.Common.{subst, ◌∙◌, codes, IfOk, IfErr, eqb-true, append-nil, DecodeFault, BadImage, field_bytes, AreFields, ◌>>=◌, ReadBytes}
use Rattle.checkpoint.{proofs.Common.{fields_at, if_no_byte_left, TellsDecodeFault}, specs.{declared.image.Image.{Image}, Bytes.{image_bytes, IsImage}}}
use Rattle.checkpoint.{specs.Reading.{behind_header, decoded}, proofs.{Exact.{AreOctets, behind, bind_some, some_is}, Structs.{fields_exact}}}
use Rattle.std.proofs.lemmas.Bool.{and_parts}

if_some : {A : Type 0} (b : Bool) (x y : A) → cond b (Some x) None ≡ Some y → (b ≡ true) × (x ≡ y)
if_some true x y e = (refl, cc)
if_some false x y e = absurd cc

header_takes : (bytes rest : List ℕ) → behind_header bytes ≡ Some rest → bytes ≡ codes "FXC1" ++ rest
unfolding behind_header
header_takes (a ∷ (b ∷ (c ∷ (d ∷ bytes)))) rest e =
    let g = if_some (a == 70 && (b == 88 && (c == 67 && d == 49))) bytes rest e in
    let p = and_parts (a == 70) (b == 88 && (c == 67 && d == 49)) g.0 in
    let q = and_parts (b == 88) (c == 67 && d == 49) p.1 in
    let r = and_parts (c == 67) (d == 49) q.1 in
    rw (eqb-true a 70 p.0, eqb-true b 88 q.0, eqb-true c 67 r.0, eqb-true d 49 r.1, g.1) refl
header_takes [] rest e = absurd cc
header_takes (a ∷ []) rest e = absurd cc
header_takes (a ∷ (b ∷ [])) rest e = absurd cc
header_takes (a ∷ (b ∷ (c ∷ []))) rest e = absurd cc

header_again : (rest : List ℕ) → behind_header (codes "FXC1" ++ rest) ≡ Some rest
unfolding behind_header
header_again rest = refl

last_takes : (x y : Image) (rest : List ℕ) → if_no_byte_left x rest ≡ Some y → (x ≡ y) × (rest ≡ [])
last_takes x y [] e = (some_is x y e, refl)
last_takes x y (b ∷ rest) e = absurd cc

pub decoded_takes : (bytes : List ℕ) (image : Image) → AreOctets bytes → decoded bytes ≡ Some image → IsImage image × (image_bytes image ≡ bytes)
unfolding decoded image_bytes IsImage
decoded_takes bytes image octets e =
    let o = bind_some (behind_header bytes) (λ rest. fields_at rest >>= λ x. if_no_byte_left x.0 x.1) image e in
    let q = bind_some (fields_at o.0) (λ x. if_no_byte_left x.0 x.1) image o.2 in
    let head = header_takes bytes o.0 o.1 in
    let one = fields_exact.takes o.0 q.0.0 q.0.1 (behind (codes "FXC1") o.0 (subst AreOctets head octets)) q.1 in
    let last = last_takes q.0.0 image q.0.1 q.2 in
    let fields : o.0 ≡ field_bytes q.0.0 = one.0 ∙ ap (λ (z : List ℕ). field_bytes q.0.0 ++ z) last.1 ∙ append-nil (field_bytes q.0.0) in
    subst (λ (z : Image). AreFields z × (codes "FXC1" ++ field_bytes z ≡ bytes)) last.0 (one.1, sym (head ∙ ap (λ (z : List ℕ). codes "FXC1" ++ z) fields))

pub decoded_again : (image : Image) → IsImage image → decoded (image_bytes image) ≡ Some image
unfolding decoded image_bytes IsImage
decoded_again image is =
    ap (λ (o : Option (List ℕ)). o >>= λ rest. fields_at rest >>= λ x. if_no_byte_left x.0 x.1) (header_again (field_bytes image))
    ∙ ap (λ (z : List ℕ). fields_at z >>= λ x. if_no_byte_left x.0 x.1) (sym (append-nil (field_bytes image)))
    ∙ ap (λ (o : ReadBytes Image). o >>= λ x. if_no_byte_left x.0 x.1) (fields_exact.again image [] is)

pub one_spelling : (a b : Image) → IsImage a → IsImage b → image_bytes a ≡ image_bytes b → a ≡ b
one_spelling a b is_a is_b e = some_is a b (sym (decoded_again a is_a) ∙ ap decoded e ∙ decoded_again b is_b)

-- ---- what the answer of a reading says

pub is_found : (bytes : List ℕ) (r : Result Image DecodeFault) → AreOctets bytes → IfOk r (λ x. decoded bytes ≡ Some x)
    → IfOk r (λ x. IsImage x × (image_bytes x ≡ bytes))
is_found bytes (Ok x) octets is = decoded_takes bytes x octets is
is_found bytes (Err fault) octets is = tt

pub is_only : (bytes : List ℕ) (r : Result Image DecodeFault) → IfOk r (λ x. decoded bytes ≡ Some x)
    → IfOk r (λ x. (other : Image) → IsImage other → image_bytes other ≡ bytes → x ≡ other)
is_only bytes (Ok x) is = λ other is_other e. some_is x other (sym is ∙ ap decoded (sym e) ∙ decoded_again other is_other)
is_only bytes (Err fault) is = tt

pub is_bad : (bytes : List ℕ) (r : Result Image DecodeFault) → IfErr r (TellsDecodeFault (decoded bytes))
    → r ≡ Err BadImage → (image : Image) → IsImage image → image_bytes image ≡ bytes → ⊥
is_bad bytes r told bad image is e =
    let none : decoded bytes ≡ None = subst (λ (r : Result Image DecodeFault). IfErr r (TellsDecodeFault (decoded bytes))) bad told in
    let n : None ≡ Some image = sym none ∙ ap decoded (sym e) ∙ decoded_again image is in
    cc
