-- The bytes of an image with its lives, and the image with its lives of bytes.
use Rattle.desk_image.proofs.Common.{◌∙◌, ◌≡◌, ap, subst, sym, ◌++◌, List, Some, [], refl, ℕ, ◌∷◌, None, true, Bool, Option, Err, Ok, Result, cond, ◌&&◌, ◌==◌}
use Rattle.desk_image.proofs.Common.{IfErr, IfOk, codes, AreOctets, ReadBytes, behind, bind_some, some_is, TellsDecodeFault, ◌>>=◌, decoded, DecodeFault}
use Rattle.desk_image.{proofs.Common.{BadImage, NoMemory, Image, LifeTable, AreImageLives, desk_bytes, lives_bytes}, specs.Reading.{behind_lives_header}}
use Rattle.desk_image.specs.{Reading.{desk_by_header, desk_decoded, lives_at, with_lives}, declared.whole.DeskImage.{DeskImage}}
use Rattle.{desk_image.proofs.LivesExact.{lives_exact}, checkpoint.{proofs.Whole.{decoded_again, decoded_takes}, specs.Bytes.{IsImage, image_bytes}}}
use Rattle.std.proofs.{Common.{false}, lemmas.Bool.{and_parts, eqb-true}}

if_some : {A : Type 0} (b : Bool) (x y : A) → cond b (Some x) None ≡ Some y → (b ≡ true) × (x ≡ y)
if_some true x y e = (refl, cc)
if_some false x y e = absurd cc

header_takes : (bytes rest : List ℕ) → behind_lives_header bytes ≡ Some rest → bytes ≡ codes "FXC2" ++ rest
unfolding behind_lives_header
header_takes (a ∷ (b ∷ (c ∷ (d ∷ bytes)))) rest e =
    let g = if_some (a == 70 && (b == 88 && (c == 67 && d == 50))) bytes rest e in
    let p = and_parts (a == 70) (b == 88 && (c == 67 && d == 50)) g.0 in
    let q = and_parts (b == 88) (c == 67 && d == 50) p.1 in
    let r = and_parts (c == 67) (d == 50) q.1 in
    rw (eqb-true a 70 p.0, eqb-true b 88 q.0, eqb-true c 67 r.0, eqb-true d 50 r.1, g.1) refl
header_takes [] rest e = absurd cc
header_takes (a ∷ []) rest e = absurd cc
header_takes (a ∷ (b ∷ [])) rest e = absurd cc
header_takes (a ∷ (b ∷ (c ∷ []))) rest e = absurd cc

header_again : (rest : List ℕ) → behind_lives_header (codes "FXC2" ++ rest) ≡ Some rest
unfolding behind_lives_header
header_again rest = refl

no_header : (image : Image) → behind_lives_header (image_bytes image) ≡ None
unfolding behind_lives_header image_bytes
no_header image = refl

-- ---- both ways

with_takes : (lives : Option LifeTable) (o : Option Image) (both : Option LifeTable × Image) → with_lives lives o ≡ Some both
    → (image : Image) × (o ≡ Some image) × ((lives, image) ≡ both)
with_takes lives None both e = absurd cc
with_takes lives (Some image) both e = (image, refl, some_is (lives, image) both e)

pub desk_takes : (bytes : List ℕ) (lives : Option LifeTable) (image : Image) → AreOctets bytes → desk_decoded bytes ≡ Some (lives, image)
    → (desk_bytes lives image ≡ bytes) × IsImage image × AreImageLives lives
unfolding desk_decoded
desk_takes bytes lives image octets e = by (behind_lives_header bytes) refl e
  where
    by : (header : Option (List ℕ)) → behind_lives_header bytes ≡ header → desk_by_header bytes header ≡ Some (lives, image)
        → (desk_bytes lives image ≡ bytes) × IsImage image × AreImageLives lives
    by None header e =
        let o = with_takes None (decoded bytes) (lives, image) e in
        let is = decoded_takes bytes o.0 octets o.1 in
        subst (λ (z : Option LifeTable × Image). (desk_bytes z.0 z.1 ≡ bytes) × IsImage z.1 × AreImageLives z.0) o.2 (is.1, is.0, tt)
    by (Some rest) header e =
        let o = bind_some (lives_at rest) (λ (l : LifeTable × List ℕ). with_lives (Some l.0) (decoded l.1)) (lives, image) e in
        let q = with_takes (Some o.0.0) (decoded o.0.1) (lives, image) o.2 in
        let head = header_takes bytes rest header in
        let octets_rest : AreOctets rest = behind (codes "FXC2") rest (subst AreOctets head octets) in
        let one = lives_exact.takes rest o.0.0 o.0.1 octets_rest o.1 in
        let is = decoded_takes o.0.1 q.0 (behind (lives_bytes o.0.0) o.0.1 (subst AreOctets one.0 octets_rest)) q.1 in
        let parts : desk_bytes (Some o.0.0) q.0 ≡ bytes =
        ap (λ (z : List ℕ). codes "FXC2" ++ (lives_bytes o.0.0 ++ z)) is.1 ∙ ap (λ (z : List ℕ). codes "FXC2" ++ z) (sym one.0) ∙ sym head in
        subst (λ (z : Option LifeTable × Image). (desk_bytes z.0 z.1 ≡ bytes) × IsImage z.1 × AreImageLives z.0) q.2 (parts, is.0, one.1)

pub desk_again : (lives : Option LifeTable) (image : Image) → AreImageLives lives → IsImage image → desk_decoded (desk_bytes lives image) ≡ Some (lives, image)
unfolding desk_decoded
desk_again None image fit is =
    ap (desk_by_header (image_bytes image)) (no_header image) ∙ ap (with_lives None) (decoded_again image is)
desk_again (Some table) image fit is =
    ap (desk_by_header (desk_bytes (Some table) image)) (header_again (lives_bytes table ++ image_bytes image))
    ∙ ap (λ (o : ReadBytes LifeTable). o >>= λ l. with_lives (Some l.0) (decoded l.1)) (lives_exact.again table (image_bytes image) fit)
    ∙ ap (with_lives (Some table)) (decoded_again image is)

pub one_spelling : (m n : Option LifeTable) (a b : Image) → AreImageLives m → AreImageLives n → IsImage a → IsImage b → desk_bytes m a ≡ desk_bytes n b
    → (m ≡ n) × (a ≡ b)
one_spelling m n a b fit_m fit_n is_a is_b e =
    let both = some_is (m, a) (n, b) (sym (desk_again m a fit_m is_a) ∙ ap desk_decoded e ∙ desk_again n b fit_n is_b) in
    (ap (λ (z : Option LifeTable × Image). z.0) both, ap (λ (z : Option LifeTable × Image). z.1) both)

-- ---- what the answer of a reading says

pub image_found : (bytes : List ℕ) (r : Result Image DecodeFault) → IfOk r (λ image. IsImage image × (image_bytes image ≡ bytes))
    → IfOk r (λ image. decoded bytes ≡ Some image)
image_found bytes (Ok image) is = ap decoded (sym is.1) ∙ decoded_again image is.0
image_found bytes (Err fault) is = tt

pub image_bad : (bytes : List ℕ) (r : Result Image DecodeFault) → AreOctets bytes
    → (r ≡ Err BadImage → (image : Image) → IsImage image → image_bytes image ≡ bytes → ⊥) → IfErr r (TellsDecodeFault (decoded bytes))
image_bad bytes (Ok image) octets bad = tt
image_bad bytes (Err NoMemory) octets bad = tt
image_bad bytes (Err BadImage) octets bad = by (decoded bytes) refl
  where
    by : (o : Option Image) → decoded bytes ≡ o → decoded bytes ≡ None
    by None e = e
    by (Some image) e = let is = decoded_takes bytes image octets e in absurd (bad refl image is.0 is.1)

pub is_found : (bytes : List ℕ) (r : Result DeskImage DecodeFault) → AreOctets bytes → IfOk r (λ it. desk_decoded bytes ≡ Some (it.lives, it.image))
    → IfOk r (λ it. (desk_bytes it.lives it.image ≡ bytes) × IsImage it.image × AreImageLives it.lives)
is_found bytes (Ok it) octets is = desk_takes bytes it.lives it.image octets is
is_found bytes (Err fault) octets is = tt

pub is_only : (bytes : List ℕ) (r : Result DeskImage DecodeFault) → IfOk r (λ it. desk_decoded bytes ≡ Some (it.lives, it.image))
    → IfOk r (λ it. (lives : Option LifeTable) (image : Image) → AreImageLives lives → IsImage image → desk_bytes lives image ≡ bytes
    → (it.lives ≡ lives) × (it.image ≡ image))
is_only bytes (Ok it) found = λ lives image fit is e.
    let both = some_is (it.lives, it.image) (lives, image) (sym found ∙ ap desk_decoded (sym e) ∙ desk_again lives image fit is) in
    (ap (λ (z : Option LifeTable × Image). z.0) both, ap (λ (z : Option LifeTable × Image). z.1) both)
is_only bytes (Err fault) found = tt

pub is_bad : (bytes : List ℕ) (r : Result DeskImage DecodeFault) → IfErr r (TellsDecodeFault (desk_decoded bytes)) → r ≡ Err BadImage
    → (lives : Option LifeTable) (image : Image) → AreImageLives lives → IsImage image → desk_bytes lives image ≡ bytes → ⊥
is_bad bytes r told bad lives image fit is e =
    let none : desk_decoded bytes ≡ None = subst (λ (r : Result DeskImage DecodeFault). IfErr r (TellsDecodeFault (desk_decoded bytes))) bad told in
    apart (lives, image) (sym none ∙ ap desk_decoded (sym e) ∙ desk_again lives image fit is)
  where
    apart : {A : Type 0} (x : A) → None ≡ Some x → ⊥
    apart x torn = cc
