-- Images whose facts are lent, and the bytes of an image that are still to come where it is given in pieces.
use Rattle.std.specs.{Prelude.{ℕ, ◌+◌, ◌-◌, List, [], ◌++◌, drop, length, map}, Borrow.{Bor}}
use Rattle.fx_base.specs.declared.fact.Fact.{Fact}
use Rattle.checkpoint.specs.Bytes.{AreAll, Each, FitsLong, IsExtra, IsFact, IsFired, IsFlag, IsImage, IsImageRun, IsSigned, each_bytes, extra_bytes, fact_bytes}
use Rattle.checkpoint.specs.{Bytes.{fired_bytes, flag_bytes, image_bytes, list_bytes, long_bytes, run_bytes, signed_bytes}, declared.image.Image.{Image}}
use Rattle.checkpoint.specs.declared.pieces.{ImagePieces.{ImagePieces}, LentImage.{LentImage}, Next.{Next, TheVariants.{Front, Facts, Fired, Extras, Done}}}

-- the image with its facts in their place
abbrev pub whole : LentImage → Image
whole image = record image.apart { facts = map (λ (f : Bor Fact). f.now) image.facts.items }

-- the numbers of an image with so many facts
abbrev pub number_bytes : Image → ℕ → List ℕ
number_bytes image facts =
    run_bytes image.run ++ (signed_bytes image.clock ++ (flag_bytes image.begun ++ (list_bytes signed_bytes image.last_starts ++ (list_bytes signed_bytes image.promises
    ++ (long_bytes image.next_id ++ (long_bytes image.next_tag ++ long_bytes facts))))))

abbrev pub AreNumbers : Image → ℕ → Type 0
AreNumbers image facts =
    IsImageRun image.run × (IsSigned image.clock × (IsFlag image.begun × (AreAll IsSigned image.last_starts × (AreAll IsSigned image.promises
    × (FitsLong image.next_id × (FitsLong image.next_tag × FitsLong facts))))))

-- the bytes from a place on
abbrev pub bytes_at : LentImage → Next → List ℕ
bytes_at image Front = image_bytes (whole image)
bytes_at image (Facts place) =
    each_bytes (λ (f : Bor Fact). fact_bytes f.now) (drop place image.facts.items) ++ (list_bytes fired_bytes image.apart.fired ++ list_bytes extra_bytes image.apart.extras)
bytes_at image (Fired place) = each_bytes fired_bytes (drop place image.apart.fired) ++ list_bytes extra_bytes image.apart.extras
bytes_at image (Extras place) = each_bytes extra_bytes (drop place image.apart.extras)
bytes_at image Done = []

-- what they spell is within its ranges
abbrev pub fit_at : LentImage → Next → Type 0
fit_at image Front = IsImage (whole image)
fit_at image (Facts place) = Each (λ (f : Bor Fact). IsFact f.now) (drop place image.facts.items) × (AreAll IsFired image.apart.fired × AreAll IsExtra image.apart.extras)
fit_at image (Fired place) = Each IsFired (drop place image.apart.fired) × AreAll IsExtra image.apart.extras
fit_at image (Extras place) = Each IsExtra (drop place image.apart.extras)
fit_at image Done = Unit {0}

-- so many pieces they have at most
abbrev pub pieces_at : LentImage → Next → ℕ
pieces_at image Front = 4 + length image.facts.items + length image.apart.fired + length image.apart.extras
pieces_at image (Facts place) = 3 + (length image.facts.items - place) + length image.apart.fired + length image.apart.extras
pieces_at image (Fired place) = 2 + (length image.apart.fired - place) + length image.apart.extras
pieces_at image (Extras place) = 1 + (length image.apart.extras - place)
pieces_at image Done = 0

-- ---- of an image that is given in pieces: what is still to come

abbrev pub bytes_left : ImagePieces → List ℕ
bytes_left pieces = bytes_at pieces.image pieces.next

abbrev pub fit_left : ImagePieces → Type 0
fit_left pieces = fit_at pieces.image pieces.next

abbrev pub pieces_left : ImagePieces → ℕ
pieces_left pieces = pieces_at pieces.image pieces.next
