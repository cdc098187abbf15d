-- Reading an image of a desk from its bytes: the same as the spelling, as functions from the left.
use Rattle.std.specs.Prelude.{zero, suc, ◌==◌, ◌&&◌, List, [], ◌∷◌, Option, Some, None, option_map, if◌then◌else◌, ℕ}
use Rattle.checkpoint.specs.{Reading.{◌>>=◌, ReadBytes, decoded, list_at, made_at, signed_at}, declared.image.Image.{Image}}
use Rattle.rule_model.specs.declared.life.{Life.{Life, TheVariants.{Plain, Explicit, Finite, Infinite}}, LifeTable.{LifeTable}}

unfoldable pub life_at : List ℕ → ReadBytes Life
life_at [] = None
life_at (zero ∷ rest) = Some (Plain, rest)
life_at (suc zero ∷ rest) = made_at Explicit signed_at rest
life_at (suc (suc zero) ∷ rest) = made_at Finite signed_at rest
life_at (suc (suc (suc zero)) ∷ rest) = Some (Infinite, rest)
life_at (suc (suc (suc (suc b))) ∷ rest) = None

-- the fewest bytes of a life
abbrev pub life_least : ℕ
life_least = 1

abbrev pub table_of : List Life → LifeTable
table_of lives = record { lives = lives }

unfoldable pub lives_at : List ℕ → ReadBytes LifeTable
lives_at bytes = made_at table_of (list_at life_at life_least) bytes

-- ---- all of the bytes

-- what stands behind the first bytes of an image that says lives
unfoldable pub behind_lives_header : List ℕ → Option (List ℕ)
behind_lives_header (a ∷ (b ∷ (c ∷ (d ∷ rest)))) = if a == 70 && (b == 88 && (c == 67 && d == 50)) then Some rest else None
behind_lives_header bytes = None

abbrev pub with_lives : Option LifeTable → Option Image → Option (Option LifeTable × Image)
with_lives lives image = option_map (λ image. (lives, image)) image

abbrev pub desk_by_header : List ℕ → Option (List ℕ) → Option (Option LifeTable × Image)
desk_by_header bytes None = with_lives None (decoded bytes)
desk_by_header bytes (Some rest) = lives_at rest >>= λ lives. with_lives (Some lives.0) (decoded lives.1)

-- the lives and the image of the bytes
unfoldable pub desk_decoded : List ℕ → Option (Option LifeTable × Image)
desk_decoded bytes = desk_by_header bytes (behind_lives_header bytes)
