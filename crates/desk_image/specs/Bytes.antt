-- The bytes of an image of a desk, with the lives by which it goes on.
use Rattle.std.specs.Prelude.{List, [], ◌∷◌, ◌++◌, Option, Some, None, codes, ℕ}
use Rattle.checkpoint.specs.{Bytes.{AreAll, IsSigned, image_bytes, list_bytes, signed_bytes}, declared.image.Image.{Image}}
use Rattle.rule_model.specs.declared.life.{Life.{Life, TheVariants.{Plain, Explicit, Finite, Infinite}}, LifeTable.{LifeTable}}

-- its kind, and its milliseconds where it has some
abbrev pub life_bytes : Life → List ℕ
life_bytes Plain = 0 ∷ []
life_bytes (Explicit n) = 1 ∷ signed_bytes n
life_bytes (Finite n) = 2 ∷ signed_bytes n
life_bytes Infinite = 3 ∷ []

abbrev pub lives_bytes : LifeTable → List ℕ
lives_bytes table = list_bytes life_bytes table.lives

-- The bytes of an image; where lives are said they stand in front of it.
abbrev pub desk_bytes : Option LifeTable → Image → List ℕ
desk_bytes None image = image_bytes image
desk_bytes (Some table) image = codes "FXC2" ++ (lives_bytes table ++ image_bytes image)

-- ---- lives whose numbers are within their ranges

abbrev pub IsImageLife : Life → Type 0
IsImageLife Plain = Unit {0}
IsImageLife (Explicit n) = IsSigned n
IsImageLife (Finite n) = IsSigned n
IsImageLife Infinite = Unit {0}

abbrev pub AreTableLives : LifeTable → Type 0
AreTableLives table = AreAll IsImageLife table.lives

abbrev pub AreImageLives : Option LifeTable → Type 0
AreImageLives None = Unit {0}
AreImageLives (Some table) = AreTableLives table
