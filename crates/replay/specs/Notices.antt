-- What is written where no script is run.
use Rattle.std.specs.{Prelude.{ℕ, ◌++◌, List, [], ◌∷◌, length, zip, codes}, Fmt.{decimal, signed_decimal}, List.{flat_map}}
use Rattle.rule_model.specs.declared.{life.Life.{Life, TheVariants.{Plain, Explicit, Finite, Infinite}}, program.{Program.{Program}, TypeInfo.{TypeInfo}}}

-- where the words are refused
abbrev pub usage : List ℕ
usage = codes "usage: replay [--mode run|check|lives|save|proof] [--limit N] [--resume NAME] RULES | replay [--limit N] --gen N" ++ 10 ∷ []

-- the rule file is accepted, with so many types and rules
abbrev pub accepted_text : Program → List ℕ
accepted_text p = codes "accepted " ++ decimal (length p.types) ++ codes " types " ++ decimal (length p.rules) ++ codes " rules" ++ 10 ∷ []

-- how long an event of a type of this name matters; nothing of a type whose facts are no events
abbrev pub life_text : List ℕ → Life → List ℕ
life_text name Plain = []
life_text name (Explicit expiry) = codes "life " ++ name ++ codes " explicit " ++ signed_decimal expiry ++ 10 ∷ []
life_text name (Finite most) = codes "life " ++ name ++ codes " " ++ signed_decimal most ++ 10 ∷ []
life_text name Infinite = codes "life " ++ name ++ codes " infinite" ++ 10 ∷ []

-- the lives of types in their order
abbrev pub lives_text : List TypeInfo → List Life → List ℕ
lives_text types lives = flat_map (λ (row : TypeInfo × Life). life_text row.0.name row.1) (zip types lives)
