-- What a firing answers.
use Rattle.std.specs.Prelude.{◌≡◌, List, Option, Some, None}
use Rattle.rule_world.specs.Worlds.{World}
use Rattle.answer_lines.specs.declared.lines.{Fired.{Fired, TheVariants.{No, Yes}}, OutLine.{OutLine}}

-- by what fires in the world: nothing, or lines and the next world
abbrev pub FiringAnswers : Option (List OutLine × World) → Fired → World → (World → Type 0) → Type 0
FiringAnswers None answer w stands = (answer ≡ No) × stands w
FiringAnswers (Some f) answer w stands = (answer ≡ Yes f.0) × stands f.1
