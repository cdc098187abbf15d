-- One turn of the loop over a text.
use Rattle.std.specs.Prelude.{◌≡◌, ℕ, ◌<◌, ◌+◌, List, [], length, Ok, Err}
use Rattle.drl_lex.specs.declared.{fault.LexCode.TheVariants.{BadChar, OpenText}, texts.TextStep.{TextStep, TheVariants.{Closed, Byte, BadEscape, Open}}}
use Rattle.drl_lex.specs.Reading.{ReadToken, content_at, with_byte}

-- what is read from offset `place` on, where the bytes there begin with this
abbrev pub step_read : ℕ → ℕ → ℕ → TextStep → ReadToken (List ℕ)
step_read at quote place (Closed rest) = Ok ([], rest.now)
step_read at quote place (Byte meant taken rest) = with_byte meant (content_at at quote (place + taken) rest.now)
step_read at quote place BadEscape = Err (BadChar, place)
step_read at quote place Open = Err (OpenText, at)

-- of so many bytes some are taken, and the others are left
abbrev pub TakesBytes : ℕ → TextStep → Type 0
TakesBytes len (Closed rest) = length rest.now < len
TakesBytes len (Byte meant taken rest) = (0 < taken) × (taken + length rest.now ≡ len)
TakesBytes len BadEscape = Unit {0}
TakesBytes len Open = Unit {0}
