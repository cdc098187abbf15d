-- The reading of a line, as a relation and as a function.
use Rattle.script_read.proofs.Common.{◌≡◌, List, ℕ, Bool, true, false, Some, None, refl, ◌∙◌, Data, read, IsLineReading, IsUtf8, is_utf8}
use Rattle.{script_read.specs.Asked.{reading}, std.proofs.lemmas.Str.{is_utf8-from_IsUtf8, IsUtf8-from_is_utf8}}

-- a text is read as `serde_json` reads it
pub reading_of_text : (line : List ℕ) → IsUtf8 line → reading line ≡ read line
unfolding reading
reading_of_text line text = rw (is_utf8-from_IsUtf8 line text) refl

-- a value that the line is read as is the one of the function
pub reading_again : {line : List ℕ} {d : Data} → IsLineReading line d → reading line ≡ Some d
reading_again is = reading_of_text _ is.text ∙ is.value

-- at each case of the test of UTF-8
sound : (b : Bool) (line : List ℕ) (d : Data) → is_utf8 line ≡ b → reading line ≡ Some d → IsLineReading line d
unfolding reading
sound true line d e found = record { text = IsUtf8-from_is_utf8 line e; value = rw e at found }
sound false line d e found = let none = rw e at found in cc

-- the value of the function is one that the line is read as
pub reading_sound : (line : List ℕ) (d : Data) → reading line ≡ Some d → IsLineReading line d
reading_sound line d found = sound (is_utf8 line) line d refl found

-- at each case of the test of UTF-8
none_read : (b : Bool) (line : List ℕ) → is_utf8 line ≡ b → (IsUtf8 line → read line ≡ None) → reading line ≡ None
unfolding reading
none_read true line e none = rw e (none (IsUtf8-from_is_utf8 line e))
none_read false line e none = rw e refl

-- what is no text, or has no value as a text, has no reading
pub no_reading : (line : List ℕ) → (IsUtf8 line → read line ≡ None) → reading line ≡ None
no_reading line none = none_read (is_utf8 line) line refl none
