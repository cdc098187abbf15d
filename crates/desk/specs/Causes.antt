-- Why a desk ends with a fault of the outside.
use Rattle.std.specs.Prelude.{◌≡◌, ◌⊎◌, ℕ, List, Some}
use Rattle.fx_io.specs.Outside.{Rose}
use Rattle.command_words.specs.declared.desk.DeskAsked.{DeskAsked}

-- a read failed: of a rule file, of the image, or of the script, as the counts before and after say
abbrev pub ReadFails : (List ℕ → ℕ) → (List ℕ → ℕ) → ℕ → ℕ → DeskAsked → Type 0
ReadFails before after script script' asked =
    Rose (before asked.rules) (after asked.rules) ⊎ ((it : List ℕ) × (asked.keep ≡ Some it) × Rose (before it) (after it))
    ⊎ ((it : List ℕ) × (asked.image ≡ Some it) × Rose (before it) (after it)) ⊎ Rose script script'
