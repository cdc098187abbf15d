-- What the calls of a retention do to the events that it covers and watches.
use Rattle.std.specs.Prelude.{◌≡◌, ℕ, ℤ, ◌≤ℤ◌, ◌==◌, ◌&&◌, Bool, true, false, not, None}
use Rattle.std.specs.FinMap as map
use Rattle.rule_model.specs.{declared.matched.Match.{Match}, Matches.{has_match}}
use Rattle.agenda.specs.Agendas.{Marks, names_tag}
use Rattle.retention.specs.{declared.retention.Retention.{Retention}, Retentions.{lingers, is_named, PassesLives}, Watching.{Ends, with_end, without, is_old}}
use Rattle.retention.specs.Watching.{Covers, Watches}

-- a new retention watches no events
abbrev pub NewLaw : Type 0
NewLaw = (clock : ℤ) (named : ℕ → Bool) (r : Retention) → r.due ≡ map.empty → ((tag : ℕ) → lingers r tag ≡ false) → Watches (λ tag. None) clock named r

-- what is watched at one moment is covered at each later one
abbrev pub LaterLaw : Type 0
LaterLaw = (ends : Ends) (was now : ℤ) (named : ℕ → Bool) (r : Retention) → was ≤ℤ now → Watches ends was named r → Covers ends now r

-- an event that is not there yet has no moment in the queue, and is covered once it is held
abbrev pub HoldLaw : Type 0
HoldLaw = (ends : Ends) (now at : ℤ) (tag : ℕ) (before after : Retention) → Covers ends now before → ends tag ≡ None
    → after.due ≡ map.insert before.due tag at → after.lingering ≡ before.lingering
    → (map.get before.due tag ≡ None) × Covers (with_end ends tag at) now after

-- an event that is released is no longer covered
abbrev pub ReleaseLaw : Type 0
ReleaseLaw = (ends : Ends) (now : ℤ) (tag : ℕ) (before after : Retention) → Covers ends now before
    → after.due ≡ map.remove before.due tag → ((other : ℕ) → lingers after other ≡ (lingers before other && not (other == tag)))
    → Covers (without ends (λ other. other == tag)) now after

-- where each event that lingers and is not named has left, `past` answers exactly the old events, and watches the others
abbrev pub PastLaw : Type 0
PastLaw = (ends : Ends) (clock : ℤ) (left named : ℕ → Bool) (before after : Retention) (old : ℕ → Bool) → Covers ends clock before
    → ((tag : ℕ) → lingers before tag ≡ true → named tag ≡ false → left tag ≡ true)
    → PassesLives clock left named before after old
    → ((tag : ℕ) → old tag ≡ is_old ends clock named tag) × Watches (without ends old) clock named after

-- a tag that was named and is so no longer has left, where all tags of the matches that are no longer pending have
abbrev pub TagsLeftLaw : Type 0
TagsLeftLaw = (before after : Marks) (left : ℕ → Bool)
    → ((m : Match) (tag : ℕ) → has_match before.pending m ≡ true → has_match after.pending m ≡ false → names_tag tag m ≡ true → left tag ≡ true)
    → (tag : ℕ) → is_named before tag ≡ true → is_named after tag ≡ false → left tag ≡ true

-- what is covered and watched goes by each event's end, and by whether it is named
abbrev pub SameCovered : Type 0
SameCovered = (ends same : Ends) (clock : ℤ) (r : Retention) → ((tag : ℕ) → ends tag ≡ same tag) → Covers ends clock r → Covers same clock r

abbrev pub SameWatched : Type 0
SameWatched = (ends same : Ends) (clock : ℤ) (named also : ℕ → Bool) (r : Retention) → ((tag : ℕ) → ends tag ≡ same tag) → ((tag : ℕ) → named tag ≡ also tag)
    → Watches ends clock named r → Watches same clock also r
