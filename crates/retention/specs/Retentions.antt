-- Which held events are no longer needed: past their lives, and named by no pending match.
use Rattle.std.specs.Prelude.{◌≡◌, ℕ, ℤ, ◌==◌, ◌&&◌, ◌||◌, Bool, cond, not, List}
use Rattle.std.specs.FinMap as map
use Rattle.std.specs.{List.{list_any}, Ordering.{nat_cmp, eq_by_cmp}}
use Rattle.fx_base.specs.declared.ids.Tag.{Tag}
use Rattle.due_queue.specs.Timers.{is_due}
use Rattle.agenda.specs.Agendas.{Marks, names_tag}
use Rattle.retention.specs.declared.retention.Retention.{Retention}

-- whether a tag is in a set
abbrev pub has_listed_tag : List ℕ → ℕ → Bool
has_listed_tag tags tag = list_any (eq_by_cmp nat_cmp tag) tags

-- whether a tag is in a list
abbrev pub is_tag_among : List Tag → ℕ → Bool
is_tag_among tags tag = list_any (λ (t : Tag). tag == t.0) tags

-- whether a pending match names the tag
abbrev pub is_named : Marks → ℕ → Bool
is_named agenda tag = list_any (names_tag tag) agenda.pending

-- whether the event is past its life and still held
abbrev pub lingers : Retention → ℕ → Bool
lingers r tag = has_listed_tag r.lingering.keys tag

-- whether an event may have become old: its moment has come, or it lingers and a match that named it has left
abbrev pub is_touched : ℤ → (ℕ → Bool) → Retention → ℕ → Bool
is_touched clock left r tag = is_due clock r.due tag || (lingers r tag && left tag)

-- of these events those that are named linger from now on, and the others are old; no other event changes
pub record PassesLives (clock : ℤ) (left named : ℕ → Bool) (before after : Retention) (old : ℕ → Bool) : Type 0 where
  pub due : after.due ≡ map.retain_keys before.due (λ tag. not (is_due clock before.due tag))
  pub lingering : (tag : ℕ) → lingers after tag ≡ cond (is_touched clock left before tag) (named tag) (lingers before tag)
  pub answer : (tag : ℕ) → old tag ≡ (is_touched clock left before tag && not (named tag))
