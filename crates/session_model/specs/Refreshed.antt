-- What becomes of an agenda where the rows of rules change.
use Rattle.std.specs.Prelude.{◌≡◌, ◌&&◌, ◌||◌, not, Bool, ℤ, List, [], map}
use Rattle.fx_base.specs.declared.fact.Fact.{Fact}
use Rattle.row_delta.specs.declared.row.Row.{Row}
use Rattle.rule_model.specs.{declared.{matched.Match.{Match}, program.{Program.{Program}, Rule.{Rule}}}, Matches.{matches_from, has_match}, Rows.{rows}}
use Rattle.rule_model.specs.Snapshots.{Reached, Snapshot}
use Rattle.agenda.specs.Agendas.{Marks}

-- ---- which rows the rules have

-- these facts at this clock, where entry points have reached this
abbrev pub over : List Fact → ℤ → Reached → Snapshot
over facts clock reached = record { facts = facts; clock = clock; reached = reached }

-- those over facts
abbrev pub rows_at : Program → List Fact → ℤ → Reached → Rule → List Row
rows_at p facts clock reached rule = rows p (over facts clock reached) rule.conditions

abbrev pub no_rule_rows : Rule → List Row
no_rule_rows rule = []

-- the rows of these rules as matches, the first rule having the place 0
abbrev pub matches_by : (Rule → List Row) → List Rule → List Match
matches_by found rules = matches_from 0 (map found rules)

-- ---- the agenda

-- a match of these rules by the first rows that is none by the others
abbrev pub only_in : List Rule → (Rule → List Row) → (Rule → List Row) → Match → Bool
only_in rules found other m = has_match (matches_by found rules) m && not (has_match (matches_by other rules) m)

-- matches by the old rows that cease go out of both sets, and those that come are pending
pub record IsRefreshed (rules : List Rule) (old new : Rule → List Row) (a b : Marks) : Type 0 where
  pub saliences : b.saliences ≡ a.saliences
  pub pending : (m : Match) → has_match b.pending m ≡ ((has_match a.pending m && not (only_in rules old new m)) || only_in rules new old m)
  pub fired : (m : Match) → has_match b.fired m ≡ (has_match a.fired m && not (only_in rules old new m))
