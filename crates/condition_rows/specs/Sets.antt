-- The rows of conditions and the candidates of a pattern as sets, where sets are tests.
use Rattle.std.specs.{Prelude.{◌==◌, Bool, false, List, map, Option, Some, None}, List.{find, filter, list_any}}
use Rattle.fx_base.specs.declared.fact.Fact.{Fact}
use Rattle.row_delta.specs.{declared.row.{Named.{Named}, Row.{Row}}, Rows.{has}}
use Rattle.rule_model.specs.{declared.{condition.{Condition.{Condition}, Pattern.{Pattern}}, program.Program.{Program}}, Candidates.{is_candidate, candidates}}
use Rattle.rule_model.specs.{Rows.{rows}, Snapshots.{Snapshot}, Tuples.{name_of}}
use Rattle.join_tests.specs.Joins.{Look, version_at, joins}

-- a row is one of the rows of the conditions
abbrev pub rows_of : Program → Snapshot → List Condition → Row → Bool
rows_of p s conditions = has (rows p s conditions)

-- the versions of a snapshot's facts by their tags: the first with the tag
unfoldable pub held : Snapshot → Look
held s tag = find (λ (f : Fact). f.tag.0 == tag.0) s.facts

abbrev pub is_candidate_given : Program → Pattern → Snapshot → Option Fact → Bool
is_candidate_given p pattern s None = false
is_candidate_given p pattern s (Some f) = is_candidate p pattern s f

-- the version that is named is one of the snapshot and a candidate
unfoldable pub candidates_of : Program → Pattern → Snapshot → Named → Bool
candidates_of p pattern s who = is_candidate_given p pattern s (version_at (held s) who)

-- the names of the candidates
abbrev pub candidate_names : Program → Pattern → Snapshot → List Named
candidate_names p pattern s = map name_of (candidates p pattern s)

-- some candidate joins the row
unfoldable pub has_partner : Program → Pattern → Snapshot → Row → Bool
has_partner p pattern s row = list_any (joins pattern (held s) row) (candidate_names p pattern s)

-- the candidates that join the row
unfoldable pub partners : Program → Pattern → Snapshot → Row → List Fact
partners p pattern s row = filter (λ (f : Fact). joins pattern (held s) row (name_of f)) (candidates p pattern s)
