-- The rows of kept facts, where conditions count and gather beyond them.
use Rattle.std.specs.Prelude.{◌≡◌, ◌<◌, ◌==◌, ◌&&◌, ◌||◌, ◌↔◌, ◌++◌, not, ℕ, zero, suc, ℤ, Bool, true, false, List, [], map, length, Option, Some, None}
use Rattle.std.specs.{Prelude.{slice_get}, List.{find}, Option.{is_some}, Ordering.{eq_by_cmp}}
use Rattle.fx_base.specs.{Lists.{In}, declared.fact.Fact.{Fact}}
use Rattle.fold_fn.specs.Results.{fold_result}
use Rattle.row_delta.specs.{declared.{extra.Extra.{Extra}, row.{Named.{Named}, Row.{Row}}}, Rows.{row_cmp}}
use Rattle.rule_model.specs.declared.condition.{Accumulate.{Accumulate}, Condition.{Condition, TheVariants.{Plain, Negated, Existing, Folded}}}
use Rattle.rule_model.specs.{declared.{condition.WindowTag.TheVariants.{Length}, program.{Program.{Program}, Rule.{Rule}}}, Candidates.{fits}}
use Rattle.rule_model.specs.{Distinct.{HaveDistinctTags}, Lent.{bound_in}, Rows.{argument, pattern_of}, Snapshots.{Snapshot}, Tests.{results_hold}}
use Rattle.rule_model.specs.Tuples.{name_of}
use Rattle.join_tests.specs.Joins.{joins}
use Rattle.join_memory.specs.{Joined.{joined}, Valued.{valued}}
use Rattle.condition_rows.specs.{Sets.{held, candidates_of, has_partner, partners}, Lines.{is_ripe, is_result, is_empty_row}}
use Rattle.laden_rows.specs.Extras.{IsFirstWith}

-- ---- one condition

-- what an extra gathers
abbrev pub extra_values_of : Option Extra → List ℤ
extra_values_of None = []
extra_values_of (Some e) = e.values

-- how many facts an extra counts
abbrev pub count_of : Option Extra → ℕ
count_of None = 0
count_of (Some e) = e.count

-- the value is the result of the function over the candidates that join the row and these further values, and its tests hold
unfoldable pub laden_gives : Program → Accumulate → Snapshot → List ℤ → Row → ℤ → Bool
laden_gives p a s more row v = is_result (fold_result a.kind (map (argument a.arg) (partners p a.pattern s row) ++ more)) v && results_hold (bound_in (held s) row) v a.tests

-- The rows with one condition more, of the rows without it, as `line` of condition_rows has them, where the condition counts and gathers
-- at a row what an extra says beyond the candidates.
abbrev pub laden_line : Program → Snapshot → (Row → Option Extra) → Condition → (Row → Bool) → Row → Bool
laden_line p s beyond (Plain pattern) left row = joined (joins pattern (held s)) left (candidates_of p pattern s) row
laden_line p s beyond (Negated pattern) left row = left row && (not (has_partner p pattern s row || is_some (beyond row)) && is_ripe p pattern s row)
laden_line p s beyond (Existing pattern) left row = left row && (has_partner p pattern s row || is_some (beyond row))
laden_line p s beyond (Folded a) left row = valued (λ without v. left without && laden_gives p a s (extra_values_of (beyond without)) without v) row

-- ---- conditions one after the other

abbrev pub is_extra_at : ℕ → ℕ → Row → Extra → Bool
is_extra_at rule condition row e = e.rule.0 == rule && (e.condition == condition && eq_by_cmp row_cmp e.row row)

-- the extra of a rule and a condition at a row
abbrev pub extra_at : List Extra → ℕ → ℕ → Row → Option Extra
extra_at extras rule condition row = find (is_extra_at rule condition row) extras

-- for the rule in a place and one of its conditions, the first rule that has its conditions up to that one
abbrev pub AreOwners : Program → (ℕ → ℕ → ℕ) → Type 0
AreOwners p owners = (place k : ℕ) (rule : Rule) → slice_get p.rules place ≡ Some rule → k < length rule.conditions → IsFirstWith p (suc k) rule.conditions (owners place k)

abbrev pub laden_with : Program → Snapshot → (Row → Option Extra) → Option Condition → (Row → Bool) → Row → Bool
laden_with p s beyond None left = left
laden_with p s beyond (Some c) left = laden_line p s beyond c left

-- The rows of the first so many of these conditions, from the empty row alone. `owner` gives the rule whose extras are those of the
-- condition in a place.
unfoldable pub laden : Program → Snapshot → List Extra → (ℕ → ℕ) → List Condition → ℕ → Row → Bool
laden p s extras owner conditions zero = is_empty_row
laden p s extras owner conditions (suc n) = laden_with p s (extra_at extras (owner n) n) (slice_get conditions n) (laden p s extras owner conditions n)

-- ---- what is kept of a snapshot

-- A snapshot has the facts of another that are not forgotten, and its clock and floors. What is forgotten counts for no window of length.
pub record IsKeptOf (p : Program) (s : Snapshot) (forgotten : Named → Bool) (t : Snapshot) : Type 0 where
  pub tags : HaveDistinctTags t.facts
  pub facts : (f : Fact) → In f t.facts ↔ (In f s.facts × (forgotten (name_of f) ≡ false))
  pub clock : t.clock ≡ s.clock
  pub reached : t.reached ≡ s.reached
  pub uncounted : (rule : Rule) → In rule p.rules → (k : ℕ) (c : Condition) → slice_get rule.conditions k ≡ Some c → (count : ℕ) → (pattern_of c).window ≡ Length count
      → (f : Fact) → In f s.facts → forgotten (name_of f) ≡ true → fits p (pattern_of c) s.clock f ≡ false
