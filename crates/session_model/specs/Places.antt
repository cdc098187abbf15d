-- What is asked of the facts that a session has at their tags, and what its parts keep to.
use Rattle.std.specs.Prelude.{◌≡◌, ◌+◌, ◌≤◌, ◌^◌, ◌&&◌, ℕ, zero, suc, ℤ, pos, ◌≤ℤ◌, List, map as list_map, Option, Some, None, Result, slice_get, if◌then◌else◌}
use Rattle.fx_base.specs.declared.{ids.Tag.{Tag}, fact.Fact.{Fact}, value.Value.{Value}}
use Rattle.due_queue.specs.Timers.{Timers}
use Rattle.fact_store.specs.Held.{HeldFacts, IsNewest, is_held_with_id}
use Rattle.row_delta.specs.declared.row.{Named.{Named}, Row.{Row}}
use Rattle.rule_model.specs.{declared.{action.Action.{Action}, program.Program.{Program}, step.Step.{Step}}, Lent.{bound_in}, Planned.{step_of}}
use Rattle.rule_model.specs.{Snapshots.{floor_by}, Types.{is_reference, lateness_of}, declared.matched.Match.{Match}}
use Rattle.rule_world.specs.{declared.code.Code.{Code, TheVariants.{ReferenceFixed}}, Events.{most_millis, new_fault}}
use Rattle.answer_lines.specs.declared.lines.OutLine.{OutLine}
use Rattle.session_model.specs.{Gives.{fire_line_by, step_or_overflow}, declared.setting.Setting.{Setting}, Standing.{Contents, reached_of}}
use Rattle.std.specs.FinMap as map

-- ---- the facts

-- of the facts with an id that stand below a tag, the one that stands at the greatest
unfoldable pub newest_below : HeldFacts → ℕ → ℕ → Option Fact
newest_below held id zero = None
newest_below held id (suc tag) = if is_held_with_id id (map.get held tag) then map.get held tag else newest_below held id tag

-- the fact of an id
abbrev pub newest : Contents → ℕ → Option Fact
newest k id = newest_below k.facts id k.next_tag

-- the newest version of the id has this tag
pub record IsNewestTag (held : HeldFacts) (id : ℕ) (tag : Tag) : Type 0 where
  pub fact : Fact
  pub is_newest : IsNewest held id fact
  pub tagged : fact.tag ≡ tag

-- no fact stands at the next tag or behind it and none waits there, no id is further ahead of the tags than 2^61, and the clock is from 0
-- to 2^53
pub record IsSafe (facts : HeldFacts) (expiries : Timers) (clock : ℤ) (next_id next_tag : ℕ) : Type 0 where
  pub fresh : (tag : ℕ) → next_tag ≤ tag → map.get facts tag ≡ None
  pub untimed : (tag : ℕ) → next_tag ≤ tag → map.get expiries tag ≡ None
  pub ids : next_id ≤ next_tag + 2 ^ 61
  pub clock_low : pos 0 ≤ℤ clock
  pub clock_high : clock ≤ℤ most_millis

-- ---- times

-- the floor of an entry point, by what is kept of it
abbrev pub floor_in : Program → Contents → ℕ → ℤ
floor_in p k entry = floor_by (lateness_of p entry) ((reached_of k).last_start entry) ((reached_of k).promise entry) k.clock

-- why an insertion is refused, by what is kept
abbrev pub insert_fault_in : Program → Contents → ℕ → ℕ → List Value → Option Code
insert_fault_in p k ty entry fields = if is_reference p ty && k.course.begun then Some ReferenceFixed else new_fault (slice_get p.types ty) (floor_in p k entry) k.clock fields

-- ---- what actions are to do

abbrev pub held_at : HeldFacts → Tag → Option Fact
held_at held tag = map.get held tag.0

abbrev pub planned_for : HeldFacts → Row → Action → Result Step Code
planned_for held row a = step_or_overflow (step_of (bound_in (held_at held) row) row.facts a)

abbrev pub planned : HeldFacts → Row → List Action → List (Result Step Code)
planned held row actions = list_map (planned_for held row) actions

-- the fact that is kept of a name
abbrev pub seen_at : HeldFacts → Named → Option Fact
seen_at held n = held_at held n.tag

-- the line of a match that fires, by what is kept
abbrev pub told : Setting → Contents → Match → OutLine
told s k m = fire_line_by s.detail s.program k.clock (held_at k.facts) m
