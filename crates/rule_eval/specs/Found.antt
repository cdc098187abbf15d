-- The tuples that a condition makes, by the candidates that pass.
use Rattle.std.specs.Prelude.{◌==◌, ◌&&◌, List, [], ◌∷◌, map, length, if◌then◌else◌}
use Rattle.fx_base.specs.declared.fact.Fact.{Fact}
use Rattle.rule_model.specs.declared.{condition.Condition.{Condition, TheVariants.{Plain, Negated, Existing, Folded}}, program.Program.{Program}}
use Rattle.rule_model.specs.{Maturity.{is_mature}, Rows.{result_of, with_result}, Tuples.{Tuple, with_fact, bound_by}, declared.moment.Moment.{Moment}}
use Rattle.rule_model.specs.{Moments.{snapshot_at}, Snapshots.{floor}}

-- the tuples that a condition makes of one, where these candidates pass
abbrev pub made_by : Program → Moment → Condition → Tuple → List Fact → List Tuple
made_by p m (Plain pattern) tuple passing = map (with_fact tuple) passing
made_by p m (Negated pattern) tuple passing =
    if length passing == 0 && is_mature p pattern (bound_by tuple) (floor p (snapshot_at m) pattern.entry.0) then tuple ∷ [] else []
made_by p m (Existing pattern) tuple passing = if length passing == 0 then [] else (tuple ∷ [])
made_by p m (Folded a) tuple passing = with_result a tuple (result_of a passing)
