-- Which conditions observe the facts of their pattern.
use Rattle.std.specs.{Prelude.{ℕ, ◌==◌, ◌&&◌, Bool, true, false, List}, List.{list_any}}
use Rattle.rule_model.specs.declared.condition.{Condition.{Condition, TheVariants.{Plain, Negated, Existing, Folded}}, WindowTag.{WindowTag}}
use Rattle.rule_model.specs.{declared.{condition.WindowTag.TheVariants.{Whole, Time, Length}, program.Rule.{Rule}}, Rows.{pattern_of}}

abbrev pub is_whole : WindowTag → Bool
is_whole Whole = true
is_whole (Time span) = false
is_whole (Length count) = false

abbrev pub is_length : WindowTag → Bool
is_length Whole = false
is_length (Time span) = false
is_length (Length count) = true

-- Whether the condition looks at the facts of its pattern together, and not at each by itself: a `not`, an `exists`, an `accumulate`, or a
-- window of length. To take one of them away could then make or end rows that do not name it.
abbrev pub observes : Condition → Bool
observes (Plain pattern) = is_length pattern.window
observes (Negated pattern) = true
observes (Existing pattern) = true
observes (Folded a) = true

abbrev pub observes_type : ℕ → Condition → Bool
observes_type ty c = observes c && (pattern_of c).ty.0 == ty

-- some condition of a rule observes the facts of a type
abbrev pub is_observed_in : List Rule → ℕ → Bool
is_observed_in rules ty = list_any (λ (rule : Rule). list_any (observes_type ty) rule.conditions) rules
