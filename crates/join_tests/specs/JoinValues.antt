-- The value behind a join value.
use Rattle.fx_base.specs.declared.value.Value.{Value}
use Rattle.join_tests.specs.declared.join_value.JoinValue.{JoinValue, TheVariants.{Lent, Made}}

abbrev pub shown : JoinValue → Value
shown (Lent v) = v.now
shown (Made v) = v
