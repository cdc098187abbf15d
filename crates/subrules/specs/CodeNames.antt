-- The names of codes, as refusals print them.
use Rattle.std.specs.Prelude.{ℕ, List, codes}
use Rattle.subrules.specs.declared.fault.ExpandCode.{ExpandCode, TheVariants.{UnknownType, BadExtends, HasSubtypes, LimitPassed}}

abbrev pub expand_code_name : ExpandCode → List ℕ
expand_code_name UnknownType = codes "UnknownType"
expand_code_name BadExtends = codes "BadExtends"
expand_code_name HasSubtypes = codes "HasSubtypes"
expand_code_name LimitPassed = codes "LimitPassed"
