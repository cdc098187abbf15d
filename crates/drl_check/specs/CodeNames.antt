-- The names of the codes of checks, as the line of a refused file prints them.
use Rattle.std.specs.Prelude.{ℕ, List, codes}
use Rattle.drl_check.specs.declared.fault.CheckCode.{CheckCode, TheVariants.{TwiceDeclared, LimitPassed, UnknownType, UnknownField, UnknownVariable, WrongKind}}
use Rattle.drl_check.specs.declared.fault.CheckCode.TheVariants.{NotAnEvent, BadTimestamp, BadReference, EventFixed, EventObserved, ReferenceFixed, BadParams}
use Rattle.drl_check.specs.declared.fault.CheckCode.TheVariants.{NeverMatches}

abbrev pub check_code_name : CheckCode → List ℕ
check_code_name TwiceDeclared = codes "TwiceDeclared"
check_code_name LimitPassed = codes "LimitPassed"
check_code_name UnknownType = codes "UnknownType"
check_code_name UnknownField = codes "UnknownField"
check_code_name UnknownVariable = codes "UnknownVariable"
check_code_name WrongKind = codes "WrongKind"
check_code_name NotAnEvent = codes "NotAnEvent"
check_code_name BadTimestamp = codes "BadTimestamp"
check_code_name BadReference = codes "BadReference"
check_code_name EventFixed = codes "EventFixed"
check_code_name EventObserved = codes "EventObserved"
check_code_name ReferenceFixed = codes "ReferenceFixed"
check_code_name BadParams = codes "BadParams"
check_code_name NeverMatches = codes "NeverMatches"
