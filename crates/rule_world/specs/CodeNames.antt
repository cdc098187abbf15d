-- The names of the codes of faults, as lines print them.
use Rattle.std.specs.Prelude.{ℕ, List, codes}
use Rattle.rule_world.specs.declared.code.Code.{Code, TheVariants.{UnknownType, UnknownEntry, EventFixed, EventObserved, ReferenceFixed, Absent, BadFields}}
use Rattle.rule_world.specs.declared.code.Code.TheVariants.{BadValue, BadDuration, Late, Ahead, ClockBack, ClockEnd, PromiseBack, PromiseEnd, Overflow}

abbrev pub code_name : Code → List ℕ
code_name UnknownType = codes "UnknownType"
code_name UnknownEntry = codes "UnknownEntry"
code_name EventFixed = codes "EventFixed"
code_name EventObserved = codes "EventObserved"
code_name ReferenceFixed = codes "ReferenceFixed"
code_name Absent = codes "Absent"
code_name BadFields = codes "BadFields"
code_name BadValue = codes "BadValue"
code_name BadDuration = codes "BadDuration"
code_name Late = codes "Late"
code_name Ahead = codes "Ahead"
code_name ClockBack = codes "ClockBack"
code_name ClockEnd = codes "ClockEnd"
code_name PromiseBack = codes "PromiseBack"
code_name PromiseEnd = codes "PromiseEnd"
code_name Overflow = codes "Overflow"
