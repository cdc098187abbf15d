-- What `check` answers, against what is checked.
use Rattle.std.specs.Prelude.{◌≡◌, ℕ, min, Option, Some, None, Result, Ok, Err}
use Rattle.drl_check.specs.{declared.fault.CheckFault.{CheckFault, TheVariants.{Refused, NoMemory}}, Checks.{Failure}}

-- a number of 32 bits, which stands still at the last one
abbrev pub within_32_bits : ℕ → ℕ
within_32_bits n = min n 4294967295

abbrev pub check_fault_of : Failure → CheckFault
check_fault_of failure = Refused (within_32_bits failure.number) failure.line failure.code

-- a refusal tells of the first failure; refused memory tells of nothing
abbrev pub TellsCheckFault : CheckFault → Option Failure → Type 0
TellsCheckFault (Refused item line code) found = (failure : Failure) × (found ≡ Some failure) × (check_fault_of failure ≡ Refused item line code)
TellsCheckFault NoMemory found = Unit {0}

abbrev pub Judges : {X : Type 0} → Result X CheckFault → Option Failure → Type 0
Judges (Ok x) found = found ≡ None
Judges (Err fault) found = TellsCheckFault fault found

abbrev pub FailsCheck : {Y : Type 0} → CheckFault → Result Y Failure → Type 0
FailsCheck (Refused item line code) checked = (failure : Failure) × (checked ≡ Err failure) × (check_fault_of failure ≡ Refused item line code)
FailsCheck NoMemory checked = Unit {0}

-- what was answered, seen by `view`, is what is checked, unless memory was refused
abbrev pub GivesChecked : {X Y : Type 0} → (X → Y) → Result X CheckFault → Result Y Failure → Type 0
GivesChecked view (Ok x) checked = checked ≡ Ok (view x)
GivesChecked view (Err fault) checked = FailsCheck fault checked
