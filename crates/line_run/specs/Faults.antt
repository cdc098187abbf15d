-- Why a run stops before the end of the script.
use Rattle.fx_io.specs.declared.line.LineFault.{LineFault}
use Rattle.line_run.specs.declared.fault.{StopFault.{StopFault, TheVariants.{ReadFault, WriteFault, ScriptLong, NoMemory, Refused}}, KeepFault.{KeepFault}}
use Rattle.line_run.specs.declared.fault.KeepFault.TheVariants as keep
use Rattle.fx_io.specs.declared.line.LineFault.TheVariants as line

abbrev pub run_fault : LineFault → StopFault
run_fault line.ReadFault = ReadFault
run_fault line.ScriptLong = ScriptLong
run_fault line.NoMemory = NoMemory

-- an image was not put
abbrev pub unkept_fault : KeepFault → StopFault
unkept_fault keep.WriteFault = WriteFault
unkept_fault keep.NoMemory = NoMemory
unkept_fault (keep.Refused why) = Refused why
