-- Why the run of a recorded script stops.
use Rattle.script_run.{proofs.Common.{◌≡◌, ap, Result, Ok, Err}, specs.declared.run_fault.RunFault.{RunFault}}

abbrev pub the_err : {T : Type 0} → RunFault → Result T RunFault
the_err fault = Err fault

-- a fault is the same beside any answer
pub err_as : {S T : Type 0} (fault other : RunFault) → the_err {T = S} fault ≡ the_err other → the_err {T = T} fault ≡ the_err other
err_as {S} fault other e = ap the_err (ap fault_in e)
  where
    fault_in : Result S RunFault → RunFault
    fault_in (Ok found) = fault
    fault_in (Err why) = why
