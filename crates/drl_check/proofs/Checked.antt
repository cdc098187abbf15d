-- What an answer that is the checked one tells.
use Rattle.drl_check.proofs.Common.{◌≡◌, ℕ, Option, Some, None, Result, Ok, Err, refl, sym, ap, subst, ◌∙◌, IfOk, All, File, Program, Rule, IsRunnable}
use Rattle.drl_check.proofs.Common.{AreSolvable, CheckCode, Refused, NoMemory, Failure, failure_of, IsAcceptedFile, IsFirstFailure, program_of}
use Rattle.drl_check.specs.{declared.fault.CheckFault.{CheckFault}, Outcomes.{checked_by, checked}, Answers.{within_32_bits, check_fault_of, GivesChecked}}
use Rattle.drl_check.proofs.{Exact.{exact_none, is_first_failure}, Runnable.{accepted_runnable}, Solvable.{accepted_match}}

by_ok : (o : Option Failure) (p q : Program) → checked_by o p ≡ Ok q → (o ≡ None) × (q ≡ p)
by_ok None p q e = (refl, cc)
by_ok (Some f) p q e = absurd cc

by_err : (o : Option Failure) (p : Program) (f : Failure) → checked_by o p ≡ Err f → o ≡ Some f
by_err None p f e = absurd cc
by_err (Some g) p f e = let h : g ≡ f = cc in ap Some h

pub given_program : (r : Result Program CheckFault) (file : File) → GivesChecked (λ (p : Program). p) r (checked file) → IfOk r (λ p. p ≡ program_of file)
unfolding checked
given_program (Ok p) file g = (by_ok (failure_of file) (program_of file) p g).1
given_program (Err fault) file g = tt

pub given_accepted : (r : Result Program CheckFault) (file : File) → GivesChecked (λ (p : Program). p) r (checked file) → IfOk r (λ _. IsAcceptedFile file)
unfolding checked
given_accepted (Ok p) file g = (exact_none file).0 (by_ok (failure_of file) (program_of file) p g).0
given_accepted (Err fault) file g = tt

pub given_sound : (r : Result Program CheckFault) (file : File) → GivesChecked (λ (p : Program). p) r (checked file) → IfOk r IsRunnable
unfolding checked
given_sound (Ok p) file g =
    let h = by_ok (failure_of file) (program_of file) p g in
    subst IsRunnable (sym h.1) (accepted_runnable file ((exact_none file).0 h.0))
given_sound (Err fault) file g = tt

abbrev CanMatch : Program → Type 0
CanMatch p = All (λ (rule : Rule). AreSolvable p rule.conditions) p.rules

pub given_solvable : (r : Result Program CheckFault) (file : File) → GivesChecked (λ (p : Program). p) r (checked file) → IfOk r CanMatch
unfolding checked
given_solvable (Ok p) file g =
    let h = by_ok (failure_of file) (program_of file) p g in
    subst CanMatch (sym h.1) (accepted_match file ((exact_none file).0 h.0))
given_solvable (Err fault) file g = tt

refused_by : (file : File) (f : Failure) (item line : ℕ) (code : CheckCode) → failure_of file ≡ Some f → check_fault_of f ≡ Refused item line code
    → (number : ℕ) × (item ≡ within_32_bits number) × IsFirstFailure file number line code
refused_by file f item line code e h =
    let i : within_32_bits f.number ≡ item = cc in
    let l : f.line ≡ line = cc in
    let c : f.code ≡ code = cc in
    (f.number, sym i, subst (λ (l : ℕ). IsFirstFailure file f.number l code) l (subst (λ (c : CheckCode). IsFirstFailure file f.number f.line c) c (is_first_failure file f e)))

pub given_refused : (r : Result Program CheckFault) (file : File) → GivesChecked (λ (p : Program). p) r (checked file) → (item line : ℕ) (code : CheckCode) → r ≡ Err (Refused item line code)
    → (number : ℕ) × (item ≡ within_32_bits number) × IsFirstFailure file number line code
unfolding checked
given_refused (Ok p) file g item line code e = absurd cc
given_refused (Err (Refused i l c)) file g item line code e =
    let same : Refused i l c ≡ Refused item line code = cc in
    refused_by file g.0 item line code (by_err (failure_of file) (program_of file) g.0 g.1) (g.2 ∙ same)
given_refused (Err NoMemory) file g item line code e = absurd cc
