-- What is said where no run is wanted, or none begins.
use Rattle.{std.proofs.Common.{◌≡◌, ◌⊎◌, inl, inr, ◌≤◌, ℕ, List, Option, Some, refl, sym, subst, arith}, fx_io.specs.Outside.{append, AppendsFront, Rose}}
use Rattle.{line_run.proofs.Ahead.{append_nothing}, replay.specs.{Checkpoints.{checkpoint_text}, Refusals.{refusal_text}, Wanted.{Files}}}
use Rattle.{replay.specs.declared.refusal.Refusal.{Refusal}, desk.specs.declared.reading.RulesFault.{RulesFault, TheVariants.{Refused, ReadFault, NoMemory}}}
use Rattle.desk.specs.{Meanings.{Engines}, Report.{IsSaid, IsServed, IsStopped, usage}, Wanted.{Wanted, usage_line, says, refuses, refuses_image, runs}}
use Rattle.desk.specs.Wanted.{runs_over}

-- the line was written, or a front of it
pub said : (line : List ℕ) (wanted : ℕ) (before after : Option (List ℕ)) (files files' : Option Files) (status : ℕ) → files' ≡ files → (status ≡ wanted → after ≡ append before line)
    → (5 ≤ status → AppendsFront before after line) → (status ≡ wanted) ⊎ ((6 ≤ status) × (status ≤ 7)) → IsSaid line wanted before after files files' status
said line wanted before after files files' status same low high answers = (here answers, same)
  where
    here : (status ≡ wanted) ⊎ ((6 ≤ status) × (status ≤ 7)) → ((status ≡ wanted) × (after ≡ append before line)) ⊎ ((5 ≤ status) × (status ≤ 7) × AppendsFront before after line)
    here (inl is) = inl (is, low is)
    here (inr other) = inr (omega (arith, other.0), other.1, high (omega (arith, other.0)))

said_nothing : (line : List ℕ) (wanted : ℕ) (before : Option (List ℕ)) (files : Option Files) (status : ℕ) → 5 ≤ status → status ≤ 7 → IsSaid line wanted before before files files status
said_nothing line wanted before files status low high = (inr (low, high, (0, omega arith, sym (append_nothing before))), refl)

-- a read failed, or memory was refused, before anything was written
pub unbegun : (engines : Engines) (w : Wanted) (script : List ℕ) (before : Option (List ℕ)) (files : Option Files) (status : ℕ) → 5 ≤ status → status ≤ 7
    → IsServed engines w script before before files files status
unbegun engines usage_line script before files status low high = said_nothing usage 2 before files status low high
unbegun engines (says text) script before files status low high = said_nothing text 0 before files status low high
unbegun engines (refuses refusal) script before files status low high = said_nothing (refusal_text refusal) 3 before files status low high
unbegun engines (refuses_image code) script before files status low high = said_nothing (checkpoint_text code) 9 before files status low high
unbegun engines (runs b) script before files status low high = inr (inr (low, high, refl, refl))
unbegun engines (runs_over c) script before files status low high = inr (inr (low, high, refl, refl))

-- nothing was taken of the script where a read failed before the run began
pub unasked : (engines : Engines) (w : Wanted) (script : List ℕ) (left before : Option (List ℕ)) (files : Option Files) → left ≡ Some script → IsStopped engines w script left before before files files
unasked engines usage_line script left before files is = (refl, refl)
unasked engines (says text) script left before files is = (refl, refl)
unasked engines (refuses refusal) script left before files is = (refl, refl)
unasked engines (refuses_image code) script left before files is = (refl, refl)
unasked engines (runs b) script left before files is = inr (is, refl, refl)
unasked engines (runs_over c) script left before files is = inr (is, refl, refl)

-- there are no rules to run
pub unruled : (engines : Engines) (w : Wanted) (script : List ℕ) (before after : Option (List ℕ)) (files files' : Option Files) (status : ℕ) (fault : RulesFault)
    → ((refusal : Refusal) → fault ≡ Refused refusal → w ≡ refuses refusal) → ((refusal : Refusal) → fault ≡ Refused refusal → IsSaid (refusal_text refusal) 3 before after files files' status)
    → (((refusal : Refusal) → fault ≡ Refused refusal → ⊥) → (5 ≤ status) × (status ≤ 7) × (after ≡ before) × (files' ≡ files)) → IsServed engines w script before after files files' status
unruled engines w script before after files files' status (Refused refusal) is told silent =
    subst (λ (w : Wanted). IsServed engines w script before after files files' status) (sym (is refusal refl)) (told refusal refl)
unruled engines w script before after files files' status ReadFault is told silent =
    let q = silent (λ refusal e. absurd cc) in rw (q.2, q.3) (unbegun engines w script before files status q.0 q.1)
unruled engines w script before after files files' status NoMemory is told silent =
    let q = silent (λ refusal e. absurd cc) in rw (q.2, q.3) (unbegun engines w script before files status q.0 q.1)

-- ---- counts of faults

-- they rose since a moment before
pub rose_behind : (a b c d : ℕ) → a ≤ b → b ≤ c → Rose c d → Rose a d
rose_behind a b c d first next (inl less) = inl (omega (arith, first, next, less))
rose_behind a b c d first next (inr full) = inr full
