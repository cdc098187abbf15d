-- The program of an accepted rule file may be run.
use Rattle.replay.proofs.Common.{◌≡◌, ℕ, List, Option, Some, None, Result, Ok, Err, refl, sym, subst, Failure, failure_of, checked_by, Written, Parsed, is_file}
use Rattle.replay.proofs.Common.{lexical, outside, parsed, too_long, rules_text, Asked, RuleFile, Load, Mode, Run, Save, Check, Lives, Proof, Program}
use Rattle.replay.proofs.Common.{Checkpoint, checkpoint_in, has_image, is_refused, of_checked, of_obstacle, of_parsed, plain_file, reading, Reading, Accepted}
use Rattle.replay.proofs.Common.{Refused, obstacle, Wanted, Files, saves, saves_on, resumes, wanted_behind, wanted_by, wanted_by_file, wanted_by_reading}
use Rattle.replay.{proofs.Common.{wanted_from, wanted_rules, sums_up}, specs.{Refusals.{IsSoundReading}, Wanted.{wanted_by_name, wanted_by_number}}}
use Rattle.{replay.proofs.Titles.{is_runnable}, drl_check.{specs.Outcomes.{checked}, proofs.{Exact.{exact_none}, Runnable.{accepted_runnable}}}}
use Rattle.{drl_grammar.specs.declared.file.File.{File}, drl_compile.specs.Programs.{program_of}, rule_world.specs.Programs.{IsRunnable}}
use Rattle.subrules.specs.{declared.fault.Obstacle.{Obstacle}, Expanded.{titles}}

by_ok : (o : Option Failure) (p q : Program) → checked_by o p ≡ Ok q → (o ≡ None) × (q ≡ p)
by_ok None p q e = (refl, cc)
by_ok (Some f) p q e = absurd cc

checked_runnable : (file : File) (p : Program) → checked file ≡ Ok p → IsRunnable p
unfolding checked
checked_runnable file p e =
    let h = by_ok (failure_of file) (program_of file) p e in
    subst IsRunnable (sym h.1) (accepted_runnable file ((exact_none file).0 h.0))

of_checked_sound : (file : Written) (r : Result Program Failure) → checked (plain_file file) ≡ r → IsSoundReading (of_checked file r)
of_checked_sound file (Ok p) e = is_runnable (titles file.items) p (checked_runnable (plain_file file) p e)
of_checked_sound file (Err f) e = tt

of_obstacle_sound : (file : Written) (o : Option Obstacle) → IsSoundReading (of_obstacle file o)
of_obstacle_sound file None = of_checked_sound file (checked (plain_file file)) refl
of_obstacle_sound file (Some o) = tt

of_parsed_sound : (found : Parsed) → IsSoundReading (of_parsed found)
of_parsed_sound (is_file file) = of_obstacle_sound file (obstacle file.items)
of_parsed_sound (outside item line) = tt
of_parsed_sound too_long = tt
of_parsed_sound (lexical code line) = tt

pub reading_sound : (bytes : List ℕ) → IsSoundReading (reading bytes)
reading_sound bytes = of_parsed_sound (parsed bytes)

-- ---- what is wanted

-- where a script is wanted to be run from a file, its program may be run
abbrev pub WantsRunnable : Wanted → Type 0
WantsRunnable (resumes limit image p) = IsRunnable p
WantsRunnable (saves limit rules p) = IsRunnable p
WantsRunnable (saves_on limit image p) = IsRunnable p
WantsRunnable _ = Unit {0}

by_reading : (of_program : Program → Wanted) (r : Reading) → ((p : Program) → IsRunnable p → WantsRunnable (of_program p)) → IsSoundReading r → WantsRunnable (wanted_by_reading of_program r)
by_reading of_program (Accepted p) h sound = h p sound
by_reading of_program (Refused refusal) h sound = tt

by_file : (of_program : Program → Wanted) (file : Option (List ℕ)) → ((p : Program) → IsRunnable p → WantsRunnable (of_program p)) → WantsRunnable (wanted_by_file of_program file)
by_file of_program None h = tt
by_file of_program (Some file) h = by_reading of_program (reading file) h (reading_sound file)

by_checkpoint : (mode : Mode) (limit : ℕ) (found : Checkpoint) (p : Program) → IsRunnable p → WantsRunnable (wanted_behind mode limit found p)
by_checkpoint Run limit (has_image image) p h = h
by_checkpoint Run limit (is_refused code) p h = tt
by_checkpoint Check limit found p h = tt
by_checkpoint Lives limit found p h = tt
by_checkpoint Proof limit found p h = tt
by_checkpoint Save limit (has_image image) p h = h
by_checkpoint Save limit (is_refused code) p h = tt

by_mode : (mode : Mode) (limit : ℕ) (image : Option (List ℕ)) (files : Files) (rules : List ℕ) (p : Program) → IsRunnable p → WantsRunnable (wanted_from mode limit image files rules p)
by_mode Run limit None files rules p h = tt
by_mode Check limit None files rules p h = tt
by_mode Lives limit None files rules p h = tt
by_mode Proof limit None files rules p h = tt
by_mode Save limit None files rules p h = h
by_mode mode limit (Some image) files rules p h = by_checkpoint mode limit (checkpoint_in rules (files image)) p h

pub wants_runnable : (asked : Option Asked) (files : Files) → WantsRunnable (wanted_by asked files)
unfolding wanted_by_name wanted_by_number
wants_runnable None files = tt
wants_runnable (Some (RuleFile name mode limit image)) files =
    by_file (wanted_from mode limit image files (wanted_rules (files name))) (files name) (λ p h. by_mode mode limit image files (wanted_rules (files name)) p h)
wants_runnable (Some (Load number limit)) files = by_reading (sums_up number limit) (reading rules_text) (λ p h. tt) (reading_sound rules_text)
