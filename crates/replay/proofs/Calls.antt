-- What a call does, by what its parts did.
use Rattle.replay.proofs.Common.{◌≡◌, ◌≢◌, ◌⊎◌, inl, inr, ◌<◌, ◌≤◌, ◌^◌, ℕ, List, [], length, Option, Some, None, option_map, refl, sym, ap, subst, ◌∙◌, arith}
use Rattle.replay.proofs.Common.{String, Global, IfSome, Rose, append, AppendsFront, count_after, IsOnShelf, Asked, RuleFile, Load, Mode, Run, Check, Lives}
use Rattle.replay.proofs.Common.{Proof, Save, rules_text, Program, Script, Limit, Gives, Fires, Counts, progress_behind, Outcome, RunSetting, RunState, at_end}
use Rattle.replay.proofs.Common.{first_state, setting_of, state_in, StoppedAtRead, Beginning, First, Behind, Refusal, CheckpointCode, Reading, Accepted}
use Rattle.replay.proofs.Common.{Refused, RefusesFor, RunsIn, ShelfSeen, Outside, seen, wanted_told, TellsScript, MayEnd, RunOf, Says, checkpoint_text, usage}
use Rattle.replay.proofs.Common.{reading, refusal_text, Report, Reports, IsReport, IsWritten, IsLong, IsStopped, TakesFor, checkpoint_report, Wanted, Files}
use Rattle.replay.proofs.Common.{usage_line, refuses, refuses_checkpoint, runs, resumes, saves, saves_on, accepts, tells_lives, proves, sums_up, wanted_at}
use Rattle.replay.proofs.Common.{wanted_by, wanted_from, wanted_rules, wanted_by_file, wanted_by_reading, IfRefuses, ReadsFile, RunsScript, IsUnfit, ReadFails}
use Rattle.replay.{proofs.{Common.{MayRefuse}, Reports.{front_by, front_none}}, specs.Wanted.{wanted, wanted_by_name, wanted_by_number}}
use Rattle.{command_words.specs.Asked.{asked_by}, script_run.specs.Run.{run as run_lines, step_in}, line_run.proofs.Ahead.{append_nothing, stopped_at_once}}
use Rattle.line_run.proofs.Stops.{none_given}

pub some_is : {A : Type 0} {x y : A} → Some x ≡ Some y → x ≡ y
some_is e = cc

-- ---- what is written

-- what was written is what is said, or a front of it
pub written_as : {gives : Gives} {fires : Fires} {counts : Counts} {w : Wanted} {script : List ℕ} {before after : Option (List ℕ)} {status : ℕ} (q : Report)
    → IsReport gives fires counts w script q → Says before after status q → IsWritten gives fires counts w script before after status
written_as {gives} {fires} {counts} {w} {script} {before} {after} {status} q is says = record {
  exact = λ low. (q, is, says.0 (inl low));
  refused = λ nine. (q, is, says.0 (inr nine));
  front = λ high. front_by gives fires counts w script q before after is (says.1 high);
}

-- a report with a status up to 4
pub says_low : (before after : Option (List ℕ)) (status : ℕ) (q : Report) → (status ≤ 4 → (after ≡ append before q.bytes) × (status ≡ q.status)) → (5 ≤ status → AppendsFront before after q.bytes)
    → status ≢ 9 → Says before after status q
says_low before after status q said front not_9 = (so, front)
  where
    so : (status ≤ 4) ⊎ (status ≡ 9) → Reports before after status q
    so (inl low) = said low
    so (inr nine) = absurd (not_9 nine)

pub none_written : (before : Option (List ℕ)) (bytes : List ℕ) → AppendsFront before before bytes
none_written before bytes = (0, omega arith, sym (append_nothing before))

-- ---- calls that leave the script alone

abbrev pub NoRun : Option Asked → Type 0
NoRun asked = IfSome asked (λ it. RunsScript it → ⊥)

pub run_never : (asked : Option Asked) (P : Type 0) → NoRun asked → IfSome asked (λ it. RunsScript it → P)
run_never None P h = tt
run_never (Some it) P h = λ run. absurd (h run)

pub none_taken : (s given : ℕ) → s ≢ 8 → (n : ℕ) × (given ≡ count_after given n) × TakesFor s n
none_taken s given not_8 = (0, none_given given, record { most = omega arith; more = λ eight. absurd (not_8 eight); done = λ low. omega arith; failed = λ five. omega arith })

-- something was said, and the script was left alone
pub script_unread : (gives : Gives) (fires : Fires) (counts : Counts) (asked : Option Asked) (w : Wanted) (first last : ShelfSeen) (left : Option (List ℕ)) (given faults : ℕ)
    (before after : Option (List ℕ)) (failed failed' s : ℕ) → ((script : List ℕ) → IsWritten gives fires counts w script before after s)
    → MayEnd asked s → s ≢ 5 → s ≢ 8 → (s ≡ 3 → IfRefuses w (λ refusal. after ≡ append before (refusal_text refusal))) → (s ≡ 2 → after ≡ append before usage)
    → (s ≡ 3 → IfSome asked (IsUnfit first.files first.misses last.misses)) → (s ≡ 6 → Rose failed failed')
    → (s ≡ 9 → (it : Asked) × (asked ≡ Some it) × MayRefuse first.files first.misses last.misses it) → (s ≤ 1 → NoRun asked)
    → RunOf gives fires counts asked (Some w) (seen first left given faults before failed) (seen last left given faults after failed') s
script_unread gives fires counts asked w first last left given faults before after failed failed' s written ends not_5 not_8 refusal said file write nine alone = record {
  written = λ v script is tells. subst (λ (x : Wanted). IsWritten gives fires counts x script before after s) (some_is is) (written script);
  stopped = λ v script is tells stop. absurd (no_stop stop);
  long = λ v script is tells eight. absurd (not_8 eight);
  refusal = λ v is three. subst (λ (x : Wanted). IfRefuses x (λ it. after ≡ append before (refusal_text it))) (some_is is) (refusal three);
  said_usage = said;
  ends = ends;
  file = file;
  read = λ five. absurd (not_5 five);
  checkpoint = nine;
  write = write;
  over = λ eight. absurd (not_8 eight);
  taken = none_taken s given not_8;
  nothing_left = λ low. run_never asked (IfSome left (λ bytes. bytes ≡ [])) (alone low);
}
  where
    no_stop : (s ≡ 5) ⊎ (s ≡ 8) → ⊥
    no_stop (inl five) = not_5 five
    no_stop (inr eight) = not_8 eight

-- an accepted file of which no script is run
pub mode_done : (gives : Gives) (fires : Fires) (counts : Counts) (name : List ℕ) (mode : Mode) (limit : ℕ) (image : Option (List ℕ)) (w : Wanted) (first last : ShelfSeen) (left : Option (List ℕ))
    (given faults : ℕ) (before after : Option (List ℕ)) (failed failed' s : ℕ) → (RunsIn mode → ⊥) → ((script : List ℕ) → IsWritten gives fires counts w script before after s)
    → (s ≡ 0) ⊎ ((6 ≤ s) × (s ≤ 7)) → (s ≡ 6 → Rose failed failed')
    → RunOf gives fires counts (Some (RuleFile name mode limit image)) (Some w) (seen first left given faults before failed) (seen last left given faults after failed') s
mode_done gives fires counts name mode limit image w first last left given faults before after failed failed' s not_run written answers write =
    script_unread gives fires counts (Some (RuleFile name mode limit image)) w first last left given faults before after failed failed' s written
    (ends answers) (other 5 (omega arith) (inl (omega arith)) answers) (other 8 (omega arith) (inr (omega arith)) answers) (λ three. absurd (other 3 (omega arith) (inl (omega arith)) answers three))
    (λ two. absurd (other 2 (omega arith) (inl (omega arith)) answers two)) (λ three. absurd (other 3 (omega arith) (inl (omega arith)) answers three)) write
    (λ nine. absurd (other 9 (omega arith) (inr (omega arith)) answers nine)) (λ low. not_run)
  where
    ends : (s ≡ 0) ⊎ ((6 ≤ s) × (s ≤ 7)) → MayEnd (Some (RuleFile name mode limit image)) s
    ends (inl none) = inl (omega (arith, none))
    ends (inr both) = inr (omega (arith, both.0), omega (arith, both.1))

    other : (n : ℕ) → 0 < n → (n < 6) ⊎ (7 < n) → (s ≡ 0) ⊎ ((6 ≤ s) × (s ≤ 7)) → s ≢ n
    other n some apart (inl none) e = omega (arith, none, e, some)
    other n some (inl less) (inr both) e = omega (arith, both.0, e, less)
    other n some (inr more) (inr both) e = omega (arith, both.1, e, more)

-- a status of such a mode is none that refuses a checkpoint
pub not_nine : (s : ℕ) → (s ≡ 0) ⊎ ((6 ≤ s) × (s ≤ 7)) → s ≢ 9
not_nine s (inl none) e = omega (arith, none, e)
not_nine s (inr both) e = omega (arith, both.1, e)

-- a call may end with a refusal
refusal_ends : (name : List ℕ) (mode : Mode) (limit : ℕ) (image : Option (List ℕ)) (s : ℕ) → (s ≡ 3) ⊎ ((6 ≤ s) × (s ≤ 7)) → MayEnd (Some (RuleFile name mode limit image)) s
refusal_ends name mode limit image s (inl three) = inr (omega (arith, three), omega (arith, three))
refusal_ends name mode limit image s (inr both) = inr (omega (arith, both.0), omega (arith, both.1))

-- what rose since a later count rose since an earlier one
pub rose_since : {a b c : ℕ} → a ≤ b → Rose b c → Rose a c
rose_since h (inl less) = inl (omega (arith, h, less))
rose_since h (inr most) = inr most

pub refuses_since : {told told' : Option Files} {before between after : List ℕ → ℕ} {mode : Mode} {name : Option (List ℕ)} → told' ≡ told → ((it : List ℕ) → before it ≤ between it)
    → RefusesFor told' between after mode name → RefusesFor told before after mode name
refuses_since {told} {told'} {before} {between} {after} {mode} {name} same counts (run, it, named, cause) = (run, it, named, here cause)
  where
    here : Rose (between it) (after it) ⊎ IsOnShelf told' it → Rose (before it) (after it) ⊎ IsOnShelf told it
    here (inl rose) = inl (rose_since (counts it) rose)
    here (inr found) = inr (subst (λ (t : Option Files). IsOnShelf t it) same found)

-- a rule file that is missing or refused
pub refused_done : (gives : Gives) (fires : Fires) (counts : Counts) (name : List ℕ) (mode : Mode) (limit : ℕ) (image : Option (List ℕ)) (refusal : Refusal) (first last : ShelfSeen) (left : Option (List ℕ))
    (given faults : ℕ) (before after : Option (List ℕ)) (failed failed' s : ℕ) → (s ≤ 4 → (after ≡ append before (refusal_text refusal)) × (s ≡ 3)) → (5 ≤ s → AppendsFront before after (refusal_text refusal))
    → (s ≡ 3) ⊎ ((6 ≤ s) × (s ≤ 7)) → (s ≡ 6 → Rose failed failed') → (s ≡ 3 → IsUnfit first.files first.misses last.misses (RuleFile name mode limit image))
    → RunOf gives fires counts (Some (RuleFile name mode limit image)) (Some (refuses refusal)) (seen first left given faults before failed) (seen last left given faults after failed') s
refused_done gives fires counts name mode limit image refusal first last left given faults before after failed failed' s said front answers write file =
    script_unread gives fires counts (Some (RuleFile name mode limit image)) (refuses refusal) first last left given faults before after failed failed' s
    (λ script. written_as (record { bytes = refusal_text refusal; status = 3 }) refl (says_low _ _ _ _ said front (λ nine. other answers (inr (inr (inr nine))))))
    (refusal_ends name mode limit image s answers) (λ five. other answers (inr (inl five))) (λ eight. other answers (inr (inr (inl eight)))) (λ three. (said (omega (arith, three))).0)
    (λ two. absurd (other answers (inl (omega (arith, two))))) file write (λ nine. absurd (other answers (inr (inr (inr nine))))) (λ low. absurd (other answers (inl (omega (arith, low)))))
  where
    other : (s ≡ 3) ⊎ ((6 ≤ s) × (s ≤ 7)) → (s ≤ 2) ⊎ (s ≡ 5) ⊎ (s ≡ 8) ⊎ (s ≡ 9) → ⊥
    other answers is = grind (arith, answers, is)

-- a checkpoint that is refused before the script is run
pub checkpoint_done : (gives : Gives) (fires : Fires) (counts : Counts) (name : List ℕ) (mode : Mode) (limit : ℕ) (image : Option (List ℕ)) (w : Wanted) (code : CheckpointCode) (first last : ShelfSeen)
    (left : Option (List ℕ)) (given faults : ℕ) (before after : Option (List ℕ)) (failed failed' s : ℕ) → ((script : List ℕ) → IsReport gives fires counts w script (checkpoint_report code))
    → (s ≡ 9 → after ≡ append before (checkpoint_text code)) → (5 ≤ s → AppendsFront before after (checkpoint_text code)) → (s ≡ 9) ⊎ ((6 ≤ s) × (s ≤ 7)) → (s ≡ 6 → Rose failed failed')
    → MayRefuse first.files first.misses last.misses (RuleFile name mode limit image)
    → RunOf gives fires counts (Some (RuleFile name mode limit image)) (Some w) (seen first left given faults before failed) (seen last left given faults after failed') s
checkpoint_done gives fires counts name mode limit image w code first last left given faults before after failed failed' s is said front answers write may =
    script_unread gives fires counts (Some (RuleFile name mode limit image)) w first last left given faults before after failed failed' s
    (λ script. written_as (checkpoint_report code) (is script) (so, front))
    (ends answers) (λ five. other answers (inr (inl five))) (λ eight. other answers (inr (inr eight))) (λ three. absurd (other answers (inl (omega (arith, three)))))
    (λ two. absurd (other answers (inl (omega (arith, two))))) (λ three. absurd (other answers (inl (omega (arith, three))))) write (λ nine. (RuleFile name mode limit image, refl, may))
    (λ low. absurd (other answers (inl (omega (arith, low)))))
  where
    other : (s ≡ 9) ⊎ ((6 ≤ s) × (s ≤ 7)) → (s ≤ 4) ⊎ (s ≡ 5) ⊎ (s ≡ 8) → ⊥
    other answers is = grind (arith, answers, is)

    ends : (s ≡ 9) ⊎ ((6 ≤ s) × (s ≤ 7)) → MayEnd (Some (RuleFile name mode limit image)) s
    ends (inl nine) = inr (omega (arith, nine), omega (arith, nine))
    ends (inr both) = inr (omega (arith, both.0), omega (arith, both.1))

    so : (s ≤ 4) ⊎ (s ≡ 9) → Reports before after s (checkpoint_report code)
    so (inl low) = absurd (other answers (inl low))
    so (inr nine) = (said nine, nine)

-- words that are refused
pub usage_done : (gives : Gives) (fires : Fires) (counts : Counts) (first last : ShelfSeen) (left : Option (List ℕ)) (given faults : ℕ) (before after : Option (List ℕ)) (failed failed' s : ℕ)
    → (s ≤ 4 → (after ≡ append before usage) × (s ≡ 2)) → (5 ≤ s → AppendsFront before after usage) → (s ≡ 2) ⊎ (s ≡ 6) → (s ≡ 6 → Rose failed failed')
    → RunOf gives fires counts None (Some usage_line) (seen first left given faults before failed) (seen last left given faults after failed') s
usage_done gives fires counts first last left given faults before after failed failed' s said front answers write =
    script_unread gives fires counts None usage_line first last left given faults before after failed failed' s
    (λ script. written_as (record { bytes = usage; status = 2 }) refl (says_low _ _ _ _ said front not_9))
    (ends answers) (λ five. other answers (inl five)) (λ eight. other answers (inr (inl eight))) (λ three. absurd (other answers (inr (inr three))))
    (λ two. (said (omega (arith, two))).0) (λ three. tt) write (λ nine. absurd (not_9 nine)) (λ low. tt)
  where
    not_9 : s ≢ 9
    not_9 nine = grind (arith, answers, nine)

    ends : (s ≡ 2) ⊎ (s ≡ 6) → MayEnd None s
    ends (inl two) = inl two
    ends (inr six) = inr (omega (arith, six), omega (arith, six))

    other : (s ≡ 2) ⊎ (s ≡ 6) → (s ≡ 5) ⊎ (s ≡ 8) ⊎ (s ≡ 3) → ⊥
    other (inl two) (inl e) = omega (arith, two, e)
    other (inl two) (inr (inl e)) = omega (arith, two, e)
    other (inl two) (inr (inr e)) = omega (arith, two, e)
    other (inr six) (inl e) = omega (arith, six, e)
    other (inr six) (inr (inl e)) = omega (arith, six, e)
    other (inr six) (inr (inr e)) = omega (arith, six, e)

pub load_not_nine : (s : ℕ) → (s ≤ 1) ⊎ (s ≡ 4) ⊎ ((6 ≤ s) × (s ≤ 7)) → s ≢ 9
load_not_nine s answers nine = grind (arith, answers, nine)

-- a load
pub load_done : (gives : Gives) (fires : Fires) (counts : Counts) (number limit : ℕ) (w : Wanted) (first last : ShelfSeen) (left : Option (List ℕ)) (given faults : ℕ)
    (before after : Option (List ℕ)) (failed failed' s : ℕ) → ((script : List ℕ) → IsWritten gives fires counts w script before after s)
    → (s ≤ 1) ⊎ (s ≡ 4) ⊎ ((6 ≤ s) × (s ≤ 7)) → (s ≡ 6 → Rose failed failed')
    → RunOf gives fires counts (Some (Load number limit)) (Some w) (seen first left given faults before failed) (seen last left given faults after failed') s
load_done gives fires counts number limit w first last left given faults before after failed failed' s written answers write =
    script_unread gives fires counts (Some (Load number limit)) w first last left given faults before after failed failed' s written
    answers (λ five. other answers (inl five)) (λ eight. other answers (inr (inl eight))) (λ three. absurd (other answers (inr (inr (inl three)))))
    (λ two. absurd (other answers (inr (inr (inr (inl two)))))) (λ three. absurd (other answers (inr (inr (inl three))))) write (λ nine. absurd (other answers (inr (inr (inr (inr nine)))))) (λ low run. run)
  where
    other : (s ≤ 1) ⊎ (s ≡ 4) ⊎ ((6 ≤ s) × (s ≤ 7)) → (s ≡ 5) ⊎ (s ≡ 8) ⊎ (s ≡ 3) ⊎ (s ≡ 2) ⊎ (s ≡ 9) → ⊥
    other answers is = grind (arith, answers, is)

-- nothing of the script was taken, and nothing was written
nothing_stopped : (gives : Gives) (fires : Fires) (counts : Counts) (w : Wanted) (script : List ℕ) (left before : Option (List ℕ)) → left ≡ Some script
    → IsStopped gives fires counts w script left before before
nothing_stopped gives fires counts (runs limit p) script left before tells = λ table are. stopped_at_once (step_in (setting_of gives fires counts limit p table)) (first_state limit) script left before tells
nothing_stopped gives fires counts (resumes limit image p) script left before tells = λ table are w lawful is.
    stopped_at_once (step_in (setting_of gives fires counts limit p table)) (state_in w (progress_behind limit image.run)) script left before tells
nothing_stopped gives fires counts (saves limit rules p) script left before tells = refl
nothing_stopped gives fires counts (saves_on limit image p) script left before tells = refl
nothing_stopped gives fires counts usage_line script left before tells = refl
nothing_stopped gives fires counts (refuses refusal) script left before tells = refl
nothing_stopped gives fires counts (refuses_checkpoint code) script left before tells = refl
nothing_stopped gives fires counts (accepts p) script left before tells = refl
nothing_stopped gives fires counts (tells_lives p) script left before tells = refl
nothing_stopped gives fires counts (proves p) script left before tells = refl
nothing_stopped gives fires counts (sums_up number limit p) script left before tells = refl

-- why a call ends that does nothing
abbrev pub Reason : Option Asked → ShelfSeen → ShelfSeen → ℕ → ℕ → Type 0
Reason asked first last faults s = (s ≡ 7) ⊎ ((s ≡ 5) × (it : Asked) × (asked ≡ Some it) × ReadFails first.faults last.faults faults faults it)

-- memory was refused before anything was done, or a file was not read
pub nothing_done : (gives : Gives) (fires : Fires) (counts : Counts) (asked : Option Asked) (wanted : Option Wanted) (first last : ShelfSeen) (left : Option (List ℕ)) (given faults : ℕ)
    (before : Option (List ℕ)) (failed s : ℕ) → MayEnd asked s → Reason asked first last faults s
    → RunOf gives fires counts asked wanted (seen first left given faults before failed) (seen last left given faults before failed) s
nothing_done gives fires counts asked wanted first last left given faults before failed s ends reason = record {
  written = λ w script is tells. record { exact = λ low. absurd (omega (arith, low, between.0)); refused = λ nine. absurd (omega (arith, nine, between.1)); front = λ is_high. front_none gives fires counts w script before (none_written before) };
  stopped = λ w script is tells stop. nothing_stopped gives fires counts w script left before tells;
  long = λ w script is tells eight. absurd (omega (arith, eight, between.1));
  refusal = λ w is three. absurd (omega (arith, three, between.0));
  said_usage = λ two. absurd (omega (arith, two, between.0));
  ends = ends;
  file = λ three. absurd (omega (arith, three, between.0));
  read = λ five. why reason five;
  checkpoint = λ nine. absurd (omega (arith, nine, between.1));
  write = λ six. absurd (between.2 six);
  over = λ eight. absurd (omega (arith, eight, between.1));
  taken = none_taken s given (λ eight. omega (arith, eight, between.1));
  nothing_left = λ low. absurd (omega (arith, low, between.0));
}
  where
    between_so : Reason asked first last faults s → (5 ≤ s) × (s ≤ 7) × (s ≢ 6)
    between_so (inl seven) = (omega (arith, seven), omega (arith, seven), λ six. omega (arith, seven, six))
    between_so (inr h) = let five : s ≡ 5 = h.0 in (omega (arith, five), omega (arith, five), λ six. omega (arith, five, six))

    between : (5 ≤ s) × (s ≤ 7) × (s ≢ 6)
    between = between_so reason

    why : Reason asked first last faults s → s ≡ 5 → (it : Asked) × (asked ≡ Some it) × ReadFails first.faults last.faults faults faults it
    why (inl seven) five = absurd (omega (arith, seven, five))
    why (inr h) five = (h.1, h.2, h.3)

-- ---- what is wanted, where the shelf tells it

-- what is wanted was found, where it is told
pub by_told : {gives : Gives} {fires : Fires} {counts : Counts} {asked : Option Asked} {before after : Outside} {s : ℕ} (told : Option Wanted) (w : Wanted)
    → RunOf gives fires counts asked (Some w) before after s → ((v : Wanted) → told ≡ Some v → v ≡ w) → RunOf gives fires counts asked told before after s
by_told {gives} {fires} {counts} {asked} {before} {after} {s} told w run same = record {
  written = λ v script is tells. run.written v script (found v is) tells;
  stopped = λ v script is tells stop. run.stopped v script (found v is) tells stop;
  long = λ v script is tells eight. run.long v script (found v is) tells eight;
  refusal = λ v is three. run.refusal v (found v is) three;
  said_usage = run.said_usage;
  ends = run.ends;
  file = run.file;
  read = run.read;
  checkpoint = run.checkpoint;
  write = run.write;
  over = run.over;
  taken = run.taken;
  nothing_left = run.nothing_left;
}
  where
    found : (v : Wanted) → told ≡ Some v → Some w ≡ Some v
    found v is = ap Some (sym (same v is))

-- of each of the files that a shelf may tell the same is wanted
pub told_is : (told : Option Files) (by_files : Files → Wanted) (w : Wanted) → ((files : Files) → told ≡ Some files → by_files files ≡ w)
    → (v : Wanted) → option_map by_files told ≡ Some v → v ≡ w
told_is None by_files w h v e = absurd cc
told_is (Some files) by_files w h v e = sym (some_is e) ∙ h files refl

-- ---- what the clauses of a call are taken from

none_8 : {s : ℕ} → (s ≡ 2) ⊎ ((6 ≤ s) × (s ≤ 7)) → s ≡ 8 → ⊥
none_8 (inl two) eight = omega (arith, two, eight)
none_8 (inr most) eight = omega (arith, most.1, eight)

pub wanted_is : (words : List (String Global)) (files : Files) → wanted words files ≡ wanted_by (asked_by words) files
unfolding wanted
wanted_is words files = refl

wanted_so : (asked : Option Asked) (told : Option Files) (files : Files) → told ≡ Some files → wanted_told asked told ≡ Some (wanted_by asked files)
wanted_so None told files e = refl
wanted_so (Some (RuleFile name mode limit image)) told files e = rw e refl
wanted_so (Some (Load number limit)) told files e = refl

-- what is wanted of no rule file is told by each shelf
wanted_unread : (asked : Option Asked) (told : Option Files) (files : Files) → IfSome asked (λ it. ¬ ReadsFile it) → wanted_told asked told ≡ Some (wanted_by asked files)
wanted_unread None told files none = refl
wanted_unread (Some (RuleFile name mode limit image)) told files none = absurd (none tt)
wanted_unread (Some (Load number limit)) told files none = refl

script_told : (w : Wanted) (left : Option (List ℕ)) (script : List ℕ) → left ≡ Some script → TellsScript w left script
script_told usage_line left script e = tt
script_told (refuses refusal) left script e = tt
script_told (refuses_checkpoint code) left script e = tt
script_told (runs limit p) left script e = e
script_told (resumes limit image p) left script e = e
script_told (saves limit rules p) left script e = e
script_told (saves_on limit image p) left script e = e
script_told (accepts p) left script e = tt
script_told (tells_lives p) left script e = tt
script_told (proves p) left script e = tt
script_told (sums_up number limit p) left script e = tt

unread_mode : (mode : Mode) (limit : ℕ) (image : Option (List ℕ)) (files : Files) (rules : List ℕ) (found : Reading) (left : Option (List ℕ)) (script : List ℕ) → (RunsIn mode → ⊥)
    → TellsScript (wanted_by_reading (wanted_from mode limit image files rules) found) left script
unread_mode Run limit image files rules found left script no_run = absurd (no_run (inl refl))
unread_mode Save limit image files rules found left script no_run = absurd (no_run (inr refl))
unread_mode Check limit image files rules (Refused refusal) left script no_run = tt
unread_mode Lives limit image files rules (Refused refusal) left script no_run = tt
unread_mode Proof limit image files rules (Refused refusal) left script no_run = tt
unread_mode Check limit None files rules (Accepted p) left script no_run = tt
unread_mode Check limit (Some it) files rules (Accepted p) left script no_run = tt
unread_mode Lives limit None files rules (Accepted p) left script no_run = tt
unread_mode Lives limit (Some it) files rules (Accepted p) left script no_run = tt
unread_mode Proof limit None files rules (Accepted p) left script no_run = tt
unread_mode Proof limit (Some it) files rules (Accepted p) left script no_run = tt

unread_file : (mode : Mode) (limit : ℕ) (image : Option (List ℕ)) (files : Files) (rules : List ℕ) (file : Option (List ℕ)) (left : Option (List ℕ)) (script : List ℕ) → (RunsIn mode → ⊥)
    → TellsScript (wanted_by_file (wanted_from mode limit image files rules) file) left script
unread_file mode limit image files rules None left script no_run = tt
unread_file mode limit image files rules (Some file) left script no_run = unread_mode mode limit image files rules (reading file) left script no_run

unread_load : (number limit : ℕ) (found : Reading) (left : Option (List ℕ)) (script : List ℕ) → TellsScript (wanted_by_reading (sums_up number limit) found) left script
unread_load number limit (Accepted p) left script = tt
unread_load number limit (Refused refusal) left script = tt

-- where no script is to be run, nothing is asked of it
script_unasked : (asked : Option Asked) (files : Files) (left : Option (List ℕ)) (script : List ℕ) → NoRun asked → TellsScript (wanted_by asked files) left script
unfolding wanted_by_name wanted_by_number
script_unasked None files left script no_run = tt
script_unasked (Some (RuleFile name mode limit image)) files left script no_run = unread_file mode limit image files (wanted_rules (files name)) (files name) left script no_run
script_unasked (Some (Load number limit)) files left script no_run = unread_load number limit (reading rules_text) left script

no_file_no_run : (asked : Option Asked) → IfSome asked (λ it. ¬ ReadsFile it) → NoRun asked
no_file_no_run None none = tt
no_file_no_run (Some (RuleFile name mode limit image)) none = absurd (none tt)
no_file_no_run (Some (Load number limit)) none = λ run. run

module _ {gives : Gives} {fires : Fires} {counts : Counts} {asked : Option Asked} {before after : Outside} {s : ℕ} (run : RunOf gives fires counts asked (wanted_told asked before.shelf.files) before after s) where
  -- the shelf and the script tell their bytes
  pub written_told : (files : Files) (script : List ℕ) → before.shelf.files ≡ Some files → before.left ≡ Some script
      → IsWritten gives fires counts (wanted_by asked files) script before.written after.written s
  written_told files script told tells = run.written (wanted_by asked files) script (wanted_so asked before.shelf.files files told) (script_told (wanted_by asked files) before.left script tells)

  pub long_told : (files : Files) (script : List ℕ) → before.shelf.files ≡ Some files → before.left ≡ Some script → s ≡ 8 → IsLong gives fires counts (wanted_by asked files) script
  long_told files script told tells eight = run.long (wanted_by asked files) script (wanted_so asked before.shelf.files files told) tells eight

  pub stopped_told : (files : Files) (script : List ℕ) → before.shelf.files ≡ Some files → before.left ≡ Some script → (s ≡ 5) ⊎ (s ≡ 8)
      → IsStopped gives fires counts (wanted_by asked files) script after.left before.written after.written
  stopped_told files script told tells stop = run.stopped (wanted_by asked files) script (wanted_so asked before.shelf.files files told) tells stop

  pub refusal_told : (files : Files) → before.shelf.files ≡ Some files → s ≡ 3 → IfRefuses (wanted_by asked files) (λ refusal. after.written ≡ append before.written (refusal_text refusal))
  refusal_told files told three = run.refusal (wanted_by asked files) (wanted_so asked before.shelf.files files told) three

  -- no script is run, and the shelf tells its files
  pub written_no_script : (files : Files) (script : List ℕ) → before.shelf.files ≡ Some files → NoRun asked
      → IsWritten gives fires counts (wanted_by asked files) script before.written after.written s
  written_no_script files script told no_run = run.written (wanted_by asked files) script (wanted_so asked before.shelf.files files told) (script_unasked asked files before.left script no_run)

  -- no rule file is read
  pub written_no_file : (files : Files) (script : List ℕ) → IfSome asked (λ it. ¬ ReadsFile it)
      → IsWritten gives fires counts (wanted_by asked files) script before.written after.written s
  written_no_file files script none = run.written (wanted_by asked files) script (wanted_unread asked before.shelf.files files none) (script_unasked asked files before.left script (no_file_no_run asked none))

  stays_low : (a : Option Asked) → MayEnd a s → s ≢ 5 → s ≢ 6 → s ≢ 8 → (s ≤ 4) ⊎ (s ≡ 7) ⊎ (s ≡ 9)
  stays_low None ends not_5 not_6 not_8 = grind (arith, ends)
  stays_low (Some (RuleFile name mode limit image)) ends not_5 not_6 not_8 = grind (arith, ends)
  stays_low (Some (Load number limit)) ends not_5 not_6 not_8 = grind (arith, ends)

  without_9 : s ≢ 9 → (s ≤ 4) ⊎ (s ≡ 7) ⊎ (s ≡ 9) → (s ≤ 4) ⊎ (s ≡ 7)
  without_9 not_9 (inl low) = inl low
  without_9 not_9 (inr (inl seven)) = inr seven
  without_9 not_9 (inr (inr nine)) = absurd (not_9 nine)

  -- why a read failed, where a rule file is asked for and no checkpoint
  pub read_of_file : (name : List ℕ) (mode : Mode) (limit : ℕ) → asked ≡ Some (RuleFile name mode limit None) → s ≡ 5
      → Rose (before.shelf.faults name) (after.shelf.faults name) ⊎ Rose before.read_faults after.read_faults
  read_of_file name mode limit is five =
      let cause = run.read five in
      here (subst (λ (it : Asked). ReadFails before.shelf.faults after.shelf.faults before.read_faults after.read_faults it) (some_is (sym cause.1 ∙ is)) cause.2)
    where
      here : ReadFails before.shelf.faults after.shelf.faults before.read_faults after.read_faults (RuleFile name mode limit None)
          → Rose (before.shelf.faults name) (after.shelf.faults name) ⊎ Rose before.read_faults after.read_faults
      here (inl rose) = inl rose
      here (inr (inl named)) = absurd (let none : None ≡ Some named.0 = named.1 in cc)
      here (inr (inr rose)) = inr rose.1

  reads_well : ((name : List ℕ) → Rose (before.shelf.faults name) (after.shelf.faults name) → ⊥) → (Rose before.read_faults after.read_faults → ⊥) → s ≢ 5
  reads_well shelf script five = let cause = run.read five in here cause.0 cause.2
    where
      here : (it : Asked) → ReadFails before.shelf.faults after.shelf.faults before.read_faults after.read_faults it → ⊥
      here (RuleFile name mode limit image) (inl rose) = shelf name rose
      here (RuleFile name mode limit image) (inr (inl named)) = shelf named.0 named.2
      here (RuleFile name mode limit image) (inr (inr rose)) = script rose.1
      here (Load number limit) none = none

  not_too_long : (script : List ℕ) → before.left ≡ Some script → length script ≤ 2 ^ 30 → s ≢ 8
  not_too_long script tells short eight = let many : 2 ^ 30 < length script = rw tells at (run.over eight).1 in omega (arith, many, short)

  -- nothing failed, and the script is not too long
  pub completes : (script : List ℕ) → before.left ≡ Some script → length script ≤ 2 ^ 30
      → ((name : List ℕ) → Rose (before.shelf.faults name) (after.shelf.faults name) → ⊥) → (Rose before.read_faults after.read_faults → ⊥) → (Rose before.write_faults after.write_faults → ⊥)
      → (s ≤ 4) ⊎ (s ≡ 7) ⊎ (s ≡ 9)
  completes script tells short shelf read write = stays_low asked run.ends (reads_well shelf read) (λ six. write (run.write six)) (not_too_long script tells short)

  -- no checkpoint is refused where none is asked for
  pub no_checkpoint : (name : List ℕ) (limit : ℕ) → asked ≡ Some (RuleFile name Run limit None) → s ≢ 9
  no_checkpoint name limit is nine =
      let cause = run.checkpoint nine in
      here (subst (λ (it : Asked). MayRefuse before.shelf.files before.shelf.misses after.shelf.misses it) (some_is (sym cause.1 ∙ is)) cause.2)
    where
      here : MayRefuse before.shelf.files before.shelf.misses after.shelf.misses (RuleFile name Run limit None) → ⊥
      here (inl save) = let e : Run ≡ Save = save.0 in cc
      here (inr named) = let none : None ≡ Some named.1 = named.2 in cc

  -- the same, where no read of this rule file failed
  pub completes_file : (name : List ℕ) (limit : ℕ) → asked ≡ Some (RuleFile name Run limit None) → (script : List ℕ) → before.left ≡ Some script → length script ≤ 2 ^ 30
      → (Rose (before.shelf.faults name) (after.shelf.faults name) → ⊥) → (Rose before.read_faults after.read_faults → ⊥) → (Rose before.write_faults after.write_faults → ⊥)
      → (s ≤ 4) ⊎ (s ≡ 7)
  completes_file name limit is script tells short shelf read write =
      without_9 (no_checkpoint name limit is)
      (stays_low asked run.ends (λ five. elim (read_of_file name Run limit is five) [ inl rose ↦ shelf rose | inr rose ↦ read rose ]) (λ six. write (run.write six)) (not_too_long script tells short))

  -- a rule file without a checkpoint ends as it says
  pub ends_of_file : (name : List ℕ) (limit : ℕ) → asked ≡ Some (RuleFile name Run limit None) → (s ≤ 1) ⊎ ((3 ≤ s) × (s ≤ 8))
  ends_of_file name limit is = here (subst (λ (a : Option Asked). MayEnd a s) is run.ends)
    where
      here : MayEnd (Some (RuleFile name Run limit None)) s → (s ≤ 1) ⊎ ((3 ≤ s) × (s ≤ 8))
      here ends = let not_9 : s ≢ 9 = no_checkpoint name limit is in grind (arith, ends, not_9)

  not_8 : NoRun asked → s ≢ 8
  not_8 none eight = here asked none run.ends (run.over eight).0
    where
      here : (a : Option Asked) → NoRun a → MayEnd a s → IfSome a RunsScript → ⊥
      here None n ends r = none_8 ends eight
      here (Some it) n ends r = n r

  not_9 : NoRun asked → s ≢ 9
  not_9 none nine = let cause = run.checkpoint nine in here cause.0 (subst NoRun cause.1 none) cause.2
    where
      here : (it : Asked) → NoRun (Some it) → MayRefuse before.shelf.files before.shelf.misses after.shelf.misses it → ⊥
      here (RuleFile name mode limit image) n (inl save) = n (inr save.0)
      here (RuleFile name mode limit image) n (inr named) = n named.0
      here (Load number limit) n none = none

  -- no script is run, and nothing else failed
  pub completes_unread : NoRun asked → ((name : List ℕ) → Rose (before.shelf.faults name) (after.shelf.faults name) → ⊥) → (Rose before.write_faults after.write_faults → ⊥) → (s ≤ 4) ⊎ (s ≡ 7)
  completes_unread none shelf write = without_9 (not_9 none) (stays_low asked run.ends five (λ six. write (run.write six)) (not_8 none))
    where
      here : (it : Asked) → NoRun (Some it) → ReadFails before.shelf.faults after.shelf.faults before.read_faults after.read_faults it → ⊥
      here (RuleFile name mode limit image) n (inl rose) = shelf name rose
      here (RuleFile name mode limit image) n (inr (inl named)) = shelf named.0 named.2
      here (RuleFile name mode limit image) n (inr (inr rose)) = n rose.0
      here (Load number limit) n fails = fails

      five : s ≢ 5
      five is = let cause = run.read is in here cause.0 (subst NoRun cause.1 none) cause.2

  -- no rule file is read, and no write failed
  pub completes_load : IfSome asked (λ it. ¬ ReadsFile it) → (Rose before.write_faults after.write_faults → ⊥) → (s ≤ 2) ⊎ (s ≡ 4) ⊎ (s ≡ 7)
  completes_load none write = ends_low asked none run.ends five (λ six. write (run.write six)) (not_8 (no_file_no_run asked none))
    where
      ends_low : (a : Option Asked) → IfSome a (λ it. ¬ ReadsFile it) → MayEnd a s → s ≢ 5 → s ≢ 6 → s ≢ 8 → (s ≤ 2) ⊎ (s ≡ 4) ⊎ (s ≡ 7)
      ends_low None n ends not_5 not_6 not_8 = grind (arith, ends)
      ends_low (Some (RuleFile name mode limit image)) n ends not_5 not_6 not_8 = absurd (n tt)
      ends_low (Some (Load number limit)) n ends not_5 not_6 not_8 = grind (arith, ends)

      reads : (it : Asked) → (¬ ReadsFile it) → ReadFails before.shelf.faults after.shelf.faults before.read_faults after.read_faults it → ⊥
      reads (RuleFile name mode limit image) n fails = n tt
      reads (Load number limit) n fails = fails

      five : s ≢ 5
      five is = let cause = run.read is in reads cause.0 (subst (λ (a : Option Asked). IfSome a (λ it. ¬ ReadsFile it)) cause.1 none) cause.2

-- an accepted file is not refused
pub not_refused : {gives : Gives} {fires : Fires} {counts : Counts} {asked : Option Asked} {before after : Outside} {s : ℕ} (mode : Mode) (limit : ℕ) (b : Beginning) (p : Program)
    → RunOf gives fires counts asked (Some (wanted_at mode limit b p)) before after s → s ≢ 3
not_refused Run limit (First rules) p run three = run.refusal (runs limit p) refl three
not_refused Run limit (Behind image) p run three = run.refusal (resumes limit image p) refl three
not_refused Check limit b p run three = run.refusal (accepts p) refl three
not_refused Lives limit b p run three = run.refusal (tells_lives p) refl three
not_refused Proof limit b p run three = run.refusal (proves p) refl three
not_refused Save limit (First rules) p run three = run.refusal (saves limit rules p) refl three
not_refused Save limit (Behind image) p run three = run.refusal (saves_on limit image p) refl three
