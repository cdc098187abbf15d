-- What is wanted, by what was found.
use Rattle.replay.proofs.Common.{◌≡◌, ◌≢◌, inl, inr, ◌≤◌, ◌+◌, ℕ, Bool, true, false, List, length, take, nat_lt, Option, Some, None, refl, sym, ap, subst, ◌∙◌}
use Rattle.replay.proofs.Common.{arith, IfSome, nat_tests, take_all, length-take, IsMissing, IsOnShelf, file_told, AppendsFront, rules_text, file_limit, Mode}
use Rattle.replay.proofs.Common.{Program, Gives, Fires, Counts, Refusal, checkpoint_in, image_limit, Reading, Accepted, Refused, reading, whole_file}
use Rattle.replay.proofs.Common.{IsRefusedReading, lines_of, LifeTable, run_on, setting_of, Report, IsToldBehind, IsDefinite, IsFront, IsFrontOfEach, IsReport}
use Rattle.replay.proofs.Common.{IsRunBehind, IsRunStatus, IsSavedBehind, IsSaveStatus, Wanted, Files, usage_line, refuses, refuses_checkpoint, runs, resumes}
use Rattle.replay.proofs.Common.{saves, saves_on, accepts, tells_lives, proves, sums_up, wanted_by_file, wanted_by_reading, wanted_from, wanted_rules}
use Rattle.replay.{proofs.Common.{IsRefusedFile, HasRefused, Run, Check, Lives, Proof, Save}, specs.Beginnings.{shows_rules}}
use Rattle.replay.specs.{declared.refusal.RefusalCode.TheVariants.{Missing}, Checkpoints.{checkpoint_of, rules_shown}, Names.{names_read}}
use Rattle.replay.{specs.Wanted.{wanted_by_name, wanted_by_number}, proofs.Tables.{behind_one, by_table, one_report, one_saved}}
use Rattle.drl_parse.specs.Parsed.{parsed, parsed_by}

-- what is wanted of a load, by what its rule file is
pub a_load : (number limit : ℕ) (found : Reading) → reading rules_text ≡ found → wanted_by_number number limit ≡ wanted_by_reading (sums_up number limit) found
unfolding wanted_by_number
a_load number limit found e = ap (wanted_by_reading (sums_up number limit)) e

-- the front of one report is the front of each, where there is one
front_of : (gives : Gives) (fires : Fires) (counts : Counts) (w : Wanted) (script : List ℕ) (q : Report) (before after : Option (List ℕ)) → IsDefinite w → IsReport gives fires counts w script q
    → AppendsFront before after q.bytes → IsFrontOfEach gives fires counts w script before after
front_of gives fires counts w script q before after definite is front r also = rw (one_report gives fires counts w script r q definite also is) front

pub front_by : (gives : Gives) (fires : Fires) (counts : Counts) (w : Wanted) (script : List ℕ) (q : Report) (before after : Option (List ℕ)) → IsReport gives fires counts w script q
    → AppendsFront before after q.bytes → IsFront gives fires counts w script before after
front_by gives fires counts usage_line script q before after is front = front_of gives fires counts usage_line script q before after tt is front
front_by gives fires counts (refuses refusal) script q before after is front = front_of gives fires counts (refuses refusal) script q before after tt is front
front_by gives fires counts (refuses_checkpoint code) script q before after is front = front_of gives fires counts (refuses_checkpoint code) script q before after tt is front
front_by gives fires counts (runs limit p) script q before after is front = front_of gives fires counts (runs limit p) script q before after tt is front
front_by gives fires counts (resumes limit image p) script q before after is front = λ table are r some.
    let h = by_table p (λ (t : LifeTable). IsToldBehind p t image IsRunStatus (IsRunBehind gives fires counts limit p t image script) q) is.0 table is.1 are is.2 in
    rw (behind_one p table image IsRunStatus (IsRunBehind gives fires counts limit p table image script) (λ w a b h k. h ∙ sym k) q r h some) front
front_by gives fires counts (saves limit rules p) script q before after is front = front_of gives fires counts (saves limit rules p) script q before after tt is front
front_by gives fires counts (saves_on limit image p) script q before after is front = λ table are r some.
    let h = by_table p (λ (t : LifeTable). IsToldBehind p t image IsSaveStatus (IsSavedBehind gives fires counts limit p t image script) q) is.0 table is.1 are is.2 in
    rw (behind_one p table image IsSaveStatus (IsSavedBehind gives fires counts limit p table image script)
    (λ w a b h k. one_saved p table limit image.run (run_on (setting_of gives fires counts limit p table) w image.run (lines_of script)).comes_to a b h k) q r h some) front
front_by gives fires counts (accepts p) script q before after is front = front_of gives fires counts (accepts p) script q before after tt is front
front_by gives fires counts (tells_lives p) script q before after is front = front_of gives fires counts (tells_lives p) script q before after tt is front
front_by gives fires counts (proves p) script q before after is front = inr (q, is, front)
front_by gives fires counts (sums_up number limit p) script q before after is front = front_of gives fires counts (sums_up number limit p) script q before after tt is front

-- nothing is a front
pub front_none : (gives : Gives) (fires : Fires) (counts : Counts) (w : Wanted) (script : List ℕ) (before : Option (List ℕ)) → ((bytes : List ℕ) → AppendsFront before before bytes)
    → IsFront gives fires counts w script before before
front_none gives fires counts usage_line script before none = λ r is. none r.bytes
front_none gives fires counts (refuses refusal) script before none = λ r is. none r.bytes
front_none gives fires counts (refuses_checkpoint code) script before none = λ r is. none r.bytes
front_none gives fires counts (runs limit p) script before none = λ r is. none r.bytes
front_none gives fires counts (resumes limit image p) script before none = λ table are r some. none r.bytes
front_none gives fires counts (saves limit rules p) script before none = λ r is. none r.bytes
front_none gives fires counts (saves_on limit image p) script before none = λ table are r some. none r.bytes
front_none gives fires counts (accepts p) script before none = λ r is. none r.bytes
front_none gives fires counts (tells_lives p) script before none = λ r is. none r.bytes
front_none gives fires counts (proves p) script before none = inl refl
front_none gives fires counts (sums_up number limit p) script before none = λ r is. none r.bytes

pub no_file : (of_program : Program → Wanted) (name : List ℕ) (told : Option Files) (files : Files) → told ≡ Some files → IsMissing told name → wanted_by_name of_program files name ≡ refuses (whole_file Missing)
unfolding wanted_by_name
no_file of_program name told files e gone = let none : files name ≡ None = rw e at gone in ap (wanted_by_file of_program) none

short_file : (n m : ℕ) → nat_lt n m ≡ false → m ≤ n + 1
short_file n m e = grind (arith, nat_tests)

long_taken : (n : ℕ) (file : List ℕ) → nat_lt n (length file) ≡ true → nat_lt n (length (take (n + 1) file)) ≡ true
long_taken n file e = rw (length-take (n + 1) file) (grind (arith, nat_tests))

taken_by : (long : Bool) (file : List ℕ) → nat_lt file_limit (length file) ≡ long → reading (take (file_limit + 1) file) ≡ reading file
unfolding parsed parsed_by
taken_by false file e = ap reading (take_all (file_limit + 1) file (short_file file_limit (length file) e))
taken_by true file e = rw (long_taken file_limit file e, e) refl

-- one byte more than a file may have tells whether it has too many
pub within_taken : (file : List ℕ) → reading (take (file_limit + 1) file) ≡ reading file
within_taken file = taken_by (nat_lt file_limit (length file)) file refl

-- the text of the rules too
rules_by : (long : Bool) (file : List ℕ) → nat_lt file_limit (length file) ≡ long → rules_shown (take (file_limit + 1) file) ≡ rules_shown file
unfolding parsed parsed_by rules_shown
rules_by false file e = ap rules_shown (take_all (file_limit + 1) file (short_file file_limit (length file) e))
rules_by true file e = rw (long_taken file_limit file e, e) refl

pub rules_in_read : (o : Option (List ℕ)) (read : List ℕ) → (o ≢ None) → IfSome o (λ file. read ≡ take (file_limit + 1) file) → wanted_rules o ≡ rules_shown read
rules_in_read None read found h = absurd (found refl)
rules_in_read (Some file) read found h = sym (ap rules_shown h ∙ rules_by (nat_lt file_limit (length file)) file refl)

-- and the names of variables
names_by : (long : Bool) (file : List ℕ) → nat_lt file_limit (length file) ≡ long → names_read (take (file_limit + 1) file) ≡ names_read file
unfolding parsed parsed_by names_read
names_by false file e = ap names_read (take_all (file_limit + 1) file (short_file file_limit (length file) e))
names_by true file e = rw (long_taken file_limit file e, e) refl

pub names_taken : (file : List ℕ) → names_read (take (file_limit + 1) file) ≡ names_read file
names_taken file = names_by (nat_lt file_limit (length file)) file refl

pub rules_found : (name : List ℕ) (told : Option Files) (files : Files) (read : List ℕ) → told ≡ Some files → IsOnShelf told name → IfSome (file_told told name) (λ file. read ≡ take (file_limit + 1) file)
    → wanted_rules (files name) ≡ rules_shown read
rules_found name told files read e there h =
    let is_found : files name ≢ None = rw e at there in
    let whole : IfSome (files name) (λ file. read ≡ take (file_limit + 1) file) = rw e at h in
    rules_in_read (files name) read is_found whole

-- one byte more than an image may have tells whether it has too many
image_by : (long : Bool) (rules file : List ℕ) → nat_lt image_limit (length file) ≡ long → checkpoint_of rules (take (image_limit + 1) file) ≡ checkpoint_of rules file
unfolding checkpoint_of
image_by false rules file e = ap (checkpoint_of rules) (take_all (image_limit + 1) file (short_file image_limit (length file) e))
image_by true rules file e = rw (long_taken image_limit file e, e) refl

image_in_read : (rules : List ℕ) (o : Option (List ℕ)) (read : List ℕ) → (o ≢ None) → IfSome o (λ file. read ≡ take (image_limit + 1) file) → checkpoint_in rules o ≡ checkpoint_of rules read
image_in_read rules None read found h = absurd (found refl)
image_in_read rules (Some file) read found h = sym (ap (checkpoint_of rules) h ∙ image_by (nat_lt image_limit (length file)) rules file refl)

pub image_found : (rules name : List ℕ) (told : Option Files) (files : Files) (read : List ℕ) → told ≡ Some files → IsOnShelf told name → IfSome (file_told told name) (λ file. read ≡ take (image_limit + 1) file)
    → checkpoint_in rules (files name) ≡ checkpoint_of rules read
image_found rules name told files read e there h =
    let is_found : files name ≢ None = rw e at there in
    let whole : IfSome (files name) (λ file. read ≡ take (image_limit + 1) file) = rw e at h in
    image_in_read rules (files name) read is_found whole

found_reading : (o : Option (List ℕ)) (read : List ℕ) → (o ≢ None) → IfSome o (λ file. read ≡ take (file_limit + 1) file) → (file : List ℕ) × (o ≡ Some file) × (reading file ≡ reading read)
found_reading None read found h = absurd (found refl)
found_reading (Some file) read found h = (file, refl, sym (within_taken file) ∙ ap reading (sym h))

-- the file that was read
pub a_file : (of_program : Program → Wanted) (name : List ℕ) (told : Option Files) (files : Files) (read : List ℕ) (found : Reading) → told ≡ Some files → IsOnShelf told name
    → IfSome (file_told told name) (λ file. read ≡ take (file_limit + 1) file) → reading read ≡ found → wanted_by_name of_program files name ≡ wanted_by_reading of_program found
unfolding wanted_by_name
a_file of_program name told files read found e there h is =
    let is_found : files name ≢ None = rw e at there in
    let whole : IfSome (files name) (λ file. read ≡ take (file_limit + 1) file) = rw e at h in
    let r = found_reading (files name) read is_found whole in
    ap (wanted_by_file of_program) r.1 ∙ ap (wanted_by_reading of_program) (r.2 ∙ is)

-- the file that was read is accepted
pub accepted_file : (mode : Mode) (limit : ℕ) (image : Option (List ℕ)) (name : List ℕ) (told : Option Files) (files : Files) (read : List ℕ) (p : Program) → told ≡ Some files → IsOnShelf told name
    → IfSome (file_told told name) (λ file. read ≡ take (file_limit + 1) file) → reading read ≡ Accepted p
    → wanted_by_name (wanted_from mode limit image files (wanted_rules (files name))) files name ≡ wanted_from mode limit image files (rules_shown read) p
accepted_file mode limit image name told files read p e there h is =
    a_file (wanted_from mode limit image files (wanted_rules (files name))) name told files read (Accepted p) e there h is
    ∙ ap (λ (rules : List ℕ). wanted_from mode limit image files rules p) (rules_found name told files read e there h)

-- the file that was read is refused
pub refused_file : (name : List ℕ) (told : Option Files) (read : List ℕ) (refusal : Refusal) → IsOnShelf told name → IfSome (file_told told name) (λ file. read ≡ take (file_limit + 1) file)
    → reading read ≡ Refused refusal → HasRefused told name
refused_file name None read refusal there h e = tt
refused_file name (Some files) read refusal there h e = here (files name) there h
  where
    here : (o : Option (List ℕ)) → (o ≢ None) → IfSome o (λ file. read ≡ take (file_limit + 1) file) → IsRefusedFile o
    here None there h = absurd (there refl)
    here (Some file) there h =
        let is : reading file ≡ Refused refusal = sym (within_taken file) ∙ ap reading (sym h) ∙ e in
        subst IsRefusedReading (sym is) tt

-- what is wanted by the text of the rules is so by another text, unless that text is looked at
pub shows_enough : (mode : Mode) (limit : ℕ) (image : Option (List ℕ)) (files : Files) (rules text : List ℕ) (p : Program) → (shows_rules mode image ≡ true → text ≡ rules)
    → wanted_from mode limit image files rules p ≡ wanted_from mode limit image files text p
shows_enough Run limit None files rules text p h = refl
shows_enough Run limit (Some image) files rules text p h = ap (λ (r : List ℕ). wanted_from Run limit (Some image) files r p) (sym (h refl))
shows_enough Save limit image files rules text p h = ap (λ (r : List ℕ). wanted_from Save limit image files r p) (sym (h refl))
shows_enough Check limit None files rules text p h = refl
shows_enough Check limit (Some image) files rules text p h = refl
shows_enough Lives limit None files rules text p h = refl
shows_enough Lives limit (Some image) files rules text p h = refl
shows_enough Proof limit None files rules text p h = refl
shows_enough Proof limit (Some image) files rules text p h = refl

-- the text of the rules of an accepted file, where it was shown, is enough
pub shown_enough : (mode : Mode) (limit : ℕ) (image : Option (List ℕ)) (files : Files) (bytes read text : List ℕ) (found : Reading) (p : Program) (shows : Bool)
    → shows ≡ shows_rules mode image → found ≡ Accepted p → (shows ≡ true → (IsRefusedReading found → ⊥) → text ≡ rules_shown read) → read ≡ bytes
    → wanted_from mode limit image files (rules_shown bytes) p ≡ wanted_from mode limit image files text p
shown_enough mode limit image files bytes read text found p shows is accepted shown same =
    shows_enough mode limit image files (rules_shown bytes) text p (λ on. shown (is ∙ on) (λ refused. subst IsRefusedReading accepted refused) ∙ ap rules_shown same)
