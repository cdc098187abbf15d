-- What is wanted, by the files that were read.
use Rattle.std.{proofs.Common.{◌≡◌, ◌≢◌, ◌+◌, ℕ, Bool, true, false, not, List, take, Option, Some, None, refl, sym, subst, ap, ◌∙◌}, specs.Prelude.{IfSome}}
use Rattle.{command_words.specs.declared.desk.{DeskAsked.{DeskAsked}, DeskWords.TheVariants.{Run}}, drl_names.specs.declared.rule_names.RuleNames.{RuleNames}}
use Rattle.{drl_parse.specs.Parsed.{file_limit}, fx_io.specs.Outside.{IsMissing, IsOnShelf, file_told}, replay.specs.declared.refusal.Refusal.{Refusal}}
use Rattle.replay.specs.{declared.{refusal.RefusalCode.TheVariants.{Missing}, refused_checkpoint.CheckpointCode.{CheckpointCode}}, Checkpoints.{rules_shown}}
use Rattle.replay.{specs.{Names.{names_read}, Refusals.{reading, whole_file}, Wanted.{Files}}, proofs.Reports.{names_taken, rules_in_read, within_taken}}
use Rattle.{rule_model.specs.declared.program.Program.{Program}, script_run.specs.{Forms.{form_for}, declared.form.Form.{Form, TheVariants.{Objects}}}}
use Rattle.desk.specs.declared.{reading.Rules.{Rules}, start.Start.{Start as StartData, TheVariants.{Begins, Changes}}, wanted.Setting.{Setting}}
use Rattle.desk.specs.{Rules.{AreAccepted, AreRefused, AreRefusedIn, coming_as}, Starts.{HasText, start_as, wanted_as}, Wanted.{cannot_begin, cannot_come}}
use Rattle.desk.specs.Wanted.{come, coming, coming_in, over_old, refuses, refuses_image, setting_of, start, to_come, wanted_by, wanted_by_file}
use Rattle.desk.specs.Wanted.{wanted_by_reading, wanted_from, wanted_with}

-- ---- a rule file

-- one byte more than a file may have tells whether it has too many
pub accepted_file : (file read : List ℕ) (shows named : Bool) (rules : Rules) → read ≡ take (file_limit + 1) file → AreAccepted read shows named rules → AreAccepted file shows named rules
accepted_file file read shows named rules is of = record {
  program = sym (within_taken file) ∙ ap reading (sym is) ∙ of.program;
  text = λ yes. of.text yes ∙ sym (rules_in_read (Some file) read (λ e. cc) is);
  names = λ yes. of.names yes ∙ ap names_read is ∙ names_taken file;
}

pub refused_file : (file read : List ℕ) (refusal : Refusal) → read ≡ take (file_limit + 1) file → AreRefused read refusal → AreRefused file refusal
refused_file file read refusal is of = sym (within_taken file) ∙ ap reading (sym is) ∙ of

-- of the file of a name
pub accepted_in : (name : List ℕ) (told : Option Files) (files : Files) (read : List ℕ) (shows named : Bool) (rules : Rules) → told ≡ Some files
    → IfSome (file_told told name) (λ file. read ≡ take (file_limit + 1) file) → AreAccepted read shows named rules → IfSome (files name) (λ file. AreAccepted file shows named rules)
accepted_in name told files read shows named rules e h of =
    let whole : IfSome (files name) (λ file. read ≡ take (file_limit + 1) file) = rw e at h in
    here (files name) whole
  where
    here : (o : Option (List ℕ)) → IfSome o (λ file. read ≡ take (file_limit + 1) file) → IfSome o (λ file. AreAccepted file shows named rules)
    here None h = tt
    here (Some file) h = accepted_file file read shows named rules h of

pub refused_in : (name : List ℕ) (told : Option Files) (files : Files) (read : List ℕ) (refusal : Refusal) → told ≡ Some files → IsOnShelf told name
    → IfSome (file_told told name) (λ file. read ≡ take (file_limit + 1) file) → AreRefused read refusal → AreRefusedIn (files name) refusal
refused_in name told files read refusal e there h of =
    let is_found : files name ≢ None = rw e at there in
    let whole : IfSome (files name) (λ file. read ≡ take (file_limit + 1) file) = rw e at h in
    here (files name) is_found whole
  where
    here : (o : Option (List ℕ)) → o ≢ None → IfSome o (λ file. read ≡ take (file_limit + 1) file) → AreRefusedIn o refusal
    here None found h = absurd (found refl)
    here (Some file) found h = refused_file file read refusal h of

pub missing_in : (name : List ℕ) (told : Option Files) (files : Files) (refusal : Refusal) → told ≡ Some files → IsMissing told name → refusal ≡ whole_file Missing → AreRefusedIn (files name) refusal
missing_in name told files refusal e gone is = let none : files name ≡ None = rw e at gone in subst (λ (o : Option (List ℕ)). AreRefusedIn o refusal) (sym none) is

-- ---- rules that are to come

pub refused_to_come : (o : Option (List ℕ)) (refusal : Refusal) → AreRefusedIn o refusal → coming_in o ≡ cannot_come refusal
refused_to_come None refusal is = ap cannot_come (sym is)
refused_to_come (Some file) refusal is = ap coming is

pub accepted_to_come : (o : Option (List ℕ)) (rules : Rules) → o ≢ None → IfSome o (λ file. AreAccepted file false false rules) → coming_in o ≡ come rules.program
accepted_to_come None rules found of = absurd (found refl)
accepted_to_come (Some file) rules found of = ap coming of.program

-- ---- what is wanted

pub refused_wanted : (asked : DeskAsked) (files : Files) (refusal : Refusal) → AreRefusedIn (files asked.rules) refusal → wanted_by (Some (Run asked)) files ≡ refuses refusal
refused_wanted asked files refusal = here (files asked.rules)
  where
    here : (o : Option (List ℕ)) → AreRefusedIn o refusal → wanted_by_file asked files o ≡ refuses refusal
    here None is = ap refuses (sym is)
    here (Some file) is = ap (wanted_by_reading asked files (names_read file) (rules_shown file)) is

-- the names of variables that the file has
pub record HasRules (asked : DeskAsked) (files : Files) (rules : Rules) : Type 0 where
  pub names : List RuleNames
  pub named : not asked.text ≡ true → rules.names ≡ names
  pub wanted_so : wanted_by (Some (Run asked)) files ≡ wanted_with asked files names rules.text.items rules.program (to_come asked.keep files)

pub has_rules : (asked : DeskAsked) (files : Files) (rules : Rules) → files asked.rules ≢ None → IfSome (files asked.rules) (λ file. AreAccepted file true (not asked.text) rules) → HasRules asked files rules
has_rules asked files rules there of = here (files asked.rules) refl there of
  where
    here : (o : Option (List ℕ)) → files asked.rules ≡ o → o ≢ None → IfSome o (λ file. AreAccepted file true (not asked.text) rules) → HasRules asked files rules
    here None e there of = absurd (there refl)
    here (Some file) e there of = record {
      names = names_read file;
      named = of.names;
      wanted_so = ap (wanted_by_file asked files) e ∙ ap (wanted_by_reading asked files (names_read file) (rules_shown file)) of.program
          ∙ ap (λ (text : List ℕ). wanted_with asked files (names_read file) text rules.program (to_come asked.keep files)) (sym (of.text refl));
    }

module _ (asked : DeskAsked) (files : Files) (rules : Rules) (has : HasRules asked files rules) where
  pub later_refused : (refusal : Refusal) → to_come asked.keep files ≡ cannot_come refusal → wanted_by (Some (Run asked)) files ≡ refuses refusal
  later_refused refusal is = has.wanted_so ∙ ap (wanted_with asked files has.names rules.text.items rules.program) is

  -- the setting with the names that the file has, where the rules to come are these
  with_later : (later : Option Program) → to_come asked.keep files ≡ coming_as later
      → wanted_by (Some (Run asked)) files ≡ wanted_from (setting_of asked has.names rules.program later) rules.text.items (start rules.text.items asked.image files)
  with_later None is = has.wanted_so ∙ ap (wanted_with asked files has.names rules.text.items rules.program) is
  with_later (Some later) is = has.wanted_so ∙ ap (wanted_with asked files has.names rules.text.items rules.program) is

  pub image_refused : (later : Option Program) (code : CheckpointCode) → to_come asked.keep files ≡ coming_as later → start rules.text.items asked.image files ≡ cannot_begin code
      → wanted_by (Some (Run asked)) files ≡ refuses_image code
  image_refused later code is from = with_later later is ∙ ap (wanted_from (setting_of asked has.names rules.program later) rules.text.items) from

-- names are made where the answers have them
form_alike : (text : Bool) (named names : List RuleNames) → (not text ≡ true → named ≡ names) → form_for text names ≡ form_for text named
form_alike true named names h = refl
form_alike false named names h = ap Objects (sym (h refl))

abbrev made_setting : DeskAsked → Program → Option Program → Form → Setting
made_setting asked p later form = record { program = p; each = asked.each; form = form; image = asked.image; later = later }

started : (setting : Setting) (rules : List ℕ) (from : StartData) → HasText rules from → wanted_from setting rules (start_as from) ≡ wanted_as setting from
started setting rules (Begins beginning lives) text = refl
started setting rules (Changes shown lives image) text = ap (λ (rules : List ℕ). over_old setting rules lives image (reading image.run.rules)) (sym text)

pub begun : (asked : DeskAsked) (files : Files) (rules : Rules) (has : HasRules asked files rules) (later : Option Program) (from : StartData) (form : Form)
    → to_come asked.keep files ≡ coming_as later → start rules.text.items asked.image files ≡ start_as from → HasText rules.text.items from → form ≡ form_for asked.text rules.names
    → wanted_by (Some (Run asked)) files ≡ wanted_as (record { program = rules.program; each = asked.each; form = form; image = asked.image; later = later }) from
begun asked files rules has later from form is begins text made =
    with_later asked files rules has later is
    ∙ ap (wanted_from (setting_of asked has.names rules.program later) rules.text.items) begins
    ∙ started (setting_of asked has.names rules.program later) rules.text.items from text
    ∙ ap (λ (form : Form). wanted_as (made_setting asked rules.program later form) from) (form_alike asked.text rules.names has.names has.named ∙ sym made)
