-- The outcome of the lines ahead, line by line, against what was written and what is gathered.
use Rattle.line_run.proofs.Common.{◌≡◌, ◌≢◌, ◌⊎◌, inl, inr, ◌<◌, ◌≤◌, ◌+◌, ◌++◌, ℕ, Bool, true, false, List, [], ◌∷◌, length, take, drop, Option, Some, None}
use Rattle.line_run.proofs.Common.{Result, Ok, Err, option_map, refl, sym, ap, ap₂, subst, ◌∙◌, append_assoc, arith, IfSome, OnErr, flat_map-append, append-nil}
use Rattle.line_run.proofs.Common.{length-append, take_at, take-append-drop, prepend, append, AppendsFront, IsExhausted, with_line, total_told, HasNoEnd}
use Rattle.line_run.proofs.Common.{TakesLine, ReadsBytes, Line, Whole, End, World, Goes, Stops, Progress, Ended, Steps, RunState, Outcome, Done, LineEffect}
use Rattle.line_run.proofs.Common.{goes_on, stops, then_run, at_limit, at_end, state_in, state_after, progress_after, Does, Flushes, Saves, saves, ArePut}
use Rattle.line_run.{proofs.Common.{Files, Puts}, specs.{declared.turn.Ended.TheVariants.{Script, Limit}, Prompt.{said, heard}, Run.{run, saved_states}}}
use Rattle.line_run.specs.{declared.fault.ImageFault.{ImageFault}, Unfinished.{LongOver, KeptFront, StoppedKept, RefusedAt, ended_lines, StoppedAtRead}}
use Rattle.{std.proofs.{Common.{zero, suc}, lemmas.{List.{drop_all, take_all}, Option.{same_Some}}}, fx_io.specs.{Lines.{lines_of}, Answers.{TakesFromBytes}}}
use Rattle.fx_io.{specs.declared.line.Line.TheVariants.{Long as LongLine}, proofs.{Told.{append-append, prepend-prepend, prepend-nil}, Ahead.{answers_ahead}}}

-- what the lines ahead come to: their outcome, and the states whose images are put
pub record Rest : Type 0 where
  pub outcome : List (List ℕ) → Outcome
  pub saved : List (List ℕ) → List RunState

-- images were put, and then others
pub put_both : (puts : Puts) (some more : List RunState) (before middle after : Files) → ArePut puts some before middle → ArePut puts more middle after → ArePut puts (some ++ more) before after
put_both puts [] more before middle after h k = subst (λ (files : Files). ArePut puts more files after) h k
put_both puts (s ∷ some) more before middle after h k = (h.0, h.1, put_both puts some more h.0 middle after h.2 k)

pub then_run-then_run : (a b : List ℕ) (o : Outcome) → then_run a (then_run b o) ≡ then_run (a ++ b) o
then_run-then_run a b o = ap (λ (bytes : List ℕ). record o { bytes = bytes }) (sym (append_assoc a b o.bytes))

-- no line
pub run_ended : (steps : Steps) (s : RunState) → run steps s [] ≡ at_end s
unfolding run
run_ended steps s = refl

-- a line after which the run goes on
pub run_goes : (steps : Steps) (s : RunState) (line : List ℕ) (done : Done) → steps s line ≡ goes_on done → (more : List (List ℕ))
    → run steps s (line ∷ more) ≡ then_run done.text (run steps (state_after s done) more)
unfolding run
run_goes steps s line done e more = rw e refl

-- a line at which the run ends
pub run_stops : (steps : Steps) (s : RunState) (line text : List ℕ) → steps s line ≡ stops text → (more : List (List ℕ))
    → run steps s (line ∷ more) ≡ then_run text at_limit
unfolding run
run_stops steps s line text e more = rw e refl

-- a line that saves
pub run_saves : (steps : Steps) (s : RunState) (line : List ℕ) (done : Done) → steps s line ≡ saves done → (more : List (List ℕ))
    → run steps s (line ∷ more) ≡ then_run done.text (run steps (state_after s done) more)
unfolding run
run_saves steps s line done e more = rw e refl

pub none_saved : (steps : Steps) (s : RunState) → saved_states steps s [] ≡ []
unfolding saved_states
none_saved steps s = refl

saved_goes : (steps : Steps) (s : RunState) (line : List ℕ) (done : Done) → steps s line ≡ goes_on done → (more : List (List ℕ)) → saved_states steps s (line ∷ more) ≡ saved_states steps (state_after s done) more
unfolding saved_states
saved_goes steps s line done e more = rw e refl

saved_saves : (steps : Steps) (s : RunState) (line : List ℕ) (done : Done) → steps s line ≡ saves done → (more : List (List ℕ))
    → saved_states steps s (line ∷ more) ≡ state_after s done ∷ saved_states steps (state_after s done) more
unfolding saved_states
saved_saves steps s line done e more = rw e refl

saved_stops : (steps : Steps) (s : RunState) (line text : List ℕ) → steps s line ≡ stops text → (more : List (List ℕ)) → saved_states steps s (line ∷ more) ≡ []
unfolding saved_states
saved_stops steps s line text e more = rw e refl

-- ---- what is written of it

-- what the lines come to from a state on, as it is written
abbrev pub heard_run : Bool → Steps → RunState → Rest
heard_run silent steps s = record { outcome = λ (lines : List (List ℕ)). heard silent (run steps s lines); saved = saved_states steps s }

-- the limit was met: whatever lines are ahead, nothing more is done
abbrev pub nothing_more : Rest
nothing_more = record { outcome = λ (lines : List (List ℕ)). at_limit; saved = λ (lines : List (List ℕ)). [] }

heard_end : (silent : Bool) (s : RunState) → heard silent (at_end s) ≡ at_end s
heard_end true s = refl
heard_end false s = refl

heard_limit : (silent : Bool) → heard silent at_limit ≡ at_limit
heard_limit true = refl
heard_limit false = refl

heard_then : (silent : Bool) (text : List ℕ) (o : Outcome) → heard silent (then_run text o) ≡ then_run (said silent text) (heard silent o)
heard_then true text o = refl
heard_then false text o = refl

pub heard_ended : (silent : Bool) (steps : Steps) (s : RunState) → heard silent (run steps s []) ≡ at_end s
heard_ended silent steps s = ap (heard silent) (run_ended steps s) ∙ heard_end silent s

heard_stops : (silent : Bool) (steps : Steps) (s : RunState) (line text : List ℕ) → steps s line ≡ stops text → (more : List (List ℕ))
    → heard silent (run steps s (line ∷ more)) ≡ then_run (said silent text) at_limit
heard_stops silent steps s line text e more = ap (heard silent) (run_stops steps s line text e more) ∙ heard_then silent text at_limit ∙ ap (then_run (said silent text)) (heard_limit silent)

-- what a line printed was gathered, unless the run is silent
pub said_more : (silent : Bool) (gathered text printed gathered' : List ℕ) → gathered ≡ said silent gathered → printed ≡ gathered ++ text → gathered' ≡ said silent printed → gathered' ≡ gathered ++ said silent text
said_more true gathered text printed gathered' none e h = h ∙ sym none ∙ sym (append-nil gathered)
said_more false gathered text printed gathered' none e h = h ∙ e

-- what is known of the run so far: the lines that were done, the front that was written, and behind it what is gathered; the states whose images
-- were put; of the script the bytes ahead are left, and the lines were taken with their ends, or no line is ahead
pub record SoFar (puts : Puts) (all now : Rest) (script ahead : Option (List ℕ)) (first written : Option (List ℕ)) (files files' : Files) (front gathered : List ℕ) : Type 0 where
  pub done : List (List ℕ)
  pub put : List RunState
  pub written-is : written ≡ append first front
  pub script-is : option_map lines_of script ≡ option_map (λ more. done ++ more) (option_map lines_of ahead)
  pub ends : (script ≡ prepend (ended_lines done) ahead) ⊎ (option_map lines_of ahead ≡ Some [])
  pub all-is : (more : List (List ℕ)) → all.outcome (done ++ more) ≡ then_run (front ++ gathered) (now.outcome more)
  pub saved-is : (more : List (List ℕ)) → all.saved (done ++ more) ≡ put ++ now.saved more
  pub are_put : ArePut puts put files files'

-- the next line was taken with its end, or no line is ahead behind it
abbrev pub MovesOn : List ℕ → Option (List ℕ) → Option (List ℕ) → Type 0
MovesOn line before after = (before ≡ prepend (line ++ 10 ∷ []) after) ⊎ (option_map lines_of after ≡ Some [])

one_more : (done : List (List ℕ)) (line : List ℕ) (after : Option (List (List ℕ))) → option_map (λ more. done ++ more) (with_line line after) ≡ option_map (λ more. (done ++ line ∷ []) ++ more) after
one_more done line None = refl
one_more done line (Some more) = ap Some (sym (append_assoc done (line ∷ []) more))

not_over : (line : List ℕ) (after : Option (List (List ℕ))) → Some [] ≡ with_line line after → ⊥
not_over line None e = cc
not_over line (Some more) e = let k : [] ≡ line ∷ more = same_Some _ _ e in cc

ended_more : (done : List (List ℕ)) (line : List ℕ) → ended_lines (done ++ line ∷ []) ≡ ended_lines done ++ (line ++ 10 ∷ [])
ended_more done line = flat_map-append (λ (it : List ℕ). it ++ 10 ∷ []) done (line ∷ []) ∙ ap (λ (z : List ℕ). ended_lines done ++ z) (append-nil (line ++ 10 ∷ []))

more_ends : (done : List (List ℕ)) (line : List ℕ) (script before after : Option (List ℕ)) → option_map lines_of before ≡ with_line line (option_map lines_of after) → MovesOn line before after
    → (script ≡ prepend (ended_lines done) before) ⊎ (option_map lines_of before ≡ Some [])
    → (script ≡ prepend (ended_lines (done ++ line ∷ [])) after) ⊎ (option_map lines_of after ≡ Some [])
more_ends done line script before after e (inl moved) (inl is) =
    inl (is ∙ ap (prepend (ended_lines done)) moved ∙ prepend-prepend (ended_lines done) (line ++ 10 ∷ []) after ∙ ap (λ (z : List ℕ). prepend z after) (sym (ended_more done line)))
more_ends done line script before after e (inr over) (inl is) = inr over
more_ends done line script before after e moved (inr over) = absurd (not_over line (option_map lines_of after) (sym over ∙ e))

-- a line was done
turned : {puts : Puts} {all now next : Rest} {script before after : Option (List ℕ)} {first written : Option (List ℕ)} {files files' files'' : Files} {front : List ℕ} (line text gathered gathered' : List ℕ) (new : List RunState)
    → SoFar puts all now script before first written files files' front gathered
    → option_map lines_of before ≡ with_line line (option_map lines_of after) → MovesOn line before after → gathered' ≡ gathered ++ text
    → ((more : List (List ℕ)) → now.outcome (line ∷ more) ≡ then_run text (next.outcome more)) → ((more : List (List ℕ)) → now.saved (line ∷ more) ≡ new ++ next.saved more)
    → ArePut puts new files' files''
    → SoFar puts all next script after first written files files'' front gathered'
turned {puts} {all} {now} {next} {script} {before} {after} {first} {written} {files} {files'} {files''} {front} line text gathered gathered' new h e moved g step saved puts_new = record {
  done = h.done ++ line ∷ [];
  put = h.put ++ new;
  written-is = h.written-is;
  script-is = h.script-is ∙ ap (option_map (λ more. h.done ++ more)) e ∙ one_more h.done line (option_map lines_of after);
  ends = more_ends h.done line script before after e moved h.ends;
  all-is = λ more.
      ap all.outcome (append_assoc h.done (line ∷ []) more) ∙ h.all-is (line ∷ more) ∙ ap (then_run (front ++ gathered)) (step more)
      ∙ then_run-then_run (front ++ gathered) text (next.outcome more)
      ∙ ap (λ (z : List ℕ). then_run z (next.outcome more)) (append_assoc front gathered text ∙ ap (λ (z : List ℕ). front ++ z) (sym g));
  saved-is = λ more.
      ap all.saved (append_assoc h.done (line ∷ []) more) ∙ h.saved-is (line ∷ more) ∙ ap (λ (z : List RunState). h.put ++ z) (saved more) ∙ sym (append_assoc h.put new (next.saved more));
  are_put = put_both puts h.put new files files' files'' h.are_put puts_new;
}

-- what a turn says: the line was done, and the engine stands for the world after it
goes_of : (stands : World → Type 0) (step : LineEffect) (before after : List ℕ) (faulty : Bool) (left : ℕ) → Does stands step before after (Goes faulty left)
    → (done : Done) × (step ≡ goes_on done) × (after ≡ before ++ done.text) × stands done.world × (faulty ≡ done.faulty) × (left ≡ done.left)
goes_of stands (goes_on done) before after faulty left h = (done, refl, h.0, h.1, faulty_is faulty left done.faulty done.left h.2, left_is faulty left done.faulty done.left h.2)
  where
    faulty_is : (a : Bool) (m : ℕ) (b : Bool) (n : ℕ) → Goes a m ≡ Goes b n → a ≡ b
    faulty_is a m b n e = cc

    left_is : (a : Bool) (m : ℕ) (b : Bool) (n : ℕ) → Goes a m ≡ Goes b n → m ≡ n
    left_is a m b n e = cc
goes_of stands (saves done) before after faulty left h = absurd (let e : Goes faulty left ≡ Saves done.faulty done.left = h.2 in cc)
goes_of stands (stops text) before after faulty left h = absurd (let e : Goes faulty left ≡ Stops = h.1 in cc)

pub saves_of : (stands : World → Type 0) (step : LineEffect) (before after : List ℕ) (faulty : Bool) (left : ℕ) → Does stands step before after (Saves faulty left)
    → (done : Done) × (step ≡ saves done) × (after ≡ before ++ done.text) × stands done.world × (faulty ≡ done.faulty) × (left ≡ done.left)
saves_of stands (saves done) before after faulty left h = (done, refl, h.0, h.1, faulty_is faulty left done.faulty done.left h.2, left_is faulty left done.faulty done.left h.2)
  where
    faulty_is : (a : Bool) (m : ℕ) (b : Bool) (n : ℕ) → Saves a m ≡ Saves b n → a ≡ b
    faulty_is a m b n e = cc

    left_is : (a : Bool) (m : ℕ) (b : Bool) (n : ℕ) → Saves a m ≡ Saves b n → m ≡ n
    left_is a m b n e = cc
saves_of stands (goes_on done) before after faulty left h = absurd (let e : Saves faulty left ≡ Goes done.faulty done.left = h.2 in cc)
saves_of stands (stops text) before after faulty left h = absurd (let e : Saves faulty left ≡ Stops = h.1 in cc)

stops_of : (stands : World → Type 0) (step : LineEffect) (before after : List ℕ) → Does stands step before after Stops → (text : List ℕ) × (step ≡ stops text) × (after ≡ before ++ text)
stops_of stands (goes_on done) before after h = absurd (let e : Stops ≡ Goes done.faulty done.left = h.2 in cc)
stops_of stands (saves done) before after h = absurd (let e : Stops ≡ Saves done.faulty done.left = h.2 in cc)
stops_of stands (stops text) before after h = (text, refl, h.0)

-- a line was done from a state on and the run goes on, and these images were put
pub record TurnsOn (puts : Puts) (steps : Steps) (s : RunState) (line gathered printed : List ℕ) (stands : World → Type 0) (behind : Progress) (files files' : Files) : Type 0 where
  pub done : Done
  pub new : List RunState
  pub prints : (more : List (List ℕ)) → run steps s (line ∷ more) ≡ then_run done.text (run steps (state_in done.world behind) more)
  pub saved-is : (more : List (List ℕ)) → saved_states steps s (line ∷ more) ≡ new ++ saved_states steps (state_in done.world behind) more
  pub text-is : printed ≡ gathered ++ done.text
  pub there : stands done.world
  pub are_put : ArePut puts new files files'

pub behind_is : (s : RunState) (done : Done) (bad : Bool) (left : ℕ) (behind : Progress) → bad ≡ done.faulty → left ≡ done.left → behind ≡ progress_after s.progress bad left → state_after s done ≡ state_in done.world behind
behind_is s done bad left behind faulty some is = ap (state_in done.world) (ap₂ (progress_after s.progress) (sym faulty) (sym some) ∙ sym is)

-- the line does not save
pub goes_turn : (puts : Puts) (steps : Steps) (s : RunState) (line gathered printed : List ℕ) (stands : World → Type 0) (bad : Bool) (left : ℕ) (behind : Progress) (files : Files)
    → Does stands (steps s line) gathered printed (Goes bad left) → behind ≡ progress_after s.progress bad left → TurnsOn puts steps s line gathered printed stands behind files files
goes_turn puts steps s line gathered printed stands bad left behind files d is =
    let g = goes_of stands (steps s line) gathered printed bad left d in
    let same = behind_is s g.0 bad left behind g.4 g.5 is in
    record {
      done = g.0;
      new = [];
      prints = λ more. run_goes steps s line g.0 g.1 more ∙ ap (λ (z : RunState). then_run g.0.text (run steps z more)) same;
      saved-is = λ more. saved_goes steps s line g.0 g.1 more ∙ ap (λ (z : RunState). saved_states steps z more) same;
      text-is = g.2;
      there = g.3;
      are_put = refl;
    }

-- the line saves, and the image of the state behind it was put
pub saves_at : (puts : Puts) (steps : Steps) (s : RunState) (line gathered printed : List ℕ) (stands : World → Type 0) (bad : Bool) (left : ℕ) (behind : Progress) (files files' : Files)
    → (it : (done : Done) × (steps s line ≡ saves done) × (printed ≡ gathered ++ done.text) × stands done.world × (bad ≡ done.faulty) × (left ≡ done.left))
    → behind ≡ progress_after s.progress bad left → puts (state_in it.0.world behind) files files' → TurnsOn puts steps s line gathered printed stands behind files files'
saves_at puts steps s line gathered printed stands bad left behind files files' it is put =
    let same = behind_is s it.0 bad left behind it.4 it.5 is in
    record {
      done = it.0;
      new = state_in it.0.world behind ∷ [];
      prints = λ more. run_saves steps s line it.0 it.1 more ∙ ap (λ (z : RunState). then_run it.0.text (run steps z more)) same;
      saved-is = λ more. saved_saves steps s line it.0 it.1 more ∙ ap (λ (z : RunState). z ∷ saved_states steps z more) same;
      text-is = it.2;
      there = it.3;
      are_put = (files', put, refl);
    }

pub saves_turn : (puts : Puts) (steps : Steps) (s : RunState) (line gathered printed : List ℕ) (stands : World → Type 0) (bad : Bool) (left : ℕ) (behind : Progress) (files files' : Files)
    → Does stands (steps s line) gathered printed (Saves bad left) → behind ≡ progress_after s.progress bad left → ((v : World) → stands v → puts (state_in v behind) files files')
    → TurnsOn puts steps s line gathered printed stands behind files files'
saves_turn puts steps s line gathered printed stands bad left behind files files' d is put =
    let it = saves_of stands (steps s line) gathered printed bad left d in
    saves_at puts steps s line gathered printed stands bad left behind files files' it is (put it.0.world it.3)

-- the run goes on behind a line
pub goes_further : {puts : Puts} {all : Rest} {script before after : Option (List ℕ)} {first written : Option (List ℕ)} {files files' : Files} {front : List ℕ} (silent : Bool) (steps : Steps) (s : RunState)
    (behind : Progress) (line gathered printed gathered' : List ℕ) (stands : World → Type 0) (files'' : Files)
    → SoFar puts all (heard_run silent steps s) script before first written files files' front gathered
    → option_map lines_of before ≡ with_line line (option_map lines_of after) → MovesOn line before after
    → (t : TurnsOn puts steps s line gathered printed stands behind files' files'') → gathered ≡ said silent gathered → gathered' ≡ said silent printed
    → SoFar puts all (heard_run silent steps (state_in t.done.world behind)) script after first written files files'' front gathered'
goes_further silent steps s behind line gathered printed gathered' stands files'' h e moved t none hushed =
    turned line (said silent t.done.text) gathered gathered' t.new h e moved (said_more silent gathered t.done.text printed gathered' none t.text-is hushed)
    (λ more. ap (heard silent) (t.prints more) ∙ heard_then silent t.done.text (run steps (state_in t.done.world behind) more)) t.saved-is t.are_put

-- the limit was met at a line: nothing more is done
pub ends_there : {puts : Puts} {all : Rest} {script before after : Option (List ℕ)} {first written : Option (List ℕ)} {files files' : Files} {front : List ℕ} (silent : Bool) (steps : Steps) (s : RunState)
    (line gathered printed gathered' : List ℕ) (stands : World → Type 0)
    → SoFar puts all (heard_run silent steps s) script before first written files files' front gathered
    → option_map lines_of before ≡ with_line line (option_map lines_of after) → MovesOn line before after
    → Does stands (steps s line) gathered printed Stops → gathered ≡ said silent gathered → gathered' ≡ said silent printed
    → SoFar puts all nothing_more script after first written files files' front gathered'
ends_there silent steps s line gathered printed gathered' stands h e moved d none hushed =
    let g = stops_of stands (steps s line) gathered printed d in
    turned line (said silent g.0) gathered gathered' [] h e moved (said_more silent gathered g.0 printed gathered' none g.2 hushed) (heard_stops silent steps s line g.0 g.1) (saved_stops steps s line g.0 g.1) refl

-- a front of what is gathered was written
pub flushed : {puts : Puts} {all now : Rest} {script ahead : Option (List ℕ)} {first written : Option (List ℕ)} {files files' : Files} {front gathered : List ℕ} (written' : Option (List ℕ)) (gathered' : List ℕ) (files'' : Files)
    → SoFar puts all now script ahead first written files files' front gathered → (f : Flushes written gathered written' gathered') → files'' ≡ files'
    → SoFar puts all now script ahead first written' files files'' (front ++ take f.0 gathered) gathered'
flushed {puts} {now = now} {first = first} {files = files} {front = front} {gathered = gathered} written' gathered' files'' h f same = record {
  done = h.done;
  put = h.put;
  written-is = f.2 ∙ ap (λ (z : Option (List ℕ)). append z (take f.0 gathered)) h.written-is ∙ append-append first front (take f.0 gathered);
  script-is = h.script-is;
  ends = h.ends;
  all-is = λ more. h.all-is more ∙ ap (λ (z : List ℕ). then_run z (now.outcome more))
      (ap (λ (z : List ℕ). front ++ z) (sym (take-append-drop f.0 gathered)) ∙ sym (append_assoc front (take f.0 gathered) (drop f.0 gathered)) ∙ ap (λ (z : List ℕ). (front ++ take f.0 gathered) ++ z) (sym f.3));
  saved-is = h.saved-is;
  are_put = subst (λ (z : Files). ArePut puts h.put files z) (sym same) h.are_put;
}

-- the first so many, or all where they are fewer
front_of : (count : ℕ) (bytes : List ℕ) → (n : ℕ) × (n ≤ length bytes) × (take count bytes ≡ take n bytes) × (drop count bytes ≡ drop n bytes)
front_of zero bytes = (0, omega arith, refl, refl)
front_of (suc count) [] = (0, omega arith, refl, refl)
front_of (suc count) (b ∷ bytes) = let r = front_of count bytes in (suc r.0, omega (arith, r.1), ap (λ (z : List ℕ). b ∷ z) r.2, r.3)

-- so many of the gathered bytes were written, or all, and dropped
pub front_flushed : (count : ℕ) (gathered : List ℕ) (written written' : Option (List ℕ)) (gathered' : List ℕ) → written' ≡ append written (take count gathered) → gathered' ≡ drop count gathered → Flushes written gathered written' gathered'
front_flushed count gathered written written' gathered' e f = let r = front_of count gathered in (r.0, r.1, e ∙ ap (append written) r.2, f ∙ r.3)

-- what was gathered before a line that saves
pub before_saving : (stands : World → Type 0) (step : LineEffect) (silent : Bool) (count : ℕ) (gathered printed gathered' : List ℕ) (bad : Bool) (left : ℕ) → Does stands step gathered printed (Saves bad left)
    → gathered ≡ said silent gathered → gathered' ≡ said silent printed → count ≡ length gathered → take count gathered' ≡ gathered
before_saving stands step silent count gathered printed gathered' bad left d none hushed is =
    let g = saves_of stands step gathered printed bad left d in
    rw (said_more silent gathered g.0.text printed gathered' none g.2 hushed) (take_at gathered (said silent g.0.text) count (sym is))

-- all that is gathered was written
pub all_flushed : (gathered : List ℕ) (written written' : Option (List ℕ)) → written' ≡ append written gathered → Flushes written gathered written' []
all_flushed gathered written written' e = (length gathered, omega arith, e ∙ ap (append written) (sym (take_all (length gathered) gathered (omega arith))), sym (drop_all (length gathered) gathered (omega arith)))

-- what was written in two pieces
pub written_then : (first written : Option (List ℕ)) (front : List ℕ) → written ≡ append first front → (more : List ℕ) → append written more ≡ append first (front ++ more)
written_then first written front e more = ap (λ (z : Option (List ℕ)). append z more) e ∙ append-append first front more

pub flushed_front : (first : Option (List ℕ)) {written written' : Option (List ℕ)} (front : List ℕ) {gathered gathered' : List ℕ} → written ≡ append first front → (f : Flushes written gathered written' gathered')
    → written' ≡ append first (front ++ take f.0 gathered)
flushed_front first {written} {written'} front {gathered} e f = f.2 ∙ written_then first written front e (take f.0 gathered)

-- the lines that are ahead make the rest of the run
whole : {puts : Puts} {all now : Rest} {script ahead : Option (List ℕ)} {first written : Option (List ℕ)} {files files' : Files} {front gathered : List ℕ} (bytes : List ℕ)
    → (h : SoFar puts all now script ahead first written files files' front gathered) → script ≡ Some bytes
    → (more : List ℕ) × (ahead ≡ Some more) × (lines_of bytes ≡ h.done ++ lines_of more) × (all.outcome (lines_of bytes) ≡ then_run (front ++ gathered) (now.outcome (lines_of more)))
whole {all = all} {now = now} {ahead = ahead} {front = front} {gathered = gathered} bytes h e = here ahead (ap (option_map lines_of) (sym e) ∙ h.script-is)
  where
    here : (o : Option (List ℕ)) → Some (lines_of bytes) ≡ option_map (λ more. h.done ++ more) (option_map lines_of o)
        → (more : List ℕ) × (o ≡ Some more) × (lines_of bytes ≡ h.done ++ lines_of more) × (all.outcome (lines_of bytes) ≡ then_run (front ++ gathered) (now.outcome (lines_of more)))
    here None k = absurd cc
    here (Some more) k = let is = same_Some _ _ k in (more, refl, is, ap all.outcome is ∙ h.all-is (lines_of more))

pub told_err : {A T E : Type 0} (o : Option A) (r : Result T E) (P : A → Type 0) → IfSome o P → IfSome o (λ x. OnErr r (P x))
told_err None r P h = tt
told_err (Some x) (Ok y) P h = tt
told_err (Some x) (Err e) P h = h

-- nothing more is printed, and what was gathered is written: that is the outcome
pub all_done : {puts : Puts} {all now : Rest} {ahead : Option (List ℕ)} {first written : Option (List ℕ)} {files files' : Files} {front gathered : List ℕ} (script : Option (List ℕ)) (last : Outcome) → last.bytes ≡ []
    → SoFar puts all now script ahead first written files files' front gathered
    → IfSome (option_map lines_of ahead) (λ more. now.outcome more ≡ last)
    → IfSome script (λ bytes. (front ++ gathered ≡ (all.outcome (lines_of bytes)).bytes) × (last.ended ≡ (all.outcome (lines_of bytes)).ended) × (last.comes_to ≡ (all.outcome (lines_of bytes)).comes_to))
all_done None last none h over = tt
all_done {all = all} {now = now} {front = front} {gathered = gathered} (Some bytes) last none h over =
    let r = whole bytes h refl in
    let over_so : now.outcome (lines_of r.0) ≡ last = rw r.1 at over in
    let is : all.outcome (lines_of bytes) ≡ then_run (front ++ gathered) last = r.3 ∙ ap (then_run (front ++ gathered)) over_so in
    let bytes_are : (all.outcome (lines_of bytes)).bytes ≡ front ++ gathered = ap (λ (o : Outcome). o.bytes) is ∙ ap (λ (z : List ℕ). (front ++ gathered) ++ z) none ∙ append-nil (front ++ gathered) in
    (sym bytes_are, sym (ap (λ (o : Outcome). o.ended) is), sym (ap (λ (o : Outcome). o.comes_to) is))

-- no image more is put: these are all
pub all_put : {puts : Puts} {all now : Rest} {ahead : Option (List ℕ)} {first written : Option (List ℕ)} {files files' : Files} {front gathered : List ℕ} (script : Option (List ℕ))
    → SoFar puts all now script ahead first written files files' front gathered → IfSome (option_map lines_of ahead) (λ more. now.saved more ≡ [])
    → IfSome script (λ bytes. ArePut puts (all.saved (lines_of bytes)) files files')
all_put None h over = tt
all_put {puts} {all = all} {now = now} {files = files} {files' = files'} (Some bytes) h over =
    let r = whole bytes h refl in
    let over_so : now.saved (lines_of r.0) ≡ [] = rw r.1 at over in
    let is : all.saved (lines_of bytes) ≡ h.put = ap all.saved r.2 ∙ h.saved-is (lines_of r.0) ∙ ap (λ (z : List RunState). h.put ++ z) over_so ∙ append-nil h.put in
    subst (λ (z : List RunState). ArePut puts z files files') (sym is) h.are_put

-- there was no line more
pub no_line : (silent : Bool) (steps : Steps) (s : RunState) (ahead : Option (List (List ℕ))) → IfSome ahead (λ lines. lines ≡ [])
    → IfSome ahead (λ more. heard silent (run steps s more) ≡ at_end s)
no_line silent steps s None h = tt
no_line silent steps s (Some lines) h = ap (λ (z : List (List ℕ)). heard silent (run steps s z)) h ∙ heard_ended silent steps s

pub no_line_saves : (steps : Steps) (s : RunState) (ahead : Option (List (List ℕ))) → IfSome ahead (λ lines. lines ≡ []) → IfSome ahead (λ more. saved_states steps s more ≡ [])
no_line_saves steps s None h = tt
no_line_saves steps s (Some lines) h = ap (saved_states steps s) h ∙ none_saved steps s

pub no_more_saves : (ahead : Option (List (List ℕ))) → IfSome ahead (λ more. nothing_more.saved more ≡ [])
no_more_saves None = tt
no_more_saves (Some more) = refl

pub no_more : (ahead : Option (List (List ℕ))) → IfSome ahead (λ more. at_limit ≡ at_limit)
no_more None = tt
no_more (Some more) = refl

front_is : (first written : Option (List ℕ)) (front back bytes : List ℕ) → written ≡ append first front → bytes ≡ front ++ back → AppendsFront first written bytes
front_is first written front back bytes e parts = (length front, rw parts (omega (arith, length-append front back)), e ∙ ap (append first) (sym (rw parts (take_at front back (length front) refl))))

-- the run stops: a front of its bytes was written
pub stopped : {puts : Puts} {all now : Rest} {ahead : Option (List ℕ)} {first written : Option (List ℕ)} {files files' : Files} {front gathered : List ℕ} (script : Option (List ℕ))
    → SoFar puts all now script ahead first written files files' front gathered
    → IfSome script (λ bytes. AppendsFront first written (all.outcome (lines_of bytes)).bytes)
stopped None h = tt
stopped {all = all} {now = now} {first = first} {written = written} {front = front} {gathered = gathered} (Some bytes) h =
    let r = whole bytes h refl in
    front_is first written front (gathered ++ (now.outcome (lines_of r.0)).bytes) _ h.written-is (ap (λ (o : Outcome). o.bytes) r.3 ∙ append_assoc front gathered (now.outcome (lines_of r.0)).bytes)

-- the run stops in a write: a front of its bytes was written
pub stopped_in : {puts : Puts} {all now : Rest} {ahead : Option (List ℕ)} {first written : Option (List ℕ)} {files files' : Files} {front gathered : List ℕ} (script written' : Option (List ℕ))
    → SoFar puts all now script ahead first written files files' front gathered → AppendsFront written written' gathered
    → IfSome script (λ bytes. AppendsFront first written' (all.outcome (lines_of bytes)).bytes)
stopped_in {files' = files'} {gathered = gathered} script written' h part = stopped script (flushed written' (drop part.0 gathered) files' h (part.0, part.1, part.2, refl) refl)

-- the outcome of the lines that were done, and the states whose images are put for them
alone : {puts : Puts} {all now : Rest} {script ahead : Option (List ℕ)} {first written : Option (List ℕ)} {files files' : Files} {front gathered : List ℕ}
    → (h : SoFar puts all now script ahead first written files files' front gathered) → all.outcome h.done ≡ then_run (front ++ gathered) (now.outcome [])
alone {all = all} h = ap all.outcome (sym (append-nil h.done)) ∙ h.all-is []

alone_put : {puts : Puts} {all now : Rest} {script ahead : Option (List ℕ)} {first written : Option (List ℕ)} {files files' : Files} {front gathered : List ℕ}
    → (h : SoFar puts all now script ahead first written files files' front gathered) → now.saved [] ≡ [] → ArePut puts (all.saved h.done) files files'
alone_put {puts} {all = all} {files = files} {files' = files'} h none =
    let is : all.saved h.done ≡ h.put = ap all.saved (sym (append-nil h.done)) ∙ h.saved-is [] ∙ ap (λ (z : List RunState). h.put ++ z) none ∙ append-nil h.put in
    subst (λ (z : List RunState). ArePut puts z files files') (sym is) h.are_put

-- the run stops: the images of the lines that were done are put, and a front of what these print was written
pub stopped_kept : {puts : Puts} {all now : Rest} {ahead : Option (List ℕ)} {first written : Option (List ℕ)} {files files' : Files} {front gathered : List ℕ} (script : Option (List ℕ))
    → SoFar puts all now script ahead first written files files' front gathered → now.saved [] ≡ []
    → IfSome script (λ bytes. KeptFront puts all.outcome all.saved bytes first written files files')
stopped_kept None h none = tt
stopped_kept {all = all} {now = now} {first = first} {written = written} {front = front} {gathered = gathered} (Some bytes) h none =
    let r = whole bytes h refl in
    record {
      lines = h.done;
      rest = lines_of r.0;
      parts = r.2;
      is_front = front_is first written front (gathered ++ (now.outcome []).bytes) _ h.written-is (ap (λ (o : Outcome). o.bytes) (alone h) ∙ append_assoc front gathered (now.outcome []).bytes);
      are_put = alone_put h none;
    }

pub stopped_kept_err : {puts : Puts} {all now : Rest} {ahead : Option (List ℕ)} {first written : Option (List ℕ)} {files files' : Files} {front gathered : List ℕ} {T E : Type 0} (script : Option (List ℕ)) (r : Result T E)
    → SoFar puts all now script ahead first written files files' front gathered → now.saved [] ≡ []
    → IfSome script (λ bytes. OnErr r (KeptFront puts all.outcome all.saved bytes first written files files'))
stopped_kept_err {puts} {all} {first = first} {written = written} {files = files} {files' = files'} script r h none =
    told_err script r (λ (bytes : List ℕ). KeptFront puts all.outcome all.saved bytes first written files files') (stopped_kept script h none)

-- the run stops in a write: the images of the lines that were done are put
pub stopped_in_kept : {puts : Puts} {all now : Rest} {ahead : Option (List ℕ)} {first written : Option (List ℕ)} {files files' : Files} {front gathered : List ℕ} {T E : Type 0} (script : Option (List ℕ)) (r : Result T E)
    (written' : Option (List ℕ)) (files'' : Files) → SoFar puts all now script ahead first written files files' front gathered → now.saved [] ≡ [] → AppendsFront written written' gathered → files'' ≡ files'
    → IfSome script (λ bytes. OnErr r (KeptFront puts all.outcome all.saved bytes first written' files files''))
stopped_in_kept {gathered = gathered} script r written' files'' h none part same =
    stopped_kept_err script r (flushed written' (drop part.0 gathered) files'' h (part.0, part.1, part.2, refl) same) none

told_after : (a b : ℕ) (script : List ℕ) (left : Option (List ℕ)) → Some (0 + length script) ≡ total_told a left → b < a → (rest : List ℕ) × (left ≡ Some rest) × (length rest + b < length script)
told_after a b script None e lt = absurd cc
told_after a b script (Some rest) e lt = let is : 0 + length script ≡ a + length rest = same_Some _ _ e in (rest, refl, omega arith)

goes_on_there : {faulted : Bool} {ended : Ended} → ended ≡ Script faulted → ended ≢ Limit
goes_on_there {faulted} e met = let k : Script faulted ≡ Limit = sym e ∙ met in absurd cc

-- more was taken than may be, and the limit was not met before
pub long_run : {puts : Puts} {all now : Rest} {ahead : Option (List ℕ)} {first written : Option (List ℕ)} {files files' : Files} {front gathered : List ℕ} (most : ℕ) (script after : Option (List ℕ)) (s : RunState) (taken : ℕ)
    → SoFar puts all now script ahead first written files files' front gathered → now.outcome [] ≡ at_end s
    → (front : List ℕ) × HasNoEnd front × (ahead ≡ prepend front after) → total_told 0 script ≡ total_told taken after → most < taken
    → IfSome script (LongOver most all.outcome)
long_run most None after s taken h e stop total many = tt
long_run {front = front} {gathered = gathered} most (Some bytes) after s taken h e stop total many =
    let r = whole bytes h refl in
    let t = told_after taken most bytes after total many in
    let ahead : r.0 ≡ stop.0 ++ t.0 = same_Some _ _ (sym r.1 ∙ stop.2 ∙ ap (prepend stop.0) t.1) in
    record {
      lines = h.done;
      piece = stop.0;
      rest = t.0;
      parts = r.2 ∙ ap (λ (more : List ℕ). h.done ++ lines_of more) ahead;
      no_end = stop.1;
      many = t.2;
      not_met = goes_on_there (ap (λ (o : Outcome). o.ended) (alone h ∙ ap (then_run (front ++ gathered)) e));
    }

-- whether it is written does not count
pub long_heard : (silent : Bool) (most : ℕ) (steps : Steps) (s : RunState) (script : Option (List ℕ)) → IfSome script (LongOver most (λ (lines : List (List ℕ)). heard silent (run steps s lines))) → IfSome script (LongOver most (run steps s))
long_heard silent most steps s None h = tt
long_heard true most steps s (Some bytes) h = record { lines = h.lines; piece = h.piece; rest = h.rest; parts = h.parts; no_end = h.no_end; many = h.many; not_met = h.not_met }
long_heard false most steps s (Some bytes) h = h

left_of : (front more : List ℕ) (after : Option (List ℕ)) → Some more ≡ prepend front after → (rest : List ℕ) × (after ≡ Some rest) × (more ≡ front ++ rest)
left_of front more None e = absurd cc
left_of front more (Some rest) e = (rest, refl, same_Some _ _ e)

ends_of : (done : List (List ℕ)) (bytes more piece rest : List ℕ) → more ≡ piece ++ rest → lines_of bytes ≡ done ++ lines_of more
    → (Some bytes ≡ prepend (ended_lines done) (Some more)) ⊎ (Some (lines_of more) ≡ Some [])
    → (bytes ≡ ended_lines done ++ piece ++ rest) ⊎ (done ≡ lines_of bytes)
ends_of done bytes more piece rest is parts (inl e) = inl (same_Some _ _ e ∙ ap (λ (z : List ℕ). ended_lines done ++ z) is ∙ sym (append_assoc (ended_lines done) piece rest))
ends_of done bytes more piece rest is parts (inr over) = inr (sym (append-nil done) ∙ ap (λ (z : List (List ℕ)). done ++ z) (sym (same_Some _ _ over)) ∙ sym parts)

-- the run stops at a read, and everything that was gathered is written
pub stopped_at_read : {puts : Puts} {all now : Rest} {ahead : Option (List ℕ)} {first written : Option (List ℕ)} {files files' : Files} {front gathered : List ℕ} (script after : Option (List ℕ)) (s : RunState)
    → SoFar puts all now script ahead first written files files' front gathered → gathered ≡ [] → now.outcome [] ≡ at_end s → now.saved [] ≡ []
    → (front : List ℕ) × HasNoEnd front × (ahead ≡ prepend front after)
    → IfSome script (λ bytes. StoppedKept puts all.outcome all.saved bytes after first written files files')
stopped_at_read None after s h none e none_saved stop = tt
stopped_at_read {first = first} {front = front} {gathered = gathered} (Some bytes) after s h none e none_saved stop =
    let r = whole bytes h refl in
    let left = left_of stop.0 r.0 after (sym r.1 ∙ stop.2) in
    let outcome = alone h ∙ ap (then_run (front ++ gathered)) e in
    let ends : (Some bytes ≡ prepend (ended_lines h.done) (Some r.0)) ⊎ (Some (lines_of r.0) ≡ Some []) = rw r.1 at h.ends in
    record {
      stop = record {
        lines = h.done;
        piece = stop.0;
        rest = left.0;
        parts = r.2 ∙ ap (λ (more : List ℕ). h.done ++ lines_of more) left.2;
        ends = ends_of h.done bytes r.0 stop.0 left.0 left.2 r.2 ends;
        no_end = stop.1;
        is_left = left.1;
        not_met = goes_on_there (ap (λ (o : Outcome). o.ended) outcome);
        is_written = h.written-is ∙ ap (append first) (sym (append-nil front) ∙ ap (λ (z : List ℕ). front ++ z) (sym none) ∙ sym (append-nil (front ++ gathered)) ∙ sym (ap (λ (o : Outcome). o.bytes) outcome));
      };
      are_put = alone_put h none_saved;
    }

next_of : (line : List ℕ) (lines : List (List ℕ)) (after : Option (List (List ℕ))) → Some lines ≡ with_line line after → (rest : List (List ℕ)) × (lines ≡ line ∷ rest)
next_of line lines None e = absurd cc
next_of line lines (Some rest) e = (rest, same_Some _ _ e)

-- the image of the state behind the next line is refused, and everything that was gathered before the line is written
pub refused_there : {puts : Puts} {all : Rest} {ahead : Option (List ℕ)} {first written : Option (List ℕ)} {files files' : Files} {front : List ℕ} (script : Option (List ℕ)) (silent : Bool) (steps : Steps) (s : RunState)
    (line : List ℕ) (after : Option (List ℕ)) (done : Done) (refuses : RunState → ImageFault → Type 0) (why : ImageFault)
    → SoFar puts all (heard_run silent steps s) script ahead first written files files' front [] → option_map lines_of ahead ≡ with_line line (option_map lines_of after)
    → steps s line ≡ saves done → refuses (state_after s done) why
    → IfSome script (λ bytes. RefusedAt puts refuses why steps all.outcome all.saved bytes first written files files')
refused_there None silent steps s line after done refuses why h next there is = tt
refused_there {first = first} {front = front} (Some bytes) silent steps s line after done refuses why h next there is =
    let r = whole bytes h refl in
    let outcome = alone h ∙ ap (then_run (front ++ [])) (heard_ended silent steps s) in
    let ahead = next_of line (lines_of r.0) (option_map lines_of after) (ap (option_map lines_of) (sym r.1) ∙ next) in
    record {
      lines = h.done;
      line = line;
      rest = ahead.0;
      parts = r.2 ∙ ap (λ (more : List (List ℕ)). h.done ++ more) ahead.1;
      state = s;
      comes = ap (λ (o : Outcome). o.comes_to) outcome;
      done = done;
      saves_there = there;
      is_refused = is;
      is_written = h.written-is ∙ ap (append first) (sym (append-nil front) ∙ sym (append-nil (front ++ [])) ∙ sym (ap (λ (o : Outcome). o.bytes) outcome));
      are_put = alone_put h (none_saved steps s);
    }

pub if_told : {A : Type 0} {P Q : A → Type 0} (o : Option A) → ((x : A) → P x → Q x) → IfSome o P → IfSome o Q
if_told None f h = tt
if_told (Some x) f h = f x h

-- nothing was written
pub append_nothing : (written : Option (List ℕ)) → append written [] ≡ written
append_nothing None = refl
append_nothing (Some front) = ap Some (append-nil front)

nothing_done : (ahead : Option (List (List ℕ))) → ahead ≡ option_map (λ more. [] ++ more) ahead
nothing_done None = refl
nothing_done (Some lines) = refl

-- nothing has been read or written
pub at_start : {puts : Puts} {all : Rest} (script first : Option (List ℕ)) (files : Files) (kept gathered : List ℕ) → kept ≡ [] → gathered ≡ []
    → SoFar puts all all script (prepend kept script) first first files files [] gathered
at_start script first files kept gathered kept-is gathered-is = rw (kept-is, gathered-is, prepend-nil script) (record {
  done = [];
  put = [];
  written-is = sym (append_nothing first);
  script-is = nothing_done (option_map lines_of script);
  ends = inl (sym (prepend-nil script));
  all-is = λ more. refl;
  saved-is = λ more. refl;
  are_put = refl;
})

-- ---- what a reader of lines takes

pub first_is : (a b : List ℕ) (more : List (List ℕ)) → Some (a ∷ more) ≡ Some (b ∷ more) → a ≡ b
first_is a b more e = cc

nothing_ahead : (kept rest : List ℕ) → kept ≡ [] → rest ≡ [] → Some (lines_of (kept ++ rest)) ≡ Some []
unfolding lines_of
nothing_ahead kept rest h k = rw (h, k) refl

-- the line that was taken is the next one
taken_on : (line next bytes kept : List ℕ) (ends : Type 0) (left : Option (List ℕ)) → (ends → IsExhausted left) → TakesLine line bytes kept ends
    → with_line line (option_map lines_of (prepend kept left)) ≡ with_line next (option_map lines_of (prepend kept left)) → MovesOn next (prepend bytes left) (prepend kept left)
taken_on line next bytes kept ends None over (no_end, takes) e = inl refl
taken_on line next bytes kept ends (Some rest) over (no_end, inl is) e =
    let first : line ≡ next = first_is line next (lines_of (kept ++ rest)) e in
    inl (ap Some (ap (λ (z : List ℕ). z ++ rest) (is ∙ ap (λ (z : List ℕ). z ++ 10 ∷ kept) first) ∙ append_assoc next (10 ∷ kept) rest ∙ sym (append_assoc next (10 ∷ []) (kept ++ rest))))
taken_on line next bytes kept ends (Some rest) over (no_end, inr last) e = inr (nothing_ahead kept rest last.2 (over last.3))

none_taken : (next bytes kept : List ℕ) (left : Option (List ℕ)) → kept ≡ [] → IsExhausted left → MovesOn next (prepend bytes left) (prepend kept left)
none_taken next bytes kept None none over = inl refl
none_taken next bytes kept (Some rest) none over = inr (nothing_ahead kept rest none over)

-- the next of the lines ahead was answered: it was taken with its end, or no line is ahead behind it
pub moves_on : (most total : ℕ) (answer : Line) (next kept read kept' : List ℕ) (taken taken' given given' : ℕ) (left left' : Option (List ℕ))
    → ReadsBytes read taken taken' given given' left left' → TakesFromBytes most answer (kept ++ read) kept' ((taken' ≤ total) × IsExhausted left')
    → option_map lines_of (prepend kept left) ≡ with_line next (option_map lines_of (prepend kept' left'))
    → MovesOn next (prepend kept left) (prepend kept' left')
moves_on most total answer next kept read kept' taken taken' given given' left left' reads takes e = subst (λ (z : Option (List ℕ)). MovesOn next z (prepend kept' left')) (sym before) (here answer takes)
  where
    before : prepend kept left ≡ prepend (kept ++ read) left'
    before = ap (prepend kept) reads.left ∙ prepend-prepend kept read left'

    line_taken : (line : List ℕ) → TakesLine line (kept ++ read) kept' ((taken' ≤ total) × IsExhausted left') → MovesOn next (prepend (kept ++ read) left') (prepend kept' left')
    line_taken line t =
        let answers = answers_ahead read kept kept' taken taken' given given' left left' reads (length line) total (Whole line) (omega arith, t) in
        taken_on line next (kept ++ read) kept' ((taken' ≤ total) × IsExhausted left') left' (λ ends. ends.1) t (sym answers.1 ∙ e)

    here : (it : Line) → TakesFromBytes most it (kept ++ read) kept' ((taken' ≤ total) × IsExhausted left') → MovesOn next (prepend (kept ++ read) left') (prepend kept' left')
    here (Whole line) t = line_taken line t.1
    here LongLine t = line_taken t.0 t.2
    here End t = none_taken next (kept ++ read) kept' left' t.1 t.2.1

-- nothing of the script was taken, and nothing was written
pub stopped_at_once : (steps : Steps) (begin : RunState) (script : List ℕ) (left before : Option (List ℕ)) → left ≡ Some script → StoppedAtRead (run steps begin) script left before before
stopped_at_once steps begin script left before tells =
    let none : run steps begin [] ≡ at_end begin = run_ended steps begin in
    record {
      lines = [];
      piece = [];
      rest = script;
      parts = refl;
      ends = inl refl;
      no_end = refl;
      is_left = tells;
      not_met = λ met. let k : Script begin.progress.faulted ≡ Limit = sym (ap (λ (o : Outcome). o.ended) none) ∙ met in absurd cc;
      is_written = sym (append_nothing before) ∙ ap (append before) (sym (ap (λ (o : Outcome). o.bytes) none));
    }
