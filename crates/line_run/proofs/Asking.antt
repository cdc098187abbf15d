-- When the source may be asked for more, as lines are taken and what they print is written.
use Rattle.line_run.proofs.Common.{◌≡◌, inl, inr, ◌++◌, ◌==◌, ℕ, Bool, true, false, List, [], ◌∷◌, take, drop, Option, Some, Ok, refl, sym, ap, subst, ◌∙◌}
use Rattle.line_run.proofs.Common.{if◌then◌else◌, append_assoc, take-append-drop, list_any-append, append, HasNoEnd, has_end, AppendsFront, with_line, Line}
use Rattle.line_run.proofs.Common.{Whole, Long, End, World, Progress, Steps, RunState, Outcome, Answers, run, state_in, saved_states, Flushes, ArePut, Files}
use Rattle.line_run.{proofs.{Common.{Puts}, Ahead.{TurnsOn, append_nothing, first_is, run_ended, none_saved, put_both}}, specs.Parts.{EndsLine}}
use Rattle.{line_run.specs.Prompt.{onto_whole, said, whole_lines, IsPromptRun}, std.proofs.{lemmas.Bool.{or_parts}, Math.Seq.{take-nil, drop-nil}}}
use Rattle.fx_io.{specs.{Asking.{Follows, MayAskMidLine, EndsOrMay}, Lines.{lines_of, onto_first}}, proofs.Told.{append-append}}

-- ---- the lines that end in bytes

first_whole : (line rest : List ℕ) → HasNoEnd line → whole_lines (line ++ 10 ∷ rest) ≡ line ∷ whole_lines rest
unfolding whole_lines
first_whole [] rest h = refl
first_whole (b ∷ line) rest h = let parts = or_parts (b == 10) (has_end line) h in rw (parts.0, first_whole line rest parts.1) refl

none_whole : (bytes : List ℕ) → HasNoEnd bytes → whole_lines bytes ≡ []
unfolding whole_lines
none_whole [] h = refl
none_whole (b ∷ bytes) h = let parts = or_parts (b == 10) (has_end bytes) h in rw (parts.0, none_whole bytes parts.1) refl

-- the lines before a last piece
front_whole : (front piece : List ℕ) → HasNoEnd piece → (l : List ℕ) × (ls : List (List ℕ)) × (whole_lines ((front ++ 10 ∷ []) ++ piece) ≡ l ∷ ls) × (lines_of (front ++ 10 ∷ []) ≡ l ∷ ls)
unfolding whole_lines lines_of
front_whole [] piece h = ([], [], ap (λ (z : List (List ℕ)). [] ∷ z) (none_whole piece h), refl)
front_whole (b ∷ front) piece h = let r = front_whole front piece h in here (b == 10) _ _ r.0 r.1 r.2 r.3
  where
    here : (ends : Bool) (whole lines : List (List ℕ)) (l : List ℕ) (ls : List (List ℕ)) → whole ≡ l ∷ ls → lines ≡ l ∷ ls
        → (k : List ℕ) × (ks : List (List ℕ)) × ((if ends then [] ∷ whole else onto_whole b whole) ≡ k ∷ ks) × ((if ends then [] ∷ lines else onto_first b lines) ≡ k ∷ ks)
    here true whole lines l ls e f = ([], l ∷ ls, ap (λ (z : List (List ℕ)). [] ∷ z) e, ap (λ (z : List (List ℕ)). [] ∷ z) f)
    here false whole lines l ls e f = (b ∷ l, ls, ap (onto_whole b) e, ap (onto_first b) f)

pub whole_before : (lines piece : List ℕ) → EndsLine lines → HasNoEnd piece → whole_lines (lines ++ piece) ≡ lines_of lines
unfolding lines_of
whole_before lines piece (inl none) h = rw none (none_whole piece h)
whole_before lines piece (inr last) h = let r = front_whole last.0 piece h in rw last.1 (r.2 ∙ sym r.3)

-- ---- a run that is silent

-- nothing was written
abbrev pub IsQuiet : Bool → Option (List ℕ) → Option (List ℕ) → Type 0
IsQuiet true before now = now ≡ before
IsQuiet false before now = Unit {0}

pub quiet_first : (silent : Bool) (written : Option (List ℕ)) → IsQuiet silent written written
quiet_first true written = refl
quiet_first false written = tt

pub quiet_so : (silent : Bool) (before now : Option (List ℕ)) → IsQuiet silent before now → silent ≡ true → now ≡ before
quiet_so true before now h is = h
quiet_so false before now h is = absurd (let both : false ≡ true = is in cc)

-- a front was written of what is gathered, which is nothing
quiet_written : (silent : Bool) (before now now' : Option (List ℕ)) (gathered : List ℕ) (n : ℕ) → gathered ≡ said silent gathered → now' ≡ append now (take n gathered) → IsQuiet silent before now → IsQuiet silent before now'
quiet_written true before now now' gathered n none e h = e ∙ ap (λ (z : List ℕ). append now (take n z)) none ∙ ap (append now) (take-nil n) ∙ append_nothing now ∙ h
quiet_written false before now now' gathered n none e h = tt

pub quiet_flushed : (silent : Bool) (before now now' : Option (List ℕ)) (gathered gathered' : List ℕ) → gathered ≡ said silent gathered → Flushes now gathered now' gathered' → IsQuiet silent before now → IsQuiet silent before now'
quiet_flushed silent before now now' gathered gathered' none f h = quiet_written silent before now now' gathered f.0 none f.2 h

pub quiet_front : (silent : Bool) (before now now' : Option (List ℕ)) (gathered : List ℕ) → gathered ≡ said silent gathered → AppendsFront now now' gathered → IsQuiet silent before now → IsQuiet silent before now'
quiet_front silent before now now' gathered none f h = quiet_written silent before now now' gathered f.0 none f.2 h

pub quiet_all : (silent : Bool) (before now now' : Option (List ℕ)) (gathered : List ℕ) → gathered ≡ said silent gathered → now' ≡ append now gathered → IsQuiet silent before now → IsQuiet silent before now'
quiet_all true before now now' gathered none e h = e ∙ ap (append now) none ∙ append_nothing now ∙ h
quiet_all false before now now' gathered none e h = tt

pub nothing_said : (silent : Bool) (gathered : List ℕ) → gathered ≡ [] → gathered ≡ said silent gathered
nothing_said true gathered none = none
nothing_said false gathered none = refl

pub said_flushed : (silent : Bool) (now now' : Option (List ℕ)) (gathered gathered' : List ℕ) → gathered ≡ said silent gathered → Flushes now gathered now' gathered' → gathered' ≡ said silent gathered'
said_flushed true now now' gathered gathered' none f = f.3 ∙ ap (drop f.0) none ∙ drop-nil f.0
said_flushed false now now' gathered gathered' none f = refl

pub said_front : (silent : Bool) (count : ℕ) (gathered : List ℕ) → gathered ≡ said silent gathered → take count gathered ≡ said silent (take count gathered)
said_front true count gathered none = ap (take count) none ∙ take-nil count
said_front false count gathered none = refl

pub said_hushed : (silent : Bool) (text gathered : List ℕ) → gathered ≡ said silent text → gathered ≡ said silent gathered
said_hushed true text gathered e = e
said_hushed false text gathered e = refl

-- no line was taken: what is gathered stays
pub said_stays : (silent : Bool) (gathered text gathered' : List ℕ) → gathered ≡ said silent gathered → text ≡ gathered → gathered' ≡ said silent text → gathered' ≡ gathered
said_stays true gathered text gathered' none same e = e ∙ sym none
said_stays false gathered text gathered' none same e = e ∙ same

-- ---- when the source may be asked

-- What was written at a moment of which this is known: in the beginning these bytes were written; now those, behind them comes what was gathered,
-- and then this text, from each world that the first engine stands for. Where the run is silent nothing is written.
abbrev pub IsWritten : Bool → (first : World → Type 0) → ((w : World) → first w → List ℕ) → Option (List ℕ) → Option (List ℕ) → List ℕ → Option (List ℕ) → Type 0
IsWritten true first text begun now gathered written = written ≡ begun
IsWritten false first text begun now gathered written = (w : World) (st : first w) → written ≡ append now (gathered ++ text w st)

-- The source may be asked, once these bytes more were taken, where the output is that now, and behind it what was gathered and what the lines
-- print that end in the bytes kept and those, and where their images were put: from each world that the first engine stands for, in the world
-- that the engine stands for then.
abbrev pub Asks : {K : Type 0} → Bool → Steps → Puts → (World → Type 0) → (World → Type 0) → Progress → (K → Option (List ℕ)) → (K → Files) → Option (List ℕ) → Option (List ℕ) → Files → List ℕ → List ℕ
    → (List ℕ → K → Type 0) → Type 0
Asks {K} silent steps puts first stands at written files begun now files_now gathered kept may_ask =
    (there : (w : World) → first w → (v : World) × stands v)
    × ((more : List ℕ) (out : K)
    → IsWritten silent first (λ (w : World) (st : first w). (run steps (state_in (there w st).0 at) (whole_lines (kept ++ more))).bytes) begun now gathered (written out)
    → ((w : World) (st : first w) → ArePut puts (saved_states steps (state_in (there w st).0 at) (whole_lines (kept ++ more))) files_now (files out))
    → may_ask more out)

module _ {K : Type 0} (steps : Steps) (puts : Puts) (first : World → Type 0) (written : K → Option (List ℕ)) (files : K → Files) (begun : Option (List ℕ)) where
  -- at the beginning
  pub asks_first : (silent : Bool) (at : Progress) (files_now : Files) (may_ask : List ℕ → K → Type 0) (kept gathered : List ℕ) → kept ≡ [] → gathered ≡ []
      → ((bytes : List ℕ) (out : K) → IsPromptRun silent first (λ w. run steps (state_in w at)) bytes begun (written out)
      → ((w : World) → first w → ArePut puts (saved_states steps (state_in w at) (whole_lines bytes)) files_now (files out)) → may_ask bytes out)
      → Asks silent steps puts first first at written files begun begun files_now gathered kept may_ask
  asks_first true at files_now may_ask kept gathered none nothing h = rw none ((λ w st. (w, st)), h)
  asks_first false at files_now may_ask kept gathered none nothing h = rw (none, nothing) ((λ w st. (w, st)), h)

  -- what was gathered is written, or a front of it
  pub asks_flushed : (silent : Bool) (stands : World → Type 0) (at : Progress) (now now' : Option (List ℕ)) (files_now files_next : Files) (gathered gathered' kept : List ℕ) (may_ask : List ℕ → K → Type 0)
      → Flushes now gathered now' gathered' → files_next ≡ files_now
      → Asks silent steps puts first stands at written files begun now files_now gathered kept may_ask → Asks silent steps puts first stands at written files begun now' files_next gathered' kept may_ask
  asks_flushed silent stands at now now' files_now files_next gathered gathered' kept may_ask f kept_files h =
      (h.0, λ more out e put. h.1 more out (before silent more out e) (λ w st. subst (λ (z : Files). ArePut puts (saved_states steps (state_in (h.0 w st).0 at) (whole_lines (kept ++ more))) z (files out)) kept_files (put w st)))
    where
      pieces : (rest : List ℕ) → take f.0 gathered ++ (drop f.0 gathered ++ rest) ≡ gathered ++ rest
      pieces rest = sym (append_assoc (take f.0 gathered) (drop f.0 gathered) rest) ∙ ap (λ (z : List ℕ). z ++ rest) (take-append-drop f.0 gathered)

      same : (rest : List ℕ) → append now' (gathered' ++ rest) ≡ append now (gathered ++ rest)
      same rest = ap (λ (z : List ℕ). append now' (z ++ rest)) f.3 ∙ ap (λ (z : Option (List ℕ)). append z (drop f.0 gathered ++ rest)) f.2
          ∙ append-append now (take f.0 gathered) (drop f.0 gathered ++ rest) ∙ ap (append now) (pieces rest)

      text : (more : List ℕ) (w : World) → first w → List ℕ
      text more w st = (run steps (state_in (h.0 w st).0 at) (whole_lines (kept ++ more))).bytes

      before : (quiet : Bool) (more : List ℕ) (out : K) → IsWritten quiet first (text more) begun now' gathered' (written out) → IsWritten quiet first (text more) begun now gathered (written out)
      before true more out e = e
      before false more out e = λ w st. e w st ∙ same (text more w st)

  -- where nothing is gathered it may be asked in the middle of a line
  pub asks_mid_line : (silent : Bool) (stands : World → Type 0) (at : Progress) (out : K) (gathered kept : List ℕ) (may_ask : List ℕ → K → Type 0) → (has_end kept ≡ false → gathered ≡ []) → IsQuiet silent begun (written out)
      → Asks silent steps puts first stands at written files begun (written out) (files out) gathered kept may_ask → MayAskMidLine may_ask kept out
  asks_mid_line silent stands at out gathered kept may_ask nothing quiet h more no_end = h.1 more out (is_written silent quiet) (λ w st. none_put (state_in (h.0 w st).0 at))
    where
      none : gathered ≡ []
      none = nothing (or_parts (has_end kept) (has_end more) (sym (list_any-append (λ (b : ℕ). b == 10) kept more) ∙ no_end)).0

      printed : (s : RunState) → (run steps s (whole_lines (kept ++ more))).bytes ≡ []
      printed s = ap (λ (lines : List (List ℕ)). (run steps s lines).bytes) (none_whole (kept ++ more) no_end) ∙ ap (λ (o : Outcome). o.bytes) (run_ended steps s)

      same : (s : RunState) → append (written out) (gathered ++ (run steps s (whole_lines (kept ++ more))).bytes) ≡ written out
      same s = rw (none, printed s) (append_nothing (written out))

      is_written : (it : Bool) → IsQuiet it begun (written out)
          → IsWritten it first (λ (w : World) (st : first w). (run steps (state_in (h.0 w st).0 at) (whole_lines (kept ++ more))).bytes) begun (written out) gathered (written out)
      is_written true so = so
      is_written false so = λ w st. sym (same (state_in (h.0 w st).0 at))

      none_put : (s : RunState) → ArePut puts (saved_states steps s (whole_lines (kept ++ more))) (files out) (files out)
      none_put s =
          let is : saved_states steps s (whole_lines (kept ++ more)) ≡ [] = ap (saved_states steps s) (none_whole (kept ++ more) no_end) ∙ none_saved steps s in
          subst (λ (z : List RunState). ArePut puts z (files out) (files out)) (sym is) refl

-- what a turn says of each world, where this is the next line
abbrev pub TurnsThere : Steps → Puts → (World → Type 0) → (World → Type 0) → Progress → Progress → Line → List ℕ → List ℕ → Files → Files → Type 0
TurnsThere steps puts stands stands' at behind answer gathered text files files' =
    (v : World) (ahead after : Option (List (List ℕ))) → stands v → Answers 65536 answer ahead after
    → (line : List ℕ) × (ahead ≡ with_line line after) × TurnsOn puts steps (state_in v at) line gathered text stands' behind files files'

-- a turn was done, and the run goes on
module _ {K : Type 0} (steps : Steps) (puts : Puts) (first stands stands' : World → Type 0) (at behind : Progress) (written : K → Option (List ℕ)) (files : K → Files) (begun now : Option (List ℕ)) (files_now files_next : Files)
    (gathered text gathered' kept read kept' : List ℕ) (may_ask may_ask' : List ℕ → K → Type 0) (silent : Bool) where
  -- a line was taken, and what it prints was gathered
  asks_behind : (line : List ℕ) → HasNoEnd line → kept ++ read ≡ line ++ 10 ∷ kept'
      → ((v : World) → stands v → TurnsOn puts steps (state_in v at) line gathered text stands' behind files_now files_next) → gathered' ≡ said silent text → Follows may_ask read may_ask'
      → Asks silent steps puts first stands at written files begun now files_now gathered kept may_ask → Asks silent steps puts first stands' behind written files begun now files_next gathered' kept' may_ask'
  asks_behind line no_end bytes turn said_so follows h =
      ((λ w st. ((step w st).done.world, (step w st).there)), λ more out e put. follows more out (h.1 (read ++ more) out (before silent said_so more out e) (λ w st. put_before more out w st (put w st))))
    where
      step : (w : World) (st : first w) → TurnsOn puts steps (state_in (h.0 w st).0 at) line gathered text stands' behind files_now files_next
      step w st = turn (h.0 w st).0 (h.0 w st).1

      lines_are : (more : List ℕ) → whole_lines (kept ++ (read ++ more)) ≡ line ∷ whole_lines (kept' ++ more)
      lines_are more =
          let ahead : kept ++ (read ++ more) ≡ line ++ 10 ∷ (kept' ++ more) = sym (append_assoc kept read more) ∙ ap (λ (z : List ℕ). z ++ more) bytes ∙ append_assoc line (10 ∷ kept') more in
          ap whole_lines ahead ∙ first_whole line (kept' ++ more) no_end

      -- what the lines print that end in the bytes ahead, before the line and behind it
      text_before : (more : List ℕ) (w : World) → first w → List ℕ
      text_before more w st = (run steps (state_in (h.0 w st).0 at) (whole_lines (kept ++ (read ++ more)))).bytes

      text_behind : (more : List ℕ) (w : World) → first w → List ℕ
      text_behind more w st = (run steps (state_in (step w st).done.world behind) (whole_lines (kept' ++ more))).bytes

      printed : (more : List ℕ) (w : World) (st : first w) → text_before more w st ≡ (step w st).done.text ++ text_behind more w st
      printed more w st =
          ap (λ (lines : List (List ℕ)). (run steps (state_in (h.0 w st).0 at) lines).bytes) (lines_are more) ∙ ap (λ (o : Outcome). o.bytes) ((step w st).prints (whole_lines (kept' ++ more)))

      same : (more : List ℕ) (w : World) (st : first w) → append now (gathered ++ text_before more w st) ≡ append now (text ++ text_behind more w st)
      same more w st =
          ap (λ (z : List ℕ). append now (gathered ++ z)) (printed more w st)
          ∙ ap (append now) (sym (append_assoc gathered (step w st).done.text (text_behind more w st)) ∙ ap (λ (z : List ℕ). z ++ text_behind more w st) (sym (step w st).text-is))

      before : (quiet : Bool) → gathered' ≡ said quiet text → (more : List ℕ) (out : K) → IsWritten quiet first (text_behind more) begun now gathered' (written out)
          → IsWritten quiet first (text_before more) begun now gathered (written out)
      before true said_so more out e = e
      before false said_so more out e = λ w st. e w st ∙ ap (λ (z : List ℕ). append now (z ++ text_behind more w st)) said_so ∙ sym (same more w st)

      put_before : (more : List ℕ) (out : K) (w : World) (st : first w) → ArePut puts (saved_states steps (state_in (step w st).done.world behind) (whole_lines (kept' ++ more))) files_next (files out)
          → ArePut puts (saved_states steps (state_in (h.0 w st).0 at) (whole_lines (kept ++ (read ++ more)))) files_now (files out)
      put_before more out w st put =
          let rest = saved_states steps (state_in (step w st).done.world behind) (whole_lines (kept' ++ more)) in
          let is : saved_states steps (state_in (h.0 w st).0 at) (whole_lines (kept ++ (read ++ more))) ≡ (step w st).new ++ rest =
          ap (saved_states steps (state_in (h.0 w st).0 at)) (lines_are more) ∙ (step w st).saved-is (whole_lines (kept' ++ more)) in
          subst (λ (z : List RunState). ArePut puts z files_now (files out)) (sym is) (put_both puts (step w st).new rest files_now files_next (files out) (step w st).are_put put)

  -- the turn is that of this line
  turn_of : (answer : Line) → TurnsThere steps puts stands stands' at behind answer gathered text files_now files_next
      → (line : List ℕ) → Answers 65536 answer (Some (line ∷ [])) (Some []) → (v : World) → stands v → TurnsOn puts steps (state_in v at) line gathered text stands' behind files_now files_next
  turn_of answer turn line is v st =
      let it = turn v (Some (line ∷ [])) (Some []) st is in
      subst (λ (z : List ℕ). TurnsOn puts steps (state_in v at) z gathered text stands' behind files_now files_next) (sym (first_is line it.0 [] it.1)) it.2

  pub asks_turned : (most : ℕ) (answer : Line) (before after : Option (List (List ℕ))) → most ≡ 65536 → Answers 65536 answer before after
      → TurnsThere steps puts stands stands' at behind answer gathered text files_now files_next → gathered' ≡ said silent text
      → Follows may_ask read may_ask' → EndsOrMay most (Ok answer) (kept ++ read) kept' may_ask'
      → Asks silent steps puts first stands at written files begun now files_now gathered kept may_ask → Asks silent steps puts first stands' behind written files begun now files_next gathered' kept' may_ask'
  asks_turned most answer before after is answers turn same follows (inr always) h = (
    (λ w st. let it = turn (h.0 w st).0 before after (h.0 w st).1 answers in (it.2.done.world, it.2.there)),
    λ more out e put. always more out,
  )
  asks_turned most (Whole line) before after is answers turn same follows (inl ended) h =
      asks_behind line ended.1 ended.2 (turn_of (Whole line) turn line (rw is at ended.0, refl)) same follows h
  asks_turned most Long before after is answers turn same follows (inl ended) h =
      asks_behind ended.0 ended.2 ended.3 (turn_of Long turn ended.0 (ended.0, rw is at ended.1, refl)) same follows h
  asks_turned most End before after is answers turn same follows (inl ended) h = absurd ended
