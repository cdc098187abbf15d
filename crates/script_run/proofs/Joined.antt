-- The run of a script in two parts.
use Rattle.script_run.proofs.Common.{◌≡◌, inl, inr, ◌≤◌, ◌+◌, ◌-◌, ◌++◌, ◌==◌, ℕ, zero, suc, Bool, true, false, List, [], ◌∷◌, length, nat_lt, Option, Some}
use Rattle.script_run.proofs.Common.{None, refl, sym, ap, subst, ◌∙◌, arith, if◌then◌else◌, onto_first, Program, World, empty_world, OutLine, Fires, Firings}
use Rattle.script_run.proofs.Common.{all_fired, limit_met, none_left, onto_lines, then_fires, wants_one, one_less, RunSetting, RunState, Outcome, LineEffect}
use Rattle.script_run.proofs.Common.{goes_on, saves, stops, then_run, whole_run, first_state, state_in, state_after, step_in, fire_step, command_step}
use Rattle.script_run.{proofs.Common.{asked_step}, specs.{Firings.{firings}, Parts.{run_on}, Run.{run, line_step, at_most, closed, fire_by, is_fire_line}}}
use Rattle.{script_run.specs.Run.{met_step, told_step}, std.proofs.lemmas.Option.{same_Some}, fx_io.specs.Lines.{lines_of}}
use Rattle.{checkpoint.specs.declared.image.RunPart.{RunPart}, script_read.specs.{Asked.{Asked, asks, bad_json, bad_command, asked}, Blank.{is_line_blank}}}
use Rattle.{script_read.specs.declared.asked.Command.{Command, TheVariants.{Change, Fire, Held}}, line_run.specs.Parts.{EndsLine, first_part, run_part_at}}
use Rattle.line_run.{specs.{Parts.{progress_behind}, Run.{Done, Steps, run as run_lines}}, proofs.Ahead.{run_goes, run_saves, run_stops, then_run-then_run}}

abbrev comes_of : Outcome → Option RunState
comes_of o = o.comes_to

abbrev bytes_of : Outcome → List ℕ
bytes_of o = o.bytes

-- ---- lines behind lines

abbrev Joins : Steps → RunState → RunState → List (List ℕ) → List (List ℕ) → Type 0
Joins steps s t xs ys = run_lines steps s (xs ++ ys) ≡ then_run (run_lines steps s xs).bytes (run_lines steps t ys)

pub no_more : (s t : RunState) → None ≡ Some t → ⊥
no_more s t e = cc

joined : (steps : Steps) (s t : RunState) (xs ys : List (List ℕ)) → (run_lines steps s xs).comes_to ≡ Some t → Joins steps s t xs ys
unfolding run_lines
joined steps s t [] ys e = ap (λ (u : RunState). run_lines steps u ys) (same_Some s t e)
joined steps s t (x ∷ xs) ys e = here (steps s x) refl (λ u h. joined steps u t xs ys h)
  where
    behind : (done : Done) → run_lines steps s (x ∷ xs) ≡ then_run done.text (run_lines steps (state_after s done) xs)
        → run_lines steps s (x ∷ (xs ++ ys)) ≡ then_run done.text (run_lines steps (state_after s done) (xs ++ ys))
        → ((u : RunState) → (run_lines steps u xs).comes_to ≡ Some t → Joins steps u t xs ys) → Joins steps s t (x ∷ xs) ys
    behind done first all rest =
        let comes : (run_lines steps (state_after s done) xs).comes_to ≡ Some t = sym (ap comes_of first) ∙ e in
        all ∙ ap (then_run done.text) (rest (state_after s done) comes)
        ∙ then_run-then_run done.text (run_lines steps (state_after s done) xs).bytes (run_lines steps t ys) ∙ ap (λ (z : List ℕ). then_run z (run_lines steps t ys)) (sym (ap bytes_of first))

    here : (step : LineEffect) → steps s x ≡ step → ((u : RunState) → (run_lines steps u xs).comes_to ≡ Some t → Joins steps u t xs ys) → Joins steps s t (x ∷ xs) ys
    here (goes_on done) is rest = behind done (run_goes steps s x done is xs) (run_goes steps s x done is (xs ++ ys)) rest
    here (saves done) is rest = behind done (run_saves steps s x done is xs) (run_saves steps s x done is (xs ++ ys)) rest
    here (stops text) is rest = absurd (no_more s t (sym (ap comes_of (run_stops steps s x text is xs)) ∙ e))

-- ---- the firings that are left never rise

abbrev FiresWithin : ℕ → Firings → Type 0
FiresWithin most (all_fired lines w left) = left ≤ most
FiresWithin most (limit_met lines) = Unit {0}

none_within : (o : Option (List OutLine × World)) (w : World) → FiresWithin 0 (none_left o w)
none_within None w = omega arith
none_within (Some f) w = tt

onto_within : (n : ℕ) (lines : List OutLine) (r : Firings) → FiresWithin n r → FiresWithin (suc n) (onto_lines lines r)
onto_within n lines (all_fired more w left) h = omega (arith, h)
onto_within n lines (limit_met more) h = tt

then_within : (n : ℕ) (o : Option (List OutLine × World)) (w : World) (next : World → Firings) → ((v : World) → FiresWithin n (next v)) → FiresWithin (suc n) (then_fires o w (suc n) next)
then_within n None w next h = omega arith
then_within n (Some f) w next h = onto_within n f.0 (next f.1) (h f.1)

if_fires : (n : ℕ) (flag : Bool) (a b : Firings) → FiresWithin n a → FiresWithin n b → FiresWithin n (if flag then a else b)
if_fires n true a b h k = h
if_fires n false a b h k = k

firings_within : (fires : Fires) (p : Program) (most : Option ℕ) (n : ℕ) (w : World) → FiresWithin n (firings fires p most n w)
unfolding firings
firings_within fires p most zero w = if_fires 0 (wants_one most) (none_left (fires p w) w) (all_fired [] w zero) (none_within (fires p w) w) (omega arith)
firings_within fires p most (suc n) w =
    if_fires (suc n) (wants_one most) (then_fires (fires p w) w (suc n) (firings fires p (one_less most) n)) (all_fired [] w (suc n))
    (then_within n (fires p w) w (firings fires p (one_less most) n) (λ v. firings_within fires p (one_less most) n v)) (omega arith)

abbrev pub StepWithin : ℕ → LineEffect → Type 0
StepWithin most (goes_on done) = done.left ≤ most
StepWithin most (saves done) = done.left ≤ most
StepWithin most (stops text) = Unit {0}

if_step : (n : ℕ) (flag : Bool) (a b : LineEffect) → StepWithin n a → StepWithin n b → StepWithin n (if flag then a else b)
if_step n true a b h k = h
if_step n false a b h k = k

fire_within : (setting : RunSetting) (number n : ℕ) (r : Firings) → FiresWithin n r → StepWithin n (fire_step setting number r)
fire_within setting number n (all_fired lines w left) h = h
fire_within setting number n (limit_met lines) h = tt

met_within : (setting : RunSetting) (each number n : ℕ) (most : Option ℕ) (effect : LineEffect) → StepWithin n effect → StepWithin n (met_step setting each number most effect)
met_within setting each number n most (goes_on done) h = h
met_within setting each number n most (saves done) h = h
met_within setting each number n most (stops text) h = tt

by_within : (setting : RunSetting) (live : Option ℕ) (number n : ℕ) (w : World) (most : Option ℕ) → StepWithin n (fire_by setting live number n w most)
by_within setting None number n w most = fire_within setting number n (firings setting.fires setting.program most n w) (firings_within setting.fires setting.program most n w)
by_within setting (Some each) number n w most =
    let fired : Firings = firings setting.fires setting.program (Some (at_most each most)) n w in
    met_within setting each number n most (fire_step setting number fired)
    (fire_within setting number n fired (firings_within setting.fires setting.program (Some (at_most each most)) n w))

pub closed_within : (setting : RunSetting) (number had : ℕ) (fires : Bool) (n : ℕ) (effect : LineEffect) → StepWithin n effect → StepWithin n (closed setting number had fires effect)
closed_within setting number had fires n (goes_on done) h = h
closed_within setting number had fires n (saves done) h = h
closed_within setting number had fires n (stops text) h = tt

command_within : (setting : RunSetting) (number n : ℕ) (w : World) (c : Command) → StepWithin n (command_step setting number n w c)
command_within setting number n w (Change change) = omega arith
command_within setting number n w (Fire most) = by_within setting setting.live number n w most
command_within setting number n w Held = omega arith

asked_within : (setting : RunSetting) (number n : ℕ) (w : World) (a : Asked) → StepWithin n (asked_step setting number n w a)
asked_within setting number n w (asks command) = command_within setting number n w command
asked_within setting number n w bad_json = omega arith
asked_within setting number n w bad_command = omega arith

pub told_within : (setting : RunSetting) (number n : ℕ) (w : World) (line : List ℕ) → StepWithin n (told_step setting number n w line)
told_within setting number n w line =
    if_step n (nat_lt 65536 (length line)) _ _ (omega arith) (if_step n (is_line_blank line) _ _ (omega arith) (asked_within setting number n w (asked line)))

step_within : (setting : RunSetting) (number n : ℕ) (w : World) (line : List ℕ) → StepWithin n (line_step setting number n w line)
unfolding line_step
step_within setting number n w line = closed_within setting number n (is_fire_line line) n (told_step setting number n w line) (told_within setting number n w line)

-- no step leaves more firings than there were
abbrev pub AreWithin : Steps → Type 0
AreWithin steps = (s : RunState) (line : List ℕ) → StepWithin s.progress.left (steps s line)

pub steps_within : (setting : RunSetting) → AreWithin (step_in setting)
steps_within setting s line = step_within setting (s.progress.lines + 1) s.progress.left s.world line

lines_within : (steps : Steps) → AreWithin steps → (s t : RunState) (xs : List (List ℕ)) → (run_lines steps s xs).comes_to ≡ Some t → t.progress.left ≤ s.progress.left
unfolding run_lines
lines_within steps within s t [] e = let is : s ≡ t = same_Some s t e in rw is (omega arith)
lines_within steps within s t (x ∷ xs) e = here (steps s x) refl (within s x) (λ u h. lines_within steps within u t xs h)
  where
    here : (step : LineEffect) → steps s x ≡ step → StepWithin s.progress.left step → ((u : RunState) → (run_lines steps u xs).comes_to ≡ Some t → t.progress.left ≤ u.progress.left)
        → t.progress.left ≤ s.progress.left
    here (goes_on done) is low rest = omega (arith, low, rest (state_after s done) (sym (ap comes_of (run_goes steps s x done is xs)) ∙ e))
    here (saves done) is low rest = omega (arith, low, rest (state_after s done) (sym (ap comes_of (run_saves steps s x done is xs)) ∙ e))
    here (stops text) is low rest = absurd (no_more s t (sym (ap comes_of (run_stops steps s x text is xs)) ∙ e))

pub run_within : (setting : RunSetting) (s t : RunState) (xs : List (List ℕ)) → (run setting s xs).comes_to ≡ Some t → t.progress.left ≤ s.progress.left
run_within setting = lines_within (step_in setting) (steps_within setting)

-- ---- what an image says of a run is where it goes on

left_is : (limit before left : ℕ) → left ≤ limit - before → limit - (before + ((limit - before) - left)) ≡ left
left_is limit before left h = grind (arith, h)

goes_on_there : (limit : ℕ) (first : RunPart) (s : RunState) → s.progress.left ≤ limit - first.firings → state_in s.world (progress_behind limit (run_part_at limit first s.progress)) ≡ s
goes_on_there limit first s h = ap with_left (left_is limit first.firings s.progress.left h)
  where
    with_left : ℕ → RunState
    with_left n = state_in s.world (record { lines = s.progress.lines; left = n; faulted = s.progress.faulted })

on_is : (limit before one two : ℕ) → one ≤ limit - before → two ≤ one
    → (before + ((limit - before) - one)) + ((limit - (before + ((limit - before) - one))) - two) ≡ before + ((limit - before) - two)
on_is limit before one two h k = grind (arith, h, k)

-- where lines begin behind a part of a run with a limit
abbrev behind_part : ℕ → World → RunPart → RunState
behind_part limit w first = state_in w (progress_behind limit first)

-- what an image says of a run behind an image is what it says of both runs as one
pub parts_joined : (steps : Steps) → AreWithin steps → (limit : ℕ) (w : World) (first : RunPart) (a b : List (List ℕ)) (s t : RunState) → (run_lines steps (behind_part limit w first) a).comes_to ≡ Some s
    → (run_lines steps (behind_part limit s.world (run_part_at limit first s.progress)) b).comes_to ≡ Some t
    → run_part_at limit (run_part_at limit first s.progress) t.progress ≡ run_part_at limit first t.progress
parts_joined steps within limit w first a b s t one two =
    let low : s.progress.left ≤ limit - first.firings = lines_within steps within (behind_part limit w first) s a one in
    let less : t.progress.left ≤ s.progress.left =
    subst (λ n. t.progress.left ≤ n) (left_is limit first.firings s.progress.left low)
    (lines_within steps within (behind_part limit s.world (run_part_at limit first s.progress)) t b two) in
    ap with_firings (on_is limit first.firings s.progress.left t.progress.left low less)
  where
    with_firings : ℕ → RunPart
    with_firings n = record { rules = first.rules; lines = t.progress.lines; firings = n; faulty = t.progress.faulted }

pub part_joined : (setting : RunSetting) (w : World) (first : RunPart) (a b : List (List ℕ)) (s t : RunState) → (run_on setting w first a).comes_to ≡ Some s
    → (run_on setting s.world (run_part_at setting.limit first s.progress) b).comes_to ≡ Some t
    → run_part_at setting.limit (run_part_at setting.limit first s.progress) t.progress ≡ run_part_at setting.limit first t.progress
part_joined setting = parts_joined (step_in setting) (steps_within setting) setting.limit

all_left : (limit : ℕ) → limit ≡ limit - 0
all_left limit = omega arith

-- a run begins behind the part of one that has not begun
pub first_behind : (limit : ℕ) (rules : List ℕ) → first_state limit ≡ state_in empty_world (progress_behind limit (first_part rules))
first_behind limit rules = ap with_left (all_left limit)
  where
    with_left : ℕ → RunState
    with_left n = state_in empty_world (record { lines = 0; left = n; faulted = false })

pub whole_behind : (setting : RunSetting) (rules : List ℕ) (lines : List (List ℕ)) → whole_run setting lines ≡ run_on setting empty_world (first_part rules) lines
whole_behind setting rules lines = ap (λ (s : RunState). run setting s lines) (first_behind setting.limit rules)

-- ---- the lines of a script in two parts

-- a byte in front of lines, with and without others behind them
in_front : (ends : Bool) (x : ℕ) (lines more : List (List ℕ)) (l : List ℕ) (ls behind : List (List ℕ)) → lines ≡ l ∷ ls → more ≡ l ∷ (ls ++ behind)
    → (k : List ℕ) × (ks : List (List ℕ)) × ((if ends then [] ∷ lines else onto_first x lines) ≡ k ∷ ks) × ((if ends then [] ∷ more else onto_first x more) ≡ k ∷ (ks ++ behind))
in_front true x lines more l ls behind e f = ([], lines, refl, ap (λ (z : List (List ℕ)). [] ∷ z) (f ∙ ap (λ (z : List (List ℕ)). z ++ behind) (sym e)))
in_front false x lines more l ls behind e f = (x ∷ l, ls, ap (onto_first x) e, ap (onto_first x) f)

front_lines : (front b : List ℕ) → (l : List ℕ) × (ls : List (List ℕ)) × (lines_of (front ++ 10 ∷ []) ≡ l ∷ ls) × (lines_of ((front ++ 10 ∷ []) ++ b) ≡ l ∷ (ls ++ lines_of b))
unfolding lines_of
front_lines [] b = ([], [], refl, refl)
front_lines (x ∷ front) b = let r = front_lines front b in in_front (x == 10) x _ _ r.0 r.1 (lines_of b) r.2 r.3

lines_joined : (a b : List ℕ) → EndsLine a → lines_of (a ++ b) ≡ lines_of a ++ lines_of b
unfolding lines_of
lines_joined a b (inl none) = rw none refl
lines_joined a b (inr last) = let r = front_lines last.0 b in rw last.1 (r.3 ∙ ap (λ (z : List (List ℕ)). z ++ lines_of b) (sym r.2))

pub scripts_joined : (steps : Steps) → AreWithin steps → (limit : ℕ) (w : World) (first : RunPart) (a b : List ℕ) (s : RunState) → EndsLine a
    → (run_lines steps (behind_part limit w first) (lines_of a)).comes_to ≡ Some s
    → run_lines steps (behind_part limit w first) (lines_of (a ++ b))
    ≡ then_run (run_lines steps (behind_part limit w first) (lines_of a)).bytes (run_lines steps (behind_part limit s.world (run_part_at limit first s.progress)) (lines_of b))
scripts_joined steps within limit w first a b s ends comes =
    let begin : RunState = behind_part limit w first in
    ap (run_lines steps begin) (lines_joined a b ends) ∙ joined steps begin s (lines_of a) (lines_of b) comes
    ∙ ap (λ (u : RunState). then_run (run_lines steps begin (lines_of a)).bytes (run_lines steps u (lines_of b))) (sym (goes_on_there limit first s (lines_within steps within begin s (lines_of a) comes)))

pub script_joined : (setting : RunSetting) (w : World) (first : RunPart) (a b : List ℕ) (s : RunState) → EndsLine a → (run_on setting w first (lines_of a)).comes_to ≡ Some s
    → run_on setting w first (lines_of (a ++ b)) ≡ then_run (run_on setting w first (lines_of a)).bytes (run_on setting s.world (run_part_at setting.limit first s.progress) (lines_of b))
script_joined setting = scripts_joined (step_in setting) (steps_within setting) setting.limit
