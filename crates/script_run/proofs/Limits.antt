-- A run whose limit of firings is not met does not depend on it.
use Rattle.script_run.proofs.Common.{◌≡◌, ◌≤◌, ◌+◌, ◌-◌, ◌++◌, ◌||◌, ℕ, zero, suc, Bool, true, false, List, [], ◌∷◌, length, nat_lt, Option, Some, None, refl}
use Rattle.script_run.proofs.Common.{sym, ap, ap₂, subst, ◌∙◌, arith, if◌then◌else◌, World, OutLine, Program, Fires, Firings, all_fired, limit_met, none_left}
use Rattle.script_run.proofs.Common.{onto_lines, then_fires, wants_one, one_less, RunSetting, RunState, Outcome, LineEffect, goes_on, saves, stops, state_after}
use Rattle.script_run.proofs.Common.{step_in, fire_step, command_step, asked_step, first_state, whole_run, at_end, then_run, written_lines, has_fault, is_some}
use Rattle.script_run.{proofs.Common.{empty_world}, specs.{Firings.{firings}, Limits.{with_limit, IsSameRun}, Run.{run, line_step, at_most, closed, end_text}}}
use Rattle.script_run.{specs.Run.{fire_by, fired_of, is_fire_line, met_lines, met_step, told_step}, proofs.Joined.{no_more, run_within, StepWithin}}
use Rattle.{script_run.proofs.Joined.{told_within}, std.proofs.lemmas.Option.{same_Some}, script_read.specs.Asked.{Asked, asks, bad_json, bad_command, asked}}
use Rattle.script_read.specs.{Blank.{is_line_blank}, declared.asked.Command.{Command, TheVariants.{Change, Fire, Held}}}
use Rattle.line_run.{specs.Run.{run as run_lines}, proofs.Ahead.{run_goes, run_saves, run_stops}}

-- ---- firings, of which so many and so many were left before

abbrev SameFirings : ℕ → ℕ → Firings → Firings → Type 0
SameFirings m n (all_fired a v k) (all_fired b w l) = (a ≡ b) × (v ≡ w) × (m + l ≡ n + k)
SameFirings m n (all_fired a v k) (limit_met b) = Unit {0}
SameFirings m n (limit_met a) r = Unit {0}

onto_same : (m n : ℕ) (lines : List OutLine) (r q : Firings) → SameFirings m n r q → SameFirings (suc m) (suc n) (onto_lines lines r) (onto_lines lines q)
onto_same m n lines (all_fired a v k) (all_fired b w l) h = (ap (λ (z : List OutLine). lines ++ z) h.0, h.1, omega (arith, h.2))
onto_same m n lines (all_fired a v k) (limit_met b) h = tt
onto_same m n lines (limit_met a) (all_fired b w l) h = tt
onto_same m n lines (limit_met a) (limit_met b) h = tt

if_same : (m n : ℕ) (flag : Bool) (a b c d : Firings) → SameFirings m n a c → SameFirings m n b d → SameFirings m n (if flag then a else b) (if flag then c else d)
if_same m n true a b c d h k = h
if_same m n false a b c d h k = k

then_same : (m n : ℕ) (o : Option (List OutLine × World)) (w : World) (f g : World → Firings) → ((v : World) → SameFirings m n (f v) (g v))
    → SameFirings (suc m) (suc n) (then_fires o w (suc m) f) (then_fires o w (suc n) g)
then_same m n None w f g h = (refl, refl, omega arith)
then_same m n (Some x) w f g h = onto_same m n x.0 (f x.1) (g x.1) (h x.1)

none_then : (n : ℕ) (o : Option (List OutLine × World)) (w : World) (g : World → Firings) → SameFirings 0 (suc n) (none_left o w) (then_fires o w (suc n) g)
none_then n None w g = (refl, refl, omega arith)
none_then n (Some f) w g = tt

met_after : (m n : ℕ) (r : Firings) (b : List OutLine) → SameFirings m n r (limit_met b)
met_after m n (all_fired a v k) b = tt
met_after m n (limit_met a) b = tt

then_none : (m : ℕ) (o : Option (List OutLine × World)) (w : World) (f : World → Firings) → SameFirings (suc m) 0 (then_fires o w (suc m) f) (none_left o w)
then_none m None w f = (refl, refl, omega arith)
then_none m (Some x) w f = met_after (suc m) 0 (onto_lines x.0 (f x.1)) []

firings_same : (fires : Fires) (p : Program) (most : Option ℕ) (m n : ℕ) (w : World) → SameFirings m n (firings fires p most m w) (firings fires p most n w)
unfolding firings
firings_same fires p most zero zero w =
    if_same 0 0 (wants_one most) (none_left (fires p w) w) (all_fired [] w 0) (none_left (fires p w) w) (all_fired [] w 0)
    (none_twice (fires p w)) (refl, refl, refl)
  where
    none_twice : (o : Option (List OutLine × World)) → SameFirings 0 0 (none_left o w) (none_left o w)
    none_twice None = (refl, refl, refl)
    none_twice (Some f) = tt
firings_same fires p most zero (suc n) w =
    if_same 0 (suc n) (wants_one most) (none_left (fires p w) w) (all_fired [] w 0) (then_fires (fires p w) w (suc n) (firings fires p (one_less most) n)) (all_fired [] w (suc n))
    (none_then n (fires p w) w (firings fires p (one_less most) n)) (refl, refl, omega arith)
firings_same fires p most (suc m) zero w =
    if_same (suc m) 0 (wants_one most) (then_fires (fires p w) w (suc m) (firings fires p (one_less most) m)) (all_fired [] w (suc m)) (none_left (fires p w) w) (all_fired [] w 0)
    (then_none m (fires p w) w (firings fires p (one_less most) m)) (refl, refl, omega arith)
firings_same fires p most (suc m) (suc n) w =
    if_same (suc m) (suc n) (wants_one most) (then_fires (fires p w) w (suc m) (firings fires p (one_less most) m)) (all_fired [] w (suc m))
    (then_fires (fires p w) w (suc n) (firings fires p (one_less most) n)) (all_fired [] w (suc n))
    (then_same m n (fires p w) w (firings fires p (one_less most) m) (firings fires p (one_less most) n) (λ v. firings_same fires p (one_less most) m n v)) (refl, refl, omega arith)

-- ---- lines

-- so many and so many firings were left before: the same is printed and known, and the same was fired
pub record AreSame (m n : ℕ) (a b : Outcome) (s t : RunState) : Type 0 where
  pub bytes : a.bytes ≡ b.bytes
  pub lines : s.progress.lines ≡ t.progress.lines
  pub faulted : s.progress.faulted ≡ t.progress.faulted
  pub world : s.world ≡ t.world
  pub left : m + t.progress.left ≡ n + s.progress.left

abbrev SameSteps : ℕ → ℕ → LineEffect → LineEffect → Type 0
SameSteps m n (goes_on a) (goes_on b) = (a.text ≡ b.text) × (a.world ≡ b.world) × (a.faulty ≡ b.faulty) × (m + b.left ≡ n + a.left)
SameSteps m n (saves a) (saves b) = (a.text ≡ b.text) × (a.world ≡ b.world) × (a.faulty ≡ b.faulty) × (m + b.left ≡ n + a.left)
SameSteps m n (goes_on a) (saves b) = ⊥
SameSteps m n (saves a) (goes_on b) = ⊥
SameSteps m n (goes_on a) (stops b) = Unit {0}
SameSteps m n (saves a) (stops b) = Unit {0}
SameSteps m n (stops a) effect = Unit {0}

if_steps : (m n : ℕ) (flag : Bool) (a b c d : LineEffect) → SameSteps m n a c → SameSteps m n b d → SameSteps m n (if flag then a else b) (if flag then c else d)
if_steps m n true a b c d h k = h
if_steps m n false a b c d h k = k

made_is : (m n k l : ℕ) → m + l ≡ n + k → k ≤ m → l ≤ n → m - k ≡ n - l
made_is m n k l sum low less = grind (arith, sum, low, less)

module _ (setting : RunSetting) (limit : ℕ) where
  abbrev other : RunSetting
  other = with_limit limit setting

  fire_same : (number m n : ℕ) (r q : Firings) → SameFirings m n r q → SameSteps m n (fire_step setting number r) (fire_step other number q)
  fire_same number m n (all_fired a v k) (all_fired b w l) h =
      (ap (λ (z : List OutLine). written_lines setting.form setting.program number z) h.0, h.1, ap has_fault h.0, h.2)
  fire_same number m n (all_fired a v k) (limit_met b) h = tt
  fire_same number m n (limit_met a) (all_fired b w l) h = tt
  fire_same number m n (limit_met a) (limit_met b) h = tt

  met_same : (each number m n : ℕ) (most : Option ℕ) (a b : LineEffect) → SameSteps m n a b → SameSteps m n (met_step setting each number most a) (met_step other each number most b)
  met_same each number m n most (goes_on a) (goes_on b) h =
      (ap₂ (λ (text : List ℕ) (w : World). text ++ met_lines setting.form (setting.fires setting.program w) each number most) h.0 h.1, h.1, h.2, h.3)
  met_same each number m n most (saves a) (saves b) h = h
  met_same each number m n most (goes_on a) (saves b) h = absurd h
  met_same each number m n most (saves a) (goes_on b) h = absurd h
  met_same each number m n most (goes_on a) (stops text) h = tt
  met_same each number m n most (saves a) (stops text) h = tt
  met_same each number m n most (stops text) (goes_on b) h = tt
  met_same each number m n most (stops text) (saves b) h = tt
  met_same each number m n most (stops text) (stops more) h = tt

  by_same : (live : Option ℕ) (number m n : ℕ) (w : World) (most : Option ℕ) → SameSteps m n (fire_by setting live number m w most) (fire_by other live number n w most)
  by_same None number m n w most =
      fire_same number m n (firings setting.fires setting.program most m w) (firings setting.fires setting.program most n w) (firings_same setting.fires setting.program most m n w)
  by_same (Some each) number m n w most =
      let few : Option ℕ = Some (at_most each most) in
      met_same each number m n most (fire_step setting number (firings setting.fires setting.program few m w)) (fire_step other number (firings setting.fires setting.program few n w))
      (fire_same number m n (firings setting.fires setting.program few m w) (firings setting.fires setting.program few n w) (firings_same setting.fires setting.program few m n w))

  fired_same : (fires : Bool) (m n k l : ℕ) (v w : World) → v ≡ w → m - k ≡ n - l → fired_of setting fires m k v ≡ fired_of other fires n l w
  fired_same true m n k l v w e made = ap₂ (λ (fired : ℕ) (u : World). Some (fired, is_some (setting.fires setting.program u))) made e
  fired_same false m n k l v w e made = refl

  closed_same : (number m n : ℕ) (fires : Bool) (a b : LineEffect) → StepWithin m a → StepWithin n b → SameSteps m n a b
      → SameSteps m n (closed setting number m fires a) (closed other number n fires b)
  closed_same number m n fires (goes_on a) (goes_on b) low less h =
      let fired = fired_same fires m n a.left b.left a.world b.world h.1 (made_is m n a.left b.left h.3 low less) in
      (ap₂ (λ (text : List ℕ) (made : Option (ℕ × Bool)). text ++ end_text setting setting.live number made) h.0 fired, h.1, h.2, h.3)
  closed_same number m n fires (saves a) (saves b) low less h =
      let fired = fired_same fires m n a.left b.left a.world b.world h.1 (made_is m n a.left b.left h.3 low less) in
      (ap₂ (λ (text : List ℕ) (made : Option (ℕ × Bool)). text ++ end_text setting setting.live number made) h.0 fired, h.1, h.2, h.3)
  closed_same number m n fires (goes_on a) (saves b) low less h = absurd h
  closed_same number m n fires (saves a) (goes_on b) low less h = absurd h
  closed_same number m n fires (goes_on a) (stops text) low less h = tt
  closed_same number m n fires (saves a) (stops text) low less h = tt
  closed_same number m n fires (stops text) (goes_on b) low less h = tt
  closed_same number m n fires (stops text) (saves b) low less h = tt
  closed_same number m n fires (stops text) (stops more) low less h = tt

  command_same : (number m n : ℕ) (w : World) (c : Command) → SameSteps m n (command_step setting number m w c) (command_step other number n w c)
  command_same number m n w (Change change) = (refl, refl, refl, omega arith)
  command_same number m n w (Fire most) = by_same setting.live number m n w most
  command_same number m n w Held = (refl, refl, refl, omega arith)

  asked_same : (number m n : ℕ) (w : World) (a : Asked) → SameSteps m n (asked_step setting number m w a) (asked_step other number n w a)
  asked_same number m n w (asks command) = command_same number m n w command
  asked_same number m n w bad_json = (refl, refl, refl, omega arith)
  asked_same number m n w bad_command = (refl, refl, refl, omega arith)

  step_same : (number m n : ℕ) (w : World) (line : List ℕ) → SameSteps m n (line_step setting number m w line) (line_step other number n w line)
  unfolding line_step
  step_same number m n w line =
      closed_same number m n (is_fire_line line) (told_step setting number m w line) (told_step other number n w line) (told_within setting number m w line) (told_within other number n w line)
      (if_steps m n (nat_lt 65536 (length line)) _ _ _ _ (refl, refl, refl, omega arith)
      (if_steps m n (is_line_blank line) _ _ _ _ (refl, refl, refl, omega arith) (asked_same number m n w (asked line))))

  -- a state in which so many firings are left
  abbrev at_left : ℕ → Bool → World → ℕ → RunState
  at_left lines faulted w n = record { progress = record { lines = lines; left = n; faulted = faulted }; world = w }

  abbrev SameEnds : ℕ → ℕ → Outcome → Outcome → Type 0
  SameEnds m n a b = (s t : RunState) → a.comes_to ≡ Some s → b.comes_to ≡ Some t → AreSame m n a b s t

  abbrev comes_of : Outcome → Option RunState
  comes_of o = o.comes_to

  at_ends : (lines : ℕ) (faulted : Bool) (w : World) (m n : ℕ) → SameEnds m n (at_end (at_left lines faulted w m)) (at_end (at_left lines faulted w n))
  at_ends lines faulted w m n s t e f =
      let one : at_left lines faulted w m ≡ s = same_Some (at_left lines faulted w m) s e in
      let two : at_left lines faulted w n ≡ t = same_Some (at_left lines faulted w n) t f in
      rw (sym one, sym two) (record { bytes = refl; lines = refl; faulted = refl; world = refl; left = omega arith })

  -- behind a line
  behind : (m n k l : ℕ) (text more : List ℕ) (a b : Outcome) → text ≡ more → m + l ≡ n + k → SameEnds k l a b → SameEnds m n (then_run text a) (then_run more b)
  behind m n k l text more a b same sum ends s t e f =
      let r = ends s t e f in
      record { bytes = ap₂ (λ (x y : List ℕ). x ++ y) same r.bytes; lines = r.lines; faulted = r.faulted; world = r.world; left = omega (arith, sum, r.left) }

  runs_same : (lines : ℕ) (faulted : Bool) (w : World) (m n : ℕ) (xs : List (List ℕ))
      → SameEnds m n (run setting (at_left lines faulted w m) xs) (run other (at_left lines faulted w n) xs)
  unfolding run_lines
  runs_same lines faulted w m n [] = at_ends lines faulted w m n
  runs_same lines faulted w m n (x ∷ xs) =
      here (step_in setting (at_left lines faulted w m) x) (step_in other (at_left lines faulted w n) x) refl refl (step_same (lines + 1) m n w x)
      (λ v bad k l. runs_same (lines + 1) bad v k l xs)
    where
      here : (a b : LineEffect) → step_in setting (at_left lines faulted w m) x ≡ a → step_in other (at_left lines faulted w n) x ≡ b → SameSteps m n a b
          → ((v : World) (bad : Bool) (k l : ℕ) → SameEnds k l (run setting (at_left (lines + 1) bad v k) xs) (run other (at_left (lines + 1) bad v l) xs))
          → SameEnds m n (run setting (at_left lines faulted w m) (x ∷ xs)) (run other (at_left lines faulted w n) (x ∷ xs))
      here (goes_on c) (goes_on d) is also same rest =
          let there : at_left (lines + 1) (faulted || c.faulty) c.world d.left ≡ state_after (at_left lines faulted w n) d
          = ap₂ (λ (bad : Bool) (v : World). at_left (lines + 1) (faulted || bad) v d.left) same.2 same.1 in
          let ends : SameEnds c.left d.left (run setting (state_after (at_left lines faulted w m) c) xs) (run other (state_after (at_left lines faulted w n) d) xs)
          = subst (λ (u : RunState). SameEnds c.left d.left (run setting (state_after (at_left lines faulted w m) c) xs) (run other u xs)) there
          (rest c.world (faulted || c.faulty) c.left d.left) in
          rw (run_goes (step_in setting) (at_left lines faulted w m) x c is xs, run_goes (step_in other) (at_left lines faulted w n) x d also xs)
          (behind m n c.left d.left c.text d.text (run setting (state_after (at_left lines faulted w m) c) xs) (run other (state_after (at_left lines faulted w n) d) xs) same.0 same.3 ends)
      here (saves c) (saves d) is also same rest =
          let there : at_left (lines + 1) (faulted || c.faulty) c.world d.left ≡ state_after (at_left lines faulted w n) d
          = ap₂ (λ (bad : Bool) (v : World). at_left (lines + 1) (faulted || bad) v d.left) same.2 same.1 in
          let ends : SameEnds c.left d.left (run setting (state_after (at_left lines faulted w m) c) xs) (run other (state_after (at_left lines faulted w n) d) xs)
          = subst (λ (u : RunState). SameEnds c.left d.left (run setting (state_after (at_left lines faulted w m) c) xs) (run other u xs)) there
          (rest c.world (faulted || c.faulty) c.left d.left) in
          rw (run_saves (step_in setting) (at_left lines faulted w m) x c is xs, run_saves (step_in other) (at_left lines faulted w n) x d also xs)
          (behind m n c.left d.left c.text d.text (run setting (state_after (at_left lines faulted w m) c) xs) (run other (state_after (at_left lines faulted w n) d) xs) same.0 same.3 ends)
      here (goes_on c) (saves d) is also same rest = absurd same
      here (saves c) (goes_on d) is also same rest = absurd same
      here (stops text) b is also same rest = λ s t e f. absurd (no_more s s (sym (ap comes_of (run_stops (step_in setting) (at_left lines faulted w m) x text is xs)) ∙ e))
      here (goes_on c) (stops text) is also same rest = λ s t e f. absurd (no_more s t (sym (ap comes_of (run_stops (step_in other) (at_left lines faulted w n) x text also xs)) ∙ f))
      here (saves c) (stops text) is also same rest = λ s t e f. absurd (no_more s t (sym (ap comes_of (run_stops (step_in other) (at_left lines faulted w n) x text also xs)) ∙ f))

pub same_run : (setting : RunSetting) (limit : ℕ) (lines : List (List ℕ)) (s t : RunState) → (whole_run setting lines).comes_to ≡ Some s
    → (whole_run (with_limit limit setting) lines).comes_to ≡ Some t → IsSameRun setting.limit limit (whole_run setting lines) (whole_run (with_limit limit setting) lines) s t
same_run setting limit lines s t e f =
    let r = runs_same setting limit 0 false empty_world setting.limit limit lines s t e f in
    record {
      bytes = r.bytes;
      lines = r.lines;
      faulted = r.faulted;
      world = r.world;
      made = made_is setting.limit limit s.progress.left t.progress.left r.left (run_within setting (first_state setting.limit) s lines e)
          (run_within (with_limit limit setting) (first_state limit) t lines f);
    }
