-- The lines of changes and firings name types and rules of the program alone.
use Rattle.session_model.proofs.Common.{◌^◌, ◌≡◌, ◌<◌, ◌≤◌, ◌==◌, ◌&&◌, ℕ, ℤ, zero, suc, not, Bool, true, false, if◌then◌else◌, ap, Err, List, [], ◌∷◌, ◌++◌}
use Rattle.session_model.proofs.Common.{length, nat_lt, Option, Some, None, option_map, Result, Ok, refl, sym, ◌∙◌, subst, lt-ltb, arith, list_all-append}
use Rattle.session_model.proofs.Common.{∥∥₁_elim, FactId, TypeId, Value, Fact, HeldFacts, Named, Row, Action, Code, Absent, BadFields, EventFixed}
use Rattle.session_model.proofs.Common.{ReferenceFixed, Match, Program, Rule, TypeInfo, Step, values_fit, bound_in, Bindings, matches, has_match, id_at}
use Rattle.session_model.proofs.Common.{sets_of, type_or_first, IsRunnable, In, World, is_of_type, snapshot, all_of, of_map, has_pending, rule_of, in_place}
use Rattle.session_model.proofs.Common.{Change, Given, entry_asked, fields_step, insert_step, modify_step, new_step, promise_step, retract_step, sets_step}
use Rattle.session_model.proofs.Common.{type_named, values_step, entry_within, asked_fits, Detail, OutLine, append-nil, Memory, Setting, actions_of, new_line}
use Rattle.session_model.proofs.Common.{AllWantKnown, has_known_places, StayKnown, WantsKnown, planned, planned_for, held_at, IsNetwork, AreOfRules, Contents}
use Rattle.session_model.proofs.Common.{Course, IsSound, ReachesNoMore, Runs, Standing, reached_by, reached_of, nat_tests, moment_in, nothing_reached, is_event}
use Rattle.{session_model.proofs.Common.{facts_of, over}, std.{proofs.lemmas.Bool.{and_from, and_parts, and_right}, specs.Prelude.{slice_get}}}
use Rattle.{rete_net.{proofs.Networks.{network_of, rules_counted}, specs.Doors.{rule_count}}, rule_world.specs.{Kinds.{step_fits}, Typed.{bound_types}}}
use Rattle.{rule_world.specs.Typed.{bound_fields, fields_in, args_fit, action_fits, rule_fits, is_typed}, rule_model.specs.Numbers.{values_of}}
use Rattle.rule_model.specs.Planned.{step_of}
use mathlib.Core.Bool.{Bool-set}
use Rattle.script_read.specs.declared.asked.Change.TheVariants as asked
use Rattle.{change_resolve.specs.{Changes.{change_step}, Fields.{are_fields, are_some_fields, sets_given, values_given}}, engine.specs.Known.{is_known}}
use Rattle.{engine.specs.Known.{are_known}, session_model.proofs.{Promising.{HasPromise}, Stands.{HasStart}, Acting.{asked_step}, Firings.{line_of, plan_of}}}
use Rattle.session_model.{proofs.Firings.{top_held, top_of}, specs.{Gives.{fire_line_by, modified_lines, retracted_lines}, Places.{told}}}
use Rattle.answer_lines.specs.declared.lines.{Detail.TheVariants.{Brief, Full}, OutLine.TheVariants.{Modified, Retracted}}
use Rattle.rule_model.specs.declared.action.Action.TheVariants as action
use Rattle.rule_model.specs.declared.step.Step.TheVariants as step

-- ---- places

within : {A : Type 0} (xs : List A) (place : ℕ) (x : A) → slice_get xs place ≡ Some x → place < length xs
within [] place x e = absurd cc
within (y ∷ ys) zero x e = omega arith
within (y ∷ ys) (suc place) x e = let below = within ys place x e in omega arith

found_within : {A : Type 0} (xs : List A) (place : ℕ) (x : A) → slice_get xs place ≡ Some x → nat_lt place (length xs) ≡ true
found_within xs place x e = lt-ltb place (length xs) (within xs place x e)

-- ---- steps

-- values fit a type that is there
type_of_values : (p : Program) (ty : ℕ) (vs : List Value) (info : Option TypeInfo) → slice_get p.types ty ≡ info → values_fit info vs ≡ true → nat_lt ty (length p.types) ≡ true
type_of_values p ty vs None e fits = absurd cc
type_of_values p ty vs (Some info) e fits = found_within p.types ty info e

-- a promise is of an entry point of the program
abbrev IsPromised : Program → Step → Type 0
IsPromised p (step.Insert ty entry fields) = Unit {0}
IsPromised p (step.Modify id sets) = Unit {0}
IsPromised p (step.Retract ty id) = Unit {0}
IsPromised p (step.Advance by) = Unit {0}
IsPromised p (step.At moment) = Unit {0}
IsPromised p (step.Promise entry from) = nat_lt entry.0 (length p.entries) ≡ true
IsPromised p step.Begin = Unit {0}

fitting_known : (p : Program) (present : ℕ → Option Fact) (s : Step) → IsPromised p s → step_fits p present s ≡ true → has_known_places p s ≡ true
unfolding step_fits
fitting_known p present (step.Insert ty entry fields) promised fits =
    let parts = and_parts (values_fit (slice_get p.types ty.0) fields) (nat_lt entry.0 (length p.entries)) fits in
    and_from (nat_lt ty.0 (length p.types)) (nat_lt entry.0 (length p.entries)) (type_of_values p ty.0 fields (slice_get p.types ty.0) refl parts.0) parts.1
fitting_known p present (step.Modify id sets) promised fits = refl
fitting_known p present (step.Retract ty id) promised fits = refl
fitting_known p present (step.Advance by) promised fits = refl
fitting_known p present (step.At moment) promised fits = refl
fitting_known p present (step.Promise entry from) promised fits = promised
fitting_known p present step.Begin promised fits = refl

-- ---- what a change promises

-- a step that is asked for where no code comes first, or last
after_code : (b : Bool) (code : Code) (front : Result Step Code) (s : Step) → (if b then Err code else front) ≡ Ok s → front ≡ Ok s
after_code true code front s e = absurd cc
after_code false code front s e = e

before_code : (b : Bool) (code : Code) (front : Result Step Code) (s : Step) → (if b then front else Err code) ≡ Ok s → front ≡ Ok s
before_code true code front s e = e
before_code false code front s e = absurd cc

is_step : (a s : Step) → ◌≡◌ {A = Result Step Code} (Ok a) (Ok s) → a ≡ s
is_step a s e = cc

inserts : (p : Program) (ty entry : ℕ) (vs : Option (List Value)) (s : Step) → values_step ty entry vs ≡ Ok s → IsPromised p s
inserts p ty entry None s e = absurd cc
inserts p ty entry (Some vs) s e = subst (IsPromised p) (is_step (step.Insert (record { 0 = ty }) (record { 0 = entry }) vs) s e) tt

insert_promised : (p : Program) (begun : Bool) (ty : Option (ℕ × TypeInfo)) (entry : Option ℕ) (members : List (List ℕ × Given)) (s : Step) → insert_step begun ty entry members ≡ Ok s → IsPromised p s
insert_promised p begun None entry members s e = absurd cc
insert_promised p begun (Some ty) None members s e = absurd cc
insert_promised p begun (Some ty) (Some entry) members s e =
    inserts p ty.0 entry (values_given ty.1.fields members) s
    (before_code (are_fields ty.1.fields members) BadFields (values_step ty.0 entry (values_given ty.1.fields members)) s
    (after_code (ty.1.reference && begun) ReferenceFixed (new_step ty.0 entry ty.1.fields members) s e))

modifies : (p : Program) (id : FactId) (sets : Option (List (ℕ × Value))) (s : Step) → sets_step id sets ≡ Ok s → IsPromised p s
modifies p id None s e = absurd cc
modifies p id (Some sets) s e = subst (IsPromised p) (is_step (step.Modify id sets) s e) tt

modify_promised : (p : Program) (ty : Option (ℕ × TypeInfo)) (id : FactId) (fact : Option Fact) (members : List (List ℕ × Given)) (s : Step) → modify_step ty id fact members ≡ Ok s → IsPromised p s
modify_promised p None id fact members s e = absurd cc
modify_promised p (Some ty) id fact members s e =
    let front : Result Step Code = fields_step id ty.1.fields members in
    let typed : Result Step Code = if is_of_type ty.0 fact then front else Err Absent in
    modifies p id (sets_given ty.1.fields members) s
    (before_code (are_some_fields ty.1.fields members) BadFields (sets_step id (sets_given ty.1.fields members)) s
    (before_code (is_of_type ty.0 fact) Absent front s
    (after_code ty.1.reference ReferenceFixed typed s
    (after_code ty.1.event EventFixed (if ty.1.reference then Err ReferenceFixed else typed) s e))))

retract_promised : (p : Program) (ty : Option (ℕ × TypeInfo)) (id : FactId) (s : Step) → retract_step ty id ≡ Ok s → IsPromised p s
retract_promised p None id s e = absurd cc
retract_promised p (Some ty) id s e =
    subst (IsPromised p) (is_step (step.Retract (record { 0 = ty.0 }) id) s (after_code ty.1.reference ReferenceFixed (Ok (step.Retract (record { 0 = ty.0 }) id)) s e)) tt

promise_promised : (p : Program) (entry : Option ℕ) (from : ℤ) (s : Step) → ((place : ℕ) → entry ≡ Some place → place < length p.entries) → promise_step entry from ≡ Ok s → IsPromised p s
promise_promised p None from s within e = absurd cc
promise_promised p (Some entry) from s within e = subst (IsPromised p) (is_step (step.Promise (record { 0 = entry }) from) s e) (lt-ltb entry (length p.entries) (within entry refl))

entry_there : (p : Program) (entry : Option (List ℕ)) (place : ℕ) → 1 ≤ length p.entries → entry_asked entry p.entries ≡ Some place → place < length p.entries
entry_there p None place some e = let is : 0 ≡ place = cc in omega (arith, some, is)
entry_there p (Some name) place some e = let within = entry_within name p.entries 0 place e in omega (arith, within)

asked_promised : (p : Program) (begun : Bool) (present : ℕ → Option Fact) (change : Change) (s : Step) → 1 ≤ length p.entries → change_step p begun present change ≡ Ok s → IsPromised p s
unfolding change_step
asked_promised p begun present (asked.Insert ty entry members) s some e = insert_promised p begun (type_named ty p.types 0) (entry_asked entry p.entries) members s e
asked_promised p begun present (asked.Modify ty id members) s some e = modify_promised p (type_named ty p.types 0) id (present id.0) members s e
asked_promised p begun present (asked.Retract ty id) s some e = retract_promised p (type_named ty p.types 0) id s e
asked_promised p begun present (asked.Advance by) s some e = subst (IsPromised p) (is_step (step.Advance by) s e) tt
asked_promised p begun present (asked.At moment) s some e = subst (IsPromised p) (is_step (step.At moment) s e) tt
asked_promised p begun present (asked.Promise entry from) s some e = promise_promised p (entry_asked entry p.entries) from s (λ place. entry_there p entry place some) e
asked_promised p begun present asked.Begin s some e = subst (IsPromised p) (is_step step.Begin s e) tt

-- what a change of the script asks for
pub asked_known : (p : Program) (begun : Bool) (present : ℕ → Option Fact) (change : Change) (asked : Result Step Code) → IsRunnable p → asked ≡ change_step p begun present change → WantsKnown p asked
asked_known p begun present change asked runnable is one own =
    fitting_known p present one (asked_promised p begun present change one runnable.some_entry (sym is ∙ own)) (asked_fits p begun present change one runnable.some_entry (sym is ∙ own))

-- ---- what actions are to do

inserted_known : (p : Program) (ty : TypeId) (vs : Option (List Value)) (s : Step) → (nat_lt ty.0 (length p.types) && nat_lt 0 (length p.entries)) ≡ true
    → option_map (λ vs. step.Insert ty (record { 0 = 0 }) vs) vs ≡ Some s → has_known_places p s ≡ true
inserted_known p ty None s known e = absurd cc
inserted_known p ty (Some vs) s known e =
    let is : step.Insert ty (record { 0 = 0 }) vs ≡ s = cc in
    subst (λ (s : Step). has_known_places p s ≡ true) is known

modified_known : (p : Program) (id : FactId) (vs : Option (List (ℕ × Value))) (s : Step) → option_map (λ vs. step.Modify id vs) vs ≡ Some s → has_known_places p s ≡ true
modified_known p id None s e = absurd cc
modified_known p id (Some vs) s e =
    let is : step.Modify id vs ≡ s = cc in
    subst (λ (s : Step). has_known_places p s ≡ true) is refl

acted_known : (p : Program) (taken : List ℕ) (look : Bindings) (names : List Named) (a : Action) (s : Step) → 1 ≤ length p.entries → action_fits p.types taken a ≡ true → step_of look names a ≡ Some s
    → has_known_places p s ≡ true
unfolding step_of
acted_known p taken look names (action.Insert ty args) s some fits e =
    inserted_known p ty (values_of look args) s
    (and_from (nat_lt ty.0 (length p.types)) (nat_lt 0 (length p.entries)) (and_parts (nat_lt ty.0 (length p.types)) (args_fit (bound_fields p.types taken) (fields_in (slice_get p.types ty.0)) args) fits).0
    (lt-ltb 0 (length p.entries) (omega (arith, some)))) e
acted_known p taken look names (action.Modify fact sets) s some fits e = modified_known p (id_at names fact) (sets_of look sets) s e
acted_known p taken look names (action.Retract fact) s some fits e =
    let is : step.Retract (type_or_first (look.fact fact)) (id_at names fact) ≡ s = cc in
    subst (λ (s : Step). has_known_places p s ≡ true) is refl

planned_known : (p : Program) (facts : HeldFacts) (row : Row) (rule : Rule) → 1 ≤ length p.entries → rule_fits p.types rule ≡ true
    → (s : Step) → In (Ok s) (planned facts row rule.actions) → has_known_places p s ≡ true
planned_known p facts row rule some fits s i =
    let q = of_map (planned_for facts row) (Ok s) rule.actions i in
    acted_known p (bound_types rule.conditions) (bound_in (held_at facts) row) row.facts q.0 s some
    (all_of (action_fits p.types (bound_types rule.conditions)) rule.actions q.0 fits q.1)
    (asked_step (step_of (bound_in (held_at facts) row) row.facts q.0) s q.2)

-- what is planned for the row of a match
plan_known : (p : Program) (facts : HeldFacts) (q : Match) → IsRunnable p → AllWantKnown p (planned facts q.row (actions_of (slice_get p.rules q.rule.0)))
unfolding is_typed
plan_known p facts q runnable = by (slice_get p.rules q.rule.0) refl
  where
    by : (o : Option Rule) → slice_get p.rules q.rule.0 ≡ o → AllWantKnown p (planned facts q.row (actions_of o))
    by None e = λ s i. absurd i
    by (Some rule) e = planned_known p facts q.row rule runnable.some_entry (all_of (rule_fits p.types) p.rules rule runnable.typed (in_place p.rules q.rule.0 rule e))

pub top_known : (p : Program) (k : Contents) (plan : List (Result Step Code)) → IsRunnable p → Some plan ≡ plan_of p k (top_of k.agenda) → AllWantKnown p plan
top_known p k plan runnable own = by (top_of k.agenda) own
  where
    by : (o : Option Match) → Some plan ≡ plan_of p k o → AllWantKnown p plan
    by None e = absurd cc
    by (Some q) e =
        let is : plan ≡ planned k.facts q.row (actions_of (slice_get p.rules q.rule.0)) = cc in
        subst (AllWantKnown p) (sym is) (plan_known p k.facts q runnable)

-- ---- lines

pub one_more_known : (p : Program) (lines : List OutLine) (line : OutLine) → is_known p line ≡ true → StayKnown p lines (lines ++ line ∷ [])
one_more_known p lines line known before = list_all-append (is_known p) lines (line ∷ []) ∙ and_from (are_known p lines) (are_known p (line ∷ [])) before (and_from (is_known p line) true known refl)

-- the line of a match of a rule that is there
told_known : (s : Setting) (k : Contents) (q : Match) (d : Detail) → nat_lt q.rule.0 (length s.program.rules) ≡ true
    → is_known s.program (fire_line_by d s.program k.clock (held_at k.facts) q) ≡ true
told_known s k q Brief known = known
told_known s k q Full known = known

-- the line of the match that fires first
pub line_known : (s : Setting) (m : Memory) (k : Contents) (line : OutLine) → IsSound s.program m k → Some line ≡ line_of s k (top_of k.agenda) → is_known s.program line ≡ true
line_known s m k line sound own = by (top_of k.agenda) refl own
  where
    by : (o : Option Match) → o ≡ top_of k.agenda → Some line ≡ line_of s k o → is_known s.program line ≡ true
    by None top e = absurd cc
    by (Some q) top e =
        let is : line ≡ told s k q = cc in
        subst (λ (z : OutLine). is_known s.program z ≡ true) (sym is)
        (told_known s k q s.detail (lt-ltb q.rule.0 (length s.program.rules) (sound.pending q (top_held k.agenda q top))))

-- the line of an insertion of a type of the program
pub new_known : (p : Program) (f : Fact) (d : Detail) → nat_lt f.ty.0 (length p.types) ≡ true → is_known p (new_line d f) ≡ true
new_known p f Brief known = known
new_known p f Full known = known

-- the lines of a modification, and of a retraction
pub revision_known : (p : Program) (lines : List OutLine) (d : Detail) (found : Option Fact) → StayKnown p lines (lines ++ modified_lines d found)
revision_known p lines Brief found before = subst (λ z. are_known p z ≡ true) (sym (append-nil lines)) before
revision_known p lines Full None before = subst (λ z. are_known p z ≡ true) (sym (append-nil lines)) before
revision_known p lines Full (Some f) before = one_more_known p lines (Modified f) refl before

pub retraction_known : (p : Program) (lines : List OutLine) (d : Detail) (ty : TypeId) (id : FactId) → StayKnown p lines (lines ++ retracted_lines d ty id)
retraction_known p lines Brief ty id before = subst (λ z. are_known p z ≡ true) (sym (append-nil lines)) before
retraction_known p lines Full ty id before = one_more_known p lines (Retracted id ty) refl before

-- ---- a session that stands for a world is sound

pub standing_sound : (s : Setting) (m : Memory) (k : Contents) (w : World) → Standing s m k w → ReachesNoMore s.program w.reached → IsSound s.program m k
standing_sound s m k w st more = record {
  net = network_of s.program m.net (over (facts_of st.seen.all) k.clock (reached_of k)) st.seen.forgotten st.seen.stands;
  pending = λ q e.
      let p = s.program in
      let is_match = (and_parts (has_match (matches p (snapshot w)) q) (not (has_match w.fired q)) (sym (has_pending p w q) ∙ sym (st.holds.pending q) ∙ e)).0 in
      let is = rule_of p (snapshot w) q is_match in
      within p.rules q.rule.0 is.rule is.there;
  reached = subst (ReachesNoMore s.program) (sym st.seen.whole.mirrors.reached) more;
}

-- where nothing is reached nothing is beyond the entry points
pub none_more : (p : Program) → ReachesNoMore p nothing_reached
none_more p entry beyond = (refl, refl)

-- a new fact, or a promise, of an entry point of the program
other_entry : (of entry entries : ℕ) → nat_lt of entries ≡ true → entries ≤ entry → (of == entry) ≡ false
other_entry of entry entries within beyond = grind (arith, nat_tests)

pub new_no_more : (p : Program) (f : Fact) (was now : Course) → HasStart p f was now → nat_lt f.entry.0 (length p.entries) ≡ true → ReachesNoMore p (reached_by was) → ReachesNoMore p (reached_by now)
new_no_more p f was now has within before = subst (ReachesNoMore p) (sym has.reached) (λ entry beyond. (
  ap (λ b. if b then f.times.start else moment_in was.last_starts entry) (and_right (is_event p f.ty.0) (f.entry.0 == entry) (other_entry f.entry.0 entry (length p.entries) within beyond)) ∙ (before entry beyond).0,
  (before entry beyond).1,
))

pub promise_no_more : (p : Program) (entry : ℕ) (from : ℤ) (was now : Course) → HasPromise entry from was now → nat_lt entry (length p.entries) ≡ true → ReachesNoMore p (reached_by was)
    → ReachesNoMore p (reached_by now)
promise_no_more p entry from was now has within before = subst (ReachesNoMore p) (sym has.reached) (λ other beyond. (
  (before other beyond).0,
  ap (λ b. if b then from else moment_in was.promises other) (other_entry entry other (length p.entries) within beyond) ∙ (before other beyond).1,
))

-- ---- what steps keep

-- a network that is followed stays that of its program, and what becomes pending is of its rules
pub followed_sound : (s : Setting) (m n : Memory) (k t : Contents) → Runs s → IsSound s.program m k
    → (IsNetwork s.program m.net → IsNetwork s.program n.net)
    → (rule_count m.net < 2 ^ 16 → AreOfRules (rule_count m.net) k.agenda.pending → AreOfRules (rule_count m.net) t.agenda.pending)
    → (ReachesNoMore s.program (reached_of k) → ReachesNoMore s.program (reached_of t)) → IsSound s.program n t
followed_sound s m n k t runs sound shape rules reached = record {
  net = shape sound.net;
  pending =
      let count : rule_count m.net ≡ length s.program.rules = rules_counted s.program m.net sound.net in
      let few = runs.runnable.few_rules in
      subst (λ (many : ℕ). AreOfRules many t.agenda.pending) count
      (rules (omega (arith, count, few)) (subst (λ (many : ℕ). AreOfRules many k.agenda.pending) (sym count) sound.pending));
  reached = reached sound.reached;
}

-- ---- what a ghost field tells

-- lines are known where it is only known that a session is sound
pub merely_known : (p : Program) (m : Memory) (k : Contents) → ∥ IsSound p m k ∥₁ → (lines : List OutLine) → (IsSound p m k → are_known p lines ≡ true) → are_known p lines ≡ true
merely_known p m k sound lines h = ∥∥₁_elim sound (Bool-set _ _) h
