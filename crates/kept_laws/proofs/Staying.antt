-- What is forgotten stays a candidate, or stays none.
use Rattle.kept_laws.proofs.Common.{◌≡◌, ◌∙◌, ◌&&◌, ◌||◌, ◌==◌, not, ℕ, ℤ, ◌+ℤ◌, ◌-ℤ◌, ◌≤ℤ◌, ◌<ℤ◌, Bool, true, false, if◌then◌else◌, List, [], ◌∷◌, Option}
use Rattle.kept_laws.proofs.Common.{Some, None, refl, sym, subst, ap, arith, slice_get, int_le, int_lt, In, Fact, Named, Condition, WindowTag, Time, Whole}
use Rattle.kept_laws.proofs.Common.{Length, Life, Plain, Explicit, Finite, Infinite, LifeTable, Program, Rule, Step, is_inside, is_candidate, is_within}
use Rattle.kept_laws.proofs.Common.{pattern_of, binds, Snapshot, tests_hold, unbound, name_of, is_event, expiry_of, is_observed, of_filter, in_filter, IsLawful}
use Rattle.kept_laws.proofs.Common.{World, snapshot, found, new_fact, has_id, revised, revised_in, was_present, AreSafe, IsLife, finite, infinite, lives_below}
use Rattle.kept_laws.proofs.Common.{candidates_of, candidate_of, candidate_named, is_alive, is_pending_named, is_forgotten, IsLawfulStep, behind, same_fact}
use Rattle.{kept_laws.proofs.Common.{in_map, in_left, stays, and_parts, eqb-true, false_from_ne_true}, std.proofs.{lemmas.Int.{ints}, Math.Bool.{or-true}}}
use Rattle.rule_model.specs.{Candidates.{is_present}, declared.step.Step.TheVariants.{Insert, Modify, Retract, Advance, At, Promise, Begin}}
use Rattle.{rule_world.{specs.Worlds.{moved, step_fault}, proofs.Fresh.{revise}}, kept_meaning.{specs.Kept.{is_kept}, proofs.Decided.{lost_event, not_alive}}}
use Rattle.{kept_meaning.proofs.Versions.{lost, tags_behind}, fx_base.{specs.declared.value.Value.{Value}, proofs.Tests.{or_first_false, same_test}}}
use Rattle.life_laws.proofs.{Laws.{observed_of}, Moves.{plain_there, retracted_is_not_observed, clock_on}}

-- ---- no step takes away an observed event

-- what has the id of a modification is a plain fact
unrevised : (id tag : ℕ) (sets : List (ℕ × Value)) (f : Fact) → has_id id f ≡ false → revise id tag sets f ≡ f
unrevised id tag sets f e = ap (λ b. if b then revised tag sets f else f) e

pub observed_stays : (p : Program) (w : World) (step : Step) → IsLawful p w → step_fault p w step ≡ None → (f : Fact) → In f w.facts → is_event p f.ty.0 ≡ true → is_observed p f.ty.0 ≡ true
    → In f (moved p w step).facts
unfolding moved step_fault
observed_stays p w (Insert ty entry fields) law none f i event observed = in_left f w.facts (new_fact p w ty.0 entry.0 fields ∷ []) i
observed_stays p w (Modify id sets) law none f i event observed =
    let other = false_from_ne_true (has_id id.0 f) (λ h. let n : true ≡ false = sym event ∙ plain_there p w id.0 law none f i h in absurd cc) in
    subst (λ (g : Fact). In g (revised_in id.0 w.next_tag sets w.facts)) (unrevised id.0 w.next_tag sets f other) (in_map (revise id.0 w.next_tag sets) f w.facts i)
observed_stays p w (Retract ty id) law none f i event observed =
    in_filter (stays p w.clock ty.0 id.0) f w.facts (ap not (false_from_ne_true (is_present p w.clock f && (f.ty.0 == ty.0 && has_id id.0 f)) (λ h.
    let same = eqb-true f.ty.0 ty.0 (and_parts (f.ty.0 == ty.0) (has_id id.0 f) (and_parts (is_present p w.clock f) (f.ty.0 == ty.0 && has_id id.0 f) h).1).0 in
    let unseen = retracted_is_not_observed p ty.0 (found p w id.0) none (ap (is_event p) (sym same) ∙ event) in
    let n : true ≡ false = sym observed ∙ ap (is_observed p) same ∙ unseen in
    absurd cc))) i
observed_stays p w (Advance by) law none f i event observed = i
observed_stays p w (At moment) law none f i event observed = i
observed_stays p w (Promise entry from) law none f i event observed = i
observed_stays p w Begin law none f i event observed = i

-- ---- a fact past its life, over two snapshots

pub after_life : (a b : ℤ) → int_le a b ≡ false → b <ℤ a
after_life a b e = grind (arith, ints)

-- what is past a life is past a shorter one
pub after_less : (end m n clock : ℤ) → m ≤ℤ n → (end +ℤ n) <ℤ clock → (end +ℤ m) <ℤ clock
after_less end m n clock h k = omega (arith, ints)

pub not_below : (a b : ℤ) → b ≤ℤ a → int_lt a b ≡ false
not_below a b h = grind (arith, ints)

pub too_old : (clock start end n span : ℤ) → start ≤ℤ end → (end +ℤ n) <ℤ clock → span ≤ℤ n → span ≤ℤ (clock -ℤ start)
too_old clock start end n span order past longer = omega (arith, ints)

pub later_too : (a b c : ℤ) → a <ℤ b → b ≤ℤ c → a <ℤ c
later_too a b c h k = omega (arith, ints)

endless_present : (p : Program) (clock : ℤ) (f : Fact) → expiry_of p f.ty.0 ≡ None → is_present p clock f ≡ true
unfolding is_present
endless_present p clock f e = ap (λ (x : Option ℤ). not (is_event p f.ty.0) || is_within x (clock -ℤ f.times.start)) e ∙ or-true (not (is_event p f.ty.0))

-- neither is a candidate, where it is present in neither
absent_same : (a b r c d : Bool) → a ≡ false → b ≡ false → ((a && r) && c) ≡ ((b && r) && d)
absent_same true b r c d e h = absurd cc
absent_same false true r c d e h = absurd cc
absent_same false false r c d e h = refl

never : (a c : Bool) → ((a && false) && c) ≡ false
never true c = refl
never false c = refl

-- or where presence and windows agree for the facts of the type
present_same : (a b t r c d : Bool) → a ≡ b → (t ≡ true → c ≡ d) → ((a && (t && r)) && c) ≡ ((b && (t && r)) && d)
present_same a b true r c d e h = ap (λ x. (x && r) && c) e ∙ ap (λ x. (b && r) && x) (h refl)
present_same a b false r c d e h = never a c ∙ sym (never b d)

module _ (p : Program) (s o : Snapshot) (from : s.clock ≤ℤ o.clock) (rule : Rule) (in_rules : In rule p.rules) (k : ℕ) (c : Condition) (at_k : slice_get rule.conditions k ≡ Some c) (f : Fact) where
  abbrev alone : Bool
  alone = f.entry.0 == (pattern_of c).entry.0 && tests_hold unbound f (pattern_of c).alone

  -- a fact that is not present comes into no pattern any more
  gone_same : is_present p s.clock f ≡ false → is_candidate p (pattern_of c) o f ≡ is_candidate p (pattern_of c) s f
  gone_same absent =
      let absent_too = false_from_ne_true (is_present p o.clock f) (λ h. let n : true ≡ false = sym (was_present p f s.clock o.clock from h) ∙ absent in absurd cc) in
      absent_same (is_present p o.clock f) (is_present p s.clock f) (f.ty.0 == (pattern_of c).ty.0 && alone)
      (is_inside p (pattern_of c) (pattern_of c).window o.clock o.facts f) (is_inside p (pattern_of c) (pattern_of c).window s.clock s.facts f) absent_too absent

  module _ (n : ℤ) (life : IsLife p f.ty.0 (finite n)) (order : f.times.start ≤ℤ f.times.end) (past : (f.times.end +ℤ n) <ℤ s.clock) where
    -- an event past its life is in no window of time, and windows of length make lives endless
    window_same : (pattern_of c).ty.0 ≡ f.ty.0 → (window : WindowTag) → (pattern_of c).window ≡ window
        → is_inside p (pattern_of c) window o.clock o.facts f ≡ is_inside p (pattern_of c) window s.clock s.facts f
    window_same ty Whole is = refl
    window_same ty (Time span) is =
        let longer : span ≤ℤ n = lives_below p f.ty.0 n rule (record { place = k; condition = c }) life in_rules at_k ty (Time span) (finite span) is refl in
        not_below (o.clock -ℤ f.times.start) span (too_old o.clock f.times.start f.times.end n span order (later_too (f.times.end +ℤ n) s.clock o.clock past from) longer)
        ∙ sym (not_below (s.clock -ℤ f.times.start) span (too_old s.clock f.times.start f.times.end n span order past longer))
    window_same ty (Length count) is =
        absurd (lives_below p f.ty.0 n rule (record { place = k; condition = c }) life in_rules at_k ty (Length count) infinite is refl)

    past_same : is_candidate p (pattern_of c) o f ≡ is_candidate p (pattern_of c) s f
    past_same =
        present_same (is_present p o.clock f) (is_present p s.clock f) (f.ty.0 == (pattern_of c).ty.0) alone
        (is_inside p (pattern_of c) (pattern_of c).window o.clock o.facts f) (is_inside p (pattern_of c) (pattern_of c).window s.clock s.facts f)
        (endless_present p o.clock f life.unexpired ∙ sym (endless_present p s.clock f life.unexpired))
        (λ t. window_same (sym (eqb-true f.ty.0 (pattern_of c).ty.0 t)) (pattern_of c).window refl)

-- ---- what is not kept

module _ (p : Program) (table : LifeTable) (w : World) (are : AreSafe p table) where
  module _ (law : IsLawful p w) (o : Snapshot) (from : w.clock ≤ℤ o.clock) (rule : Rule) (in_rules : In rule p.rules) (k : ℕ) (c : Condition) (at_k : slice_get rule.conditions k ≡ Some c)
      (f : Fact) (inside : In f w.facts) where
    same_by : (life : Option Life) → slice_get table.lives f.ty.0 ≡ life → is_alive p life w.clock f ≡ false → is_candidate p (pattern_of c) o f ≡ is_candidate p (pattern_of c) (snapshot w) f
    same_by None at e = absurd (let n : true ≡ false = e in cc)
    same_by (Some Plain) at e = absurd (let n : true ≡ false = e in cc)
    same_by (Some (Explicit expiry)) at e = gone_same p (snapshot w) o from rule in_rules k c at_k f e
    same_by (Some (Finite n)) at e =
        let life = are.each f.ty.0 (Finite n) at in
        let order = ((law.sound f inside).timed life.1.event).event.ordered in
        past_same p (snapshot w) o from rule in_rules k c at_k f life.0 life.1 order (after_less f.times.end life.0 n w.clock life.2 (after_life w.clock (f.times.end +ℤ n) e))
    same_by (Some Infinite) at e = absurd (let n : true ≡ false = e in cc)

    pub lost_same : is_kept p table w f ≡ false → is_candidate p (pattern_of c) o f ≡ is_candidate p (pattern_of c) (snapshot w) f
    lost_same e = same_by (slice_get table.lives f.ty.0) refl (not_alive p table w are f e)

-- ---- over a step

module _ (p : Program) (table : LifeTable) (w : World) (step : Step) (given : IsLawfulStep p table w step) (rule : Rule) (in_rules : In rule p.rules) (k : ℕ) (c : Condition) (at_k : slice_get rule.conditions k ≡ Some c) where
  abbrev next : Snapshot
  next = behind p w step

  fact_same : (f : Fact) → In f w.facts → is_kept p table w f ≡ false → In f next.facts → candidates_of p (pattern_of c) next (name_of f) ≡ candidates_of p (pattern_of c) (snapshot w) (name_of f)
  fact_same f i e there =
      candidate_named p next (tags_behind p w step given.lawful.ordered) (pattern_of c) f there
      ∙ lost_same p table w given.safe given.lawful next (clock_on p w step given.faultless) rule in_rules k c at_k f i e
      ∙ sym (candidate_named p (snapshot w) given.lawful.ordered.tags (pattern_of c) f i)

  -- what is still there
  pub there_same : (f : Fact) → is_forgotten p table w (name_of f) ≡ true → In f next.facts → candidates_of p (pattern_of c) next (name_of f) ≡ candidates_of p (pattern_of c) (snapshot w) (name_of f)
  there_same f forgotten there =
      let g = lost p table w (name_of f) forgotten in
      let same : f ≡ g.fact = same_fact p w step given.lawful.ordered g.fact f g.inside there (sym g.named) in
      fact_same f (subst (λ (x : Fact). In x w.facts) (sym same) g.inside) (ap (is_kept p table w) same ∙ g.not_kept) there

  module _ (side : binds c ≡ false) (who : Named) (forgotten : is_forgotten p table w who ≡ true) where
    abbrev named_same : Fact → Type 0
    named_same f = candidates_of p (pattern_of c) next (name_of f) ≡ candidates_of p (pattern_of c) (snapshot w) (name_of f)

    was_too : candidates_of p (pattern_of c) next who ≡ true → candidates_of p (pattern_of c) (snapshot w) who ≡ true
    was_too e =
        let f = candidate_of p next (tags_behind p w step given.lawful.ordered) (pattern_of c) who e in
        let there = of_filter (is_candidate p (pattern_of c) next) f.0 next.facts f.1 in
        let same = there_same f.0 (ap (is_forgotten p table w) f.2 ∙ forgotten) there in
        ap (candidates_of p (pattern_of c) (snapshot w)) (sym f.2) ∙ sym same ∙ ap (candidates_of p (pattern_of c) next) f.2 ∙ e

    is_too : candidates_of p (pattern_of c) (snapshot w) who ≡ true → candidates_of p (pattern_of c) next who ≡ true
    is_too e =
        let g = lost p table w who forgotten in
        let q = pattern_of c in
        let tested = sym (candidate_named p (snapshot w) given.lawful.ordered.tags q g.fact g.inside) ∙ ap (candidates_of p q (snapshot w)) g.named ∙ e in
        let ty = of_type (snapshot w) g.fact tested in
        let event = lost_event p table w given.safe g.fact g.not_kept in
        let observed = ap (is_observed p) ty ∙ observed_of p rule given.flagged in_rules k c at_k side (ap (is_event p) (sym ty) ∙ event) in
        let there = observed_stays p w step given.lawful given.faultless g.fact g.inside event observed in
        ap (candidates_of p q next) (sym g.named) ∙ fact_same g.fact g.inside g.not_kept there ∙ ap (candidates_of p q (snapshot w)) g.named ∙ e
      where
        of_type : (s : Snapshot) (f : Fact) → is_candidate p (pattern_of c) s f ≡ true → f.ty.0 ≡ (pattern_of c).ty.0
        of_type s f h =
            let fit = and_parts _ (is_inside p (pattern_of c) (pattern_of c).window s.clock s.facts f) h in
            let typed = and_parts (is_present p s.clock f) (f.ty.0 == (pattern_of c).ty.0 && (f.entry.0 == (pattern_of c).entry.0 && tests_hold unbound f (pattern_of c).alone)) fit.0 in
            eqb-true f.ty.0 (pattern_of c).ty.0 (and_parts (f.ty.0 == (pattern_of c).ty.0) (f.entry.0 == (pattern_of c).entry.0 && tests_hold unbound f (pattern_of c).alone) typed.1).0

    pub side_same : candidates_of p (pattern_of c) next who ≡ candidates_of p (pattern_of c) (snapshot w) who
    side_same = same_test (candidates_of p (pattern_of c) next who) (candidates_of p (pattern_of c) (snapshot w) who) was_too is_too
