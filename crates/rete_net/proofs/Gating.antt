-- A gate stays as it is until something is due in it, whatever goes and comes that is not meant.
use Rattle.rete_net.proofs.Common.{◌≡◌, ◌∙◌, sym, ap, refl, subst, ℕ, ℤ, ◌≤ℤ◌, ◌<ℤ◌, ◌-ℤ◌, ◌&&◌, not, ◌||◌, true, false, List, [], map, Option, IfSome}
use Rattle.rete_net.proofs.Common.{IsStrictlySortedBy, nat_cmp, Fact, has, Named, fits, is_within, Snapshot, expiry_of, Pattern, Program, row_naming}
use Rattle.rete_net.proofs.Common.{candidates_of, StandsForArrivals, Arrival, rows_inside, GateStands, arrival_of, arrivals, window_kind_of, IsOrderly}
use Rattle.rete_net.proofs.Common.{MovesSnapshot, at_clock, is_meant, is_one_meant, PatternGate, filter_among, meant, same_arrivals, stands_still, IsGateStill}
use Rattle.{rule_model.specs.{Candidates.{is_present}, Types.{is_event}}, pattern_gate.proofs.Inside.{rows_named}}

-- in a program without types each fact is a plain one, and present at any clock
abbrev plain : Program
plain = record { types = []; entries = []; rules = [] }

no_event : (ty : ℕ) → is_event plain ty ≡ false
unfolding is_event
no_event ty = refl

always_present : (clock : ℤ) (f : Fact) → is_present plain clock f ≡ true
unfolding is_present
always_present clock f = ap (λ event. not event || is_within (expiry_of plain f.ty.0) (clock -ℤ f.times.start)) (no_event f.ty.0)

plainly : (s : Snapshot) → IsStrictlySortedBy nat_cmp (map (λ (f : Fact). f.tag.0) s.facts) → IsOrderly plain s
plainly s in_order = record {
  in_order = in_order;
  present = λ f i. always_present s.clock f;
  low = λ f i e. absurd (let no : false ≡ true = sym (no_event f.ty.0) ∙ e in cc);
  high = λ f i e. absurd (let no : false ≡ true = sym (no_event f.ty.0) ∙ e in cc);
}

arrivals_meant : (p : Program) (q : Pattern) (s : Snapshot) → IsOrderly p s → arrivals p q s ≡ meant q s.facts
arrivals_meant p q s is = ap (map arrival_of) (filter_among (fits p q s.clock) (is_meant q) s.facts (λ f i. ap (λ b. b && is_meant q f) (is.present f i)))

-- what a gate promises where the clock alone moves
abbrev pub StandsUntil : PatternGate → Option ℤ → Type 0
StandsUntil gate until = (p : Program) (q : Pattern) (s : Snapshot) (clock : ℤ) → GateStands p q gate s → IsOrderly p s → IsOrderly p (at_clock s clock) → s.clock ≤ℤ clock → IfSome until (λ at. clock <ℤ at)
    → GateStands p q gate (at_clock s clock)

abbrev pub AnswersUntil : PatternGate → Option ℤ → Type 0
AnswersUntil gate until = (p : Program) (q : Pattern) (s : Snapshot) (clock : ℤ) → GateStands p q gate s → IsOrderly p s → IsOrderly p (at_clock s clock) → s.clock ≤ℤ clock → IfSome until (λ at. clock <ℤ at)
    → (who : Named) → candidates_of p q (at_clock s clock) who ≡ candidates_of p q s who

-- a fact that goes by its expiry may be among what goes; so the clock moves in the program without types, for the same arrivals
module _ (gate : PatternGate) (until : Option ℤ) (stands_until : StandsUntil gate until) (answers_until : AnswersUntil gate until) (clock : ℤ) (before : IfSome until (λ at. clock <ℤ at)) where
  module _ (p : Program) (q : Pattern) (s next : Snapshot) (gone : List Fact) (come : Option Fact) (none : is_one_meant q gone come ≡ false) (stands : GateStands p q gate s) (moves : MovesSnapshot p s next gone come)
      (at : next.clock ≡ clock) where
    abbrev moved : Snapshot
    moved = at_clock s clock

    now : IsOrderly plain s
    now = plainly s moves.before.in_order

    then : IsOrderly plain moved
    then = plainly moved moves.before.in_order

    same : arrivals plain q s ≡ arrivals p q s
    same = arrivals_meant plain q s now ∙ sym (arrivals_meant p q s moves.before)

    same_moved : arrivals plain q moved ≡ arrivals p q s
    same_moved = arrivals_meant plain q moved then ∙ sym (arrivals_meant p q s moves.before)

    base : GateStands plain q gate s
    base = record { window = stands.window; stands = subst (λ (list : List Arrival). StandsForArrivals gate.gate list s.clock) (sym same) stands.stands }

    onward : s.clock ≤ℤ clock
    onward = subst (λ (c : ℤ). s.clock ≤ℤ c) at moves.clock

    gate_stands : GateStands p q gate next
    gate_stands =
        stands_still p q s next moves.before moves.after (same_arrivals p q s next gone come moves none) gate stands
        (subst (λ (c : ℤ). StandsForArrivals gate.gate (arrivals p q s) c) (sym at)
        (subst (λ (list : List Arrival). StandsForArrivals gate.gate list clock) same_moved (stands_until plain q s clock base now then onward before).stands))

    same_names : (who : Named) → candidates_of p q next who ≡ candidates_of p q s who
    same_names who =
        sym (rows_named p q next moves.after.in_order who)
        ∙ ap (λ (list : List Arrival). has (rows_inside (window_kind_of q.window) next.clock list) (row_naming who)) (sym (same_arrivals p q s next gone come moves none) ∙ sym same_moved)
        ∙ ap (λ (c : ℤ). has (rows_inside (window_kind_of q.window) c (arrivals plain q moved)) (row_naming who)) at
        ∙ rows_named plain q moved moves.before.in_order who
        ∙ answers_until plain q s clock base now then onward before who
        ∙ sym (rows_named plain q s moves.before.in_order who)
        ∙ ap (λ (list : List Arrival). has (rows_inside (window_kind_of q.window) s.clock list) (row_naming who)) same
        ∙ rows_named p q s moves.before.in_order who

  pub gate_still : IsGateStill gate clock
  gate_still = record { stands = gate_stands; candidates = same_names }
