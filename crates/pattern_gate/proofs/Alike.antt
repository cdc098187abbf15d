-- Of a pattern its type, entry point, constant tests and window alone decide which facts are its candidates.
use Rattle.pattern_gate.proofs.Common.{◌≡◌, ◌∙◌, ◌&&◌, ap, sym, refl, subst, List, Option, Some, None, ℤ, Fact, Named, fits, is_inside, Program, Pattern}
use Rattle.pattern_gate.{proofs.Common.{WindowTag, Whole, Time, Length, Snapshot, PatternGate, GateStands, has_good_window, is_meant}, specs.Alike.{TakesAlike}}
use Rattle.{pattern_gate.specs.Alike.{SameCandidatesLaw, SameGateLaw, SameMeantLaw, SameWindowLaw}, rule_model.specs.declared.test.Test.{Test}}
use Rattle.{rule_model.specs.declared.test.TimeTest.{TimeTest}, condition_rows.specs.Sets.{candidates_of, is_candidate_given}}

-- the same pattern with other tests of rows
abbrev asking : List Test → List TimeTest → Pattern → Pattern
asking joined times q = record { ty = q.ty; entry = q.entry; window = q.window; alone = q.alone; joined = joined; times = times }

is_asking : (a b : Pattern) → TakesAlike a b → a ≡ asking a.joined a.times b
is_asking a b alike =
    ap (λ ty. record { ty = ty; entry = a.entry; window = a.window; alone = a.alone; joined = a.joined; times = a.times }) alike.ty
    ∙ ap (λ entry. record { ty = b.ty; entry = entry; window = a.window; alone = a.alone; joined = a.joined; times = a.times }) alike.entry
    ∙ ap (λ window. record { ty = b.ty; entry = b.entry; window = window; alone = a.alone; joined = a.joined; times = a.times }) alike.window
    ∙ ap (λ alone. record { ty = b.ty; entry = b.entry; window = b.window; alone = alone; joined = a.joined; times = a.times }) alike.alone

module _ (p : Program) (joined : List Test) (times : List TimeTest) (q : Pattern) where
  inside_alike : (window : WindowTag) (clock : ℤ) (facts : List Fact) (f : Fact) → is_inside p (asking joined times q) window clock facts f ≡ is_inside p q window clock facts f
  inside_alike Whole clock facts f = refl
  inside_alike (Time span) clock facts f = refl
  inside_alike (Length count) clock facts f = refl

  given_alike : (s : Snapshot) (found : Option Fact) → is_candidate_given p (asking joined times q) s found ≡ is_candidate_given p q s found
  given_alike s None = refl
  given_alike s (Some f) = ap (λ b. fits p q s.clock f && b) (inside_alike q.window s.clock s.facts f)

  candidates_alike : (s : Snapshot) (who : Named) → candidates_of p (asking joined times q) s who ≡ candidates_of p q s who
  unfolding candidates_of
  candidates_alike s who = given_alike s _

pub same_candidates : SameCandidatesLaw
same_candidates p a b s who alike = ap (λ (q : Pattern). candidates_of p q s who) (is_asking a b alike) ∙ candidates_alike p a.joined a.times b s who

gate_to : (p : Program) (a b : Pattern) (gate : PatternGate) (s : Snapshot) → TakesAlike a b → GateStands p a gate s → GateStands p b gate s
gate_to p a b gate s alike stands =
    let found = subst (λ (q : Pattern). GateStands p q gate s) (is_asking a b alike) stands in
    record { window = found.window; stands = found.stands }

turned_round : (a b : Pattern) → TakesAlike a b → TakesAlike b a
turned_round a b alike = record { ty = sym alike.ty; entry = sym alike.entry; alone = sym alike.alone; window = sym alike.window }

pub same_gate : SameGateLaw
same_gate p a b gate s alike = (gate_to p a b gate s alike, gate_to p b a gate s (turned_round a b alike))

pub same_meant : SameMeantLaw
same_meant a b f alike = ap (λ (q : Pattern). is_meant q f) (is_asking a b alike)

pub same_window : SameWindowLaw
same_window p a b alike = ap (has_good_window p) (is_asking a b alike)
