-- Nodes and gates that time leaves as they are, and sources that a step leaves so.
use Rattle.rete_net.proofs.Common.{◌≡◌, ◌∙◌, sym, ap, refl, subst, ℕ, ℤ, ◌<◌, ◌≤ℤ◌, ◌<ℤ◌, ◌||◌, Bool, true, false, not, List, [], ◌∷◌, ◌++◌, length, filter}
use Rattle.rete_net.proofs.Common.{Option, Some, None, IfSome, ≤ℤ_refl, fun_ext, list_any, slice_get, Fact, Delta, Named, Row, Condition, Pattern, Program}
use Rattle.rete_net.proofs.Common.{Moment, pattern_of, Snapshot, floor_on, held, candidates_of, GateStands, arrivals, IsOrderly, MovesSnapshot, at_clock}
use Rattle.rete_net.proofs.Common.{shares_tag, cleaned, line, condition_of, is_negated, IsBefore, IsQuiet, NetNode, StaysAt, IsNodeQuiet, AreQuiet, is_whole}
use Rattle.rete_net.proofs.Common.{PatternGate, Node, arrivals_still, same_candidates, join_quiet, exists_quiet, fold_quiet, is_changed_by_clock, AreScheduled}
use Rattle.rete_net.proofs.Common.{IsGateStill, IsLeftAlone, IsSet, Schedule, Member, showing, shown, with_member, is_meant, is_one_meant, has_place, Fans}
use Rattle.beta_node.specs.declared.node.Node.TheVariants as node
use Rattle.{fx_base.proofs.{Sequences.{get-below}, Tests.{or_first_false}}, rule_model.specs.declared.condition.WindowTag.{WindowTag}}
use Rattle.{join_memory.specs.declared.candidates.Candidates.{Candidates}, pattern_gate.specs.{Alike.{TakesAlike}, Turns.{is_given_meant}}}
use Rattle.{pattern_gate.proofs.Alike.{same_meant}, candidate_source.specs.declared.{source.Source.{Source}, sources.Sources.{Sources}}}
use Rattle.candidate_source.specs.{Doors.{source_candidates, source_gate, source_pattern}, Sources.{is_follower, is_lead, is_other, is_this, lead_of}}
use Rattle.candidate_source.{specs.Sources.{source_at, AreOthersAtRest, IsAtRest}, proofs.{Moving.{place_within}, Resting.{has_lead, lead_is}}}
use Rattle.{std.specs.Option.{option_map}, beta_node.specs.Lending.{lent_to, with_candidates}, rete_net.specs.Schedules.{gate_told, timed_gate}}
use Rattle.rete_net.{specs.{Sources.{AreSources}, Standing.{taking}}, proofs.{Lent.{condition_lent}, Lone.{gate_stays, inside_still, neither_right}}}
use Rattle.rete_net.proofs.{Scheduling.{quiet_sooner}, Showing.{condition_shown, shown_from}, Turning.{held_has, rising}}

pub if_before : (until : Option ℤ) (clock : ℤ) → IsBefore until clock → IfSome until (λ at. clock <ℤ at)
if_before None clock h = tt
if_before (Some at) clock h = h

-- ---- a gate

-- where the clock alone moves, nothing goes
none_go : (facts : List Fact) → facts ≡ filter (λ (f : Fact). not (shares_tag [] f)) facts ++ []
none_go [] = refl
none_go (f ∷ facts) = ap (λ (rest : List Fact). f ∷ rest) (none_go facts)

clock_moves : (p : Program) (s : Snapshot) (clock : ℤ) → IsOrderly p s → IsOrderly p (at_clock s clock) → s.clock ≤ℤ clock → MovesSnapshot p s (at_clock s clock) [] None
clock_moves p s clock before after later = record {
  before = before;
  after = after;
  clock = later;
  floors = λ entry. floor_on p s (at_clock s clock) entry later (≤ℤ_refl (s.reached.last_start entry)) (≤ℤ_refl (s.reached.promise entry));
  held = λ f i. absurd i;
  once = tt;
  facts = none_go s.facts;
}

-- until this moment the clock alone changes no candidates of the pattern
abbrev pub IsGateQuiet : Program → Pattern → PatternGate → Option ℤ → Type 0
IsGateQuiet p q gate until = (s : Snapshot) (clock : ℤ) → GateStands p q gate s → IsOrderly p s → IsOrderly p (at_clock s clock) → s.clock ≤ℤ clock → IsBefore until clock
    → (who : Named) → candidates_of p q (at_clock s clock) who ≡ candidates_of p q s who

still_quiet : (p : Program) (q : Pattern) (gate : PatternGate) (until : Option ℤ) → ((clock : ℤ) → IsBefore until clock → IsGateStill gate clock) → IsGateQuiet p q gate until
still_quiet p q gate until still s clock stands kept kept_now later before =
    (still clock before).candidates p q s (at_clock s clock) [] None refl stands (clock_moves p s clock kept kept_now later) refl

whole_quiet : (p : Program) (q : Pattern) (gate : PatternGate) (until : Option ℤ) → is_whole q.window ≡ true → IsGateQuiet p q gate until
whole_quiet p q gate until whole s clock stands kept kept_now later before =
    same_candidates p q s (at_clock s clock) kept kept_now (arrivals_still p q s clock kept kept_now) gate stands (inside_still q gate whole stands.window s.clock clock (arrivals p q s))

-- ---- one node

node_quiet : (p : Program) (n : NetNode) (until : Option ℤ) → IsGateQuiet p (pattern_of (condition_of n.node)) n.gate until → IsQuiet p n.node until → IsNodeQuiet p n until
node_quiet p n until gate node s rows forgotten clock stands named kept kept_now begun later low before =
    let same = gate s clock stands.gate kept kept_now later before in
    record { same_candidates = same; same_line = node (held s) s rows forgotten clock (rising s.facts kept.in_order) (held_has s forgotten) named stands.node begun later low before same }

node_still : (p : Program) (n : Node) (until : Option ℤ) → is_negated (condition_of n) ≡ false → IsQuiet p n until
node_still p (node.Join join) until e = join_quiet p join until
node_still p (node.Not waiting) until e = absurd (let no : true ≡ false = e in cc)
node_still p (node.Exists tally) until e = exists_quiet p tally until
node_still p (node.Fold fold) until e = fold_quiet p fold until

member_quiet : (p : Program) (o : Option Member) (n : NetNode) (until : Option ℤ) → IsQuiet p n.node until → IsQuiet p (showing o n).node until
member_quiet p None n until quiet = quiet
member_quiet p (Some m) n until quiet = by n.node quiet
  where
    by : (x : Node) → IsQuiet p x until → IsQuiet p (with_member m x) until
    by (node.Join join) quiet = join_quiet p _ until
    by (node.Not waiting) quiet = quiet
    by (node.Exists tally) quiet = quiet
    by (node.Fold fold) quiet = quiet

gate_shown : (o : Option Member) (n : NetNode) → (showing o n).gate ≡ n.gate
gate_shown None n = refl
gate_shown (Some m) n = refl

pub condition_taking : (o : Option Source) (n : NetNode) → condition_of (taking o n).node ≡ condition_of n.node
condition_taking None n = refl
condition_taking (Some s) n = condition_lent (source_candidates s) n.node

-- a node with what it takes from its source is one to which the candidates of that are lent
pub taking_lends : (o : Option Source) (n : NetNode) → (taking o n).node ≡ lent_to (option_map (λ s. source_candidates s) o) n.node
taking_lends None n = refl
taking_lends (Some s) n = refl

-- what stays for a node with what it takes stays for it
pub stays_taking : (p : Program) (o : Option Source) (n : NetNode) (s : Snapshot) (rows : Row → Bool) (forgotten : Named → Bool) (clock : ℤ) → StaysAt p (taking o n) s rows forgotten clock → StaysAt p n s rows forgotten clock
stays_taking p o n s rows forgotten clock stays = record {
  same_candidates = subst (λ (c : Condition). (who : Named) → candidates_of p (pattern_of c) (at_clock s clock) who ≡ candidates_of p (pattern_of c) s who) (condition_taking o n) stays.same_candidates;
  same_line = subst (λ (c : Condition). (row : Row) → cleaned (line p (at_clock s clock) c rows) forgotten row ≡ cleaned (line p s c rows) forgotten row) (condition_taking o n) stays.same_line;
}

-- ---- patterns that take alike

whole_alike : (a b : Pattern) → TakesAlike a b → is_whole a.window ≡ is_whole b.window
whole_alike a b alike = ap (λ (w : WindowTag). is_whole w) alike.window

meant_alike : (a b : Pattern) (gone : List Fact) (come : Option Fact) → TakesAlike a b → is_one_meant a gone come ≡ is_one_meant b gone come
meant_alike a b gone come alike =
    ap (λ (t : Fact → Bool). list_any t gone || is_given_meant a come) (fun_ext (λ f. same_meant a b f alike)) ∙ ap (λ given. list_any (is_meant b) gone || given) (given come)
  where
    given : (come : Option Fact) → is_given_meant a come ≡ is_given_meant b come
    given None = refl
    given (Some f) = same_meant a b f alike

-- ---- all nodes

leads_alone : (k : ℕ) (o : Option ℕ) → is_this k o ≡ true → is_other k o ≡ false
leads_alone k None e = refl
leads_alone k (Some lead) e = ap not e

module _ (p : Program) (nodes : List NetNode) (fans : Fans) (sources : Sources) (are : AreSources nodes fans sources) (schedule : Schedule) (scheduled : AreScheduled p sources nodes schedule) where
  -- a node of a source is there
  node_at : (k : ℕ) (s : Source) → source_at sources k ≡ Some s → (n : NetNode) × (slice_get nodes k ≡ Some n)
  node_at k s of = get-below nodes k (subst (λ (n : ℕ). k < n) are.many (place_within sources k s of))

  module _ (first : Option ℤ) (least : (k : ℕ) (until : Option ℤ) → IsSet schedule.clock k until → (clock : ℤ) → IsBefore first clock → IsBefore until clock) where
    own_quiet : (k : ℕ) (n : NetNode) → slice_get nodes k ≡ Some n → IsQuiet p n.node first
    own_quiet k n e = by (is_changed_by_clock n) refl
      where
        by : (t : Bool) → is_changed_by_clock n ≡ t → IsQuiet p n.node first
        by true timed = let is = scheduled k n e timed in quiet_sooner p n.node is.until first (least k is.until is.set) is.quiet
        by false untimed = node_still p n.node first (or_first_false (is_negated (condition_of n.node)) (not (is_whole (pattern_of (condition_of n.node)).window)) untimed)

    lent_quiet : (k : ℕ) (n : NetNode) → slice_get nodes k ≡ Some n → (own : Candidates) → IsQuiet p (with_candidates own n.node) first
    lent_quiet k n e own = by (is_changed_by_clock n) refl
      where
        by : (t : Bool) → is_changed_by_clock n ≡ t → IsQuiet p (with_candidates own n.node) first
        by true timed = let is = scheduled k n e timed in quiet_sooner p (with_candidates own n.node) is.until first (least k is.until is.set) (is.lent own)
        by false untimed =
            node_still p (with_candidates own n.node) first
            (ap is_negated (condition_lent own n.node) ∙ or_first_false (is_negated (condition_of n.node)) (not (is_whole (pattern_of (condition_of n.node)).window)) untimed)

    own_gate : (k : ℕ) (n : NetNode) → slice_get nodes k ≡ Some n → source_at sources k ≡ None → IsGateQuiet p (pattern_of (condition_of n.node)) n.gate first
    own_gate k n e none = by (is_changed_by_clock n) refl
      where
        by : (t : Bool) → is_changed_by_clock n ≡ t → IsGateQuiet p (pattern_of (condition_of n.node)) n.gate first
        by true timed =
            let is = scheduled k n e timed in
            let still = subst (λ (o : Option Source). IfSome (timed_gate o (is_lead sources k) n) (λ gate. (clock : ℤ) → IsBefore is.until clock → IsGateStill gate clock)) none is.gate in
            still_quiet p (pattern_of (condition_of n.node)) n.gate first (λ clock before. still clock (least k is.until is.set clock before))
        by false untimed = whole_quiet p (pattern_of (condition_of n.node)) n.gate first (neither_right (is_negated (condition_of n.node)) (is_whole (pattern_of (condition_of n.node)).window) untimed)

    shared_gate : (k : ℕ) (n : NetNode) (s : Source) → slice_get nodes k ≡ Some n → source_at sources k ≡ Some s → IsGateQuiet p (pattern_of (condition_of n.node)) (source_gate s) first
    shared_gate k n s e of =
        let lead = has_lead sources are.apart k s of in
        let leads = lead_is sources are.apart k lead.0 s of lead.1 in
        let there = node_at lead.0 s leads.0 in
        by lead.0 there.0 there.1 leads.0 leads.1 (is_changed_by_clock there.0) refl
      where
        by : (l : ℕ) (m : NetNode) → slice_get nodes l ≡ Some m → source_at sources l ≡ Some s → is_lead sources l ≡ true → (t : Bool) → is_changed_by_clock m ≡ t
            → IsGateQuiet p (pattern_of (condition_of n.node)) (source_gate s) first
        by l m there from leads true timed =
            let is = scheduled l m there timed in
            let told = λ (gate : PatternGate). (clock : ℤ) → IsBefore is.until clock → IsGateStill gate clock in
            let still = subst (λ (b : Bool). IfSome (timed_gate (Some s) b m) told) leads (subst (λ (o : Option Source). IfSome (timed_gate o (is_lead sources l) m) told) from is.gate) in
            still_quiet p (pattern_of (condition_of n.node)) (source_gate s) first (λ clock before. still clock (least l is.until is.set clock before))
        by l m there from leads false untimed =
            whole_quiet p (pattern_of (condition_of n.node)) (source_gate s) first
            (whole_alike _ _ (are.sourced k n s e of).alike ∙ sym (whole_alike _ _ (are.sourced l m s there from).alike)
            ∙ neither_right (is_negated (condition_of m.node)) (is_whole (pattern_of (condition_of m.node)).window) untimed)

    -- until the least moment of the schedule all nodes are quiet, whatever they keep as members and take from sources
    pub all_quiet : (members : ℕ → Option Member) → ((k : ℕ) (s : Source) → source_at sources k ≡ Some s → members k ≡ None) → AreQuiet p sources (shown members nodes) first
    all_quiet members unseated k x e =
        let n = shown_from members nodes k x e in
        subst (λ y. IsNodeQuiet p (taking (source_at sources k) y) first) n.2 (by n.0 n.1 (source_at sources k) refl)
      where
        by : (n : NetNode) → slice_get nodes k ≡ Some n → (o : Option Source) → source_at sources k ≡ o → IsNodeQuiet p (taking o (showing (members k) n)) first
        by n there None of =
            node_quiet p (showing (members k) n) first
            (subst (λ (gate : PatternGate). IsGateQuiet p (pattern_of (condition_of (showing (members k) n).node)) gate first) (sym (gate_shown (members k) n))
            (subst (λ (c : Condition). IsGateQuiet p (pattern_of c) n.gate first) (sym (condition_shown (members k) n)) (own_gate k n there of)))
            (member_quiet p (members k) n first (own_quiet k n there))
        by n there (Some s) of =
            subst (λ (o : Option Member). IsNodeQuiet p (taking (Some s) (showing o n)) first) (sym (unseated k s of))
            (node_quiet p (taking (Some s) n) first
            (subst (λ (c : Condition). IsGateQuiet p (pattern_of c) (source_gate s) first) (sym (condition_lent (source_candidates s) n.node)) (shared_gate k n s there of))
            (lent_quiet k n there (source_candidates s)))

  -- ---- a step

  -- sources whose first nodes a step does not reach are at rest in it
  pub others_rest : (first : Delta) (gone : List Fact) (come : Option Fact) (moment : Moment) (due : List ℕ)
      → ((k : ℕ) (n : NetNode) → slice_get nodes k ≡ Some n → has_place due k ≡ false → IsLeftAlone p sources k n first gone come moment) → AreOthersAtRest sources due gone come moment.clock
  others_rest first gone come moment due alone k s of leads out =
      let there = node_at k s of in
      let n = there.0 in
      let alone = alone k n there.1 out in
      let unmeant = sym (meant_alike (pattern_of (condition_of n.node)) (source_pattern s) gone come (are.sourced k n s there.1 of).alike) ∙ alone.unmeant (leads_alone k (lead_of sources k) leads) in
      by n there.1 alone unmeant (is_changed_by_clock n) refl
    where
      by : (n : NetNode) → slice_get nodes k ≡ Some n → IsLeftAlone p sources k n first gone come moment → is_one_meant (source_pattern s) gone come ≡ false → (t : Bool) → is_changed_by_clock n ≡ t → IsAtRest s gone come moment.clock
      by n there alone unmeant true timed =
          let told = λ (gate : PatternGate). IsGateStill gate moment.clock in
          let still = subst (λ (b : Bool). IfSome (timed_gate (Some s) b n) told) leads (subst (λ (o : Option Source). IfSome (timed_gate o (is_lead sources k) n) told) of (alone.undue timed).gate) in
          record {
            stands = λ p t next stands moves at. still.stands p (source_pattern s) t next gone come unmeant stands moves at;
            candidates = λ p t next stands moves at. still.candidates p (source_pattern s) t next gone come unmeant stands moves at;
          }
      by n there alone unmeant false untimed =
          let whole = sym (whole_alike _ _ (are.sourced k n s there of).alike) ∙ neither_right (is_negated (condition_of n.node)) (is_whole (pattern_of (condition_of n.node)).window) untimed in
          record {
            stands = λ p. (gate_stays p (source_pattern s) (source_gate s) gone come moment.clock whole unmeant).stands;
            candidates = λ p. (gate_stays p (source_pattern s) (source_gate s) gone come moment.clock whole unmeant).candidates;
          }
