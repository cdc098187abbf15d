-- A network stands for a snapshot without a fact that no rule misses.
use Rattle.rete_net.proofs.Common.{◌≡◌, ◌∙◌, sym, ap, refl, subst, ℕ, ℤ, ◌==◌, ◌&&◌, ◌||◌, ◌-ℤ◌, not, Bool, true, false, List, map, take, length, Some}
use Rattle.rete_net.proofs.Common.{slice_get, arith, fun_ext, or-true, take_all, filter, IsStrictlySortedBy, is_some, nat_cmp, In, Fact, Named, Row, has}
use Rattle.rete_net.proofs.Common.{Condition, Negated, Existing, Folded, Pattern, WindowTag, Whole, Time, Length, Program, Rule, fits, is_candidate, is_inside}
use Rattle.rete_net.proofs.Common.{is_within, HaveDistinctTags, pattern_of, rows, is_length, Snapshot, name_of, is_event, of_filter, one_fact, in_filter}
use Rattle.rete_net.proofs.Common.{in_place, filter_swap, Look, joins, Memories, cleaned, StandsFor, counts_blockers, counts_witnesses, gathers, all_passing}
use Rattle.rete_net.proofs.Common.{StandsCounted, NameHeld, held, candidates_of, rows_of, candidate_named, candidate_of, rows_named, Kept, KeepsWindow}
use Rattle.rete_net.proofs.Common.{KeepsTime, StandsForArrivals, TagsDiffer, with_tag, window_kept, Arrival, has_tag, inside, named_of, differ_after}
use Rattle.rete_net.proofs.Common.{PatternGate, GateStands, arrival_of, arrivals, window_kind_of, IsOrderly, at_clock, filter_made, is_other, number, rising}
use Rattle.rete_net.proofs.Common.{inside_are, Node, condition_of, NodeStands, AsksOfSet, blockers_ask, witnesses_ask, gathers_ask, held_known, node_moves}
use Rattle.rete_net.proofs.Common.{shown_nodes, Rete, NetNode, snapshot_without, IsUnmissed, HaveSameFronts, NodesStand, NetStands, clean_rows, NetNodeStands}
use Rattle.rete_net.proofs.Common.{before, IsRuleFront, HoldsArrivals, tallied_pattern, blocker_tallies, blocking_pattern, gathered_tallies, Gate, window_of}
use Rattle.{std.proofs.lemmas.{Bool.{and_parts, eqb-true}, List.Kept.{IsStrictlySortedBy-filter}}, rule_model.specs.Candidates.{is_present}}
use Rattle.{rule_model.specs.Snapshots.{floor}, rule_world.proofs.Fresh.{distinct_filtered}, window_gate.specs.declared.change.GateChange.TheVariants.{Gone}}
use Rattle.window_gate.specs.declared.change.WindowKind.TheVariants as kind
use Rattle.window_gate.specs.declared.gate.Kept.TheVariants as kept
use Rattle.window_gate.specs.declared.time_window.TimeWindow.{TimeWindow}
use Rattle.beta_node.specs.declared.node.Node.TheVariants as node
use Rattle.rete_net.proofs.{Beside.{at_end}, Cleaning.{has_clean}, Lent.{lent_alike}, Stillness.{condition_taking}, Common.{Option, None, StandsIn, IsFound}}
use Rattle.rete_net.proofs.{Common.{taking}, Fewer.{IsApart, Unobserved, of_other, of_binding, tag_of, unobserved_of, same_left, no_fit, candidates_apart}}
use Rattle.rete_net.proofs.Fewer.{candidate_other, held_still, less_known, candidates_less, remembered_same, joins_named, front_same}
use Rattle.{fx_base.{specs.declared.value.Value.{Value}, proofs.Tests.{and_where}}, candidate_source.specs.declared.source.Source.{Source}}
use Rattle.{candidate_source.specs.{Doors.{is_reached, source_candidates}, Sources.{source_at}}, beta_node.specs.Lending.{with_candidates}}

-- ---- a snapshot without a fact

module _ (s : Snapshot) (f : Fact) where
  less_in_order : IsStrictlySortedBy nat_cmp (map number s.facts) → IsStrictlySortedBy nat_cmp (map number (snapshot_without s f).facts)
  less_in_order rise =
      subst (IsStrictlySortedBy nat_cmp) (filter_made (λ n. not (f.tag.0 == n)) number s.facts) (IsStrictlySortedBy-filter nat_cmp (λ n. not (f.tag.0 == n)) (map number s.facts) rise)

  less_in : (g : Fact) → In g (snapshot_without s f).facts → In g s.facts
  less_in g i = of_filter (is_other f) g s.facts i

  less_kept : (p : Program) → IsOrderly p s → IsOrderly p (snapshot_without s f)
  less_kept p is = record {
    in_order = less_in_order is.in_order;
    present = λ g i. is.present g (less_in g i);
    low = λ g i. is.low g (less_in g i);
    high = λ g i. is.high g (less_in g i);
  }

module _ (p : Program) (s : Snapshot) (f : Fact) (forgotten : Named → Bool) (kept_s : IsOrderly p s) (there : In f s.facts) (known : forgotten (name_of f) ≡ true) where
  abbrev less : Snapshot
  less = snapshot_without s f

  d : HaveDistinctTags s.facts
  d = rising s.facts kept_s.in_order

  d_less : HaveDistinctTags less.facts
  d_less = rising less.facts (less_in_order s f kept_s.in_order)

  -- ---- the gate of a pattern

  module _ (q : Pattern) (gate : PatternGate) (stands : GateStands p q gate s) where
    fewer : arrivals p q less ≡ filter (λ (a : Arrival). not (has_tag f.tag.0 a.named)) (arrivals p q s)
    fewer = ap (map arrival_of) (filter_swap (fits p q s.clock) (is_other f) s.facts) ∙ sym (filter_made (λ (a : Arrival). not (has_tag f.tag.0 a.named)) arrival_of (filter (fits p q s.clock) s.facts))

    tags_less : TagsDiffer (map named_of (arrivals p q less))
    tags_less = subst (λ (list : List Arrival). TagsDiffer (map named_of list)) (sym fewer) (differ_after (kind.Time s.clock) (arrivals p q s) (Gone (name_of f)) stands.stands.tags tt)

    inside_same : (span : ℤ) → (fits p q s.clock f && is_inside p q (Time span) s.clock s.facts f) ≡ false → inside (kind.Time span) s.clock (arrivals p q less) ≡ inside (kind.Time span) s.clock (arrivals p q s)
    inside_same span out =
        inside_are p q less (less_in_order s f kept_s.in_order) (Time span)
        ∙ ap (map arrival_of) (same_left p s f forgotten d d_less there known (λ g. fits p q s.clock g && is_inside p q (Time span) s.clock s.facts g) out)
        ∙ sym (inside_are p q s kept_s.in_order (Time span))

    time_less : (w : TimeWindow) → inside (kind.Time w.millis) s.clock (arrivals p q less) ≡ inside (kind.Time w.millis) s.clock (arrivals p q s) → KeepsTime w (arrivals p q s) s.clock → KeepsTime w (arrivals p q less) s.clock
    time_less w same keeps = subst (λ (list : List Arrival). HoldsArrivals w (λ tag. with_tag tag list)) (sym same) keeps

    keeps_less : (k : Kept) (w : WindowTag) → window_kept k ≡ window_kind_of w → is_length w ≡ false → ((span : ℤ) → w ≡ Time span → (fits p q s.clock f && is_inside p q (Time span) s.clock s.facts f) ≡ false)
        → KeepsWindow k (arrivals p q s) s.clock → KeepsWindow k (arrivals p q less) s.clock
    keeps_less kept.Whole w is short out keeps = tt
    keeps_less (kept.Time t) Whole is short out keeps = absurd cc
    keeps_less (kept.Time t) (Time span) is short out keeps =
        let millis : t.millis ≡ span = cc in
        time_less t (subst (λ m. inside (kind.Time m) s.clock (arrivals p q less) ≡ inside (kind.Time m) s.clock (arrivals p q s)) (sym millis) (inside_same span (out span refl))) keeps
    keeps_less (kept.Time t) (Length count) is short out keeps = absurd cc
    keeps_less (kept.Length l) Whole is short out keeps = absurd cc
    keeps_less (kept.Length l) (Time span) is short out keeps = absurd cc
    keeps_less (kept.Length l) (Length count) is short out keeps = absurd (let n : true ≡ false = short in cc)

    gate_keeps_less : (g : Gate) (w : WindowTag) → window_of g ≡ window_kind_of w → is_length w ≡ false → ((span : ℤ) → w ≡ Time span → (fits p q s.clock f && is_inside p q (Time span) s.clock s.facts f) ≡ false)
        → KeepsWindow g.kept (arrivals p q s) s.clock → KeepsWindow g.kept (arrivals p q less) s.clock
    gate_keeps_less g w is short out keeps = keeps_less g.kept w is short out keeps

    gate_apart : IsApart q f → GateStands p q gate less
    gate_apart is = record {
      window = stands.window;
      stands = subst (λ (list : List Arrival). StandsForArrivals gate.gate list s.clock)
          (ap (map arrival_of) (sym (same_left p s f forgotten d d_less there known (fits p q s.clock) (no_fit p s f forgotten d d_less there known q is s.clock)))) stands.stands;
    }

    gate_short : is_length q.window ≡ false → ((span : ℤ) → q.window ≡ Time span → is_candidate p q s f ≡ false) → GateStands p q gate less
    gate_short short out = record {
      window = stands.window;
      stands = record {
        tags = tags_less;
        keeps = gate_keeps_less gate.gate q.window stands.window short
            (λ span at. subst (λ (w : WindowTag). (fits p q s.clock f && is_inside p q w s.clock s.facts f) ≡ false) at (out span at)) stands.stands.keeps;
      };
    }

  gate_less : (c : Condition) → Unobserved f c → ((span : ℤ) → (pattern_of c).window ≡ Time span → is_candidate p (pattern_of c) s f ≡ false) → (gate : PatternGate) → GateStands p (pattern_of c) gate s → GateStands p (pattern_of c) gate less
  gate_less c (of_other is) out gate stands = gate_apart (pattern_of c) gate stands is
  gate_less c (of_binding q same short) out gate stands =
      gate_short (pattern_of c) gate stands (subst (λ (e : Condition). is_length (pattern_of e).window ≡ false) (sym same) short) out

  -- ---- the node of a condition

  module _ (rows rows_less : Row → Bool) (named : NameHeld s rows) (same : cleaned rows_less forgotten ≡ cleaned rows forgotten) where
    stands_less : {T : Type 0} (c : Condition) → Unobserved f c → (m : Memories T) → StandsFor m (held less) rows (candidates_of p (pattern_of c) s) forgotten → StandsFor m (held less) rows_less (candidates_of p (pattern_of c) less) forgotten
    stands_less c u m stands = record {
      rows = λ row. stands.rows row ∙ ap (λ (set : Row → Bool). set row) (sym same);
      names = λ who. stands.names who ∙ ap (λ (names : Named → Bool). names who) (sym (remembered_same p s f forgotten d d_less there known c u));
      agrees = stands.agrees;
    }

    -- what is counted beside a row is the same
    counts_less : {T : Type 0} (holds : T → Look → (Named → Bool) → Type 0) → AsksOfSet T holds → (c : Condition) → Unobserved f c → IsApart (pattern_of c) f → (m : Memories T)
        → StandsCounted holds m (held less) (held s) (joins (pattern_of c) (held s)) rows (candidates_of p (pattern_of c) s) forgotten
        → StandsCounted holds m (held less) (held less) (joins (pattern_of c) (held less)) rows_less (candidates_of p (pattern_of c) less) forgotten
    counts_less holds asks c u is m was = record {
      stands = stands_less c u m was.stands;
      counts = λ row t e.
          let q = pattern_of c in
          let row_there : cleaned rows forgotten row ≡ true = sym (was.stands.rows row) ∙ ap is_some e in
          asks t (held s) (held less) (all_passing (joins q (held less)) (candidates_of p q less) row)
          (λ who h.
          let candidate = sym (candidates_apart p s f forgotten d d_less there known q is who) ∙ (and_parts (candidates_of p q less who) (joins q (held less) row who) h).0 in
          let r = candidate_of p s d q who candidate in
          let other = candidate_other p s f forgotten d d_less there known q is r.0 r.1 in
          subst (λ (n : Named). held s n.tag ≡ held less n.tag) r.2 (sym (held_still p s f forgotten d d_less there known r.0 other.0 other.1)))
          (subst (holds t (held s)) (fun_ext (λ who.
          and_where (candidates_of p q s who) (joins q (held s) row who) (joins q (held less) row who) (λ h. sym (joins_named p s f forgotten d d_less there known rows named q is row row_there who h))
          ∙ ap (λ b. b && joins q (held less) row who) (sym (candidates_apart p s f forgotten d d_less there known q is who)))) (was.counts row t e));
    }

    moved : (n : Node) → NodeStands p n (held s) s rows forgotten → NodeStands p n (held less) s rows forgotten
    moved n stands = node_moves p (held s) (held less) s rows forgotten (held_known s forgotten) (less_known p s f forgotten d d_less there known) named n stands

    -- rows before a node of a source find it still
    found_less : (o : Option Source) (k : ℕ) (n : NetNode) → NodeStands p (taking o n).node (held s) s rows forgotten → IsFound o k n s rows forgotten → IsFound o k n less rows_less forgotten
    found_less None k n stands found = tt
    found_less (Some source) k n stands found = λ row e.
        let there = ap (λ (set : Row → Bool). set row) (sym same) ∙ e in
        subst (λ (value : Value). is_reached source value k ≡ true)
        (lent_alike p s rows forgotten (source_candidates source) (held s) (held less) n.node stands (moved (with_candidates (source_candidates source) n.node) stands) row there) (found row there)

    node_less : (n : Node) → Unobserved f (condition_of n) → NodeStands p n (held s) s rows forgotten → NodeStands p n (held less) less rows_less forgotten
    unfolding floor
    node_less (node.Join join) u stands = stands_less (condition_of (node.Join join)) u join.memories (moved (node.Join join) stands)
    node_less (node.Not waiting) (of_other is) stands =
        let now = moved (node.Not waiting) stands in
        record {
          counts = counts_less counts_blockers blockers_ask (Negated (blocking_pattern waiting)) (of_other is) is (blocker_tallies waiting) now.counts;
          in_step = now.in_step;
          none_due = now.none_due;
          floor = now.floor;
        }
    node_less (node.Not waiting) (of_binding q at short) stands = absurd cc
    node_less (node.Exists tally) (of_other is) stands =
        counts_less counts_witnesses witnesses_ask (Existing (tallied_pattern tally)) (of_other is) is tally.memories (moved (node.Exists tally) stands)
    node_less (node.Exists tally) (of_binding q at short) stands = absurd cc
    node_less (node.Fold fold) (of_other is) stands =
        let now = moved (node.Fold fold) stands in
        let a = fold.accumulate in
        let m = gathered_tallies fold in
        record {
          counts = subst (λ (q : Pattern). StandsCounted (gathers a) m (held less) (held less) (joins q (held less)) rows_less (candidates_of p q less) forgotten) (sym now.pattern)
              (counts_less (gathers a) (gathers_ask a) (Folded a) (of_other is) is m
              (subst (λ (q : Pattern). StandsCounted (gathers a) m (held less) (held s) (joins q (held s)) rows (candidates_of p q s) forgotten) now.pattern now.counts));
          pattern = now.pattern;
        }
    node_less (node.Fold fold) (of_binding q at short) stands = absurd cc

-- ---- the network

module _ (p : Program) (net : Rete) (s : Snapshot) (forgotten : Named → Bool) (f : Fact) (stands : NetStands p net s forgotten) (unmissed : IsUnmissed p s forgotten f) where
  abbrev was : Snapshot
  was = at_clock s stands.seen

  apart : HaveDistinctTags s.facts
  apart = rising s.facts stands.kept.in_order

  apart_less : HaveDistinctTags (snapshot_without s f).facts
  apart_less = rising (snapshot_without s f).facts (less_in_order s f stands.kept.in_order)

  -- the rule of a node, and the place of the node's condition in it
  module _ (k : ℕ) (n : NetNode) (e : slice_get (shown_nodes net) k ≡ Some n) where
    abbrev front : IsRuleFront p (stands.nodes.shape.conditions k)
    front = stands.nodes.shape.fronts k n e

    abbrev place : (i : ℕ) × (slice_get front.0.conditions i ≡ Some (condition_of n.node)) × (before stands.nodes.shape.conditions n.parent ≡ take i front.0.conditions)
    place = at_end front.0.conditions (before stands.nodes.shape.conditions n.parent) (condition_of n.node) front.2 (sym (stands.nodes.shape.shaped.own k n e) ∙ front.3)

    in_rule : In (condition_of n.node) front.0.conditions
    in_rule = in_place front.0.conditions place.0 (condition_of n.node) place.1

    unseen : (c : Condition) → In c front.0.conditions → Unobserved f c
    unseen c i = unobserved_of p f unmissed.unobserved front.0 front.1 c i

    rows_less : (t : ℤ) → cleaned (rows_of p (at_clock (snapshot_without s f) t) (stands.nodes.shape.conditions k)) forgotten ≡ cleaned (rows_of p (at_clock s t) (stands.nodes.shape.conditions k)) forgotten
    rows_less t =
        subst (λ (cs : List Condition). cleaned (rows_of p (at_clock (snapshot_without s f) t) cs) forgotten ≡ cleaned (rows_of p (at_clock s t) cs) forgotten) (sym front.3)
        (front_same p (at_clock s t) f forgotten apart apart_less unmissed.there unmissed.known front.0 unseen front.2)

    rows_before : cleaned (rows_of p (at_clock (snapshot_without s f) stands.seen) (before stands.nodes.shape.conditions n.parent)) forgotten ≡ cleaned (rows_of p was (before stands.nodes.shape.conditions n.parent)) forgotten
    rows_before =
        subst (λ (cs : List Condition). cleaned (rows_of p (at_clock (snapshot_without s f) stands.seen) cs) forgotten ≡ cleaned (rows_of p was cs) forgotten) (sym place.2)
        (front_same p was f forgotten apart apart_less unmissed.there unmissed.known front.0 unseen place.0)

    candidates_at : (t : ℤ) (who : Named) → candidates_of p (pattern_of (condition_of n.node)) (at_clock (snapshot_without s f) t) who ≡ (candidates_of p (pattern_of (condition_of n.node)) (at_clock s t) who && not (f.tag.0 == who.tag.0))
    candidates_at t who = candidates_less p (at_clock s t) f forgotten apart apart_less unmissed.there unmissed.known (condition_of n.node) (unseen (condition_of n.node) in_rule) who

    outside : (span : ℤ) → (pattern_of (condition_of n.node)).window ≡ Time span → is_candidate p (pattern_of (condition_of n.node)) was f ≡ false
    outside span at =
        sym (candidate_named p was apart (pattern_of (condition_of n.node)) f unmissed.there)
        ∙ sym (stands.unchanged.same_candidates k n e (name_of f))
        ∙ unmissed.outside front.0 front.1 (condition_of n.node) in_rule span at

    node_now : StandsIn p (source_at net.sources k) k n (at_clock (snapshot_without s f) stands.seen) (rows_of p (at_clock (snapshot_without s f) stands.seen) (before stands.nodes.shape.conditions n.parent)) forgotten
    node_now =
        let behind = before stands.nodes.shape.conditions n.parent in
        let now = rows_of p (at_clock (snapshot_without s f) stands.seen) behind in
        let at = stands.nodes.nodes k n e in
        let o = source_at net.sources k in
        let x = taking o n in
        let same = sym (condition_taking o n) in
        let u = subst (Unobserved f) same (unseen (condition_of n.node) in_rule) in
        let out = subst (λ (c : Condition). (span : ℤ) → (pattern_of c).window ≡ Time span → is_candidate p (pattern_of c) was f ≡ false) same outside in
        record {
          stands = record {
            gate = gate_less p was f forgotten stands.kept unmissed.there unmissed.known (condition_of x.node) u out x.gate at.stands.gate;
            node = node_less p was f forgotten stands.kept unmissed.there unmissed.known (rows_of p was behind) now (rows_named p was apart behind) rows_before x.node u at.stands.node;
          };
          found = found_less p was f forgotten stands.kept unmissed.there unmissed.known (rows_of p was behind) now (rows_named p was apart behind) rows_before o k n at.stands.node at.found;
        }

  abbrev nodes_less : NodesStand p net (at_clock (snapshot_without s f) stands.seen) forgotten
  nodes_less = record {
    shape = stands.nodes.shape;
    indexed = stands.nodes.indexed;
    scheduled = stands.nodes.scheduled;
    fans = stands.nodes.fans;
    sources = stands.nodes.sources;
    owned = stands.nodes.owned;
    nodes = node_now;
  }

  same_less : (a b : ℤ) → HaveSameFronts p (shown_nodes net) stands.nodes.shape.conditions forgotten (at_clock s a) (at_clock s b)
      → HaveSameFronts p (shown_nodes net) stands.nodes.shape.conditions forgotten (at_clock (snapshot_without s f) a) (at_clock (snapshot_without s f) b)
  same_less a b same = record {
    same_rows = λ k n e. rows_less k n e a ∙ same.same_rows k n e ∙ sym (rows_less k n e b);
    same_candidates = λ k n e who. candidates_at k n e a who ∙ ap (λ c. c && not (f.tag.0 == who.tag.0)) (same.same_candidates k n e who) ∙ sym (candidates_at k n e b who);
  }

  -- the fact is present at any clock
  always : (clock : ℤ) → is_present p clock f ≡ true
  unfolding is_present
  always clock = ap (λ expiry. not (is_event p f.ty.0) || is_within expiry (clock -ℤ f.times.start)) unmissed.lasting ∙ or-true (not (is_event p f.ty.0))

  with_fact : (clock : ℤ) → IsOrderly p (at_clock (snapshot_without s f) clock) → IsOrderly p (at_clock s clock)
  with_fact clock is = record {
    in_order = stands.kept.in_order;
    present = λ g i. by g i (f.tag.0 == g.tag.0) refl;
    low = stands.kept.low;
    high = stands.kept.high;
  }
    where
      by : (g : Fact) → In g s.facts → (b : Bool) → (f.tag.0 == g.tag.0) ≡ b → is_present p clock g ≡ true
      by g i true e = subst (λ (h : Fact). is_present p clock h ≡ true) (one_fact s.facts apart f g unmissed.there i (ap tag_of (eqb-true f.tag.0 g.tag.0 e))) (always clock)
      by g i false e = is.present g (in_filter (is_other f) g s.facts (ap not e) i)

  pub net_less : NetStands p net (snapshot_without s f) forgotten
  net_less = record {
    seen = stands.seen;
    begun = stands.begun;
    later = stands.later;
    kept = less_kept was f p stands.kept;
    nodes = nodes_less;
    unchanged = same_less s.clock stands.seen stands.unchanged;
    quiet = λ clock later low early is. same_less clock stands.seen (stands.quiet clock later low early (with_fact clock is));
  }

-- ---- the rows of rules

module _ (p : Program) (s : Snapshot) (forgotten : Named → Bool) (f : Fact) (tags : HaveDistinctTags s.facts) (unmissed : IsUnmissed p s forgotten f) (rule : Rule) (in_rules : In rule p.rules) where
  all_same : cleaned (rows_of p (snapshot_without s f) rule.conditions) forgotten ≡ cleaned (rows_of p s rule.conditions) forgotten
  all_same =
      subst (λ (cs : List Condition). cleaned (rows_of p (snapshot_without s f) cs) forgotten ≡ cleaned (rows_of p s cs) forgotten) (take_all (length rule.conditions) rule.conditions (omega arith))
      (front_same p s f forgotten tags (distinct_filtered (is_other f) s.facts tags) unmissed.there unmissed.known rule (unobserved_of p f unmissed.unobserved rule in_rules) (length rule.conditions))

  pub clean_rows_less : (row : Row) → has (clean_rows p (snapshot_without s f) forgotten rule) row ≡ has (clean_rows p s forgotten rule) row
  clean_rows_less row =
      ap (λ (set : Row → Bool). set row) (has_clean (rows p (snapshot_without s f) rule.conditions) forgotten ∙ all_same ∙ sym (has_clean (rows p s rule.conditions) forgotten))
