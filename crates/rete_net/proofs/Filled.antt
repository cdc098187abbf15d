-- What a load makes of one node.
use Rattle.rete_net.proofs.Common.{◌≡◌, ◌∙◌, ◌&&◌, ◌||◌, not, sym, ap, refl, subst, ℕ, ◌<◌, ◌==◌, cond, map, Bool, true, false, List, [], ◌∷◌, Some, None}
use Rattle.rete_net.proofs.Common.{AllByRecursion, filter, list_any, eq_by_cmp, nat_cmp, Less, Fact, Delta, Extra, Named, Row, has, row_cmp, same_equiv}
use Rattle.rete_net.proofs.Common.{IsDifference, Condition, Pattern, Moment, Program, fits, is_present, HaveDistinctTags, IsAt, pattern_of, Snapshot, of_filter}
use Rattle.rete_net.proofs.Common.{Look, IsNameDifference, row_naming, has_name, no_names, no_rows, extra_for, empty_snapshot, HasAllOf, NameHeld}
use Rattle.rete_net.proofs.Common.{candidates_of, StandsForArrivals, Arrival, rows_inside, PatternGate, arrival_of, arrivals, GateStands, has_good_window}
use Rattle.rete_net.proofs.Common.{window_kind_of, IsOrderly, rising, Node, IsLoad, Laden, node_rows, condition_of, NodeStands, held_known, node_moves}
use Rattle.rete_net.proofs.{Common.{laden_line, found_in, NetNode, is_fact_of_type, IsNodeLoad, NodeLoad, IsFresh}, Starting.{none_made}}
use Rattle.{std.specs.List.Sorted.{IsStrictlySortedBy}, condition_rows.specs.Sets.{held}, pattern_gate.proofs.Inside.{rows_named}}
use Rattle.beta_node.proofs.Lines.{node_laden, node_shown}

-- ---- facts of one type

later_filtered : (test : Fact → Bool) (n : ℕ) (gs : List Fact) → AllByRecursion (λ m. nat_cmp n m ≡ Less) (map (λ (g : Fact). g.tag.0) gs) → AllByRecursion (λ m. nat_cmp n m ≡ Less) (map (λ (g : Fact). g.tag.0) (filter test gs))
later_filtered test n [] all = tt
later_filtered test n (g ∷ gs) all = here (test g) (later_filtered test n gs all.1)
  where
    here : (b : Bool) → AllByRecursion (λ m. nat_cmp n m ≡ Less) (map (λ (h : Fact). h.tag.0) (filter test gs)) → AllByRecursion (λ m. nat_cmp n m ≡ Less) (map (λ (h : Fact). h.tag.0) (cond b (g ∷ filter test gs) (filter test gs)))
    here true rest = (all.0, rest)
    here false rest = rest

rise_filtered : (test : Fact → Bool) (facts : List Fact) → IsStrictlySortedBy nat_cmp (map (λ (f : Fact). f.tag.0) facts) → IsStrictlySortedBy nat_cmp (map (λ (f : Fact). f.tag.0) (filter test facts))
unfolding IsStrictlySortedBy
rise_filtered test [] rise = tt
rise_filtered test (f ∷ facts) rise = by (test f) (rise_filtered test facts rise.1)
  where
    by : (b : Bool) → IsStrictlySortedBy nat_cmp (map (λ (g : Fact). g.tag.0) (filter test facts)) → IsStrictlySortedBy nat_cmp (map (λ (g : Fact). g.tag.0) (cond b (f ∷ filter test facts) (filter test facts)))
    by true rest = (later_filtered test f.tag.0 facts rise.0, rest)
    by false rest = rest

-- what passes the one test alone passes both
filter_twice : (one two : Fact → Bool) (facts : List Fact) → ((f : Fact) → one f ≡ false → two f ≡ false) → filter two (filter one facts) ≡ filter two facts
filter_twice one two [] h = refl
filter_twice one two (f ∷ facts) h = by (one f) refl (filter_twice one two facts h)
  where
    by : (b : Bool) → one f ≡ b → filter two (filter one facts) ≡ filter two facts → filter two (cond b (f ∷ filter one facts) (filter one facts)) ≡ cond (two f) (f ∷ filter two facts) (filter two facts)
    by true e rest = ap (λ others. cond (two f) (f ∷ others) others) rest
    by false e rest = rest ∙ sym (ap (λ b. cond b (f ∷ filter two facts) (filter two facts)) (h f e))

of_none : (a b c : Bool) → b ≡ false → (a && (b && c)) ≡ false
of_none true b c e = ap (λ x. x && c) e
of_none false b c e = refl

module _ (p : Program) (q : Pattern) (t : Snapshot) (orderly : IsOrderly p t) where
  abbrev pub typed : Snapshot
  typed = record t { facts = filter (is_fact_of_type q.ty.0) t.facts }

  pub typed_orderly : IsOrderly p typed
  typed_orderly = record {
    in_order = rise_filtered (is_fact_of_type q.ty.0) t.facts orderly.in_order;
    present = λ f i. orderly.present f (of_filter (is_fact_of_type q.ty.0) f t.facts i);
    low = λ f i. orderly.low f (of_filter (is_fact_of_type q.ty.0) f t.facts i);
    high = λ f i. orderly.high f (of_filter (is_fact_of_type q.ty.0) f t.facts i);
  }

  same_arrivals : arrivals p q typed ≡ arrivals p q t
  same_arrivals = ap (map arrival_of) (filter_twice (is_fact_of_type q.ty.0) (fits p q t.clock) t.facts (λ f e. of_none (is_present p t.clock f) (f.ty.0 == q.ty.0) _ e))

  pub typed_gate : (gate : PatternGate) → GateStands p q gate typed → GateStands p q gate t
  typed_gate gate stands = record { window = stands.window; stands = subst (λ (list : List Arrival). StandsForArrivals gate.gate list t.clock) same_arrivals stands.stands }

  pub typed_candidates : (who : Named) → candidates_of p q typed who ≡ candidates_of p q t who
  typed_candidates who =
      sym (rows_named p q typed typed_orderly.in_order who)
      ∙ ap (λ (list : List Arrival). has (rows_inside (window_kind_of q.window) t.clock list) (row_naming who)) same_arrivals
      ∙ rows_named p q t orderly.in_order who

-- ---- a node that keeps nothing

none_held : (look : Look) → HasAllOf look empty_snapshot no_names
unfolding held
none_held look tag f e clean = absurd (let torn : None ≡ Some f = e in cc)

nothing_named : NameHeld empty_snapshot no_rows
nothing_named row e = absurd (let torn : false ≡ true = e in cc)

nothing_there : (rows : List Row) → ((row : Row) → has rows row ≡ false) → rows ≡ []
nothing_there [] h = refl
nothing_there (row ∷ rows) h = absurd (let torn : true ≡ false = sym (first (eq_by_cmp row_cmp row row) (has rows row) (same_equiv.refl row)) ∙ h row in cc)
  where
    first : (a b : Bool) → a ≡ true → (a || b) ≡ true
    first true b e = refl
    first false b e = absurd (let torn : false ≡ true = e in cc)

and_not : (a b c : Bool) → a ≡ c → b ≡ false → (a && not b) ≡ c
and_not true b c e f = ap not f ∙ e
and_not false b c e f = e

module _ (p : Program) (look : Look) (kept : List Fact) (extras : List Extra) (moment : Moment) (old : NetNode) (gate : PatternGate) (node : Node) (rows : List Row) (delta : Delta) (right : List Named) (theirs : List Fact)
    (theirs_are : theirs ≡ filter (is_fact_of_type (pattern_of (condition_of old.node)).ty.0) kept)
    (stands : (s : Snapshot) → has_good_window p (pattern_of (condition_of old.node)) ≡ true → IsOrderly p s → s.facts ≡ theirs → s.clock ≡ moment.clock → GateStands p (pattern_of (condition_of old.node)) gate s)
    (have : (s : Snapshot) → has_good_window p (pattern_of (condition_of old.node)) ≡ true → IsOrderly p s → s.facts ≡ theirs → s.clock ≡ moment.clock → (who : Named) → has_name right who ≡ candidates_of p (pattern_of (condition_of old.node)) s who)
    (same : condition_of node ≡ condition_of old.node)
    (laden : (world : Look) (s : Snapshot) (before : Row → Bool) → NodeStands p old.node look empty_snapshot no_rows no_names → IsAt s moment → IsLoad p (condition_of old.node) look world s before rows right extras
    → Laden p node look world s before (extra_for extras))
    (differs : NodeStands p old.node look empty_snapshot no_rows no_names → IsDifference (node_rows p look old.node) (node_rows p look node) delta) where
  abbrev q : Pattern
  q = pattern_of (condition_of old.node)

  nothing : IsFresh p old → NodeStands p old.node look empty_snapshot no_rows no_names
  nothing fresh = node_moves p (held empty_snapshot) look empty_snapshot no_rows no_names (held_known empty_snapshot no_names) (none_held look) nothing_named old.node (fresh no_names).node

  no_rows_yet : IsFresh p old → (row : Row) → node_rows p look old.node row ≡ false
  no_rows_yet fresh row =
      node_shown p look empty_snapshot no_rows no_names tt (none_held look) nothing_named old.node (nothing fresh) row
      ∙ ap (λ (b : Bool). b && not (list_any no_names row.facts)) (sym (none_made p empty_snapshot (condition_of old.node) row))

  module _ (t : Snapshot) (before : Row → Bool) (given : IsNodeLoad p look kept moment t before old rows extras) where
    facts_are : (typed p q t given.orderly).facts ≡ theirs
    facts_are = ap (filter (is_fact_of_type q.ty.0)) given.facts ∙ sym theirs_are

    tags : HaveDistinctTags t.facts
    tags = rising t.facts given.orderly.in_order

    candidates : (who : Named) → has_name right who ≡ candidates_of p q t who
    candidates who =
        have (typed p q t given.orderly) given.window (typed_orderly p q t given.orderly) facts_are given.at.clock who ∙ typed_candidates p q t given.orderly who

    load : (world : Look) → HasAllOf world t no_names → IsLoad p (condition_of old.node) look world t before rows right extras
    load world known = record {
      tags = tags;
      floors = given.floors;
      at_hand = given.at_hand;
      known = known;
      named = given.named;
      rows = given.same_rows;
      candidates = candidates;
      in_order = given.in_order;
    }

    is_laden : (world : Look) → HasAllOf world t no_names → Laden p node look world t before (extra_for extras)
    is_laden world known = laden world t before (nothing given.fresh) given.at (load world known)

    some : (row : Row) (e : Extra) → extra_for extras row ≡ Some e → 0 < e.count
    some row e is = given.some e (found_in (λ (x : Extra). eq_by_cmp row_cmp x.row row) extras e is).0

    answered : (row : Row) → has delta.come row ≡ laden_line p t (extra_for extras) (condition_of old.node) before row
    answered row =
        (differs (nothing given.fresh)).leads.comes row
        ∙ and_not (node_rows p look node row) (node_rows p look old.node row) (laden_line p t (extra_for extras) (condition_of old.node) before row)
        (node_laden p look t before (extra_for extras) given.at_hand given.named tags some node (is_laden (held t) (held_known t no_names)) row ∙ ap (λ (c : Condition). laden_line p t (extra_for extras) c before row) same)
        (no_rows_yet given.fresh row)

  pub loads_with : NodeLoad p look kept extras moment old (record { parent = old.parent; gate = gate; node = node }) rows delta
  loads_with = record {
    parent = refl;
    condition = same;
    gate = λ t before given. typed_gate p q t given.orderly gate (stands (typed p q t given.orderly) given.window (typed_orderly p q t given.orderly) (facts_are t before given) given.at.clock);
    laden = λ world t before given known. is_laden t before given world known;
    answer = answered;
    none_gone = λ fresh. nothing_there delta.gone (λ row. (differs (nothing fresh)).leads.goes row ∙ ap (λ b. b && not (node_rows p look node row)) (no_rows_yet fresh row));
    in_order = λ fresh. (differs (nothing fresh)).come_in_order;
  }

-- the candidates are those that come by a gate that is loaded
pub loads_node : (p : Program) (look : Look) (kept : List Fact) (extras : List Extra) (moment : Moment) (old : NetNode) (gate : PatternGate) (node : Node) (rows : List Row) (delta come : Delta) (right : List Named) (theirs : List Fact)
    → theirs ≡ filter (is_fact_of_type (pattern_of (condition_of old.node)).ty.0) kept
    → ((s : Snapshot) → has_good_window p (pattern_of (condition_of old.node)) ≡ true → IsOrderly p s → s.facts ≡ theirs → s.clock ≡ moment.clock → GateStands p (pattern_of (condition_of old.node)) gate s)
    → ((s : Snapshot) → has_good_window p (pattern_of (condition_of old.node)) ≡ true → IsOrderly p s → s.facts ≡ theirs → s.clock ≡ moment.clock → IsNameDifference no_names (candidates_of p (pattern_of (condition_of old.node)) s) come)
    → ((who : Named) → has_name right who ≡ has come.come (row_naming who)) → condition_of node ≡ condition_of old.node
    → ((world : Look) (s : Snapshot) (before : Row → Bool) → NodeStands p old.node look empty_snapshot no_rows no_names → IsAt s moment → IsLoad p (condition_of old.node) look world s before rows right extras
    → Laden p node look world s before (extra_for extras))
    → (NodeStands p old.node look empty_snapshot no_rows no_names → IsDifference (node_rows p look old.node) (node_rows p look node) delta)
    → NodeLoad p look kept extras moment old (record { parent = old.parent; gate = gate; node = node }) rows delta
loads_node p look kept extras moment old gate node rows delta come right theirs theirs_are stands comes names =
    loads_with p look kept extras moment old gate node rows delta right theirs theirs_are stands
    (λ s good orderly facts at who. names who ∙ (comes s good orderly facts at).comes who ∙ and_not (candidates_of p (pattern_of (condition_of old.node)) s who) false (candidates_of p (pattern_of (condition_of old.node)) s who) refl refl)
