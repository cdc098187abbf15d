-- What a node does as a member of a fan, out of both halves of a step.
use Rattle.rete_net.proofs.Common.{◌≡◌, ◌∙◌, sym, ap, refl, subst, ℕ, ℤ, ◌&&◌, ◌||◌, not, Bool, true, false, List, [], ◌∷◌, map, Option, Some, None, filter}
use Rattle.rete_net.proofs.Common.{eq_by_cmp, is_some, In, RuleId, rows_of_extras, AreExtrasBeside, same_from_decides, Fact, Extra, Delta, Named, Row, name_cmp}
use Rattle.rete_net.proofs.Common.{has, row_cmp, InOrder, IsDifference, changes_nothing, Condition, Plain, Negated, Existing, Folded, Pattern, Moment, Program}
use Rattle.rete_net.proofs.Common.{IsAt, pattern_of, Snapshot, Look, Candidates, beside, row_naming, IsNameDifference, IsStepped, has_name, has_left, has_right}
use Rattle.rete_net.proofs.Common.{made, no_names, row_decides, name_decides, BetaJoin, AreNamesTurned, candidates_of, GateStands, has_good_window}
use Rattle.rete_net.proofs.Common.{nothing_differs, IsOrderly, MovesSnapshot, PatternGate, Node, condition_of, node_moves, NetNode, NodeForgets, Fan, Fans}
use Rattle.rete_net.proofs.Common.{Seat, half_at, half_of, member_at, member_of, seat_at, showing, with_member, AreNamesTurnedAt, IsHalf, IsHalfTurned, IsLeft}
use Rattle.rete_net.proofs.Common.{IsOfSeat, Member, type_of, is_fact_of_type, NodeLoad, no_change, NodeStep, joined_pattern, tallied_pattern, blocking_pattern}
use Rattle.std.{proofs.Math.Bool.{or-false}, specs.{Option.{IfSome}, List.Sorted.{IsStrictlySortedBy}}}
use Rattle.join_memory.{specs.{declared.left_rows.LeftRows.{LeftRows}, Memories.{KeepsMemories}}, proofs.Turning.{keeps_then}}
use Rattle.beta_node.specs.declared.node.Node.TheVariants as node
use Rattle.{beta_node.proofs.{Forgetting.{join_forgot}, Loading.{join_loads}, Telling.{join_turns, join_tells}}, rete_net.proofs.Filled.{loads_node}}
use Rattle.rete_net.proofs.{Forgets.{node_forgets}, Skipping.{no_difference}, Turning.{node_step}}

-- ---- a node of a pattern that binds a fact

abbrev join_of : Pattern → Member → Node
join_of q m = node.Join (record { memories = record { pattern = q; left = m.left.rows; right = m.own.names } })

pub shows_join : (m : Member) (x : Node) (q : Pattern) → condition_of x ≡ Plain q → with_member m x ≡ join_of q m
shows_join m (node.Join join) q e = let is : joined_pattern join ≡ q = cc in ap (λ (r : Pattern). join_of r m) is
shows_join m (node.Not waiting) q e = absurd (let no : Negated (blocking_pattern waiting) ≡ Plain q = e in cc)
shows_join m (node.Exists tally) q e = absurd (let no : Existing (tallied_pattern tally) ≡ Plain q = e in cc)
shows_join m (node.Fold fold) q e = absurd (let no : Folded fold.accumulate ≡ Plain q = e in cc)

-- the memories of a member, in a node of its own
abbrev pub own_join : LeftRows → Candidates → BetaJoin
own_join left c = record { memories = beside left c }

-- a node with what a member keeps
abbrev pub as_node : NetNode → LeftRows → Candidates → NetNode
as_node n left c = record { parent = n.parent; gate = n.gate; node = node.Join (own_join left c) }

pub shown_is : (n : NetNode) (left : LeftRows) (c : Candidates) → condition_of n.node ≡ Plain c.pattern → showing (Some (record { left = left; own = c })) n ≡ as_node n left c
shown_is n left c e = ap (λ (x : Node). record { parent = n.parent; gate = n.gate; node = x }) (shows_join (record { left = left; own = c }) n.node c.pattern e)

-- ---- both halves

module _ (look : Look) (gone come : List Row) (was now : LeftRows) (c d : Candidates) (half delta : Delta) (halved : IsHalfTurned look gone come was now c half) where
  pub steps : (right : Delta) (names_gone names_come : List Named) → ((who : Named) → has_name names_gone who ≡ has right.gone (row_naming who)) → ((who : Named) → has_name names_come who ≡ has right.come (row_naming who))
      → AreNamesTurned now look names_gone names_come half c d delta
      → IsStepped (beside was c) (beside now d) look (record { gone = gone; come = come }) right × IsDifference (made (beside was c) look) (made (beside now d) look) delta
  steps right names_gone names_come gone_are come_are names =
      let first = halved.kept in (
        keeps_then (beside was c) (beside now c) (beside now d) look _ _ _ _ _ _ first names.kept first.rows
            (λ who. ap (λ b. (has_right (beside was c) look who && not b) || has_name names_come who) (gone_are who)
            ∙ ap (λ b. (has_right (beside was c) look who && not (has right.gone (row_naming who))) || b) (come_are who)),
        names.difference (made (beside was c) look) halved.difference,
      )

-- without candidates that go or come the first half is all
unmoved : (b : Bool) → b ≡ ((b && not false) || false)
unmoved true = refl
unmoved false = refl

module _ (look : Look) (gone come : List Row) (was now : LeftRows) (c : Candidates) (halved : IsHalfTurned look gone come was now c no_change) where
  pub steps_alone : IsStepped (beside was c) (beside now c) look (record { gone = gone; come = come }) no_change
  steps_alone = record {
    pattern = halved.kept.pattern;
    rows = halved.kept.rows;
    names = λ who. halved.kept.names who ∙ unmoved (has_right (beside was c) look who);
    agrees = halved.kept.agrees;
  }

-- nothing has changed where no rows leave or come
pub half_begins : (look : Look) (left : LeftRows) (c : Candidates) → IsHalfTurned look [] [] left left c no_change
half_begins look left c = record {
  kept = record { pattern = refl; rows = λ row. unmoved (has_left (beside left c) look row); names = λ who. refl; agrees = λ agrees. agrees };
  difference = no_difference (made (beside left c) look);
}

pub half_none : (look : Look) (o : Option Member) → IsHalf look [] [] o o no_change
half_none look None = tt
half_none look (Some m) = (refl, half_begins look m.left m.own)

-- ---- the step of a node

module _ (p : Program) (look : Look) (gone : List Fact) (come : Option Fact) (moment : Moment) (n new : NetNode) (was now : LeftRows) (c d : Candidates) (left right delta : Delta)
    (of : condition_of n.node ≡ Plain c.pattern) (parent : new.parent ≡ n.parent) (condition : condition_of new.node ≡ condition_of n.node)
    (stepped : IsStepped (beside was c) (beside now d) look left right) (differs : IsDifference (made (beside was c) look) (made (beside now d) look) delta) where
  pub member_step : (q : Pattern) (at : ℤ) → q ≡ c.pattern → at ≡ moment.clock
      → ((s next : Snapshot) → has_good_window p q ≡ true → GateStands p q n.gate s → MovesSnapshot p s next gone come → next.clock ≡ at → GateStands p q new.gate next)
      → ((s next : Snapshot) → has_good_window p q ≡ true → GateStands p q n.gate s → MovesSnapshot p s next gone come → next.clock ≡ at → IsNameDifference (candidates_of p q s) (candidates_of p q next) right)
      → NodeStep p look gone come moment (showing (Some (record { left = was; own = c })) n) (showing (Some (record { left = now; own = d })) new) left delta
  member_step q at q_is at_is stands names =
      subst (λ (x : NetNode). NodeStep p look gone come moment x (showing (Some (record { left = now; own = d })) new) left delta) (sym (shown_is n was c of))
      (subst (λ (y : NetNode). NodeStep p look gone come moment (as_node n was c) y left delta) (sym (shown_is new now d (condition ∙ of ∙ ap Plain (sym stepped.pattern))))
      (node_step p look gone come moment (as_node n was c) (as_node new now d) left right delta
      (λ p node look other s rows forgotten known known_other named. node_moves p look other s rows forgotten known known_other named node) parent (ap Plain stepped.pattern) q at q_is at_is stands names
      (join_turns p (λ next. IsAt next moment) look left right (own_join was c) (own_join now d) stepped)
      (join_tells p (λ next. IsAt next moment) look left right (own_join was c) (own_join now d) stepped delta differs)))

-- ---- forgetting

module _ (p : Program) (look : Look) (n new : NetNode) (was now : LeftRows) (c d : Candidates) (rows : List Row) (names : List Named) (half delta : Delta)
    (of : condition_of n.node ≡ Plain c.pattern) (same : new ≡ n) (halved : IsHalfTurned look rows [] was now c half) (turned : AreNamesTurned now look names [] half c d delta) where
  kept : KeepsMemories (beside was c) (beside now d) look (λ row. has_left (beside was c) look row && not (has rows row)) (λ who. has_right (beside was c) look who && not (has_name names who))
  kept =
      keeps_then (beside was c) (beside now c) (beside now d) look _ _ _ _ _ _ halved.kept turned.kept
      (λ row. halved.kept.rows row ∙ or-false (has_left (beside was c) look row && not (has rows row))) (λ who. or-false (has_right (beside was c) look who && not (has_name names who)))

  pub member_forgets : NodeForgets p look (has_name names) (showing (Some (record { left = was; own = c })) n) (showing (Some (record { left = now; own = d })) new) rows delta.gone
  member_forgets =
      let difference = turned.difference (made (beside was c) look) halved.difference in
      let forgot = join_forgot p look (has_name names) rows delta.gone (own_join was c) (own_join now d) kept difference.leads.goes difference.gone_in_order (node.Join (own_join was c)) refl in
      subst (λ (x : NetNode). NodeForgets p look (has_name names) x (showing (Some (record { left = now; own = d })) new) rows delta.gone) (sym (shown_is n was c of))
      (subst (λ (y : NetNode). NodeForgets p look (has_name names) (as_node n was c) y rows delta.gone)
      (sym (shown_is new now d (ap (λ (x : NetNode). condition_of x.node) same ∙ of ∙ ap Plain (sym kept.pattern))))
      (node_forgets p look (has_name names) (as_node n was c) (as_node new now d) rows delta.gone
      (λ p node look other s rows forgotten known known_other named. node_moves p look other s rows forgotten known known_other named node)
      (ap (λ (x : NetNode). x.parent) same) (ap (λ (x : NetNode). x.gate) same) (ap Plain kept.pattern)
      forgot.stands forgot.drops forgot.alone forgot.ordered))

-- ---- loading

-- rows that name candidates alone are the same where the candidates are
named_same : (a b : Named) → eq_by_cmp row_cmp (row_naming a) (row_naming b) ≡ eq_by_cmp name_cmp a b
named_same a b = same_from_decides _ _ (row_decides (row_naming a) (row_naming b)) (λ e. ap (λ (n : Named). row_naming n) ((name_decides a b).0 e), λ e. (name_decides a b).1 (first_same e))
  where
    first : List Named → Named
    first [] = b
    first (n ∷ names) = n

    first_same : row_naming a ≡ row_naming b → a ≡ b
    first_same e = ap (λ (row : Row). first row.facts) e

has_naming : (names : List Named) (who : Named) → has (map row_naming names) (row_naming who) ≡ has_name names who
has_naming [] who = refl
has_naming (n ∷ names) who = ap (λ b. b || has (map row_naming names) (row_naming who)) (named_same who n) ∙ ap (λ b. eq_by_cmp name_cmp who n || b) (has_naming names who)

module _ (p : Program) (look : Look) (kept : List Fact) (extras : List Extra) (moment : Moment) (n : NetNode) (gate : PatternGate) (was now : LeftRows) (c d : Candidates) (rows : List Row) (right : List Named) (half delta come : Delta) (theirs : List Fact)
    (of : condition_of n.node ≡ Plain c.pattern) (halved : IsHalfTurned look [] rows was now c half) (turned : AreNamesTurned now look [] right half c d delta)
    (theirs_are : theirs ≡ filter (is_fact_of_type (type_of n)) kept)
    (stands : (s : Snapshot) → has_good_window p (pattern_of (condition_of n.node)) ≡ true → IsOrderly p s → s.facts ≡ theirs → s.clock ≡ moment.clock → GateStands p (pattern_of (condition_of n.node)) gate s)
    (comes : (s : Snapshot) → has_good_window p (pattern_of (condition_of n.node)) ≡ true → IsOrderly p s → s.facts ≡ theirs → s.clock ≡ moment.clock → IsNameDifference no_names (candidates_of p (pattern_of (condition_of n.node)) s) come)
    (names : (who : Named) → has_name right who ≡ has come.come (row_naming who)) where
  abbrev naming : Delta
  naming = record { gone = []; come = map row_naming right }

  abbrev whole : IsStepped (beside was c) (beside now d) look (record { gone = []; come = rows }) naming × IsDifference (made (beside was c) look) (made (beside now d) look) delta
  whole = steps look [] rows was now c d half delta halved naming [] right (λ who. refl) (λ who. sym (has_naming right who)) turned

  pub member_loads : NodeLoad p look kept extras moment (showing (Some (record { left = was; own = c })) n) (showing (Some (record { left = now; own = d })) (record { parent = n.parent; gate = gate; node = n.node })) rows delta
  member_loads =
      let q_is : pattern_of (condition_of n.node) ≡ c.pattern = ap pattern_of of in
      subst (λ (x : NetNode). NodeLoad p look kept extras moment x (showing (Some (record { left = now; own = d })) (record { parent = n.parent; gate = gate; node = n.node })) rows delta) (sym (shown_is n was c of))
      (subst (λ (y : NetNode). NodeLoad p look kept extras moment (as_node n was c) y rows delta) (sym (shown_is (record { parent = n.parent; gate = gate; node = n.node }) now d (of ∙ ap Plain (sym whole.0.pattern))))
      (loads_node p look kept extras moment (as_node n was c) gate (node.Join (own_join now d)) rows delta come right theirs (theirs_are ∙ ap (λ (q : Pattern). filter (is_fact_of_type q.ty.0) kept) q_is)
      (subst (λ (q : Pattern). (s : Snapshot) → has_good_window p q ≡ true → IsOrderly p s → s.facts ≡ theirs → s.clock ≡ moment.clock → GateStands p q gate s) q_is stands)
      (subst (λ (q : Pattern). (s : Snapshot) → has_good_window p q ≡ true → IsOrderly p s → s.facts ≡ theirs → s.clock ≡ moment.clock → IsNameDifference no_names (candidates_of p q s) come) q_is comes)
      names (ap Plain whole.0.pattern)
      (join_loads p (λ s. IsAt s moment) look rows right extras (own_join was c) (own_join now d) (record { gone = []; come = rows }) naming refl refl whole.0)
      (λ standing. whole.1)))

-- ---- a member, where it is one

-- what a member was, out of its half
pub half_of_member : (look : Look) (gone come : List Row) (was : Option Member) (now : Member) (half : Delta) → IsHalf look gone come was (Some now) half
    → (left : LeftRows) × (was ≡ Some (record { left = left; own = now.own })) × IsHalfTurned look gone come left now.left now.own half
half_of_member look gone come None now half is = absurd is
half_of_member look gone come (Some was) now half is = (
  was.left,
  ap (λ (c : Candidates). Some (record { left = was.left; own = c })) (sym is.0),
  subst (λ (c : Candidates). IsHalfTurned look gone come was.left now.left c half) (sym is.0) is.1,
)

-- and one that is none was none
pub half_of_none : (look : Look) (gone come : List Row) (was : Option Member) (half : Delta) → IsHalf look gone come was None half → was ≡ None
half_of_none look gone come None half is = refl
half_of_none look gone come (Some was) half is = absurd is

-- a difference without a row is nothing
pub nothing_is : (d : Delta) → changes_nothing d ≡ true → d ≡ no_change
nothing_is d h = by d.gone d.come h
  where
    by : (gone come : List Row) → changes_nothing (record { gone = gone; come = come }) ≡ true → record { gone = gone; come = come } ≡ no_change
    by [] [] e = refl
    by [] (r ∷ come) e = absurd (let no : false ≡ true = e in cc)
    by (r ∷ gone) come e = absurd (let no : false ≡ true = e in cc)

module _ (look : Look) (goes comes : List Row) (n : NetNode) (was : Option Member) (half : Delta) (fans : List Fan) (seat : Seat) (of : IsOfSeat n fans (Some seat)) (halved : IsHalf look goes comes was (member_of fans (Some seat)) half) where
  abbrev m : Member
  m = of.0

  pub whole_half : (left : LeftRows) × (was ≡ Some (record { left = left; own = m.own })) × IsHalfTurned look goes comes left m.left m.own half
  whole_half = half_of_member look goes comes was m half (subst (λ (o : Option Member). IsHalf look goes comes was o half) of.1 halved)

module _ (p : Program) (look : Look) (gone : List Fact) (come : Option Fact) (moment : Moment) (n : NetNode) (was : Option Member) (left half : Delta) where
  -- where nothing changes for a member, and its gate stays as it is, the half is all
  pub still_steps : changes_nothing half ≡ true → (fans : List Fan) (seat : Seat) → IsOfSeat n fans (Some seat) → IsHalf look left.gone left.come was (member_of fans (Some seat)) half
      → (q : Pattern) (at : ℤ) → q ≡ pattern_of (condition_of n.node) → at ≡ moment.clock
      → ((p : Program) (s next : Snapshot) → GateStands p q n.gate s → MovesSnapshot p s next gone come → next.clock ≡ at → GateStands p q n.gate next)
      → ((p : Program) (s next : Snapshot) → GateStands p q n.gate s → MovesSnapshot p s next gone come → next.clock ≡ at → (who : Named) → candidates_of p q next who ≡ candidates_of p q s who)
      → NodeStep p look gone come moment (showing was n) (showing (member_of fans (Some seat)) n) left half
  still_steps none fans seat of halved q at q_is at_is stands same =
      let m = of.0 in
      let whole = whole_half look left.gone left.come n was half fans seat of halved in
      let nothing = nothing_is half none in
      let stepped = steps_alone look left.gone left.come whole.0 m.left m.own (subst (IsHalfTurned look left.gone left.come whole.0 m.left m.own) nothing whole.2) in
      subst (λ (o : Option Member). NodeStep p look gone come moment (showing o n) (showing (member_of fans (Some seat)) n) left half) (sym whole.1)
      (subst (λ (o : Option Member). NodeStep p look gone come moment (showing (Some (record { left = whole.0; own = m.own })) n) (showing o n) left half) (sym of.1)
      (member_step p look gone come moment n n whole.0 m.left m.own m.own left no_change half of.2 refl refl stepped whole.2.difference q at (q_is ∙ ap pattern_of of.2) at_is
      (λ s next good standing moves clock. stands p s next standing moves clock)
      (λ s next good standing moves clock. nothing_differs (candidates_of p q s) (candidates_of p q next) (same p s next standing moves clock) no_change no_difference)))

  -- candidates leave and come too
  pub names_step : (new : NetNode) (right delta : Delta) (fans fans_now : List Fan) (seat : Seat) → IsOfSeat n fans (Some seat) → IsHalf look left.gone left.come was (member_of fans (Some seat)) half
      → new.parent ≡ n.parent → condition_of new.node ≡ condition_of n.node → (names_gone names_come : List Named)
      → ((who : Named) → has_name names_gone who ≡ has right.gone (row_naming who)) → ((who : Named) → has_name names_come who ≡ has right.come (row_naming who))
      → AreNamesTurnedAt look names_gone names_come half delta fans fans_now seat
      → (q : Pattern) (at : ℤ) → q ≡ pattern_of (condition_of n.node) → at ≡ moment.clock
      → ((s next : Snapshot) → has_good_window p q ≡ true → GateStands p q n.gate s → MovesSnapshot p s next gone come → next.clock ≡ at → GateStands p q new.gate next)
      → ((s next : Snapshot) → has_good_window p q ≡ true → GateStands p q n.gate s → MovesSnapshot p s next gone come → next.clock ≡ at → IsNameDifference (candidates_of p q s) (candidates_of p q next) right)
      → NodeStep p look gone come moment (showing was n) (showing (member_of fans_now (Some seat)) new) left delta
  names_step new right delta fans fans_now seat of halved parent condition names_gone names_come gone_are come_are turned q at q_is at_is stands differs =
      let m = of.0 in
      let whole = whole_half look left.gone left.come n was half fans seat of halved in
      let now = turned m of.1 in
      let both = steps look left.gone left.come whole.0 m.left m.own now.0 half delta whole.2 right names_gone names_come gone_are come_are now.2 in
      subst (λ (o : Option Member). NodeStep p look gone come moment (showing o n) (showing (member_of fans_now (Some seat)) new) left delta) (sym whole.1)
      (subst (λ (o : Option Member). NodeStep p look gone come moment (showing (Some (record { left = whole.0; own = m.own })) n) (showing o new) left delta) (sym now.1)
      (member_step p look gone come moment n new whole.0 m.left m.own now.0 left right delta of.2 parent condition both.0 both.1 q at (q_is ∙ ap pattern_of of.2) at_is stands differs))

-- a member forgets
pub names_forget : (p : Program) (look : Look) (n : NetNode) (was : Option Member) (rows : List Row) (names : List Named) (half delta : Delta) (fans fans_now : List Fan) (seat : Seat) → IsOfSeat n fans (Some seat)
    → IsHalf look rows [] was (member_of fans (Some seat)) half → AreNamesTurnedAt look names [] half delta fans fans_now seat
    → NodeForgets p look (has_name names) (showing was n) (showing (member_of fans_now (Some seat)) n) rows delta.gone
names_forget p look n was rows names half delta fans fans_now seat of halved turned =
    let m = of.0 in
    let whole = whole_half look rows [] n was half fans seat of halved in
    let now = turned m of.1 in
    subst (λ (o : Option Member). NodeForgets p look (has_name names) (showing o n) (showing (member_of fans_now (Some seat)) n) rows delta.gone) (sym whole.1)
    (subst (λ (o : Option Member). NodeForgets p look (has_name names) (showing (Some (record { left = whole.0; own = m.own })) n) (showing o n) rows delta.gone) (sym now.1)
    (member_forgets p look n n whole.0 m.left m.own now.0 rows names half delta of.2 refl whole.2 now.2))

-- and is loaded
pub names_load : (p : Program) (look : Look) (kept : List Fact) (extras : List Extra) (moment : Moment) (n : NetNode) (gate : PatternGate) (was : Option Member) (rows : List Row) (right : List Named) (half delta come : Delta) (theirs : List Fact)
    (fans fans_now : List Fan) (seat : Seat) → IsOfSeat n fans (Some seat) → IsHalf look [] rows was (member_of fans (Some seat)) half → AreNamesTurnedAt look [] right half delta fans fans_now seat
    → theirs ≡ filter (is_fact_of_type (type_of n)) kept
    → ((s : Snapshot) → has_good_window p (pattern_of (condition_of n.node)) ≡ true → IsOrderly p s → s.facts ≡ theirs → s.clock ≡ moment.clock → GateStands p (pattern_of (condition_of n.node)) gate s)
    → ((s : Snapshot) → has_good_window p (pattern_of (condition_of n.node)) ≡ true → IsOrderly p s → s.facts ≡ theirs → s.clock ≡ moment.clock → IsNameDifference no_names (candidates_of p (pattern_of (condition_of n.node)) s) come)
    → ((who : Named) → has_name right who ≡ has come.come (row_naming who))
    → NodeLoad p look kept extras moment (showing was n) (showing (member_of fans_now (Some seat)) (record { parent = n.parent; gate = gate; node = n.node })) rows delta
names_load p look kept extras moment n gate was rows right half delta come theirs fans fans_now seat of halved turned theirs_are stands comes names =
    let m = of.0 in
    let whole = whole_half look [] rows n was half fans seat of halved in
    let now = turned m of.1 in
    subst (λ (o : Option Member). NodeLoad p look kept extras moment (showing o n) (showing (member_of fans_now (Some seat)) (record { parent = n.parent; gate = gate; node = n.node })) rows delta) (sym whole.1)
    (subst (λ (o : Option Member). NodeLoad p look kept extras moment (showing (Some (record { left = whole.0; own = m.own })) n) (showing o (record { parent = n.parent; gate = gate; node = n.node })) rows delta) (sym now.1)
    (member_loads p look kept extras moment n gate whole.0 m.left m.own now.0 rows right half delta come theirs of.2 whole.2 now.2 theirs_are stands comes names))

-- ---- a node in its place

-- where the node in a place has this seat, or none
module _ (old mid new : Fans) (place : ℕ) (list : mid.list ≡ old.list) (seats_mid : mid.seats ≡ old.seats) (seats : new.seats ≡ mid.seats) where
  pub with_seat : (Claim : Option Member → Option Member → Type 0) (n : NetNode) (look : Look) (goes comes : List Row) (half : Delta) (seat : Seat) → seat_at old.seats.items place ≡ Some seat → half ≡ half_at old seat
      → ((was : Option Member) → IsOfSeat n mid.list.items (Some seat) → IsHalf look goes comes was (member_of mid.list.items (Some seat)) half → Claim was (member_of new.list.items (Some seat)))
      → (was : Option Member) → IsOfSeat n old.list.items (seat_at old.seats.items place) → IsHalf look goes comes was (member_at old place) (half_of old (seat_at old.seats.items place)) → Claim was (member_at new place)
  with_seat Claim n look goes comes half seat at half_is step was of halved =
      let at_now : seat_at new.seats.items place ≡ Some seat = ap (λ l. seat_at l.items place) (seats ∙ seats_mid) ∙ at in
      let of_seat : IsOfSeat n old.list.items (Some seat) = subst (IsOfSeat n old.list.items) at of in
      let of_mid : IsOfSeat n mid.list.items (Some seat) = subst (λ l. IsOfSeat n l.items (Some seat)) (sym list) of_seat in
      let halved_seat : IsHalf look goes comes was (member_of old.list.items (Some seat)) (half_at old seat) = subst (λ (o : Option Seat). IsHalf look goes comes was (member_of old.list.items o) (half_of old o)) at halved in
      let halved_mid : IsHalf look goes comes was (member_of mid.list.items (Some seat)) (half_at old seat) = subst (λ l. IsHalf look goes comes was (member_of l.items (Some seat)) (half_at old seat)) (sym list) halved_seat in
      subst (λ (o : Option Seat). Claim was (member_of new.list.items o)) (sym at_now) (step was of_mid (subst (IsHalf look goes comes was (member_of mid.list.items (Some seat))) (sym half_is) halved_mid))

-- a node without a seat is none of any fan
pub without_seat : (Claim : Option Member → Option Member → Type 0) (look : Look) (goes comes : List Row) (fans : Fans) (place : ℕ) → seat_at fans.seats.items place ≡ None → Claim None None
    → (was : Option Member) → IsHalf look goes comes was (member_at fans place) (half_of fans (seat_at fans.seats.items place)) → Claim was (member_at fans place)
without_seat Claim look goes comes fans place none claim was halved =
    let halved_none : IsHalf look goes comes was None no_change = subst (λ (o : Option Seat). IsHalf look goes comes was (member_of fans.list.items o) (half_of fans o)) none halved in
    subst (λ (o : Option Seat). Claim was (member_of fans.list.items o)) (sym none) (subst (λ (o : Option Member). Claim o None) (sym (half_of_none look goes comes was no_change halved_none)) claim)

-- what is left by taking a half, and then by what its member does
pub left_by : (old mid new : Fans) (place : ℕ) (seat : Seat) → seat_at old.seats.items place ≡ Some seat → mid.list ≡ old.list → ((other : Seat) → (other ≡ seat → ⊥) → half_at mid other ≡ half_at old other)
    → ((other : Seat) → (other ≡ seat → ⊥) → IsLeft mid new other) → (other : Seat) → (seat_at old.seats.items place ≡ Some other → ⊥) → IsLeft old new other
left_by old mid new place seat at list halves others other away =
    let differ : other ≡ seat → ⊥ = λ same. away (at ∙ ap Some (sym same)) in
    let left = others other differ in
    (left.0 ∙ ap (λ l. member_of l.items (Some other)) list, left.1 ∙ halves other differ)

-- ---- what a member counts beyond its candidates

-- a condition that binds a fact counts nothing
pub none_beside : (p : Program) (c : Condition) (q : Pattern) → c ≡ Plain q → (s : Snapshot) (rows : Row → Bool) (forgotten : Named → Bool) (under : RuleId) (place : ℕ) (extras : List Extra) → extras ≡ []
    → AreExtrasBeside p c s rows forgotten under place extras
unfolding IsStrictlySortedBy
none_beside p c q is s rows forgotten under place extras none =
    subst (λ (x : Condition). AreExtrasBeside p x s rows forgotten under place extras) (sym is) (record {
      in_order = subst (λ (es : List Extra). InOrder (rows_of_extras es)) (sym none) tt;
      exact = λ e. (λ h. absurd (subst (In e) none h), λ more. absurd more.aside);
    })

pub given_some : {A : Type 0} (o : Option A) (P : A → Type 0) → is_some o ≡ true → IfSome o P → (x : A) × P x
given_some None P e h = absurd (let no : false ≡ true = e in cc)
given_some (Some x) P e h = (x, h)
