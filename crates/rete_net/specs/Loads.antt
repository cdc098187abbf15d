-- How nodes are loaded, each behind its parent.
use Rattle.std.specs.Prelude.{◌≡◌, ◌==◌, ◌<◌, ◌≤◌, ◌≤ℤ◌, ◌&&◌, ◌||◌, nat_lt, ℕ, ℤ, Bool, true, false, List, Option, [], Some, None, length, slice_get}
use Rattle.std.specs.{Borrow.{Bor}, Global.{Vec}, List.{filter}}
use Rattle.fx_base.specs.{Lists.{In}, declared.fact.Fact.{Fact}}
use Rattle.row_delta.specs.{declared.{delta.Delta.{Delta}, extra.Extra.{Extra}, row.{Named.{Named}, Row.{Row}}}, Rows.{has, InOrder}}
use Rattle.rule_model.specs.{declared.{condition.Pattern.{Pattern}, moment.Moment.{Moment}, program.Program.{Program}}, Lent.{lent}, Moments.{IsAt}}
use Rattle.rule_model.specs.{Rows.{pattern_of}, Snapshots.{Snapshot, floor}}
use Rattle.join_tests.specs.{Joins.{Look}, NameKeys.{name_key}}
use Rattle.join_memory.specs.{Apart.{has_candidate}, Joined.{has_name}, Shared.{NamesAgree}, Standing.{no_names}}
use Rattle.counting_node.specs.Extras.{extra_for, rows_of_extras}
use Rattle.condition_rows.specs.{Looks.{empty_snapshot, HasAllOf, NameHeld}, Sets.{candidates_of}}
use Rattle.pattern_gate.specs.{Gates.{GateStands, has_good_window}, Moves.{IsOrderly}}
use Rattle.beta_node.specs.{Lending.{node_value}, Loading.{Laden}, Nodes.{condition_of}}
use Rattle.laden_rows.specs.Laden.{laden_line}
use Rattle.rete_net.specs.{declared.{answered.Answered.{Answered}, build.Owner.{Owner}, node.NetNode.{NetNode}}, Answers.{answer_in, left_given, some_answer}}
use Rattle.rete_net.specs.{Answers.{AreRuled}, Standing.{taking, IsFresh}, Steps.{no_change}}
use Rattle.candidate_source.specs.{declared.source.Source.{Source}, Doors.{source_candidates, source_gate, source_pattern, is_reached}}

-- a fact is of the type in a place
abbrev pub is_fact_of_type : ℕ → Fact → Bool
is_fact_of_type ty f = f.ty.0 == ty

-- the facts of a type in a place, of those by types
abbrev pub given_facts : Option (Vec (Bor Fact)) → List Fact
given_facts None = []
given_facts (Some list) = lent list.items

abbrev pub grouped_facts_at : List (Vec (Bor Fact)) → ℕ → List Fact
grouped_facts_at groups ty = given_facts (slice_get groups ty)

-- an extra stands under an owner
abbrev pub is_extra_under : Owner → Extra → Bool
is_extra_under o e = e.rule.0 == o.rule.0 && e.condition == o.condition

-- an extra comes before an owner, or under it too
abbrev pub comes_before : Bool → Owner → Extra → Bool
comes_before under o e = nat_lt e.rule.0 o.rule.0 || (e.rule.0 == o.rule.0 && (nat_lt e.condition o.condition || (under && e.condition == o.condition)))

-- ---- one node

-- What a node that keeps nothing is loaded with: the facts of a snapshot at a moment, which a store has, the rows before its condition, and
-- extras in the order of their rows, each of which counts something.
pub record IsNodeLoad (p : Program) (look : Look) (kept : List Fact) (moment : Moment) (t : Snapshot) (before : Row → Bool) (n : NetNode) (rows : List Row) (extras : List Extra) : Type 0 where
  pub fresh : IsFresh p n
  pub window : has_good_window p (pattern_of (condition_of n.node)) ≡ true
  pub orderly : IsOrderly p t
  pub facts : t.facts ≡ kept
  pub at : IsAt t moment
  pub floors : (entry : ℕ) → floor p empty_snapshot entry ≤ℤ floor p t entry
  pub at_hand : HasAllOf look t no_names
  pub named : NameHeld t before
  pub same_rows : (row : Row) → has rows row ≡ before row
  pub in_order : InOrder (rows_of_extras extras)
  pub some : (e : Extra) → In e extras → 0 < e.count

-- What a load makes of a node: its gate stands for the snapshot, it keeps the rows, the candidates and what the extras count, and it
-- answers the rows of its condition as they come.
pub record NodeLoad (p : Program) (look : Look) (kept : List Fact) (extras : List Extra) (moment : Moment) (old new : NetNode) (rows : List Row) (delta : Delta) : Type 0 where
  pub parent : new.parent ≡ old.parent
  pub condition : condition_of new.node ≡ condition_of old.node
  pub gate : (t : Snapshot) (before : Row → Bool) → IsNodeLoad p look kept moment t before old rows extras → GateStands p (pattern_of (condition_of old.node)) new.gate t
  pub laden : (world : Look) (t : Snapshot) (before : Row → Bool) → IsNodeLoad p look kept moment t before old rows extras → HasAllOf world t no_names
      → Laden p new.node look world t before (extra_for extras)
  pub answer : (t : Snapshot) (before : Row → Bool) → IsNodeLoad p look kept moment t before old rows extras
      → (row : Row) → has delta.come row ≡ laden_line p t (extra_for extras) (condition_of old.node) before row
  pub none_gone : IsFresh p old → delta.gone ≡ []
  pub in_order : IsFresh p old → InOrder delta.come

-- ---- a node of a source

-- The gate and the candidates of a source are those of a pattern over the facts of its type at a clock, and they stand where the pattern
-- looks them up.
pub record HasLoaded (kept : List Fact) (clock : ℤ) (look : Look) (source : Source) (q : Pattern) : Type 0 where
  pub keeps : name_key q ≡ name_key (source_pattern source)
  pub gate : (p : Program) (s : Snapshot) → has_good_window p q ≡ true → IsOrderly p s → s.facts ≡ filter (is_fact_of_type q.ty.0) kept → s.clock ≡ clock → GateStands p q (source_gate source) s
  pub names : (p : Program) (s : Snapshot) → has_good_window p q ≡ true → IsOrderly p s → s.facts ≡ filter (is_fact_of_type q.ty.0) kept → s.clock ≡ clock
      → (who : Named) → has_candidate (source_candidates source) look who ≡ candidates_of p q s who
  pub listed : (names : List Named) × ((who : Named) → has_candidate (source_candidates source) look who ≡ has_name names who)
  pub agrees : NamesAgree (source_pattern source) (source_candidates source).names look

-- A node of a pattern may be loaded: its source, which was this, has been loaded for it.
abbrev pub MayLoad : List Fact → ℤ → Look → Option Source → Option Source → Pattern → Type 0
MayLoad kept clock look None None q = Unit {0}
MayLoad kept clock look None (Some is) q = ⊥
MayLoad kept clock look (Some was) None q = ⊥
MayLoad kept clock look (Some was) (Some is) q = HasLoaded kept clock look is q

-- the node in a place is found in its source under the values of these rows
abbrev pub IsFoundUnder : Look → Option Source → ℕ → NetNode → List Row → Type 0
IsFoundUnder look None k n rows = Unit {0}
IsFoundUnder look (Some source) k n rows = (row : Row) → has rows row ≡ true → is_reached source (node_value n.node look row) k ≡ true

-- what a load makes of the node in a place, whose source was this and is that, which finds it
pub record TurnLoads (p : Program) (look : Look) (kept : List Fact) (extras : List Extra) (moment : Moment) (was is : Option Source) (k : ℕ) (old new : NetNode) (rows : List Row) (delta : Delta) : Type 0 where
  pub loads : NodeLoad p look kept extras moment (taking was old) (taking is new) rows delta
  pub found : IsFoundUnder look is k new rows

-- ---- all nodes

-- the rows of all extras under an owner are among these rows
abbrev pub HasRowsOf : Owner → List Extra → List Row → Type 0
HasRowsOf o extras rows = (e : Extra) → In e extras → is_extra_under o e ≡ true → has rows e.row ≡ true

-- The nodes before a place are loaded, each with what its parent answered and with the extras of its owner, whose rows are among those, and
-- each by its source before and afterwards; `first` comes to those without a parent. The others are as they were.
pub record AreLoaded (p : Program) (look : Look) (kept : List Fact) (extras : List Extra) (moment : Moment) (first : Delta) (was is : ℕ → Option Source) (before now : List NetNode) (owners : List Owner) (ends : List ℕ) (a : Answered Delta) (n : ℕ) : Type 0 where
  pub many : length now ≡ length before
  pub none : a.none ≡ no_change
  pub ahead : (k : ℕ) → n ≤ k → some_answer a k ≡ None
  pub rest : (k : ℕ) → n ≤ k → slice_get now k ≡ slice_get before k
  pub loaded : (k : ℕ) → k < n → (old new : NetNode) (o : Owner) → slice_get before k ≡ Some old → slice_get now k ≡ Some new → slice_get owners k ≡ Some o
      → TurnLoads p look kept (filter (is_extra_under o) extras) moment (was k) (is k) k old new (left_given first a old.parent).come (answer_in a k)
  pub there : (k : ℕ) → k < n → (old : NetNode) (o : Owner) → slice_get before k ≡ Some old → slice_get owners k ≡ Some o → InOrder (left_given first a old.parent).come
      → HasRowsOf o extras (left_given first a old.parent).come
  pub ruled : AreRuled a ends

-- Of the nodes before a place all are loaded, and the one in it cannot be: the row of an extra of its owner is none of those before it.
pub record IsStuck (p : Program) (look : Look) (kept : List Fact) (extras : List Extra) (moment : Moment) (first : Delta) (was : ℕ → Option Source) (before : List NetNode) (owners : List Owner) (ends : List ℕ) : Type 0 where
  pub now : List NetNode
  pub is : ℕ → Option Source
  pub answered : Answered Delta
  pub place : ℕ
  pub loaded : AreLoaded p look kept extras moment first was is before now owners ends answered place
  pub node : NetNode
  pub there : slice_get before place ≡ Some node
  pub missing : (o : Owner) → slice_get owners place ≡ Some o → InOrder (left_given first answered node.parent).come
      → (e : Extra) × In e extras × (is_extra_under o e ≡ true) × (has (left_given first answered node.parent).come e.row ≡ false)
