-- A node stands by the rows and the candidates that it keeps, each where it is looked up; so a source knows where to find it.
use Rattle.rete_net.proofs.Common.{gathered_tallies, ◌≡◌, ◌∙◌, sym, ap, refl, subst, ℕ, true, Bool, List, Named, Row, Look, Program, Snapshot, Memories}
use Rattle.rete_net.proofs.Common.{Candidates, Pattern, StandsFor, has_left, cleaned, Node, condition_of, pattern_of, NodeStands, has_name, blocker_tallies}
use Rattle.{rete_net.proofs.Common.{Value}, fx_base.specs.SameValues.{equal_values}, join_tests.specs.{Kept.{row_value}, NameKeys.{name_key}}}
use Rattle.{not_node.specs.Doors.{with_tallies}, join_memory.specs.Shared.{sharing, TakesOver, ForgoesOld}}
use Rattle.candidate_source.specs.{declared.source.Source.{Source}, Doors.{source_candidates, source_pattern, is_reached}, Sources.{HasTurnedAt, HaveLeftAt}}
use Rattle.{candidate_source.proofs.Sharing.{turn_at_law, forget_at_law}, beta_node.specs.Lending.{candidates_in, with_candidates, stands_under}}
use Rattle.beta_node.specs.Lending.{node_keeps_under, node_value, NodeTakes, NodeForgoes}
use Rattle.beta_node.specs.declared.node.Node.TheVariants as node

-- the value under which a row before the node is kept
abbrev pub value_before : Node → Look → Row → Value
value_before n look row = row_value (pattern_of (condition_of n)) look row

-- ---- candidates that are lent

pub condition_lent : (c : Candidates) (n : Node) → condition_of (with_candidates c n) ≡ condition_of n
condition_lent c (node.Join join) = refl
condition_lent c (node.Not waiting) = refl
condition_lent c (node.Exists tally) = refl
condition_lent c (node.Fold fold) = refl

-- of candidates that are lent twice the last ones count
pub lent_last : (c d : Candidates) (n : Node) → with_candidates c (with_candidates d n) ≡ with_candidates c n
lent_last c d (node.Join join) = refl
lent_last c d (node.Not waiting) = refl
lent_last c d (node.Exists tally) = refl
lent_last c d (node.Fold fold) = refl

-- a node with its own candidates is as it is
lent_own : (c : Candidates) (n : Node) → candidates_in n ≡ c.names → with_candidates c n ≡ n
lent_own c (node.Join join) e =
    let m = join.memories in ap (λ names. node.Join (record { memories = record { pattern = m.pattern; left = m.left; right = names } })) (sym e)
lent_own c (node.Not waiting) e =
    let m = blocker_tallies waiting in ap (λ names. node.Not (with_tallies (record { pattern = m.pattern; left = m.left; right = names }) waiting)) (sym e)
lent_own c (node.Exists tally) e =
    let m = tally.memories in ap (λ names. node.Exists (record { memories = record { pattern = m.pattern; left = m.left; right = names } })) (sym e)
lent_own c (node.Fold fold) e =
    let m = gathered_tallies fold in ap (λ names. node.Fold (record { accumulate = fold.accumulate; tally = record { memories = record { pattern = m.pattern; left = m.left; right = names } } })) (sym e)

lent_names : (c : Candidates) (n : Node) → candidates_in (with_candidates c n) ≡ c.names
lent_names c (node.Join join) = refl
lent_names c (node.Not waiting) = refl
lent_names c (node.Exists tally) = refl
lent_names c (node.Fold fold) = refl

one_candidates : (a b : Candidates) → a.pattern ≡ b.pattern → a.names ≡ b.names → a ≡ b
one_candidates a b e f = ap (λ (q : Pattern). record { pattern = q; names = a.names }) e ∙ ap (λ names. record { pattern = b.pattern; names = names }) f

-- Candidates are lent to a node, which takes a turn and leaves them, and are given back, while its own wait in their place.
module _ (before turning turned after : Node) (given waiting back : Candidates) (lends : turning ≡ with_candidates given before) (own : waiting.names ≡ candidates_in before) (pattern : waiting.pattern ≡ given.pattern)
    (left : candidates_in turned ≡ candidates_in turning) (gives : after ≡ with_candidates waiting turned) (names : back.names ≡ candidates_in turned) (same : back.pattern ≡ waiting.pattern) where
  pub condition_there : condition_of turning ≡ condition_of before
  condition_there = ap condition_of lends ∙ condition_lent given before

  -- whatever candidates are lent instead
  pub lent_instead : (c : Candidates) → with_candidates c turning ≡ with_candidates c before
  lent_instead c = ap (with_candidates c) lends ∙ lent_last c given before

  are_theirs : candidates_in turned ≡ given.names
  are_theirs = left ∙ ap candidates_in lends ∙ lent_names given before

  pub given_back : back ≡ given
  given_back = one_candidates back given (same ∙ pattern) (names ∙ are_theirs)

  pub as_turned : with_candidates back after ≡ turned
  as_turned = ap (λ (c : Candidates). with_candidates c after) given_back ∙ ap (with_candidates given) gives ∙ lent_last given waiting turned ∙ lent_own given turned are_theirs

  pub condition_back : condition_of after ≡ condition_of turned
  condition_back = ap condition_of gives ∙ condition_lent waiting turned

-- ---- rows

-- a row that is kept has one value by all facts by which the memories stand
value_kept : {S : Type 0} (m : Memories S) (look other : Look) (rows : Row → Bool) (names forgotten : Named → Bool) → StandsFor m look rows names forgotten → StandsFor m other rows names forgotten
    → (row : Row) → cleaned rows forgotten row ≡ true → row_value m.pattern look row ≡ row_value m.pattern other row
value_kept m look other rows names forgotten stands there row e = equal_values (row_value m.pattern look row) (row_value m.pattern other row) (stands.agrees.rows (row_value m.pattern other row) row (there.rows row ∙ e))

module _ (p : Program) (s : Snapshot) (rows : Row → Bool) (forgotten : Named → Bool) (c : Candidates) where
  -- a node to which these candidates are lent keeps a row before it under its value
  pub lent_kept : (look : Look) (n : Node) → NodeStands p (with_candidates c n) look s rows forgotten → (row : Row) → cleaned rows forgotten row ≡ true → node_keeps_under n (value_before n look row) row ≡ true
  lent_kept look (node.Join join) stands row e = stands.rows row ∙ e
  lent_kept look (node.Not waiting) waits row e = waits.counts.stands.rows row ∙ e
  lent_kept look (node.Exists tally) counts row e = counts.stands.rows row ∙ e
  lent_kept look (node.Fold fold) folds row e = subst (λ (q : Pattern). stands_under (gathered_tallies fold) (row_value q look row) row ≡ true) folds.pattern (folds.counts.stands.rows row ∙ e)

  -- the pattern of what it keeps is that of its condition
  pub lent_value : (look : Look) (n : Node) → NodeStands p (with_candidates c n) look s rows forgotten → (other : Look) (row : Row) → node_value n other row ≡ value_before n other row
  lent_value look (node.Join join) stands other row = refl
  lent_value look (node.Not waiting) waits other row = refl
  lent_value look (node.Exists tally) counts other row = refl
  lent_value look (node.Fold fold) folds other row = ap (λ (q : Pattern). row_value q other row) folds.pattern

  -- and each row has one value by all facts by which the node stands
  pub lent_alike : (look other : Look) (n : Node) → NodeStands p (with_candidates c n) look s rows forgotten → NodeStands p (with_candidates c n) other s rows forgotten
      → (row : Row) → cleaned rows forgotten row ≡ true → value_before n look row ≡ value_before n other row
  lent_alike look other (node.Join join) stands there row e = value_kept (sharing join.memories c) look other rows _ forgotten stands there row e
  lent_alike look other (node.Not waiting) stands there row e = value_kept (sharing (blocker_tallies waiting) c) look other rows _ forgotten stands.counts.stands there.counts.stands row e
  lent_alike look other (node.Exists tally) stands there row e = value_kept (sharing tally.memories c) look other rows _ forgotten stands.stands there.stands row e
  lent_alike look other (node.Fold fold) stands there row e =
      subst (λ (q : Pattern). row_value q look row ≡ row_value q other row) stands.pattern (value_kept (sharing (gathered_tallies fold) c) look other rows _ forgotten stands.counts.stands there.counts.stands row e)

module _ (p : Program) (s : Snapshot) (rows : Row → Bool) (forgotten : Named → Bool) where
  -- ---- sources

  module _ (look : Look) (was is : Source) (k : ℕ) where
    -- a source finds the node in its place by the rows before it
    abbrev pub FindsNode : Pattern → Type 0
    FindsNode q = (row : Row) → cleaned rows forgotten row ≡ true → is_reached was (row_value q look row) k ≡ true

    finds_left : {S : Type 0} (m : Memories S) (names : Named → Bool) (q : Pattern) → m.pattern ≡ q → StandsFor (sharing m (source_candidates was)) look rows names forgotten → FindsNode q
        → (row : Row) → has_left m look row ≡ true → is_reached was (row_value m.pattern look row) k ≡ true
    finds_left m names q same stands found row kept = subst (λ (r : Pattern). is_reached was (row_value r look row) k ≡ true) (sym same) (found row (sym (stands.rows row) ∙ kept))

    module _ (next : Snapshot) (leaving coming : List Named) (turned : HasTurnedAt p s next was is look k leaving coming) where
      takes_by : {S : Type 0} (m : Memories S) (names : Named → Bool) (q : Pattern) → m.pattern ≡ q → StandsFor (sharing m (source_candidates was)) look rows names forgotten → FindsNode q → name_key q ≡ name_key (source_pattern was)
          → TakesOver (sharing m (source_candidates is)) (source_candidates was) look turned.right leaving coming
      takes_by {S} m names q same stands found keeps =
          turn_at_law S p s next was is look k leaving coming turned m (ap name_key same ∙ keeps) (finds_left m names q same stands found)

      -- the node takes over the candidates of a source that has turned
      pub node_takes : (n : Node) → NodeStands p (with_candidates (source_candidates was) n) look s rows forgotten → FindsNode (pattern_of (condition_of n)) → name_key (pattern_of (condition_of n)) ≡ name_key (source_pattern was)
          → NodeTakes (with_candidates (source_candidates is) n) (source_candidates was) look turned.right leaving coming
      node_takes (node.Join join) stands found keeps = takes_by join.memories _ _ refl stands found keeps
      node_takes (node.Not waiting) stands found keeps = takes_by (blocker_tallies waiting) _ _ refl stands.counts.stands found keeps
      node_takes (node.Exists tally) stands found keeps = takes_by tally.memories _ _ refl stands.stands found keeps
      node_takes (node.Fold fold) stands found keeps = takes_by (gathered_tallies fold) _ _ stands.pattern stands.counts.stands found keeps

    module _ (names : List Named) (leaving : List Named) (left : HaveLeftAt was is look names k leaving) where
      forgoes_by : {S : Type 0} (m : Memories S) (set : Named → Bool) (q : Pattern) → m.pattern ≡ q → StandsFor (sharing m (source_candidates was)) look rows set forgotten → FindsNode q → name_key q ≡ name_key (source_pattern was)
          → ForgoesOld (sharing m (source_candidates is)) (source_candidates was) look (has_name names) leaving
      forgoes_by {S} m set q same stands found keeps =
          forget_at_law S was is look names k leaving left m (ap name_key same ∙ keeps) (finds_left m set q same stands found)

      -- and forgoes those that left it
      pub node_forgoes : (n : Node) → NodeStands p (with_candidates (source_candidates was) n) look s rows forgotten → FindsNode (pattern_of (condition_of n)) → name_key (pattern_of (condition_of n)) ≡ name_key (source_pattern was)
          → NodeForgoes (with_candidates (source_candidates is) n) (source_candidates was) look (has_name names) leaving
      node_forgoes (node.Join join) stands found keeps = forgoes_by join.memories _ _ refl stands found keeps
      node_forgoes (node.Not waiting) stands found keeps = forgoes_by (blocker_tallies waiting) _ _ refl stands.counts.stands found keeps
      node_forgoes (node.Exists tally) stands found keeps = forgoes_by tally.memories _ _ refl stands.stands found keeps
      node_forgoes (node.Fold fold) stands found keeps = forgoes_by (gathered_tallies fold) _ _ stands.pattern stands.counts.stands found keeps
