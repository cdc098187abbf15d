-- What is dropped where facts are forgotten.
use Rattle.std.specs.Prelude.{◌≡◌, ◌<◌, ◌==◌, ◌&&◌, not, ℕ, Bool, true, cond, List, [], ◌∷◌, ◌++◌, length, take, Option, Some, None, slice_get, slice_index_or}
use Rattle.row_delta.specs.{declared.row.{Named.{Named}, Row.{Row}}, Rows.{has, InOrder}}
use Rattle.rule_model.specs.{declared.program.{Program.{Program}, Rule.{Rule}}, Distinct.{HaveDistinctTags}, Snapshots.{Snapshot}}
use Rattle.join_tests.specs.Joins.{Look}
use Rattle.join_memory.specs.Standing.{clean, cleaned, either}
use Rattle.condition_rows.specs.{Lines.{line}, Looks.{HasAllOf, NameHeld}, Sets.{rows_of}}
use Rattle.beta_node.specs.Nodes.{condition_of}
use Rattle.rete_net.specs.declared.{forgetting.RuleRows.{RuleRows}, node.NetNode.{NetNode}, answered.Answered.{Answered}, index.Index.{Index}}
use Rattle.rete_net.specs.{Answers.{given, some_answer, AreRuled}, Indexes.{is_listed, type_of}, Standing.{NetNodeStands, StandsIn}}
use Rattle.fx_base.specs.declared.fact.Fact.{Fact}
use Rattle.candidate_source.specs.declared.source.Source.{Source}
use Rattle.fan_join.specs.Reaching.{has_place}

-- these rows, in order, are those of a set that name an old fact
pub record AreOld (rows : Row → Bool) (old : Named → Bool) (dropped : List Row) : Type 0 where
  pub in_order : InOrder dropped
  pub exact : (row : Row) → has dropped row ≡ (rows row && not (clean old row))

-- ---- one node

-- What is given where a node forgets: a store that has at hand what is remembered of a snapshot, and of the remembered rows before the
-- node those that name an old fact.
pub record IsForgetting (look : Look) (s : Snapshot) (rows : Row → Bool) (forgotten old : Named → Bool) (dropped : List Row) : Type 0 where
  pub tags : HaveDistinctTags s.facts
  pub at_hand : HasAllOf look s forgotten
  pub named : NameHeld s rows
  pub rows_old : AreOld (cleaned rows forgotten) old dropped

-- Where a node stood it stands, with the old facts forgotten too; and it answers the rows of its condition that name an old fact, of those
-- that were remembered.
pub record NodeForgets (p : Program) (look : Look) (old : Named → Bool) (before after : NetNode) (dropped gone : List Row) : Type 0 where
  pub parent : after.parent ≡ before.parent
  pub condition : condition_of after.node ≡ condition_of before.node
  pub stands : (s : Snapshot) (rows : Row → Bool) (forgotten : Named → Bool) → NetNodeStands p before s rows forgotten → IsForgetting look s rows forgotten old dropped
      → NetNodeStands p after s rows (either forgotten old)
  pub drops : (s : Snapshot) (rows : Row → Bool) (forgotten : Named → Bool) → NetNodeStands p before s rows forgotten → IsForgetting look s rows forgotten old dropped
      → AreOld (cleaned (line p s (condition_of before.node) rows) forgotten) old gone

-- so does the node in a place, whose source was this and is that
pub record TurnForgets (p : Program) (look : Look) (old : Named → Bool) (was is : Option Source) (k : ℕ) (before after : NetNode) (dropped gone : List Row) : Type 0 where
  pub parent : after.parent ≡ before.parent
  pub condition : condition_of after.node ≡ condition_of before.node
  pub stands : (s : Snapshot) (rows : Row → Bool) (forgotten : Named → Bool) → StandsIn p was k before s rows forgotten → IsForgetting look s rows forgotten old dropped
      → StandsIn p is k after s rows (either forgotten old)
  pub drops : (s : Snapshot) (rows : Row → Bool) (forgotten : Named → Bool) → StandsIn p was k before s rows forgotten → IsForgetting look s rows forgotten old dropped
      → AreOld (cleaned (line p s (condition_of before.node) rows) forgotten) old gone

-- ---- the nodes of a network

-- what the node in a place dropped, or nothing past the end
abbrev pub dropped_at : List (List Row) → ℕ → List Row
dropped_at dropped place = slice_index_or dropped place []

-- what is dropped of the rows before a node: what its parent dropped; before the first condition nothing is
abbrev pub dropped_before : List (List Row) → Option ℕ → List Row
dropped_before dropped None = []
dropped_before dropped (Some parent) = dropped_at dropped parent

-- the nodes before this place forgot, each after those before it, and each by its source before and afterwards
abbrev pub ForgotBelow : Program → Look → (Named → Bool) → (ℕ → Option Source) → (ℕ → Option Source) → List NetNode → List NetNode → List (List Row) → ℕ → Type 0
ForgotBelow p look old was is before after dropped n =
    (k : ℕ) → k < n → (a b : NetNode) → slice_get before k ≡ Some a → slice_get after k ≡ Some b
    → TurnForgets p look old (was k) (is k) k a b (dropped_before (take k dropped) a.parent) (dropped_at dropped k)

-- no old fact that is at hand is of the type of the node's candidates
abbrev pub HasNoOld : Look → (Named → Bool) → NetNode → Type 0
HasNoOld look old n = (who : Named) (f : Fact) → old who ≡ true → look who.tag ≡ Some f → type_of n ≡ f.ty.0 → ⊥

-- the nodes of these types are due
abbrev pub AreDue : Index → List ℕ → List ℕ → Type 0
AreDue index types due = (ty k : ℕ) → has_place types ty ≡ true → is_listed index.by_type ty k ≡ true → has_place due k ≡ true

-- the nodes of a network forgot, and these are the rows that they dropped, where there are some
pub record HaveForgotten (p : Program) (look : Look) (old : Named → Bool) (was is : ℕ → Option Source) (before after : List NetNode) (ends : List ℕ) (a : Answered (List Row)) : Type 0 where
  pub nothing : a.none ≡ []
  pub dropped : List (List Row)
  pub forgot : ForgotBelow p look old was is before after dropped (length before)
  pub known : (k : ℕ) → k < length before → dropped_at dropped k ≡ given [] (some_answer a k)
  pub ruled : AreRuled a ends

-- ---- the rules

-- the rows of a rule by its place: those of its entry, or none where it has none
abbrev pub rows_for : List RuleRows → ℕ → List Row
rows_for [] place = []
rows_for (answer ∷ answers) place = cond (answer.place == place) answer.rows (rows_for answers place)

-- the entries are of rules of which rows are dropped, each once and in the order of the rules, of which there are so many
pub record AreListed (answers : List RuleRows) (rules : ℕ) : Type 0 where
  pub within : (k : ℕ) (a : RuleRows) → slice_get answers k ≡ Some a → a.place < rules
  pub in_order : (j k : ℕ) (a b : RuleRows) → j < k → slice_get answers j ≡ Some a → slice_get answers k ≡ Some b → a.place < b.place
  pub some : (k : ℕ) (a : RuleRows) → slice_get answers k ≡ Some a → a.rows ≡ [] → ⊥

-- the entries with one more, where it has rows
abbrev pub with_rows : List RuleRows → ℕ → List Row → List RuleRows
with_rows answers place [] = answers
with_rows answers place (row ∷ rows) = answers ++ record { place = place; rows = row ∷ rows } ∷ []

-- of each rule the remembered rows that name an old fact
abbrev pub AreDropped : Program → Snapshot → (Named → Bool) → (Named → Bool) → List RuleRows → Type 0
AreDropped p s forgotten old answers =
    (place : ℕ) (rule : Rule) → slice_get p.rules place ≡ Some rule → AreOld (cleaned (rows_of p s rule.conditions) forgotten) old (rows_for answers place)
