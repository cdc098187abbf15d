-- What a node keeps for each left row of the candidates that pass there, and which rows the node has.
use Rattle.std.specs.{Prelude.{◌≡◌, ◌&&◌, ◌||◌, not, cond, Bool, true, false, Option, Some, None, ℤ}, Ordering.{eq_by_cmp}}
use Rattle.row_delta.specs.{declared.{row.{Named.{Named}, Row.{Row}}, delta.Delta.{Delta}}, Rows.{has}, NameOrder.{name_cmp}}
use Rattle.rule_model.specs.declared.condition.Pattern.{Pattern}
use Rattle.join_tests.specs.Joins.{Look, joins}
use Rattle.join_memory.specs.{declared.memories.Memories.{Memories}, Memories.{left_at, has_left, has_right}, Inputs.{row_naming}}
use Rattle.counting_node.specs.Origins.{is_from}

-- ---- one tally

-- a set with one candidate more
abbrev pub with_one : (Named → Bool) → Named → Named → Bool
with_one set who c = set c || eq_by_cmp name_cmp who c

-- a set with one candidate less
abbrev pub less_one : (Named → Bool) → Named → Named → Bool
less_one set who c = set c && not (eq_by_cmp name_cmp who c)

-- Where a candidate comes, a tally becomes that of a set with it, whatever the set was; where it goes, that of the set without it.
-- `holds` says when a tally is that of a set of candidates, in a world that knows every version.
abbrev pub TurnedTally : {T : Type 0} → (T → Look → (Named → Bool) → Type 0) → Look → Bool → Named → T → T → Type 0
TurnedTally holds world true who t now = (set : Named → Bool) → holds t world set → set who ≡ false → holds now world (with_one set who)
TurnedTally holds world false who t now = (set : Named → Bool) → holds t world set → set who ≡ true → holds now world (less_one set who)

-- the same where it takes a turn; else it stays as it is
abbrev pub TurnedIf : {T : Type 0} → Bool → (T → Look → (Named → Bool) → Type 0) → Look → Bool → Named → T → T → Type 0
TurnedIf true holds world comes who t now = TurnedTally holds world comes who t now
TurnedIf false holds world comes who t now = now ≡ t

-- what is kept for a row, where it is kept, becomes what the relation allows
abbrev pub StepsTally : {T : Type 0} → (T → T → Type 0) → Option T → Option T → Type 0
StepsTally R None new = new ≡ None
StepsTally {T} R (Some t) new = (now : T) × (new ≡ Some now) × R t now

-- ---- the rows of a node

-- what the tally of a row gives, where there is one
abbrev pub output_some : {T : Type 0} → (T → Option ℤ) → Option T → Option ℤ
output_some output None = None
output_some output (Some t) = output t

-- a row shows the number that there is
abbrev pub offers : (ℤ → Row → Bool) → Option ℤ → Row → Bool
offers gives None row = false
offers gives (Some v) row = gives v row

-- what the tally of the left row gives from which a row comes
abbrev pub output_from : {T : Type 0} → (Look → Row → T → Option ℤ) → Memories T → Look → Option Row → Option ℤ
output_from output m look None = None
output_from output m look (Some left) = output_some (output look left) (left_at m look left)

-- the rows of a node: those that come from a left row and show what its tally gives
abbrev pub shown : {T : Type 0} → (Row → Option Row) → (ℤ → Row → Bool) → (Look → Row → T → Option ℤ) → Memories T → Look → Row → Bool
shown origin gives output m look row = offers gives (output_from output m look (origin row)) row

-- a set of rows, changed in those that come from one left row
abbrev pub changed_at : (Row → Option Row) → (Row → Bool) → Row → (Row → Bool) → Row → Bool
changed_at origin rows row is r = cond (is_from (origin r) row) (is r) (rows r)

-- ---- a step

-- two worlds know the same facts of these versions
abbrev pub SeeAlike : (Named → Bool) → Look → Look → Type 0
SeeAlike names look world = (c : Named) → names c ≡ true → world c.tag ≡ look c.tag

-- the passing ones of the kept candidates, and what is counted beyond them
abbrev pub counted : (Named → Bool) → (Named → Bool) → (Named → Bool) → Named → Bool
counted right passes extra c = (right c && passes c) || extra c

-- A tally follows the kept candidates: whatever it counts beyond them, outside the scope, stays as it is.
abbrev pub FollowsCandidates : {T : Type 0} → (T → Look → (Named → Bool) → Type 0) → Look → (Named → Bool) → (Named → Bool) → (Named → Bool) → (Named → Bool) → T → T → Type 0
FollowsCandidates holds world scope right right_now passes t now = (extra : Named → Bool) → ((c : Named) → scope c ≡ true → extra c ≡ false)
    → holds t world (counted right passes extra) → holds now world (counted right_now passes extra)

-- the tally of a row that comes is that of the candidates that pass, where the row was not kept
abbrev pub Arrives : {T : Type 0} → Bool → (T → Look → (Named → Bool) → Type 0) → Look → (Named → Bool) → Option T → Option T → Type 0
Arrives {T} true holds world set None after = (t : T) × (after ≡ Some t) × holds t world set
Arrives true holds world set (Some t) after = after ≡ Some t
Arrives false holds world set before after = after ≡ before

-- the candidates of a set that pass for a row
abbrev pub passing : Pattern → Look → (Named → Bool) → Row → Named → Bool
passing p look right row c = right c && joins p look row c

-- A step of a node: the tallies of the rows that stay, which follow the candidates that come and go and keep whatever
-- they count beyond the kept ones, and the tallies of the rows that come, which begin with the kept candidates that pass.
pub record TallyStep {T : Type 0} (holds : T → Look → (Named → Bool) → Type 0) (look : Look) (before after : Memories T) (left right : Delta) : Type 0 where
  pub stays : (world : Look) (scope : Named → Bool) → SeeAlike scope look world → ((c : Named) → has right.gone (row_naming c) ≡ true → scope c ≡ true) → ((c : Named) → has right.come (row_naming c) ≡ true → scope c ≡ true)
      → (r : Row) (t : T) → left_at before look r ≡ Some t → has left.gone r ≡ false
      → (now : T) × (left_at after look r ≡ Some now) × FollowsCandidates holds world scope (has_right before look) (has_right after look) (joins before.pattern look r) t now
  pub fresh : (world : Look) → SeeAlike (has_right after look) look world → (r : Row) → (has_left before look r && not (has left.gone r)) ≡ false → has left.come r ≡ true
      → (t : T) × (left_at after look r ≡ Some t) × holds t world (passing before.pattern look (has_right after look) r)
