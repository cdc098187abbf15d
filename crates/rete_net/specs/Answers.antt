-- What the nodes of a network answer in a walk, and which rules are left out.
use Rattle.std.specs.{Prelude.{◌≡◌, ℕ, true, false, List, Option, Some, None, slice_get}, BTreeMap.{get}, Ordering.{nat_cmp}}
use Rattle.rete_net.specs.{declared.{answered.Answered.{Answered}, index.Index.{Index}}, Indexes.{is_listed}}
use Rattle.fan_join.specs.Reaching.{has_place}

-- what is kept of a node, or this without it
abbrev pub given : {D : Type 0} → D → Option D → D
given none None = none
given none (Some answer) = answer

-- what the node in a place answered, if it is kept
abbrev pub some_answer : {D : Type 0} → Answered D → ℕ → Option D
some_answer a place = get nat_cmp a.answers place

-- what the node in a place answered
abbrev pub answer_in : {D : Type 0} → Answered D → ℕ → D
answer_in a place = given a.none (some_answer a place)

-- what comes to a node: what its parent answered, or what comes to the nodes without a parent
abbrev pub left_given : {D : Type 0} → D → Answered D → Option ℕ → D
left_given first a None = first
left_given first a (Some parent) = answer_in a parent

-- what the node in a place answers is put: where it is kept, the rules that end there are known
pub record IsAnswerPut {D : Type 0} (index : Index) (place : ℕ) (answer : D) (was is : Answered D) : Type 0 where
  pub none : is.none ≡ was.none
  pub others : (k : ℕ) → (k ≡ place → ⊥) → some_answer is k ≡ some_answer was k
  pub here : some_answer was place ≡ None → given was.none (some_answer is place) ≡ answer
  pub rules_still : (rule : ℕ) → has_place was.rules.keys rule ≡ true → has_place is.rules.keys rule ≡ true
  pub rules : (rule : ℕ) → is_listed index.rules place rule ≡ true → has_place is.rules.keys rule ≡ false → some_answer is place ≡ some_answer was place

-- the rules that are not among these are those whose last nodes answered nothing
abbrev pub AreRuled : {D : Type 0} → Answered D → List ℕ → Type 0
AreRuled a ends = (rule end : ℕ) → slice_get ends rule ≡ Some end → has_place a.rules.keys rule ≡ false → some_answer a end ≡ None
