-- The sources of the nodes of a network: of which source a node is, and what steps of the sources hand to it.
use Rattle.std.specs.{Prelude.{◌≡◌, ◌==◌, ◌&&◌, ◌||◌, not, ℕ, ℤ, Bool, true, false, List, [], length, Option, Some, None, slice_get}, Borrow.{Bor}}
use Rattle.std.specs.Global.{Vec}
use Rattle.fx_base.specs.{declared.{fact.Fact.{Fact}, value.Value.{Value}}, Values.{same_value}}
use Rattle.row_delta.specs.{declared.{delta.Delta.{Delta}, row.Named.{Named}}, NameOrder.{name_cmp}, Rows.{has}}
use Rattle.rule_model.specs.{declared.{condition.Pattern.{Pattern}, program.Program.{Program}}, Lent.{lent}, Snapshots.{Snapshot}}
use Rattle.alpha_memory.specs.JoinIndex.{at}
use Rattle.join_tests.specs.Joins.{Look}
use Rattle.join_memory.specs.{declared.memories.Memories.{Memories}, Apart.{has_candidate}, Inputs.{row_naming, IsNameDifference}, Joined.{has_name}}
use Rattle.join_memory.specs.Shared.{sharing, KeepsAlike, KeepsNames, NamesAgree, TakesOver, ForgoesOld}
use Rattle.condition_rows.specs.{Looks.{empty_snapshot}, Sets.{candidates_of}}
use Rattle.pattern_gate.specs.{Gates.{GateStands, has_good_window}, Moves.{IsOrderly, MovesSnapshot}}
use Rattle.candidate_source.specs.{declared.{source.Source.{Source}, sources.Sources.{Sources}}, Handed.{gone_at, come_at, IsUnhanded}, Reached.{has_place}}
use Rattle.candidate_source.specs.{Reached.{FindsLeft, IsUnreached}, Turns.{concerns, AreOnce}}

-- ---- of which source a node is

-- what stands in this place of a list, where there is one
abbrev pub in_list : {A : Type 0} → List A → Option ℕ → Option A
in_list list None = None
in_list list (Some at) = slice_get list at

abbrev pub given_place : Option (Option ℕ) → Option ℕ
given_place None = None
given_place (Some at) = at

-- the place of the source of the node in a place, if it is of one
abbrev pub source_place : Sources → ℕ → Option ℕ
source_place sources k = given_place (slice_get sources.of.items k)

-- the source
abbrev pub source_at : Sources → ℕ → Option Source
source_at sources k = in_list sources.list.items (source_place sources k)

-- the place of its first node
abbrev pub lead_of : Sources → ℕ → Option ℕ
lead_of sources k = in_list sources.leads.items (source_place sources k)

abbrev pub is_this : ℕ → Option ℕ → Bool
is_this k None = false
is_this k (Some lead) = lead == k

abbrev pub is_other : ℕ → Option ℕ → Bool
is_other k None = false
is_other k (Some lead) = not (lead == k)

-- the node in a place is the first one of a source
abbrev pub is_lead : Sources → ℕ → Bool
is_lead sources k = is_this k (lead_of sources k)

-- it is of a source, and another is the first one
abbrev pub is_follower : Sources → ℕ → Bool
is_follower sources k = is_other k (lead_of sources k)

-- there is a first node, and its place is one of these
abbrev pub is_led : (ℕ → Bool) → Option ℕ → Bool
is_led places None = false
is_led places (Some lead) = places lead

-- Each node is of a source that is there, each source has its first node, which is of it, and in a source only its nodes are found.
pub record AreApart (sources : Sources) : Type 0 where
  pub many : length sources.leads.items ≡ length sources.list.items
  pub there : (k at : ℕ) → source_place sources k ≡ Some at → (s : Source) × (slice_get sources.list.items at ≡ Some s)
  pub led : (at : ℕ) (s : Source) → slice_get sources.list.items at ≡ Some s → (lead : ℕ) × (slice_get sources.leads.items at ≡ Some lead) × (source_place sources lead ≡ Some at)
  pub apart : (k at : ℕ) (s : Source) → slice_get sources.list.items at ≡ Some s → (source_place sources k ≡ Some at → ⊥) → IsUnreached s.reached k

-- the same nodes, first nodes and number of sources, each of the pattern of the one in its place
pub record AreLaidAs (old new : Sources) : Type 0 where
  pub of : new.of ≡ old.of
  pub leads : new.leads ≡ old.leads
  pub many : length new.list.items ≡ length old.list.items
  pub patterns : (at : ℕ) (a b : Source) → slice_get old.list.items at ≡ Some a → slice_get new.list.items at ≡ Some b → b.own.pattern ≡ a.own.pattern

-- and in each the nodes are found as they were
abbrev pub AreReachedAs : Sources → Sources → Type 0
AreReachedAs old new = (at : ℕ) (a b : Source) → slice_get old.list.items at ≡ Some a → slice_get new.list.items at ≡ Some b → b.reached ≡ a.reached

-- ---- what is handed to the node in a place

abbrev pub handed_gone : Sources → ℕ → List Named
handed_gone sources k = gone_at sources.handed k

abbrev pub handed_come : Sources → ℕ → List Named
handed_come sources k = come_at sources.handed k

-- nothing
abbrev pub IsPassedOver : Sources → ℕ → Type 0
IsPassedOver sources k = IsUnhanded sources.handed k

-- ---- a step

-- a source stays as it is in a step at this clock in which these facts go and this one comes: its gate stands for the next snapshot as for
-- the one before, with the same candidates
pub record IsAtRest (source : Source) (gone : List Fact) (come : Option Fact) (clock : ℤ) : Type 0 where
  pub stands : (p : Program) (s next : Snapshot) → GateStands p source.own.pattern source.gate s → MovesSnapshot p s next gone come → next.clock ≡ clock → GateStands p source.own.pattern source.gate next
  pub candidates : (p : Program) (s next : Snapshot) → GateStands p source.own.pattern source.gate s → MovesSnapshot p s next gone come → next.clock ≡ clock
      → (who : Named) → candidates_of p source.own.pattern next who ≡ candidates_of p source.own.pattern s who

-- so does each source whose first node is not in one of these places
abbrev pub AreOthersAtRest : Sources → List ℕ → List Fact → Option Fact → ℤ → Type 0
AreOthersAtRest sources places gone come clock =
    (k : ℕ) (s : Source) → source_at sources k ≡ Some s → is_lead sources k ≡ true → has_place places k ≡ false → IsAtRest s gone come clock

-- What a turn of a source is for the node in one place, to which this is handed of the candidates that went and came. So it is too where
-- the source rests, with nothing.
pub record HasTurnedAt (p : Program) (s next : Snapshot) (old new : Source) (look : Look) (k : ℕ) (leaving coming : List Named) : Type 0 where
  pub gate : GateStands p old.own.pattern new.gate next
  pub right : Delta
  pub difference : IsNameDifference (candidates_of p old.own.pattern s) (candidates_of p old.own.pattern next) right
  pub kept : KeepsNames old.own new.own look (λ who. (has_candidate old.own look who && not (has right.gone (row_naming who))) || has right.come (row_naming who))
  pub gone : AreOnce (λ who. has right.gone (row_naming who) && (has_candidate old.own look who && concerns old look who k)) leaving
  pub come : AreOnce (λ who. has right.come (row_naming who) && (not (has_candidate old.own look who) && concerns old look who k)) coming

-- the source of each node has turned for it, by what the clock and these facts change
abbrev pub HaveTurned : Program → List Fact → Option Fact → ℤ → Look → Sources → Sources → Type 0
HaveTurned p gone come clock look old new =
    (k : ℕ) (a b : Source) → source_at old k ≡ Some a → source_at new k ≡ Some b → (s next : Snapshot) → has_good_window p a.own.pattern ≡ true → GateStands p a.own.pattern a.gate s
    → MovesSnapshot p s next gone come → next.clock ≡ clock → HasTurnedAt p s next a b look k (handed_gone new k) (handed_come new k)

-- ---- forgetting

-- These old candidates left a source, and of those that were there these are handed to the node in one place.
pub record HaveLeftAt (old new : Source) (look : Look) (names : List Named) (k : ℕ) (leaving : List Named) : Type 0 where
  pub gate : new.gate ≡ old.gate
  pub kept : KeepsNames old.own new.own look (λ who. has_candidate old.own look who && not (has_name names who))
  pub gone : AreOnce (λ who. has_name names who && (has_candidate old.own look who && concerns old look who k)) leaving

-- They left the sources whose first nodes are in these places; the others are as they were, and hand nothing.
pub record HaveForgotten (look : Look) (names : List Named) (places : List ℕ) (old new : Sources) : Type 0 where
  pub left : (k : ℕ) (a b : Source) → source_at old k ≡ Some a → source_at new k ≡ Some b → is_led (has_place places) (lead_of old k) ≡ true → HaveLeftAt a b look names k (handed_gone new k)
  pub none_come : (k : ℕ) → handed_come new k ≡ []
  pub others : (k : ℕ) → is_led (has_place places) (lead_of old k) ≡ false → (source_at new k ≡ source_at old k) × IsPassedOver new k

-- ---- what they are for a node

-- A node that keeps candidates alike and is found under the values of its left rows takes over the candidates of a source that has turned.
abbrev pub TurnAtLaw : Type 0 → Type 0
TurnAtLaw S = (p : Program) (s next : Snapshot) (old new : Source) (look : Look) (k : ℕ) (leaving coming : List Named) (turned : HasTurnedAt p s next old new look k leaving coming) (m : Memories S)
    → KeepsAlike m old.own → FindsLeft old.reached k m look → TakesOver (sharing m new.own) old.own look turned.right leaving coming

-- So it forgoes old ones.
abbrev pub ForgetAtLaw : Type 0 → Type 0
ForgetAtLaw S = (old new : Source) (look : Look) (names : List Named) (k : ℕ) (leaving : List Named) → HaveLeftAt old new look names k leaving → (m : Memories S)
    → KeepsAlike m old.own → FindsLeft old.reached k m look → ForgoesOld (sharing m new.own) old.own look (has_name names) leaving

-- ---- new ones, and loading

-- no fact has come to it, and no node is found in it
pub record IsNewSource (wanted : Pattern) (s : Source) : Type 0 where
  pub pattern : s.own.pattern ≡ wanted
  pub gate : (p : Program) → GateStands p wanted s.gate empty_snapshot
  pub names : (value : Value) (who : Named) → at same_value name_cmp s.own.names value who ≡ None
  pub reached : (k : ℕ) → IsUnreached s.reached k

-- the facts of a type in a place, of those by types
abbrev pub facts_in : Option (Vec (Bor Fact)) → List Fact
facts_in None = []
facts_in (Some list) = lent list.items

abbrev pub facts_of_type : List (Vec (Bor Fact)) → ℕ → List Fact
facts_of_type groups ty = facts_in (slice_get groups ty)

-- a source over these facts, in the order of their tags, at this clock, in which no node is found
pub record IsLoadedWith (wanted : Pattern) (facts : List Fact) (clock : ℤ) (look : Look) (loaded : Source) : Type 0 where
  pub pattern : loaded.own.pattern ≡ wanted
  pub gate : (p : Program) (s : Snapshot) → has_good_window p wanted ≡ true → IsOrderly p s → s.facts ≡ facts → s.clock ≡ clock → GateStands p wanted loaded.gate s
  pub names : (p : Program) (s : Snapshot) → has_good_window p wanted ≡ true → IsOrderly p s → s.facts ≡ facts → s.clock ≡ clock
      → (who : Named) → has_candidate loaded.own look who ≡ candidates_of p wanted s who
  pub listed : (names : List Named) × ((who : Named) → has_candidate loaded.own look who ≡ has_name names who)
  pub agrees : NamesAgree loaded.own.pattern loaded.own.names look
  pub reached : (k : ℕ) → IsUnreached loaded.reached k

-- each source is loaded with the facts of its type
abbrev pub AreLoadedWith : List (Vec (Bor Fact)) → ℤ → Look → Sources → Sources → Type 0
AreLoadedWith groups clock look old new =
    (k : ℕ) (a b : Source) → source_at old k ≡ Some a → source_at new k ≡ Some b → IsLoadedWith a.own.pattern (facts_of_type groups a.own.pattern.ty.0) clock look b
