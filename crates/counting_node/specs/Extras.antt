-- What tallies count and gather beyond the candidates that are kept.
use Rattle.std.specs.{Prelude.{◌≡◌, ◌+◌, ◌<◌, ◌++◌, ℕ, ℤ, Bool, true, false, List, [], map, length, Option, Some, None}, List.{find}, Ordering.{eq_by_cmp}}
use Rattle.fx_base.specs.{Lists.{In}, declared.ids.RuleId.{RuleId}}
use Rattle.fold_fn.specs.{Held.{Held}, Order.{in_rising_order}}
use Rattle.row_delta.specs.{declared.{extra.Extra.{Extra}, row.{Named.{Named}, Row.{Row}}}, Rows.{row_cmp, InOrder}}
use Rattle.rule_model.specs.declared.condition.Accumulate.{Accumulate}
use Rattle.join_tests.specs.Joins.{Look}
use Rattle.join_memory.specs.{declared.memories.Memories.{Memories}, Joined.{has_name, AreDistinct}, Memories.{left_at, has_left, has_right, Agrees}}
use Rattle.join_memory.specs.Standing.{either}
use Rattle.counting_node.specs.{declared.count.{Blockers.{Blockers}, Witnesses.{Witnesses}}, Counts.{IsNumber}, Gathers.{argument_of}, Tallies.{SeeAlike}}
use Rattle.counting_node.specs.Tallies.{passing}

-- ---- sets and extras

-- no candidate is in both sets
abbrev pub AreApart : (Named → Bool) → (Named → Bool) → Type 0
AreApart set others = (who : Named) → set who ≡ true → others who ≡ false

-- There is a list of the candidates of a set, each once: so many, and this is gathered of them.
pub record IsBeyond (gathered : Look → List Named → List ℤ) (world : Look) (set : Named → Bool) (n : ℕ) (taken : List ℤ) : Type 0 where
  pub names : List Named
  pub distinct : AreDistinct names
  pub all : (who : Named) → has_name names who ≡ set who
  pub count : length names ≡ n
  pub values : taken ≡ gathered world names

-- an extra tells of a set how many candidates it has, and what is gathered of them; where there is no extra, the set has none
abbrev pub IsExtraFor : (Look → List Named → List ℤ) → Look → (Named → Bool) → Option Extra → Type 0
IsExtraFor gathered world set None = (who : Named) → set who ≡ false
IsExtraFor gathered world set (Some e) = IsBeyond gathered world set e.count e.values

-- the extra of a row
abbrev pub extra_for : List Extra → Row → Option Extra
extra_for extras row = find (λ (e : Extra). eq_by_cmp row_cmp e.row row) extras

-- the rows of extras
abbrev pub rows_of_extras : List Extra → List Row
rows_of_extras extras = map (λ (e : Extra). e.row) extras

-- ---- tallies with extras

-- The tally is that of a set, and counts what an extra counts more, where there is one. `laden` says so of each kind of tally.
abbrev pub IsTallyLaden : {T : Type 0} → (T → Look → (Named → Bool) → Type 0) → (T → Look → (Named → Bool) → Extra → Type 0) → T → Look → (Named → Bool) → Option Extra → Type 0
IsTallyLaden holds laden t world set None = holds t world set
IsTallyLaden holds laden t world set (Some e) = laden t world set e

-- a number is that of a set, and counts so many more
abbrev pub counts_more : ℕ → (Named → Bool) → Extra → Type 0
counts_more n set e = (k : ℕ) × IsNumber set k × (n ≡ k + e.count)

abbrev pub blockers_laden : Blockers → Look → (Named → Bool) → Extra → Type 0
blockers_laden t world = counts_more t.0

abbrev pub witnesses_laden : Witnesses → Look → (Named → Bool) → Extra → Type 0
witnesses_laden t world = counts_more t.0

-- of counted candidates nothing is gathered
abbrev pub nothing_gathered : Look → List Named → List ℤ
nothing_gathered world names = []

-- A fold holds what an accumulate takes of the candidates of a set, and the values of an extra.
pub record GathersMore (a : Accumulate) (world : Look) (set : Named → Bool) (e : Extra) (held : Held) : Type 0 where
  pub names : List Named
  pub distinct : AreDistinct names
  pub all : (who : Named) → has_name names who ≡ set who
  pub kind : held.kind ≡ a.kind
  pub values : held.values ≡ in_rising_order (map (argument_of a world) names ++ e.values)

abbrev pub gathered_laden : Accumulate → Held → Look → (Named → Bool) → Extra → Type 0
gathered_laden a held world set e = GathersMore a world set e held

-- of folded candidates their arguments are gathered, rising
abbrev pub arguments_gathered : Accumulate → Look → List Named → List ℤ
arguments_gathered a world names = in_rising_order (map (argument_of a world) names)

-- ---- a node

-- After a load, the tally of each row that came is that of the kept candidates that pass and of the row's extra.
abbrev pub AllLaden : {T : Type 0} → (T → Look → (Named → Bool) → Type 0) → (T → Look → (Named → Bool) → Extra → Type 0) → Look → List Extra → (Row → Bool) → Memories T → Memories T → Type 0
AllLaden {T} holds laden look extras come before after = InOrder (rows_of_extras extras) → (world : Look) → SeeAlike (has_right after look) look world
    → (r : Row) → come r ≡ true → has_left before look r ≡ false
    → (t : T) × (left_at after look r ≡ Some t) × IsTallyLaden holds laden t world (passing before.pattern look (has_right after look) r) (extra_for extras r)

-- The tally of each kept left row is that of the kept candidates that pass there and of others.
pub record CountsOthers {T : Type 0} (holds : T → Look → (Named → Bool) → Type 0) (m : Memories T) (look world : Look) (others : Row → Named → Bool) : Type 0 where
  pub agrees : Agrees m look
  pub alike : SeeAlike (has_right m look) look world
  pub apart : (row : Row) → has_left m look row ≡ true → AreApart (passing m.pattern look (has_right m look) row) (others row)
  pub tallies : (row : Row) (t : T) → left_at m look row ≡ Some t → holds t world (either (passing m.pattern look (has_right m look) row) (others row))

-- the extra is one of a kept row, under this rule and condition, and counts something
pub record IsExtraOfRow {T : Type 0} (m : Memories T) (look : Look) (under : RuleId) (place : ℕ) (e : Extra) : Type 0 where
  pub rule : e.rule ≡ under
  pub condition : e.condition ≡ place
  pub kept : has_left m look e.row ≡ true
  pub some : 0 < e.count

-- These are, in the order of their rows, extras of kept left rows, and all of them: what is counted and gathered of others beside each row.
pub record AreExtrasOf {T : Type 0} (holds : T → Look → (Named → Bool) → Type 0) (gathered : Look → List Named → List ℤ) (m : Memories T) (look : Look) (under : RuleId) (place : ℕ) (extras : List Extra) : Type 0 where
  pub in_order : InOrder (rows_of_extras extras)
  pub among : Agrees m look → (e : Extra) → In e extras → IsExtraOfRow m look under place e
  pub exact : (world : Look) (others : Row → Named → Bool) → CountsOthers holds m look world others
      → (row : Row) → has_left m look row ≡ true → IsExtraFor gathered world (others row) (extra_for extras row)
