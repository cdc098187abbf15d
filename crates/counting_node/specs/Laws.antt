-- What a step, forgetting and a change of the store are for the whole sets of rows and candidates that a node stands for, and which
-- rows the node then has.
use Rattle.std.specs.{Prelude.{◌≡◌, ◌&&◌, ◌||◌, not, true, false, cond, map, Bool, List, Option, Some, None, ℤ}, List.{list_any}}
use Rattle.fx_base.specs.declared.fact.Fact.{Fact}
use Rattle.fold_fn.specs.Held.{Held}
use Rattle.row_delta.specs.{declared.{extra.Extra.{Extra}, row.{Named.{Named}, Row.{Row}}, delta.Delta.{Delta}}, Rows.{has, InOrder}}
use Rattle.row_change.specs.Changes.{LeadsRows}
use Rattle.rule_model.specs.{declared.condition.Accumulate.{Accumulate}, Lent.{Holds, bound_in}, Rows.{result_of}, Tuples.{name_of}}
use Rattle.join_tests.specs.Joins.{Look}
use Rattle.join_memory.specs.{declared.memories.Memories.{Memories}, Joined.{has_name, AreDistinct}, Memories.{left_at, has_left, has_right, KeepsMemories}}
use Rattle.join_memory.specs.{Standing.{clean, cleaned, either, remembered, no_rows, no_names, PassesAlike, StandsFor, LooksAlike}, Inputs.{IsNameDifference}}
use Rattle.join_memory.specs.{Inputs.{IsStepped}, Valued.{without_value, shows_value, valued}}
use Rattle.counting_node.specs.{Extras.{AreApart, IsExtraFor, IsTallyLaden, extra_for, rows_of_extras, AllLaden, CountsOthers}, Gathers.{gathers, tested}}
use Rattle.counting_node.specs.{Gathers.{result_for, is_result}, Origins.{itself, shows_any}, Tallies.{TallyStep, shown, SeeAlike}}

-- the candidates of the world that pass for a row, forgotten ones too
abbrev pub all_passing : (Row → Named → Bool) → (Named → Bool) → Row → Named → Bool
all_passing pass names row who = names who && pass row who

-- The memories stand for left rows and candidates, and the tally of each kept left row is that of all candidates that pass, forgotten
-- ones too.
pub record StandsCounted {T : Type 0} (holds : T → Look → (Named → Bool) → Type 0) (m : Memories T) (look world : Look) (pass : Row → Named → Bool) (rows : Row → Bool) (names forgotten : Named → Bool) : Type 0 where
  pub stands : StandsFor m look rows names forgotten
  pub counts : (row : Row) (t : T) → left_at m look row ≡ Some t → holds t world (all_passing pass names row)

-- What is asked of forgotten candidates: where they pass for a row that stays, they neither come nor go, and for no row that comes do
-- they pass.
pub record ForgottenStay (pass : Row → Named → Bool) (rows rows_now : Row → Bool) (names names_now forgotten : Named → Bool) (left : Delta) : Type 0 where
  pub stays : (row : Row) (who : Named) → cleaned rows forgotten row ≡ true → cleaned rows_now forgotten row ≡ true → forgotten who ≡ true → all_passing pass names row who ≡ all_passing pass names_now row who
  pub comes : (row : Row) (who : Named) → has left.come row ≡ true → forgotten who ≡ true → all_passing pass names_now row who ≡ false

-- a node that keeps nothing counts nothing
abbrev pub EmptyTallyLaw : (T : Type 0) → (T → Look → (Named → Bool) → Type 0) → Type 0
EmptyTallyLaw T holds = (m : Memories T) (look world : Look) (pass : Row → Named → Bool) (forgotten : Named → Bool)
    → StandsFor m look no_rows no_names forgotten → StandsCounted holds m look world pass no_rows no_names forgotten

-- For the true differences of its two inputs, of what names no forgotten fact, a node that stands for left rows and candidates stands
-- for the new ones, and its tallies are those of all new candidates that pass, forgotten ones too.
abbrev pub TallyLaw : (T : Type 0) → (T → Look → (Named → Bool) → Type 0) → Type 0
TallyLaw T holds = (m n : Memories T) (look world : Look) (pass : Row → Named → Bool) (rows rows_now : Row → Bool) (names names_now forgotten : Named → Bool) (left right : Delta)
    → StandsCounted holds m look world pass rows names forgotten → PassesAlike m.pattern look pass rows names forgotten → PassesAlike m.pattern look pass rows_now names_now forgotten
    → LeadsRows (cleaned rows forgotten) (cleaned rows_now forgotten) left.gone left.come → IsNameDifference (remembered names forgotten) (remembered names_now forgotten) right
    → SeeAlike (either (remembered names forgotten) (remembered names_now forgotten)) look world → ForgottenStay pass rows rows_now names names_now forgotten left
    → IsStepped m n look left right → TallyStep holds look m n left right
    → StandsCounted holds n look world pass rows_now names_now forgotten

-- After its old candidates and the left rows that name an old fact are dropped, a node stands for the same rows and candidates with the
-- old facts forgotten too, and its tallies are still those of all candidates.
abbrev pub TallyForgetLaw : (T : Type 0) → (T → Look → (Named → Bool) → Type 0) → Type 0
TallyForgetLaw T holds = (m n : Memories T) (look world : Look) (pass : Row → Named → Bool) (rows : Row → Bool) (names forgotten old : Named → Bool) (dropped : List Row)
    → StandsCounted holds m look world pass rows names forgotten
    → ((row : Row) → cleaned rows forgotten row ≡ true → has dropped row ≡ not (clean old row))
    → KeepsMemories m n look (λ row. has_left m look row && not (has dropped row)) (λ who. has_right m look who && not (old who))
    → ((row : Row) → left_at n look row ≡ cond (has dropped row) None (left_at m look row))
    → StandsCounted holds n look world pass rows names (either forgotten old)

-- Of the rows that a node has, those go with the left rows that are dropped that name an old fact.
abbrev pub TallyDropLaw : (T : Type 0) → (Row → Option Row) → (ℤ → Row → Bool) → (Look → Row → T → Option ℤ) → Type 0
TallyDropLaw T origin gives output = (m n : Memories T) (look : Look) (rows : Row → Bool) (names forgotten old : Named → Bool) (dropped gone : List Row)
    → StandsFor m look rows names forgotten
    → ((row : Row) → cleaned rows forgotten row ≡ true → has dropped row ≡ not (clean old row))
    → ((row : Row) → left_at n look row ≡ cond (has dropped row) None (left_at m look row))
    → ((row : Row) → has gone row ≡ (shown origin gives output m look row && not (shown origin gives output n look row)))
    → (row : Row) → shown origin gives output m look row ≡ true → has gone row ≡ not (clean old row)

-- In a store with the same facts at the tags that are kept, a node stands for the same.
abbrev pub TallyMoveLaw : (T : Type 0) → (T → Look → (Named → Bool) → Type 0) → Type 0
TallyMoveLaw T holds = (m : Memories T) (look other world : Look) (pass : Row → Named → Bool) (rows : Row → Bool) (names forgotten : Named → Bool)
    → StandsCounted holds m look world pass rows names forgotten → LooksAlike m look other
    → StandsCounted holds m other world pass rows names forgotten

-- Of a list of all candidates, the node has a left row exactly where the line says so of whether one of them passes.
abbrev pub ShownLaw : (T : Type 0) → (T → Look → (Named → Bool) → Type 0) → (Look → Row → T → Option ℤ) → (Bool → Bool) → Type 0
ShownLaw T holds output line = (m : Memories T) (look world : Look) (pass : Row → Named → Bool) (rows : Row → Bool) (names : List Named) (forgotten : Named → Bool)
    → StandsCounted holds m look world pass rows (has_name names) forgotten
    → (row : Row) → shown itself shows_any output m look row ≡ (cleaned rows forgotten row && line (list_any (pass row) names))

-- A row of the node is a left row with one value more, which is what the function of the accumulate gives of all the facts that pass
-- for the left row, where it gives something and the tests of the result hold. `of` lists these facts, each once.
abbrev pub GatheredLaw : Accumulate → Type 0
GatheredLaw a = (m : Memories Held) (look world : Look) (pass : Row → Named → Bool) (rows : Row → Bool) (names forgotten : Named → Bool) (of : Row → List Fact)
    → StandsCounted (gathers a) m look world pass rows names forgotten
    → ((row : Row) → Holds world (of row)) → ((row : Row) → AreDistinct (map name_of (of row)))
    → ((row : Row) (who : Named) → has_name (map name_of (of row)) who ≡ all_passing pass names row who)
    → (row : Row) → shown without_value shows_value (result_for a) m look row
    ≡ valued (λ left v. cleaned rows forgotten left && is_result (tested a (bound_in look left) (result_of a (of left))) v) row

-- ---- extras

-- the forgotten ones of the candidates that pass for a row
abbrev pub lost_passing : (Row → Named → Bool) → (Named → Bool) → (Named → Bool) → Row → Named → Bool
lost_passing pass names forgotten row who = all_passing pass names row who && forgotten who

-- The memories stand for left rows and candidates, of which nothing is forgotten, and the tally of each left row is that of the candidates
-- that pass and of what the row's extra counts more.
pub record StandsLaden {T : Type 0} (holds : T → Look → (Named → Bool) → Type 0) (laden : T → Look → (Named → Bool) → Extra → Type 0) (m : Memories T) (look world : Look) (pass : Row → Named → Bool) (rows : Row → Bool) (names : Named → Bool) (extra : Row → Option Extra) : Type 0 where
  pub stands : StandsFor m look rows names no_names
  pub counts : (row : Row) (t : T) → left_at m look row ≡ Some t → IsTallyLaden holds laden t world (all_passing pass names row) (extra row)

-- Where an extra tells of candidates that are not counted, the tally that counts it more is that of all of them.
abbrev pub LadenLaw : (T : Type 0) → (T → Look → (Named → Bool) → Type 0) → (T → Look → (Named → Bool) → Extra → Type 0) → (Look → List Named → List ℤ) → Type 0
LadenLaw T holds laden gathered = (t : T) (world : Look) (set others : Named → Bool) (extra : Option Extra)
    → IsTallyLaden holds laden t world set extra → AreApart set others → IsExtraFor gathered world others extra → holds t world (either set others)

-- A node that kept nothing stands after a load for the rows and candidates, with the extras.
abbrev pub LoadLaw : (T : Type 0) → (T → Look → (Named → Bool) → Type 0) → (T → Look → (Named → Bool) → Extra → Type 0) → Type 0
LoadLaw T holds laden = (m n : Memories T) (look world : Look) (pass : Row → Named → Bool) (rows : Row → Bool) (names : Named → Bool) (left : List Row) (right : List Named) (extras : List Extra)
    → StandsFor m look no_rows no_names no_names → PassesAlike m.pattern look pass rows names no_names → SeeAlike names look world
    → ((row : Row) → has left row ≡ rows row) → ((who : Named) → has_name right who ≡ names who) → InOrder (rows_of_extras extras)
    → KeepsMemories m n look (λ row. has_left m look row || has left row) (λ who. has_right m look who || has_name right who)
    → AllLaden holds laden look extras (has left) m n
    → StandsLaden holds laden n look world pass rows names (extra_for extras)

-- Where what is kept is what is not forgotten of rows and candidates, and the extras tell of the forgotten candidates that pass, the node
-- stands for all of them.
abbrev pub ResumeLaw : (T : Type 0) → (T → Look → (Named → Bool) → Type 0) → (T → Look → (Named → Bool) → Extra → Type 0) → (Look → List Named → List ℤ) → Type 0
ResumeLaw T holds laden gathered = (m : Memories T) (look world : Look) (pass_kept pass : Row → Named → Bool) (rows_kept rows : Row → Bool) (names_kept names forgotten : Named → Bool) (extra : Row → Option Extra)
    → StandsLaden holds laden m look world pass_kept rows_kept names_kept extra
    → ((row : Row) → rows_kept row ≡ cleaned rows forgotten row) → ((who : Named) → names_kept who ≡ remembered names forgotten who)
    → ((row : Row) (who : Named) → rows_kept row ≡ true → names_kept who ≡ true → pass_kept row who ≡ pass row who)
    → ((row : Row) → cleaned rows forgotten row ≡ true → IsExtraFor gathered world (lost_passing pass names forgotten row) (extra row))
    → StandsCounted holds m look world pass rows names forgotten

-- Beside the kept candidates the tallies of a node that stands for rows and candidates count the forgotten ones that pass.
abbrev pub OthersLaw : (T : Type 0) → (T → Look → (Named → Bool) → Type 0) → Type 0
OthersLaw T holds = (m : Memories T) (look world : Look) (pass : Row → Named → Bool) (rows : Row → Bool) (names forgotten : Named → Bool)
    → StandsCounted holds m look world pass rows names forgotten → PassesAlike m.pattern look pass rows names forgotten → SeeAlike (remembered names forgotten) look world
    → CountsOthers holds m look world (lost_passing pass names forgotten)
