-- How long a move of the clock alone changes nothing.
use Rattle.std.specs.Prelude.{◌≡◌, ◌≤ℤ◌, ◌<ℤ◌, ◌^◌, pos, ℤ, Bool, true, false, Option, Some, None}
use Rattle.row_delta.specs.declared.row.{Named.{Named}, Row.{Row}}
use Rattle.rule_model.specs.{declared.program.Program.{Program}, Distinct.{HaveDistinctTags}, Rows.{pattern_of}, Snapshots.{Snapshot}}
use Rattle.join_tests.specs.Joins.{Look}
use Rattle.join_memory.specs.Standing.{cleaned}
use Rattle.condition_rows.specs.{Lines.{line}, Looks.{HasAllOf, NameHeld}, Sets.{candidates_of}}
use Rattle.beta_node.specs.{declared.node.Node.{Node}, Nodes.{condition_of, NodeStands}}

-- the snapshot at another clock
abbrev pub at_clock : Snapshot → ℤ → Snapshot
at_clock s clock = record s { clock = clock }

-- the clock is before this moment, where there is one
abbrev pub IsBefore : Option ℤ → ℤ → Type 0
IsBefore None clock = Unit {0}
IsBefore (Some moment) clock = clock <ℤ moment

-- until this moment the clock alone changes nothing in what the condition makes of rows before it, where it does not change the candidates
abbrev pub IsQuiet : Program → Node → Option ℤ → Type 0
IsQuiet p node until = (look : Look) (s : Snapshot) (rows : Row → Bool) (forgotten : Named → Bool) (clock : ℤ)
    → HaveDistinctTags s.facts → HasAllOf look s forgotten → NameHeld s rows → NodeStands p node look s rows forgotten
    → pos 0 ≤ℤ s.clock → s.clock ≤ℤ clock → clock <ℤ pos (2 ^ 63) → IsBefore until clock
    → ((who : Named) → candidates_of p (pattern_of (condition_of node)) (at_clock s clock) who ≡ candidates_of p (pattern_of (condition_of node)) s who)
    → (row : Row) → cleaned (line p (at_clock s clock) (condition_of node) rows) forgotten row ≡ cleaned (line p s (condition_of node) rows) forgotten row

-- at this moment the clock alone makes a row of rows before the condition, where it does not change the candidates
abbrev pub IsDue : Program → Node → ℤ → Type 0
IsDue p node moment = (look : Look) (s : Snapshot) (rows : Row → Bool) (forgotten : Named → Bool)
    → HaveDistinctTags s.facts → HasAllOf look s forgotten → NameHeld s rows → NodeStands p node look s rows forgotten
    → ((who : Named) → candidates_of p (pattern_of (condition_of node)) (at_clock s moment) who ≡ candidates_of p (pattern_of (condition_of node)) s who)
    → (row : Row) × (cleaned (line p s (condition_of node) rows) forgotten row ≡ false) × (cleaned (line p (at_clock s moment) (condition_of node) rows) forgotten row ≡ true)
