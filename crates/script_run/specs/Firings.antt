-- What a fire command does, for an engine of these meanings, when the run has so many firings left.
use Rattle.std.specs.Prelude.{ℕ, zero, suc, pred, Bool, true, nat_lt, List, [], ◌++◌, Option, Some, None, option_map, if◌then◌else◌}
use Rattle.rule_model.specs.declared.{life.LifeTable.{LifeTable}, program.Program.{Program}}
use Rattle.rule_world.specs.Worlds.{World}
use Rattle.script_read.specs.declared.asked.Change.{Change}
use Rattle.answer_lines.specs.declared.lines.OutLine.{OutLine}

-- the lines of a change in a world, and the next world
abbrev pub Gives : Type 0
Gives = Program → World → Change → List OutLine × World

-- the lines of one firing, and the next world; a match is pending exactly where this is something
abbrev pub Fires : Type 0
Fires = Program → World → Option (List OutLine × World)

-- how many events of each event type are kept in a world, with a table of the lives of the program's types
abbrev pub Counts : Type 0
Counts = Program → LifeTable → World → List ℕ

-- the same of a program with its table
abbrev pub Numbers : Type 0
Numbers = World → List ℕ

-- what the firings come to: no match is pending any more or the command wants no more, with the world then and the firings
-- left, or a match is pending and no firing is left
pub data Firings : Type 0 where
  all_fired : List OutLine → World → ℕ → Firings
  limit_met : List OutLine → Firings

-- lines in front
abbrev pub onto_lines : List OutLine → Firings → Firings
onto_lines lines (all_fired more w left) = all_fired (lines ++ more) w left
onto_lines lines (limit_met more) = limit_met (lines ++ more)

abbrev pub none_left : Option (List OutLine × World) → World → Firings
none_left None w = all_fired [] w 0
none_left (Some f) w = limit_met []

abbrev pub then_fires : Option (List OutLine × World) → World → ℕ → (World → Firings) → Firings
then_fires None w left next = all_fired [] w left
then_fires (Some f) w left next = onto_lines f.0 (next f.1)

-- whether a command that wants so many firings, or as many as there are, wants one
abbrev pub wants_one : Option ℕ → Bool
wants_one None = true
wants_one (Some most) = nat_lt 0 most

abbrev pub one_less : Option ℕ → Option ℕ
one_less most = option_map pred most

-- firings one after the other while a match is pending, at most as many as the command wants, and as many as are left
unfoldable pub firings : Fires → Program → Option ℕ → ℕ → World → Firings
firings fires p most zero w = if wants_one most then none_left (fires p w) w else all_fired [] w zero
firings fires p most (suc left) w =
    if wants_one most then then_fires (fires p w) w (suc left) (firings fires p (one_less most) left) else all_fired [] w (suc left)
