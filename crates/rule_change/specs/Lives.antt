-- The lives by which a world goes on under other rules.
use Rattle.std.specs.Prelude.{ℕ, Option, None}
use Rattle.rule_model.specs.{declared.{life.LifeTable.{LifeTable}, program.Program.{Program}}, Lives.{AreShort}}
use Rattle.rule_world.specs.Worlds.{World}
use Rattle.life_meaning.specs.Tables.{AreLives, IsSafeTable}
use Rattle.rule_change.specs.{Changed.{carried}, Refused.{IsVerdict}, Alike.{AreOver}}

-- what is not refused for its lives goes on by a safe table
abbrev pub CarriedIsSafe : Type 0
CarriedIsSafe = (p q : Program) (from : ℕ → Option ℕ) (table own : LifeTable) (w : World) → AreOver p q from
    → IsSafeTable p table → AreLives q own → AreShort own → IsVerdict p q from table own w None → IsSafeTable q (carried p q table own)
