-- What a good certificate shows, over the definitions of networks and lives.
use Rattle.std.specs.Prelude.{◌≡◌, ℕ, ℤ, ◌-ℤ◌, ◌≤ℤ◌, Some, slice_get}
use Rattle.fx_base.specs.declared.times.Times.{Times}
use Rattle.rule_model.specs.{declared.{life.{Life.TheVariants.{Finite}, LifeTable.{LifeTable}}, program.Program.{Program}}, Rows.{pattern_of}}
use Rattle.rule_world.specs.Programs.{IsRunnable}
use Rattle.life_meaning.specs.{Tables.{AreLives, AreSafe}, Lifetimes.{scope, tail, PatternLife}, Networks.{Occurrence}, Reach.{Limit, finite, Below}}
use Rattle.life_meaning.specs.Reach.{SolvesWith, distance}
use Rattle.life_edges.specs.Places.{placed}
use Rattle.life_proof.specs.{declared.part.{Asked.{Asked}, Proof.{Proof}}, Asked.{IsReachAsked}, Good.{IsGood}}

-- In each solution of the network of two conditions that are asked about, an event of the second starts behind the end of one of the first
-- by at most the life less the tail of the second.
abbrev pub BoundsHold : Type 0
BoundsHold = (p : Program) (table : LifeTable) (certificate : Proof) → IsRunnable p → IsGood p table certificate → (a : Asked) (h : IsReachAsked p table a)
    → (n : ℤ) → tail p (pattern_of h.places.j) ≡ finite n → (times : Occurrence → Times)
    → SolvesWith p (scope h.places.rule.conditions (placed a.from h.places.i)) (placed a.from h.places.i) (placed a.to h.places.j) times
    → distance (scope h.places.rule.conditions (placed a.from h.places.i)) (placed a.from h.places.i) (placed a.to h.places.j) times ≤ℤ (a.life -ℤ n)

-- Each finite life is at least what any pattern on the type gives.
abbrev pub LivesSuffice : Type 0
LivesSuffice = (p : Program) (table : LifeTable) (certificate : Proof) → IsRunnable p → IsGood p table certificate
    → (ty : ℕ) (n : ℤ) → slice_get table.lives ty ≡ Some (Finite n) → (l : Limit) → PatternLife p ty l → Below l (finite n)

-- So a table with a good certificate is safe to forget by, where the program has lives at all, whatever they are.
abbrev pub GoodIsSafe : Type 0
GoodIsSafe = (p : Program) (table lives : LifeTable) (certificate : Proof) → IsRunnable p → AreLives p lives → IsGood p table certificate → AreSafe p table
