-- By which lives a live run goes, which of them its images say, and why it does not begin.
use Rattle.std.specs.Prelude.{◌≡◌, ◌≢◌, ◌⊎◌, ◌≤◌, ◌^◌, ◌++◌, [], ◌∷◌, ℕ, length, true, false, List, Option, Some, None, slice_get, codes}
use Rattle.change_rules.specs.{AsLong.{are_as_long}, Longest.{longest}}
use Rattle.replay.specs.declared.{beginning.Beginning.{Beginning, TheVariants.{First, Behind}}, refused_checkpoint.CheckpointCode.TheVariants.{Unfit}}
use Rattle.replay.specs.Checkpoints.{checkpoint_text}
use Rattle.rule_change.specs.{declared.code.ChangeCode.{ChangeCode, TheVariants.{OtherTypes, OtherEntries, Pending, Longer, Forgotten}}, Refused.{IsFirstPlace}}
use Rattle.rule_change.specs.Refused.{IsLonger}
use Rattle.life_meaning.specs.Tables.{AreLives}
use Rattle.rule_model.specs.declared.{life.LifeTable.{LifeTable}, program.{Program.{Program}, TypeInfo.{TypeInfo}}}
use Rattle.fx_base.specs.declared.ids.TypeId.{TypeId}
use Rattle.desk.specs.declared.going.{Inferred.{Inferred}, Later.{Later}}

-- ---- the line with which other rules are refused

abbrev pub type_name : Option TypeInfo → List ℕ
type_name None = []
type_name (Some ty) = ty.name

-- types are those of these rules
abbrev pub change_code_text : Program → ChangeCode → List ℕ
change_code_text q OtherTypes = codes "OtherTypes"
change_code_text q OtherEntries = codes "OtherEntries"
change_code_text q Pending = codes "Pending"
change_code_text q (Longer ty) = codes "Longer " ++ type_name (slice_get q.types ty.0)
change_code_text q (Forgotten ty) = codes "Forgotten " ++ type_name (slice_get q.types ty.0)

abbrev pub change_text : Program → ChangeCode → List ℕ
change_text q code = codes "refused checkpoint " ++ change_code_text q code ++ 10 ∷ []

-- ---- the lives that are inferred

abbrev pub AreLater : Option Program → Option Later → Type 0
AreLater None None = Unit {0}
AreLater (Some program) (Some later) = (later.program ≡ program) × AreLives program later.lives
AreLater _ _ = ⊥

-- of the types of a program, and of those of rules that are to come, where there are some
pub record AreInferred (p : Program) (to_come : Option Program) (inferred : Inferred) : Type 0 where
  pub own : AreLives p inferred.own
  pub later : AreLater to_come inferred.later

-- of so few types that their places have a number of 16 bits
abbrev pub HaveFewTypes : Option Later → Type 0
HaveFewTypes None = Unit {0}
HaveFewTypes (Some later) = length later.program.types ≤ 2 ^ 16

-- ---- the table by which a run goes

-- in the empty world each life is as long as the rules that are to come need
abbrev pub first_table : Program → LifeTable → Option Later → LifeTable
first_table p own None = own
first_table p own (Some later) = longest p later.program own later.lives

-- behind an image its lives go on, where it says some
abbrev pub behind_table : LifeTable → Option LifeTable → LifeTable
behind_table own None = own
behind_table own (Some lives) = lives

abbrev pub table_in : Program → Inferred → Beginning → Option LifeTable → LifeTable
table_in p inferred (First rules) lives = first_table p inferred.own inferred.later
table_in p inferred (Behind image) lives = behind_table inferred.own lives

-- what the images of the run say of it: nothing, where it is that of the run's own rules
abbrev pub IsTold : LifeTable → LifeTable → Option LifeTable → Type 0
IsTold own table None = table ≡ own
IsTold own table (Some told) = (told ≡ table) × (table ≢ own)

-- it keeps events as long as rules that are to come need them
abbrev pub Lasts : Program → Option Later → LifeTable → Type 0
Lasts p None table = Unit {0}
Lasts p (Some later) table = (ty : ℕ) → IsLonger p later.program table later.lives ty → ⊥

-- a run may go by the table
pub record MayGoBy (p : Program) (inferred : Inferred) (table : LifeTable) : Type 0 where
  pub as_long : are_as_long inferred.own table ≡ true
  pub lasts : Lasts p inferred.later table

-- the first type whose events are kept too short for rules that are to come
abbrev pub IsTooShort : Program → Option Later → LifeTable → List ℕ → Type 0
IsTooShort p None table line = ⊥
IsTooShort p (Some later) table line = (ty : TypeId) × IsFirstPlace (IsLonger p later.program table later.lives) ty.0 × (line ≡ change_text later.program (Longer ty))

-- no run may go by it, which is told by this line
abbrev pub IsBarred : Program → Inferred → LifeTable → List ℕ → Type 0
IsBarred p inferred table line =
    ((are_as_long inferred.own table ≡ false) × (line ≡ checkpoint_text Unfit))
    ⊎ ((are_as_long inferred.own table ≡ true) × IsTooShort p inferred.later table line)
