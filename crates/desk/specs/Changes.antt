-- Live runs behind images of other rules.
use Rattle.std.specs.Prelude.{◌≡◌, ◌⊎◌, ℕ, false, List, Option, Some}
use Rattle.checkpoint.specs.declared.image.Image.{Image}
use Rattle.image_laws.specs.Fitting.{Fits}
use Rattle.image_making.specs.{Change.{IsTakenOver, IsVerdictOf, IsWorldOf}, Loads.{CanBeLoaded}}
use Rattle.change_rules.specs.AsLong.{are_as_long}
use Rattle.replay.specs.declared.beginning.Beginning.TheVariants.{Behind}
use Rattle.rule_change.specs.{declared.code.ChangeCode.{ChangeCode}, Alike.{HaveNames, HavePlaces}, Changed.{AreFrom}, Told.{rules_told}}
use Rattle.life_meaning.specs.Tables.{AreLives, IsSafeTable}
use Rattle.rule_lines.specs.Told.{told_lines}
use Rattle.rule_model.specs.declared.life.LifeTable.{LifeTable}
use Rattle.rule_world.specs.Worlds.{World}
use Rattle.desk.specs.{declared.wanted.{Begun.{Begun}, Changing.{Changing}}, Going.{behind_table}, Meanings.{is_text}}

-- what is known of the change: the lives that are inferred of the old rules and of the new ones, and which rules stay
pub record Known (c : Changing) : Type 0 where
  pub old_own : LifeTable
  pub are_old : AreLives c.old old_own
  pub own : LifeTable
  pub are_own : AreLives c.setting.program own
  pub from : ℕ → Option ℕ
  pub are_from : AreFrom c.old c.setting.program from

-- the table by which the events of its worlds were kept
abbrev pub kept_by : (c : Changing) → LifeTable → LifeTable
kept_by c old_own = behind_table old_own c.lives

-- of each world of the image, the rules are refused so
abbrev pub IsRefusedOver : Changing → ChangeCode → Type 0
IsRefusedOver c code = (k : Known c) × IsVerdictOf c.old c.setting.program k.from (kept_by c k.old_own) k.own c.image (Some code)

-- the rules are taken: the image and the lives with which the run goes on, and the lines that tell what becomes of each rule
pub record Changed (c : Changing) : Type 0 where
  pub known : Known c
  pub made : Image
  pub lives : LifeTable
  pub taken : IsTakenOver c.old c.setting.program known.from (kept_by c known.old_own) known.own c.image made lives
  pub run : made.run ≡ record c.image.run { rules = c.rules }
  pub lines : List ℕ
  pub told : lines ≡ told_lines (is_text c.setting.form) (rules_told c.old c.setting.program known.from)

-- the run with which it goes on
abbrev pub begun_over : (c : Changing) → Changed c → Begun
begun_over c to = record { setting = c.setting; beginning = Behind to.made; lives = Some to.lives }

-- The image has no such worlds: its lives are none of the old rules, or no world of them has an image that fits. (No accepted rule file has two types of
-- one name, or a pattern of a type that is none.)
abbrev pub IsUnfit : Changing → Type 0
IsUnfit c = (old_own : LifeTable) × AreLives c.old old_own
    × ((are_as_long old_own (kept_by c old_own) ≡ false)
    ⊎ (HavePlaces c.old → HaveNames c.old → HaveNames c.setting.program → (w : World) → IsWorldOf c.old (kept_by c old_own) c.image w → Fits c.old (kept_by c old_own) c.image → ⊥))

-- ---- whether other rules can be asked for

-- by the program of the old rules, the lives and the facts of the image
pub record HasGround (c : Changing) (kept : LifeTable) : Type 0 where
  pub places : HavePlaces c.old
  pub names : HaveNames c.old
  pub other_names : HaveNames c.setting.program
  pub loads : CanBeLoaded c.old c.image

abbrev pub HasNoGround : Changing → LifeTable → LifeTable → Type 0
HasNoGround c own kept =
    (are_as_long own kept ≡ false)
    ⊎ (HavePlaces c.old → HaveNames c.old → HaveNames c.setting.program → IsSafeTable c.old kept → Fits c.old kept c.image → ⊥)
