-- Why a live run does not go, and what becomes of a change of rules, as the code tells it.
use Rattle.std.specs.Prelude.{◌≡◌, Option}
use Rattle.change_rules.specs.Staying.{place_in}
use Rattle.desk.specs.declared.{changing.{Asked.{Asked}, Outcome.{Outcome, TheVariants.{Taken, Refused, Unfit}}}, going.Bar.{Bar, TheVariants.{Line, NoMemory}}}
use Rattle.desk.specs.{declared.{going.{Found.{Found}, Inferred.{Inferred}}, wanted.{Begun.{Begun}, Changing.{Changing}, Setting.{Setting}}}, Changes.{Changed}}
use Rattle.desk.specs.{Changes.{IsRefusedOver, IsUnfit, begun_over}, Going.{AreInferred, IsBarred, IsTold, MayGoBy, change_text, table_in}, Meanings.{is_text}}
use Rattle.life_meaning.specs.Tables.{AreLives, IsSafeTable}
use Rattle.replay.specs.declared.beginning.Beginning.{Beginning}
use Rattle.rule_change.specs.{declared.code.ChangeCode.{ChangeCode}, Changed.{AreFrom}, Told.{rules_told}}
use Rattle.rule_lines.specs.Told.{told_lines}
use Rattle.rule_model.specs.declared.{life.LifeTable.{LifeTable}, program.Program.{Program}}

-- the table by which a run goes from a beginning, by the lives that are inferred, and what its images say of it
abbrev pub IsFoundWith : Program → Inferred → Beginning → Option LifeTable → Found → Type 0
IsFoundWith p inferred beginning lives found =
    (found.table ≡ table_in p inferred beginning lives) × IsTold inferred.own found.table found.told × MayGoBy p inferred found.table

-- why no run goes by it
abbrev pub IsBarWith : Program → Inferred → Beginning → Option LifeTable → Bar → Type 0
IsBarWith p inferred beginning lives (Line text) = IsBarred p inferred (table_in p inferred beginning lives) text.items
IsBarWith p inferred beginning lives NoMemory = Unit {0}

-- with these rules to come
abbrev pub IsFoundOf : Program → Option Program → Beginning → Option LifeTable → Found → Type 0
IsFoundOf p later beginning lives found = (inferred : Inferred) × AreInferred p later inferred × IsFoundWith p inferred beginning lives found

abbrev pub IsBarOf : Program → Option Program → Beginning → Option LifeTable → Bar → Type 0
IsBarOf p later beginning lives (Line text) =
    (inferred : Inferred) × AreInferred p later inferred × IsBarred p inferred (table_in p inferred beginning lives) text.items
IsBarOf p later beginning lives NoMemory = Unit {0}

abbrev pub IsBar : Begun → Bar → Type 0
IsBar b bar = IsBarOf b.setting.program b.setting.later b.beginning b.lives bar

-- what is asked of the rules of a run over the worlds of an image of these old ones
pub record IsAsked (setting : Setting) (old : Program) (asked : Asked) : Type 0 where
  pub needs : AreLives setting.program asked.needs
  pub safe : IsSafeTable setting.program asked.needs
  pub from : AreFrom old setting.program (place_in asked.places.items)
  pub told : asked.told.items ≡ told_lines (is_text setting.form) (rules_told old setting.program (place_in asked.places.items))

abbrev pub IsOutcome : Changing → Outcome → Type 0
IsOutcome c (Taken begun lines) = (to : Changed c) × (begun ≡ begun_over c to) × (lines.items ≡ to.lines)
IsOutcome c (Refused line) = (code : ChangeCode) × IsRefusedOver c code × (line.items ≡ change_text c.setting.program code)
IsOutcome c Unfit = IsUnfit c
