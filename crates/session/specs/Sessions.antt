-- The worlds for which a session stands.
use Rattle.std.specs.Prelude.{◌≡◌}
use Rattle.rule_world.specs.Worlds.{World}
use Rattle.answer_lines.specs.declared.lines.Detail.TheVariants.{Brief, Full}
use Rattle.session.specs.declared.{session.Session.{Session}, detailed.DetailedSession.{DetailedSession}}
use Rattle.session_model.specs.Standing.{Standing}

abbrev pub SessionStands : Session → World → Type 0
SessionStands s w = Standing s.setting s.memory.value s.state.value w

-- one whose lines tell in brief
abbrev pub StandsInBrief : Session → World → Type 0
StandsInBrief s w = (s.setting.detail ≡ Brief) × SessionStands s w

-- one whose lines tell in full
abbrev pub StandsInFull : DetailedSession → World → Type 0
StandsInFull s w = (s.inside.setting.detail ≡ Full) × SessionStands s.inside w
