-- Of what a session is made that goes on from an image.
use Rattle.std.specs.Prelude.{◌≡◌, List}
use Rattle.row_delta.specs.declared.extra.Extra.{Extra}
use Rattle.checkpoint.specs.declared.image.{FiredMatch.{FiredMatch}, Image.{Image}}
use Rattle.fact_store.specs.Held.{HeldFacts}
use Rattle.rule_model.specs.declared.moment.Moment.{Moment}
use Rattle.image_fitting.specs.Plain.{FitsPlainly}
use Rattle.session_model.specs.{declared.setting.Setting.{Setting}, Restoring.{stored}}

-- the moment, what is counted beyond the facts, the fired matches and the held facts are those of an image that fits by plain tests
pub record AreOfImage (setting : Setting) (image : Image) (moment : Moment) (extras : List Extra) (fired : List FiredMatch) (facts : HeldFacts) : Type 0 where
  pub plain : FitsPlainly setting.program setting.lives image
  pub clock : moment.clock ≡ image.clock
  pub last_starts : moment.last_starts.now ≡ image.last_starts
  pub promises : moment.promises.now ≡ image.promises
  pub counted : extras ≡ image.extras
  pub marks : fired ≡ image.fired
  pub held : facts ≡ stored image.facts
