-- What engines answer: the one whose answers are written as text, and the one whose answers are written as objects.
use Rattle.std.specs.Prelude.{Bool, true, false}
use Rattle.script_run.specs.{Firings.{Gives, Fires, Counts}, declared.form.Form.{Form, TheVariants.{Text, Objects}}}

-- the answers of an engine, and how many events it keeps
pub record Meanings : Type 0 where
  pub gives : Gives
  pub fires : Fires
  pub counts : Counts

pub record Engines : Type 0 where
  pub text : Meanings
  pub objects : Meanings

abbrev pub both : Gives → Fires → Counts → Gives → Fires → Counts → Engines
both gives fires counts gives' fires' counts' = record {
  text = record { gives = gives; fires = fires; counts = counts };
  objects = record { gives = gives'; fires = fires'; counts = counts' };
}

-- those of the engine whose answers have this form
abbrev pub meanings : Engines → Form → Meanings
meanings engines Text = engines.text
meanings engines (Objects names) = engines.objects

-- the answers are lines of text
abbrev pub is_text : Form → Bool
is_text Text = true
is_text (Objects names) = false
