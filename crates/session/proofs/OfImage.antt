-- What a session is made of is that of an image.
use Rattle.session.proofs.Common.{◌≡◌, ◌∙◌, ℤ, List, ap, Extra, FiredMatch, Image, HeldFacts, FitsPlainly, Setting, stored, Course}
use Rattle.{session.specs.Restores.{AreOfImage}, rule_model.specs.declared.moment.Moment.{Moment}}

pub are_of_image : (setting : Setting) (image : Image) → FitsPlainly setting.program setting.lives image → (moment : Moment) (course : Course) (clock : ℤ) → moment.clock ≡ clock → clock ≡ image.clock
    → moment.last_starts.now ≡ course.last_starts → moment.promises.now ≡ course.promises
    → course ≡ record { last_starts = image.last_starts; promises = image.promises; begun = image.begun } → (extras : List Extra) → extras ≡ image.extras → (fired : List FiredMatch) → fired ≡ image.fired
    → (facts : HeldFacts) → facts ≡ stored image.facts → AreOfImage setting image moment extras fired facts
are_of_image setting image plain moment course clock at same starts promises is extras counted fired marks facts held = record {
  plain = plain;
  clock = at ∙ same;
  last_starts = starts ∙ ap (λ (x : Course). x.last_starts) is;
  promises = promises ∙ ap (λ (x : Course). x.promises) is;
  counted = counted;
  marks = marks;
  held = held;
}
