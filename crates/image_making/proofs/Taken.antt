-- What is made where other rules are taken.
use Rattle.{std.proofs.Common.{None, Option, ap, subst, sym, ℕ, ◌∙◌, ◌≡◌}, checkpoint.specs.declared.image.{Image.{Image}, RunPart.{RunPart}}}
use Rattle.{image_change.specs.Images.{ChangedFits, ChangedIsImage, IsChangedImage}, image_laws.specs.{Fitting.{Fits}, Images.{IsImageOf}}}
use Rattle.{laden_rows.specs.Placed.{IsSmall}, rule_change.specs.{Alike.{AreOver}, Changed.{carried, changed}, Refused.{HaveEntries, HaveTypes}}}
use Rattle.{rule_model.specs.declared.{life.LifeTable.{LifeTable}, program.Program.{Program}}, image_making.specs.Change.{AreRules, IsTakenOver, IsVerdictOf}}

pub are_over : (p q : Program) (from : ℕ → Option ℕ) → AreRules p q from → HaveTypes p q → HaveEntries p q → AreOver p q from
are_over p q from are types entries = record {
  runnable = are.runnable;
  other_runnable = are.other_runnable;
  places = are.places;
  names = are.names;
  other_names = are.other_names;
  have_types = types;
  have_entries = entries;
  are_from = are.are_from;
}

pub taken_over : ChangedIsImage → ChangedFits → (p q : Program) (from : ℕ → Option ℕ) (table own : LifeTable) (image made : Image) (lives : LifeTable)
    → AreOver p q from → IsVerdictOf p q from table own image None → IsChangedImage p q from image made → lives ≡ carried p q table own
    → (run : RunPart) → run.lines ≡ image.run.lines → run.firings ≡ image.run.firings → made.run ≡ run → IsTakenOver p q from table own image made lives
taken_over image_law fits_law p q from table own image made lives over verdict made_so carried_so run lines firings told = record {
  verdict = verdict;
  over = over;
  changed_so = made_so;
  carried_so = carried_so;
  is = λ needs short w of.
      subst (λ (t : LifeTable). IsImageOf q t (changed p q from w) made) (sym carried_so)
      (image_law p q from table own w image made over of.lawful of.safe needs short (verdict w of) of.is made_so);
  fits = λ needs short w of id tag many fired.
      subst (λ (t : LifeTable). Fits q t made) (sym carried_so)
      (fits_law p q from table own w image made over of.lawful of.safe needs short (verdict w of) of.is made_so id tag
      (subst IsSmall (sym (ap (λ (r : RunPart). r.lines) told ∙ lines)) many) (subst IsSmall (sym (ap (λ (r : RunPart). r.firings) told ∙ firings)) fired));
}
