use Rattle.{std.proofs.Common.{inl, inr, refl, sym, ℕ}, image_fitting.specs.Plain.{FitsPlainly}, laden_rows.specs.Laden.{AreOwners}}
use Rattle.desk.{specs.Changes.{HasGround, HasNoGround}, proofs.Grounding.{ground_by, none_by, none_fits, plainly_loads}}
use Rattle.desk.proofs.changing.has_ground.Goals.{then-not-is_as_long-via-then-not-is_as_long, then-not-is_as_long-via-else-not-is_as_long+then-not-have_places}
use Rattle.desk.proofs.changing.has_ground.Goals.{then-not-is_as_long-via-else-not-is_as_long+else-not-have_places+then-not-have_names}
use Rattle.desk.proofs.changing.has_ground.Goals as goal

pub returns-then-not-is_as_long-clause-none : goal.returns-then-not-is_as_long-clause-none
returns-then-not-is_as_long-clause-none c none = elim c.then-not-is_as_long.branch [
  | then-not-is_as_long-via-then-not-is_as_long w ↦ inl (sym w.if-not-is_as_long.ensures)
  | then-not-is_as_long-via-else-not-is_as_long+then-not-have_places w ↦ inr (λ places names others safe fits. w.if-not-have_places.ensures.none refl places)
  | then-not-is_as_long-via-else-not-is_as_long+else-not-have_places+then-not-have_names w ↦
      inr (λ places names others safe fits. w.if-not-have_names.ensures.none refl names)
]

pub returns-then-not-have_names-2-clause-none : goal.returns-then-not-have_names-2-clause-none
returns-then-not-have_names-2-clause-none c none = inr (λ places names others safe fits. c.if-not-have_names-2.ensures.none refl others)

pub returns-clause-has : goal.returns-clause-has
returns-clause-has c =
    let ch = c.args.changing.now in
    ground_by c.fits_plainly.result (FitsPlainly ch.old c.args.kept.now ch.image) (HasGround ch c.args.kept.now) c.fits_plainly.ensures.exact (λ fits. record {
      places = c.if-not-have_places.ensures.places refl;
      names = c.if-not-have_names.ensures.names refl;
      other_names = c.if-not-have_names-2.ensures.names refl;
      loads = plainly_loads ch.old c.args.kept.now ch.image c.requires.old fits;
    })

pub returns-clause-none : goal.returns-clause-none
returns-clause-none c =
    let ch = c.args.changing.now in
    none_by c.fits_plainly.result ((owners : ℕ → ℕ → ℕ) × AreOwners ch.old owners) (FitsPlainly ch.old c.args.kept.now ch.image)
    (HasNoGround ch c.args.own.now c.args.kept.now)
    c.fits_plainly.ensures.exact c.fits_plainly.ensures.owners (λ own none. inr (λ places names others safe fits.
    none_fits c.an_image_fits_by_tests_and_rows.ensures ch.old c.args.kept.now ch.image own.0 own.1 none safe fits))
