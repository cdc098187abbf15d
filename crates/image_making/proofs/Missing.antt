-- No extra of a changed image is without its row.
use Rattle.{std.proofs.Common.{None, Option, false, sym, true, ℕ, ◌∙◌, ◌≡◌}, checkpoint.specs.declared.image.Image.{Image}, fx_base.specs.Lists.{In}}
use Rattle.{image_change.{proofs.{Changed.{rows_there}, Kept.{IsTaken}, Owners.{owners}}, specs.Images.{IsMovedImage}}, image_laws.specs.Fitting.{Fits}}
use Rattle.{image_laws.specs.Images.{snapshot_of}, laden_rows.specs.Laden.{AreOwners}, rete_net.specs.Loading.{IsThere}}
use Rattle.{row_delta.specs.declared.extra.Extra.{Extra}, rule_change.specs.{Alike.{AreOver}, Refused.{IsVerdict}}, life_meaning.specs.Tables.{AreLives}}
use Rattle.{rule_model.specs.{Lives.{AreShort}, declared.{life.LifeTable.{LifeTable}, program.Program.{Program}}}, rule_world.specs.Worlds.{World}}
use Rattle.image_making.specs.Change.{IsWorldOf}

pub none_missing : (p q : Program) (from : ℕ → Option ℕ) (image made : Image) → AreOver p q from → IsMovedImage p q image made
    → ((owners : ℕ → ℕ → ℕ) → AreOwners q owners → (e : Extra) × In e made.extras × IsThere q (snapshot_of made) made.extras owners e false)
    → (table own : LifeTable) (w : World) → IsWorldOf p table image w → AreLives q own → AreShort own → IsVerdict p q from table own w None → ⊥
none_missing p q from image made over moved missing table own w of lives short verdict =
    let o = owners q in
    let r = missing o.0 o.1 in
    let x = (moved.extras r.0).0 r.1 in
    let t : IsTaken p q from table own w = record { over = over; lawful = of.lawful; safe = of.safe; lives = lives; short = short; verdict = verdict } in
    let torn : true ≡ false = sym (rows_there p q from table own w t image made of.is moved o.0 o.1 r.0 r.1 x.rule x.stands) ∙ r.2 x.rule x.stands in cc

-- nor is one of an image that fits
pub none_missing_there : (p : Program) (table : LifeTable) (image : Image) → Fits p table image
    → ((owners : ℕ → ℕ → ℕ) → AreOwners p owners → (e : Extra) × In e image.extras × IsThere p (snapshot_of image) image.extras owners e false) → ⊥
none_missing_there p table image fits missing =
    let o = owners p in
    let r = missing o.0 o.1 in
    let row = fits.rows o.0 o.1 r.0 r.1 in
    let torn : true ≡ false = sym row.there ∙ r.2 row.rule row.stands in cc
