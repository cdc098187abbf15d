-- Where a live run begins, by the bytes of the file of its image.
use Rattle.std.proofs.Common.{◌≡◌, ◌≢◌, ◌+◌, ◌≤◌, ◌<◌, ℕ, Bool, true, false, List, length, take, Option, Some, None, refl, sym, ap, ◌∙◌}
use Rattle.{std.specs.{Prelude.{IfSome, nat_lt}, Str.{bytes_eq}}, checkpoint.specs.declared.image.Image.{Image}, desk_image.specs.Reading.{desk_decoded}}
use Rattle.{fx_io.specs.Outside.{IsMissing, IsOnShelf, file_told}, replay.specs.declared.beginning.Beginning.TheVariants.{Behind, First}}
use Rattle.replay.specs.{declared.refused_checkpoint.CheckpointCode.TheVariants.{TooLong}, Checkpoints.{image_limit}, Wanted.{Files}}
use Rattle.{replay.proofs.ImagesRead.{is_long, is_short}, rule_model.specs.declared.life.LifeTable.{LifeTable}, desk.specs.Wanted.{begins, changes}}
use Rattle.desk.{specs.Wanted.{cannot_begin, start_by, start_in, start_of}, proofs.Common.{long_taken, short_file, take_all}}

pub too_long : (rules bytes : List ℕ) → 1073741824 < length bytes → start_of rules bytes ≡ cannot_begin TooLong
unfolding start_of
too_long rules bytes more = rw (is_long (length bytes) more) refl

pub by_decoded : (rules bytes : List ℕ) (found : Option (Option LifeTable × Image)) → length bytes ≤ 1073741824 → desk_decoded bytes ≡ found → start_of rules bytes ≡ start_by rules found
unfolding start_of
by_decoded rules bytes found most e = rw (is_short (length bytes) most) (ap (start_by rules) e)

pub of_same : (rules bytes : List ℕ) (lives : Option LifeTable) (image : Image) → length bytes ≤ 1073741824 → desk_decoded bytes ≡ Some (lives, image) → bytes_eq image.run.rules rules ≡ true
    → start_of rules bytes ≡ begins (Behind image) lives
of_same rules bytes lives image most e same = by_decoded rules bytes (Some (lives, image)) most e ∙ (rw same refl)

pub of_others : (rules bytes : List ℕ) (lives : Option LifeTable) (image : Image) → length bytes ≤ 1073741824 → desk_decoded bytes ≡ Some (lives, image) → bytes_eq image.run.rules rules ≡ false
    → start_of rules bytes ≡ changes lives image
of_others rules bytes lives image most e other = by_decoded rules bytes (Some (lives, image)) most e ∙ (rw other refl)

-- one byte more than an image may have tells whether it has too many
start_taken : (long : Bool) (rules file : List ℕ) → nat_lt image_limit (length file) ≡ long → start_of rules (take (image_limit + 1) file) ≡ start_of rules file
unfolding start_of
start_taken false rules file e = ap (start_of rules) (take_all (image_limit + 1) file (short_file image_limit (length file) e))
start_taken true rules file e = rw (long_taken image_limit file e, e) refl

start_read : (rules : List ℕ) (o : Option (List ℕ)) (read : List ℕ) → (o ≢ None) → IfSome o (λ file. read ≡ take (image_limit + 1) file) → start_in rules o ≡ start_of rules read
start_read rules None read found h = absurd (found refl)
start_read rules (Some file) read found h = sym (ap (start_of rules) h ∙ start_taken (nat_lt image_limit (length file)) rules file refl)

-- the file that was read
pub start_found : (rules name : List ℕ) (told : Option Files) (files : Files) (read : List ℕ) → told ≡ Some files → IsOnShelf told name → IfSome (file_told told name) (λ file. read ≡ take (image_limit + 1) file)
    → start_in rules (files name) ≡ start_of rules read
start_found rules name told files read e there h =
    let is_found : files name ≢ None = rw e at there in
    let whole : IfSome (files name) (λ file. read ≡ take (image_limit + 1) file) = rw e at h in
    start_read rules (files name) read is_found whole

-- there is none
pub start_missing : (rules name : List ℕ) (told : Option Files) (files : Files) → told ≡ Some files → IsMissing told name → start_in rules (files name) ≡ begins (First rules) None
start_missing rules name told files e gone = let none : files name ≡ None = rw e at gone in ap (start_in rules) none
