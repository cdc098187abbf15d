-- What the file of a checkpoint is, by what was read of it, and where a run begins by that.
use Rattle.replay.proofs.Common.{◌≡◌, ◌<◌, ◌≤◌, ℕ, Bool, true, false, List, length, nat_lt, Option, Some, None, inl, inr, refl, sym, ap, ◌∙◌, arith}
use Rattle.replay.proofs.Common.{if◌then◌else◌, bytes_eq, nat_tests, Image, image_bytes, IsImage, Mode, Run, Check, Lives, Proof, Save, AreLives, LifeTable}
use Rattle.replay.proofs.Common.{Program, First, Behind, Beginning, CheckpointCode, TooLong, BadImage, OtherRules, CanBegin, RunsIn, IsUnread, Checkpoint}
use Rattle.replay.{proofs.Common.{has_image, is_refused, of_decoded, wanted_at, wanted_behind, refuses_checkpoint}, specs.Checkpoints.{checkpoint_of}}
use Rattle.{replay.specs.Checkpoints.{image_limit}, checkpoint.{specs.Reading.{decoded}, proofs.{Exact.{AreOctets}, Whole.{decoded_takes, decoded_again}}}}

-- ---- the image of bytes

is_decoded : (bytes : List ℕ) (image : Image) → IsImage image × (image_bytes image ≡ bytes) → decoded bytes ≡ Some image
is_decoded bytes image is = ap decoded (sym is.1) ∙ decoded_again image is.0

none_decoded : (bytes : List ℕ) → AreOctets bytes → ((image : Image) → IsImage image → image_bytes image ≡ bytes → ⊥) → decoded bytes ≡ None
none_decoded bytes octets none = here (decoded bytes) refl
  where
    here : (o : Option Image) → decoded bytes ≡ o → decoded bytes ≡ None
    here None e = e
    here (Some image) e = let is = decoded_takes bytes image octets e in absurd (none image is.0 is.1)

-- ---- what a checkpoint with these bytes is to rules with a text

pub is_long : (n : ℕ) → 1073741824 < n → nat_lt image_limit n ≡ true
unfolding image_limit
is_long n more = grind (arith, nat_tests)

pub is_short : (n : ℕ) → n ≤ 1073741824 → nat_lt image_limit n ≡ false
unfolding image_limit
is_short n most = grind (arith, nat_tests)

pub too_long_is : (rules bytes : List ℕ) → 1073741824 < length bytes → checkpoint_of rules bytes ≡ is_refused TooLong
unfolding checkpoint_of
too_long_is rules bytes more = rw (is_long (length bytes) more) refl

by_decoded : (rules bytes : List ℕ) → length bytes ≤ 1073741824 → checkpoint_of rules bytes ≡ of_decoded rules (decoded bytes)
unfolding checkpoint_of
by_decoded rules bytes most = rw (is_short (length bytes) most) refl

pub bad_image_is : (rules bytes : List ℕ) → length bytes ≤ 1073741824 → AreOctets bytes → ((image : Image) → IsImage image → image_bytes image ≡ bytes → ⊥)
    → checkpoint_of rules bytes ≡ is_refused BadImage
bad_image_is rules bytes most octets none = by_decoded rules bytes most ∙ ap (of_decoded rules) (none_decoded bytes octets none)

by_rules : (rules bytes : List ℕ) (image : Image) (same : Bool) → length bytes ≤ 1073741824 → IsImage image × (image_bytes image ≡ bytes) → bytes_eq image.run.rules rules ≡ same
    → checkpoint_of rules bytes ≡ (if same then has_image image else is_refused OtherRules)
by_rules rules bytes image same most is e =
    by_decoded rules bytes most ∙ ap (of_decoded rules) (is_decoded bytes image is) ∙ ap (λ (b : Bool). if b then has_image image else is_refused OtherRules) e

pub image_is : (rules bytes : List ℕ) (image : Image) → length bytes ≤ 1073741824 → IsImage image × (image_bytes image ≡ bytes) → bytes_eq image.run.rules rules ≡ true
    → checkpoint_of rules bytes ≡ has_image image
image_is rules bytes image most is same = by_rules rules bytes image true most is same

pub other_rules_is : (rules bytes : List ℕ) (image : Image) → length bytes ≤ 1073741824 → IsImage image × (image_bytes image ≡ bytes) → bytes_eq image.run.rules rules ≡ false
    → checkpoint_of rules bytes ≡ is_refused OtherRules
other_rules_is rules bytes image most is other = by_rules rules bytes image false most is other

-- ---- what is wanted behind it

pub refused_is : (mode : Mode) (limit : ℕ) (found : Checkpoint) (code : CheckpointCode) (p : Program) → RunsIn mode → found ≡ is_refused code → wanted_behind mode limit found p ≡ refuses_checkpoint code
refused_is Run limit found code p runs is = rw is refl
refused_is Save limit found code p runs is = rw is refl
refused_is Check limit found code p (inl run) is = absurd cc
refused_is Check limit found code p (inr save) is = absurd cc
refused_is Lives limit found code p (inl run) is = absurd cc
refused_is Lives limit found code p (inr save) is = absurd cc
refused_is Proof limit found code p (inl run) is = absurd cc
refused_is Proof limit found code p (inr save) is = absurd cc

-- where the checkpoint that is named is refused, no run begins
pub unread_at : (mode : Mode) (limit : ℕ) (b : Beginning) (p : Program) → IsUnread (wanted_at mode limit b p) → (table : LifeTable) → AreLives p table → CanBegin p table b → ⊥
unread_at Run limit (First rules) p h = absurd h
unread_at Run limit (Behind image) p h = h
unread_at Save limit (First rules) p h = absurd h
unread_at Save limit (Behind image) p h = h
unread_at Check limit b p h = absurd h
unread_at Lives limit b p h = absurd h
unread_at Proof limit b p h = absurd h
