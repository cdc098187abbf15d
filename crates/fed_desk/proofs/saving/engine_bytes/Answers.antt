use Rattle.{std.proofs.{Common.{inl, sym}, lemmas.Result.{IfOk-weaker}}, checkpoint.specs.Pieces.{whole}, fed_desk.proofs.Imaging.{all_ok}}
use Rattle.fed_desk.proofs.saving.engine_bytes.Goals as goal

pub returns-then-not-can_go_on-clause-refused : goal.returns-then-not-can_go_on-clause-refused
returns-then-not-can_go_on-clause-refused g c is =
    (whole c.in_ok-image.image, c.in_ok-image.ensures.run, c.in_ok-image.ensures.image, inl (sym c.if-not-can_go_on.ensures))

pub returns-clause-saved : goal.returns-clause-saved
returns-clause-saved g c =
    let image = c.in_ok-image in
    let bytes = c.bytes_of.ensures in
    IfOk-weaker c.bytes_of.result _ _ (λ it made. (whole image.image, image.ensures.run, image.ensures.image, made.2, sym c.if-not-can_go_on.ensures, made.0, made.1))
    (all_ok c.bytes_of.result _ _ _ bytes.made bytes.short bytes.is_image)
