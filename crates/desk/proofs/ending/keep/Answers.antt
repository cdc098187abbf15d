use Rattle.{std.proofs.{Common.{◌⊎◌, inl, inr}, lemmas.Result.{on_err_weaker, on_ok_weaker}}, checkpoint.specs.Pieces.{whole}}
use Rattle.desk.proofs.ending.keep.Goals as goal

pub returns-clause-put : goal.returns-clause-put
returns-clause-put g c = on_ok_weaker c.put_image.result (λ kept. (whole c.in_ok-image.image, c.in_ok-image.ensures.run, c.in_ok-image.ensures.image, kept)) c.put_image.ensures.put

pub returns-clause-refused : goal.returns-clause-refused
returns-clause-refused g c why is = (whole c.in_ok-image.image, c.in_ok-image.ensures.run, c.in_ok-image.ensures.image, c.put_image.ensures.refused why is)

pub returns-clause-failed : goal.returns-clause-failed
returns-clause-failed g c =
    on_err_weaker c.put_image.result (λ (h : _ ⊎ _). elim h [ inl same ↦ inl same | inr kept ↦ inr (whole c.in_ok-image.image, c.in_ok-image.ensures.run, c.in_ok-image.ensures.image, kept) ]) c.put_image.ensures.failed
