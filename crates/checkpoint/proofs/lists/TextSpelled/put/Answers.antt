use Rattle.checkpoint.proofs.Common.{subst, ◌∙◌, is_utf8-from_IsUtf8, IsImageText}
use Rattle.checkpoint.proofs.lists.TextSpelled.put.Goals as goal

pub returns-clause-fits : goal.returns-clause-fits
returns-clause-fits c =
    let same = c.as_bytes.ensures.value ∙ c.as_str.ensures in
    subst IsImageText same (c.in_ok-put_string.ensures.fits.0, is_utf8-from_IsUtf8 c.as_bytes.result.now c.as_bytes.ensures.utf8)
