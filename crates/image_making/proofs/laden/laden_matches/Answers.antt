use Rattle.std.proofs.Common.{sym, ◌∙◌}
use Rattle.image_making.proofs.laden.laden_matches.Goals as goal

pub returns-clause-matches : goal.returns-clause-matches
returns-clause-matches c owners own m =
    let same = c.in_ok-matches_of.ensures.matches m in
    let rows = c.in_ok-changes.ensures.rows owners own m in (λ e. rows.0 (sym same ∙ e), λ h. same ∙ rows.1 h)
