use Rattle.{replay.{proofs.{Common.{refl, sym, ap, ◌∙◌}, Expanding.{refused_of}}, specs.Refusals.{of_checked_with}}, drl_check.specs.Outcomes.{checked}}
use Rattle.replay.proofs.rule_file.read_expanded.Goals as goal

pub returns-in_ok-check_refusal-in-Err-clause-reading : goal.returns-in_ok-check_refusal-in-Err-clause-reading
returns-in_ok-check_refusal-in-Err-clause-reading c =
    let e = c.args.expanded.now in
    let told = c.in_ok-check_refusal-in-Err.ensures.told e.titles (checked e.file) c.in-Err.ensures.gives in
    λ file is. refused_of file e (checked e.file) c.in_ok-check_refusal-in-Err.field-0 is refl (ap (λ origins. of_checked_with e.titles origins (checked e.file)) (sym c.as_slice-origins.ensures) ∙ told)
