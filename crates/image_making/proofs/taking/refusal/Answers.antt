use Rattle.image_making.proofs.taking.refusal.Goals as goal

pub returns-clause-verdict : goal.returns-clause-verdict
returns-clause-verdict c w of = c.in_ok-verdict.ensures.verdict w (c.in_ok-none.ensures.none c.args.kept.now w of.lawful of.safe of.is)
