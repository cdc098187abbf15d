use Rattle.checkpoint.proofs.Given.{front_fit, front_then}
use Rattle.checkpoint.proofs.pieces.put_front.Goals as goal

pub returns-clause-bytes : goal.returns-clause-bytes
returns-clause-bytes c = front_then c.args.image.now _ _ (rw c.as_slice-facts.ensures.value at c.in_ok-put_numbers.ensures.appends)

pub returns-clause-fit : goal.returns-clause-fit
returns-clause-fit c = front_fit c.args.image.now (rw c.as_slice-facts.ensures.value at c.in_ok-put_numbers.ensures.fit)
