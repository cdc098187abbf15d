use Rattle.beta_node.proofs.Resuming.{resumes_law}
use Rattle.beta_node.proofs.laws.what_is_loaded_stands_for_what_is_forgotten.Goals as goal

pub returns : goal.returns
returns c = resumes_law
