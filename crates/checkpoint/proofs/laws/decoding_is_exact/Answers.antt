use Rattle.checkpoint.proofs.{Common.{ap, sym, ◌∙◌, decoded}, Whole.{decoded_takes, decoded_again}}
use Rattle.checkpoint.proofs.laws.decoding_is_exact.Goals as goal

pub returns : goal.returns
returns c bytes image octets = (decoded_takes bytes image octets, λ is. ap decoded (sym is.1) ∙ decoded_again image is.0)
