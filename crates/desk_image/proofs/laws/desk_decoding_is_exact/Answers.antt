use Rattle.desk_image.{proofs.{Common.{ap, sym, ◌∙◌}, DeskExact.{desk_again, desk_takes}}, specs.Reading.{desk_decoded}}
use Rattle.desk_image.proofs.laws.desk_decoding_is_exact.Goals as goal

pub returns : goal.returns
returns c bytes lives image octets = (desk_takes bytes lives image octets, λ is. ap desk_decoded (sym is.0) ∙ desk_again lives image is.2 is.1)
