-- Tests that hold together.
use Rattle.life_proof.proofs.Common.{◌≡◌, true, false}

pub false_is : {P : Type 0} → false ≡ true → P
false_is e = absurd cc
