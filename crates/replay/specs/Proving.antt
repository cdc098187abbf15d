-- What is written of certificates where a write failed, or memory was refused.
use Rattle.std.specs.Prelude.{◌≡◌, ◌⊎◌, ℕ, List, Option}
use Rattle.fx_io.specs.Outside.{AppendsFront}
use Rattle.rule_model.specs.declared.{life.LifeTable.{LifeTable}, program.Program.{Program}}
use Rattle.life_meaning.specs.Tables.{AreLives}
use Rattle.life_proof.specs.{declared.part.Proof.{Proof}, Good.{IsGood}}
use Rattle.replay.specs.Certificates.{proof_text}

-- nothing, or the front of good certificates
abbrev pub IsProofFront : Program → Option (List ℕ) → Option (List ℕ) → Type 0
IsProofFront p before after =
    (after ≡ before) ⊎ ((table : LifeTable) × AreLives p table × (certificate : Proof) × IsGood p table certificate × AppendsFront before after (proof_text p certificate))
