-- Names from modules that two proofs and more cite, passed on from one place. Declares nothing.
pub use Rattle.std.proofs.Common.{arith, ◌∙◌, ◌≡◌, ap, subst, sym, ◌++◌, List, Some, [], refl, ℕ, ◌∷◌, ◌≤◌, None, length, suc, zero, true, Bool, Option, Err}
pub use Rattle.{std.{proofs.Common.{Ok, Result, cond, ◌&&◌, ◌==◌, ◌-◌}, specs.Prelude.{IfErr, IfOk, codes}}, checkpoint.proofs.Exact.{AreOctets, Exact, behind}}
pub use Rattle.checkpoint.{proofs.Exact.{bind_some, some_is}, specs.Reading.{ReadBytes, TellsDecodeFault, ◌>>=◌, decoded}}
pub use Rattle.checkpoint.specs.declared.{fault.DecodeFault.{DecodeFault, TheVariants.{BadImage, NoMemory}}, image.Image.{Image}}
pub use Rattle.{rule_model.specs.declared.life.{Life.{Life}, LifeTable.{LifeTable}}, desk_image.specs.Bytes.{AreImageLives, AreTableLives, IsImageLife}}
pub use Rattle.desk_image.specs.Bytes.{desk_bytes, life_bytes, lives_bytes}
