use Rattle.command_words.proofs.{Common.{◌≡◌, ◌∙◌, true, false, map, string_bytes, sym, ap, inl, inr, kind_of, ErrorKind}, Faults.{taken, refused}}
use Rattle.clap.specs.{Words.{app_of}, contracts.error.kind.ErrorKind.{the_type}, declared.error.kind.ErrorKind.TheVariants.{OutOfMemory}}
use denote.Enum.Bare.{sameb}
use Rattle.command_words.proofs.command.parse.Goals as goal

pub returns-in-Ok : goal.returns-in-Ok
returns-in-Ok c =
    taken (app_of c.args.command) (map string_bytes c.args.words.now) _ (c.in-Ok.ensures.kinds c.requires.free) (c.in-Ok.ensures.matches c.requires.simple).0

pub returns : goal.returns
returns c =
    elim (c.in-Err.ensures.kinds c.requires.free) [
      | inl h ↦ let bad : false ≡ true = sym c.if-eq.false ∙ c.eq.ensures ∙ ap (λ (k : ErrorKind). sameb the_type k OutOfMemory) (c.kind.ensures ∙ h) in cc
      | inr h ↦ refused (app_of c.args.command) (map string_bytes c.args.words.now) (kind_of c.in-Err.fault) h
    ]
