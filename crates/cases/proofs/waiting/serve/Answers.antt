use Rattle.std.proofs.Common.{refl}
use Rattle.cases.proofs.waiting.serve.Goals as goal

pub run-requires : goal.run-requires
run-requires c = record { prompt = λ bytes now h over. rw (c.requires.words, c.requires.files, c.requires.fresh) (rw c.requires.empty at (h _ refl)) }
