use Rattle.{join_memory.proofs.Common.{◌∙◌, sym, ap, is_some}, std.proofs.lemmas.Bool.{false≢true}}
use Rattle.join_memory.proofs.memories.Memories.new.Goals as goal

pub returns-clause-nothing : goal.returns-clause-nothing
returns-clause-nothing g c look forgotten = record {
  rows = λ row. ap is_some (c.new-2.ensures.kept _ row);
  names = λ who. ap is_some (c.new-3.ensures.kept _ who);
  agrees = record {
    rows = λ value row e. absurd (false≢true (sym (ap is_some (c.new-2.ensures.kept value row)) ∙ e));
    names = λ value who e. absurd (false≢true (sym (ap is_some (c.new-3.ensures.kept value who)) ∙ e));
  };
}
