use Rattle.drl_lex.proofs.Utf8.{text_from}
use Rattle.drl_lex.proofs.texts.as_text.Goals as goal

pub returns : goal.returns
returns c = rw c.ok.ensures.value (text_from c.args.bytes.now c.from_utf8.result _ c.from_utf8.ensures.cases)
