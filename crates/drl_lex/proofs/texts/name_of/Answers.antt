use Rattle.drl_lex.proofs.Utf8.{word_is_text}
use Rattle.drl_lex.proofs.texts.name_of.Goals as goal

pub unwrap-requires : goal.unwrap-requires
unwrap-requires c = word_is_text c.args.bytes.now c.from_utf8.result _ _ c.requires c.from_utf8.ensures.cases
