use Rattle.drl_lex.proofs.FileLaws.{tokens_sound, tokens_again, refused_sound, refused_again}
use Rattle.drl_lex.proofs.laws.lexed_is_exact.Goals as goal

pub returns-clause-tokens : goal.returns-clause-tokens
returns-clause-tokens c tokens = (tokens_again tokens c.args.bytes.now, tokens_sound tokens c.args.bytes.now)

pub returns-clause-refused : goal.returns-clause-refused
returns-clause-refused c code place = (refused_again code place c.args.bytes.now, refused_sound code place c.args.bytes.now)
