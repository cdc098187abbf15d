use Rattle.drl_parse.{proofs.{Common.{whole_at, item_at, is_file, outside, too_long, lexical}, FileLaws.{is_exactly}}, specs.Parsed.{parsed}}
use Rattle.drl_parse.proofs.BodyLaws.{items_read}
use Rattle.drl_parse.proofs.parsing.parsed_is_exact.Goals as goal

pub returns-clause-file : goal.returns-clause-file
unfolding parsed
returns-clause-file c file = is_exactly (whole_at item_at) (is_file file) c.args.bytes.now items_read

pub returns-clause-syntax : goal.returns-clause-syntax
unfolding parsed
returns-clause-syntax c item line = is_exactly (whole_at item_at) (outside item line) c.args.bytes.now items_read

pub returns-clause-long : goal.returns-clause-long
unfolding parsed
returns-clause-long c = is_exactly (whole_at item_at) too_long c.args.bytes.now items_read

pub returns-clause-tokens : goal.returns-clause-tokens
unfolding parsed
returns-clause-tokens c code line = is_exactly (whole_at item_at) (lexical code line) c.args.bytes.now items_read
