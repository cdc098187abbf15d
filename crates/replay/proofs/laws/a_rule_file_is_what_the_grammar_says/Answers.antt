use Rattle.replay.proofs.RuleFileLaws.{Exact, is_read, read_is}
use Rattle.replay.proofs.laws.a_rule_file_is_what_the_grammar_says.Goals as goal

pub returns : goal.returns
returns c found =
    let exact : Exact c.args.bytes.now = record {
      file = c.parsed_is_exact.ensures.file;
      syntax = c.parsed_is_exact.ensures.syntax;
      long = c.parsed_is_exact.ensures.long;
      tokens = c.parsed_is_exact.ensures.tokens;
    } in
    (is_read exact found, read_is exact found)
