use Rattle.drl_parse.proofs.{FileTurns.{file_given, fault_given}, BodyLaws.{items_read}}
use Rattle.drl_parse.proofs.parsing.parse.Goals as goal

pub returns-clause-file : goal.returns-clause-file
returns-clause-file c = file_given c.args.bytes.now c.read_file.result items_read c.read_file.ensures

pub returns-clause-refused : goal.returns-clause-refused
returns-clause-refused c = fault_given c.args.bytes.now c.read_file.result items_read c.read_file.ensures
