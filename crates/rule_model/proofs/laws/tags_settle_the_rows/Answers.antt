use Rattle.rule_model.proofs.{Grown.{row_grown}, Once.{tags_settle}}
use Rattle.rule_model.proofs.laws.tags_settle_the_rows.Goals as goal

pub returns : goal.returns
returns c p s d cs a b is also e = tags_settle p s d cs a b (row_grown p s cs a is) (row_grown p s cs b also) e
