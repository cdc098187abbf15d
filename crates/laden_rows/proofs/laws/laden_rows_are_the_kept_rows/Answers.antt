use Rattle.laden_rows.proofs.Rows.{laden_rows, counted_kept, gathered_kept}
use Rattle.laden_rows.proofs.laws.laden_rows_are_the_kept_rows.Goals as goal

pub returns-clause-rows : goal.returns-clause-rows
returns-clause-rows c p s t forgotten extras owners d of are own place rule stands n row = laden_rows p s t forgotten extras owners d of are own place rule stands n row

pub returns-clause-counted : goal.returns-clause-counted
returns-clause-counted c p s t forgotten extras owners d of are own place rule stands k condition at_k aside row is =
    counted_kept p s t forgotten extras owners d of are own place rule stands k condition at_k aside row is

pub returns-clause-gathered : goal.returns-clause-gathered
returns-clause-gathered c p s t forgotten extras owners d of are own place rule stands k a at_k row is =
    gathered_kept p s t forgotten extras owners d of are own place rule stands k a at_k row is
