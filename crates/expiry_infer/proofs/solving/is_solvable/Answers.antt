use Rattle.expiry_infer.{specs.Solvable.{can_match}, proofs.{Matching.{can_match_is_exact, same_answer}, Reaching.{answered}}}
use Rattle.expiry_infer.proofs.solving.is_solvable.Goals as goal

pub returns : goal.returns
returns c =
    let p = c.args.program.now in
    let conditions = c.args.conditions.now in
    let meaning = answered p conditions c.requires.few c.requires.named c.in_ok-found.found c.is_some.result c.is_some.ensures c.in_ok-found.ensures in
    record {
      answer = same_answer c.is_some.result (can_match p conditions) meaning (can_match_is_exact p conditions c.requires);
      meaning = meaning;
    }
