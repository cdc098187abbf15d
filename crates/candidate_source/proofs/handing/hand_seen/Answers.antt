use Rattle.{candidate_source.proofs.{Common.{◌∙◌, ap, Option, ◌∷◌, option_map, Value}, Places.{handed_both}}, std.proofs.lemmas.Result.{on_ok_weaker}}
use Rattle.{std.specs.Borrow.{Bor}, join_tests.specs.Kept.{one_or_none}}
use Rattle.candidate_source.proofs.handing.hand_seen.Goals as goal

pub returns-in-Some : goal.returns-in-Some
returns-in-Some c =
    let is = c.sought.ensures ∙ ap (λ (other : Option (Bor Value)). c.sought.result.0.now ∷ one_or_none (option_map (λ v. v.now) other)) c.in-Some.is in
    on_ok_weaker c.hand_under-in-Some.result
    (handed_both c.args.reached.now c.args.turned c.args.handed.now c.hand_under.new.handed c.hand_under-in-Some.new.handed c.sought.result.0.now _ c.in-Some.second.now is c.in_ok-hand_under.ensures)
    c.hand_under-in-Some.ensures
