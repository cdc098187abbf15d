use Rattle.{drl_action.proofs.{Common.{◌≡◌, ◌∷◌, drop, get_or, arith, to_ascii_lowercase}, Setters.{renamed_is_text}}, std.proofs.lemmas.Grind.{common_steps}}
use Rattle.drl_action.proofs.setter.setter_field.Goals as goal

pub unwrap-name-requires : goal.unwrap-name-requires
unwrap-name-requires c =
    let is : c.deref.result.now ≡ to_ascii_lowercase (get_or (drop 3 c.args.word.now) 0 0) ∷ drop 1 (drop 3 c.args.word.now) = grind (arith, common_steps) in
    renamed_is_text c.args.word.now c.deref.result.now c.from_utf8.result _ _ c.utf8.word (grind (arith, common_steps)) (grind (arith, common_steps)) is c.from_utf8.ensures.cases
