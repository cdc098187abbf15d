use Rattle.change_rules.{proofs.Common.{List, Rule, ap, ap₂, length, place_in, ◌∙◌}, specs.{Told.{all_told, told_list}, declared.told.ToldRule.{ToldRule}}}
use Rattle.{change_rules.proofs.Telling.{told_is}, rule_change.specs.Told.{gone_told, new_told}, std.proofs.Common.{min}}
use Rattle.change_rules.proofs.told.told_rules.Goals as goal

pub returns : goal.returns
returns c =
    let places = c.args.places.now in
    let stay = c.split_at.result.0.now in
    told_is c.args.old.now c.args.new.now places stay c.min.result (told_list c.tell_new.new.told.items) (told_list c.tell_gone.new.told.items)
    (c.min.ensures ∙ ap (λ (rules : List Rule). min (length places) (length rules)) c.as_slice-rules.ensures) c.split_at.ensures.front
    (c.in_ok-tell_new.ensures
    ∙ ap₂ (λ (told : List ToldRule) (rules : List Rule). all_told (told_list told) (new_told (place_in places) rules 0)) c.new-told.ensures.items
    c.as_slice-rules.ensures)
    (c.in_ok-tell_gone.ensures ∙ ap (λ (rules : List Rule). all_told (told_list c.tell_new.new.told.items) (gone_told stay rules 0)) c.as_slice.ensures)
