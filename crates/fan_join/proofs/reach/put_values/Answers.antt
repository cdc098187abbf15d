use Rattle.fan_join.proofs.{Common.{◌≡◌, ◌∙◌, sym, ap, refl, true, eq_by_cmp, Named, name_cmp, candidate_value, is_member_under}, Reaches.{among_more}}
use Rattle.{fan_join.proofs.Reaches.{under_here, under_stays}, join_memory.proofs.{Joining.{name_decides}, Turning.{any_name}}}
use Rattle.fan_join.proofs.reach.put_values.Goals as goal

pub loop-who-preserved : goal.loop-who-preserved
loop-who-preserved g c =
    let value = λ (who : Named). candidate_value c.args.member.now.pattern (g.F.Facts.map c.args.facts.now) who in
    let stays = under_stays c.loop-who.reached c.put.new.self c.in_ok-value.value c.args.place c.in_ok-put.ensures.kept in
    let here = under_here c.loop-who.reached c.put.new.self c.in_ok-value.value c.args.place c.in_ok-put.ensures.kept in
    record {
      stays = λ v k was. stays v k (c.loop-who.invariant.stays v k was);
      put =
          among_more (eq_by_cmp name_cmp) (λ a b. (name_decides a b).0) c.args.come.now c.loop-who.who-index c.loop-who-test.true any_name _ refl (λ who. is_member_under c.put.new.self (value who) c.args.place ≡ true)
          (λ who before. stays (value who) c.args.place (c.loop-who.invariant.put who before))
          (ap (λ v. is_member_under c.put.new.self v c.args.place) (sym (c.in_ok-value.ensures ∙ c.value.ensures)) ∙ here);
    }
