use Rattle.fan_join.proofs.Common.{◌≡◌, ◌∙◌, ap, subst, true, List, eq_by_cmp, Row, row_cmp, value_by, has_place, is_member_under, AreAmong}
use Rattle.{fan_join.proofs.Reaches.{among_more}, std.proofs.lemmas.List.{take_all}, join_memory.proofs.Joining.{row_decides}}
use Rattle.fan_join.proofs.reach.add_reached.Goals as goal

pub loop-row-init : goal.loop-row-init
loop-row-init g c = record { stays = λ k was. was; among = λ row k there. cc }

pub loop-row-preserved : goal.loop-row-preserved
loop-row-preserved g c =
    let look = g.F.Facts.map c.args.facts.now in
    record {
      stays = λ k was. c.in_ok-add_under.ensures.stays k (c.loop-row.invariant.stays k was);
      among = λ row k there.
          among_more (eq_by_cmp row_cmp) (λ a b. (row_decides a b).0) c.args.rows.now c.loop-row.row-index c.loop-row-test.true c.row-item.result c.row-item.result c.row-item.is
          (λ row. is_member_under c.args.reached.now (value_by c.args.key.now look row) k ≡ true → has_place c.add_under.new.places.keys k ≡ true)
          (λ row before reaches. c.in_ok-add_under.ensures.stays k (c.loop-row.invariant.among row k before reaches))
          (λ reaches. c.in_ok-add_under.ensures.added k (ap (λ v. is_member_under c.args.reached.now v k) (c.value.ensures ∙ c.row_value-value.ensures) ∙ reaches)) row there;
    }

pub returns-clause-among : goal.returns-clause-among
returns-clause-among g c =
    subst (λ (rows : List Row). AreAmong c.args.key.now c.args.reached.now (g.F.Facts.map c.args.facts.now) rows c.loop-row.places.keys) (take_all c.loop-row.row-index c.args.rows.now c.loop-row-test.false) c.loop-row.invariant.among
