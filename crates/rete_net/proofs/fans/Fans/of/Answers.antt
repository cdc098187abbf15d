use Rattle.rete_net.proofs.{Common.{refl, subst, AreLoneFound}, Seated.{all_grown, none_grow}}
use Rattle.rete_net.proofs.fans.Fans.of.Goals as goal

pub loop-parent-init : goal.loop-parent-init
loop-parent-init c = none_grow c.args.nodes.now c.in_ok-fans.fans c.in_ok-fans.ensures.seats c.in_ok-fans.ensures.none c.in_ok-fans.ensures.list c.in_ok-fans.ensures.spans

pub loop-parent-preserved : goal.loop-parent-preserved
loop-parent-preserved c = c.in_ok-put_behind.ensures.grown c.loop-parent.invariant

pub returns-clause-fans : goal.returns-clause-fans
returns-clause-fans c = all_grown c.args.nodes.now c.loop-parent.fans (record c.loop-parent.fans { lone = c.in_ok-lone.lone }) refl refl refl
    (subst (λ seats. AreLoneFound c.args.nodes.now seats c.in_ok-lone.lone) c.deref.ensures.value c.in_ok-lone.ensures) c.loop-parent.invariant

pub returns-clause-empty : goal.returns-clause-empty
returns-clause-empty c = c.loop-parent.invariant.empty
