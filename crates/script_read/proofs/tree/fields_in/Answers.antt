use Rattle.script_read.proofs.{Common.{◌≡◌, Some, refl, sym, ap, subst, ◌∙◌, insert, value_view, put_given, tree_given, IsRising}, Fields.{one_field}}
use Rattle.{script_read.proofs.Rising.{none_rise, put_rises}, serde_json.specs.Data.{no_members}}
use Rattle.script_read.proofs.tree.fields_in.Goals as goal

pub loop-name-init : goal.loop-name-init
loop-name-init c = record {
  so_far = (no_members, sym c.in_ok-fields.ensures.items, refl);
  rising = none_rise c.in_ok-fields.fields.items c.in_ok-fields.ensures.items;
}

pub loop-name-preserved : goal.loop-name-preserved
loop-name-preserved c =
    let before = c.loop-name.fields.items in
    let m = c.loop-name-item.result in
    let given = c.in-Some-2.given in
    let says : tree_given (value_view m.1) ≡ Some given = rw c.in-Some-2.is at c.in_ok-given.ensures in
    let put_in : c.insert.new.self.items ≡ put_given m.0.now given before =
    c.in_ok-insert.ensures.items ∙ ap (λ name. insert before c.in-Some.place (name, given)) c.in_ok-name.ensures
    ∙ sym (subst (λ fs. put_given m.0.now given fs ≡ insert fs c.in-Some.place (m.0.now, given)) c.as_slice.ensures.value (c.in-Some.ensures.place given)) in
    record {
      so_far = one_field c.args.members.now c.loop-name.name-index m given before c.insert.new.self.items c.loop-name-test.true c.loop-name-item.is says put_in c.loop-name.invariant.so_far;
      rising = subst IsRising (sym put_in) (put_rises before m.0.now given c.loop-name.invariant.rising);
    }
