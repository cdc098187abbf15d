use Rattle.script_run.proofs.{Common.{◌≡◌, ◌-◌, ◌++◌, ◌||◌, suc, ◌∙◌, sym, ap, arith, firings, setting_with, written_lines, has_fault}, Fired.{no_answer}}
use Rattle.script_run.proofs.Fired.{yes_answer, next_remains, done_remains, enough_remains, end_remains, or_first, or_second}
use Rattle.script_run.proofs.firing.fire_all.Goals as goal
use Rattle.script_run.proofs.firing.fire_all.Goals.{then-faulty, else-faulty}

pub returns-then-not-is_wanting-clause-done : goal.returns-then-not-is_wanting-clause-done
returns-then-not-is_wanting-clause-done g c w st =
    let setting = setting_with c.args.line.live c.args.line.form.now g.E.Engine.gives g.E.Engine.fires g.E.Engine.counts c.args.line.limit (g.E.Engine.made_with c.args.engine) (g.E.Engine.table c.args.engine) in
    let inv = c.loop-left.invariant.remains w st in
    enough_remains setting c.args.line.number (firings g.E.Engine.fires (g.E.Engine.made_with c.args.engine) c.args.most c.args.left w) c.loop-left.most c.loop-left.left inv.0 c.args.text.now.items c.loop-left.text.items c.loop-left.faulty (g.E.Engine.stands c.loop-left.engine)
    inv.2 (sym c.is_wanting.ensures ∙ c.if-not-is_wanting.true) inv.1

pub returns-in-No-clause-done : goal.returns-in-No-clause-done
returns-in-No-clause-done g c w st =
    let setting = setting_with c.args.line.live c.args.line.form.now g.E.Engine.gives g.E.Engine.fires g.E.Engine.counts c.args.line.limit (g.E.Engine.made_with c.args.engine) (g.E.Engine.table c.args.engine) in
    let inv = c.loop-left.invariant.remains w st in
    let answer = rw (c.in-No.is, c.loop-left.invariant.same) at (c.in_ok-next.ensures.answers inv.0 inv.1) in
    let none = no_answer _ inv.0 _ answer in
    done_remains setting c.args.line.number (firings g.E.Engine.fires (g.E.Engine.made_with c.args.engine) c.args.most c.args.left w) c.loop-left.most c.loop-left.left inv.0 c.args.text.now.items c.loop-left.text.items c.loop-left.faulty (g.E.Engine.stands c.in_ok-next.next)
    inv.2 (sym c.is_wanting.ensures ∙ c.if-not-is_wanting.false) none.0 none.1

pub loop-left-preserved : goal.loop-left-preserved
loop-left-preserved g c =
    let setting = setting_with c.args.line.live c.args.line.form.now g.E.Engine.gives g.E.Engine.fires g.E.Engine.counts c.args.line.limit (g.E.Engine.made_with c.args.engine) (g.E.Engine.table c.args.engine) in
    let more : c.loop-left.left ≡ suc (c.loop-left.left - 1) = omega (arith, c.loop-left-test.true) in
    let wants = sym c.is_wanting.ensures ∙ c.if-not-is_wanting.false in
    record {
      same = c.in_ok-next.ensures.program ∙ c.loop-left.invariant.same;
      table = c.in_ok-next.ensures.table ∙ c.loop-left.invariant.table;
      few = omega (arith, c.in_ok-next.ensures.tags, c.loop-left.invariant.few, c.loop-left-test.true);
      remains = λ w st.
          let inv = c.loop-left.invariant.remains w st in
          let answer = rw (c.in-Yes.is, c.loop-left.invariant.same) at (c.in_ok-next.ensures.answers inv.0 inv.1) in
          let some = yes_answer _ c.in-Yes.lines inv.0 _ answer in
          let text = c.in_ok-bad-in-Yes.ensures.text
          ∙ ap (λ p. c.loop-left.text.items ++ written_lines c.args.line.form.now p c.args.line.number c.as_slice-lines.result.now) (c.program.ensures ∙ c.in_ok-next.ensures.program ∙ c.loop-left.invariant.same)
          ∙ ap (λ lines. c.loop-left.text.items ++ written_lines c.args.line.form.now (g.E.Engine.made_with c.args.engine) c.args.line.number lines) (c.as_slice-lines.ensures ∙ some.1.1) in
          let faulty : c.if-faulty.faulty ≡ (c.loop-left.faulty || c.in_ok-bad-in-Yes.bad) = elim c.if-faulty.branch [ then-faulty w ↦ or_first _ _ _ w.if-faulty.true w.faulty-is | else-faulty w ↦ or_second _ _ _ w.if-faulty.false w.faulty-is ] in
          let bad = faulty ∙ ap (λ z. c.loop-left.faulty || z) (c.in_ok-bad-in-Yes.ensures.fault ∙ ap has_fault (c.as_slice-lines.ensures ∙ some.1.1)) in (
            some.0.1,
            some.1.2,
            rw (c.with_one_less-most.ensures wants) (next_remains setting c.args.line.number (firings g.E.Engine.fires (g.E.Engine.made_with c.args.engine) c.args.most c.args.left w) c.loop-left.most c.loop-left.left (c.loop-left.left - 1) inv.0
                c.args.text.now.items c.loop-left.text.items c.loop-left.faulty some.0 c.push_lines.new.text.items c.if-faulty.faulty
                inv.2 wants more some.1.0 text bad),
          );
    }

pub returns-then-not-is_wanting-2-clause-done : goal.returns-then-not-is_wanting-2-clause-done
returns-then-not-is_wanting-2-clause-done g c w st =
    let setting = setting_with c.args.line.live c.args.line.form.now g.E.Engine.gives g.E.Engine.fires g.E.Engine.counts c.args.line.limit (g.E.Engine.made_with c.args.engine) (g.E.Engine.table c.args.engine) in
    let inv = c.loop-left.invariant.remains w st in
    let none : c.loop-left.left ≡ 0 = omega (arith, c.loop-left-test.false) in
    rw (sym none) (enough_remains setting c.args.line.number (firings g.E.Engine.fires (g.E.Engine.made_with c.args.engine) c.args.most c.args.left w) c.loop-left.most c.loop-left.left inv.0 c.args.text.now.items c.loop-left.text.items c.loop-left.faulty (g.E.Engine.stands c.loop-left.engine)
    inv.2 (sym c.is_wanting-2.ensures ∙ c.if-not-is_wanting-2.true) inv.1)

pub returns-clause-done : goal.returns-clause-done
returns-clause-done g c w st =
    let setting = setting_with c.args.line.live c.args.line.form.now g.E.Engine.gives g.E.Engine.fires g.E.Engine.counts c.args.line.limit (g.E.Engine.made_with c.args.engine) (g.E.Engine.table c.args.engine) in
    let inv = c.loop-left.invariant.remains w st in
    let ends = rw c.loop-left.invariant.same at (c.in_ok-turn.ensures.ends inv.0 inv.1) in
    end_remains setting c.args.line.number (firings g.E.Engine.fires (g.E.Engine.made_with c.args.engine) c.args.most c.args.left w) c.loop-left.most c.loop-left.left inv.0 c.args.text.now.items c.loop-left.text.items c.end_firings.new.text.items c.loop-left.faulty c.in_ok-turn.turn (g.E.Engine.stands c.loop-left.engine)
    inv.2 (sym c.is_wanting-2.ensures ∙ c.if-not-is_wanting-2.false) (omega (arith, c.loop-left-test.false)) inv.1 ends
