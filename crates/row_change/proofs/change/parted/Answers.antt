use Rattle.row_change.proofs.{Common.{◌≡◌, ◌∙◌, sym, subst, List, ◌&&◌, ◌||◌, not, true, false, has, Row}, Parts.{to_skipped, both_noted, to_put, both_passed}}
use Rattle.row_change.proofs.change.parted.Goals as goal

pub loop-row-preserved-in-Continue-1 : goal.loop-row-preserved-in-Continue-1
loop-row-preserved-in-Continue-1 c =
    let e : has c.args.from.now.keys c.in-Some.row ≡ true = sym c.contains.ensures ∙ c.if-contains.true in
    record {
      to = λ row. to_skipped c.args.from.now.keys c.loop-row.to.keys c.loop-row.both.items c.next.new.self.rest.items c.in-Some.row row _ e
          (subst (λ (rows : List Row). (has c.loop-row.to.keys row || (has rows row && not (has c.args.from.now.keys row))) ≡ (has c.args.to.now.keys row || (has c.args.rows.items row && not (has c.args.from.now.keys row)))) c.in-Some.ensures.steps.0 (c.loop-row.invariant.to row));
      both = λ row. subst (λ (rows : List Row). (has rows row || (has c.next.new.self.rest.items row && has c.args.from.now.keys row)) ≡ (has c.args.rows.items row && has c.args.from.now.keys row)) (sym c.in_ok-push.ensures.items)
          (both_noted c.args.from.now.keys c.loop-row.to.keys c.loop-row.both.items c.next.new.self.rest.items c.in-Some.row row _ e
          (subst (λ (rows : List Row). (has c.loop-row.both.items row || (has rows row && has c.args.from.now.keys row)) ≡ (has c.args.rows.items row && has c.args.from.now.keys row)) c.in-Some.ensures.steps.0 (c.loop-row.invariant.both row)));
    }

pub loop-row-preserved : goal.loop-row-preserved
loop-row-preserved c =
    let e : has c.args.from.now.keys c.in-Some.row ≡ false = sym c.contains.ensures ∙ c.if-contains.false in
    record {
      to = λ row. to_put c.args.from.now.keys c.loop-row.to.keys c.loop-row.both.items c.next.new.self.rest.items c.in-Some.row row _ c.insert.new.self.keys (c.in_ok-insert.ensures row) e
          (subst (λ (rows : List Row). (has c.loop-row.to.keys row || (has rows row && not (has c.args.from.now.keys row))) ≡ (has c.args.to.now.keys row || (has c.args.rows.items row && not (has c.args.from.now.keys row)))) c.in-Some.ensures.steps.0 (c.loop-row.invariant.to row));
      both = λ row. both_passed c.args.from.now.keys c.loop-row.to.keys c.loop-row.both.items c.next.new.self.rest.items c.in-Some.row row _ e
          (subst (λ (rows : List Row). (has c.loop-row.both.items row || (has rows row && has c.args.from.now.keys row)) ≡ (has c.args.rows.items row && has c.args.from.now.keys row)) c.in-Some.ensures.steps.0 (c.loop-row.invariant.both row));
    }
