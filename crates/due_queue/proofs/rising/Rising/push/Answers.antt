use Rattle.due_queue.{proofs.{Common.{◌∙◌, sym, ap, subst, refl, found}, Entries.{rises_pushed, front_pushed, found_pushed, none_below}}, specs.Rising.{live}}
use Rattle.due_queue.specs.Rising.{is_front_live, Rises}
use Rattle.due_queue.proofs.rising.Rising.push.Goals as goal

pub returns-clause-stands : goal.returns-clause-stands
returns-clause-stands g c = record {
  rises = subst (Rises g.M.Ord.cmp g.K.Ord.cmp) (sym c.in_ok-push_back.ensures.items) (rises_pushed g.M.Ord.cmp g.K.Ord.cmp c.args.self.now.entries.items _ c.requires.rises (c.is_last.ensures c.if-not-is_last.false));
  front = ap is_front_live c.in_ok-push_back.ensures.items ∙ front_pushed c.args.self.now.entries.items _ c.requires.front refl;
}

pub returns-clause-put : goal.returns-clause-put
returns-clause-put g c is k =
    ap (λ entries. found g.K.Ord.cmp (live entries) k) c.in_ok-push_back.ensures.items
    ∙ found_pushed g.met.M.Ord.total g.met.K.Ord.total c.args.self.now.entries.items c.args.at c.args.key c.args.value (c.is_last.ensures c.if-not-is_last.false) k

pub returns-clause-absent : goal.returns-clause-absent
returns-clause-absent g c is = none_below g.met.M.Ord.total g.met.K.Ord.total c.args.at c.args.key c.args.self.now.entries.items (c.is_last.ensures c.if-not-is_last.false)
