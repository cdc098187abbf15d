use Rattle.{std.{proofs.{Common.{rules, of_calls}, lemmas.Fn.{filter_same}}, specs.Prelude.{is_some}}, due_queue.proofs.Common.{◌∙◌, sym, ap, subst}}
use Rattle.due_queue.{proofs.Entries.{live_kept, front_kept, rises_kept}, specs.{Rising.{live, is_front_live, Rises}, declared.rising.Entry.{Entry}}}
use Rattle.due_queue.proofs.rising.Rising.sweep.Goals as goal

pub returns-then-self-len-clause-stands : goal.returns-then-self-len-clause-stands
returns-then-self-len-clause-stands g c =
    let kept = filter_same _ (λ (w : Entry _ _ _). is_some w.value) _ (λ x b f k. search (rules, of_calls)) c.args.self.now.entries.items c.retain.new.self.items c.retain.ensures.filtered in
    record {
      rises = subst (Rises g.M.Ord.cmp g.K.Ord.cmp) (sym kept) (rises_kept g.M.Ord.cmp g.K.Ord.cmp (λ (w : Entry _ _ _). is_some w.value) c.args.self.now.entries.items c.requires.rises);
      front = ap is_front_live kept ∙ front_kept c.args.self.now.entries.items;
    }

pub returns-then-self-len-clause-live : goal.returns-then-self-len-clause-live
returns-then-self-len-clause-live g c =
    let kept = filter_same _ (λ (w : Entry _ _ _). is_some w.value) _ (λ x b f k. search (rules, of_calls)) c.args.self.now.entries.items c.retain.new.self.items c.retain.ensures.filtered in
    ap live kept ∙ live_kept c.args.self.now.entries.items
