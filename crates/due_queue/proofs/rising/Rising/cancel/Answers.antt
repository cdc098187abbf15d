use Rattle.due_queue.{proofs.{Common.{◌∙◌, sym, ap, subst, found}, Entries.{value_found, rises_emptied, found_emptied, kept_none}}, specs.Rising.{live, Rises}}
use Rattle.due_queue.proofs.rising.Rising.cancel.Goals as goal

pub returns-in_err-one-clause-before : goal.returns-in_err-one-clause-before
returns-in_err-one-clause-before g c =
    c.from_residual-in_err-one.ensures ∙ c.in_err-one.ensures.value
    ∙ value_found g.met.M.Ord.total g.met.K.Ord.total c.args.self.now.entries.items c.in_ok-place.place c.args.key.now c.requires.rises c.in_ok-place.ensures.within c.in_ok-place.ensures.there

pub returns-in_err-one-clause-kept : goal.returns-in_err-one-clause-kept
returns-in_err-one-clause-kept g c k =
    ap (λ entries. found g.K.Ord.cmp (live entries) k) c.in_err-one.ensures.unchanged
    ∙ kept_none g.met.M.Ord.total g.met.K.Ord.total (live c.args.self.now.entries.items) c.args.key.now (sym (c.in_err-one.ensures.value
    ∙ value_found g.met.M.Ord.total g.met.K.Ord.total c.args.self.now.entries.items c.in_ok-place.place c.args.key.now c.requires.rises c.in_ok-place.ensures.within c.in_ok-place.ensures.there)) k

pub settle-requires : goal.settle-requires
settle-requires g c =
    subst (Rises g.M.Ord.cmp g.K.Ord.cmp) (sym c.in_ok-one.ensures.emptied) (rises_emptied g.M.Ord.cmp g.K.Ord.cmp c.args.self.now.entries.items c.in_ok-place.place c.requires.rises)

pub returns-clause-before : goal.returns-clause-before
returns-clause-before g c =
    c.in_ok-one.ensures.value
    ∙ value_found g.met.M.Ord.total g.met.K.Ord.total c.args.self.now.entries.items c.in_ok-place.place c.args.key.now c.requires.rises c.in_ok-place.ensures.within c.in_ok-place.ensures.there

pub returns-clause-kept : goal.returns-clause-kept
returns-clause-kept g c k =
    ap (λ waiting. found g.K.Ord.cmp waiting k) (c.settle.ensures.live ∙ ap live c.in_ok-one.ensures.emptied)
    ∙ found_emptied g.met.M.Ord.total g.met.K.Ord.total c.args.self.now.entries.items c.in_ok-place.place c.args.key.now c.requires.rises c.in_ok-place.ensures.within c.in_ok-place.ensures.there k
