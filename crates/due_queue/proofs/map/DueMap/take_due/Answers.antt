use Rattle.due_queue.proofs.{Common.{◌≡◌, ◌∙◌, sym, ap, Equal, is_gt, ordering_then}, Agreeing.{Agree-go, paired, no_pair, own_moment, none_due}}
use Rattle.due_queue.proofs.Orders.{past_same}
use Rattle.due_queue.proofs.map.DueMap.take_due.Given as given
use Rattle.due_queue.proofs.map.DueMap.take_due.Goals as goal

pub returns-in_err-first-clause-none : goal.returns-in_err-first-clause-none
returns-in_err-first-clause-none g c =
    rw c.from_residual.ensures (none_due g.M.Ord.cmp g.K.Ord.cmp g.met.M.Ord.total c.args.bound c.self.inside.by_moment.keys c.args.self.now
    (paired g.M.Ord.cmp g.K.Ord.cmp c.self.inside.by_moment.keys c.self.inside.kept.entries c.args.self.now c.self.invariant c.self.view_is) c.in_err-first.ensures.none)

pub invariant_of-self-in_err-at : goal.invariant_of-self-in_err-at
invariant_of-self-in_err-at g c =
    absurd (no_pair g.M.Ord.cmp g.K.Ord.cmp c.self.inside.by_moment.keys c.self.inside.kept.entries c.self.invariant c.in_ok-first.first c.in_ok-first.ensures.there (sym c.in_err-at.ensures.value))

pub returns-in_err-at-clause-none : goal.returns-in_err-at-clause-none
returns-in_err-at-clause-none g c =
    absurd (no_pair g.M.Ord.cmp g.K.Ord.cmp c.self.inside.by_moment.keys c.self.inside.kept.entries c.self.invariant c.in_ok-first.first c.in_ok-first.ensures.there (sym c.in_err-at.ensures.value))

-- the key waits for the moment of its pair
own : (g : given.Over) (c : goal.In_ok-at g) → g.M.Ord.cmp c.in_ok-at.at c.in_ok-first.first.0 ≡ Equal
own g c =
    own_moment g.M.Ord.cmp g.K.Ord.cmp c.self.inside.by_moment.keys c.self.inside.kept.entries c.self.invariant c.in_ok-first.first c.in_ok-first.ensures.there (c.in_ok-at.at, c.in_ok-at.value)
    (sym c.in_ok-at.ensures.value)

pub invariant_of-self-2 : goal.invariant_of-self-2
invariant_of-self-2 g c =
    Agree-go g.met.M.Ord.total g.met.K.Ord.total c.self.inside.by_moment.keys c.self.inside.kept.entries c.self.invariant c.in_ok-first.first.0 c.in_ok-first.first.1
    c.take_first_due.new.pairs.keys c.remove.new.self.entries (c.in_ok-at.at, c.in_ok-at.value) (sym c.in_ok-at.ensures.value) (own g c)
    c.in_ok-first.ensures.taken c.in_ok-at.ensures.updates.0

pub returns-clause-due : goal.returns-clause-due
returns-clause-due g c = past_same g.met.M.Ord.total c.args.bound c.in_ok-at.at c.in_ok-first.first.0 (own g c) ∙ c.in_ok-first.ensures.due

pub returns-clause-first : goal.returns-clause-first
returns-clause-first g c at key e =
    ap (λ o. is_gt (ordering_then o (g.K.Ord.cmp c.in_ok-first.first.1 key))) (g.met.M.Ord.total.congr c.in_ok-at.at c.in_ok-first.first.0 at (own g c))
    ∙ c.in_ok-first.ensures.first (at, key) (paired g.M.Ord.cmp g.K.Ord.cmp c.self.inside.by_moment.keys c.self.inside.kept.entries c.args.self.now c.self.invariant c.self.view_is (at, key) ∙ e)
