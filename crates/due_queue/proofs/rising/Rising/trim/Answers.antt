use Rattle.due_queue.{proofs.{Common.{◌∙◌, sym, ap, subst, refl, ◌<◌}, Entries.{rises_rest, live_rest}}, specs.Rising.{live, Rises}}
use Rattle.due_queue.proofs.rising.Rising.trim.Goals as goal

pub gone-preserved : goal.gone-preserved
gone-preserved g c = (
  subst (Rises g.M.Ord.cmp g.K.Ord.cmp) (sym c.pop_front.ensures.rest) (rises_rest g.M.Ord.cmp g.K.Ord.cmp c.gone.self.entries.items c.gone.invariant.0),
  ap live c.pop_front.ensures.rest
      ∙ live_rest c.gone.self.entries.items c.in-Some.front.now (subst (λ n. 0 < n) c.gone.self.entries.ok.0 (c.in-Some.ensures.variant.0 refl)) c.in-Some.ensures.lookup (sym c.is_some.ensures ∙ c.if-is_some.false) ∙ c.gone.invariant.1,
)
