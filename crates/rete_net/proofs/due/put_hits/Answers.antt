use Rattle.{rete_net.proofs.{Common.{◌≡◌, ◌∙◌, ap, sym, subst, ◌||◌, true, slice_get, has_place, is_in}, Ranged.{hit_put}}, std.proofs.Math.Bool.{or-false}}
use Rattle.rete_net.proofs.due.put_hits.Goals as goal

pub hits-preserved : goal.hits-preserved
hits-preserved c = record {
  kept = λ k was. c.in_ok-put_if_meant.ensures.kept k (c.hits.invariant.kept k was);
  put = λ k n there hit meant.
      hit_put k c.in-Some.place (has_place c.hits.due.keys k) (has_place c.put_if_meant.new.due.keys k) c.hits.hits c.next.new.self c.in-Some.ensures.some (c.in_ok-put_if_meant.ensures.kept k)
      (λ same. subst (λ i. has_place c.put_if_meant.new.due.keys i ≡ true) same (c.in_ok-put_if_meant.ensures.put n (ap (slice_get c.args.nodes.now) same ∙ there) meant)) (c.hits.invariant.put k n there hit meant);
}

pub returns-clause-put : goal.returns-clause-put
returns-clause-put c k n there hit meant =
    sym (or-false (has_place c.hits.due.keys k)) ∙ ap (λ hits. has_place c.hits.due.keys k || is_in hits k) (sym c.in_default.ensures.none) ∙ c.hits.invariant.put k n there hit meant
