use Rattle.{std.{proofs.Common.{Bool, List, ap, map, subst, sym, ◌++◌, ◌≡◌}, specs.List.{filter}}, change_rules.specs.Staying.{place_in}}
use Rattle.{image_laws.specs.Images.{match_fired}, rule_change.specs.Changed.{is_marked, was_fired}, rule_model.specs.declared.matched.Match.{Match}}
use Rattle.image_making.proofs.Marking.{one_marked}
use Rattle.image_making.proofs.fired.marked_matches.Goals as goal

pub loop-matched-preserved : goal.loop-matched-preserved
loop-matched-preserved c =
    let keys = c.args.fired.now.keys in
    let t : Match → Bool = is_marked (place_in c.args.places.now) keys in
    let done : List Match = map match_fired c.loop-matched.marked.items in
    let m : Match = c.in-Some.matched in
    one_marked t done (map match_fired c.put_marked.new.marked.items) (filter t c.args.matches.items) c.next.new.self.rest.items m (was_fired keys m c.place_of-place.result)
    (ap (was_fired keys m) (sym c.place_of-place.ensures)) c.in_ok-put_marked.ensures
    (subst (λ (rest : List Match). done ++ filter t rest ≡ filter t c.args.matches.items) c.in-Some.ensures.steps.0 c.loop-matched.invariant)
