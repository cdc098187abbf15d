use Rattle.rete_net.proofs.{Common.{◌≡◌, ◌∙◌, sym, ap, length, None, Some, slice_get, slice_get-get_or, has_place}, Fanned.{none_past}, Places.{put_stays}}
use Rattle.{rete_net.proofs.Places.{put_there}, std.proofs.lemmas.Bool.{ltb-false, ltb-true}, fx_base.proofs.Sequences.{one_value}}
use Rattle.rete_net.proofs.fans.put_member.Goals as goal

pub returns-in_ok-insert-in-Some-clause-still : goal.returns-in_ok-insert-in-Some-clause-still
returns-in_ok-insert-in-Some-clause-still c k was = put_stays c.in-Some.place.now k (has_place c.args.due.now.keys k) _ (c.in_ok-insert-in-Some.ensures.updates.0 k) was

pub returns-in_ok-insert-in-Some-clause-put : goal.returns-in_ok-insert-in-Some-clause-put
returns-in_ok-insert-in-Some-clause-put c k there =
    let within = ltb-true c.args.member (length c.args.places.now) (sym c.in-Some.ensures.lookup.0) in
    let found : slice_get c.args.places.now c.args.member ≡ Some c.in-Some.place.now = slice_get-get_or c.args.places.now c.args.member c.in-Some.place.now within ∙ ap Some (sym c.in-Some.ensures.lookup.1) in
    put_there c.in-Some.place.now k (has_place c.args.due.now.keys k) _ (c.in_ok-insert-in-Some.ensures.updates.0 k) (one_value (slice_get c.args.places.now c.args.member) c.in-Some.place.now k found there)

pub returns-in-None-clause-put : goal.returns-in-None-clause-put
returns-in-None-clause-put c k there =
    absurd (let no : None ≡ Some k = sym (none_past c.args.places.now c.args.member (ltb-false c.args.member (length c.args.places.now) (sym c.in-None.ensures.lookup.0))) ∙ there in cc)
