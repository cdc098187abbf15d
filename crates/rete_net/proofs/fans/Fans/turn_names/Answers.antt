use Rattle.rete_net.proofs.{Common.{◌≡◌, ◌∙◌, sym, ap, refl, Some, slice_get, length-set, slice_get-get_or, slice_get_within}, Fanned.{each_like, names_like}}
use Rattle.rete_net.proofs.{Fanned.{names_others, names_turned}, Fanning.{laid_same}}
use Rattle.rete_net.proofs.fans.Fans.turn_names.Goals as goal

pub returns : goal.returns
returns g c =
    let list = c.args.self.now.list.items in
    let seat = c.args.seat in
    let was = c.index_mut.result.now in
    let join = c.turn_names.new.self in
    let look = g.F.Facts.map c.args.facts.now in
    let told = c.in_ok-delta.ensures in
    let there = c.has.ensures.there c.if-not-has.false in
    let at : slice_get c.args.self.now.list.items c.args.seat.fan ≡ Some c.index_mut.result.now =
    slice_get-get_or list seat.fan was (slice_get_within list seat.fan there.0 there.1) ∙ ap Some (sym c.index_mut.ensures.value) in
    record {
      laid = record {
        seats = refl;
        spans = refl;
        lone = refl;
        many = length-set list seat.fan (record { parent = was.parent; join = join; places = was.places });
        each = each_like list seat.fan was (record { parent = was.parent; join = join; places = was.places }) at
            (names_like was join look seat.member c.args.gone.now c.args.come.now c.args.half c.in_ok-delta.delta told);
      };
      halves = refl;
      others = names_others list seat was join at look c.args.gone.now c.args.come.now c.args.half c.in_ok-delta.delta told;
      turned = names_turned list seat was join at look c.args.gone.now c.args.come.now c.args.half c.in_ok-delta.delta told;
    }

pub returns-then-not-has-clause-laid : goal.returns-then-not-has-clause-laid
returns-then-not-has-clause-laid g c = laid_same c.args.self.now c.args.self.now refl refl refl refl
