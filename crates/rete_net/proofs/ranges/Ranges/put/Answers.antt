use Rattle.rete_net.proofs.{Common.{◌≡◌, ◌∙◌, ap, sym, refl, Some, slice_get, slice_get-get_or, is_listed, or_left}, Ranged.{found_put, found_still}}
use Rattle.rete_net.proofs.ranges.Ranges.put.Goals as goal

there : (c : goal.In_ok-put) → slice_get c.reach.new.self.fields.items c.in_ok-at.at ≡ Some c.index_mut.result.now
there c = slice_get-get_or c.reach.new.self.fields.items c.in_ok-at.at c.index_mut.result.now c.in_ok-at.ensures.within ∙ ap Some (sym c.index_mut.ensures.value)

pub returns-clause-put : goal.returns-clause-put
returns-clause-put c f ty within =
    let was = c.index_mut.result.now in
    found_put c.reach.new.self.by_type c.reach.new.self.fields.items c.in_ok-at.at was (record { field = was.field; ranges = c.put.new.self }) c.args.range c.args.place
    c.placed.result c.placed.ensures (there c) (c.in_ok-at.ensures.field was (there c)) c.in_ok-put.ensures.found f
    (ap (λ n. is_listed c.reach.new.self.by_type n c.in_ok-at.at) ty ∙ c.in_ok-at.ensures.listed) within

pub returns-clause-kept : goal.returns-clause-kept
returns-clause-kept c f k found =
    let was = c.index_mut.result.now in
    found_still c.reach.new.self.by_type c.reach.new.self.fields.items c.in_ok-at.at was (record { field = was.field; ranges = c.put.new.self }) (there c) refl
    (λ number place held. c.in_ok-put.ensures.found number place ∙ or_left _ _ held) f k (c.in_ok-at.ensures.kept f k found)
