use Rattle.{alpha_memory.proofs.{Common.{◌≡◌, arith}, Keys.{keys_in, are_keys}}, std.proofs.lemmas.Grind.{common_steps}}
use Rattle.alpha_memory.proofs.join_index.JoinIndex.keys.Goals as goal

pub returns : goal.returns
returns g c =
    let all : c.loop-bucket.keys.items ≡ keys_in c.args.self.now.buckets.entries = grind (arith, common_steps) in
    are_keys g.J.PartialEq.eq g.met.J.Eq.laws g.K.Ord.cmp c.args.self.now c.loop-bucket.keys.items c.iter-bucket-items.ensures.unique all
