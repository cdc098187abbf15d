use Rattle.{std.proofs.Common.{◌≡◌, ◌∙◌, ap, subst, sym, ◌++◌, ◌∷◌, []}, range_index.specs.{Nodes.{leaves, AreBlocks}, declared.node.Node.TheVariants.{Range}}}
use Rattle.range_index.proofs.{Finding.{found_more}, Trees.{blocks_append, leaves_append}}
use Rattle.range_index.proofs.index.RangeIndex.put.Goals as goal

pub invariant_of-self-2 : goal.invariant_of-self-2
invariant_of-self-2 c = subst AreBlocks (sym c.in_ok-push.ensures.items) (blocks_append c.self.inside.nodes.items (Range c.args.range ∷ []) c.self.invariant tt)

more : (c : goal.In_ok-push) → leaves c.push.new.self.items ≡ c.args.self.now ++ c.args.range ∷ []
more c = ap leaves c.in_ok-push.ensures.items ∙ leaves_append c.self.inside.nodes.items (Range c.args.range ∷ []) ∙ ap (λ ranges. ranges ++ c.args.range ∷ []) c.self.view_is

pub returns-clause-ok : goal.returns-clause-ok
returns-clause-ok c = more c

pub returns-clause-found : goal.returns-clause-found
returns-clause-found c = found_more c.args.self.now (leaves c.push.new.self.items) c.args.range (more c)
