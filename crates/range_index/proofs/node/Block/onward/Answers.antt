use Rattle.{std.proofs.{Common.{◌∙◌, ap, subst, sym}, lemmas.Int.{to_z-of_z}}, range_index.specs.{Nodes.{leaves, AreBlocks}, Ranges.{places_with}}}
use Rattle.range_index.proofs.Trees.{blocks_behind, passed_over}
use Rattle.range_index.proofs.node.Block.onward.Goals as goal

pub returns-clause-places : goal.returns-clause-places
returns-clause-places c =
    ap (λ nodes. places_with c.args.number (leaves nodes)) c.split_at.ensures.back
    ∙ passed_over c.args.self.now c.args.number c.args.behind.now c.requires (simp (to_z-of_z, c.ranges.number) at (sym c.may_have.ensures ∙ c.if-may_have.false))

pub returns-clause-blocks : goal.returns-clause-blocks
returns-clause-blocks c = subst AreBlocks (sym c.split_at.ensures.back) (blocks_behind c.args.self.now.below c.args.behind.now c.requires.2)
