use Rattle.line_feed.proofs.{Common.{refl}, Feeding.{feeds_rest}}
use Rattle.line_feed.proofs.fed.keep_rest.Goals as goal

pub returns-clause-fed : goal.returns-clause-fed
returns-clause-fed g c text =
    feeds_rest g.T.LineTaker.stands (g.T.LineTaker.steps c.args.fed.taker) c.args.rest.now c.args.fed _ text c.requires.none refl refl (λ line is. c.in_ok-add_front.ensures line is)
