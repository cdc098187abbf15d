use Rattle.{session.proofs.Common.{FitsSigned, to_z-of_z, w64, held_again, released_free}, session_model.proofs.Inserting.{on_ok_weaker}}
use Rattle.session.proofs.moving.hold.Goals as goal

pub hold-requires : goal.hold-requires
hold-requires c = released_free c.args.retention.now.due c.release.new.self.due c.args.tag.0 c.release.ensures.due

pub returns-in-Some-clause-due : goal.returns-in-Some-clause-due
returns-in-Some-clause-due c =
    let fits : FitsSigned w64 c.in-Some.moment = search in
    on_ok_weaker c.hold.result (λ e. held_again c.args.retention.now.due c.release.new.self.due c.hold.new.self.due c.args.tag.0 c.args.past_from c.in-Some.moment c.in-Some.is c.release.ensures.due e)
    (simp to_z-of_z at c.hold.ensures.ok)
