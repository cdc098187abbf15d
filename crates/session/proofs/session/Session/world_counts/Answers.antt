use Rattle.session.{proofs.{Common.{subst, IfOk-weaker, Contents, Setting, Runs}, Questions.{counted_is}}, specs.Inspected.{IsCounted}}
use Rattle.session.proofs.session.Session.world_counts.Goals as goal

pub returns : goal.returns
returns c =
    let s = c.args.self.now.setting in
    let k = c.args.self.now.state.value in
    let same = c.setting.ensures.same in
    IfOk-weaker c.counted.result _ _
    (λ counts are w st.
    counted_is s c.args.self.now.memory.value k (subst Runs same c.setting.ensures.runs) w st counts
    (subst (λ (x : Contents). IsCounted s.program x counts) c.deref.ensures (subst (λ (x : Setting). IsCounted x.program c.deref.result.now counts) same are)))
    c.counted.ensures
