use Rattle.session.proofs.{Common.{◌∙◌, ap, subst, IfOk-weaker, Contents, Runs, facts_of}, Questions.{kept_is}}
use Rattle.session.proofs.session.Session.kept.Goals as goal

pub returns : goal.returns
returns c =
    let s = c.args.self.now.setting in
    let k = c.args.self.now.state.value in
    let held = ap (λ (z : Contents). facts_of z.facts) (c.behind-self.view_is ∙ c.deref.ensures) in
    IfOk-weaker c.facts.result _ _
    (λ facts are w st.
    are ∙ held ∙ kept_is s c.args.self.now.memory.value k (subst Runs c.setting-inside.ensures.same c.setting-inside.ensures.runs) w st)
    c.facts.ensures
