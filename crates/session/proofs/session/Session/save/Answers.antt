use Rattle.session.proofs.Common.{◌≡◌, ◌∙◌, List, length, ap, subst, IfOk-weaker, Memory, Contents, Setting, IsSessionSaved, Runs, merely_no_more}
use Rattle.{rule_model.specs.declared.program.EntryInfo.{EntryInfo}, session_model.proofs.Saved.{saved_image}}
use Rattle.session.proofs.session.Session.save.Goals as goal

pub returns-clause-image : goal.returns-clause-image
returns-clause-image c =
    let s = c.args.self.setting in
    let m = c.args.self.memory.value in
    let k = c.args.self.state.value in
    let same : c.setting.result.now ≡ s = c.setting.ensures.same in
    let entries : c.as_slice-entries.result.now ≡ s.program.entries = c.as_slice-entries.ensures ∙ ap (λ (x : Setting). x.program.entries) same in
    IfOk-weaker c.saved.result _ _
    (λ image saved w st.
    saved_image s m k w st (subst Runs same c.setting.ensures.runs) (merely_no_more s.program m k c.args.self.sound) image
    (subst (λ (n : Memory). IsSessionSaved k (length s.program.entries) n.net image) c.deref.ensures
    (subst (λ (es : List EntryInfo). IsSessionSaved k (length es) c.deref.result.now.net image) entries
    (subst (λ (z : Contents). IsSessionSaved z (length c.as_slice-entries.result.now) c.deref.result.now.net image) c.into_inner.ensures saved))))
    c.saved.ensures.saved
