use Rattle.session.proofs.Common.{◌≡◌, ◌∙◌, List, length, ap, subst, IfOk-weaker, Memory, Contents, Setting, IsSessionSaved, Runs, merely_no_more}
use Rattle.{checkpoint.specs.Pieces.{whole}, rule_model.specs.declared.program.EntryInfo.{EntryInfo}, session_model.proofs.Saved.{saved_image}}
use Rattle.session.proofs.session.Session.image.Goals as goal

pub returns-clause-image : goal.returns-clause-image
returns-clause-image c =
    let s = c.args.self.now.setting in
    let m = c.args.self.now.memory.value in
    let k = c.args.self.now.state.value in
    let same : c.setting.result.now ≡ s = c.setting.ensures.same in
    let entries : c.as_slice-entries.result.now ≡ s.program.entries = c.as_slice-entries.ensures ∙ ap (λ (x : Setting). x.program.entries) same in
    IfOk-weaker c.lent.result _ _
    (λ image saved w st.
    saved_image s m k w st (subst Runs same c.setting.ensures.runs) (merely_no_more s.program m k c.args.self.now.sound) (whole image)
    (subst (λ (n : Memory). IsSessionSaved k (length s.program.entries) n.net (whole image)) c.deref-2.ensures
    (subst (λ (es : List EntryInfo). IsSessionSaved k (length es) c.deref-2.result.now.net (whole image)) entries
    (subst (λ (z : Contents). IsSessionSaved z (length c.as_slice-entries.result.now) c.deref-2.result.now.net (whole image)) c.deref.ensures saved))))
    c.lent.ensures.saved
