use Rattle.session.proofs.Common.{◌≡◌, ◌∙◌, ap, subst, List, event_types, IfOk-weaker, TypeId, TypeInfo, Setting, Contents, AreCounts, Runs}
use Rattle.session_model.proofs.Tallied.{kept_counted, each_counted}
use Rattle.session.proofs.session.Session.held.Goals as goal

pub returns-clause-counts : goal.returns-clause-counts
returns-clause-counts c =
    let s = c.args.self.now.setting in
    let k = c.args.self.now.state.value in
    let taken = c.as_slice-2.result.now in
    let same : c.setting-inside.result.now ≡ s = c.setting-inside.ensures.same in
    let types : taken ≡ event_types s.program.types 0 =
    c.as_slice-2.ensures.value ∙ c.in_ok-types.ensures ∙ ap (λ (ts : List TypeInfo). event_types ts 0) c.as_slice.ensures ∙ ap (λ (x : Setting). event_types x.program.types 0) same in
    IfOk-weaker c.counts.result _ _
    (λ numbers are w st.
    kept_counted s c.args.self.now.memory.value k (subst Runs same c.setting-inside.ensures.runs) w st numbers.items
    (subst (λ (ts : List TypeId). AreCounts k.facts ts numbers.items) types (subst (λ (x : Contents). AreCounts x.facts taken numbers.items) c.deref.ensures are)))
    c.counts.ensures

pub returns-clause-each : goal.returns-clause-each
returns-clause-each c =
    let s = c.args.self.now.setting in
    let k = c.args.self.now.state.value in
    let taken = c.as_slice-2.result.now in
    let same : c.setting-inside.result.now ≡ s = c.setting-inside.ensures.same in
    let types : taken ≡ event_types s.program.types 0 =
    c.as_slice-2.ensures.value ∙ c.in_ok-types.ensures ∙ ap (λ (ts : List TypeInfo). event_types ts 0) c.as_slice.ensures ∙ ap (λ (x : Setting). event_types x.program.types 0) same in
    IfOk-weaker c.counts.result _ _
    (λ numbers are.
    each_counted s.program k.facts numbers.items
    (subst (λ (ts : List TypeId). AreCounts k.facts ts numbers.items) types (subst (λ (x : Contents). AreCounts x.facts taken numbers.items) c.deref.ensures are)))
    c.counts.ensures
