use Rattle.session.proofs.Common.{◌≡◌, ◌∙◌, true, false, Err, ap, sym, subst, rules, merely, IsImageOf, FitsByRows, Contents, Memory, Setting, IsRestored}
use Rattle.{session.proofs.Common.{residual_unfit}, rule_world.specs.Lawful.{IsLawful}, laden_rows.specs.Laden.{AreOwners}}
use Rattle.session.proofs.session.Session.resume_with_detail.Goals as goal

pub returns-then-not-plain-clause-unfit : goal.returns-then-not-plain-clause-unfit
returns-then-not-plain-clause-unfit c unfit fits =
    let o = c.in_ok-plain.ensures.owners in
    let plainly = ((c.an_image_fits_by_tests_and_rows.ensures c.args.program c.args.lives c.args.image o.0 c.requires.table.safe o.1).0 fits).0 in
    let so : c.in_ok-plain.plain ≡ true = c.in_ok-plain.ensures.exact.1 plainly in
    let no : c.in_ok-plain.plain ≡ false = search rules in
    absurd (let not_so : false ≡ true = sym no ∙ so in cc)

pub returns-in_err-state-clause-unfit : goal.returns-in_err-state-clause-unfit
returns-in_err-state-clause-unfit c unfit fits =
    let image = c.args.image in
    let o = c.in_ok-plain.ensures.owners in
    let is : c.setting-2.result.now ≡ record { program = c.args.program; lives = c.args.lives; detail = c.args.detail } = c.setting-2.ensures.same ∙ c.in_ok-setting.ensures in
    let by_rows = ((c.an_image_fits_by_tests_and_rows.ensures c.args.program c.args.lives image o.0 c.requires.table.safe o.1).0 fits).1 in
    c.in_err-state.ensures.unfit (ap Err (residual_unfit c.from_residual-in_err-state.result c.in_err-state.field-0.0 c.from_residual-in_err-state.ensures.1 unfit)) o.0 (subst (λ (x : Setting). AreOwners x.program o.0) (sym is) o.1) (subst (λ (x : Setting). FitsByRows x.program x.lives image o.0) (sym is) by_rows)

pub invariant_of-result : goal.invariant_of-result
invariant_of-result c =
    let image = c.args.image in
    let o = c.in_ok-plain.ensures.owners in
    let is : c.setting-2.result.now ≡ record { program = c.args.program; lives = c.args.lives; detail = c.args.detail } = c.setting-2.ensures.same ∙ c.in_ok-setting.ensures in
    let r : IsRestored c.in_ok-setting.setting image o.0 c.in_ok-state-2.memory.value c.in_ok-state-2.state.value =
    subst (λ (k : Contents). IsRestored c.in_ok-setting.setting image o.0 c.in_ok-state-2.memory.value k) (sym c.in_ok-state-2.ensures.state)
    (subst (λ (n : Memory). IsRestored c.in_ok-setting.setting image o.0 n c.in_ok-state.state) (sym c.in_ok-state-2.ensures.memory)
    (subst (λ (x : Setting). IsRestored x image o.0 c.in_ok-state.memory c.in_ok-state.state) c.setting-2.ensures.same
    (c.in_ok-state.ensures.restored o.0 (subst (λ (x : Setting). AreOwners x.program o.0) (sym is) o.1)))) in
    record { sound = merely r.sound }

pub returns-clause-stands : goal.returns-clause-stands
returns-clause-stands c w lawful of_world =
    let image = c.args.image in
    let o = c.in_ok-plain.ensures.owners in
    let is : c.setting-2.result.now ≡ record { program = c.args.program; lives = c.args.lives; detail = c.args.detail } = c.setting-2.ensures.same ∙ c.in_ok-setting.ensures in
    let r : IsRestored c.in_ok-setting.setting image o.0 c.in_ok-state-2.memory.value c.in_ok-state-2.state.value =
    subst (λ (k : Contents). IsRestored c.in_ok-setting.setting image o.0 c.in_ok-state-2.memory.value k) (sym c.in_ok-state-2.ensures.state)
    (subst (λ (n : Memory). IsRestored c.in_ok-setting.setting image o.0 n c.in_ok-state.state) (sym c.in_ok-state-2.ensures.memory)
    (subst (λ (x : Setting). IsRestored x image o.0 c.in_ok-state.memory c.in_ok-state.state) c.setting-2.ensures.same
    (c.in_ok-state.ensures.restored o.0 (subst (λ (x : Setting). AreOwners x.program o.0) (sym is) o.1)))) in
    r.stands w (subst (λ (x : Setting). IsLawful x.program w) (sym c.in_ok-setting.ensures) lawful) (subst (λ (x : Setting). IsImageOf x.program x.lives w image) (sym c.in_ok-setting.ensures) of_world)

pub returns-clause-next : goal.returns-clause-next
returns-clause-next c =
    let o = c.in_ok-plain.ensures.owners in
    let is : c.setting-2.result.now ≡ record { program = c.args.program; lives = c.args.lives; detail = c.args.detail } = c.setting-2.ensures.same ∙ c.in_ok-setting.ensures in
    ap (λ (k : Contents). k.next_tag) c.in_ok-state-2.ensures.state ∙ (c.in_ok-state.ensures.restored o.0 (subst (λ (x : Setting). AreOwners x.program o.0) (sym is) o.1)).next

pub returns-clause-fits : goal.returns-clause-fits
returns-clause-fits c =
    let image = c.args.image in
    let o = c.in_ok-plain.ensures.owners in
    let is : c.setting-2.result.now ≡ record { program = c.args.program; lives = c.args.lives; detail = c.args.detail } = c.setting-2.ensures.same ∙ c.in_ok-setting.ensures in
    let by_rows = (c.in_ok-state.ensures.restored o.0 (subst (λ (x : Setting). AreOwners x.program o.0) (sym is) o.1)).fits in
    let true_now : c.in_ok-plain.plain ≡ true = search rules in
    (c.an_image_fits_by_tests_and_rows.ensures c.args.program c.args.lives image o.0 c.requires.table.safe o.1).1
    (c.in_ok-plain.ensures.exact.0 true_now, subst (λ (x : Setting). FitsByRows x.program x.lives image o.0) is by_rows)
