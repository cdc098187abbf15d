use Rattle.session.proofs.Common.{◌≡◌, ◌∙◌, ℤ, List, [], length, Err, sym, ap, subst, to_z, of_z, w64, rules, has_listed_tag, is_tag_among, is_named}
use Rattle.session.proofs.Common.{PassesLives, stored, AreStorable, clock_same, no_keys, image_safe, old_refuses, residual_unfit, restored_is, some_key}
use Rattle.session.proofs.{Common.{storable}, OfImage.{are_of_image}}
use Rattle.session.proofs.saving.restored.Goals as goal

pub of-requires-clause-storable : goal.of-requires-clause-storable
of-requires-clause-storable c = subst AreStorable (sym c.into_vec.ensures) (storable c.args.setting.now.program c.args.setting.now.lives c.args.image c.requires.plain c.requires.runs.runnable)

pub returns-in_err-net-clause-unfit : goal.returns-in_err-net-clause-unfit
returns-in_err-net-clause-unfit c unfit owners own =
    let image = c.args.image in
    let kept = c.in_ok-kept.kept in
    let same : to_z w64 (of_z w64 image.clock) ≡ image.clock = clock_same image.clock c.requires.plain.lawful.clock_low c.requires.plain.lawful.clock_high in
    let course : c.in_ok-course.course ≡ record { last_starts = image.last_starts; promises = image.promises; begun = image.begun } =
    c.in_ok-course.ensures ∙ ap (λ (ls : List ℤ). record { last_starts = ls; promises = c.as_slice-2.result.now; begun = image.begun }) c.as_slice.ensures
    ∙ ap (λ (ps : List ℤ). record { last_starts = image.last_starts; promises = ps; begun = image.begun }) c.as_slice-2.ensures in
    let held : kept.facts ≡ stored image.facts = c.in_ok-kept.ensures.facts ∙ ap stored c.into_vec.ensures in
    let are =
    are_of_image c.args.setting.now image c.requires.plain c.moment-moment.result c.in_ok-course.course _ c.moment-moment.ensures.clock same c.moment-moment.ensures.last_starts c.moment-moment.ensures.promises course
    c.as_slice-3.result.now c.as_slice-3.ensures c.as_slice-4.result.now c.as_slice-4.ensures kept.facts held in
    c.in_err-net.ensures.unfit image are (ap Err (residual_unfit c.from_residual-in_err-net.result c.in_err-net.field-0.0 c.from_residual-in_err-net.ensures.1 unfit)) owners own

pub returns-then-not-is_empty-clause-unfit : goal.returns-then-not-is_empty-clause-unfit
returns-then-not-is_empty-clause-unfit c unfit owners own =
    let p = c.args.setting.now.program in
    let image = c.args.image in
    let kept = c.in_ok-kept.kept in
    let keys = c.in_ok-old.old.keys in
    let same : to_z w64 (of_z w64 image.clock) ≡ image.clock = clock_same image.clock c.requires.plain.lawful.clock_low c.requires.plain.lawful.clock_high in
    let course : c.in_ok-course.course ≡ record { last_starts = image.last_starts; promises = image.promises; begun = image.begun } =
    c.in_ok-course.ensures ∙ ap (λ (ls : List ℤ). record { last_starts = ls; promises = c.as_slice-2.result.now; begun = image.begun }) c.as_slice.ensures
    ∙ ap (λ (ps : List ℤ). record { last_starts = image.last_starts; promises = ps; begun = image.begun }) c.as_slice-2.ensures in
    let held : kept.facts ≡ stored image.facts = c.in_ok-kept.ensures.facts ∙ ap stored c.into_vec.ensures in
    let are =
    are_of_image c.args.setting.now image c.requires.plain c.moment-moment.result c.in_ok-course.course _ c.moment-moment.ensures.clock same c.moment-moment.ensures.last_starts c.moment-moment.ensures.promises course
    c.as_slice-3.result.now c.as_slice-3.ensures c.as_slice-4.result.now c.as_slice-4.ensures kept.facts held in
    let passes : PassesLives image.clock (is_tag_among []) (is_named c.in_ok-net.agenda) kept.retention c.past.new.self (has_listed_tag keys) = simp same at c.in_ok-old.ensures.passes in
    let some : length keys ≡ 0 → ⊥ = search rules in
    old_refuses p c.args.setting.now.lives image kept.facts kept.expiries kept.retention c.past.new.self c.in_ok-net.agenda (has_listed_tag keys) held c.in_ok-kept.ensures.held
    passes c.in_ok-net.net (c.in_ok-net.ensures.matched image are) c.requires.plain (some_key keys some) owners own

pub invariant_of-state : goal.invariant_of-state
invariant_of-state c =
    image_safe c.args.setting.now.program c.args.setting.now.lives c.args.image c.requires.plain c.in_ok-kept.kept.facts c.in_ok-kept.kept.expiries c.in_ok-kept.kept.retention _
    (c.in_ok-kept.ensures.facts ∙ ap stored c.into_vec.ensures) c.in_ok-kept.ensures.held (clock_same c.args.image.clock c.requires.plain.lawful.clock_low c.requires.plain.lawful.clock_high)

pub returns-clause-restored : goal.returns-clause-restored
returns-clause-restored c owners own =
    let p = c.args.setting.now.program in
    let image = c.args.image in
    let kept = c.in_ok-kept.kept in
    let keys = c.in_ok-old.old.keys in
    let marks = c.in_ok-net.agenda in
    let same : to_z w64 (of_z w64 image.clock) ≡ image.clock = clock_same image.clock c.requires.plain.lawful.clock_low c.requires.plain.lawful.clock_high in
    let course : c.in_ok-course.course ≡ record { last_starts = image.last_starts; promises = image.promises; begun = image.begun } =
    c.in_ok-course.ensures ∙ ap (λ (ls : List ℤ). record { last_starts = ls; promises = c.as_slice-2.result.now; begun = image.begun }) c.as_slice.ensures
    ∙ ap (λ (ps : List ℤ). record { last_starts = image.last_starts; promises = ps; begun = image.begun }) c.as_slice-2.ensures in
    let held : kept.facts ≡ stored image.facts = c.in_ok-kept.ensures.facts ∙ ap stored c.into_vec.ensures in
    let are =
    are_of_image c.args.setting.now image c.requires.plain c.moment-moment.result c.in_ok-course.course _ c.moment-moment.ensures.clock same c.moment-moment.ensures.last_starts c.moment-moment.ensures.promises course
    c.as_slice-3.result.now c.as_slice-3.ensures c.as_slice-4.result.now c.as_slice-4.ensures kept.facts held in
    let passes : PassesLives image.clock (is_tag_among []) (is_named marks) kept.retention c.past.new.self (has_listed_tag keys) = simp same at c.in_ok-old.ensures.passes in
    let none : length keys ≡ 0 = search rules in
    let matched = c.in_ok-net.ensures.matched image are in
    restored_is c.args.setting.now c.requires.runs image c.requires.plain owners own c.in_ok-net.net kept.expiries kept.retention c.past.new.self marks keys matched passes (no_keys keys none)
    kept.facts _ c.in_ok-course.course held c.in_ok-kept.ensures.held same course
