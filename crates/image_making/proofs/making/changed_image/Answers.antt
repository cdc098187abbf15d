use Rattle.std.proofs.{Common.{List, ap, arith, length, map, subst, sym, ◌<◌, ◌∙◌, Err}, lemmas.Option.{slice_get_within}}
use Rattle.{change_rules.specs.Staying.{place_in}, checkpoint.specs.declared.image.FiredMatch.{FiredMatch}, image_change.specs.Images.{IsChangedImage}}
use Rattle.{image_laws.specs.Images.{match_fired}, rule_model.specs.{declared.matched.Match.{Match}, Matches.{has_match}}}
use Rattle.image_making.proofs.{Made.{changed_is}, Loadable.{residual_no_row}, Missing.{none_missing}}
use Rattle.image_making.proofs.making.changed_image.Goals as goal

pub laden_matches-requires : goal.laden_matches-requires
laden_matches-requires c =
    c.a_moved_image_can_be_loaded.ensures c.args.old.now c.args.new.now (place_in c.args.places.now) c.args.image c.in_ok-made.made c.requires.over c.requires.loads c.in_ok-made.ensures.moved

pub marked_matches-requires : goal.marked_matches-requires
marked_matches-requires c new old at =
    let s = c.requires.over.are_from.same new old at in
    let below : old < length c.args.old.now.rules = slice_get_within c.args.old.now.rules old s.rule s.was in
    let few = c.requires.over.runnable.few_rules in omega (arith, below, few)

pub returns-clause-changed : goal.returns-clause-changed
returns-clause-changed c =
    let p = c.args.old.now in
    let q = c.args.new.now in
    let from = place_in c.args.places.now in
    let made = c.in_ok-made.made in
    subst (λ (fs : List FiredMatch). IsChangedImage p q from c.args.image (record made { fired = fs })) (sym c.from_vec.ensures)
    (changed_is p q from c.args.image made c.in_ok-made.ensures.moved c.in_ok-fired.fired.keys c.in_ok-matches.matches.items c.in_ok-marked_matches.field-0.items
    (λ (m : Match). c.in_ok-fired.ensures m ∙ ap (λ (fs : List FiredMatch). has_match (map match_fired fs) m) c.as_slice.ensures) c.in_ok-matches.ensures.in_order
    c.in_ok-matches.ensures.matches c.in_ok-marked_matches.ensures)

pub returns-in_err-matches-clause-no_row : goal.returns-in_err-matches-clause-no_row
returns-in_err-matches-clause-no_row c refused =
    none_missing c.args.old.now c.args.new.now (place_in c.args.places.now) c.args.image c.in_ok-made.made c.requires.over c.in_ok-made.ensures.moved
    (c.in_err-matches.ensures.no_row (ap Err (residual_no_row c.from_residual-in_err-matches.result c.in_err-matches.field-0.0 c.from_residual-in_err-matches.ensures.1 refused)))
