use Rattle.{std.{proofs.Common.{ap, map, refl, rules, subst, sym, ◌∙◌}, specs.List.Sorted.{IsStrictlySortedBy}}, laden_rows.specs.Extras.{extra_cmp}}
use Rattle.{rule_change.specs.Changed.{moved_fact}, image_making.proofs.Made.{made_extras, made_moments}}
use Rattle.image_making.proofs.making.moved_image.Goals as goal

pub returns-clause-moved : goal.returns-clause-moved
returns-clause-moved c =
    let p = c.args.old.now in
    let q = c.args.new.now in record {
      clock = search rules;
      begun = refl;
      last_starts =
          made_moments p q c.as_slice.result.now c.args.image.last_starts c.in_ok-last_starts.last_starts.items c.from_vec.result c.as_slice.ensures c.from_vec.ensures c.in_ok-last_starts.ensures;
      promises = made_moments p q c.as_slice-2.result.now c.args.image.promises c.in_ok-promises.promises.items c.from_vec-2.result c.as_slice-2.ensures c.from_vec-2.ensures c.in_ok-promises.ensures;
      next_id = refl;
      next_tag = refl;
      facts = c.from_vec-3.ensures ∙ c.in_ok-facts.ensures ∙ ap (map (moved_fact p q)) c.into_vec.ensures;
      extras_in_order = subst (IsStrictlySortedBy extra_cmp) (sym c.from_vec-5.ensures) c.in_ok-extras.ensures.in_order;
      extras =
          made_extras p q c.args.image c.requires.loads.placed c.into_vec-2.result.items c.in_ok-extras.extras.items c.from_vec-5.result c.into_vec-2.ensures c.from_vec-5.ensures
          c.in_ok-extras.ensures.moved;
    }
