use Rattle.{std.proofs.Common.{List, [], ap, arith, length, rules, subst, sym, ℕ, ℤ, ◌++◌, ◌+◌, ◌∙◌, ◌∷◌, ◌≡◌}, rule_change.specs.Changed.{entry_in}}
use Rattle.{rule_change.specs.Changed.{moment_or_zero}, rule_model.specs.Moments.{moment_in}, image_making.proofs.Firsts.{AreFirst, all_first, none_first}}
use Rattle.image_making.proofs.Firsts.{one_first}
use Rattle.image_making.proofs.moments.moved_moments.Goals as goal

pub loop-entry-init : goal.loop-entry-init
loop-entry-init c =
    let of : ℕ → ℤ = λ entry. moment_or_zero (moment_in c.args.moments.now) (entry_in c.args.new.now c.args.old.now entry) in
    subst (λ (moments : List ℤ). AreFirst of 0 moments) (sym c.in_ok-moved.ensures.items) (none_first of)

pub loop-entry-preserved : goal.loop-entry-preserved
loop-entry-preserved c =
    let of : ℕ → ℤ = λ entry. moment_or_zero (moment_in c.args.moments.now) (entry_in c.args.new.now c.args.old.now entry) in
    let pushed : c.push.new.self.items ≡ c.loop-entry.moved.items ++ c.moved_moment.result ∷ [] = search rules in
    subst (λ (moments : List ℤ). AreFirst of (c.loop-entry.entry + 1) moments) (sym pushed)
    (one_first of c.loop-entry.entry c.loop-entry.moved.items c.moved_moment.result c.moved_moment.ensures c.loop-entry.invariant)

pub returns : goal.returns
returns c =
    let of : ℕ → ℤ = λ entry. moment_or_zero (moment_in c.args.moments.now) (entry_in c.args.new.now c.args.old.now entry) in
    let over : c.loop-entry.entry ≡ length c.as_slice-entries.result.now = omega arith in
    all_first c.args.old.now c.args.new.now (moment_in c.args.moments.now) c.loop-entry.moved.items
    (subst (λ (n : ℕ). AreFirst of n c.loop-entry.moved.items) (over ∙ ap length c.as_slice-entries.ensures) c.loop-entry.invariant)
