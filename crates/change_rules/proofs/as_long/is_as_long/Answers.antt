use Rattle.change_rules.{proofs.{Common.{ap₂, arith, sym, ◌∙◌}, LongEnough.{differs, ends, goes_on, other_many}}, specs.AsLong.{are_lives_as_long}}
use Rattle.rule_model.specs.declared.life.Life.TheVariants.{Plain}
use Rattle.change_rules.proofs.as_long.is_as_long.Goals as goal

pub returns-then-own-lives : goal.returns-then-own-lives
returns-then-own-lives c =
    let differ = c.if-own-lives.true in
    sym (ap₂ are_lives_as_long (sym c.as_slice-own.ensures) (sym c.as_slice-lives.ensures)
    ∙ other_many c.as_slice-own.result.now c.as_slice-lives.result.now (λ e. absurd (omega (arith, e))))

pub returns-then-not-is_life_as_long : goal.returns-then-not-is_life_as_long
returns-then-not-is_life_as_long c =
    let same = c.if-own-lives.false in
    sym (ap₂ are_lives_as_long (sym c.as_slice-own.ensures) (sym c.as_slice-lives.ensures)
    ∙ differs c.as_slice-own.result.now c.as_slice-lives.result.now c.loop-place.place c.loop-place.invariant Plain Plain (omega arith) (omega arith)
    (sym c.is_life_as_long.ensures ∙ c.if-not-is_life_as_long.true))

pub loop-place-preserved : goal.loop-place-preserved
loop-place-preserved c =
    let same = c.if-own-lives.false in
    goes_on c.as_slice-own.result.now c.as_slice-lives.result.now c.loop-place.place c.loop-place.invariant Plain Plain (omega arith) (omega arith)
    (sym c.is_life_as_long.ensures ∙ c.if-not-is_life_as_long.false)

pub returns : goal.returns
returns c =
    let same = c.if-own-lives.false in
    sym (ap₂ are_lives_as_long (sym c.as_slice-own.ensures) (sym c.as_slice-lives.ensures)
    ∙ ends c.as_slice-own.result.now c.as_slice-lives.result.now c.loop-place.place c.loop-place.invariant (omega arith) (omega arith))
