use Rattle.{desk_image.proofs.Common.{IsImageLife, Life, life_bytes}, checkpoint.proofs.Loops.{writes_on, fits_on}}
use Rattle.{rule_model.specs.declared.life.Life.TheVariants.{Plain}, std.proofs.{Common.{get_or}, lemmas.List.{get_or_default}}}
use Rattle.desk_image.proofs.front.put_each.Goals as goal

pub loop-life-preserved : goal.loop-life-preserved
loop-life-preserved c =
    let lives = c.args.lives.now in
    let place = c.loop-life.life-index in
    let life : Life = get_or lives place Plain in
    let same = get_or_default lives place Plain life c.loop-life-test.true in
    record {
      appended =
          writes_on lives life life_bytes place c.loop-life.out.items _ _ c.loop-life-test.true same c.in_ok-put_life.ensures.appends
          c.loop-life.invariant.appended;
      fits = fits_on lives life IsImageLife place c.loop-life-test.true same c.loop-life.invariant.fits c.in_ok-put_life.ensures.fits;
    }
