use Rattle.drl_parse.proofs.{Common.{arith}, LineLaws.{next_offset, kept, fits}}
use Rattle.drl_parse.proofs.lines.lines_of.Goals as goal

pub slice_bounds-count_newlines-end : goal.slice_bounds-count_newlines-end
slice_bounds-count_newlines-end c =
    (next_offset c.args.bytes.now c.args.offsets.now c.loop-offset.lines.items c.loop-offset.offset-index c.loop-offset.before c.loop-offset.walked c.loop-offset.invariant c.loop-offset-test.true).1.0

pub overflow_add-before : goal.overflow_add-before
overflow_add-before c =
    let few = fits c.args.bytes.now c.args.offsets.now c.loop-offset.lines.items c.loop-offset.offset-index c.loop-offset.before c.loop-offset.walked c.loop-offset.invariant c.loop-offset-test.true in
    rw c.count_newlines-before.ensures.count (omega (arith, few))

pub loop-offset-preserved : goal.loop-offset-preserved
loop-offset-preserved c =
    rw (c.in_ok-push.ensures.items, c.line_behind.ensures, c.count_newlines-before.ensures.count)
    (kept c.args.bytes.now c.args.offsets.now c.loop-offset.lines.items c.loop-offset.offset-index c.loop-offset.before c.loop-offset.walked c.loop-offset.invariant c.loop-offset-test.true)
