use Rattle.temporal_net.proofs.Common.{◌≡◌, ℕ, ◌+◌, ◌<◌, ◌≤◌, length, false, sym, ◌∙◌, ap, subst, arith, cell, lowered, loses_over, AllShort, AreTable}
use Rattle.temporal_net.proofs.{Common.{HaveWays}, Bounds.{solvable}, Cycles.{all_short, next_rows}, Solved.{written_back}, Sums.{no_solution}, Ways.{widened}}
use Rattle.temporal_net.proofs.net.Net.solve.Goals as goal

pub losing_point-requires-clause-short : goal.losing_point-requires-clause-short
losing_point-requires-clause-short c =
    let rows = c.loop-via.rows.items in
    let tall = c.in_ok-rows.ensures.tall in
    let le : c.loop-via.via ≤ length rows = omega arith in
    subst AllShort (sym c.deref.ensures.value) (all_short c.loop-via.via c.args.edges.now rows le c.loop-via.invariant.table)

pub round_trip-requires-clause-ways : goal.round_trip-requires-clause-ways
round_trip-requires-clause-ways c =
    let rows = c.loop-via.rows.items in
    let tall = c.in_ok-rows.ensures.tall in
    let le : c.loop-via.via ≤ length rows = omega arith in
    subst (HaveWays c.args.edges.now) (sym c.deref-in-Some.ensures.value)
    (widened (length rows) c.loop-via.via (length rows) c.args.edges.now (cell rows) le c.loop-via.invariant.table.ways)

pub returns-in-Some-clause-fault : goal.returns-in-Some-clause-fault
returns-in-Some-clause-fault c = (c.in_ok-round_trip.ensures, λ s. no_solution c.args.edges.now c.in_ok-round_trip.field-0 c.in_ok-round_trip.ensures s.0 s.1)

pub lower_over-requires-clause-short : goal.lower_over-requires-clause-short
lower_over-requires-clause-short c =
    let rows = c.loop-via.rows.items in
    let tall = c.in_ok-rows.ensures.tall in
    let le : c.loop-via.via ≤ length rows = omega arith in
    subst AllShort (sym c.deref_mut.ensures.value) (all_short c.loop-via.via c.args.edges.now rows le c.loop-via.invariant.table)

pub loop-via-preserved : goal.loop-via-preserved
loop-via-preserved c =
    let rows = c.loop-via.rows.items in
    let tall = c.in_ok-rows.ensures.tall in
    let lt : c.loop-via.via < length rows = omega arith in
    let new = c.lower_over.new.rows in
    let at_mut = c.deref_mut.ensures.value in
    let long : length new ≡ length rows = c.lower_over.ensures.tall ∙ ap length at_mut in
    let low : (x y : ℕ) → x < length rows → y < length rows → cell new x y ≡ lowered (cell rows x y) (cell rows x c.loop-via.via) (cell rows c.loop-via.via y) =
    subst (λ rs. (x y : ℕ) → x < length rs → y < length rs → cell new x y ≡ lowered (cell rs x y) (cell rs x c.loop-via.via) (cell rs c.loop-via.via y)) at_mut c.lower_over.ensures.lowered in
    let keeps : (x : ℕ) → x < length rows → loses_over rows c.loop-via.via x ≡ false =
    subst (λ rs. (x : ℕ) → x < length rs → loses_over rs c.loop-via.via x ≡ false) c.deref.ensures.value c.in_default.ensures.none in
    let next = next_rows c.loop-via.via c.args.edges.now rows new lt c.loop-via.invariant.table long low keeps in
    let back = written_back c.loop-via.rows.len new rows long (omega arith) in
    record {
      tall = ap length back ∙ long ∙ c.loop-via.invariant.tall;
      table = subst (AreTable (c.loop-via.via + 1) c.args.edges.now) (sym back) next;
    }

pub returns-clause-solvable : goal.returns-clause-solvable
returns-clause-solvable c =
    let rows = c.loop-via.rows.items in
    let tall = c.in_ok-rows.ensures.tall in
    let passed = c.loop-via-test.false in
    let upto = c.loop-via.auto in
    let all : c.loop-via.via ≡ length rows = omega arith in
    solvable (length rows) c.args.edges.now (cell rows) (subst (λ k. AreTable k c.args.edges.now rows) all c.loop-via.invariant.table)
