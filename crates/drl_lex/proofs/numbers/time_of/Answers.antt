use Rattle.drl_lex.proofs.{Common.{length, refl, codes, nat_lt, unit_part_at, last_at}, Capped.{total_is, time_is, under_cap}}
use Rattle.drl_lex.proofs.numbers.time_of.Goals as goal

pub returns-in-Some : goal.returns-in-Some
returns-in-Some c =
    let run = c.args.run.now in
    let r1 = c.part_at-days.result.1.now in
    let r2 = c.part_at-hours.result.1.now in
    let r3 = c.part_at-minutes.result.1.now in
    let r4 = c.part_at-seconds.result.1.now in
    let last = under_cap (last_at (nat_lt (length r4) (length run)) r4) c.in-Some.millis c.in-Some.ensures in
    let read = time_is run r1 r2 r3 r4 last.0 c.part_at-days.ensures.rest c.part_at-hours.ensures.rest c.part_at-minutes.ensures.rest c.part_at-seconds.ensures.rest last.1 in
    let total = total_is (unit_part_at (codes "d") run).0 (unit_part_at (codes "h") r1).0 (unit_part_at (codes "m") r2).0 (unit_part_at (codes "s") r3).0 last.0
    c.saturating_mul.result c.saturating_mul-in-Some.result c.saturating_mul-in-Some-2.result c.saturating_mul-in-Some-3.result
    c.saturating_add.result c.saturating_add-in-Some.result c.saturating_add-in-Some-2.result c.saturating_add-in-Some-3.result
    (rw c.part_at-days.ensures.number at c.saturating_mul.ensures) (rw c.part_at-hours.ensures.number at c.saturating_mul-in-Some.ensures) c.saturating_add.ensures
    (rw c.part_at-minutes.ensures.number at c.saturating_mul-in-Some-2.ensures) c.saturating_add-in-Some.ensures
    (rw c.part_at-seconds.ensures.number at c.saturating_mul-in-Some-3.ensures) c.saturating_add-in-Some-2.ensures
    (rw last.2 at c.saturating_add-in-Some-3.ensures) in
    rw (read, total) refl
