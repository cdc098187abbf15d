use Rattle.script_read.proofs.{Common.{arith, rules, length, nat_cmp, of_calls, slice_cmp}, Rising.{Field, parted, put_at}}
use Rattle.std.proofs.lemmas.Fn.{always_returns_same}
use Rattle.script_read.proofs.tree.place_of.Goals as goal

pub returns-then-is_last-clause-place : goal.returns-then-is_last-clause-place
returns-then-is_last-clause-place c =
    put_at c.args.fields.now (length c.args.fields.now) c.args.name.now (omega arith)
    (λ k d lt. c.is_last.ensures c.if-is_last.true c.requires k d (omega arith) lt) (λ d lt. absurd (omega arith))

pub returns-in-Err-clause-place : goal.returns-in-Err-clause-place
returns-in-Err-clause-place c =
    let fs = c.args.fields.now in
    let name = c.args.name.now in
    let parts = c.in-Err.ensures.position (λ (f : Field). slice_cmp nat_cmp f.0 name) (always_returns_same _ _ _ (λ a r f k. search (rules, of_calls))) (parted fs name c.requires) in
    put_at fs c.in-Err.place name c.in-Err.ensures.bound (λ k d lt. parts.0 k d (omega arith) lt) (λ d lt. parts.1 c.in-Err.place d (omega arith) lt)
