use Rattle.drl_lex.proofs.{Common.{arith, length, ◌-◌, IsFirstFault, lexed}, FileTurns.{starts, piece_front, turn, shorter, first_fault, fault_read, not_empty}}
use Rattle.drl_lex.proofs.{FileTurns.{empty, told_err, told_read, are_tokens}, FileLaws.{tokens_again}}
use Rattle.drl_lex.proofs.lexer.lex.Goals as goal

pub loop-rest-init : goal.loop-rest-init
loop-rest-init c = record { within = omega arith; read = starts c.new-tokens.result.items c.args.bytes.now c.new-tokens.ensures.items }

pub returns-in_err-kind-clause-refused : goal.returns-in_err-kind-clause-refused
returns-in_err-kind-clause-refused c =
    let fault = first_fault c.in_err-kind.field-0.0 c.loop-rest.tokens.items c.args.bytes.now c.loop-rest.rest.now
    (not_empty c.loop-rest.rest.now c.is_empty.result c.is_empty.ensures c.loop-rest-test.true) c.loop-rest.invariant.read c.in_err-kind.ensures in
    told_err c.from_residual.result c.in_err-kind.field-0.0 (λ fault. IsFirstFault fault c.args.bytes.now) c.from_residual.ensures.1 fault

pub returns-in_err-kind-clause-read : goal.returns-in_err-kind-clause-read
returns-in_err-kind-clause-read c =
    let fault = first_fault c.in_err-kind.field-0.0 c.loop-rest.tokens.items c.args.bytes.now c.loop-rest.rest.now
    (not_empty c.loop-rest.rest.now c.is_empty.result c.is_empty.ensures c.loop-rest-test.true) c.loop-rest.invariant.read c.in_err-kind.ensures in
    told_read (λ tokens. tokens) c.from_residual.result c.in_err-kind.field-0.0 (lexed c.args.bytes.now) c.from_residual.ensures.1 (fault_read c.in_err-kind.field-0.0 c.args.bytes.now fault)

pub overflow_sub-rest : goal.overflow_sub-rest
overflow_sub-rest c =
    let rest = c.loop-rest.rest.now in
    let front = piece_front (length c.args.bytes.now - length rest) rest (c.in_ok-kind.kind, c.in_ok-kind.behind.now) (not_empty rest c.is_empty.result c.is_empty.ensures c.loop-rest-test.true) c.in_ok-kind.ensures in
    omega (arith, shorter rest (c.in_ok-kind.kind, c.in_ok-kind.behind.now) front)

pub loop-rest-smaller : goal.loop-rest-smaller
loop-rest-smaller c =
    let rest = c.loop-rest.rest.now in
    let front = piece_front (length c.args.bytes.now - length rest) rest (c.in_ok-kind.kind, c.in_ok-kind.behind.now) (not_empty rest c.is_empty.result c.is_empty.ensures c.loop-rest-test.true) c.in_ok-kind.ensures in
    shorter rest (c.in_ok-kind.kind, c.in_ok-kind.behind.now) front

pub loop-rest-preserved : goal.loop-rest-preserved
loop-rest-preserved c =
    let rest = c.loop-rest.rest.now in
    let front = piece_front (length c.args.bytes.now - length rest) rest (c.in_ok-kind.kind, c.in_ok-kind.behind.now) (not_empty rest c.is_empty.result c.is_empty.ensures c.loop-rest-test.true) c.in_ok-kind.ensures in
    let lt = shorter rest (c.in_ok-kind.kind, c.in_ok-kind.behind.now) front in
    record {
      within = omega (arith, lt, c.loop-rest.invariant.within);
      read = rw c.in_ok-keep.ensures.ok (turn c.loop-rest.tokens.items c.args.bytes.now rest (c.in_ok-kind.kind, c.in_ok-kind.behind.now) c.loop-rest.invariant.within c.loop-rest.invariant.read front);
    }

pub returns-clause-tokens : goal.returns-clause-tokens
returns-clause-tokens c =
    rw c.from_vec.ensures (are_tokens c.loop-rest.tokens.items c.args.bytes.now c.loop-rest.rest.now c.loop-rest.invariant.read (empty c.loop-rest.rest.now c.is_empty.result c.is_empty.ensures c.loop-rest-test.false))

pub returns-clause-read : goal.returns-clause-read
returns-clause-read c =
    rw c.from_vec.ensures (tokens_again c.loop-rest.tokens.items c.args.bytes.now
    (are_tokens c.loop-rest.tokens.items c.args.bytes.now c.loop-rest.rest.now c.loop-rest.invariant.read (empty c.loop-rest.rest.now c.is_empty.result c.is_empty.ensures c.loop-rest-test.false)))
