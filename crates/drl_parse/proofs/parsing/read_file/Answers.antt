use Rattle.drl_parse.proofs.{Common.{sym, ◌∙◌}, LineLaws.{offsets_rise}, FileTurns.{long_is, refused_is, few_kinds, items_told, items_read}}
use Rattle.drl_parse.proofs.parsing.read_file.Goals as goal

pub returns-then-is_too_long : goal.returns-then-is_too_long
returns-then-is_too_long c = long_is c.args.bytes.now (sym c.is_too_long.ensures ∙ c.if-is_too_long.true)

pub returns-in-Err : goal.returns-in-Err
returns-in-Err c =
    refused_is c.args.bytes.now c.in-Err.fault c.lexer_fault.result (sym c.is_too_long.ensures ∙ c.if-is_too_long.false) c.in-Err.ensures.read c.lexer_fault.ensures

pub lines_of-requires : goal.lines_of-requires
lines_of-requires c = rw (c.as_slice.ensures, c.in_ok-said.ensures.starts) (offsets_rise c.in-Ok.tokens c.args.bytes.now c.in-Ok.ensures.tokens)

pub items_of-requires-clause-few : goal.items_of-requires-clause-few
items_of-requires-clause-few c =
    rw (c.as_slice-2.ensures, c.in_ok-said.ensures.kinds) (few_kinds c.args.bytes.now c.in-Ok.tokens (sym c.is_too_long.ensures ∙ c.if-is_too_long.false) c.in-Ok.ensures.tokens)

pub returns-in_err-items : goal.returns-in_err-items
returns-in_err-items c =
    items_told c.args.bytes.now c.in-Ok.tokens c.in_err-items.field-0.0 c.from_residual-in_err-items.result (sym c.is_too_long.ensures ∙ c.if-is_too_long.false) c.in-Ok.ensures.tokens
    (rw (c.as_slice-2.ensures, c.in_ok-said.ensures.kinds, c.deref.ensures.value, c.in_ok-lines.ensures, c.as_slice.ensures, c.in_ok-said.ensures.starts) at c.in_err-items.ensures)
    c.from_residual-in_err-items.ensures.1

pub returns : goal.returns
returns c =
    items_read c.args.bytes.now c.in-Ok.tokens c.in_ok-items.items (sym c.is_too_long.ensures ∙ c.if-is_too_long.false) c.in-Ok.ensures.tokens
    (rw (c.as_slice-2.ensures, c.in_ok-said.ensures.kinds, c.deref.ensures.value, c.in_ok-lines.ensures, c.as_slice.ensures, c.in_ok-said.ensures.starts) at c.in_ok-items.ensures)
