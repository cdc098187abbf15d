use Rattle.command_words.proofs.{Common.{◌≤◌, ◌∙◌, length, rules, arith, sym}, Digits.{number_read}}
use Rattle.command_words.proofs.numbers.number_of.Goals as goal

pub returns : goal.returns
returns c =
    let some : 1 ≤ length c.args.text.now = search (rules, c.is_empty.ensures, c.if-is_empty.false) in
    c.ok.ensures.value ∙ number_read c.args.most c.args.text.now _ c.requires c.parse.ensures.value.0 (sym c.if-not-are_digits.ensures) some (omega (arith, c.if-text-most.false))
