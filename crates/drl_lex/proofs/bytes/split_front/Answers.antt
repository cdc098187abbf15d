use Rattle.drl_lex.proofs.{Common.{length, arith, sym, ap, ◌∙◌, List, ℕ, take_all, in_class}, FrontLaws.{longest_stop, longest_end, all_pass}}
use Rattle.drl_lex.proofs.bytes.split_front.Goals as goal

pub returns-then-not-contains : goal.returns-then-not-contains
returns-then-not-contains c =
    let e = longest_stop (in_class c.args.class) c.args.bytes.now c.loop-i.i c.loop-i.invariant (omega arith) (sym c.contains.ensures ∙ c.if-not-contains.true) in
    record {
      front = c.split_at.ensures.front ∙ ap (λ (p : List ℕ × List ℕ). p.0) (sym e);
      rest = c.split_at.ensures.back ∙ ap (λ (p : List ℕ × List ℕ). p.1) (sym e);
      passes = rw c.split_at.ensures.front c.loop-i.invariant;
    }

pub returns : goal.returns
returns c =
    let e = longest_end (in_class c.args.class) c.args.bytes.now c.loop-i.i (length c.args.bytes.now) (omega arith) (omega arith) c.loop-i.invariant in
    record {
      front = c.split_at-2.ensures.front ∙ ap (λ (p : List ℕ × List ℕ). p.0) (sym e);
      rest = c.split_at-2.ensures.back ∙ ap (λ (p : List ℕ × List ℕ). p.1) (sym e);
      passes = rw (c.split_at-2.ensures.front, take_all (length c.args.bytes.now) c.args.bytes.now (omega arith)) (all_pass (in_class c.args.class) c.args.bytes.now c.loop-i.i (omega arith) c.loop-i.invariant);
    }
