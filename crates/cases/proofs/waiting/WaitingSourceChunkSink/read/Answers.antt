use Rattle.{std.proofs.{Common.{◌≡◌, ◌+◌, ◌++◌, ℕ, List, take, drop, Some, sym, ap, subst, ◌∙◌}, lemmas.List.{take_rest}}, fx_io.proofs.Told.{read_more}}
use Rattle.cases.{specs.Answered.{IsAnswered}, proofs.Given.{given_on}}
use Rattle.cases.proofs.waiting.WaitingSourceChunkSink.read.Goals as goal

pub returns-clause-taken : goal.returns-clause-taken
returns-clause-taken c =
    let items = c.args.self.now.bytes.items in
    let at = c.args.self.now.at in
    let n = c.copy_front-n.result in
    let same : take n c.copy_front-n.new.to ≡ take n (drop at items) = rw take_rest at (rw c.deref-2.ensures.value at c.copy_front-n.ensures.bytes) in
    ap Some (read_more items at n ∙ ap (λ (z : List ℕ). z ++ drop (at + n) items) (sym same))

pub returns-clause-asked : goal.returns-clause-asked
returns-clause-asked c more out h over =
    let items = c.args.self.now.bytes.items in
    let at = c.args.self.now.at in
    let n = c.copy_front-n.result in
    let same : take n c.copy_front-n.new.to ≡ take n (drop at items) = rw take_rest at (rw c.deref-2.ensures.value at c.copy_front-n.ensures.bytes) in
    subst (λ (z : List ℕ). IsAnswered c.args.self.now.words.now c.args.self.now.files.items z (Some out.written)) (sym (given_on items at n c.copy_front-n.new.to more same)) (h (c.is_over-self.ensures.stays over))
