use Rattle.page_map.proofs.{Common.{◌∙◌, ap, ◌/◌, ◌%◌, cond, nat_eq, on_ok_weaker, on_err_weaker}, Written.{written, unwritten}}
use Rattle.page_map.proofs.directory.put_at.Goals as goal

pub returns-clause-ok : goal.returns-clause-ok
returns-clause-ok c =
    on_ok_weaker c.put_in.result
    (λ writes k. written c.reach.new.pages.items c.args.place c.index_mut.result.now c.put_in.new.page c.in_ok-reach.ensures.reached c.index_mut.ensures.value c.args.value writes k
    ∙ ap (cond (nat_eq c.args.place k) c.args.value) (c.reach.ensures.kept (k / 64) (k % 64)))
    c.put_in.ensures.ok

pub returns-clause-err : goal.returns-clause-err
returns-clause-err c =
    on_err_weaker c.put_in.result
    (λ same k. unwritten c.reach.new.pages.items c.args.place c.index_mut.result.now c.put_in.new.page c.in_ok-reach.ensures.reached c.index_mut.ensures.value same k
    ∙ c.reach.ensures.kept (k / 64) (k % 64))
    c.put_in.ensures.err
