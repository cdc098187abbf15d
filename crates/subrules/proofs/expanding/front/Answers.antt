use Rattle.subrules.{proofs.Common.{◌+◌, ◌++◌, ◌∙◌, sym, ap, map, take, arith, plain_items, titles_in, origins_from}, specs.Expanded.{plain_bodies}}
use Rattle.{subrules.proofs.FrontLaws.{each_next, origins_next}, drl_grammar.specs.declared.{file.Body.{Body}, written.WrittenItem.{WrittenItem}}}
use Rattle.subrules.proofs.expanding.front.Goals as goal

pub loop-item-preserved : goal.loop-item-preserved
loop-item-preserved c =
    let types = c.args.types.now in
    let items = c.args.items.now in
    let k = c.loop-item.item-index in
    let item = c.item-item.result in
    let gives = c.in_ok-add_item.ensures in
    record {
      counts = c.add_item.ensures.front ∙ ap (λ n. n + 1) c.loop-item.invariant.counts;
      items = gives.items ∙ ap (λ made. made ++ plain_items types item) c.loop-item.invariant.items ∙ sym (each_next (plain_items types) items k item (omega arith) c.item-item.is);
      origins = gives.origins ∙ ap (λ made. made ++ map (λ (b : Body). c.loop-item.made.front + 1) (plain_bodies types item.body)) c.loop-item.invariant.origins
          ∙ ap (λ n. origins_from types 1 (take k items) ++ map (λ (b : Body). n + 1) (plain_bodies types item.body)) c.loop-item.invariant.counts
          ∙ sym (origins_next types items k item (omega arith) c.item-item.is);
      titles = gives.titles ∙ ap (λ made. made ++ titles_in types item.body) c.loop-item.invariant.titles
          ∙ sym (each_next (λ (item : WrittenItem). titles_in types item.body) items k item (omega arith) c.item-item.is);
    }
