use Rattle.candidate_source.proofs.{Common.{◌∙◌, ap, sym, refl, subst, ◌≡◌, ◌+◌, [], ◌∷◌, length, Some}, Growing.{AreAllLoaded, loaded_apart, loaded_each}}
use Rattle.{candidate_source.proofs.Growing.{loaded_laid, loaded_more, loaded_none}, std.proofs.Common.{to_z-of_z, arith, length-append, slice_get}}
use Rattle.std.proofs.lemmas.Option.{slice_get-get_or}
use Rattle.candidate_source.proofs.sources.Sources.load.Goals as goal

pub loop-source-init : goal.loop-source-init
loop-source-init g c = record { count = ap length c.in_ok-list.ensures.items; loaded = loaded_none _ _ _ _ c.in_ok-list.list.items c.in_ok-list.ensures.items }

pub loop-source-preserved : goal.loop-source-preserved
loop-source-preserved g c =
    let found : slice_get c.as_slice-source-items.result.now c.loop-source.source-index ≡ Some c.source-item.result =
    slice_get-get_or c.as_slice-source-items.result.now c.loop-source.source-index c.source-item.result c.loop-source-test.true ∙ ap Some (sym c.source-item.is) in
    record {
      count = ap length c.in_ok-push.ensures.items ∙ length-append c.loop-source.list.items (c.in_ok-loaded.loaded ∷ []) ∙ ap (λ n. n + 1) c.loop-source.invariant.count;
      loaded = subst (AreAllLoaded _ _ _ c.as_slice-source-items.result.now) (sym c.in_ok-push.ensures.items)
          (loaded_more _ _ _ c.as_slice-source-items.result.now c.loop-source.list.items c.loop-source.source-index c.source-item.result c.in_ok-loaded.loaded c.loop-source.invariant.count found c.in_ok-loaded.ensures c.loop-source.invariant.loaded);
    }

many : (g : _) (c : goal.After-drop-self g) → length c.loop-source.list.items ≡ length c.args.self.now.list.items
many g c =
    let past = c.loop-source-test.false in
    let most = c.loop-source.auto.source-index-end in
    c.loop-source.invariant.count ∙ (omega (arith, past, most)) ∙ ap length c.as_slice-source-items.ensures.value

all : (g : _) (c : goal.After-drop-self g) → AreAllLoaded c.args.groups.now c.args.clock (g.F.Facts.map c.args.facts.now) c.args.self.now.list.items c.loop-source.list.items
all g c =
    let fits = c.ranges.clock in
    let loaded = simp (to_z-of_z, c.as_slice-source-items.ensures.value) at c.loop-source.invariant.loaded in
    loaded

pub returns-clause-laid : goal.returns-clause-laid
returns-clause-laid g c = loaded_laid _ _ _ c.args.self.now _ refl refl (many g c) (all g c)

pub returns-clause-apart : goal.returns-clause-apart
returns-clause-apart g c = loaded_apart _ _ _ c.args.self.now _ refl refl (many g c) (all g c)

pub returns-clause-loaded : goal.returns-clause-loaded
returns-clause-loaded g c = loaded_each _ _ _ c.args.self.now (record { list = c.loop-source.list; of = c.args.self.now.of; leads = c.args.self.now.leads; handed = c.args.self.now.handed }) refl refl (many g c) (all g c)
