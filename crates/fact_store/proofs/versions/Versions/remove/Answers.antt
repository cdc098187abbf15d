use Rattle.fact_store.proofs.{Common.{◌∙◌, sym, ap, cond, false, Some, is_at, id_tag_cmp, has_pair}, Newer.{is_tag, on_some, another_tag, has_next, has_fewer}}
use Rattle.fact_store.proofs.Newer.{has_others, leads_next, leads_fewer, leads_others}
use Rattle.fact_store.proofs.versions.Versions.remove.Goals as goal

pub invariant_of-self : goal.invariant_of-self
invariant_of-self c =
    leads_next c.self.inside.newest c.replace.new.self c.self.inside.older.keys c.self.invariant c.args.id c.args.tag (sym c.in-Some.ensures ∙ ap Some c.if-newest-tag.true) c.ranges.tag.fits
    c.in-Some-greatest.next c.in-Some-greatest.ensures.found.0 (on_some c.replace.result c.in-Some.newest (c.replace.ensures.before ∙ sym c.in-Some.ensures) c.replace.ensures.some)
    c.remove.new.self.keys c.remove.ensures.updates.0 c.in-Some-greatest.ensures.greatest

pub invariant_of-self-in-None-greatest : goal.invariant_of-self-in-None-greatest
invariant_of-self-in-None-greatest c =
    leads_fewer c.self.inside.newest c.remove-in-None-greatest.new.self c.self.inside.older.keys c.self.invariant c.args.id c.args.tag (sym c.in-Some.ensures ∙ ap Some c.if-newest-tag.true) c.ranges.tag.fits
    c.in-None-greatest.ensures.none c.remove-in-None-greatest.ensures.rest

pub invariant_of-self-else-newest-tag : goal.invariant_of-self-else-newest-tag
invariant_of-self-else-newest-tag c =
    leads_others c.self.inside.newest c.self.inside.newest c.self.inside.older.keys c.self.invariant c.args.id c.args.tag c.remove-else-newest-tag.new.self.keys c.remove-else-newest-tag.ensures.updates.0

pub invariant_of-self-in-None : goal.invariant_of-self-in-None
invariant_of-self-in-None c =
    leads_others c.self.inside.newest c.self.inside.newest c.self.inside.older.keys c.self.invariant c.args.id c.args.tag c.remove-in-None.new.self.keys c.remove-in-None.ensures.updates.0

pub returns-in-Some-greatest : goal.returns-in-Some-greatest
returns-in-Some-greatest c p =
    has_next c.self.inside.newest c.replace.new.self c.self.inside.older.keys c.self.invariant c.args.id c.args.tag (sym c.in-Some.ensures ∙ ap Some c.if-newest-tag.true) c.ranges.tag.fits
    c.in-Some-greatest.next c.in-Some-greatest.ensures.found.0 (on_some c.replace.result c.in-Some.newest (c.replace.ensures.before ∙ sym c.in-Some.ensures) c.replace.ensures.some)
    c.remove.new.self.keys c.remove.ensures.updates.0 p
    ∙ ap (λ ps. cond (is_at (id_tag_cmp (c.args.id, c.args.tag)) p) false (has_pair ps p)) c.self.view_is

pub returns-in-None-greatest : goal.returns-in-None-greatest
returns-in-None-greatest c p =
    has_fewer c.self.inside.newest c.remove-in-None-greatest.new.self c.self.inside.older.keys c.self.invariant c.args.id c.args.tag (sym c.in-Some.ensures ∙ ap Some c.if-newest-tag.true) c.ranges.tag.fits
    c.in-None-greatest.ensures.none c.remove-in-None-greatest.ensures.rest p
    ∙ ap (λ ps. cond (is_at (id_tag_cmp (c.args.id, c.args.tag)) p) false (has_pair ps p)) c.self.view_is

pub returns-else-newest-tag : goal.returns-else-newest-tag
returns-else-newest-tag c p =
    has_others c.self.inside.newest c.self.inside.newest c.self.inside.older.keys c.self.invariant c.args.id c.args.tag c.remove-else-newest-tag.new.self.keys c.remove-else-newest-tag.ensures.updates.0
    (another_tag c.self.inside.newest c.args.id c.in-Some.newest c.args.tag c.in-Some.ensures c.if-newest-tag.false) p
    ∙ ap (λ ps. cond (is_at (id_tag_cmp (c.args.id, c.args.tag)) p) false (has_pair ps p)) c.self.view_is

pub returns-in-None : goal.returns-in-None
returns-in-None c p =
    has_others c.self.inside.newest c.self.inside.newest c.self.inside.older.keys c.self.invariant c.args.id c.args.tag c.remove-in-None.new.self.keys c.remove-in-None.ensures.updates.0
    (ap (is_tag c.args.tag) (sym c.in-None.ensures)) p
    ∙ ap (λ ps. cond (is_at (id_tag_cmp (c.args.id, c.args.tag)) p) false (has_pair ps p)) c.self.view_is
