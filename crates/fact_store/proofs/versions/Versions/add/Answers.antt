use Rattle.fact_store.proofs.{Common.{◌∙◌, sym, ap, subst, cond, true, ℕ, is_at, id_tag_cmp, has_pair, LeadsToNewest}, Newer.{either, on_some, has_first}}
use Rattle.{fact_store.proofs.Newer.{has_newer, has_older, leads_first, leads_newer, leads_older}, std.proofs.lemmas.Result.{on_ok_weaker}}
use Rattle.fact_store.proofs.versions.Versions.add.Goals as goal

pub invariant_of-self-then-newest-tag : goal.invariant_of-self-then-newest-tag
invariant_of-self-then-newest-tag c =
    leads_newer c.self.inside.newest c.replace.new.self c.self.inside.older.keys c.self.invariant c.args.id c.args.tag
    (on_some c.replace.result c.in-Some.newest (c.replace.ensures.before ∙ sym c.in-Some.ensures) c.replace.ensures.some)
    c.in-Some.newest (sym c.in-Some.ensures) c.insert.new.self.keys c.in_ok-insert-in-Some.ensures.updates.0 c.if-newest-tag.true

pub invariant_of-self-in_ok-insert-in-Some-2 : goal.invariant_of-self-in_ok-insert-in-Some-2
invariant_of-self-in_ok-insert-in-Some-2 c =
    leads_older c.self.inside.newest c.self.inside.newest c.self.inside.older.keys c.self.invariant c.args.id c.args.tag c.insert-else-newest-tag.new.self.keys
    c.in_ok-insert-in-Some-2.ensures.updates.0 c.in-Some.newest (sym c.in-Some.ensures) c.if-newest-tag.false (ap (λ ps. has_pair ps (c.args.id, c.args.tag)) c.self.view_is ∙ c.requires)

pub invariant_of-self-in-None : goal.invariant_of-self-in-None
invariant_of-self-in-None c =
    either c.insert-in-None.result c.insert-in-None.ensures.ok c.insert-in-None.ensures.err
    (λ now. leads_first c.self.inside.newest c.insert-in-None.new.self c.self.inside.older.keys c.self.invariant c.args.id c.args.tag now (sym c.in-None.ensures))
    (λ same. subst (λ m. LeadsToNewest m c.self.inside.older.keys) (sym same) c.self.invariant)

pub returns-in_ok-insert-in-Some-clause-ok : goal.returns-in_ok-insert-in-Some-clause-ok
returns-in_ok-insert-in-Some-clause-ok c p =
    has_newer c.self.inside.newest c.replace.new.self c.self.inside.older.keys c.self.invariant c.args.id c.args.tag
    (on_some c.replace.result c.in-Some.newest (c.replace.ensures.before ∙ sym c.in-Some.ensures) c.replace.ensures.some)
    c.in-Some.newest (sym c.in-Some.ensures) c.insert.new.self.keys c.in_ok-insert-in-Some.ensures.updates.0 p
    ∙ ap (λ ps. cond (is_at (id_tag_cmp (c.args.id, c.args.tag)) p) true (has_pair ps p)) c.self.view_is

pub returns-in_ok-insert-in-Some-2-clause-ok : goal.returns-in_ok-insert-in-Some-2-clause-ok
returns-in_ok-insert-in-Some-2-clause-ok c p =
    has_older c.self.inside.newest c.self.inside.newest c.self.inside.older.keys c.self.invariant c.args.id c.args.tag c.insert-else-newest-tag.new.self.keys
    c.in_ok-insert-in-Some-2.ensures.updates.0 p
    ∙ ap (λ ps. cond (is_at (id_tag_cmp (c.args.id, c.args.tag)) p) true (has_pair ps p)) c.self.view_is

pub returns-in-None-clause-ok : goal.returns-in-None-clause-ok
returns-in-None-clause-ok c =
    on_ok_weaker c.insert-in-None.result
    (λ now (p : ℕ × ℕ). has_first c.self.inside.newest c.insert-in-None.new.self c.self.inside.older.keys c.self.invariant c.args.id c.args.tag now (sym c.in-None.ensures) p
    ∙ ap (λ ps. cond (is_at (id_tag_cmp (c.args.id, c.args.tag)) p) true (has_pair ps p)) c.self.view_is)
    c.insert-in-None.ensures.ok
