use Rattle.join_memory.proofs.Common.{◌≡◌, ◌∙◌, sym, ap, refl, Bool, true, false, cond, ◌||◌, List, list_any, eq_by_cmp}
use Rattle.std.proofs.lemmas.Cmp.{eq_by_cmp_equiv}
use Rattle.join_memory.proofs.merge.put_all.Goals as goal

-- one key more is there, and no longer to come
put_more : (e f there after now : Bool) → e ≡ f → now ≡ cond e true there → (now || after) ≡ (there || (f || after))
put_more e f there after now same is = ap (λ b. b || after) (is ∙ ap (λ b. cond b true there) same) ∙ moved f there
  where
    moved : (f there : Bool) → (cond f true there || after) ≡ (there || (f || after))
    moved true true = refl
    moved true false = refl
    moved false true = refl
    moved false false = refl

pub loop-key-preserved : goal.loop-key-preserved
loop-key-preserved g c k =
    let there = list_any (eq_by_cmp g.K.Ord.cmp k) c.loop-key.all.keys in
    put_more (eq_by_cmp g.K.Ord.cmp c.in-Some.key k) (eq_by_cmp g.K.Ord.cmp k c.in-Some.key) there (list_any (eq_by_cmp g.K.Ord.cmp k) c.next.new.self.rest.items) _
    ((eq_by_cmp_equiv g.met.K.Ord.total).symm c.in-Some.key k) (c.in_ok-insert.ensures.updates.0 k)
    ∙ ap (λ (keys : List g.row.K.Denot). there || list_any (eq_by_cmp g.K.Ord.cmp k) keys) (sym c.in-Some.ensures.steps.0)
    ∙ c.loop-key.invariant k
