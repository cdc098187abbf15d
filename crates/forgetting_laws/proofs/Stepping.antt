-- The laws of a step in two phases.
use Rattle.forgetting_laws.proofs.Common.{◌≡◌, ℤ, ◌≤ℤ◌, ◌+ℤ◌, ◌&&◌, ◌||◌, Bool, true, false, not, refl, sym, ◌∙◌, ap, arith, None, int_le, pos, is_some}
use Rattle.forgetting_laws.proofs.Common.{option_and_then, ints, Match, has_match, has_come, same_watched, Lives, TagWorld, IsSoundSight, end_of_life, only}
use Rattle.forgetting_laws.proofs.Common.{is_needed, is_kept_fact, ends_of, is_kept_tag, is_clean, some_tag, each_tag, new_law, EndLaw, EmptySessionLaw}
use Rattle.forgetting_laws.proofs.{Common.{MatchesLeftLaw, DropFiredLaw, TwoPhaseLaw}, Before.{pending_kept, kept_before_law}, Forgotten.{IsForgotten}}
use Rattle.{forgetting_laws.proofs.{Forgotten.{still_kept, holds_kept}, Naming.{clean_is}}, std.proofs.lemmas.Bool.{and_parts}}

-- ---- lives

within : (now last : ℤ) → int_le (last +ℤ pos 1) now ≡ false → now ≤ℤ last
within now last e = grind (arith, ints)

until : (now last : ℤ) → now ≤ℤ last → int_le (last +ℤ pos 1) now ≡ false
until now last e = grind (arith, ints)

pub end_law : EndLaw
end_law table f n now e =
    let same = ap (λ life. has_come now (end_of_life life f)) e in (
      λ h. within now (f.times.end +ℤ n) (sym same ∙ h),
      λ h. same ∙ until now (f.times.end +ℤ n) h,
    )

-- ---- the beginning

pub start_law : EmptySessionLaw
start_law lives w s no_facts none_fired empty due lingering pending unfired = record {
  store = λ tag. empty tag ∙ sym (ap (only (is_kept_fact lives w tag)) (no_facts tag));
  watched =
      same_watched (λ tag. None) (ends_of lives s.store) w.clock (is_needed w) (is_needed w) s.retention (λ tag. sym (ap (option_and_then lives) (empty tag))) (λ tag. refl)
      (new_law w.clock (is_needed w) s.retention due lingering);
  pending = pending;
  fired = λ m. unfired m ∙ sym (ap (λ t. t && each_tag (is_kept_tag lives w) m) (none_fired m));
}

-- ---- what left, and what is dropped

pub left_of_gone : MatchesLeftLaw
left_of_gone before middle gone come left pending tags m tag was free names = tags m tag (goes (has_match before.pending m) (gone m) (come m) was (sym (pending m) ∙ free)) names
  where
    goes : (p g c : Bool) → p ≡ true → ((p && not g) || c) ≡ false → g ≡ true
    goes true true c e f = refl
    goes true false c e f = absurd (let h : true ≡ false = f in cc)
    goes false g c e f = absurd (let h : false ≡ true = e in cc)

pub drop_law : DropFiredLaw
drop_law middle after old dropped lost same m = lost m ∙ by (has_match middle.fired m) (same m)
  where
    by : (f : Bool) → (f ≡ true → dropped m ≡ some_tag old m) → (f && not (dropped m)) ≡ (f && not (some_tag old m))
    by true e = ap not (e refl)
    by false e = refl

-- ---- matches

-- c: clean, vm, vf: matched and fired before, wm: matched now
pending_is : (vm vf wm c : Bool) → (vf ≡ true → vm ≡ true) → ((vm && not vf) ≡ true → c ≡ true) → (wm ≡ true → vm ≡ false → c ≡ true)
    → (((vm && not vf) && not ((vm && c) && not (wm && c))) || ((wm && c) && not (vm && c))) ≡ (wm && not (vf && wm))
pending_is true true true true fired clean comes = refl
pending_is true true true false fired clean comes = refl
pending_is true true false true fired clean comes = refl
pending_is true true false false fired clean comes = refl
pending_is true false true true fired clean comes = refl
pending_is true false false true fired clean comes = refl
pending_is true false wm false fired clean comes = absurd (let e : false ≡ true = clean refl in cc)
pending_is false true wm c fired clean comes = absurd (let e : false ≡ true = fired refl in cc)
pending_is false false true true fired clean comes = refl
pending_is false false true false fired clean comes = absurd (let e : false ≡ true = comes refl refl in cc)
pending_is false false false c fired clean comes = refl

-- kv, kw: all facts kept before and now, names: names an old one
fired_is : (vm vf wm c kv kw names : Bool) → (vf ≡ true → vm ≡ true) → (vm ≡ true → c ≡ kv) → (vf ≡ true → wm ≡ true → kw ≡ (kv && not names))
    → (((vf && kv) && not ((vm && c) && not (wm && c))) && not names) ≡ ((vf && wm) && kw)
fired_is vm false wm c kv kw names fired clean next = refl
fired_is false true wm c kv kw names fired clean next = absurd (let e : false ≡ true = fired refl in cc)
fired_is true true true true kv kw names fired clean next = ap (λ t. (t && true) && not names) (sym (clean refl)) ∙ ap (λ t. t && not names) (clean refl) ∙ sym (next refl refl)
fired_is true true true false kv kw names fired clean next = ap (λ t. (t && true) && not names) (sym (clean refl)) ∙ ap (λ t. t && not names) (clean refl) ∙ sym (next refl refl)
fired_is true true false true kv kw names fired clean next = ap (λ t. (t && false) && not names) (sym (clean refl))
fired_is true true false false kv kw names fired clean next = ap (λ t. (t && true) && not names) (sym (clean refl))

-- a match of the world names no forgotten fact where it names kept facts alone
clean_kept : (lives : Lives) (w : TagWorld) → IsSoundSight w → (m : Match) → w.matches m ≡ true → is_clean lives w m ≡ each_tag (is_kept_tag lives w) m
clean_kept lives w lawful m is = clean_is (λ tag. is_some (w.facts tag)) (is_kept_tag lives w) m.row.facts (lawful.names m is)

pub step_law : TwoPhaseLaw
step_law lives new out was is before middle after gone come left old lawful lawful_now step clean holds takes leaves forgets =
    let pend : (m : Match) → has_match middle.agenda.pending m ≡ has_match is.pending m = λ m.
    let vm = was.matches m in let vf = was.fired m in let wm = is.matches m in let c = is_clean lives was m in
    takes.pending m
    ∙ ap (λ t. (t && not (gone m)) || come m) (holds.pending m ∙ lawful.pending m)
    ∙ ap (λ t. ((vm && not vf) && not t) || come m) (takes.goes m)
    ∙ ap (λ t. ((vm && not vf) && not ((vm && c) && not (wm && c))) || t) (takes.comes m)
    ∙ pending_is vm vf wm c (lawful.fired m)
    (λ e. clean_kept lives was lawful m (and_parts vm (not vf) e).0 ∙ pending_kept lives was lawful m (lawful.pending m ∙ e))
    (clean m)
    ∙ ap (λ t. wm && not t) (sym (step.fired m)) ∙ sym (lawful_now.pending m) in
    let phase : IsForgotten lives new out was is before middle after left old = record {
      facts = step.facts;
      fresh = step.fresh;
      kept_before = kept_before_law lives new out was is lawful lawful_now step clean;
      holds = holds;
      store = takes.store;
      covered = takes.covered;
      lingering = takes.lingering;
      pending = pend;
      leaves = leaves;
      forgets = forgets;
    } in
    holds_kept phase (λ m.
    let vm = was.matches m in let vf = was.fired m in let wm = is.matches m in let c = is_clean lives was m in
    let kv = each_tag (is_kept_tag lives was) m in let kw = each_tag (is_kept_tag lives is) m in
    ap (λ t. t && not (some_tag old m)) (takes.fired m)
    ∙ ap (λ t. (t && not (gone m)) && not (some_tag old m)) (holds.fired m)
    ∙ ap (λ t. ((vf && kv) && not t) && not (some_tag old m)) (takes.goes m)
    ∙ fired_is vm vf wm c kv kw (some_tag old m) (lawful.fired m) (clean_kept lives was lawful m)
    (λ f w. still_kept phase m (lawful.names m (lawful.fired m f)) (lawful_now.names m w))
    ∙ ap (λ t. t && kw) (sym (step.fired m)))
