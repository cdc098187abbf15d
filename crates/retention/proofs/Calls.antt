-- What a retention covers as events are held and released.
use Rattle.retention.proofs.Common.{◌≡◌, ℕ, ℤ, ◌≤ℤ◌, ◌==◌, ◌&&◌, Bool, true, false, cond, not, refl, sym, ◌∙◌, ap, arith, Option, Some, None, nat_cmp}
use Rattle.retention.proofs.Common.{Decides-eqb, nat_cmp_total, ints, has_come, has_listed_tag, lingers, with_end, without, NewLaw, LaterLaw, HoldLaw}
use Rattle.{retention.proofs.Common.{ReleaseLaw, SameCovered, SameWatched}, std.specs.{Prelude.{int_le}, BTreeSet.{BTreeSet}}}
use Rattle.fx_base.proofs.Orders.{eq_by_nat_cmp}
use Rattle.std.specs.FinMap as map

pub new_law : NewLaw
new_law clock named r due lingering = record {
  due = λ tag. ap (λ m. map.get m tag) due ∙ map.get-empty nat_cmp tag;
  lingering = lingering;
  needed = λ tag is. let f : false ≡ true = sym (lingering tag) ∙ is in cc;
}

reached : (was now at : ℤ) → was ≤ℤ now → int_le at was ≡ true → int_le at now ≡ true
reached was now at le e = grind (arith, ints)

come_later : (was now : ℤ) (o : Option ℤ) → was ≤ℤ now → has_come was o ≡ true → has_come now o ≡ true
come_later was now None le is = is
come_later was now (Some at) le is = reached was now at le is

pub later_law : LaterLaw
later_law ends was now named r le watches = record {
  due = λ tag. watches.due tag ∙ ap (λ t. cond t None (ends tag)) (sym (watches.lingering tag));
  past = λ tag is. come_later was now (ends tag) le (sym (watches.lingering tag) ∙ is);
}

-- an event that is not there lingers nowhere
not_lingering : (clock : ℤ) (l : Bool) (o : Option ℤ) → (l ≡ true → has_come clock o ≡ true) → o ≡ None → l ≡ false
not_lingering clock true o past is = let e : false ≡ true = sym (ap (has_come clock) is) ∙ past refl in cc
not_lingering clock false o past is = refl

held_due : (t l : Bool) (at : ℤ) (o : Option ℤ) → (t ≡ true → l ≡ false) → cond t (Some at) (cond l None o) ≡ cond l None (cond t (Some at) o)
held_due true l at o e = ap (λ z. cond z None (Some at)) (sym (e refl))
held_due false l at o e = refl

held_past : (clock : ℤ) (t l : Bool) (at : ℤ) (o : Option ℤ) → (t ≡ true → l ≡ false) → (l ≡ true → has_come clock o ≡ true) → l ≡ true → has_come clock (cond t (Some at) o) ≡ true
held_past clock true l at o e past is = let f : false ≡ true = sym (e refl) ∙ is in cc
held_past clock false l at o e past is = past is

pub hold_law : HoldLaw
hold_law ends now at tag before after covers new due same =
    let lingering : (other : ℕ) → lingers after other ≡ lingers before other = λ other. ap (λ (s : BTreeSet ℕ). has_listed_tag s.keys other) same in
    let free : lingers before tag ≡ false = not_lingering now (lingers before tag) (ends tag) (covers.past tag) new in
    let here : (other : ℕ) → (other == tag) ≡ true → lingers before other ≡ false = λ other e. ap (lingers before) ((Decides-eqb other tag).0 e) ∙ free in (
      covers.due tag ∙ ap (λ t. cond t None (ends tag)) free ∙ new,
      record {
        due = λ other.
            ap (λ m. map.get m other) due ∙ map.get-insert nat_cmp_total before.due tag at other
            ∙ ap (λ t. cond t (Some at) (map.get before.due other)) (eq_by_nat_cmp other tag)
            ∙ ap (λ o. cond (other == tag) (Some at) o) (covers.due other)
            ∙ held_due (other == tag) (lingers before other) at (ends other) (here other)
            ∙ ap (λ t. cond t None (with_end ends tag at other)) (sym (lingering other));
        past = λ other is. held_past now (other == tag) (lingers before other) at (ends other) (here other) (covers.past other) (sym (lingering other) ∙ is);
      },
    )

released_due : (t l : Bool) (o : Option ℤ) → cond t None (cond l None o) ≡ cond (l && not t) None (cond t None o)
released_due true true o = refl
released_due true false o = refl
released_due false true o = refl
released_due false false o = refl

released_past : (clock : ℤ) (t l : Bool) (o : Option ℤ) → (l ≡ true → has_come clock o ≡ true) → (l && not t) ≡ true → has_come clock (cond t None o) ≡ true
released_past clock true true o past is = is
released_past clock true false o past is = is
released_past clock false true o past is = past refl
released_past clock false false o past is = past is

pub release_law : ReleaseLaw
release_law ends now tag before after covers due lingering = record {
  due = λ other.
      ap (λ m. map.get m other) due ∙ map.get-remove nat_cmp_total before.due tag other
      ∙ ap (λ t. cond t None (map.get before.due other)) (eq_by_nat_cmp other tag)
      ∙ ap (λ o. cond (other == tag) None o) (covers.due other)
      ∙ released_due (other == tag) (lingers before other) (ends other)
      ∙ ap (λ t. cond t None (without ends (λ x. x == tag) other)) (sym (lingering other));
  past = λ other is. released_past now (other == tag) (lingers before other) (ends other) (covers.past other) (sym (lingering other) ∙ is);
}

pub same_covered : SameCovered
same_covered ends same clock r alike covers = record {
  due = λ tag. covers.due tag ∙ ap (cond (lingers r tag) None) (alike tag);
  past = λ tag is. ap (has_come clock) (sym (alike tag)) ∙ covers.past tag is;
}

pub same_watched : SameWatched
same_watched ends same clock named also r alike names watches = record {
  due = λ tag. watches.due tag ∙ ap (λ e. cond (has_come clock e) None e) (alike tag);
  lingering = λ tag. watches.lingering tag ∙ ap (has_come clock) (alike tag);
  needed = λ tag is. sym (names tag) ∙ watches.needed tag is;
}
