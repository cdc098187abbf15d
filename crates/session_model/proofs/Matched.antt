-- The parts of a session that are made from an image, as they are told one after the other.
use Rattle.session_model.proofs.Common.{◌≡◌, ◌∙◌, ◌≤◌, ◌<◌, ◌≤ℤ◌, ◌||◌, not, ℕ, ℤ, pos, Bool, true, false, cond, List, [], ◌∷◌, length, Option, Some, None}
use Rattle.session_model.proofs.Common.{Result, Ok, Err, refl, sym, ap, subst, arith, IsErrAnd, eq_by_cmp, nat_cmp, ∥∥₁_elim, In, Fact, Extra, Named}
use Rattle.session_model.proofs.Common.{FiredMatch, Image, Timers, HeldFacts, itself, LifeTable, Moment, Program, saliences, Snapshot, most_millis, IsRunnable}
use Rattle.session_model.proofs.Common.{below_of, slice_get_within, Look, Marks, match_fired, snapshot_of, AreOwners, FitsPlainly, FitsByRows, Retention}
use Rattle.session_model.proofs.Common.{has_listed_tag, is_tag_among, is_named, PassesLives, Covers, Ends, is_old, past_law, ends_by, ends_of, RuleChange, Rete}
use Rattle.session_model.proofs.Common.{AreLadenRows, IsBehind, IsLoadable, IsThere, NetStands, IsNetwork, Memory, Setting, IsSafe, at_hand, comes_by}
use Rattle.session_model.proofs.Common.{has_marked, is_laden, stored, AreHeld, AreMarked, IsMatched, IsRestored, NoneGo, AreOfRules, Contents, Course, IsSound}
use Rattle.{session_model.proofs.Common.{ReachesNoMore, Runs, expiry_at, reached_of}, std.proofs.lemmas.Bool.{and_parts, or_left}}
use Rattle.std.specs.FinMap as map_of
use lib.IntN.{ℤ_set}
use Rattle.{engine.specs.declared.resuming.ResumeFault.{ResumeFault, TheVariants.{Unfit}}, session_model.proofs.Coming.{comes_laden, laden_marked, none_go}}
use Rattle.session_model.proofs.{Refitted.{fired_unfit, laden_match, no_row_unfit, old_unfit, rows_fit}, Restored.{loadable, restored_stands}}
use Rattle.session_model.proofs.{Saved.{beyond_end}, Stands.{contents}, Storing.{stored_holds}}

-- what a ghost field tells of entry points
pub merely_no_more : (p : Program) (m : Memory) (k : Contents) → ∥ IsSound p m k ∥₁ → ReachesNoMore p (reached_of k)
merely_no_more p m k sound entry beyond = (∥∥₁_elim sound (ℤ_set _ _) (λ s. (s.reached entry beyond).0), ∥∥₁_elim sound (ℤ_set _ _) (λ s. (s.reached entry beyond).1))

fault_of : {T : Type 0} (a b : ResumeFault) → ◌≡◌ {A = Result T ResumeFault} (Err a) (Err b) → a ≡ b
fault_of a b e = cc

-- what is passed on as unfit was unfit
pub residual_unfit : {T : Type 0} (r : Result T ResumeFault) (x : ResumeFault) → IsErrAnd r (λ e. e ≡ x) → r ≡ Err Unfit → x ≡ Unfit
residual_unfit (Ok y) x told e = absurd told
residual_unfit (Err fault) x told e = sym told ∙ fault_of fault Unfit e

-- ---- a network that is loaded, and the agenda of its rows

module _ (p : Program) (table : LifeTable) (image : Image) (plain : FitsPlainly p table image) (runnable : IsRunnable p) (kept : List Fact) (told : List Extra) (facts : HeldFacts) (moment : Moment)
    (is_kept : kept ≡ image.facts) (is_told : told ≡ image.extras) (is_stored : facts ≡ stored image.facts)
    (clock : moment.clock ≡ image.clock) (last_starts : moment.last_starts.now ≡ image.last_starts) (promises : moment.promises.now ≡ image.promises) where
  abbrev here : Snapshot
  here = snapshot_of image

  abbrev look : Look
  look tag = map_of.get facts tag.0

  can_load : IsLoadable p here kept told moment look
  can_load =
      subst (λ (fs : List Fact). IsLoadable p here fs told moment look) (sym is_kept)
      (subst (λ (es : List Extra). IsLoadable p here image.facts es moment look) (sym is_told)
      (subst (λ (h : HeldFacts). IsLoadable p here image.facts image.extras moment (λ tag. map_of.get h tag.0)) (sym is_stored)
      (loadable p table image plain runnable moment clock last_starts promises)))

  stands_behind : (s : Snapshot) (forgotten : Named → Bool) → IsBehind p s here forgotten image.extras (at_hand image) → IsBehind p s here forgotten told look
  stands_behind s forgotten behind =
      subst (λ (es : List Extra). IsBehind p s here forgotten es look) (sym is_told)
      (subst (λ (h : HeldFacts). IsBehind p s here forgotten image.extras (λ tag. map_of.get h tag.0)) (sym is_stored) behind)

  abbrev HasRows : List RuleChange → Type 0
  HasRows changes = (t : Snapshot) (owners : ℕ → ℕ → ℕ) → IsLoadable p t kept told moment look → AreOwners p owners → AreLadenRows p t told owners changes

  rows_here : (changes : List RuleChange) → HasRows changes → (owners : ℕ → ℕ → ℕ) → AreOwners p owners → AreLadenRows p here image.extras owners changes
  rows_here changes has owners own = subst (λ (es : List Extra). AreLadenRows p here es owners changes) is_told (has here owners can_load own)

  pub matched_is : (net : Rete) (changes : List RuleChange) (marks : Marks) (fired : List FiredMatch) → fired ≡ image.fired → IsNetwork p net
      → ((s t : Snapshot) (forgotten : Named → Bool) → IsLoadable p t kept told moment look → IsBehind p s t forgotten told look → NetStands p net s forgotten)
      → HasRows changes
      → ((t : Snapshot) (owners : ℕ → ℕ → ℕ) → IsLoadable p t kept told moment look → AreOwners p owners → (e : Extra) → In e told → IsThere p t told owners e true)
      → marks.saliences ≡ saliences p.rules → (NoneGo changes → AreMarked (comes_by changes) fired marks) → ((m : FiredMatch) → In m fired → comes_by changes (match_fired m) ≡ true)
      → IsMatched p image net marks
  matched_is net changes marks fired is_fired shape stands has there salient marked came = record {
    net_of = shape;
    stands = λ s forgotten behind. stands s here forgotten can_load (stands_behind s forgotten behind);
    salient = salient;
    marked = λ owners own.
        let rows = rows_here changes has owners own in
        laden_marked p image owners changes rows image.fired marks (subst (λ (fs : List FiredMatch). AreMarked (comes_by changes) fs marks) is_fired (marked (none_go p image owners changes rows)));
    there = λ owners own e i. subst (λ (es : List Extra). IsThere p here es owners e true) is_told (there here owners can_load own e (subst (In e) (sym is_told) i));
    came = λ owners own m i. sym (comes_laden p image owners changes (rows_here changes has owners own) (match_fired m)) ∙ came m (subst (In m) (sym is_fired) i);
  }

  pub fired_refuses : (changes : List RuleChange) (fired : List FiredMatch) → fired ≡ image.fired → HasRows changes → (m : FiredMatch) × In m fired × (comes_by changes (match_fired m) ≡ false)
      → (owners : ℕ → ℕ → ℕ) → AreOwners p owners → FitsByRows p table image owners → ⊥
  fired_refuses changes fired is_fired has refused owners own fits =
      fired_unfit p table image owners plain refused.0 (subst (In refused.0) is_fired refused.1)
      (sym (comes_laden p image owners changes (rows_here changes has owners own) (match_fired refused.0)) ∙ refused.2) fits

  pub row_refuses : ((t : Snapshot) (owners : ℕ → ℕ → ℕ) → IsLoadable p t kept told moment look → AreOwners p owners → (e : Extra) × In e told × IsThere p t told owners e false)
      → (owners : ℕ → ℕ → ℕ) → AreOwners p owners → FitsByRows p table image owners → ⊥
  row_refuses refused owners own fits =
      let r = refused here owners can_load own in
      no_row_unfit p table image owners plain r.0 (subst (In r.0) is_told r.1) (subst (λ (es : List Extra). IsThere p here es owners r.0 false) is_told r.2) fits

-- ---- the ends of lives

pub some_key : (keys : List ℕ) → (length keys ≡ 0 → ⊥) → (tag : ℕ) × (has_listed_tag keys tag ≡ true)
some_key [] some = absurd (some refl)
some_key (key ∷ keys) some = (key, or_left (eq_by_cmp nat_cmp key key) (has_listed_tag keys key) (itself key))

module _ (p : Program) (table : LifeTable) (image : Image) (facts : HeldFacts) (expiries : Timers) (before after : Retention) (marks : Marks) (old : ℕ → Bool)
    (is_stored : facts ≡ stored image.facts) (held : AreHeld p table facts expiries before) (passes : PassesLives image.clock (is_tag_among []) (is_named marks) before after old) where
  abbrev ends : Ends
  ends = ends_of (ends_by table) (map_of.get (stored image.facts))

  pub held_here : AreHeld p table (stored image.facts) expiries before
  held_here = subst (λ (h : HeldFacts). AreHeld p table h expiries before) is_stored held

  covers : Covers ends image.clock before
  covers = record {
    due = λ tag. held_here.ends tag ∙ ap (λ b. cond b None (ends tag)) (sym (held_here.none tag));
    past = λ tag e. absurd (let no : false ≡ true = sym (held_here.none tag) ∙ e in cc);
  }

  pub told_old : (tag : ℕ) → old tag ≡ is_old ends image.clock (is_named marks) tag
  told_old = (past_law ends image.clock (is_tag_among []) (is_named marks) before after old covers (λ tag e. absurd (let no : false ≡ true = sym (held_here.none tag) ∙ e in cc)) passes).0

  pub old_refuses : (net : Rete) → IsMatched p image net marks → FitsPlainly p table image → (tag : ℕ) × (old tag ≡ true) → (owners : ℕ → ℕ → ℕ) → AreOwners p owners → FitsByRows p table image owners → ⊥
  old_refuses net are plain some owners own fits = old_unfit p table image owners plain marks (are.marked owners own) some.0 (sym (told_old some.0) ∙ some.1) fits

-- ---- a session that is made

keys_none : (keys : List ℕ) → keys ≡ [] → (tag : ℕ) → has_listed_tag keys tag ≡ false
keys_none keys none tag = ap (λ ks. has_listed_tag ks tag) none

expires_none : (p : Program) (o : Option Fact) → o ≡ None → expiry_at p o ≡ None
expires_none p o e = ap (expiry_at p) e

pub image_safe : (p : Program) (table : LifeTable) (image : Image) → FitsPlainly p table image → (facts : HeldFacts) (expiries : Timers) (before : Retention) (clock : ℤ) → facts ≡ stored image.facts
    → AreHeld p table facts expiries before → clock ≡ image.clock → IsSafe facts expiries clock image.next_id image.next_tag
image_safe p table image plain facts expiries before clock is_stored held same = record {
  fresh = fresh;
  untimed = λ tag le. held.waits tag ∙ expires_none p (map_of.get facts tag) (fresh tag le);
  ids = (let small = plain.next_id.1 in omega (arith, small));
  clock_low = subst (λ z. pos 0 ≤ℤ z) (sym same) plain.lawful.clock_low;
  clock_high = subst (λ z. z ≤ℤ most_millis) (sym same) plain.lawful.clock_high;
}
  where
    fresh : (tag : ℕ) → image.next_tag ≤ tag → map_of.get facts tag ≡ None
    fresh tag le = ap (λ m. map_of.get m tag) is_stored ∙ by (map_of.get (stored image.facts) tag) refl
      where
        by : (o : Option Fact) → map_of.get (stored image.facts) tag ≡ o → map_of.get (stored image.facts) tag ≡ None
        by None e = e
        by (Some f) e =
            let i = (stored_holds image.facts plain.lawful.ordered.tags).to tag f e in
            let low : f.tag.0 < image.next_tag = below_of image.next_tag image.facts plain.lawful.ordered.fresh f i.0 in
            let at : f.tag.0 ≡ tag = i.1 in
            absurd (omega (arith, low, at, le))

abbrev course_of : Image → Course
course_of image = record { last_starts = image.last_starts; promises = image.promises; begun = image.begun }

module _ (s : Setting) (runs : Runs s) (image : Image) (plain : FitsPlainly s.program s.lives image) (owners : ℕ → ℕ → ℕ) (own : AreOwners s.program owners) (net : Rete) (expiries : Timers) (before after : Retention) (marks : Marks)
    (old : List ℕ) (are : IsMatched s.program image net marks) (passes : PassesLives image.clock (is_tag_among []) (is_named marks) before after (has_listed_tag old)) (none : old ≡ []) where
  abbrev state_of : Contents
  state_of = contents (stored image.facts) expiries image.clock (course_of image) marks image.next_id image.next_tag

  of_rules : AreOfRules (length s.program.rules) marks.pending
  of_rules q e =
      let laden_q = (and_parts (is_laden s.program image owners q) (not (has_marked image.fired q)) (sym ((are.marked owners own).pending q) ∙ e)).0 in
      let r = laden_match s.program s.lives image owners plain q laden_q in
      slice_get_within s.program.rules q.rule.0 r.0 r.1

  pub is_restored : AreHeld s.program s.lives (stored image.facts) expiries before → IsRestored s image owners (record { net = net; retention = after }) state_of
  is_restored held = record {
    stands = λ w l is. restored_stands s runs image plain w l is owners own net marks are expiries before after (has_listed_tag old) held passes (keys_none old none);
    sound = record {
      net = are.net_of;
      pending = of_rules;
      reached = λ entry beyond. (
        beyond_end image.last_starts entry (let n : length image.last_starts ≡ length s.program.entries = plain.last_starts in omega (arith, n, beyond)),
        beyond_end image.promises entry (let n : length image.promises ≡ length s.program.entries = plain.promises in omega (arith, n, beyond)),
      );
    };
    next = refl;
    fits =
        rows_fit s.program s.lives image owners plain marks (are.marked owners own) (are.there owners own) (are.came owners own)
        (λ tag. sym (told_old s.program s.lives image (stored image.facts) expiries before after marks (has_listed_tag old) refl held passes tag) ∙ keys_none old none tag);
  }

  -- the same with the parts as they are at hand
  pub restored_is : (facts : HeldFacts) (clock : ℤ) (course : Course) → facts ≡ stored image.facts → AreHeld s.program s.lives facts expiries before → clock ≡ image.clock → course ≡ course_of image
      → IsRestored s image owners (record { net = net; retention = after }) (contents facts expiries clock course marks image.next_id image.next_tag)
  restored_is facts clock course is_stored held same course_is =
      subst (λ (m : HeldFacts). IsRestored s image owners (record { net = net; retention = after }) (contents m expiries clock course marks image.next_id image.next_tag)) (sym is_stored)
      (subst (λ (z : ℤ). IsRestored s image owners (record { net = net; retention = after }) (contents (stored image.facts) expiries z course marks image.next_id image.next_tag)) (sym same)
      (subst (λ (c : Course). IsRestored s image owners (record { net = net; retention = after }) (contents (stored image.facts) expiries image.clock c marks image.next_id image.next_tag)) (sym course_is)
      (is_restored (held_here s.program s.lives image facts expiries before after marks (has_listed_tag old) is_stored held passes))))
