-- Candidates leave or come, one after another, and are handed on.
use Rattle.candidate_source.proofs.Common.{◌∙◌, ap, sym, refl, subst, ◌≡◌, ℕ, ◌+◌, ◌<◌, List, [], ◌∷◌, ◌++◌, length, take, get_or, Bool, true, false, cond, not}
use Rattle.candidate_source.proofs.Common.{◌&&◌, ◌||◌, Option, is_some, append-nil, false≢true, eq_by_cmp, BTreeMap, Pattern, Sight, Look, Named, name_cmp}
use Rattle.candidate_source.proofs.Common.{name_equiv, any_name, rows_sought, SeesRows, Candidates, has_candidate, has_name, AreDistinct, KeepsNames, Handed}
use Rattle.candidate_source.proofs.Common.{Turned, Gone, Came, Source, gone_at, come_at, IsHandedTo, is_under_one, is_sought, concerns, AreOnce, LeavesOthers}
use Rattle.candidate_source.proofs.{Common.{HaveLeft, HaveCome, went, came}, Behind.{none_behind}, Places.{sought_by, unreached_sought}}
use Rattle.{std.{specs.Prelude.{IfSome}, proofs.lemmas.List.Folds.{list_any-append}}, fx_base.proofs.Tests.{and_first, or_first_false, or_second_false}}
use Rattle.join_memory.proofs.{Joining.{name_decides}, Sharing.{went_more, less_none, more_none}, Turning.{less_more, more_more}}

-- ---- lists of candidates, each once

distinct_more : (names : List Named) (who : Named) → AreDistinct names → has_name names who ≡ false → AreDistinct (names ++ who ∷ [])
distinct_more [] who once out = (refl, tt)
distinct_more (n ∷ names) who once out = (
  list_any-append (eq_by_cmp name_cmp n) names (who ∷ []) ∙ ap (λ b. b || (eq_by_cmp name_cmp n who || false)) once.0
      ∙ ap (λ b. b || false) (name_equiv.symm n who ∙ or_first_false (eq_by_cmp name_cmp who n) (has_name names who) out),
  distinct_more names who once.1 (or_second_false (eq_by_cmp name_cmp who n) (has_name names who) out),
)

pub once_alike : (test other : Named → Bool) (names : List Named) → ((n : Named) → test n ≡ other n) → AreOnce test names → AreOnce other names
once_alike test other names alike are = record { once = are.once; each = λ n. are.each n ∙ alike n }

pub none_once : (test : Named → Bool) (names : List Named) → names ≡ [] → ((n : Named) → false ≡ test n) → AreOnce test names
none_once test names is none = record { once = subst AreDistinct (sym is) tt; each = λ n. ap (λ (names : List Named). has_name names n) is ∙ none n }

swapped : (f t r : Bool) → ((f && not t) && r) ≡ ((f && r) && not t)
swapped true true true = refl
swapped true true false = refl
swapped true false true = refl
swapped true false false = refl
swapped false t r = refl

taken_out : (f t : Bool) → (f && not t) ≡ true → t ≡ false
taken_out true true e = sym e
taken_out true false e = refl
taken_out false t e = absurd (false≢true e)

-- ---- one candidate more of a list

module _ (names : List Named) (i : ℕ) (below : i < length names) where
  abbrev next_name : Named
  next_name = get_or names i any_name

  -- those that were fresh at first, of which those are left that are not among the first ones of the list
  module _ (fresh left reach : Named → Bool) (turned : (n : Named) → left n ≡ (fresh n && not (has_name (take i names) n))) where
    once_more : (found now : List Named) (b : Bool) → b ≡ (left next_name && reach next_name) → now ≡ found ++ cond b (next_name ∷ []) []
        → AreOnce (λ n. has_name (take i names) n && (fresh n && reach n)) found → AreOnce (λ n. has_name (take (i + 1) names) n && (fresh n && reach n)) now
    once_more found now b passes added so = record {
      once = by b passes added;
      each =
          went_more (eq_by_cmp name_cmp) name_equiv.symm (λ a b. (name_decides a b).0) (λ n. fresh n && reach n) (λ n. left n && reach n) found now names i below any_name next_name refl b passes added
          (λ n. ap (λ l. l && reach n) (turned n) ∙ swapped (fresh n) (has_name (take i names) n) (reach n)) so.each;
    }
      where
        by : (b : Bool) → b ≡ (left next_name && reach next_name) → now ≡ found ++ cond b (next_name ∷ []) [] → AreDistinct now
        by true passes added =
            subst AreDistinct (sym added)
            (distinct_more found next_name so.once
            (so.each next_name ∙ ap (λ t. t && (fresh next_name && reach next_name)) (taken_out (fresh next_name) (has_name (take i names) next_name) (sym (turned next_name) ∙ and_first (left next_name) (reach next_name) (sym passes)))))
        by false passes added = subst AreDistinct (sym (added ∙ append-nil found)) so.once

  module _ (look : Look) (first next last : Candidates) where
    pub kept_less : KeepsNames first next look (λ n. has_candidate first look n && not (has_name (take i names) n))
        → KeepsNames next last look (λ n. has_candidate next look n && not (eq_by_cmp name_cmp next_name n)) → KeepsNames first last look (λ n. has_candidate first look n && not (has_name (take (i + 1) names) n))
    kept_less so turn = record {
      pattern = turn.pattern ∙ so.pattern;
      names = λ n. turn.names n ∙ less_more (eq_by_cmp name_cmp) name_equiv.symm names i below any_name next_name refl n (has_candidate first look n) (has_candidate next look n) (so.names n);
      agrees = λ before. turn.agrees (so.agrees before);
    }

    pub kept_more : KeepsNames first next look (λ n. has_candidate first look n || has_name (take i names) n)
        → KeepsNames next last look (λ n. has_candidate next look n || eq_by_cmp name_cmp next_name n) → KeepsNames first last look (λ n. has_candidate first look n || has_name (take (i + 1) names) n)
    kept_more so turn = record {
      pattern = turn.pattern ∙ so.pattern;
      names = λ n. turn.names n ∙ more_more (eq_by_cmp name_cmp) name_equiv.symm names i below any_name next_name refl n (has_candidate first look n) (has_candidate next look n) (so.names n);
      agrees = λ before. turn.agrees (so.agrees before);
    }

  -- ---- and it is handed on

  module _ (look : Look) (first next : Source) (own : Candidates) (before between after : BTreeMap ℕ Handed) (sight : Option Sight) where
    abbrev last : Source
    last = record { gate = next.gate; own = own; reached = next.reached }

    module _ (pattern : next.own.pattern ≡ first.own.pattern) (reached : next.reached ≡ first.reached) (sees : IfSome sight (SeesRows next.own.pattern look next_name)) where
      passes : (there : Bool) → is_some sight ≡ there → (k : ℕ) → is_sought next.reached sight k ≡ (there && concerns first look next_name k)
      passes there is k =
          sought_by next.reached next.own.pattern look next_name sight there is sees k
          ∙ ap (λ (p : Pattern). there && is_under_one next.reached (rows_sought p look next_name) k) pattern
          ∙ ap (λ reached. there && is_under_one reached (rows_sought first.own.pattern look next_name) k) reached

      others_more : (turned : Turned) → IsHandedTo turned (is_sought next.reached sight) between after → LeavesOthers first before between → LeavesOthers first before after
      others_more turned handed so k none =
          let not_sought = ap (λ reached. is_sought reached sight k) reached ∙ unreached_sought first.reached k none sight in (
            handed.gone k ∙ ap (λ b. gone_at between k ++ cond b (went turned) []) not_sought ∙ append-nil _ ∙ (so k none).0,
            handed.come k ∙ ap (λ b. come_at between k ++ cond b (came turned) []) not_sought ∙ append-nil _ ∙ (so k none).1,
          )

    pub left_more : HaveLeft first next look (take i names) before between → KeepsNames next.own own look (λ n. has_candidate next.own look n && not (eq_by_cmp name_cmp next_name n))
        → is_some sight ≡ has_candidate next.own look next_name → IfSome sight (SeesRows next.own.pattern look next_name) → IsHandedTo (Gone next_name) (is_sought next.reached sight) between after
        → HaveLeft first last look (take (i + 1) names) before after
    left_more so turn is sees handed = record {
      gate = so.gate;
      reached = so.reached;
      kept = kept_less look first.own next.own own so.kept turn;
      gone = λ k un.
          once_more (has_candidate first.own look) (has_candidate next.own look) (λ n. concerns first look n k) so.kept.names (gone_at between k) (gone_at after k) (is_sought next.reached sight k)
          (passes so.kept.pattern so.reached sees _ is k) (handed.gone k) (so.gone k un);
      come = λ k. handed.come k ∙ none_behind _ (is_sought next.reached sight k) ∙ so.come k;
      others = others_more so.kept.pattern so.reached sees (Gone next_name) handed so.others;
    }

    not_or : (a t : Bool) → not (a || t) ≡ (not a && not t)
    not_or true t = refl
    not_or false t = refl

    pub come_more : HaveCome first next look (take i names) before between → KeepsNames next.own own look (λ n. has_candidate next.own look n || eq_by_cmp name_cmp next_name n)
        → is_some sight ≡ not (has_candidate next.own look next_name) → IfSome sight (SeesRows next.own.pattern look next_name) → IsHandedTo (Came next_name) (is_sought next.reached sight) between after
        → HaveCome first last look (take (i + 1) names) before after
    come_more so turn is sees handed = record {
      gate = so.gate;
      reached = so.reached;
      kept = kept_more look first.own next.own own so.kept turn;
      gone = λ k. handed.gone k ∙ none_behind _ (is_sought next.reached sight k) ∙ so.gone k;
      come = λ k un.
          once_more (λ n. not (has_candidate first.own look n)) (λ n. not (has_candidate next.own look n)) (λ n. concerns first look n k)
          (λ n. ap not (so.kept.names n) ∙ not_or (has_candidate first.own look n) (has_name (take i names) n)) (come_at between k) (come_at after k) (is_sought next.reached sight k)
          (passes so.kept.pattern so.reached sees _ is k) (handed.come k) (so.come k un);
      others = others_more so.kept.pattern so.reached sees (Came next_name) handed so.others;
    }

-- ---- no candidate

kept_less_none : (c : Candidates) (look : Look) → KeepsNames c c look (λ n. has_candidate c look n && not (has_name [] n))
kept_less_none c look = record { pattern = refl; names = λ n. less_none _; agrees = λ before. before }

pub kept_more_none : (c : Candidates) (look : Look) → KeepsNames c c look (λ n. has_candidate c look n || has_name [] n)
kept_more_none c look = record { pattern = refl; names = λ n. more_none _; agrees = λ before. before }

pub none_left : (s : Source) (look : Look) (handed : BTreeMap ℕ Handed) → HaveLeft s s look [] handed handed
none_left s look handed = record {
  gate = refl;
  reached = refl;
  kept = kept_less_none s.own look;
  gone = λ k un. none_once _ _ un.0 (λ n. refl);
  come = λ k. refl;
  others = λ k none. (refl, refl);
}

pub none_came : (s : Source) (look : Look) (handed : BTreeMap ℕ Handed) → HaveCome s s look [] handed handed
none_came s look handed = record {
  gate = refl;
  reached = refl;
  kept = kept_more_none s.own look;
  gone = λ k. refl;
  come = λ k un. none_once _ _ un (λ n. refl);
  others = λ k none. (refl, refl);
}
