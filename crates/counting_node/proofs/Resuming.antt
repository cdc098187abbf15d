-- Nodes that are loaded stand for what is kept with its extras, and for all of it.
use Rattle.counting_node.proofs.Common.{◌≡◌, ◌∙◌, sym, ap, refl, subst, List, [], ◌∷◌, Bool, true, false, not, ◌&&◌, ◌||◌, Some, None, ℤ, fun_ext, list_any}
use Rattle.counting_node.proofs.Common.{is_some, Held, Extra, Named, Row, has, Accumulate, Look, joins, has_name, has_left, has_right, cleaned, no_names}
use Rattle.counting_node.proofs.Common.{Blockers, Witnesses, counts_blockers, counts_witnesses, gathers, IsTallyLaden, extra_for, blockers_laden}
use Rattle.counting_node.proofs.Common.{witnesses_laden, gathered_laden, nothing_gathered, arguments_gathered, all_passing, lost_passing, LadenLaw, LoadLaw}
use Rattle.counting_node.proofs.{Common.{ResumeLaw, OthersLaw, and-true}, Extras.{nothing_more, number_laden, gathers_laden}}

-- ---- a tally and an extra
pub blockers_made_up : LadenLaw Blockers counts_blockers blockers_laden nothing_gathered
blockers_made_up t world set others None h apart none = nothing_more counts_blockers t world set others h none
blockers_made_up t world set others (Some e) h apart tells = number_laden t.0 world set others e h apart tells

pub witnesses_made_up : LadenLaw Witnesses counts_witnesses witnesses_laden nothing_gathered
witnesses_made_up t world set others None h apart none = nothing_more counts_witnesses t world set others h none
witnesses_made_up t world set others (Some e) h apart tells = number_laden t.0 world set others e h apart tells

pub gathered_made_up : (a : Accumulate) → LadenLaw Held (gathers a) (gathered_laden a) (arguments_gathered a)
gathered_made_up a t world set others None h apart none = nothing_more (gathers a) t world set others h none
gathered_made_up a t world set others (Some e) h apart tells = gathers_laden a t world set others e h apart tells

nothing_forgotten : (rows : Row → Bool) (row : Row) → cleaned rows no_names row ≡ rows row
nothing_forgotten rows row = ap (λ b. rows row && not b) (none row.facts) ∙ and-true (rows row)
  where
    none : (names : List Named) → list_any no_names names ≡ false
    none [] = refl
    none (n ∷ names) = none names

kept_or_lost : (a f j p : Bool) → ((a && not f) ≡ true → j ≡ p) → (((a && not f) && j) || ((a && p) && f)) ≡ (a && p)
kept_or_lost false f j p h = refl
kept_or_lost true true j p h = and-true p
kept_or_lost true false true p h = h refl
kept_or_lost true false false p h = ap (λ b. b && false) (sym (h refl)) ∙ h refl

kept_not_lost : (a f j p : Bool) → ((a && not f) && j) ≡ true → ((a && p) && f) ≡ false
kept_not_lost false f j p e = refl
kept_not_lost true true j p e = let g : false ≡ true = e in cc
kept_not_lost true false j true e = refl
kept_not_lost true false j false e = refl

module _ {T : Type 0} (holds : T → Look → (Named → Bool) → Type 0) (laden : T → Look → (Named → Bool) → Extra → Type 0) where
  pub load_law : LoadLaw T holds laden
  load_law m n look world pass rows names left right extras nothing alike seen rows_are names_are sorted keeps loaded = record {
    stands = record {
      rows = λ row. kept_row row ∙ sym (nothing_forgotten rows row);
      names = λ who. kept_name who ∙ sym (and-true (names who));
      agrees = keeps.agrees nothing.agrees;
    };
    counts = λ row t is.
        let came : rows row ≡ true = sym (kept_row row) ∙ ap is_some is in
        let new = loaded sorted world (λ who e. seen who (sym (kept_name who) ∙ e)) row (rows_are row ∙ came) (nothing.rows row) in
        let same : Some new.0 ≡ Some t = sym new.1 ∙ is in
        let equal : new.0 ≡ t = cc in
        subst (λ x. IsTallyLaden holds laden x world (all_passing pass names row) (extra_for extras row)) equal
        (subst (λ (set : Named → Bool). IsTallyLaden holds laden new.0 world set (extra_for extras row))
        (fun_ext (λ who. ap (λ b. b && joins m.pattern look row who) (kept_name who) ∙ passes row who came (names who) refl)) new.2);
  }
    where
      kept_row : (row : Row) → has_left n look row ≡ rows row
      kept_row row = keeps.rows row ∙ ap (λ b. b || has left row) (nothing.rows row) ∙ rows_are row

      kept_name : (who : Named) → has_right n look who ≡ names who
      kept_name who = keeps.names who ∙ ap (λ b. b || has_name right who) (nothing.names who) ∙ names_are who

      passes : (row : Row) (who : Named) → rows row ≡ true → (b : Bool) → names who ≡ b → (names who && joins m.pattern look row who) ≡ (names who && pass row who)
      passes row who came true e = ap (λ b. names who && b) (alike row who (nothing_forgotten rows row ∙ came) (and-true (names who) ∙ e))
      passes row who came false e = ap (λ b. b && joins m.pattern look row who) e ∙ sym (ap (λ b. b && pass row who) e)

  pub resume_law : (gathered : Look → List Named → List ℤ) → LadenLaw T holds laden gathered → ResumeLaw T holds laden gathered
  resume_law gathered made_up m look world pass_kept pass rows_kept rows names_kept names forgotten extra was rows_are names_are alike tells = record {
    stands = record {
      rows = λ row. was.stands.rows row ∙ nothing_forgotten rows_kept row ∙ rows_are row;
      names = λ who. was.stands.names who ∙ and-true (names_kept who) ∙ names_are who;
      agrees = was.stands.agrees;
    };
    counts = λ row t is.
        let there : rows_kept row ≡ true = sym (nothing_forgotten rows_kept row) ∙ sym (was.stands.rows row) ∙ ap is_some is in
        subst (holds t world)
        (fun_ext (λ who.
        ap (λ b. (b && pass_kept row who) || lost_passing pass names forgotten row who) (names_are who)
        ∙ kept_or_lost (names who) (forgotten who) (pass_kept row who) (pass row who) (λ e. alike row who there (names_are who ∙ e))))
        (made_up t world (all_passing pass_kept names_kept row) (lost_passing pass names forgotten row) (extra row) (was.counts row t is)
        (λ who e. kept_not_lost (names who) (forgotten who) (pass_kept row who) (pass row who) (ap (λ b. b && pass_kept row who) (sym (names_are who)) ∙ e))
        (tells row (sym (rows_are row) ∙ there)));
  }

  pub others_law : OthersLaw T holds
  others_law m look world pass rows names forgotten was alike seen = record {
    agrees = was.stands.agrees;
    alike = λ who e. seen who (sym (was.stands.names who) ∙ e);
    apart = λ row there who e. kept_not_lost (names who) (forgotten who) (joins m.pattern look row who) (pass row who) (ap (λ b. b && joins m.pattern look row who) (sym (was.stands.names who)) ∙ e);
    tallies = λ row t is.
        subst (holds t world)
        (fun_ext (λ who. sym (ap (λ b. (b && joins m.pattern look row who) || lost_passing pass names forgotten row who) (was.stands.names who)
        ∙ kept_or_lost (names who) (forgotten who) (joins m.pattern look row who) (pass row who) (alike row who (sym (was.stands.rows row) ∙ ap is_some is)))))
        (was.counts row t is);
  }
