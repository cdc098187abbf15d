-- Sources that are put for nodes, one node behind another.
use Rattle.rete_net.proofs.Common.{◌≡◌, ◌∙◌, sym, ap, refl, subst, inl, inr, ℕ, ◌+◌, arith, List, [], ◌∷◌, ◌++◌, length, Option, Some, None, slice_get}
use Rattle.rete_net.proofs.Common.{Condition, Plain, Pattern, NetNode, condition_of, pattern_of, seat_at, Fans, Seat}
use Rattle.rete_net.specs.{declared.alike.SourceKey.{SourceKey}, Sources.{AreSources}, Sourcing.{bare, AreAlike, AreSourcesBelow, IsKeyOf, IsNodePut}}
use Rattle.candidate_source.specs.{declared.{source.Source.{Source}, sources.Sources.{Sources}}, Doors.{listed_source, node_count, source_pattern}}
use Rattle.candidate_source.{specs.Sources.{source_at, AreApart, IsNewSource}, proofs.{Growing.{lead_at, of_listed, one_more, put_at}, Moving.{place_within}}}
use Rattle.{fx_base.proofs.Sequences.{one_value}, join_tests.specs.NameKeys.{name_key}}

plain_of : (p q : Pattern) → Plain p ≡ Plain q → p ≡ q
plain_of p q e = cc

pub alike_by_keys : (p q : Pattern) (a b : SourceKey) → a.kept ≡ b.kept → a.taken ≡ b.taken → IsKeyOf p a → IsKeyOf q b → AreAlike p q
alike_by_keys p q a b kept taken of_p of_q =
    let same = plain_of (bare p) (bare q) (sym of_p.taken ∙ taken ∙ of_q.taken) in
    record {
      takes = record {
        ty = ap (λ (p : Pattern). p.ty) same;
        entry = ap (λ (p : Pattern). p.entry) same;
        alone = ap (λ (p : Pattern). p.alone) same;
        window = ap (λ (p : Pattern). p.window) same;
      };
      keeps = sym of_p.kept ∙ kept ∙ of_q.kept;
    }

pub alike_itself : (p q : Pattern) → q ≡ p → AreAlike p q
alike_itself p q same = record {
  takes = record { ty = ap (λ (p : Pattern). p.ty) (sym same); entry = ap (λ (p : Pattern). p.entry) (sym same); alone = ap (λ (p : Pattern). p.alone) (sym same); window = ap (λ (p : Pattern). p.window) (sym same) };
  keeps = ap name_key (sym same);
}

-- ---- a node is put

module _ (p : Pattern) (seat : Option Seat) (old new : Sources) (apart : AreApart old) (apart_now : AreApart new) where
  -- of no source
  pub node_alone : new.of.items ≡ old.of.items ++ None ∷ [] → new.list.items ≡ old.list.items → IsNodePut p seat old new
  node_alone of list = record {
    many = one_more old new None of;
    apart = apart_now;
    each = λ k s e. inl (as_before k s e);
    fresh = λ fresh k s e. fresh k s (as_before k s e);
  }
    where
      as_before : (k : ℕ) (s : Source) → source_at new k ≡ Some s → source_at old k ≡ Some s
      as_before k s e = elim (put_at old new None of list k s e) [
        | inl was ↦ was
        | inr last ↦ absurd (let no : None ≡ Some s = last.1 in cc)
      ]

  -- of one that is there
  pub node_follows : (at : ℕ) (found : Source) → listed_source old at ≡ Some found → AreAlike p (source_pattern found) → seat ≡ None → new.of.items ≡ old.of.items ++ Some at ∷ [] → new.list.items ≡ old.list.items
      → IsNodePut p seat old new
  node_follows at found there alike none of list = record {
    many = one_more old new (Some at) of;
    apart = apart_now;
    each = λ k s e. elim (put_at old new (Some at) of list k s e) [
      | inl was ↦ inl was
      | inr last ↦ inr (last.0, none, subst (λ (s : Source). AreAlike p (source_pattern s)) (one_value (listed_source old at) found s there last.1) alike)
    ];
    fresh = λ fresh k s e. elim (put_at old new (Some at) of list k s e) [
      | inl was ↦ fresh k s was
      | inr last ↦ let lead = apart.led at s last.1 in fresh lead.0 s (of_listed old at lead.0 s lead.2 last.1)
    ];
  }

  -- the first one of a new source
  pub node_leads : (q : Pattern) (made : Source) → q ≡ p → IsNewSource q made → seat ≡ None → new.of.items ≡ old.of.items ++ Some (length old.list.items) ∷ [] → new.list.items ≡ old.list.items ++ made ∷ [] → IsNodePut p seat old new
  node_leads q made same is none of list = record {
    many = one_more old new (Some (length old.list.items)) of;
    apart = apart_now;
    each = λ k s e. elim (lead_at old new (Some (length old.list.items)) of made refl list apart k s e) [
      | inl was ↦ inl was
      | inr last ↦ inr (last.0, none, subst (λ (s : Source). AreAlike p (source_pattern s)) last.1 (alike_itself p (source_pattern made) (is.pattern ∙ same)))
    ];
    fresh = λ fresh k s e. elim (lead_at old new (Some (length old.list.items)) of made refl list apart k s e) [
      | inl was ↦ fresh k s was
      | inr last ↦ subst (λ (s : Source). IsNewSource (source_pattern s) s) last.1 (subst (λ (q : Pattern). IsNewSource q made) (sym is.pattern) is)
    ];
  }

-- ---- nodes, one behind another

pub none_below : (nodes : List NetNode) (seats : List (Option Seat)) (sources : Sources) → sources.of.items ≡ [] → AreApart sources → AreSourcesBelow nodes seats sources 0
none_below nodes seats sources of apart = record {
  apart = apart;
  many = ap length of;
  sourced = λ k n s e there. absurd (nowhere k s there);
  unseated = λ k s there. absurd (nowhere k s there);
  fresh = λ k s there. absurd (nowhere k s there);
}
  where
    nowhere : (k : ℕ) (s : Source) → source_at sources k ≡ Some s → ⊥
    nowhere k s there = let within = place_within sources k s there in let none = ap length of in omega (arith, within, none)

pub more_below : (nodes : List NetNode) (seats : List (Option Seat)) (old new : Sources) (n : ℕ) (node : NetNode) → slice_get nodes n ≡ Some node → IsNodePut (pattern_of (condition_of node.node)) (seat_at seats n) old new
    → AreSourcesBelow nodes seats old n → AreSourcesBelow nodes seats new (n + 1)
more_below nodes seats old new n node at put so = record {
  apart = put.apart;
  many = put.many ∙ ap (λ n. n + 1) so.many;
  sourced = λ k m s e there. elim (put.each k s there) [
    | inl was ↦ so.sourced k m s e was
    | inr last ↦
        subst (λ (m : NetNode). AreAlike (pattern_of (condition_of m.node)) (source_pattern s)) (one_value (slice_get nodes n) node m at (ap (slice_get nodes) (sym so.many ∙ sym last.0) ∙ e)) last.2
  ];
  unseated = λ k s there. elim (put.each k s there) [
    | inl was ↦ so.unseated k s was
    | inr last ↦ ap (seat_at seats) (last.0 ∙ so.many) ∙ last.1
  ];
  fresh = put.fresh so.fresh;
}

pub are_sources : (nodes : List NetNode) (fans : Fans) (sources : Sources) → AreSourcesBelow nodes fans.seats.items sources (length nodes) → AreSources nodes fans sources
are_sources nodes fans sources so =
    record { apart = so.apart; many = so.many; sourced = λ k n s e there. let is = so.sourced k n s e there in record { alike = is.takes; keeps = is.keeps }; unseated = so.unseated }
