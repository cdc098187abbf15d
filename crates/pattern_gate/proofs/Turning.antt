-- What a turn does to what has changed so far, and to what is left of the facts that go.
use Rattle.pattern_gate.proofs.Common.{◌≡◌, ◌∙◌, sym, ap, refl, subst, ℕ, ◌+◌, ◌<◌, ◌≤◌, ℤ, List, [], ◌∷◌, length, drop, get_or, Bool, true, false, not, Some}
use Rattle.pattern_gate.proofs.Common.{◌&&◌, ◌||◌, Bor, list_any, Fact, IsBetween, has, Delta, Row, lent, Pattern, no_rows, StandsForArrivals, window_of}
use Rattle.pattern_gate.proofs.Common.{Arrival, rows_inside, WindowKind, PatternGate, is_meant, less_fact, less_facts, more_fact, more_facts, LetsAllGo}
use Rattle.pattern_gate.proofs.Common.{LetsCome, LetsAllCome, ReachesArrivals, LetsGo, at_drop_more, at_drop_all, LeadsRows, without, along}
use Rattle.{window_gate.specs.declared.change.WindowKind.TheVariants.{Whole, Time, Length}, row_delta.specs.DifferenceLaws.{between_applicable}}
use Rattle.row_change.{specs.declared.change.Change.{Change}, proofs.Alike.{leads_alike}}

-- without what is in the first alone, and with what is in the second alone, it is the second
led : (a b : Bool) → ((a && not (a && not b)) || (b && not a)) ≡ b
led true true = refl
led true false = refl
led false true = refl
led false false = refl

-- the rows of a difference go and come
pub led_on : (old : Row → Bool) (before now : List Row) (delta : Delta) → IsBetween before now delta
    → (goes comes : List Row) → goes ≡ delta.gone → comes ≡ delta.come → (gone gone_next gone_now come come_next come_now : List Row)
    → ((old now : Row → Bool) → LeadsRows old now gone come → ((row : Row) → has goes row ≡ true → now row ≡ true) → LeadsRows old (without now goes) gone_next come_next)
    → ((old now : Row → Bool) → LeadsRows old now gone_next come_next → ((row : Row) → has comes row ≡ true → now row ≡ false) → LeadsRows old (along now comes) gone_now come_now)
    → LeadsRows old (has before) gone come → LeadsRows old (has now) gone_now come_now
led_on old before now delta is goes comes are_gone are_come gone gone_next gone_now come come_next come_now leave arrive leads =
    let fits = between_applicable {old = before} {new = now} {delta = delta} is in
    let left = leave old (has before) leads (λ row e. fits.gone row (ap (λ rows. has rows row) (sym are_gone) ∙ e)) in
    let arrived = arrive old (without (has before) goes) left
    (λ row e. ap (λ b. b && not (has goes row)) (fits.come row (ap (λ rows. has rows row) (sym are_come) ∙ e))) in
    leads_alike old (along (without (has before) goes) comes) (has now) gone_now come_now arrived
    (λ row.
    ap (λ b. (has before row && not b) || has comes row) (ap (λ rows. has rows row) are_gone ∙ is.gone row)
    ∙ ap (λ b. (has before row && not (has before row && not (has now row))) || b) (ap (λ rows. has rows row) are_come ∙ is.come row)
    ∙ led (has before row) (has now row))

-- ---- the facts that go

-- while facts go: for some arrivals that are left the gate stands, and with those that are still to go it ends at the same
pub record IsLeft (old : Row → Bool) (kind : WindowKind) (pattern : Pattern) (clock : ℤ) (gate : PatternGate) (change : Change) (gone : List Fact) (end : List Arrival) : Type 0 where
  pub arrivals : List Arrival
  pub reaches : ReachesArrivals old kind gate change arrivals clock
  pub goes : LetsAllGo kind pattern clock arrivals gone
  pub ends : less_facts pattern arrivals gone ≡ end

-- one of them goes
going : (old : Row → Bool) (kind : WindowKind) (pattern : Pattern) (clock : ℤ) (gate gate_now : PatternGate) (change change_now : Change) (f : Fact) (gone : List Fact) (end : List Arrival)
    → ((old : Row → Bool) (kind : WindowKind) (arrivals : List Arrival) → ReachesArrivals old kind gate change arrivals clock → LetsGo kind pattern clock arrivals f
    → ReachesArrivals old kind gate_now change_now (less_fact pattern arrivals f) clock)
    → IsLeft old kind pattern clock gate change (f ∷ gone) end → IsLeft old kind pattern clock gate_now change_now gone end
going old kind pattern clock gate gate_now change change_now f gone end goes left = record {
  arrivals = less_fact pattern left.arrivals f;
  reaches = goes old kind left.arrivals left.reaches left.goes.0;
  goes = left.goes.1;
  ends = left.ends;
}

pub one_goes : (old : Row → Bool) (kind : WindowKind) (pattern : Pattern) (clock : ℤ) (gate gate_now : PatternGate) (change change_now : Change) (f : Bor Fact) (gone : List (Bor Fact)) (end : List Arrival)
    (i : ℕ) → i < length gone → f ≡ get_or gone i f
    → ((old : Row → Bool) (kind : WindowKind) (arrivals : List Arrival) → ReachesArrivals old kind gate change arrivals clock → LetsGo kind pattern clock arrivals f.now
    → ReachesArrivals old kind gate_now change_now (less_fact pattern arrivals f.now) clock)
    → IsLeft old kind pattern clock gate change (lent (drop i gone)) end → IsLeft old kind pattern clock gate_now change_now (lent (drop (i + 1) gone)) end
one_goes old kind pattern clock gate gate_now change change_now f gone end i lt is goes left =
    let cut : lent (drop i gone) ≡ f.now ∷ lent (drop (i + 1) gone) = at_drop_more lent gone i f lt ∙ ap (λ (g : Bor Fact). g.now ∷ lent (drop (i + 1) gone)) (sym is) in
    going old kind pattern clock gate gate_now change change_now f.now (lent (drop (i + 1) gone)) end goes
    (subst (λ (facts : List Fact). IsLeft old kind pattern clock gate change facts end) cut left)

-- all of them went
pub all_went : (old : Row → Bool) (kind : WindowKind) (pattern : Pattern) (clock : ℤ) (gate : PatternGate) (change : Change) (gone : List (Bor Fact)) (end : List Arrival) (i : ℕ) → length gone ≤ i
    → IsLeft old kind pattern clock gate change (lent (drop i gone)) end → ReachesArrivals old kind gate change end clock
all_went old kind pattern clock gate change gone end i over left =
    let done = subst (λ (facts : List Fact). IsLeft old kind pattern clock gate change facts end) (at_drop_all lent gone i over) left in
    subst (λ (arrivals : List Arrival). ReachesArrivals old kind gate change arrivals clock) done.ends done.reaches

-- ---- the facts that come

-- while facts come: for some arrivals so far the gate stands, and with those that are still to come it ends at the same
pub record IsExpected (old : Row → Bool) (kind : WindowKind) (pattern : Pattern) (clock : ℤ) (gate : PatternGate) (change : Change) (come : List Fact) (end : List Arrival) : Type 0 where
  pub arrivals : List Arrival
  pub reaches : ReachesArrivals old kind gate change arrivals clock
  pub comes : LetsAllCome kind pattern clock arrivals come
  pub ends : more_facts pattern arrivals come ≡ end

-- one of them comes
coming : (old : Row → Bool) (kind : WindowKind) (pattern : Pattern) (clock : ℤ) (gate gate_now : PatternGate) (change change_now : Change) (f : Fact) (come : List Fact) (end : List Arrival)
    → ((old : Row → Bool) (kind : WindowKind) (arrivals : List Arrival) → ReachesArrivals old kind gate change arrivals clock → LetsCome kind pattern clock arrivals (Some f)
    → ReachesArrivals old kind gate_now change_now (more_fact pattern arrivals (Some f)) clock)
    → IsExpected old kind pattern clock gate change (f ∷ come) end → IsExpected old kind pattern clock gate_now change_now come end
coming old kind pattern clock gate gate_now change change_now f come end comes left = record {
  arrivals = more_fact pattern left.arrivals (Some f);
  reaches = comes old kind left.arrivals left.reaches left.comes.0;
  comes = left.comes.1;
  ends = left.ends;
}

pub one_comes : (old : Row → Bool) (kind : WindowKind) (pattern : Pattern) (clock : ℤ) (gate gate_now : PatternGate) (change change_now : Change) (f : Bor Fact) (come : List (Bor Fact)) (end : List Arrival)
    (i : ℕ) → i < length come → f ≡ get_or come i f
    → ((old : Row → Bool) (kind : WindowKind) (arrivals : List Arrival) → ReachesArrivals old kind gate change arrivals clock → LetsCome kind pattern clock arrivals (Some f.now)
    → ReachesArrivals old kind gate_now change_now (more_fact pattern arrivals (Some f.now)) clock)
    → IsExpected old kind pattern clock gate change (lent (drop i come)) end → IsExpected old kind pattern clock gate_now change_now (lent (drop (i + 1) come)) end
one_comes old kind pattern clock gate gate_now change change_now f come end i lt is comes left =
    let cut : lent (drop i come) ≡ f.now ∷ lent (drop (i + 1) come) = at_drop_more lent come i f lt ∙ ap (λ (g : Bor Fact). g.now ∷ lent (drop (i + 1) come)) (sym is) in
    coming old kind pattern clock gate gate_now change change_now f.now (lent (drop (i + 1) come)) end comes
    (subst (λ (facts : List Fact). IsExpected old kind pattern clock gate change facts end) cut left)

-- all of them came
pub all_came : (old : Row → Bool) (kind : WindowKind) (pattern : Pattern) (clock : ℤ) (gate : PatternGate) (change : Change) (come : List (Bor Fact)) (end : List Arrival) (i : ℕ) → length come ≤ i
    → IsExpected old kind pattern clock gate change (lent (drop i come)) end → ReachesArrivals old kind gate change end clock
all_came old kind pattern clock gate change come end i over left =
    let done = subst (λ (facts : List Fact). IsExpected old kind pattern clock gate change facts end) (at_drop_all lent come i over) left in
    subst (λ (arrivals : List Arrival). ReachesArrivals old kind gate change arrivals clock) done.ends done.reaches

-- ---- a gate without arrivals

nothing_inside : (kind : WindowKind) (now : ℤ) (row : Row) → false ≡ has (rows_inside kind now []) row
nothing_inside Whole now row = refl
nothing_inside (Time millis) now row = refl
nothing_inside (Length size) now row = refl

-- where nothing has changed, the gate has none of the rows
pub reaches_nothing : (kind : WindowKind) (gate : PatternGate) (change : Change) (now : ℤ) → window_of gate.gate ≡ kind → StandsForArrivals gate.gate [] now
    → ((rows : Row → Bool) → LeadsRows rows rows change.gone.keys change.come.keys) → ReachesArrivals no_rows kind gate change [] now
reaches_nothing kind gate change now is stands leads = record {
  window = is;
  stands = stands;
  leads = leads_alike no_rows no_rows (has (rows_inside kind now [])) change.gone.keys change.come.keys (leads no_rows) (nothing_inside kind now);
}

-- ---- which are meant

-- facts behind references
pub any_lent : (pattern : Pattern) (facts : List (Bor Fact)) → list_any (λ (f : Bor Fact). is_meant pattern f.now) facts ≡ list_any (is_meant pattern) (lent facts)
any_lent pattern [] = refl
any_lent pattern (f ∷ facts) = ap (λ b. is_meant pattern f.now || b) (any_lent pattern facts)
