-- The steps of a length window.
use Rattle.window_gate.proofs.Common.{◌≡◌, ◌∙◌, sym, ap, refl, subst, ℕ, zero, suc, ℤ, ◌+◌, min, List, [], ◌∷◌, ◌++◌, map, length, Bool, true, false, cond, not}
use Rattle.window_gate.proofs.Common.{◌==◌, ◌&&◌, ◌||◌, Option, Some, None, arith, append_assoc, append-nil, ◌⊎◌, inl, inr, ⊎_elim, option_to_list, option_or}
use Rattle.window_gate.proofs.Common.{MatchOption, insert_entry, is_at, get, BTreeMap, list_any, IsStrictlySortedBy, keys_of, values_of, lookup, remove_entry}
use Rattle.window_gate.proofs.Common.{nat_cmp, eq_by_cmp, Decides-eqb, nat_tests, length-append, length-map, list_any-append, name_cmp, IsBetween, Named, Delta}
use Rattle.window_gate.proofs.Common.{Length, Come, Gone, Arrival, named_of, has_tag, single, inside, after, rows_inside, has_version, TagsDiffer, number_of}
use Rattle.window_gate.proofs.Common.{KeepsLength, numbered, Numbered, MakesRoom, BringsBack, Removes, and_not_self}
use Rattle.window_gate.{specs.declared.length_window.LengthWindow.{LengthWindow}, proofs.Names.{same_name, same_itself, equal_names, none_with_tag}}
use Rattle.window_gate.proofs.{Names.{names_apart, names-without, only_one, without, differ_right, absent_right}, Singles.{between_names}, Insides.{latest}}
use Rattle.window_gate.proofs.{Insides.{length-latest, latest_split, inside_length, named-filter, named-push}, Wholes.{one_in_order, none_in_order, only_it}}
use Rattle.window_gate.proofs.{Wholes.{nothing_goes, one_comes}, Numbers.{others, values-others, others-append, others-absent, others_rise, head_rise}}
use Rattle.window_gate.proofs.Numbers.{keys-append, values-append, put_behind, put_before, rising_left, rising_right, rising_next, less_next, number_of-append}
use Rattle.window_gate.proofs.Numbers.{number_of-others, none_numbered, not_numbered, InOlder, InNewer, in_either}

-- a list of one or none is in order
pub few_in_order : (o : Option Named) → IsStrictlySortedBy name_cmp (option_to_list o)
few_in_order None = none_in_order
few_in_order (Some named) = one_in_order named

-- the newer ones are as many as can be
abbrev pub IsFull : ℕ → Numbered → Numbered → Type 0
IsFull size older newer = length newer ≡ min size (length older + length newer)

length-values : (es : Numbered) → length (values_of es) ≡ length es
length-values es = length-map es (λ (e : ℕ × Named). e.1)

-- so they are those inside, and the other way round
full_inside : (size : ℕ) (now : ℤ) (older newer : Numbered) (arrivals : List Arrival) → values_of (older ++ newer) ≡ map named_of arrivals → IsFull size older newer
    → values_of newer ≡ map named_of (inside (Length size) now arrivals)
full_inside size now older newer arrivals present full =
    let a = length-values older in
    let b = length-values newer in
    sym (latest_split size (values_of older) (values_of newer) (omega arith))
    ∙ ap (latest size) (sym (values-append older newer) ∙ present) ∙ sym (inside_length size now arrivals)

inside_full : (size : ℕ) (now : ℤ) (older newer : Numbered) (arrivals : List Arrival) → values_of (older ++ newer) ≡ map named_of arrivals → values_of newer ≡ map named_of (inside (Length size) now arrivals)
    → IsFull size older newer
inside_full size now older newer arrivals present is =
    let a = length-values newer in
    let b = length-values (older ++ newer) in
    let d = length-append older newer in
    let e : length (values_of newer) ≡ length (latest size (values_of (older ++ newer))) = ap (λ (xs : List Named). length xs) (is ∙ inside_length size now arrivals ∙ ap (latest size) (sym present)) in
    let f = length-latest size (values_of (older ++ newer)) in
    omega arith

-- what is kept at another moment
pub keeps_still : (window : LengthWindow) (arrivals : List Arrival) (was now : ℤ) → KeepsLength window arrivals was → KeepsLength window arrivals now
keeps_still window arrivals was now keeps = record {
  present = keeps.present;
  latest = keeps.latest ∙ inside_length window.size was arrivals ∙ sym (inside_length window.size now arrivals);
  rising = keeps.rising;
  numbers = keeps.numbers;
}

-- the difference of what is inside is that of the newer ones
between_newer : (size : ℕ) (was now : ℤ) (arrivals next : List Arrival) (old new gone come : List Named) (delta : Delta)
    → old ≡ map named_of (inside (Length size) was arrivals) → new ≡ map named_of (inside (Length size) now next)
    → IsStrictlySortedBy name_cmp gone → IsStrictlySortedBy name_cmp come
    → ((named : Named) → has_version gone named ≡ (has_version old named && not (has_version new named))) → ((named : Named) → has_version come named ≡ (has_version new named && not (has_version old named)))
    → delta.gone ≡ map single gone → delta.come ≡ map single come → IsBetween (rows_inside (Length size) was arrivals) (rows_inside (Length size) now next) delta
between_newer size was now arrivals next old new gone come delta is_old is_new gone_sorted come_sorted goes comes is_gone is_come =
    subst (λ names. IsBetween (map single names) (rows_inside (Length size) now next) delta) is_old
    (subst (λ names. IsBetween (map single old) (map single names) delta) is_new
    (between_names old new gone come gone_sorted come_sorted goes comes delta is_gone is_come))

-- ---- one comes

-- nothing but the place changes where room is made
made_room : (size : ℕ) (older newer older_now newer_now : Numbered) (left : Option Named) (rest : List ℕ) → IsStrictlySortedBy nat_cmp (keys_of (older ++ newer) ++ rest)
    → MakesRoom size older newer older_now newer_now left → older_now ++ newer_now ≡ older ++ newer
made_room size older newer older_now newer_now None rest rising made = ap (λ es. es ++ newer_now) made.0 ∙ ap (λ es. older ++ es) made.1
made_room size older newer older_now newer_now (Some named) rest rising (number, is, put, enough) =
    let keys : keys_of (older ++ newer) ≡ keys_of older ++ number ∷ keys_of newer_now = keys-append older newer ∙ ap (λ (es : Numbered). keys_of older ++ keys_of es) is in
    let rise : IsStrictlySortedBy nat_cmp (keys_of older ++ number ∷ keys_of newer_now) = subst (IsStrictlySortedBy nat_cmp) keys (rising_left (keys_of (older ++ newer)) rest rising) in
    ap (λ es. es ++ newer_now) (put ∙ put_behind older number named (keys_of newer_now) rise) ∙ append_assoc older ((number, named) ∷ []) newer_now ∙ ap (λ es. older ++ es) (sym is)

-- how many there are then
room_count : (size : ℕ) (older newer older_now newer_now : Numbered) (left : Option Named) → MakesRoom size older newer older_now newer_now left → IsFull size older newer
    → length older_now + length newer_now ≡ length older + length newer → (length newer_now + 1 ≡ min size (length older_now + length newer_now + 1)) ⊎ ((size ≡ 0) × (newer ≡ []) × (newer_now ≡ []))
room_count size older newer older_now newer_now None (o, n, inl few) full total = let l = ap (λ (es : Numbered). length es) n in inl (omega arith)
room_count zero older newer older_now newer_now None (o, n, inr none) full total = inr (refl, none, n ∙ none)
room_count (suc size) older newer older_now newer_now None (o, n, inr none) full total =
    let l = ap (λ (es : Numbered). length es) n in let k = ap (λ (es : Numbered). length es) none in inl (omega arith)
room_count size older newer older_now newer_now (Some named) (number, is, put, enough) full total = let l = ap (λ (es : Numbered). length es) is in inl (omega arith)

module _ (size next following : ℕ) (named : Named) (older newer older_now newer_now : Numbered) (left : Option Named) (rising : IsStrictlySortedBy nat_cmp (keys_of (older ++ newer) ++ next ∷ []))
    (full : IsFull size older newer) (made : MakesRoom size older newer older_now newer_now left) where
  same : older_now ++ newer_now ≡ older ++ newer
  same = made_room size older newer older_now newer_now left (next ∷ []) rising made

  total : length older_now + length newer_now ≡ length older + length newer
  total = sym (length-append older_now newer_now) ∙ ap (λ (es : Numbered). length es) same ∙ length-append older newer

  count : (length newer_now + 1 ≡ min size (length older_now + length newer_now + 1)) ⊎ ((size ≡ 0) × (newer ≡ []) × (newer_now ≡ []))
  count = room_count size older newer older_now newer_now left made full total

  -- none is inside a window of no length
  nothing : size ≡ 0 → (newer ≡ []) × (newer_now ≡ [])
  nothing none = ⊎_elim (λ c. absurd (omega arith)) (λ c. (c.1, c.2)) count

  pub never_entries : size ≡ 0 → insert_entry nat_cmp older_now next named ++ newer_now ≡ (older ++ newer) ++ (next, named) ∷ []
  never_entries none =
      let empty = (nothing none).1 in
      let all : older_now ≡ older ++ newer = sym (append-nil older_now) ∙ ap (λ es. older_now ++ es) (sym empty) ∙ same in
      let rise : IsStrictlySortedBy nat_cmp (keys_of older_now ++ next ∷ []) = subst (λ (es : Numbered). IsStrictlySortedBy nat_cmp (keys_of es ++ next ∷ [])) (sym all) rising in
      ap (λ es. es ++ newer_now) (put_behind older_now next named [] rise) ∙ ap (λ es. (older_now ++ (next, named) ∷ []) ++ es) empty
      ∙ append-nil (older_now ++ (next, named) ∷ []) ∙ ap (λ es. es ++ (next, named) ∷ []) all

  pub never_full : size ≡ 0 → IsFull size (insert_entry nat_cmp older_now next named) newer_now
  never_full none = let l = ap (λ (es : Numbered). length es) (nothing none).1 in omega arith

  put : insert_entry nat_cmp newer_now next named ≡ newer_now ++ (next, named) ∷ []
  put =
      let rise : IsStrictlySortedBy nat_cmp (keys_of (older_now ++ newer_now) ++ next ∷ []) = subst (λ (es : Numbered). IsStrictlySortedBy nat_cmp (keys_of es ++ next ∷ [])) (sym same) rising in
      put_behind newer_now next named [] (rising_right (keys_of older_now) (keys_of newer_now ++ next ∷ [])
      (subst (IsStrictlySortedBy nat_cmp) (ap (λ ks. ks ++ next ∷ []) (keys-append older_now newer_now) ∙ append_assoc (keys_of older_now) (keys_of newer_now) (next ∷ [])) rise))

  pub enters_entries : older_now ++ insert_entry nat_cmp newer_now next named ≡ (older ++ newer) ++ (next, named) ∷ []
  enters_entries = ap (λ es. older_now ++ es) put ∙ sym (append_assoc older_now newer_now ((next, named) ∷ [])) ∙ ap (λ es. es ++ (next, named) ∷ []) same

  pub enters_full : (size ≡ 0 → ⊥) → IsFull size older_now (insert_entry nat_cmp newer_now next named)
  enters_full some =
      let l = ap (λ (es : Numbered). length es) put in
      let k = length-append newer_now ((next, named) ∷ []) in
      ⊎_elim (λ c. omega arith) (λ c. absurd (some c.0)) count

-- what one more entry makes of what is kept
pub came : (window window_now : LengthWindow) (arrivals : List Arrival) (was now : ℤ) (named : Named) (start : ℤ) → KeepsLength window arrivals was
    → list_any (has_tag named.tag.0) (map named_of arrivals) ≡ false
    → window_now.size ≡ window.size → window_now.next ≡ window.next + 1 → numbered window_now ≡ numbered window ++ (window.next, named) ∷ [] → IsFull window.size window_now.older.entries window_now.newer.entries
    → ((tag : ℕ) → get nat_cmp window_now.numbers tag ≡ cond (is_at (nat_cmp named.tag.0) tag) (Some window.next) (get nat_cmp window.numbers tag))
    → KeepsLength window_now (after arrivals (Come named start)) now
came window window_now arrivals was now named start keeps absent same_size next entries full numbers =
    let arrival : Arrival = record { named = named; start = start } in
    let present : values_of (numbered window_now) ≡ map named_of (arrivals ++ arrival ∷ []) =
    ap (λ (es : Numbered). values_of es) entries ∙ values-append (numbered window) ((window.next, named) ∷ [])
    ∙ ap (λ xs. xs ++ named ∷ []) keeps.present ∙ sym (named-push arrivals arrival) in
    let fits : IsFull window_now.size window_now.older.entries window_now.newer.entries = subst (λ n. IsFull n window_now.older.entries window_now.newer.entries) (sym same_size) full in
    record {
      present = present;
      latest = full_inside window_now.size now window_now.older.entries window_now.newer.entries (arrivals ++ arrival ∷ []) present fits;
      rising = subst (λ ks. IsStrictlySortedBy nat_cmp (ks ++ window_now.next ∷ [])) (sym (ap (λ (es : Numbered). keys_of es) entries ∙ keys-append (numbered window) ((window.next, named) ∷ [])))
          (rising_next (keys_of (numbered window)) window.next window_now.next (less_next window.next window_now.next next) keeps.rising);
      numbers = λ tag.
          numbers tag ∙ ap (cond (is_at (nat_cmp named.tag.0) tag) (Some window.next)) (keeps.numbers tag)
          ∙ one_more tag named window.next (numbered window) (ap (list_any (has_tag named.tag.0)) keeps.present ∙ absent)
          ∙ ap (number_of tag) (sym entries);
    }
  where
    cases : (t : Bool) (number : ℕ) (o : Option ℕ) → (t ≡ true → o ≡ None) → cond t (Some number) o ≡ option_or o (cond t (Some number) None)
    cases true number o e = ap (λ p. option_or p (Some number)) (sym (e refl))
    cases false number None e = refl
    cases false number (Some k) e = refl

    tie : (a b : ℕ) → is_at (nat_cmp a) b ≡ (b == a)
    tie a b = grind (arith, nat_tests)

    one_more : (tag : ℕ) (named : Named) (number : ℕ) (es : Numbered) → list_any (has_tag named.tag.0) (values_of es) ≡ false
        → cond (is_at (nat_cmp named.tag.0) tag) (Some number) (number_of tag es) ≡ number_of tag (es ++ (number, named) ∷ [])
    one_more tag named number es none =
        ap (λ t. cond t (Some number) (number_of tag es)) (tie named.tag.0 tag)
        ∙ cases (tag == named.tag.0) number (number_of tag es) (λ t. ap (λ q. number_of q es) ((Decides-eqb tag named.tag.0).0 t) ∙ not_numbered named.tag.0 es none)
        ∙ sym (number_of-append tag es ((number, named) ∷ []))

-- ---- the difference where one comes

-- a version with a new tag is none that is there
new_name : (names : List Named) (named other : Named) → list_any (has_tag named.tag.0) names ≡ false → same_name other named ≡ true → has_version names other ≡ false
new_name names named other absent e = ap (has_version names) (equal_names other named e) ∙ none_with_tag names named absent

exchange_goes : (y s x : Bool) → (y ≡ true → s ≡ false) → (x ≡ true → (y || s) ≡ false) → y ≡ ((y || s) && not (s || x))
exchange_goes true true x e f = let g : true ≡ false = e refl in cc
exchange_goes true false true e f = let g : true ≡ false = f refl in cc
exchange_goes true false false e f = refl
exchange_goes false true x e f = refl
exchange_goes false false x e f = refl

exchange_comes : (y s x : Bool) → (x ≡ true → (y || s) ≡ false) → x ≡ ((s || x) && not (y || s))
exchange_comes true s true f = let g : true ≡ false = f refl in cc
exchange_comes true true false f = refl
exchange_comes true false false f = refl
exchange_comes false true true f = let g : true ≡ false = f refl in cc
exchange_comes false false true f = refl
exchange_comes false true false f = refl
exchange_comes false false false f = refl

-- the newer versions with one more
pushed : (es : Numbered) (number : ℕ) (named other : Named) → has_version (values_of (es ++ (number, named) ∷ [])) other ≡ (has_version (values_of es) other || same_name other named)
pushed es number named other =
    ap (λ xs. has_version xs other) (values-append es ((number, named) ∷ [])) ∙ list_any-append (eq_by_cmp name_cmp other) (values_of es) (named ∷ [])
    ∙ ap (λ b. has_version (values_of es) other || b) (only_it other named)

-- the difference of two lists of versions
pub record Differ (old new gone come : List Named) : Type 0 where
  pub goes : (other : Named) → has_version gone other ≡ (has_version old other && not (has_version new other))
  pub comes : (other : Named) → has_version come other ≡ (has_version new other && not (has_version old other))

no_difference : (names : List Named) → Differ names names [] []
no_difference names = record { goes = λ other. and_not_self (has_version names other); comes = λ other. and_not_self (has_version names other) }

module _ (size next following : ℕ) (named : Named) (older newer older_now newer_now : Numbered) (left : Option Named) (rising : IsStrictlySortedBy nat_cmp (keys_of (older ++ newer) ++ next ∷ []))
    (full : IsFull size older newer) (made : MakesRoom size older newer older_now newer_now left) where
  pub never_differ : size ≡ 0 → Differ (values_of newer) (values_of newer_now) [] []
  never_differ none =
      let empty = nothing size next following named older newer older_now newer_now left rising full made none in
      subst (λ (es : Numbered). Differ (values_of newer) (values_of es) [] []) (empty.0 ∙ sym empty.1) (no_difference (values_of newer))

-- where there was room, one comes; otherwise one goes for it
enters_differ_at : (size next : ℕ) (named : Named) (older newer older_now newer_now newest : Numbered) (left : Option Named) → newest ≡ newer_now ++ (next, named) ∷ []
    → TagsDiffer (values_of newer) → list_any (has_tag named.tag.0) (values_of newer) ≡ false
    → MakesRoom size older newer older_now newer_now left → Differ (values_of newer) (values_of newest) (option_to_list left) (named ∷ [])
enters_differ_at size next named older newer older_now newer_now newest None put differ absent (o, n, room) =
    let has : (other : Named) → has_version (values_of newest) other ≡ (has_version (values_of newer) other || same_name other named) =
    λ other. ap (λ (es : Numbered). has_version (values_of es) other) put ∙ pushed newer_now next named other ∙ ap (λ (es : Numbered). has_version (values_of es) other || same_name other named) n in
    record {
      goes = λ other. nothing_goes (has_version (values_of newer) other) (same_name other named) ∙ ap (λ b. has_version (values_of newer) other && not b) (sym (has other));
      comes = λ other.
          only_it other named ∙ one_comes (has_version (values_of newer) other) (same_name other named) (new_name (values_of newer) named other absent)
          ∙ ap (λ b. b && not (has_version (values_of newer) other)) (sym (has other));
    }
enters_differ_at size next named older newer older_now newer_now newest (Some y) put differ absent (number, is, moved, enough) =
    let has : (other : Named) → has_version (values_of newest) other ≡ (has_version (values_of newer_now) other || same_name other named) = λ other. ap (λ (es : Numbered). has_version (values_of es) other) put ∙ pushed newer_now next named other in
    let had : (other : Named) → has_version (values_of newer) other ≡ (same_name other y || has_version (values_of newer_now) other) = λ other. ap (λ (es : Numbered). has_version (values_of es) other) is in
    let apart : TagsDiffer (y ∷ values_of newer_now) = subst TagsDiffer (ap (λ (es : Numbered). values_of es) is) differ in
    let new : (other : Named) → same_name other named ≡ true → (same_name other y || has_version (values_of newer_now) other) ≡ false = λ other e. sym (had other) ∙ new_name (values_of newer) named other absent e in
    record {
      goes = λ other.
          only_it other y ∙ exchange_goes (same_name other y) (has_version (values_of newer_now) other) (same_name other named) (new_name (values_of newer_now) y other apart.0) (new other)
          ∙ ap (λ b. b && not (has_version (values_of newer_now) other || same_name other named)) (sym (had other)) ∙ ap (λ b. has_version (values_of newer) other && not b) (sym (has other));
      comes = λ other.
          only_it other named ∙ exchange_comes (same_name other y) (has_version (values_of newer_now) other) (same_name other named) (new other)
          ∙ ap (λ b. b && not (same_name other y || has_version (values_of newer_now) other)) (sym (has other)) ∙ ap (λ b. has_version (values_of newest) other && not b) (sym (had other));
    }

module _ (size next following : ℕ) (named : Named) (older newer older_now newer_now : Numbered) (left : Option Named) (rising : IsStrictlySortedBy nat_cmp (keys_of (older ++ newer) ++ next ∷ []))
    (full : IsFull size older newer) (made : MakesRoom size older newer older_now newer_now left) where
  pub enters_differ : TagsDiffer (values_of newer) → list_any (has_tag named.tag.0) (values_of newer) ≡ false
      → Differ (values_of newer) (values_of (insert_entry nat_cmp newer_now next named)) (option_to_list left) (named ∷ [])
  enters_differ differ absent =
      enters_differ_at size next named older newer older_now newer_now (insert_entry nat_cmp newer_now next named) left
      (put size next following named older newer older_now newer_now left rising full made) differ absent made

-- the difference of what was inside and what is
pub between_kept : (window window_now : LengthWindow) (arrivals next : List Arrival) (was now : ℤ) (gone come : List Named) (delta : Delta) → KeepsLength window arrivals was → KeepsLength window_now next now
    → window_now.size ≡ window.size → Differ (values_of window.newer.entries) (values_of window_now.newer.entries) gone come
    → IsStrictlySortedBy name_cmp gone → IsStrictlySortedBy name_cmp come → delta.gone ≡ map single gone → delta.come ≡ map single come
    → IsBetween (rows_inside (Length window.size) was arrivals) (rows_inside (Length window.size) now next) delta
between_kept window window_now arrivals next was now gone come delta keeps keeps_now same_size differ gone_sorted come_sorted is_gone is_come =
    between_newer window.size was now arrivals next (values_of window.newer.entries) (values_of window_now.newer.entries) gone come delta keeps.latest
    (keeps_now.latest ∙ ap (λ n. map named_of (inside (Length n) now next)) same_size) gone_sorted come_sorted differ.goes differ.comes is_gone is_come

-- what is kept is full, and its parts have tags that differ
pub kept_full : (window : LengthWindow) (arrivals : List Arrival) (now : ℤ) → KeepsLength window arrivals now → IsFull window.size window.older.entries window.newer.entries
kept_full window arrivals now keeps = inside_full window.size now window.older.entries window.newer.entries arrivals keeps.present keeps.latest

pub kept_differ : (window : LengthWindow) (arrivals : List Arrival) (now : ℤ) → KeepsLength window arrivals now → TagsDiffer (map named_of arrivals)
    → TagsDiffer (values_of window.older.entries ++ values_of window.newer.entries)
kept_differ window arrivals now keeps differ = subst TagsDiffer (sym keeps.present ∙ values-append window.older.entries window.newer.entries) differ

pub newer_differ : (window : LengthWindow) (arrivals : List Arrival) (now : ℤ) → KeepsLength window arrivals now → TagsDiffer (map named_of arrivals) → TagsDiffer (values_of window.newer.entries)
newer_differ window arrivals now keeps differ = differ_right (values_of window.older.entries) (values_of window.newer.entries) (kept_differ window arrivals now keeps differ)

pub newer_absent : (window : LengthWindow) (arrivals : List Arrival) (now : ℤ) (tag : ℕ) → KeepsLength window arrivals now → list_any (has_tag tag) (map named_of arrivals) ≡ false
    → list_any (has_tag tag) (values_of window.newer.entries) ≡ false
newer_absent window arrivals now tag keeps absent =
    absent_right tag (values_of window.older.entries) (values_of window.newer.entries)
    (ap (list_any (has_tag tag)) (sym (values-append window.older.entries window.newer.entries) ∙ keeps.present) ∙ absent)

-- ---- one goes

-- what one taken out leaves
pub record Removed (tag size : ℕ) (older newer older_now newer_now : Numbered) (left back : Option Named) : Type 0 where
  pub entries : older_now ++ newer_now ≡ others tag (older ++ newer)
  pub full : IsFull size older newer → IsFull size older_now newer_now
  pub differ : Differ (values_of newer) (values_of newer_now) (option_to_list left) (option_to_list back)

-- of the older ones
removed_older : (tag number size : ℕ) (older newer older_now newer_now : Numbered) → InOlder tag number older newer → older_now ≡ remove_entry (is_at (nat_cmp number)) older → newer_now ≡ newer
    → Removed tag size older newer older_now newer_now None None
removed_older tag number size older newer older_now newer_now is less same =
    let a = ap (λ (es : Numbered). length es) less in
    let b = ap (λ (es : Numbered). length es) same in
    let d = is.it.fewer in
    record {
      entries = ap (λ es. es ++ newer_now) (less ∙ is.it.left) ∙ ap (λ es. others tag older ++ es) (same ∙ sym is.stay) ∙ sym (others-append tag older newer);
      full = λ full. omega arith;
      differ = subst (λ (es : Numbered). Differ (values_of newer) (values_of es) [] []) (sym same) (no_difference (values_of newer));
    }

leave_goes : (o h t n : Bool) → (h && t) ≡ n → (o ≡ true → h ≡ false) → n ≡ (h && not (o || (h && not t)))
leave_goes true true t n e f = let g : true ≡ false = f refl in cc
leave_goes true false t n e f = sym e
leave_goes false true true n e f = sym e
leave_goes false true false n e f = sym e
leave_goes false false t n e f = sym e

leave_comes : (o h t : Bool) → (o ≡ true → h ≡ false) → o ≡ ((o || (h && not t)) && not h)
leave_comes true true t f = let g : true ≡ false = f refl in cc
leave_comes true false t f = refl
leave_comes false true true f = refl
leave_comes false true false f = refl
leave_comes false false t f = refl

-- what a look-up finds is there
looked_up : (test : ℕ → Bool) (es : Numbered) (named : Named) → lookup test es ≡ Some named → has_version (values_of es) named ≡ true
looked_up test [] named e = let f : None ≡ Some named = e in absurd (cc)
looked_up test (x ∷ es) named e =
    elim (test x.0) as (λ b. cond b (Some x.1) (lookup test es) ≡ Some named → (same_name named x.1 || has_version (values_of es) named) ≡ true) [
      | true ↦ λ h. let same : x.1 ≡ named = cc in ap (λ y. same_name named y || has_version (values_of es) named) same ∙ ap (λ b. b || has_version (values_of es) named) (same_itself named)
      | false ↦ λ h. ap (λ b. same_name named x.1 || b) (looked_up test es named h) ∙ or_true (same_name named x.1)
    ] e
  where
    or_true : (a : Bool) → (a || true) ≡ true
    or_true true = refl
    or_true false = refl

-- of those inside
module _ (tag number size : ℕ) (older newer older_now newer_now : Numbered) (rising : IsStrictlySortedBy nat_cmp (keys_of older ++ keys_of newer)) (differ : TagsDiffer (values_of older ++ values_of newer))
    (is : InNewer tag number older newer) where
  g : Named
  g = is.it.named

  -- those with the tag are the one that goes
  only_g : (other : Named) → (has_version (values_of newer) other && (tag == other.tag.0)) ≡ same_name other g
  unfolding g
  only_g other =
      ap (λ t. has_version (values_of newer) other && (t == other.tag.0)) ((Decides-eqb tag is.it.named.tag.0).0 is.it.tagged)
      ∙ only_one (values_of newer) is.it.named other (differ_right (values_of older) (values_of newer) differ) (looked_up (is_at (nat_cmp number)) newer is.it.named is.it.found)

  -- the others are left
  left_others : (other : Named) → has_version (values_of (others tag newer)) other ≡ (has_version (values_of newer) other && not (tag == other.tag.0))
  left_others other = ap (λ names. has_version names other) (values-others tag newer) ∙ names-without tag (values_of newer) other

  others_now : (behind : Numbered) → behind ≡ others tag newer → older ++ behind ≡ others tag (older ++ newer)
  others_now behind e = ap (λ es. older ++ es) e ∙ ap (λ es. es ++ others tag newer) (sym is.stay) ∙ sym (others-append tag older newer)

  pub removed_newer : (back : Option Named) → BringsBack older (remove_entry (is_at (nat_cmp number)) newer) older_now newer_now back → Removed tag size older newer older_now newer_now (Some is.it.named) back
  unfolding g
  removed_newer None (o, n, none) =
      let a = ap (λ (es : Numbered). length es) o in
      let b = ap (λ (es : Numbered). length es) n in
      let d = ap (λ (es : Numbered). length es) none in
      let k = is.it.fewer in
      let has : (other : Named) → has_version (values_of newer_now) other ≡ (has_version (values_of newer) other && not (tag == other.tag.0)) = λ other. ap (λ (es : Numbered). has_version (values_of es) other) (n ∙ is.it.left) ∙ left_others other in
      record {
        entries = ap (λ es. es ++ newer_now) o ∙ others_now newer_now (n ∙ is.it.left);
        full = λ full. omega arith;
        differ = record {
          goes = λ other.
              only_it other g ∙ leave_goes false (has_version (values_of newer) other) (tag == other.tag.0) (same_name other g) (only_g other) (λ e. let f : false ≡ true = e in cc)
              ∙ ap (λ b. has_version (values_of newer) other && not b) (sym (has other));
          comes = λ other.
              leave_comes false (has_version (values_of newer) other) (tag == other.tag.0) (λ e. let f : false ≡ true = e in cc)
              ∙ ap (λ b. b && not (has_version (values_of newer) other)) (sym (has other));
        };
      }
  removed_newer (Some o) (at, split, put) =
      let keys : keys_of older ++ keys_of newer ≡ keys_of older_now ++ at ∷ keys_of newer =
      ap (λ (es : Numbered). keys_of es ++ keys_of newer) split ∙ ap (λ ks. ks ++ keys_of newer) (keys-append older_now ((at, o) ∷ [])) ∙ append_assoc (keys_of older_now) (at ∷ []) (keys_of newer) in
      let rise : IsStrictlySortedBy nat_cmp (at ∷ keys_of newer) = rising_right (keys_of older_now) (at ∷ keys_of newer) (subst (IsStrictlySortedBy nat_cmp) keys rising) in
      let front : newer_now ≡ (at, o) ∷ others tag newer =
      put ∙ ap (λ es. insert_entry nat_cmp es at o) is.it.left ∙ put_before (others tag newer) at o (head_rise at tag newer rise) in
      let a = ap (λ (es : Numbered). length es) split in
      let b = length-append older_now ((at, o) ∷ []) in
      let d = ap (λ (es : Numbered). length es) front in
      let l = ap (λ (es : Numbered). length es) is.it.left in
      let k = is.it.fewer in
      let has : (other : Named) → has_version (values_of newer_now) other ≡ (same_name other o || (has_version (values_of newer) other && not (tag == other.tag.0))) =
      λ other. ap (λ (es : Numbered). has_version (values_of es) other) front ∙ ap (λ b. same_name other o || b) (left_others other) in
      let there : has_version (values_of older) o ≡ true =
      ap (λ (es : Numbered). has_version (values_of es) o) split ∙ pushed older_now at o o ∙ ap (λ b. has_version (values_of older_now) o || b) (same_itself o) ∙ or_true (has_version (values_of older_now) o) in
      let not_inside : (other : Named) → same_name other o ≡ true → has_version (values_of newer) other ≡ false =
      λ other e. ap (has_version (values_of newer)) (equal_names other o e) ∙ names_apart (values_of older) (values_of newer) o differ there in
      record {
        entries = ap (λ es. older_now ++ es) front ∙ sym (append_assoc older_now ((at, o) ∷ []) (others tag newer)) ∙ ap (λ es. es ++ others tag newer) (sym split) ∙ others_now (others tag newer) refl;
        full = λ full. omega arith;
        differ = record {
          goes = λ other.
              only_it other g ∙ leave_goes (same_name other o) (has_version (values_of newer) other) (tag == other.tag.0) (same_name other g) (only_g other) (not_inside other)
              ∙ ap (λ b. has_version (values_of newer) other && not b) (sym (has other));
          comes = λ other.
              only_it other o ∙ leave_comes (same_name other o) (has_version (values_of newer) other) (tag == other.tag.0) (not_inside other)
              ∙ ap (λ b. b && not (has_version (values_of newer) other)) (sym (has other));
        };
      }
    where
      or_true : (a : Bool) → (a || true) ≡ true
      or_true true = refl
      or_true false = refl

-- either way
some_removed : (tag number size : ℕ) (older newer older_now newer_now : Numbered) (left back : Option Named) → IsStrictlySortedBy nat_cmp (keys_of older ++ keys_of newer) → TagsDiffer (values_of older ++ values_of newer)
    → number_of tag (older ++ newer) ≡ Some number → Removes number older newer older_now newer_now left back → Removed tag size older newer older_now newer_now left back
some_removed tag number size older newer older_now newer_now None back rising differ numbered (absent, none, less, same) =
    ⊎_elim
    (λ is. subst (λ b. Removed tag size older newer older_now newer_now None b) (sym none) (removed_older tag number size older newer older_now newer_now is less same))
    (λ is. let f : Some is.it.named ≡ None = sym is.it.found ∙ absent in absurd (cc))
    (in_either tag number older newer rising differ numbered)
some_removed tag number size older newer older_now newer_now (Some named) back rising differ numbered (found, brings) =
    ⊎_elim
    (λ is. let f : Some named ≡ None = sym found ∙ is.absent in absurd (cc))
    (λ is.
    let same : Some is.it.named ≡ Some named = sym is.it.found ∙ found in
    subst (λ l. Removed tag size older newer older_now newer_now l back) same (removed_newer tag number size older newer older_now newer_now rising differ is back brings))
    (in_either tag number older newer rising differ numbered)

-- none has the tag
pub none_removed : (tag size : ℕ) (older newer : Numbered) → number_of tag (older ++ newer) ≡ None → Removed tag size older newer older newer None None
none_removed tag size older newer none = record {
  entries = sym (others-absent tag (older ++ newer) (none_numbered tag (older ++ newer) none));
  full = λ full. full;
  differ = no_difference (values_of newer);
}

-- what is kept of a window, as some_removed asks
pub kept_removed : (window : LengthWindow) (arrivals : List Arrival) (was : ℤ) (tag number : ℕ) (older_now newer_now : Numbered) (left back : Option Named) → KeepsLength window arrivals was → TagsDiffer (map named_of arrivals)
    → get nat_cmp window.numbers tag ≡ Some number → Removes number window.older.entries window.newer.entries older_now newer_now left back
    → Removed tag window.size window.older.entries window.newer.entries older_now newer_now left back
kept_removed window arrivals was tag number older_now newer_now left back keeps differ found removes =
    some_removed tag number window.size window.older.entries window.newer.entries older_now newer_now left back
    (subst (IsStrictlySortedBy nat_cmp) (keys-append window.older.entries window.newer.entries) (rising_left (keys_of (numbered window)) (window.next ∷ []) keeps.rising))
    (kept_differ window arrivals was keeps differ) (sym (keeps.numbers tag) ∙ found) removes

pub kept_none_removed : (window : LengthWindow) (arrivals : List Arrival) (was : ℤ) (tag : ℕ) → KeepsLength window arrivals was → get nat_cmp window.numbers tag ≡ None
    → Removed tag window.size window.older.entries window.newer.entries window.older.entries window.newer.entries None None
kept_none_removed window arrivals was tag keeps none = none_removed tag window.size window.older.entries window.newer.entries (sym (keeps.numbers tag) ∙ none)

-- what is kept then
pub went : (window window_now : LengthWindow) (arrivals : List Arrival) (was now : ℤ) (gone : Named) (left back : Option Named) → KeepsLength window arrivals was
    → window_now.size ≡ window.size → window_now.next ≡ window.next
    → Removed gone.tag.0 window.size window.older.entries window.newer.entries window_now.older.entries window_now.newer.entries left back
    → ((tag : ℕ) → get nat_cmp window_now.numbers tag ≡ cond (is_at (nat_cmp gone.tag.0) tag) None (get nat_cmp window.numbers tag))
    → KeepsLength window_now (after arrivals (Gone gone)) now
went window window_now arrivals was now gone left back keeps same_size same_next removed numbers =
    let present : values_of (numbered window_now) ≡ map named_of (after arrivals (Gone gone)) =
    ap (λ (es : Numbered). values_of es) removed.entries ∙ values-others gone.tag.0 (numbered window) ∙ ap (without gone.tag.0) keeps.present ∙ sym (named-filter gone.tag.0 arrivals) in
    let fits : IsFull window_now.size window_now.older.entries window_now.newer.entries =
    subst (λ n. IsFull n window_now.older.entries window_now.newer.entries) (sym same_size) (removed.full (kept_full window arrivals was keeps)) in
    record {
      present = present;
      latest = full_inside window_now.size now window_now.older.entries window_now.newer.entries (after arrivals (Gone gone)) present fits;
      rising = subst (λ k. IsStrictlySortedBy nat_cmp (keys_of (numbered window_now) ++ k ∷ [])) (sym same_next)
          (subst (λ (es : Numbered). IsStrictlySortedBy nat_cmp (keys_of es ++ window.next ∷ [])) (sym removed.entries) (others_rise gone.tag.0 (numbered window) (window.next ∷ []) keeps.rising));
      numbers = λ tag.
          numbers tag ∙ ap (cond (is_at (nat_cmp gone.tag.0) tag) None) (keeps.numbers tag)
          ∙ ap (λ t. cond t None (number_of tag (numbered window))) (tie gone.tag.0 tag)
          ∙ sym (number_of-others gone.tag.0 tag (numbered window)) ∙ ap (number_of tag) (sym removed.entries);
    }
  where
    tie : (a b : ℕ) → is_at (nat_cmp a) b ≡ (a == b)
    tie a b = grind (arith, nat_tests)

-- ---- the calls

-- the window with these parts
abbrev pub with_parts : LengthWindow → ℕ → BTreeMap ℕ Named → BTreeMap ℕ Named → BTreeMap ℕ ℕ → LengthWindow
with_parts window next older newer numbers = record { size = window.size; next = next; older = older; newer = newer; numbers = numbers }

module _ (window : LengthWindow) (following : ℕ) (named : Named) (older_made newer_made : Numbered) (left : Option Named) (older newer : BTreeMap ℕ Named) (numbers : BTreeMap ℕ ℕ)
    (next : following ≡ window.next + 1) (made : MakesRoom window.size window.older.entries window.newer.entries older_made newer_made left)
    (numbers_are : (tag : ℕ) → get nat_cmp numbers tag ≡ cond (is_at (nat_cmp named.tag.0) tag) (Some window.next) (get nat_cmp window.numbers tag))
    (arrivals : List Arrival) (start was now : ℤ) (keeps : KeepsLength window arrivals was) (absent : list_any (has_tag named.tag.0) (map named_of arrivals) ≡ false) where
  -- into a window of no length
  pub kept_never : window.size ≡ 0 → older.entries ≡ insert_entry nat_cmp older_made window.next named → newer.entries ≡ newer_made
      → KeepsLength (with_parts window following older newer numbers) (after arrivals (Come named start)) now
  kept_never none put same =
      came window (with_parts window following older newer numbers) arrivals was now named start keeps absent refl next
      (ap (λ es. es ++ newer.entries) put ∙ ap (λ es. insert_entry nat_cmp older_made window.next named ++ es) same
      ∙ never_entries window.size window.next following named window.older.entries window.newer.entries older_made newer_made left keeps.rising (kept_full window arrivals was keeps) made none)
      (subst (λ (es : Numbered). IsFull window.size es newer.entries) (sym put) (subst (IsFull window.size (insert_entry nat_cmp older_made window.next named)) (sym same)
      (never_full window.size window.next following named window.older.entries window.newer.entries older_made newer_made left keeps.rising (kept_full window arrivals was keeps) made none)))
      numbers_are

  pub between_never : window.size ≡ 0 → older.entries ≡ insert_entry nat_cmp older_made window.next named → newer.entries ≡ newer_made → (delta : Delta) → delta.gone ≡ [] → delta.come ≡ []
      → IsBetween (rows_inside (Length window.size) was arrivals) (rows_inside (Length window.size) now (after arrivals (Come named start))) delta
  between_never none put same delta is_gone is_come =
      between_kept window (with_parts window following older newer numbers) arrivals (after arrivals (Come named start)) was now [] [] delta keeps (kept_never none put same) refl
      (subst (λ (es : Numbered). Differ (values_of window.newer.entries) (values_of es) [] []) (sym same)
      (never_differ window.size window.next following named window.older.entries window.newer.entries older_made newer_made left keeps.rising (kept_full window arrivals was keeps) made none))
      none_in_order none_in_order is_gone is_come

  -- into another
  pub kept_enters : (window.size ≡ 0 → ⊥) → older.entries ≡ older_made → newer.entries ≡ insert_entry nat_cmp newer_made window.next named
      → KeepsLength (with_parts window following older newer numbers) (after arrivals (Come named start)) now
  kept_enters some same put =
      came window (with_parts window following older newer numbers) arrivals was now named start keeps absent refl next
      (ap (λ es. es ++ newer.entries) same ∙ ap (λ es. older_made ++ es) put
      ∙ enters_entries window.size window.next following named window.older.entries window.newer.entries older_made newer_made left keeps.rising (kept_full window arrivals was keeps) made)
      (subst (λ (es : Numbered). IsFull window.size es newer.entries) (sym same) (subst (IsFull window.size older_made) (sym put)
      (enters_full window.size window.next following named window.older.entries window.newer.entries older_made newer_made left keeps.rising (kept_full window arrivals was keeps) made some)))
      numbers_are

  pub between_enters : TagsDiffer (map named_of arrivals) → (window.size ≡ 0 → ⊥) → older.entries ≡ older_made → newer.entries ≡ insert_entry nat_cmp newer_made window.next named
      → (delta : Delta) → delta.gone ≡ map single (option_to_list left) → delta.come ≡ map single (named ∷ [])
      → IsBetween (rows_inside (Length window.size) was arrivals) (rows_inside (Length window.size) now (after arrivals (Come named start))) delta
  between_enters differ some same put delta is_gone is_come =
      between_kept window (with_parts window following older newer numbers) arrivals (after arrivals (Come named start)) was now (option_to_list left) (named ∷ []) delta keeps (kept_enters some same put) refl
      (subst (λ (es : Numbered). Differ (values_of window.newer.entries) (values_of es) (option_to_list left) (named ∷ [])) (sym put)
      (enters_differ window.size window.next following named window.older.entries window.newer.entries older_made newer_made left keeps.rising (kept_full window arrivals was keeps) made
      (newer_differ window arrivals was keeps differ) (newer_absent window arrivals was named.tag.0 keeps absent)))
      (few_in_order left) (one_in_order named) is_gone is_come

module _ (window : LengthWindow) (gone : Named) (older newer : BTreeMap ℕ Named) (numbers : BTreeMap ℕ ℕ) (left back : Option Named)
    (numbers_are : (tag : ℕ) → get nat_cmp numbers tag ≡ cond (is_at (nat_cmp gone.tag.0) tag) None (get nat_cmp window.numbers tag))
    (arrivals : List Arrival) (was now : ℤ) (keeps : KeepsLength window arrivals was)
    (removed : Removed gone.tag.0 window.size window.older.entries window.newer.entries older.entries newer.entries left back) where
  pub kept_went : KeepsLength (with_parts window window.next older newer numbers) (after arrivals (Gone gone)) now
  kept_went = went window (with_parts window window.next older newer numbers) arrivals was now gone left back keeps refl refl removed numbers_are

  pub between_went : (delta : Delta) → delta.gone ≡ map single (option_to_list left) → delta.come ≡ map single (option_to_list back)
      → IsBetween (rows_inside (Length window.size) was arrivals) (rows_inside (Length window.size) now (after arrivals (Gone gone))) delta
  between_went delta is_gone is_come =
      between_kept window (with_parts window window.next older newer numbers) arrivals (after arrivals (Gone gone)) was now (option_to_list left) (option_to_list back) delta keeps kept_went refl
      removed.differ (few_in_order left) (few_in_order back) is_gone is_come

-- a part as a slice
pub slice_is : (o : Option Named) (items : List Named) → MatchOption o (items ≡ []) (λ x. items ≡ x ∷ []) → items ≡ option_to_list o
slice_is None items e = e
slice_is (Some x) items e = e

-- the same under other names
pub removed_along : (tag size : ℕ) (older newer : Numbered) (older_at older_is newer_at newer_is : BTreeMap ℕ Named) (both : Option Named × Option Named) (left back : Option Named)
    → older_is ≡ older_at → newer_is ≡ newer_at → both ≡ (left, back)
    → Removed tag size older newer older_at.entries newer_at.entries left back → Removed tag size older newer older_is.entries newer_is.entries both.0 both.1
removed_along tag size older newer older_at older_is newer_at newer_is both left back o n b removed =
    subst (λ (p : Option Named × Option Named). Removed tag size older newer older_is.entries newer_is.entries p.0 p.1) (sym b)
    (subst (λ (m : BTreeMap ℕ Named). Removed tag size older newer m.entries newer_is.entries left back) (sym o)
    (subst (λ (m : BTreeMap ℕ Named). Removed tag size older newer older_at.entries m.entries left back) (sym n) removed))

-- the clock changes nothing
pub between_clock : (window : LengthWindow) (arrivals : List Arrival) (was now : ℤ) (delta : Delta) → KeepsLength window arrivals was → delta.gone ≡ [] → delta.come ≡ []
    → IsBetween (rows_inside (Length window.size) was arrivals) (rows_inside (Length window.size) now arrivals) delta
between_clock window arrivals was now delta keeps is_gone is_come =
    between_kept window window arrivals arrivals was now [] [] delta keeps (keeps_still window arrivals was now keeps) refl (no_difference (values_of window.newer.entries)) none_in_order none_in_order is_gone is_come
