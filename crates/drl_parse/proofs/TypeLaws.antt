-- Types and entry points are read exactly.
use Rattle.drl_parse.proofs.Common.{◌≡◌, ℕ, ℤ, ◌<◌, ◌≤◌, Bool, true, false, cond, List, ◌∷◌, length, Option, Some, None, refl, arith, IfSome, codes, bytes_eq}
use Rattle.drl_parse.proofs.Common.{TokenKind, Word, Mark, Minus, Found, WrittenType, IsName, IsType, IsEntry, Many, phrase_binds, ExactPhrase, ◌>>=◌, many_at}
use Rattle.drl_parse.proofs.Common.{name_at, name_exact, then, guarded, ident_then, ident_is, same_bytes, ended_then, ended_is, Begins, many_sound, many_again}
use Rattle.drl_parse.proofs.Common.{many_shorter, OpenParenthesis, CloseParenthesis, Colon, At, IsSpan, IsMeta, IsField, IsParentName, IsLateness, Maybe}
use Rattle.drl_parse.proofs.Common.{maybe_at, span_at, span_exact, closed_then, maybe_sound, maybe_again, maybe_shorter, meta_text}
use Rattle.{drl_expr.specs.Words.{is_ident}, drl_grammar.specs.declared.file.Meta.{Meta}}
use Rattle.drl_grammar.specs.declared.file.Meta.TheVariants as meta
use Rattle.drl_grammar.specs.Items as g
use Rattle.drl_grammar.specs.Shapes as m
use Rattle.drl_phrase.specs.declared.phrase.Punctuation.TheVariants as p
use Rattle.{drl_phrase.specs.Reading.{after, closed, ident}, drl_parse.specs.declared.words.MetaWord.{MetaWord, TheVariants.{RoleWord, TimestampWord}}}
use Rattle.drl_parse.specs.{declared.words.MetaWord.TheVariants.{DurationWord, ExpiresWord, ReferenceWord}, Reading.{meta_word_of, role_word, behind_meta}}
use Rattle.drl_parse.specs.Reading.{meta_at, field_at, parent_at, type_at, lateness_at, behind_point, entry_at}

-- ---- annotations

word_sound : (w : List ℕ) → IfSome (meta_word_of w) (λ k. w ≡ meta_text k)
unfolding meta_word_of
word_sound w = pick (bytes_eq w (codes "role")) RoleWord _ (same_bytes w _) (λ o. pick (bytes_eq w (codes "timestamp")) TimestampWord _ (same_bytes w _) (λ o.
    pick (bytes_eq w (codes "duration")) DurationWord _ (same_bytes w _) (λ o. pick (bytes_eq w (codes "expires")) ExpiresWord _ (same_bytes w _) (λ o.
    pick (bytes_eq w (codes "reference")) ReferenceWord _ (same_bytes w _) (λ o. tt)))))
  where
    pick : (b : Bool) (k : MetaWord) (others : Option MetaWord) → (b ≡ true → w ≡ meta_text k) → (b ≡ false → IfSome others (λ k. w ≡ meta_text k)) → IfSome (cond b (Some k) others) (λ k. w ≡ meta_text k)
    pick true k others is go = is refl
    pick false k others is go = go refl

behind_sound : (k : MetaWord) (ts : List TokenKind) → Found IsMeta (Mark At ∷ Word (meta_text k) ∷ ts) (behind_meta k ts)
unfolding behind_meta role_word
behind_sound RoleWord (Mark OpenParenthesis ∷ Word f ∷ Mark CloseParenthesis ∷ rest) = role (bytes_eq f (codes "event")) (bytes_eq f (codes "fact")) refl refl
  where
    role : (e o : Bool) → bytes_eq f (codes "event") ≡ e → bytes_eq f (codes "fact") ≡ o
        → Found IsMeta (Mark At ∷ Word (codes "role") ∷ Mark OpenParenthesis ∷ Word f ∷ Mark CloseParenthesis ∷ rest) (cond e (Some true) (cond o (Some false) None) >>= λ event. Some (meta.Role event, rest))
    role true o is_e is_o = rw (same_bytes f (codes "event") is_e) g.event_role
    role false true is_e is_o = rw (same_bytes f (codes "fact") is_o) g.fact_role
    role false false is_e is_o = tt
behind_sound TimestampWord (Mark OpenParenthesis ∷ Word f ∷ Mark CloseParenthesis ∷ rest) = ident_then IsMeta _ f _ (λ h. g.timestamp h)
behind_sound DurationWord (Mark OpenParenthesis ∷ Word f ∷ Mark CloseParenthesis ∷ rest) = ident_then IsMeta _ f _ (λ h. g.duration h)
behind_sound ExpiresWord (Mark OpenParenthesis ∷ ts) =
    then IsSpan ts (span_at ts) _ IsMeta _ (span_exact.sound ts) (λ ms hms. closed_then p.CloseParenthesis IsSpan ms.0 ts (meta.Expires ms.0) ms.1 IsMeta _ hms (λ rest hr. g.expires hr))
behind_sound ReferenceWord rest = g.reference
behind_sound word ts = tt

meta_exact : ExactPhrase IsMeta meta_at 0
unfolding meta_at meta_word_of behind_meta role_word closed after
meta_exact = record { sound = sound; again = again; shorter = shorter }
  where
    word_then : (w : List ℕ) (rest : List TokenKind) (o : Option MetaWord) → IfSome o (λ k. w ≡ meta_text k) → Found IsMeta (Mark At ∷ Word w ∷ rest) (o >>= λ word. behind_meta word rest)
    word_then w rest None h = tt
    word_then w rest (Some k) h = rw h (behind_sound k rest)

    sound : (ts : List TokenKind) → Found IsMeta ts (meta_at ts)
    sound (Mark At ∷ Word w ∷ rest) = word_then w rest (meta_word_of w) (word_sound w)
    sound ts = tt

    again : (x : Meta) (ts rest : List TokenKind) → IsMeta x ts rest → 0 ≤ phrase_binds rest → meta_at ts ≡ Some (x, rest)
    again x ts rest (g.timestamp {f} h) stop = ident_is f _ h
    again x ts rest (g.duration {f} h) stop = ident_is f _ h
    again x ts rest (g.expires {ms} {ts = inside} h) stop = rw (span_exact.again ms inside (Mark CloseParenthesis ∷ rest) h (omega arith)) refl
    again x ts rest h stop = refl

    shorter : (x : Meta) (ts rest : List TokenKind) → IsMeta x ts rest → length rest < length ts
    shorter x ts rest (g.expires {ms} {ts = inside} h) = let less = span_exact.shorter ms inside (Mark CloseParenthesis ∷ rest) h in omega arith
    shorter x ts rest g.event_role = omega arith
    shorter x ts rest h = omega arith

meta_begins : Begins IsMeta 0
meta_begins x ts rest h = omega arith

-- ---- types

field_exact : ExactPhrase IsField field_at 0
unfolding field_at
field_exact = record { sound = sound; again = again; shorter = shorter }
  where
    sound : (ts : List TokenKind) → Found IsField ts (field_at ts)
    sound (Word f ∷ Mark Colon ∷ Word k ∷ rest) = ident_then IsField _ f _ (λ hf. ident_then IsField _ k _ (λ hk. g.field hf hk))
    sound ts = tt

    again : (x : List ℕ × List ℕ) (ts rest : List TokenKind) → IsField x ts rest → 0 ≤ phrase_binds rest → field_at ts ≡ Some (x, rest)
    again x ts rest (g.field {f} {k} hf hk) stop = rw (ident_is f _ hf, ident_is k _ hk) refl

    shorter : (x : List ℕ × List ℕ) (ts rest : List TokenKind) → IsField x ts rest → length rest < length ts
    shorter x ts rest (g.field hf hk) = omega arith

field_begins : Begins IsField 0
field_begins x ts rest h = omega arith

-- fields begin no annotation
no_meta : (fs : List (List ℕ × List ℕ)) (ts rest : List TokenKind) → Many IsField fs ts (Word (codes "end") ∷ rest) → meta_at ts ≡ None
unfolding meta_at
no_meta fs ts rest m.nothing = refl
no_meta fs ts rest (m.further (g.field hf hk) hs) = refl

-- the word `end` begins no field
no_field : (rest : List TokenKind) → field_at (Word (codes "end") ∷ rest) ≡ None
unfolding field_at ident is_ident
no_field (Mark Colon ∷ Word k ∷ rest) = refl
no_field rest = refl

parent_exact : ExactPhrase IsParentName parent_at 0
unfolding parent_at
parent_exact = record { sound = sound; again = again; shorter = shorter }
  where
    sound : (ts : List TokenKind) → Found IsParentName ts (parent_at ts)
    sound (Word w ∷ Word ty ∷ rest) = guarded IsParentName _ (bytes_eq w (codes "extends")) _ (λ e. rw (same_bytes w (codes "extends") e) (ident_then IsParentName _ ty _ (λ h. g.parent h)))
    sound ts = tt

    again : (x : List ℕ) (ts rest : List TokenKind) → IsParentName x ts rest → 0 ≤ phrase_binds rest → parent_at ts ≡ Some (x, rest)
    again x ts rest (g.parent {ty} h) stop = ident_is ty _ h

    shorter : (x : List ℕ) (ts rest : List TokenKind) → IsParentName x ts rest → length rest < length ts
    shorter x ts rest (g.parent h) = omega arith

-- annotations and fields name no type that is extended
no_parent : (ms : List Meta) (fs : List (List ℕ × List ℕ)) (ts middle rest : List TokenKind) → Many IsMeta ms ts middle → Many IsField fs middle (Word (codes "end") ∷ rest) → parent_at ts ≡ None
unfolding parent_at
no_parent ms fs ts middle (Word k ∷ rest) m.nothing m.nothing = refl
no_parent ms fs ts middle rest m.nothing m.nothing = refl
no_parent ms fs ts middle rest m.nothing (m.further (g.field hf hk) hs) = refl
no_parent ms fs ts middle rest (m.further h hs) fields = begins h
  where
    begins : {x : Meta} {ts rest : List TokenKind} → IsMeta x ts rest → parent_at ts ≡ None
    begins g.event_role = refl
    begins g.fact_role = refl
    begins (g.timestamp h) = refl
    begins (g.duration h) = refl
    begins (g.expires h) = refl
    begins g.reference = refl

pub type_exact : ExactPhrase IsType type_at 0
unfolding type_at
type_exact = record { sound = sound; again = again; shorter = shorter }
  where
    sound : (ts : List TokenKind) → Found IsType ts (type_at ts)
    sound (Word ty ∷ ts) = ident_then IsType _ ty _ (λ h.
        then (Maybe IsParentName) ts (maybe_at parent_at ts) _ IsType _ (maybe_sound parent_exact ts) (λ above habove.
        then (Many IsMeta) above.1 (many_at meta_at above.1) _ IsType _ (many_sound meta_exact above.1) (λ ms hms.
        then (Many IsField) ms.1 (many_at field_at ms.1) _ IsType _ (many_sound field_exact ms.1) (λ fs hfs.
        ended_then (codes "end") (Many IsField) fs.0 ms.1 (record { name = ty; parent = above.0; metas = ms.0; fields = fs.0 }) fs.1 IsType _ hfs (λ rest hr. g.type_of h habove hms hr)))))
    sound ts = tt

    again : (x : WrittenType) (ts rest : List TokenKind) → IsType x ts rest → 0 ≤ phrase_binds rest → type_at ts ≡ Some (x, rest)
    again x ts rest (g.type_of {ty} {above} {ms} {fs} {ts = behind} {behind_parent} {middle} h habove hms hfs) stop =
        rw (
          ident_is ty _ h,
          maybe_again parent_exact above behind behind_parent habove (no_parent ms fs behind_parent middle rest hms hfs) (omega arith),
          many_again meta_exact meta_begins ms behind_parent middle hms (no_meta fs middle rest hfs) (omega arith),
          many_again field_exact field_begins fs middle (Word (codes "end") ∷ rest) hfs (no_field rest) (omega arith),
        ) (ended_is (codes "end") x rest)

    shorter : (x : WrittenType) (ts rest : List TokenKind) → IsType x ts rest → length rest < length ts
    shorter x ts rest (g.type_of {above} {ms} {fs} {ts = behind} {behind_parent} {middle} h habove hms hfs) =
        let front = maybe_shorter parent_exact above behind behind_parent habove in let first = many_shorter meta_exact ms behind_parent middle hms in let others = many_shorter field_exact fs middle (Word (codes "end") ∷ rest) hfs in omega arith

-- ---- entry points

lateness_exact : ExactPhrase IsLateness lateness_at 0
unfolding lateness_at closed after
lateness_exact = record { sound = sound; again = again; shorter = shorter }
  where
    sound : (ts : List TokenKind) → Found IsLateness ts (lateness_at ts)
    sound (Mark At ∷ Word w ∷ Mark OpenParenthesis ∷ ts) = guarded IsLateness _ (bytes_eq w (codes "lateness")) _ (λ e. rw (same_bytes w (codes "lateness") e) (
        then IsSpan ts (span_at ts) _ IsLateness _ (span_exact.sound ts) (λ ms hms. closed_then p.CloseParenthesis IsSpan ms.0 ts ms.0 ms.1 IsLateness _ hms (λ rest hr. g.lateness hr))))
    sound ts = tt

    again : (x : ℤ) (ts rest : List TokenKind) → IsLateness x ts rest → 0 ≤ phrase_binds rest → lateness_at ts ≡ Some (x, rest)
    again x ts rest (g.lateness {ts = inside} h) stop = rw (span_exact.again x inside (Mark CloseParenthesis ∷ rest) h (omega arith)) refl

    shorter : (x : ℤ) (ts rest : List TokenKind) → IsLateness x ts rest → length rest < length ts
    shorter x ts rest (g.lateness {ts = inside} h) = let less = span_exact.shorter x inside (Mark CloseParenthesis ∷ rest) h in omega arith

no_lateness : (rest : List TokenKind) → lateness_at (Word (codes "end") ∷ rest) ≡ None
unfolding lateness_at
no_lateness rest = refl

abbrev IsPoint : List ℕ × Option ℤ → List TokenKind → List TokenKind → Type 0
IsPoint x ts rest = IsEntry x (Word (codes "entry") ∷ Mark Minus ∷ Word (codes "point") ∷ ts) rest

point_sound : (ts : List TokenKind) → Found IsPoint ts (behind_point ts)
unfolding behind_point
point_sound ts = then IsName ts (name_at ts) _ IsPoint ts (name_exact.sound ts) (λ s hs.
    then (Maybe IsLateness) s.1 (maybe_at lateness_at s.1) _ IsPoint ts (maybe_sound lateness_exact s.1) (λ late hlate.
    ended_then (codes "end") (Maybe IsLateness) late.0 s.1 (s.0, late.0) late.1 IsPoint ts hlate (λ rest hr. g.entry hs hr)))

point_again : (s : List ℕ) (late : Option ℤ) (ts middle rest : List TokenKind) → IsName s ts middle → Maybe IsLateness late middle (Word (codes "end") ∷ rest) → behind_point ts ≡ Some ((s, late), rest)
unfolding behind_point
point_again s late ts middle rest hs hlate =
    rw (name_exact.again s ts middle hs (omega arith), maybe_again lateness_exact late middle (Word (codes "end") ∷ rest) hlate (no_lateness rest) (omega arith)) (ended_is (codes "end") (s, late) rest)

pub entry_exact : ExactPhrase IsEntry entry_at 0
unfolding entry_at
entry_exact = record { sound = sound; again = again; shorter = shorter }
  where
    point_found : (ts : List TokenKind) (o : _) → Found IsPoint ts o → Found IsEntry (Word (codes "entry") ∷ Mark Minus ∷ Word (codes "point") ∷ ts) o
    point_found ts None h = tt
    point_found ts (Some x) h = h

    sound : (ts : List TokenKind) → Found IsEntry ts (entry_at ts)
    sound (Word w ∷ Mark Minus ∷ Word v ∷ ts) = guarded IsEntry _ (bytes_eq w (codes "entry")) _ (λ e. guarded IsEntry _ (bytes_eq v (codes "point")) _ (λ o.
        rw (same_bytes w (codes "entry") e, same_bytes v (codes "point") o) (point_found ts (behind_point ts) (point_sound ts))))
    sound ts = tt

    again : (x : List ℕ × Option ℤ) (ts rest : List TokenKind) → IsEntry x ts rest → 0 ≤ phrase_binds rest → entry_at ts ≡ Some (x, rest)
    again x ts rest (g.entry {s} {late} {ts = behind} {middle} hs hlate) stop = point_again s late behind middle rest hs hlate

    shorter : (x : List ℕ × Option ℤ) (ts rest : List TokenKind) → IsEntry x ts rest → length rest < length ts
    shorter x ts rest (g.entry {s} {late} {ts = behind} {middle} hs hlate) =
        let first = name_exact.shorter s behind middle hs in let others = maybe_shorter lateness_exact late middle (Word (codes "end") ∷ rest) hlate in omega arith
