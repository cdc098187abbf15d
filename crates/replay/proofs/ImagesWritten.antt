-- What is written of an image, by what was said.
use Rattle.replay.proofs.Common.{◌≡◌, ◌≢◌, ◌⊎◌, inl, inr, ◌<◌, ◌≤◌, ℕ, Bool, true, false, List, length, nat_lt, Option, refl, sym, ap, subst, ◌∙◌, arith}
use Rattle.replay.proofs.Common.{if◌then◌else◌, append, AppendsFront, Image, image_bytes, Script, CheckpointCode, TooLong, Unfit, Says, can_go_on}
use Rattle.replay.proofs.{Common.{checkpoint_text, image_limit, Report, Reports, checkpoint_report, image_report, run_status}, ImagesRead.{is_long, is_short}}

-- the report of an image, by its two tests
by_tests : (image : Image) (long goes : Bool) → nat_lt image_limit (length (image_bytes image)) ≡ long → can_go_on image ≡ goes
    → image_report image ≡ (if long then checkpoint_report TooLong else (if goes then record { bytes = image_bytes image; status = run_status (Script image.run.faulty) } else checkpoint_report Unfit))
by_tests image long goes e f = rw (e, f) refl

pub long_report : (image : Image) (bytes : List ℕ) → bytes ≡ image_bytes image → 1073741824 < length bytes → image_report image ≡ checkpoint_report TooLong
long_report image bytes is more = by_tests image true (can_go_on image) (ap (λ (b : List ℕ). nat_lt image_limit (length b)) (sym is) ∙ is_long (length bytes) more) refl

pub stuck_report : (image : Image) (bytes : List ℕ) → bytes ≡ image_bytes image → length bytes ≤ 1073741824 → can_go_on image ≡ false → image_report image ≡ checkpoint_report Unfit
stuck_report image bytes is most stuck = by_tests image false false (ap (λ (b : List ℕ). nat_lt image_limit (length b)) (sym is) ∙ is_short (length bytes) most) stuck

pub whole_report : (image : Image) (bytes : List ℕ) → bytes ≡ image_bytes image → length bytes ≤ 1073741824 → can_go_on image ≡ true
    → image_report image ≡ record { bytes = bytes; status = run_status (Script image.run.faulty) }
whole_report image bytes is most goes =
    by_tests image false true (ap (λ (b : List ℕ). nat_lt image_limit (length b)) (sym is) ∙ is_short (length bytes) most) goes ∙ ap made (sym is)
  where
    made : List ℕ → Report
    made b = record { bytes = b; status = run_status (Script image.run.faulty) }

-- a refusal was said
pub refusal_says : (before after : Option (List ℕ)) (s : ℕ) (code : CheckpointCode) → (s ≡ 9 → after ≡ append before (checkpoint_text code)) → (5 ≤ s → AppendsFront before after (checkpoint_text code))
    → (s ≡ 9) ⊎ ((6 ≤ s) × (s ≤ 7)) → Says before after s (checkpoint_report code)
refusal_says before after s code said front answers = (so, front)
  where
    not_low : (s ≡ 9) ⊎ ((6 ≤ s) × (s ≤ 7)) → s ≤ 4 → ⊥
    not_low (inl nine) low = omega (arith, nine, low)
    not_low (inr both) low = omega (arith, both.0, low)

    so : (s ≤ 4) ⊎ (s ≡ 9) → Reports before after s (checkpoint_report code)
    so (inl low) = absurd (not_low answers low)
    so (inr nine) = (said nine, nine)

-- the status of a run that came to its end
pub faulty_status : (f : Bool → ℕ) → f false ≡ 0 → f true ≡ 1 → (faulty : Bool) → f faulty ≡ run_status (Script faulty)
faulty_status f none one false = none
faulty_status f none one true = one

ends_low : (faulty : Bool) → run_status (Script faulty) ≤ 1
ends_low false = omega arith
ends_low true = omega arith

-- the bytes of an image were said
pub whole_says : (before after : Option (List ℕ)) (s : ℕ) (bytes : List ℕ) (faulty : Bool) (status : ℕ) → status ≡ run_status (Script faulty)
    → (s ≤ 4 → (after ≡ append before bytes) × (s ≡ status)) → (5 ≤ s → AppendsFront before after bytes) → (s ≡ status) ⊎ (s ≡ 6)
    → Says before after s (record { bytes = bytes; status = run_status (Script faulty) })
whole_says before after s bytes faulty status is said front answers = (so, front)
  where
    low : status ≤ 1
    low = subst (λ (n : ℕ). n ≤ 1) (sym is) (ends_low faulty)

    not_nine : (s ≡ status) ⊎ (s ≡ 6) → s ≢ 9
    not_nine (inl e) nine = omega (arith, e, nine, low)
    not_nine (inr six) nine = omega (arith, six, nine)

    so : (s ≤ 4) ⊎ (s ≡ 9) → Reports before after s (record { bytes = bytes; status = run_status (Script faulty) })
    so (inl few) = let h = said few in (h.0, h.1 ∙ is)
    so (inr nine) = absurd (not_nine answers nine)
