-- A cue is taken exactly where it is sound and there is room for it.
use Rattle.std.proofs.Common.{◌≡◌, ℕ, ◌^◌, ◌<◌, cond, ◌&&◌, ltb, leb, List, length, Some, None, Ok, Err, Option, refl, ◌∙◌, arith}
use Rattle.std.proofs.lemmas.Bool.{cond-true, cond_both, and_parts, and_from, leb-true, ltb-true, le-leb, lt-ltb}
use Rattle.cues.specs.declared.refusal.CueRefusal.{CueRefusal}
use Rattle.cues.specs.declared.refusal.CueRefusal.TheVariants.{Budget, Deadline}
use Rattle.cues.specs.Cues.{cue_refusal}
use Rattle.faults.specs.declared.CueFault.TheVariants.{Refused}
use Rattle.faults.specs.declared.SheetFault.{SheetFault}
use Rattle.faults.specs.declared.SheetFault.TheVariants.{BadCue, TooManyCues}
use Rattle.sheet.specs.Reading.{Entry, Contents, Reading, cue_taken}
use Rattle.sheet.specs.SheetWords.{SoundCue}

-- A fault is no contents.
pub fault_is_no_sheet : (f : SheetFault) (c : Contents) → ◌≡◌ {A = Reading} (Err f) (Ok c) → ⊥
fault_is_no_sheet f c h = let z : ◌≡◌ {A = ℕ} 0 1 = cc in omega arith

some_is_not_none : (r : CueRefusal) → ◌≡◌ {A = Option CueRefusal} (Some r) None → ⊥
some_is_not_none r h = let z : ◌≡◌ {A = ℕ} 0 1 = cc in omega arith

pub sound_where_taken : (e : Entry) → e.actual < 2 ^ 28 → cue_refusal e.release e.deadline e.budget ≡ None → SoundCue e
sound_where_taken e fits =
    cond_both (leb 1 e.budget && leb e.budget 65535) (cond (ltb e.release e.deadline && leb e.deadline 134217727) None (Some (Deadline e.deadline))) (Some (Budget e.budget)) (λ o. o ≡ None → SoundCue e)
    (λ work.
    cond_both (ltb e.release e.deadline && leb e.deadline 134217727) None (Some (Deadline e.deadline)) (λ o. o ≡ None → SoundCue e)
    (λ time _. record {
      some_work = leb-true _ _ (and_parts _ _ work).0;
      little_work = leb-true _ _ (and_parts _ _ work).1;
      rising = ltb-true _ _ (and_parts _ _ time).0;
      in_time = leb-true _ _ (and_parts _ _ time).1;
      fits = fits;
    })
    (λ _ h. absurd (some_is_not_none _ h)))
    (λ _ h. absurd (some_is_not_none _ h))

pub taken_where_sound : (e : Entry) → SoundCue e → cue_refusal e.release e.deadline e.budget ≡ None
taken_where_sound e s =
    cond-true _ _ _ (and_from _ _ (le-leb 1 e.budget s.some_work) (le-leb e.budget 65535 s.little_work))
    ∙ cond-true _ _ _ (and_from _ _ (lt-ltb e.release e.deadline s.rising) (le-leb e.deadline 134217727 s.in_time))

-- What is read behind a cue is read where the cue is taken.
pub taken_back : (first : ℕ) (before : List Entry) (e : Entry) (taken : Reading) → SoundCue e → length before < 1024 → cue_taken first before e taken ≡ taken
taken_back first before e taken s room = rw (taken_where_sound e s, cue_taken) (cond-true _ _ _ (lt-ltb (length before) 1024 room))

-- And where something is read behind it, it was taken.
pub record Taken (before : List Entry) (e : Entry) (taken : Reading) (c : Contents) : Type 0 where
  pub sound : SoundCue e
  pub room : length before < 1024
  pub behind : taken ≡ Ok c

pub taken_where_read : (first : ℕ) (before : List Entry) (e : Entry) (taken : Reading) (c : Contents) → e.actual < 2 ^ 28 → cue_taken first before e taken ≡ Ok c → Taken before e taken c
taken_where_read first before e taken c fits = by-refusal (cue_refusal e.release e.deadline e.budget) refl
  where
    by-refusal : (o : Option CueRefusal) → cue_refusal e.release e.deadline e.budget ≡ o → ◌≡◌ {A = Reading} (elim o [ Some refusal ↦ Err (BadCue first (Refused refusal)) | None ↦ cond (ltb (length before) 1024) taken (Err (TooManyCues first)) ]) (Ok c) → Taken before e taken c
    by-refusal (Some refusal) is = λ h. absurd (fault_is_no_sheet _ c h)
    by-refusal None is =
        cond_both (ltb (length before) 1024) taken (Err (TooManyCues first)) (λ r. r ≡ Ok c → Taken before e taken c)
        (λ room h. record { sound = sound_where_taken e fits is; room = ltb-true _ _ room; behind = h })
        (λ _ h. absurd (fault_is_no_sheet _ c h))
