-- The words of a sound sheet are read as that sheet.
use Rattle.std.proofs.Common.{◌≡◌, ℕ, ◌+◌, ◌-◌, true, ◌^◌, ◌<◌, ◌≤◌, false, List, [], ◌∷◌, ◌++◌, length, Some, None, Ok, Option, sym, refl, ap, ◌∙◌, subst, append_assoc, append-nil, arith, length-append}
use Rattle.std.proofs.ByRecursion.{All-from_get_or}
use Rattle.std.proofs.lemmas.Bool.{cond-true, eq-eqb}
use Rattle.std.specs.List.{AllByRecursion}
use Rattle.rates.specs.declared.refusal.TableRefusal.{TableRefusal}
use Rattle.rates.specs.Judged.{judged, Verdict}
use Rattle.rates.specs.Lawful.{Lawful}
use Rattle.rates.proofs.Tables.{verdict}
use Rattle.words.specs.declared.Kind.TheVariants.{Release, Deadline, Budget, Spent, Rate, End}
use Rattle.words.specs.Words.{is, begins, payload, word}
use Rattle.words.proofs.WordParts.{is_word, payload-word}
use Rattle.heading.specs.Heading.{Front, WordsOf}
use Rattle.heading.proofs.Fronts.{head-of_words}
use Rattle.sheet.specs.Reading.{Entry, Contents, none, cues_from, table_judged, behind_head, reading, cue_taken}
use Rattle.sheet.specs.Parts.{after_words}
use Rattle.sheet.specs.SheetWords.{SoundCue, Sound, cue_words, words_behind_table, sheet_words}
use Rattle.sheet.proofs.CueBounds.{taken_back}

end_back : (place : ℕ) (rates : List ℕ) (before : List Entry) → length before ≤ 1024 → cues_from place rates before none (word End (length before) ∷ []) ≡ Ok (record { rates = rates; entries = before })
end_back place rates before few =
    let fits : length before < 2 ^ 28 = omega arith in
    cond-true _ _ _ (is_word End End (length before) fits) ∙ cond-true _ _ _ (eq-eqb _ _ (payload-word End (length before) fits))

-- A sound cue's four numbers fit their words, so that they are what is read.
same_entry : (e : Entry) → SoundCue e → ◌≡◌ {A = Entry} (record { release = payload (word Release e.release); deadline = payload (word Deadline e.deadline); budget = payload (word Budget e.budget); actual = payload (word Spent e.actual) }) e
same_entry e s =
    let r = payload-word Release e.release (omega arith) in
    let d = payload-word Deadline e.deadline (omega arith) in
    let b = payload-word Budget e.budget (omega arith) in
    let a = payload-word Spent e.actual s.fits in
    rw (r, d, b, a)

-- Four words of the right kinds are the numbers of a cue.
four_read : (place : ℕ) (rates : List ℕ) (before : List Entry) (a b c f : ℕ) (ws : List ℕ) → is End a ≡ false → is Release a ≡ true → is Deadline b ≡ true → is Budget c ≡ true → is Spent f ≡ true → cues_from place rates before none (a ∷ (b ∷ (c ∷ (f ∷ ws)))) ≡ after_words place rates before (a ∷ (b ∷ (c ∷ (f ∷ ws)))) (Ok (payload a, payload b, payload c, payload f))
four_read place rates before a b c f ws e r d u s =
    let first : place + 1 + 1 + 1 - 3 ≡ place = omega arith in
    let next : place + 1 + 1 + 1 + 1 ≡ place + 4 = omega arith in
    rw (e, r) (rw d (rw u (rw (s, first, next))))

cue_back : (place : ℕ) (rates : List ℕ) (before : List Entry) (e : Entry) (left : List ℕ) → SoundCue e → length before < 1024 → cues_from place rates before none (cue_words (e ∷ []) ++ left) ≡ cues_from (place + 4) rates (before ++ (e ∷ [])) none left
cue_back place rates before e left s room =
    four_read place rates before (word Release e.release) (word Deadline e.deadline) (word Budget e.budget) (word Spent e.actual) left
    (is_word End Release e.release (omega arith))
    (is_word Release Release e.release (omega arith))
    (is_word Deadline Deadline e.deadline (omega arith))
    (is_word Budget Budget e.budget (omega arith))
    (is_word Spent Spent e.actual s.fits)
    ∙ ap (λ x. cue_taken place before x (cues_from (place + 4) rates (before ++ (x ∷ [])) none left)) (same_entry e s)
    ∙ taken_back place before e _ s room

cues_back : (place : ℕ) (rates : List ℕ) (before entries : List Entry) → AllByRecursion SoundCue entries → length (before ++ entries) ≤ 1024 → cues_from place rates before none (cue_words entries ++ (word End (length (before ++ entries)) ∷ [])) ≡ Ok (record { rates = rates; entries = before ++ entries })
cues_back place rates before [] sound few =
    subst (λ all. cues_from place rates before none (word End (length all) ∷ []) ≡ Ok (record { rates = rates; entries = all })) (sym (append-nil before))
    (end_back place rates before (omega (arith, length-append before [])))
cues_back place rates before (e ∷ es) (s, sound) few =
    let joined : (before ++ (e ∷ [])) ++ es ≡ before ++ (e ∷ es) = append_assoc before (e ∷ []) es in
    cue_back place rates before e (cue_words es ++ (word End (length (before ++ (e ∷ es))) ∷ [])) s (omega (arith, length-append before (e ∷ es)))
    ∙ subst (λ all. cues_from (place + 4) rates (before ++ (e ∷ [])) none (cue_words es ++ (word End (length all) ∷ [])) ≡ Ok (record { rates = rates; entries = all })) joined
    (cues_back (place + 4) rates (before ++ (e ∷ [])) es sound (subst (λ all. length all ≤ 1024) (sym joined) few))

not-refused_when_lawful : (rates : List ℕ) → Lawful rates → judged rates ≡ None
not-refused_when_lawful rates lawful = by-verdict (judged rates) refl (verdict rates)
  where
    by-verdict : (o : Option TableRefusal) → judged rates ≡ o → Verdict rates o → judged rates ≡ None
    by-verdict None is right = is
    by-verdict (Some refusal) is wrong = absurd (wrong.1 lawful)

rates_fit_words : (rates : List ℕ) → Lawful rates → AllByRecursion (λ rate. rate < 2 ^ 28) rates
rates_fit_words rates lawful = All-from_get_or (λ rate. rate < 2 ^ 28) rates 0 (λ k within. omega (arith, lawful.limited k within))

-- The cues behind the table, or the end, begin with a word that is no rate.
no_rate_next : (entries : List Entry) → AllByRecursion SoundCue entries → begins Rate (cue_words entries ++ (word End (length entries) ∷ [])) ≡ false
no_rate_next [] sound = is_word Rate End 0 (omega arith)
no_rate_next (e ∷ es) (s, sound) = is_word Rate Release e.release (omega arith)

judged-back : (place : ℕ) (rates : List ℕ) (entries : List Entry) → Sound (record { rates = rates; entries = entries }) → table_judged place rates (cue_words entries ++ (word End (length entries) ∷ [])) ≡ Ok (record { rates = rates; entries = entries })
judged-back place rates [] sound =
    rw (not-refused_when_lawful rates sound.table, table_judged) (cues_back place rates [] [] sound.cues sound.few)
judged-back place rates (e ∷ es) sound =
    rw (not-refused_when_lawful rates sound.table, table_judged) (cues_back place rates [] (e ∷ es) sound.cues sound.few)

-- What a sound sheet writes is read as that sheet.
pub read_where_written : (words : List ℕ) (c : Contents) → words ≡ sheet_words c → Sound c → reading words ≡ Ok c
read_where_written words c same sound =
    let front : Front = record { rates = c.rates; rest = words_behind_table c } in
    let written : WordsOf words front =
    record {
      same_words = same;
      rates_fit = rates_fit_words c.rates sound.table;
      no_more = no_rate_next c.entries sound.cues;
    } in
    ap behind_head (head-of_words words front written) ∙ judged-back (1 + length c.rates) c.rates c.entries sound
