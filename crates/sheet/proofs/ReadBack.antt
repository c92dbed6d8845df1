-- Words that are read are the words of what is read, and that is sound.
use Rattle.std.proofs.Common.{◌≡◌, ℕ, ◌+◌, ◌-◌, ◌<◌, ◌≤◌, true, eqb, List, [], ◌∷◌, ◌++◌, map, length, Some, None, Ok, Err, Option, Result, sym, refl, ap, ◌∙◌, subst, mod-lt, arith, length-append}
use Rattle.std.proofs.ByRecursion.{All-push}
use Rattle.std.proofs.lemmas.Bool.{cond_both, eqb-true}
use Rattle.std.specs.List.{AllByRecursion}
use Rattle.rates.specs.declared.refusal.TableRefusal.{TableRefusal}
use Rattle.rates.specs.Judged.{judged}
use Rattle.rates.specs.Lawful.{Lawful}
use Rattle.rates.proofs.Tables.{lawful_when_not_refused}
use Rattle.words.specs.declared.Kind.TheVariants.{Edition, Release, Deadline, Budget, Spent, Rate, End}
use Rattle.words.specs.Words.{is, payload, word}
use Rattle.words.proofs.WordParts.{word-of_kind}
use Rattle.words.specs.declared.fault.WordFault.{WordFault}
use Rattle.words.specs.declared.fault.WordFault.TheVariants.{Misplaced}
use Rattle.heading.specs.Heading.{Front, head}
use Rattle.heading.proofs.Fronts.{words_of_head}
use Rattle.faults.specs.declared.SheetFault.TheVariants.{BadWord as sheet_word, BadTable}
use Rattle.sheet.specs.Reading.{Entry, Contents, Reading, Part, none, released, due, budgeted, ended, cues_from, table_judged, behind_head, reading}
use Rattle.sheet.specs.SheetWords.{SoundCue, Sound, cue_words, words_behind_table, sheet_words}
use Rattle.sheet.proofs.CueBounds.{fault_is_no_sheet, taken_where_read}

-- The cues before and the words that are left make up all the cues and the end.
pub record CuesRead (rates : List ℕ) (before : List Entry) (left : List ℕ) (c : Contents) : Type 0 where
  pub same_rates : c.rates ≡ rates
  pub same_words : cue_words before ++ left ≡ words_behind_table c
  pub sound : AllByRecursion SoundCue before → AllByRecursion SoundCue c.entries
  pub few : length before ≤ 1024 → length c.entries ≤ 1024

-- The words of a cue that were read already, in front of those that are left.
abbrev pub with_part : Part → List ℕ → List ℕ
with_part none ws = ws
with_part (released r) ws = word Release r ∷ ws
with_part (due r d) ws = word Release r ∷ (word Deadline d ∷ ws)
with_part (budgeted r d b) ws = word Release r ∷ (word Deadline d ∷ (word Budget b ∷ ws))

same_contents : (a b : Contents) → ◌≡◌ {A = Reading} (Ok a) (Ok b) → a ≡ b
same_contents a b h = cc

-- The end word counts the cues before it, and nothing follows.
end_read : (place : ℕ) (rates : List ℕ) (before : List Entry) (w : ℕ) (ws : List ℕ) (c : Contents) → is End w ≡ true → ended place (record { rates = rates; entries = before }) w ws ≡ Ok c → CuesRead rates before (w ∷ ws) c
end_read place rates before w [] c end =
    let held : Contents = record { rates = rates; entries = before } in
    cond_both (eqb (payload w) (length before)) (Ok held) (Err (sheet_word place Misplaced)) (λ r. r ≡ Ok c → CuesRead rates before (w ∷ []) c)
    (λ counted h. subst (λ d. CuesRead rates before (w ∷ []) d) (same_contents held c h)
    (record {
      same_rates = refl;
      same_words = ap (λ v. cue_words before ++ (v ∷ [])) (word-of_kind End w end ∙ ap (word End) (eqb-true _ _ counted));
      sound = λ s. s;
      few = λ s. s;
    }))
    (λ _ h. absurd (fault_is_no_sheet _ c h))
end_read place rates before w (v ∷ vs) c end =
    cond_both (eqb (payload w) (length before)) (Err (sheet_word (place + 1) Misplaced)) (Err (sheet_word place Misplaced)) (λ r. r ≡ Ok c → CuesRead rates before (w ∷ (v ∷ vs)) c)
    (λ _ h. absurd (fault_is_no_sheet _ c h))
    (λ _ h. absurd (fault_is_no_sheet _ c h))

cue_words_push : (before : List Entry) (e : Entry) (left : List ℕ) → cue_words (before ++ (e ∷ [])) ++ left ≡ cue_words before ++ (cue_words (e ∷ []) ++ left)
cue_words_push [] e left = refl
cue_words_push (b ∷ before) e left =
    ap (λ ws. word Release b.release ∷ (word Deadline b.deadline ∷ (word Budget b.budget ∷ (word Spent b.actual ∷ ws)))) (cue_words_push before e left)

-- One more cue before is one cue less that is left.
cue_before : (rates : List ℕ) (before : List Entry) (e : Entry) (left : List ℕ) (c : Contents) → SoundCue e → length before < 1024 → CuesRead rates (before ++ (e ∷ [])) left c → CuesRead rates before (cue_words (e ∷ []) ++ left) c
cue_before rates before e left c sound room r =
    record {
      same_rates = r.same_rates;
      same_words = sym (cue_words_push before e left) ∙ r.same_words;
      sound = λ s. r.sound (All-push SoundCue before e s sound);
      few = λ _. r.few (omega (arith, length-append before (e ∷ [])));
    }

pub cues_read : (place : ℕ) (rates : List ℕ) (before : List Entry) (part : Part) (ws : List ℕ) (c : Contents) → cues_from place rates before part ws ≡ Ok c → CuesRead rates before (with_part part ws) c
cues_read place rates before part [] c = λ h. absurd (fault_is_no_sheet _ c h)
cues_read place rates before none (w ∷ ws) c =
    cond_both (is End w) _ _ (λ r. r ≡ Ok c → CuesRead rates before (w ∷ ws) c)
    (λ end. end_read place rates before w ws c end)
    (λ _. cond_both (is Release w) _ _ (λ r. r ≡ Ok c → CuesRead rates before (w ∷ ws) c)
    (λ kind h. subst (λ v. CuesRead rates before (v ∷ ws) c) (sym (word-of_kind Release w kind)) (cues_read (place + 1) rates before (released (payload w)) ws c h))
    (λ _ h. absurd (fault_is_no_sheet _ c h)))
cues_read place rates before (released r) (w ∷ ws) c =
    cond_both (is Deadline w) _ _ (λ x. x ≡ Ok c → CuesRead rates before (word Release r ∷ (w ∷ ws)) c)
    (λ kind h. subst (λ v. CuesRead rates before (word Release r ∷ (v ∷ ws)) c) (sym (word-of_kind Deadline w kind)) (cues_read (place + 1) rates before (due r (payload w)) ws c h))
    (λ _ h. absurd (fault_is_no_sheet _ c h))
cues_read place rates before (due r d) (w ∷ ws) c =
    cond_both (is Budget w) _ _ (λ x. x ≡ Ok c → CuesRead rates before (word Release r ∷ (word Deadline d ∷ (w ∷ ws))) c)
    (λ kind h. subst (λ v. CuesRead rates before (word Release r ∷ (word Deadline d ∷ (v ∷ ws))) c) (sym (word-of_kind Budget w kind)) (cues_read (place + 1) rates before (budgeted r d (payload w)) ws c h))
    (λ _ h. absurd (fault_is_no_sheet _ c h))
cues_read place rates before (budgeted r d b) (w ∷ ws) c =
    let e : Entry = record { release = r; deadline = d; budget = b; actual = payload w } in
    cond_both (is Spent w) _ _ (λ x. x ≡ Ok c → CuesRead rates before (word Release r ∷ (word Deadline d ∷ (word Budget b ∷ (w ∷ ws)))) c)
    (λ kind h.
    let taken = taken_where_read (place - 3) before e _ c (mod-lt w (omega arith)) h in
    subst (λ v. CuesRead rates before (word Release r ∷ (word Deadline d ∷ (word Budget b ∷ (v ∷ ws)))) c) (sym (word-of_kind Spent w kind))
    (cue_before rates before e ws c taken.sound taken.room (cues_read (place + 1) rates (before ++ (e ∷ [])) none ws c taken.behind)))
    (λ _ h. absurd (fault_is_no_sheet _ c h))

-- The rates and the words that are left make up the rates, the cues and the end of a sound sheet.
record TableRead (rates left : List ℕ) (c : Contents) : Type 0 where
  same_words : map (word Rate) rates ++ left ≡ map (word Rate) c.rates ++ words_behind_table c
  sound : Sound c

-- The table that the rates make is lawful, and the cues follow it.
table_then_cues : (place : ℕ) (rates ws : List ℕ) (c : Contents) → table_judged place rates ws ≡ Ok c → TableRead rates ws c
table_then_cues place rates [] c = λ h. absurd (fault_is_no_sheet _ c h)
table_then_cues place rates (w ∷ ws) c = by-verdict (judged rates) refl
  where
    by-verdict : (o : Option TableRefusal) → judged rates ≡ o → ◌≡◌ {A = Reading} (elim o [ Some refusal ↦ Err (BadTable refusal) | None ↦ cues_from place rates [] none (w ∷ ws) ]) (Ok c) → TableRead rates (w ∷ ws) c
    by-verdict (Some refusal) is = λ h. absurd (fault_is_no_sheet _ c h)
    by-verdict None is = λ h.
        let r : CuesRead rates [] (w ∷ ws) c = cues_read place rates [] none (w ∷ ws) c h in
        record {
          same_words = ap (λ rs. map (word Rate) rs ++ (w ∷ ws)) (sym r.same_rates) ∙ ap (λ ws. map (word Rate) c.rates ++ ws) r.same_words;
          sound =
              record {
                table = subst Lawful (sym r.same_rates) (lawful_when_not_refused rates is);
                cues = r.sound tt;
                few = r.few (omega arith);
              };
        }

-- What is read was written.
pub written_where_read : (words : List ℕ) (c : Contents) → reading words ≡ Ok c → (words ≡ sheet_words c) × Sound c
written_where_read words c = by-head (head words) refl
  where
    by-head : (r : Result Front WordFault) → head words ≡ r → behind_head r ≡ Ok c → (words ≡ sheet_words c) × Sound c
    by-head (Ok front) same = λ h.
        let r = table_then_cues (1 + length front.rates) front.rates front.rest c h in
        ((words_of_head words front same).same_words ∙ ap (λ ws. word Edition 1 ∷ ws) r.same_words, r.sound)
    by-head (Err fault) same = λ h. absurd (fault_is_no_sheet _ c h)
