-- The words of a script are read as that script.
use Rattle.std.proofs.Common.{◌≡◌, ℕ, ◌+◌, ◌^◌, ◌<◌, ◌≤◌, false, List, [], ◌∷◌, ◌++◌, length, replicate, None, Ok, sym, refl, ap, ◌∙◌, subst, append_assoc, arith}
use Rattle.std.proofs.lemmas.List.{append-nil}
use Rattle.std.proofs.lemmas.Bool.{cond-true, cond-false, eq-eqb, le-leb}
use Rattle.std.specs.List.{AllByRecursion}
use Rattle.words.specs.declared.Kind.TheVariants.{Deadline, Budget, Spent, Rate, End}
use Rattle.words.specs.Words.{begins, payload, word}
use Rattle.words.proofs.WordParts.{is_word, payload-word}
use Rattle.heading.specs.Heading.{Front, WordsOf as head_words}
use Rattle.heading.proofs.Fronts.{head-of_words}
use Rattle.calls.specs.declared.call.Call.{Call}
use Rattle.calls.specs.declared.call.Call.TheVariants.{Release, Tick}
use Rattle.script.specs.Reading.{Contents, tape_from, calls_from, behind_head, reading}
use Rattle.script.specs.ScriptWords.{Item, a_release, some_ticks, item_calls, ticks_in, FitsWords, words_behind_rates, WordsOf}

tape_back : (place : ℕ) (rates : List ℕ) (calls : List Call) (tape : List ℕ) → tape_from place (length tape) rates calls tape ≡ Ok (record { rates = rates; calls = calls; tape = tape })
tape_back place rates calls tape = rw (eq-eqb (length tape) (length tape) refl)

end_back : (place : ℕ) (rates : List ℕ) (before : List Call) (ticks : ℕ) (tape : List ℕ) → length tape < 2 ^ 28 → calls_from place rates before ticks None (word End (length tape) ∷ tape) ≡ Ok (record { rates = rates; calls = before; tape = tape })
end_back place rates before ticks tape fits =
    cond-true _ _ _ (is_word End End (length tape) fits)
    ∙ ap (λ count. tape_from (place + 1) count rates before tape) (payload-word End (length tape) fits)
    ∙ tape_back (place + 1) rates before tape

release_back : (place : ℕ) (rates : List ℕ) (before : List Call) (ticks deadline budget : ℕ) (left : List ℕ) → deadline < 2 ^ 28 → budget < 2 ^ 28 → calls_from place rates before ticks None (word Deadline deadline ∷ (word Budget budget ∷ left)) ≡ calls_from (place + 1 + 1) rates (before ++ (Release deadline budget ∷ [])) ticks None left
release_back place rates before ticks deadline budget left d-fits b-fits =
    cond-false _ _ _ (is_word End Deadline deadline d-fits)
    ∙ cond-false _ _ _ (is_word Spent Deadline deadline d-fits)
    ∙ cond-true _ _ _ (is_word Deadline Deadline deadline d-fits)
    ∙ cond-true _ _ _ (is_word Budget Budget budget b-fits)
    ∙ ap (λ d. calls_from (place + 1 + 1) rates (before ++ (Release d (payload (word Budget budget)) ∷ [])) ticks None left) (payload-word Deadline deadline d-fits)
    ∙ ap (λ b. calls_from (place + 1 + 1) rates (before ++ (Release deadline b ∷ [])) ticks None left) (payload-word Budget budget b-fits)

ticks-back : (place : ℕ) (rates : List ℕ) (before : List Call) (ticks count : ℕ) (left : List ℕ) → count < 2 ^ 28 → ticks + count ≤ 1000000 → calls_from place rates before ticks None (word Spent count ∷ left) ≡ calls_from (place + 1) rates (before ++ replicate count Tick) (ticks + count) None left
ticks-back place rates before ticks count left fits few =
    let same = payload-word Spent count fits in
    cond-false _ _ _ (is_word End Spent count fits)
    ∙ cond-true _ _ _ (is_word Spent Spent count fits)
    ∙ cond-true _ _ _ (le-leb _ _ (subst (λ n. ticks + n ≤ 1000000) (sym same) few))
    ∙ ap (λ n. calls_from (place + 1) rates (before ++ replicate n Tick) (ticks + n) None left) same

calls_back : (place : ℕ) (rates : List ℕ) (before : List Call) (ticks : ℕ) (items : List Item) (tape : List ℕ) → AllByRecursion FitsWords items → length tape < 2 ^ 28 → ticks + ticks_in items ≤ 1000000 → calls_from place rates before ticks None (words_behind_rates items tape) ≡ Ok (record { rates = rates; calls = before ++ item_calls items; tape = tape })
calls_back place rates before ticks [] tape fit tape_fits few =
    end_back place rates before ticks tape tape_fits ∙ ap (λ calls. Ok (record { rates = rates; calls = calls; tape = tape })) (sym (append-nil before))
calls_back place rates before ticks (a_release deadline budget ∷ items) tape ((d-fits, b-fits), fit) tape_fits few =
    release_back place rates before ticks deadline budget (words_behind_rates items tape) d-fits b-fits
    ∙ calls_back (place + 1 + 1) rates (before ++ (Release deadline budget ∷ [])) ticks items tape fit tape_fits few
    ∙ ap (λ calls. Ok (record { rates = rates; calls = calls; tape = tape })) (append_assoc before (Release deadline budget ∷ []) (item_calls items))
calls_back place rates before ticks (some_ticks count ∷ items) tape (fits, fit) tape_fits few =
    ticks-back place rates before ticks count (words_behind_rates items tape) fits (omega arith)
    ∙ calls_back (place + 1) rates (before ++ replicate count Tick) (ticks + count) items tape fit tape_fits (omega arith)
    ∙ ap (λ calls. Ok (record { rates = rates; calls = calls; tape = tape })) (append_assoc before (replicate count Tick) (item_calls items))

-- The items, or the end, begin with a word that is no rate.
no_rate_next : (items : List Item) (tape : List ℕ) → AllByRecursion FitsWords items → length tape < 2 ^ 28 → begins Rate (words_behind_rates items tape) ≡ false
no_rate_next [] tape fit t-fits = is_word Rate End (length tape) t-fits
no_rate_next (a_release deadline budget ∷ items) tape ((d-fits, b-fits), fit) t-fits = is_word Rate Deadline deadline d-fits
no_rate_next (some_ticks count ∷ items) tape (fits, fit) t-fits = is_word Rate Spent count fits

-- What a script writes is read as that script.
pub read_where_written : (words : List ℕ) (c : Contents) → WordsOf words c → reading words ≡ Ok c
read_where_written words c w =
    let front : Front = record { rates = c.rates; rest = words_behind_rates w.items c.tape } in
    let written : head_words words front =
    record {
      same_words = w.same_words;
      rates_fit = w.rates_fit;
      no_more = no_rate_next w.items c.tape w.items_fit w.tape_fits;
    } in
    ap behind_head (head-of_words words front written)
    ∙ calls_back (1 + length c.rates) c.rates [] 0 w.items c.tape w.items_fit w.tape_fits (omega (arith, w.few_ticks))
    ∙ ap (λ calls. Ok (record { rates = c.rates; calls = calls; tape = c.tape })) (sym w.same_calls)
