-- Words that are read as a script are the words of that script.
use Rattle.std.proofs.Common.{◌≡◌, ℕ, ◌+◌, ◌^◌, ◌<◌, ◌≤◌, min, true, eqb, leb, List, [], ◌∷◌, ◌++◌, map, length, replicate, Some, None, Ok, Err, Option, Result, sym, refl, ap, ◌∙◌, subst, append_assoc, arith}
use Rattle.std.proofs.lemmas.List.{append-nil}
use Rattle.std.proofs.lemmas.Bool.{cond_both, eqb-true, leb-true}
use Rattle.std.specs.List.{AllByRecursion}
use Rattle.words.specs.declared.Kind.TheVariants.{Edition, Deadline, Budget, Spent, Rate, End}
use Rattle.words.specs.Words.{is, payload, word}
use Rattle.words.proofs.WordParts.{word-of_kind, payload-fits}
use Rattle.words.specs.declared.fault.WordFault.{WordFault}
use Rattle.heading.specs.Heading.{Front, head}
use Rattle.heading.proofs.Fronts.{words_of_head}
use Rattle.calls.specs.declared.call.Call.{Call}
use Rattle.calls.specs.declared.call.Call.TheVariants.{Release, Tick}
use Rattle.script.specs.Reading.{Contents, Reading, tape_from, calls_from, behind_head, reading}
use Rattle.script.specs.ScriptWords.{Item, a_release, some_ticks, item_calls, ticks_in, FitsWords, words_behind_rates, WordsOf}

-- The words that are left, behind the rates and the calls before with so many ticks, are some items, the end and the tape.
record CallsRead (rates : List ℕ) (before : List Call) (ticks : ℕ) (left : List ℕ) (c : Contents) : Type 0 where
  items : List Item
  same_rates : c.rates ≡ rates
  same_words : left ≡ words_behind_rates items c.tape
  same_calls : c.calls ≡ before ++ item_calls items
  items_fit : AllByRecursion FitsWords items
  tape_fits : length c.tape < 2 ^ 28
  few_ticks : ticks ≤ 1000000 → ticks + ticks_in items ≤ 1000000

-- A deadline that was read already, in front of the words that are left.
abbrev with_due : Option ℕ → List ℕ → List ℕ
with_due None ws = ws
with_due (Some deadline) ws = word Deadline deadline ∷ ws

abbrev DueFits : Option ℕ → Type 0
DueFits None = Unit {0}
DueFits (Some deadline) = deadline < 2 ^ 28

pub wrong-is_no_script : (place : ℕ) (c : Contents) → ◌≡◌ {A = Reading} (Err place) (Ok c) → ⊥
wrong-is_no_script place c h = let z : ◌≡◌ {A = ℕ} 0 1 = cc in omega arith

same_contents : (a b : Contents) → ◌≡◌ {A = Reading} (Ok a) (Ok b) → a ≡ b
same_contents a b h = cc

-- The end word counts the tape.
end_and_tape : (place : ℕ) (rates : List ℕ) (before : List Call) (ticks w : ℕ) (ws : List ℕ) (c : Contents) → is End w ≡ true → tape_from place (payload w) rates before ws ≡ Ok c → CallsRead rates before ticks (w ∷ ws) c
end_and_tape place rates before ticks w ws c end =
    let held : Contents = record { rates = rates; calls = before; tape = ws } in
    cond_both (eqb (length ws) (payload w)) (Ok held) (Err (place + min (length ws) (payload w))) (λ r. r ≡ Ok c → CallsRead rates before ticks (w ∷ ws) c)
    (λ counted h.
    let count : length ws ≡ payload w = eqb-true _ _ counted in
    subst (λ d. CallsRead rates before ticks (w ∷ ws) d) (same_contents held c h)
    (record {
      items = [];
      same_rates = refl;
      same_words = ap (λ v. v ∷ ws) (word-of_kind End w end ∙ ap (word End) (sym count));
      same_calls = sym (append-nil before);
      items_fit = tt;
      tape_fits = omega (arith, count, payload-fits w);
      few_ticks = λ few. omega arith;
    }))
    (λ _ h. absurd (wrong-is_no_script _ c h))

-- One item more in front.
release_in_front : (rates : List ℕ) (before : List Call) (ticks deadline budget : ℕ) (left : List ℕ) (c : Contents) → deadline < 2 ^ 28 → budget < 2 ^ 28 → CallsRead rates (before ++ (Release deadline budget ∷ [])) ticks left c → CallsRead rates before ticks (word Deadline deadline ∷ (word Budget budget ∷ left)) c
release_in_front rates before ticks deadline budget left c d-fits b-fits r =
    record {
      items = a_release deadline budget ∷ r.items;
      same_rates = r.same_rates;
      same_words = ap (λ ws. word Deadline deadline ∷ (word Budget budget ∷ ws)) r.same_words;
      same_calls = r.same_calls ∙ append_assoc before (Release deadline budget ∷ []) (item_calls r.items);
      items_fit = ((d-fits, b-fits), r.items_fit);
      tape_fits = r.tape_fits;
      few_ticks = r.few_ticks;
    }

ticks-in_front : (rates : List ℕ) (before : List Call) (ticks count : ℕ) (left : List ℕ) (c : Contents) → count < 2 ^ 28 → ticks + count ≤ 1000000 → CallsRead rates (before ++ replicate count Tick) (ticks + count) left c → CallsRead rates before ticks (word Spent count ∷ left) c
ticks-in_front rates before ticks count left c fits few r =
    record {
      items = some_ticks count ∷ r.items;
      same_rates = r.same_rates;
      same_words = ap (λ ws. word Spent count ∷ ws) r.same_words;
      same_calls = r.same_calls ∙ append_assoc before (replicate count Tick) (item_calls r.items);
      items_fit = (fits, r.items_fit);
      tape_fits = r.tape_fits;
      few_ticks = λ _. omega (arith, r.few_ticks few);
    }

calls_read : (place : ℕ) (rates : List ℕ) (before : List Call) (ticks : ℕ) (due : Option ℕ) (ws : List ℕ) (c : Contents) → DueFits due → calls_from place rates before ticks due ws ≡ Ok c → CallsRead rates before ticks (with_due due ws) c
calls_read place rates before ticks due [] c fits = λ h. absurd (wrong-is_no_script _ c h)
calls_read place rates before ticks None (w ∷ ws) c fits =
    cond_both (is End w) _ _ (λ r. r ≡ Ok c → CallsRead rates before ticks (w ∷ ws) c)
    (λ end. end_and_tape (place + 1) rates before ticks w ws c end)
    (λ _. cond_both (is Spent w) _ _ (λ r. r ≡ Ok c → CallsRead rates before ticks (w ∷ ws) c)
    (λ kind. cond_both (leb (ticks + payload w) 1000000) _ _ (λ r. r ≡ Ok c → CallsRead rates before ticks (w ∷ ws) c)
    (λ few h. subst (λ v. CallsRead rates before ticks (v ∷ ws) c) (sym (word-of_kind Spent w kind)) (ticks-in_front rates before ticks (payload w) ws c (payload-fits w) (leb-true _ _ few) (calls_read (place + 1) rates (before ++ replicate (payload w) Tick) (ticks + payload w) None ws c tt h)))
    (λ _ h. absurd (wrong-is_no_script _ c h)))
    (λ _. cond_both (is Deadline w) _ _ (λ r. r ≡ Ok c → CallsRead rates before ticks (w ∷ ws) c)
    (λ kind h. subst (λ v. CallsRead rates before ticks (v ∷ ws) c) (sym (word-of_kind Deadline w kind)) (calls_read (place + 1) rates before ticks (Some (payload w)) ws c (payload-fits w) h))
    (λ _ h. absurd (wrong-is_no_script _ c h))))
calls_read place rates before ticks (Some deadline) (w ∷ ws) c fits =
    cond_both (is Budget w) _ _ (λ r. r ≡ Ok c → CallsRead rates before ticks (word Deadline deadline ∷ (w ∷ ws)) c)
    (λ kind h. subst (λ v. CallsRead rates before ticks (word Deadline deadline ∷ (v ∷ ws)) c) (sym (word-of_kind Budget w kind)) (release_in_front rates before ticks deadline (payload w) ws c fits (payload-fits w) (calls_read (place + 1) rates (before ++ (Release deadline (payload w) ∷ [])) ticks None ws c tt h)))
    (λ _ h. absurd (wrong-is_no_script _ c h))

-- What is read was written.
pub written_where_read : (words : List ℕ) (c : Contents) → reading words ≡ Ok c → WordsOf words c
written_where_read words c = by-head (head words) refl
  where
    by-head : (r : Result Front WordFault) → head words ≡ r → behind_head r ≡ Ok c → WordsOf words c
    by-head (Ok front) same = λ h.
        let w = words_of_head words front same in
        let r = calls_read (1 + length front.rates) front.rates [] 0 None front.rest c tt h in
        record {
          items = r.items;
          same_words =
              w.same_words
              ∙ ap (λ rs. word Edition 1 ∷ (map (word Rate) rs ++ front.rest)) (sym r.same_rates)
              ∙ ap (λ ws. word Edition 1 ∷ (map (word Rate) c.rates ++ ws)) r.same_words;
          same_calls = r.same_calls;
          rates_fit = subst (AllByRecursion (λ rate. rate < 2 ^ 28)) (sym r.same_rates) w.rates_fit;
          items_fit = r.items_fit;
          tape_fits = r.tape_fits;
          few_ticks = omega (arith, r.few_ticks (omega arith));
        }
    by-head (Err fault) same = λ h. absurd (wrong-is_no_script _ c h)
