-- Words have a head exactly where edition 1 and the words of its rates stand in front of the rest.
use Rattle.std.proofs.Common.{◌≡◌, ℕ, ◌+◌, ◌^◌, ◌<◌, Bool, true, false, cond, eqb, List, [], ◌∷◌, ◌++◌, map, length, Ok, Err, Result, refl, ap, ◌∙◌, subst, arith, length-append}
use Rattle.std.proofs.lemmas.List.{length-map}
use Rattle.std.proofs.lemmas.Bool.{cond_both, cond-true, cond-false, eqb-true}
use Rattle.std.specs.List.{AllByRecursion}
use Rattle.words.specs.declared.Kind.TheVariants.{Rate}
use Rattle.words.specs.declared.fault.WordFault.{WordFault}
use Rattle.words.specs.declared.fault.WordFault.TheVariants.{Misplaced}
use Rattle.words.specs.Words.{is, begins, payload, word}
use Rattle.words.proofs.WordParts.{is_word, payload-word, payload-fits, word-of_kind}
use Rattle.heading.specs.Heading.{rates_in, behind_rates, Front, head, WordsOf}

fault_is_no_head : (fault : WordFault) (front : Front) → ◌≡◌ {A = Result Front WordFault} (Err fault) (Ok front) → ⊥
fault_is_no_head fault front h = let z : ◌≡◌ {A = ℕ} 0 1 = cc in omega arith

same_front : (a b : Front) → ◌≡◌ {A = Result Front WordFault} (Ok a) (Ok b) → a ≡ b
same_front a b h = cc

rates_then_rest : (ws : List ℕ) → ws ≡ map (word Rate) (rates_in ws) ++ behind_rates ws
rates_then_rest [] = refl
rates_then_rest (w ∷ ws) = by_kind (is Rate w) refl (rates_then_rest ws)
  where
    by_kind : (rate : Bool) → is Rate w ≡ rate → ws ≡ map (word Rate) (rates_in ws) ++ behind_rates ws → w ∷ ws ≡ map (word Rate) (cond rate (payload w ∷ rates_in ws) []) ++ cond rate (behind_rates ws) (w ∷ ws)
    by_kind true kind more = ap (λ v. v ∷ ws) (word-of_kind Rate w kind) ∙ ap (λ vs. word Rate (payload w) ∷ vs) more
    by_kind false kind more = refl

rates_fit_words : (ws : List ℕ) → AllByRecursion (λ rate. rate < 2 ^ 28) (rates_in ws)
rates_fit_words [] = tt
rates_fit_words (w ∷ ws) =
    cond_both (is Rate w) (payload w ∷ rates_in ws) [] (AllByRecursion (λ rate. rate < 2 ^ 28)) (λ _. (payload-fits w, rates_fit_words ws)) (λ _. tt)

no_rate_behind : (ws : List ℕ) → begins Rate (behind_rates ws) ≡ false
no_rate_behind [] = refl
no_rate_behind (w ∷ ws) = cond_both (is Rate w) (behind_rates ws) (w ∷ ws) (λ vs. begins Rate vs ≡ false) (λ _. no_rate_behind ws) (λ other. other)

-- Words that have a head are those of that head.
pub words_of_head : (words : List ℕ) (front : Front) → head words ≡ Ok front → WordsOf words front
words_of_head [] front = λ h. absurd (fault_is_no_head _ front h)
words_of_head (w ∷ ws) front =
    let found : Front = record { rates = rates_in ws; rest = behind_rates ws } in
    cond_both (eqb w 1) (Ok found) (Err Misplaced) (λ r. r ≡ Ok front → WordsOf (w ∷ ws) front)
    (λ edition h. subst (WordsOf (w ∷ ws)) (same_front found front h)
    (record {
      same_words = ap (λ v. v ∷ ws) (eqb-true w 1 edition) ∙ ap (λ vs. 1 ∷ vs) (rates_then_rest ws);
      rates_fit = rates_fit_words ws;
      no_more = no_rate_behind ws;
    }))
    (λ _ h. absurd (fault_is_no_head _ front h))

-- The edition, the rates and the rest are all the words.
pub head-counts : (words : List ℕ) (front : Front) → head words ≡ Ok front → 1 + length front.rates + length front.rest ≡ length words
head-counts words front h =
    let same = ap length (words_of_head words front h).same_words in
    omega (arith, same, length-append (map (word Rate) front.rates) front.rest, length-map front.rates (word Rate))

rates_back : (rates rest : List ℕ) → AllByRecursion (λ rate. rate < 2 ^ 28) rates → begins Rate rest ≡ false → (rates_in (map (word Rate) rates ++ rest) ≡ rates) × (behind_rates (map (word Rate) rates ++ rest) ≡ rest)
rates_back [] [] fit no_more = (refl, refl)
rates_back [] (w ∷ ws) fit no_more = (cond-false _ _ _ no_more, cond-false _ _ _ no_more)
rates_back (rate ∷ rates) rest (fits, fit) no_more =
    let back = rates_back rates rest fit no_more in
    let kind = is_word Rate Rate rate fits in (
      cond-true _ _ _ kind ∙ ap (λ r. r ∷ rates_in (map (word Rate) rates ++ rest)) (payload-word Rate rate fits) ∙ ap (λ rs. rate ∷ rs) back.0,
      cond-true _ _ _ kind ∙ back.1,
    )

-- The words of a head have that head.
pub head-of_words : (words : List ℕ) (front : Front) → WordsOf words front → head words ≡ Ok front
head-of_words words front w =
    let back = rates_back front.rates front.rest w.rates_fit w.no_more in
    ap head w.same_words ∙ rw (back.0, back.1)
