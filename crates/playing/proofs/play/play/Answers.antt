use Rattle.std.proofs.Common.{◌≡◌, ℕ, ◌+◌, [], ◌∷◌, ◌++◌, length, take, Result, vec_items, vec_len, Vec, sym, ap, ◌∙◌, arith, take_all, rules}
use Rattle.std.specs.declared.alloc.Global.{Global}
use Rattle.calls.specs.declared.call.Reply.{Reply}
use Rattle.calls.specs.declared.refusal.Refusal.{Refusal}
use Rattle.rates.proofs.Tables.{table_is_lawful}
use Rattle.rates.specs.Table.{rates_of}
use Rattle.playing.specs.Exchanges.{exchanges}
use Rattle.scheduler.specs.Model.{model}
use Rattle.playing.proofs.Playing.{exchanges-more, gone_on_as, gone_on_more, played-all}
use Rattle.playing.proofs.play.play.Goals as goal

-- As many answers are held as calls were made, and there is room for all.
answered : (replies : Vec (Result Reply Refusal) Global) (place : ℕ) → vec_len replies ≡ place → length (vec_items replies) ≡ place
answered replies place counted = sym replies.ok.0 ∙ counted

pub loop-call-preserved : goal.loop-call-preserved
loop-call-preserved g c =
    let calls = c.args.calls.now in
    let place = c.loop-call.call-index in
    let old = vec_items c.loop-call.replies in
    let held = answered c.loop-call.replies place c.loop-call.invariant.1 in
    let call = c.answer-reply in
    let pushed : vec_items c.push.new.self ≡ old ++ (call.result ∷ []) = search rules in
    let longer : vec_len c.push.new.self ≡ vec_len c.loop-call.replies + 1 = search rules in
    let more = gone_on_more _ _ _ _ _ _ _ _ _ _ _ _ _ _ (exchanges (take place calls) old) _ call.result c.loop-call.invariant.3 call.ensures.day call.ensures.policy call.ensures.renderer in
    let joined = exchanges-more calls old place _ call.result c.loop-call-test.true held in (
      omega arith,
      longer ∙ ap (λ n. n + 1) c.loop-call.invariant.1,
      omega (arith, c.loop-call.invariant.2, c.push.ensures.capacity),
      gone_on_as (sym (ap (exchanges (take (place + 1) calls)) pushed ∙ joined)) more,
    )

pub returns-clause-day : goal.returns-clause-day
returns-clause-day g c =
    let calls = c.args.calls.now in
    let replies = c.loop-call.replies in
    let opens = c.in_ok-day.ensures in
    let all : take c.loop-call.call-index calls ≡ calls = take_all _ _ c.loop-call-test.false in
    let gone = gone_on_as (ap (λ front. exchanges front (vec_items replies)) all) c.loop-call.invariant.3 in
    played-all
    (rates_of c.args.table) calls (vec_items replies)
    _ _ _ _ _ _ (model c.loop-call.day)
    (table_is_lawful c.args.table) opens.granted opens.fresh opens.recorded (answered replies _ c.loop-call.invariant.1 ∙ omega arith)
    gone.so_far
