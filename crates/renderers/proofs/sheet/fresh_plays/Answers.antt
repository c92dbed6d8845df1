use Rattle.std.proofs.Common.{◌≡◌, ◌<◌, List, length, map, vec_items, sym, subst, rules, tests}
use Rattle.std.proofs.lemmas.Result.{IfOk-weaker}
use Rattle.std.proofs.lemmas.Iterator.{items_from_collect, YieldsList-from_map, YieldsList-from_slice}
use Rattle.std.proofs.lemmas.Iterator.Adapters.{serves_from_places}
use Rattle.cues.specs.declared.cue.Cue.{Cue}
use Rattle.cues.specs.declared.waiting.WaitingCue.{WaitingCue}
use Rattle.renderers.specs.declared.play.Play.{Play}
use Rattle.renderers.specs.Order.{actual_at, ByRelease, Numbered}
use Rattle.renderers.specs.Sheet.{fresh_play, FinishedWhenReached}
use Rattle.renderers.proofs.Sums.{finished_when_reached}
use Rattle.renderers.proofs.Waits.{place-within}
use Rattle.renderers.proofs.sheet.fresh_plays.Goals as goal

pub collect-requires-clause-can : goal.collect-requires-clause-can
collect-requires-clause-can c =
    let cues = c.args.cues.now in
    let order = c.in_ok-order.order.items in (
      tt,
      serves_from_places (YieldsList-from_slice order cc) (λ x q k. search (rules, tests))
          (λ x k l at.
          let within : x.now.place < length cues =
          subst (λ (w : WaitingCue). w.place < length cues) (sym at) (place-within cues order k x.now c.in_ok-order.ensures l) in
          search rules),
    )

numbered :
    (cues : List Cue) (order : List WaitingCue) (plays : List Play) → ByRelease cues order
    → plays ≡ map (λ waiting. fresh_play (actual_at cues waiting.place)) order → Numbered cues plays × FinishedWhenReached plays
numbered cues order plays by is = (record { order = order; by_release = by; plays_are = is }, finished_when_reached plays)

pub returns : goal.returns
returns c =
    let cues = c.args.cues.now in
    let order = c.in_ok-order.order.items in
    IfOk-weaker _ _ _ (λ plays is. numbered cues order (vec_items plays) c.in_ok-order.ensures is)
    (items_from_collect _ c.collect.ensures.ran
    (YieldsList-from_map _ (λ waiting. fresh_play (actual_at cues waiting.place)) (YieldsList-from_slice order cc) c.map.ensures.closure (λ x r q k. search (rules, tests))))
