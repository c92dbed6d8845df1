use Rattle.std.proofs.Common.{◌≡◌, ◌≤◌, length, take, vec_items, vec_len, vec_capacity}
use Rattle.playing.specs.Exchanges.{exchanges}
use Rattle.scheduler.specs.Model.{model}
use Rattle.playing.proofs.Playing.{GoneOn}
use Rattle.playing.proofs.play.play.Given as goal

abbrev pub invariant-loop-call : goal.invariant-loop-call
invariant-loop-call g l =
    (l.call-index ≤ length l.calls)
    × (vec_len l.replies ≡ l.call-index)
    × (length l.calls ≤ vec_capacity l.replies)
    × GoneOn
    g.P.Policy.tells
    g.R.Renderer.tells
    (record { day = model l.initial.day; page = g.T.Trace.page l.initial.trace })
    (record { day = model l.day; page = g.T.Trace.page l.trace })
    (g.R.Renderer.meaning l.initial.renderer)
    (g.R.Renderer.meaning l.renderer)
    l.initial.policy
    l.policy
    l.initial.renderer
    l.renderer
    (exchanges (take l.call-index l.calls) (vec_items l.replies))
