-- A renderer's count of requests is the number of busy ticks, held at the largest count.
use Rattle.std.proofs.Common.{◌≡◌, ◌+◌, ◌≤◌, min, List, [], ◌∷◌, arith, Ok, Err, Result}
use Rattle.renderers.specs.declared.heard.Heard.{Heard}
use Rattle.calls.specs.declared.call.Call.{Call}
use Rattle.calls.specs.declared.call.Call.TheVariants.{Release, Tick}
use Rattle.calls.specs.declared.call.Reply.{Reply}
use Rattle.calls.specs.declared.call.Reply.TheVariants.{Released, Ticked as ticked_reply}
use Rattle.calls.specs.declared.refusal.Refusal.{Refusal}
use Rattle.calls.specs.declared.ticked.Ticked.{Ticked}
use Rattle.calls.specs.declared.ticked.Ticked.TheVariants.{Idle, Ran as ran}
use Rattle.scheduler.specs.Day.{tick_refusal}
use Rattle.scheduler.specs.Law.{Exchange}
use Rattle.playing.specs.Played.{Recorded, Right, next, AllRight, heard_reply, heard_all, busy_tick, busy_reply, busy}
use Rattle.scheduler.proofs.Accepting.{nothing_else_refused}
use Rattle.playing.proofs.Exchanges.{clock_ticked}
use Rattle.scheduler.proofs.Refines.{ticks}

tick_requests :
    (h : Heard) (t : Ticked)
    → h.requests ≤ 4294967295
    → (heard_reply h (Ok (ticked_reply t))).requests ≡ min (h.requests + busy_reply (Ok (ticked_reply t))) 4294967295
tick_requests h Idle low = omega arith
tick_requests h (ran r) low = omega arith

reply_requests :
    (h : Heard) (reply : Result Reply Refusal)
    → h.requests ≤ 4294967295
    → (heard_reply h reply).requests ≡ min (h.requests + busy_reply reply) 4294967295
reply_requests h (Ok (Released number)) low = omega arith
reply_requests h (Ok (ticked_reply t)) low = tick_requests h t low
reply_requests h (Err refusal) low = omega arith

pub requests_are_busy_ticks :
    (h : Heard) (xs : List Exchange)
    → h.requests ≤ 4294967295
    → (heard_all h xs).requests ≡ min (h.requests + busy xs) 4294967295
requests_are_busy_ticks h [] low = omega arith
requests_are_busy_ticks h (x ∷ xs) low =
    let now : (heard_reply h x.1).requests ≡ min (h.requests + busy_reply x.1) 4294967295 = reply_requests h x.1 low in
    let later : (heard_all (heard_reply h x.1) xs).requests ≡ min ((heard_reply h x.1).requests + busy xs) 4294967295 =
    requests_are_busy_ticks (heard_reply h x.1) xs (omega arith) in
    omega arith

at_most_one : (t : Ticked) → busy_tick t ≤ 1
at_most_one Idle = omega arith
at_most_one (ran r) = omega arith

-- A call raises the clock by no less than the busy ticks that it tells, and never past the last clock.
clock_rises :
    (s : Recorded) (call : Call) (reply : Result Reply Refusal)
    → Right s call reply
    → s.day.clock ≤ 134217727
    → (s.day.clock + busy_reply reply ≤ (next s call reply).day.clock) × ((next s call reply).day.clock ≤ 134217727)
clock_rises s (Release deadline budget) (Ok (Released number)) right low = (omega arith, low)
clock_rises s (Release deadline budget) (Ok (ticked_reply t)) right low = absurd right
clock_rises s (Release deadline budget) (Err refusal) right low = (omega arith, low)
clock_rises s Tick (Ok (Released number)) right low = absurd right
clock_rises s Tick (Ok (ticked_reply t)) right low =
    let one = at_most_one t in
    let later = clock_ticked s.day t right.1 in
    let early = ticks s.day (nothing_else_refused s.page 10 (tick_refusal s.day) right.0) in
    (omega arith, omega arith)
clock_rises s Tick (Err refusal) right low = (omega arith, low)

busy-by_clock : (s : Recorded) (xs : List Exchange) → AllRight s xs → s.day.clock ≤ 134217727 → s.day.clock + busy xs ≤ 134217727
busy-by_clock s [] right low = omega arith
busy-by_clock s (x ∷ xs) right low =
    let first = clock_rises s x.0 x.1 right.0 low in
    let rest = busy-by_clock (next s x.0 x.1) xs right.1 first.1 in
    omega arith

-- No day has so many ticks that the count would be held.
pub requests_from_none :
    (s : Recorded) (h : Heard) (xs : List Exchange)
    → AllRight s xs
    → s.day.clock ≤ 134217727
    → h.requests ≡ 0
    → (heard_all h xs).requests ≡ busy xs
requests_from_none s h xs right low none =
    let few = busy-by_clock s xs right low in
    let held = requests_are_busy_ticks h xs (omega arith) in
    omega arith
