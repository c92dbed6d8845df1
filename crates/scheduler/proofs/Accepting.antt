-- What an accepted release makes of a day: where the first job then stands.
use Rattle.std.proofs.Common.{◌≡◌, ℕ, ◌<◌, ◌≤◌, cond, ltb, List, [], ◌∷◌, ◌++◌, length, get_or, Some, None, Option, sym, refl, ap, ◌∙◌, arith}
use Rattle.std.proofs.lemmas.List.{length-map, length_push, map_push}
use Rattle.std.proofs.lemmas.Bool.Decides.{nat_tests}
use Rattle.recorder.specs.Page.{Page}
use Rattle.scheduler.specs.declared.job.Job.{Job}
use Rattle.calls.specs.declared.refusal.Refusal.{Refusal}
use Rattle.scheduler.specs.Good.{Numbered}
use Rattle.scheduler.specs.Marks.{or_no_room}
use Rattle.scheduler.specs.Places.{job_before, smallest_place, due_place, first_place}
use Rattle.scheduler.proofs.Smallest.{smallest_push}
use Rattle.scheduler.proofs.Choosing.{dues, due-at, first-within, first-place_some, numbers_low}

-- What is not refused for want of room is not refused for another cause.
pub nothing_else_refused : (page : Page) (wanted : ℕ) (o : Option Refusal) → or_no_room page wanted o ≡ None → o ≡ None
nothing_else_refused page wanted None e = refl
nothing_else_refused page wanted (Some refusal) e = e

by_deadline : (x y : Job) → y.number < x.number → job_before x y ≡ ltb x.deadline y.deadline
by_deadline x y larger = grind (arith, nat_tests)

-- A job with a larger number than any is first if it is before the first, and otherwise that one still is.
pub first-push :
    (js : List Job) (high : ℕ) (j first : Job) → Numbered 0 high js → high < j.number → 0 < length js →
    first ≡ get_or js (due_place js) first →
    first_place (js ++ j ∷ []) ≡ Some (cond (job_before j first) (length js) (due_place js))
first-push js high j first rising larger some at =
    let p = due_place js in
    let within = first-within js some in
    let long = length-map js (λ (q : Job). q.deadline) in
    let due : get_or (dues js) p 0 ≡ first.deadline = due-at js p first within ∙ ap (λ (q : Job). q.deadline) (sym at) in
    let low : first.number ≤ high =
    rw at (numbers_low js 0 high p first rising within) in
    first-place_some (js ++ j ∷ []) (rw length_push (omega arith))
    ∙ ap Some
    (ap smallest_place (map_push (λ (q : Job). q.deadline) js j)
    ∙ smallest_push (dues js) j.deadline (omega arith)
    ∙ ap (λ n. cond (ltb j.deadline n) (length (dues js)) p) due
    ∙ ap (λ b. cond b (length (dues js)) p) (sym (by_deadline j first (omega arith)))
    ∙ ap (λ n. cond (job_before j first) n p) long)
