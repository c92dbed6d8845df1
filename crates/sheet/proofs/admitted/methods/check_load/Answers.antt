use Rattle.std.proofs.Common.{◌≤◌, subst, arith}
use Rattle.cues.specs.declared.load.Load.{Load}
use Rattle.cues.proofs.Admission.{feasible_from_loading}
use Rattle.sheet.specs.Sheets.{jobs}
use Rattle.sheet.proofs.admitted.methods.check_load.Goals as goal

pub returns-then-load : goal.returns-then-load
returns-then-load c =
    let Fits : Load → Type 0 = λ load. load.demand ≤ load.length in
    let fits : c.from-load.result.demand ≤ c.from-load.result.length = omega arith in
    feasible_from_loading (jobs c.args.sheet.now) _ _ _ _ c.in_ok-loading_factor.ensures (subst Fits c.from-load.ensures fits)
