use Rattle.std.proofs.Common.{◌≡◌, length, drop, leb, sym, ap, ◌∙◌, subst, rules, tests, arith}
use Rattle.std.specs.List.Sorted.{IsNonDecreasingBy}
use Rattle.std.proofs.lemmas.List.{take_rest}
use Rattle.std.proofs.lemmas.List.Sorted.{IsPartitionedBy-leb, IsPartitionPoint-from_clause}
use Rattle.std.proofs.lemmas.Bool.Decides.{nat_tests}
use Rattle.cues.proofs.loading.Dues.after.Goals as goal

pub returns : goal.returns
returns c =
    let start = c.args.start in
    let dues = c.args.self.now.cues.items in
    let late = c.partition_point-late.result in
    let same : c.as_slice.result.now ≡ dues = c.as_slice.ensures.value in
    let rising = subst (IsNonDecreasingBy (λ due. due.deadline)) (sym same) c.args.self.now.rising in
    let point = IsPartitionPoint-from_clause (λ due. leb due.deadline start) c.as_slice.result.now late c.partition_point-late.ensures.partitioned
    (IsPartitionedBy-leb (λ due. due.deadline) c.as_slice.result.now start rising) (λ a r f' k. search (rules, tests)) in
    let split = rw same at point in (
      late,
      record {
        within = omega (arith, ap length same, c.partition_point-late.ensures.bound);
        over = λ k d lt. let early = split.0 k d (omega arith) lt in grind (arith, nat_tests);
        ahead = λ k d from lt. let over = split.1 k d from lt in grind (arith, nat_tests);
      },
      take_rest c.deref.result.now late ∙ ap (drop late) c.deref.ensures.value,
    )
